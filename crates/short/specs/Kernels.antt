-- What a short kernel was made for, and which length its method serves. Assumes nothing.
use Rattle.std.specs.Prelude.{ℕ}
use Rattle.short.specs.declared.direct.Sums.{Sums}
use Rattle.short.specs.declared.short_kernel.ShortKernel.{ShortKernel}

-- the length that a kernel was made for, fit or not
abbrev pub short_length : {M : Type 0} → ShortKernel M → ℕ
short_length kernel = kernel.length

-- the length whose sums are worked
abbrev pub sums_length : Sums → ℕ
sums_length sums = sums.length
