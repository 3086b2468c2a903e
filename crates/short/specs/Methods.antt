-- Which method serves a length. Assumes nothing.
use Rattle.std.specs.Prelude.{◌≡◌, ℕ, true, false, Ok, Err, Result}
use Rattle.kernel.specs.declared.fault.Unfit.{Unfit}
use Rattle.kernel.specs.declared.fault.Unfit.TheVariants.{NoShortKernel}
use Rattle.tables.specs.Entries.{is_short}
use Rattle.short.specs.declared.fast.Algorithm.{Algorithm}
use Rattle.short.specs.declared.fast.Algorithm.TheVariants.{Three, Four, Five, Six, Seven, Eight, Nine}

-- a method that serves the length, or the fault of a length that no short kernel has
abbrev pub Chosen : {M : Type 0} → (M → ℕ) → ℕ → Result M Unfit → Type 0
Chosen serves N (Ok method) = (is_short N ≡ true) × (serves method ≡ N)
Chosen serves N (Err unfit) = (is_short N ≡ false) × (unfit ≡ NoShortKernel N)

-- the length of each algorithm
abbrev pub length_of : Algorithm → ℕ
length_of Three = 3
length_of Four = 4
length_of Five = 5
length_of Six = 6
length_of Seven = 7
length_of Eight = 8
length_of Nine = 9
