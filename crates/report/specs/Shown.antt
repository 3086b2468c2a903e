-- What is shown of a kernel. Assumes nothing.
use Rattle.std.specs.Prelude.{ℕ, ◌^◌, ◌+◌, List, [], ◌∷◌, ℤ, pos, neg_ℤ, Result}
use Rattle.kernel.specs.declared.fault.KernelFault.{KernelFault}
use Rattle.kernel.specs.Meaning.{Meaning}
use Rattle.kernel.specs.Refusal.{answer_of}

-- what a kernel answers to a block that is too short for length 3, to an image that is too long, to the largest reading of a short
-- kernel, to a larger one and to the smallest 64-bit number
abbrev pub limits : Meaning → List (Result ℕ KernelFault)
limits m =
    answer_of m (pos 1 ∷ pos 2 ∷ []) 3
    ∷ answer_of m (pos 1 ∷ pos 2 ∷ pos 3 ∷ []) 4
    ∷ answer_of m (pos 0 ∷ pos (2 ^ 40) ∷ pos 0 ∷ []) 3
    ∷ answer_of m (pos 0 ∷ pos (2 ^ 40 + 1) ∷ pos 0 ∷ []) 3
    ∷ answer_of m (pos 0 ∷ pos 0 ∷ neg_ℤ (pos (2 ^ 63)) ∷ []) 3
    ∷ []

-- a block that is transformed beside its negative
abbrev pub sample : List ℤ
sample = neg_ℤ (pos 3) ∷ pos 14 ∷ pos 1 ∷ neg_ℤ (pos 59) ∷ pos 26 ∷ pos 5 ∷ pos 35 ∷ []
