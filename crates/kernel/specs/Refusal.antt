-- Why a transform is refused, in the order of the checks; and the number, place and layer of each fault. Assumes nothing.
use Rattle.std.specs.Prelude.{ℕ, if◌then◌else◌, List, length, ℤ, Some, None, Ok, Err, Option, Result, ◌==◌, nat_lt, unsigned_abs}
use Rattle.std.specs.List.{position}
use Rattle.std.specs.Option.{option_map}
use Rattle.kernel.specs.declared.fault.Layer.{Layer}
use Rattle.kernel.specs.declared.fault.Layer.TheVariants as at
use Rattle.kernel.specs.declared.fault.Unfit.{Unfit as Unfitness}
use Rattle.kernel.specs.declared.fault.Unfit.TheVariants.{NoShortKernel, SharedDivisor, TooLong, TooMuchGain}
use Rattle.kernel.specs.declared.fault.KernelFault.{KernelFault}
use Rattle.kernel.specs.declared.fault.KernelFault.TheVariants.{Unfit, BlockLength, ImageLength, Reading}
use Rattle.kernel.specs.declared.code.Code.{Code}
use Rattle.kernel.specs.declared.told.Told.{Told}
use Rattle.kernel.specs.Bins.{image}
use Rattle.kernel.specs.Meaning.{Meaning, told}

-- the index of the first reading that is larger in size than the limit
abbrev pub first_above : ℕ → List ℤ → Option ℕ
first_above limit r = position (λ x. nat_lt limit (unsigned_abs x)) r

-- what refuses a block, and an image of length k, of a fit kernel: the block's length, the image's, the first reading above
-- the limit
abbrev pub misfit : Layer → ℕ → ℕ → List ℤ → ℕ → Option KernelFault
misfit layer N limit r k =
    if length r == N
    then (if k == N then option_map (Reading layer) (first_above limit r) else Some (ImageLength layer k))
    else Some (BlockLength layer (length r))

-- an unfit kernel refuses first
abbrev pub unfit_first : Option Unfitness → Option KernelFault → Option KernelFault
unfit_first (Some f) later = Some (Unfit f)
unfit_first None later = later

-- the same by what a kernel tells, and by what it means
abbrev pub refused : Told → Layer → List ℤ → ℕ → Option KernelFault
refused t layer r k = unfit_first t.fault (misfit layer t.length t.limit r k)

abbrev pub refusal : Meaning → List ℤ → ℕ → Option KernelFault
refusal m r k = refused (told m) m.layer r k

-- a call answers x unless it is refused, and a buffer that held `old` then holds `new` unless it is
abbrev pub answered : {X F : Type 0} → X → Option F → Result X F
answered x None = Ok x
answered x (Some f) = Err f

abbrev pub granted : {X F : Type 0} → Option F → X → X → X
granted None new old = new
granted (Some f) new old = old

-- what a transform of the block r answers, and what an image that held `old` then holds
abbrev pub answer_of : Meaning → List ℤ → ℕ → Result ℕ KernelFault
answer_of m r k = answered m.count (refusal m r k)

abbrev pub image_after : Meaning → List ℤ → List ℤ → List ℤ
image_after m r old = granted (refusal m r (length old)) (image m.tables r) old

-- k for a short kernel and p for a product
abbrev pub letter_of : Layer → ℕ
letter_of at.Short = 107
letter_of at.Product = 112

-- the number, the place and the layer's letter of each fault
abbrev pub code : ℕ → ℕ → Layer → Code
code number place layer = record { number = number; place = place; letter = letter_of layer }

abbrev pub code_of : KernelFault → Code
code_of (Unfit (NoShortKernel length)) = code 1 length at.Short
code_of (Unfit (SharedDivisor divisor)) = code 2 divisor at.Product
code_of (Unfit (TooLong length)) = code 3 length at.Product
code_of (Unfit (TooMuchGain gain)) = code 4 gain at.Product
code_of (BlockLength layer length) = code 7 length layer
code_of (ImageLength layer length) = code 8 length layer
code_of (Reading layer index) = code 9 index layer
