-- What prints of faults and figures. Assumes nothing.
use Rattle.std.specs.Prelude.{ℕ, List, ◌++◌, codes, encode_utf8, Some, None, Option}
use Rattle.std.specs.Fmt.{decimal}
use Rattle.kernel.specs.declared.code.Code.{Code}
use Rattle.kernel.specs.declared.told.Told.{Told}
use Rattle.kernel.specs.Refusal.{code_of}
use Rattle.kernel.specs.declared.fault.Unfit.{Unfit as Unfitness}
use Rattle.kernel.specs.declared.fault.KernelFault.{KernelFault}
use Rattle.kernel.specs.declared.fault.KernelFault.TheVariants.{Unfit}

-- number 9, place 1, layer k
abbrev pub code_text : Code → List ℕ
code_text code = codes "number " ++ (decimal code.number ++ (codes ", place " ++ (decimal code.place ++ (codes ", layer " ++ encode_utf8 code.letter))))

abbrev pub fault_text : KernelFault → List ℕ
fault_text fault = code_text (code_of fault)

abbrev pub unfit_text : Unfitness → List ℕ
unfit_text unfit = fault_text (Unfit unfit)

-- gain 16384, limit 1099511627776, scale 16384, 9 products; or why there are none
abbrev pub figures_text : Option Unfitness → ℕ → ℕ → ℕ → ℕ → List ℕ
figures_text (Some unfit) gain limit scale count = unfit_text unfit
figures_text None gain limit scale count =
    codes "gain " ++ (decimal gain ++ (codes ", limit " ++ (decimal limit ++ (codes ", scale " ++ (decimal scale ++ (codes ", " ++ (decimal count ++ codes " products")))))))

abbrev pub told_text : Told → List ℕ
told_text told = figures_text told.fault told.gain told.limit told.scale told.count
