use Rattle.std.proofs.Common.{[], ◌∷◌, refl}
use Rattle.algebra.proofs.Ring.{Exp, ◌⊕◌, ◌⊖◌, ◌⊗◌}
use Rattle.short.proofs.Lines.{answered, fits, written}
use Rattle.short.proofs.Symbols.{cos, x}
use Rattle.short.proofs.inputs.Inputs.four.Goals as goal

abbrev even : Exp
even = x 0 ⊕ x 2

abbrev gap : Exp
gap = x 0 ⊖ x 2

abbrev odd : Exp
odd = x 1 ⊕ x 3

abbrev side : Exp
side = x 1 ⊖ x 3

pub overflow_add-bins : goal.overflow_add-bins
overflow_add-bins c = fits c.args.self.now.ready (even ⊕ odd) tt

pub overflow_mul-bins : goal.overflow_mul-bins
overflow_mul-bins c = fits c.args.self.now.ready (cos 0 ⊗ (even ⊕ odd)) tt

pub overflow_mul-bins-2 : goal.overflow_mul-bins-2
overflow_mul-bins-2 c = fits c.args.self.now.ready (cos 0 ⊗ gap) tt

pub overflow_sub-bins : goal.overflow_sub-bins
overflow_sub-bins c = fits c.args.self.now.ready (even ⊖ odd) tt

pub overflow_mul-bins-3 : goal.overflow_mul-bins-3
overflow_mul-bins-3 c = fits c.args.self.now.ready (cos 0 ⊗ (even ⊖ odd)) tt

pub overflow_mul-bins-4 : goal.overflow_mul-bins-4
overflow_mul-bins-4 c = fits c.args.self.now.ready (cos 0 ⊗ side) tt

pub returns : goal.returns
returns c =
    answered (refl)
    (written c.args.self.now.ready [] 4 c.requires
    (cos 0 ⊗ (even ⊕ odd) ∷ cos 0 ⊗ gap ∷ cos 0 ⊗ (even ⊖ odd) ∷ cos 0 ⊗ side ∷ []) tt)
