use Rattle.std.proofs.Common.{List, [], ◌∷◌, ◌++◌, arith}
use Rattle.algebra.proofs.Ring.{Exp, ◌⊕◌, ◌⊖◌, ◌⊗◌, neg}
use Rattle.short.proofs.Lines.{counted, answered, result, fits, turnable, turns_known, fits_with, written}
use Rattle.short.proofs.Symbols.{cos, sin, x}
use Rattle.short.proofs.inputs.Inputs.seven.Goals as goal

abbrev t1 : Exp
t1 = x 1 ⊕ x 6

abbrev t2 : Exp
t2 = x 2 ⊕ x 5

abbrev t3 : Exp
t3 = x 3 ⊕ x 4

abbrev t4 : Exp
t4 = x 4 ⊖ x 3

abbrev t5 : Exp
t5 = x 2 ⊖ x 5

abbrev t6 : Exp
t6 = x 1 ⊖ x 6

abbrev all : Exp
all = cos 0 ⊗ (x 0 ⊕ t1 ⊕ t2 ⊕ t3)

abbrev steps : List Exp
steps = (cos 1 ⊖ cos 0) ∷ (cos 2 ⊖ cos 0) ∷ (cos 3 ⊖ cos 0) ∷ []

abbrev sums : List Exp
sums = t1 ∷ t2 ∷ t3 ∷ []

abbrev sines : List Exp
sines = sin 1 ∷ sin 2 ∷ sin 4 ∷ []

abbrev differences : List Exp
differences = t6 ∷ t5 ∷ t4 ∷ []

pub overflow_add-all : goal.overflow_add-all
overflow_add-all c = fits c.args.self.now.ready (x 0 ⊕ t1) tt

pub overflow_add-all-2 : goal.overflow_add-all-2
overflow_add-all-2 c = fits c.args.self.now.ready (x 0 ⊕ t1 ⊕ t2) tt

pub overflow_add-all-3 : goal.overflow_add-all-3
overflow_add-all-3 c = fits c.args.self.now.ready (x 0 ⊕ t1 ⊕ t2 ⊕ t3) tt

pub overflow_mul-all : goal.overflow_mul-all
overflow_mul-all c = fits c.args.self.now.ready all tt

pub overflow_sub-steps : goal.overflow_sub-steps
overflow_sub-steps c = fits c.args.self.now.ready (cos 1 ⊖ cos 0) tt

pub overflow_sub-steps-2 : goal.overflow_sub-steps-2
overflow_sub-steps-2 c = fits c.args.self.now.ready (cos 2 ⊖ cos 0) tt

pub overflow_sub-steps-3 : goal.overflow_sub-steps-3
overflow_sub-steps-3 c = fits c.args.self.now.ready (cos 3 ⊖ cos 0) tt

pub turned-made-requires-clause-small : goal.turned-made-requires-clause-small
turned-made-requires-clause-small c = turnable c.args.self.now.ready steps sums tt tt

pub turned-made-requires-2-clause-small : goal.turned-made-requires-2-clause-small
turned-made-requires-2-clause-small c = turnable c.args.self.now.ready sines differences tt tt

pub overflow_add-bins : goal.overflow_add-bins
overflow_add-bins c = fits_with c.args.self.now.ready (turns_known c.args.self.now.ready steps sums tt c.turned-made.ensures) (all ⊕ result 0) tt

pub overflow_add-bins-2 : goal.overflow_add-bins-2
overflow_add-bins-2 c = fits_with c.args.self.now.ready (turns_known c.args.self.now.ready steps sums tt c.turned-made.ensures) (all ⊕ result 1) tt

pub overflow_add-bins-3 : goal.overflow_add-bins-3
overflow_add-bins-3 c = fits_with c.args.self.now.ready (turns_known c.args.self.now.ready steps sums tt c.turned-made.ensures) (all ⊕ result 2) tt

pub overflow_sub-bins : goal.overflow_sub-bins
overflow_sub-bins c = fits_with c.args.self.now.ready (turns_known c.args.self.now.ready sines differences tt c.turned-made-2.ensures) (neg (result 2)) tt

pub returns : goal.returns
returns c =
    answered (omega (arith, counted c.turned-made.ensures, counted c.turned-made-2.ensures))
    (written c.args.self.now.ready
    (turns_known c.args.self.now.ready steps sums tt c.turned-made.ensures ++ turns_known c.args.self.now.ready sines differences tt c.turned-made-2.ensures)
    7 c.requires
    (all ∷ (all ⊕ result 0) ∷ (all ⊕ result 1) ∷ (all ⊕ result 2) ∷ neg (result 5) ∷ result 4 ∷ result 3 ∷ []) tt)
