use Rattle.std.proofs.Common.{[], ◌∷◌, arith}
use Rattle.algebra.proofs.Ring.{Exp, ◌⊕◌, ◌⊖◌, ◌⊗◌}
use Rattle.short.proofs.Lines.{counted, answered, result, fits, product_known, fits_with, written}
use Rattle.short.proofs.Symbols.{cos, sin, x}
use Rattle.short.proofs.inputs.Inputs.eight.Goals as goal

abbrev even : Exp
even = x 0 ⊕ x 4

abbrev gap : Exp
gap = x 0 ⊖ x 4

abbrev t1 : Exp
t1 = x 1 ⊕ x 7

abbrev d1 : Exp
d1 = x 1 ⊖ x 7

abbrev t2 : Exp
t2 = x 2 ⊕ x 6

abbrev d2 : Exp
d2 = x 2 ⊖ x 6

abbrev t3 : Exp
t3 = x 3 ⊕ x 5

abbrev d3 : Exp
d3 = x 3 ⊖ x 5

abbrev base : Exp
base = cos 0 ⊗ gap

abbrev side : Exp
side = cos 0 ⊗ d2

abbrev cross : Exp
cross = cos 1 ⊗ (t1 ⊖ t3)

abbrev turn : Exp
turn = sin 1 ⊗ (d1 ⊕ d3)

pub overflow_mul-base : goal.overflow_mul-base
overflow_mul-base c = fits c.args.self.now.ready base tt

pub overflow_mul-side : goal.overflow_mul-side
overflow_mul-side c = fits c.args.self.now.ready side tt

pub overflow_sub-t1 : goal.overflow_sub-t1
overflow_sub-t1 c = fits c.args.self.now.ready (t1 ⊖ t3) tt

pub product-made-requires-clause-room : goal.product-made-requires-clause-room
product-made-requires-clause-room c = fits c.args.self.now.ready cross tt

pub overflow_add-d1 : goal.overflow_add-d1
overflow_add-d1 c = fits c.args.self.now.ready (d1 ⊕ d3) tt

pub product-made-requires-2-clause-room : goal.product-made-requires-2-clause-room
product-made-requires-2-clause-room c = fits c.args.self.now.ready turn tt

pub overflow_add-bins : goal.overflow_add-bins
overflow_add-bins c = fits c.args.self.now.ready (even ⊕ t2) tt

pub overflow_add-bins-2 : goal.overflow_add-bins-2
overflow_add-bins-2 c = fits c.args.self.now.ready (t1 ⊕ t3) tt

pub overflow_add-bins-3 : goal.overflow_add-bins-3
overflow_add-bins-3 c = fits c.args.self.now.ready (even ⊕ t2 ⊕ (t1 ⊕ t3)) tt

pub overflow_mul-bins : goal.overflow_mul-bins
overflow_mul-bins c = fits c.args.self.now.ready (cos 0 ⊗ (even ⊕ t2 ⊕ (t1 ⊕ t3))) tt

pub overflow_add-bins-4 : goal.overflow_add-bins-4
overflow_add-bins-4 c = fits_with c.args.self.now.ready (product_known c.args.self.now.ready cross tt c.product-made.ensures ∷ []) (base ⊕ result 0) tt

pub overflow_sub-bins : goal.overflow_sub-bins
overflow_sub-bins c = fits c.args.self.now.ready (even ⊖ t2) tt

pub overflow_mul-bins-2 : goal.overflow_mul-bins-2
overflow_mul-bins-2 c = fits c.args.self.now.ready (cos 0 ⊗ (even ⊖ t2)) tt

pub overflow_sub-bins-2 : goal.overflow_sub-bins-2
overflow_sub-bins-2 c = fits_with c.args.self.now.ready (product_known c.args.self.now.ready cross tt c.product-made.ensures ∷ []) (base ⊖ result 0) tt

pub overflow_add-bins-5 : goal.overflow_add-bins-5
overflow_add-bins-5 c = fits c.args.self.now.ready (even ⊕ t2) tt

pub overflow_add-bins-6 : goal.overflow_add-bins-6
overflow_add-bins-6 c = fits c.args.self.now.ready (t1 ⊕ t3) tt

pub overflow_sub-bins-3 : goal.overflow_sub-bins-3
overflow_sub-bins-3 c = fits c.args.self.now.ready (even ⊕ t2 ⊖ (t1 ⊕ t3)) tt

pub overflow_mul-bins-3 : goal.overflow_mul-bins-3
overflow_mul-bins-3 c = fits c.args.self.now.ready (cos 0 ⊗ (even ⊕ t2 ⊖ (t1 ⊕ t3))) tt

pub overflow_sub-bins-4 : goal.overflow_sub-bins-4
overflow_sub-bins-4 c = fits_with c.args.self.now.ready (product_known c.args.self.now.ready turn tt c.product-made-2.ensures ∷ []) (result 0 ⊖ side) tt

pub overflow_sub-bins-5 : goal.overflow_sub-bins-5
overflow_sub-bins-5 c = fits c.args.self.now.ready (d1 ⊖ d3) tt

pub overflow_mul-bins-4 : goal.overflow_mul-bins-4
overflow_mul-bins-4 c = fits c.args.self.now.ready (cos 0 ⊗ (d1 ⊖ d3)) tt

pub overflow_add-bins-7 : goal.overflow_add-bins-7
overflow_add-bins-7 c = fits_with c.args.self.now.ready (product_known c.args.self.now.ready turn tt c.product-made-2.ensures ∷ []) (result 0 ⊕ side) tt

pub returns : goal.returns
returns c =
    answered (omega (arith, counted c.product-made.ensures, counted c.product-made-2.ensures))
    (written c.args.self.now.ready
    (product_known c.args.self.now.ready cross tt c.product-made.ensures
    ∷ product_known c.args.self.now.ready turn tt c.product-made-2.ensures
    ∷ [])
    8 c.requires
    (cos 0 ⊗ (even ⊕ t2 ⊕ (t1 ⊕ t3)) ∷ (base ⊕ result 0) ∷ cos 0 ⊗ (even ⊖ t2) ∷ (base ⊖ result 0) ∷ cos 0 ⊗ (even ⊕ t2 ⊖ (t1 ⊕ t3))
    ∷ (result 1 ⊖ side) ∷ cos 0 ⊗ (d1 ⊖ d3) ∷ (result 1 ⊕ side) ∷ []) tt)
