use Rattle.std.proofs.Common.{[], ◌∷◌, arith}
use Rattle.algebra.proofs.Ring.{Exp, ◌⊕◌, ◌⊖◌, ◌⊗◌}
use Rattle.short.proofs.Lines.{counted, answered, result, fits, product_known, fits_with, written}
use Rattle.short.proofs.Symbols.{cos, sin, x}
use Rattle.short.proofs.inputs.Inputs.six.Goals as goal

abbrev step : Exp
step = cos 2 ⊖ cos 0

abbrev u0 : Exp
u0 = x 0 ⊕ x 3

abbrev w0 : Exp
w0 = x 0 ⊖ x 3

abbrev u1 : Exp
u1 = x 1 ⊕ x 4

abbrev w1 : Exp
w1 = x 4 ⊖ x 1

abbrev u2 : Exp
u2 = x 2 ⊕ x 5

abbrev w2 : Exp
w2 = x 2 ⊖ x 5

abbrev even : Exp
even = u1 ⊕ u2

abbrev odd : Exp
odd = w1 ⊕ w2

abbrev near : Exp
near = step ⊗ odd

abbrev far : Exp
far = step ⊗ even

abbrev low : Exp
low = sin 1 ⊗ (u1 ⊖ u2)

abbrev high : Exp
high = sin 1 ⊗ (w2 ⊖ w1)

abbrev all : Exp
all = cos 0 ⊗ (u0 ⊕ even)

abbrev middle : Exp
middle = cos 0 ⊗ (w0 ⊕ odd)

pub overflow_sub-step : goal.overflow_sub-step
overflow_sub-step c = fits c.args.self.now.ready step tt

pub overflow_add-even : goal.overflow_add-even
overflow_add-even c = fits c.args.self.now.ready even tt

pub overflow_add-odd : goal.overflow_add-odd
overflow_add-odd c = fits c.args.self.now.ready odd tt

pub product-made-requires-clause-room : goal.product-made-requires-clause-room
product-made-requires-clause-room c = fits c.args.self.now.ready near tt

pub product-made-requires-2-clause-room : goal.product-made-requires-2-clause-room
product-made-requires-2-clause-room c = fits c.args.self.now.ready far tt

pub overflow_sub-u1 : goal.overflow_sub-u1
overflow_sub-u1 c = fits c.args.self.now.ready (u1 ⊖ u2) tt

pub product-made-requires-3-clause-room : goal.product-made-requires-3-clause-room
product-made-requires-3-clause-room c = fits c.args.self.now.ready low tt

pub overflow_sub-w2-2 : goal.overflow_sub-w2-2
overflow_sub-w2-2 c = fits c.args.self.now.ready (w2 ⊖ w1) tt

pub product-made-requires-4-clause-room : goal.product-made-requires-4-clause-room
product-made-requires-4-clause-room c = fits c.args.self.now.ready high tt

pub overflow_add-all : goal.overflow_add-all
overflow_add-all c = fits c.args.self.now.ready (u0 ⊕ even) tt

pub overflow_mul-all : goal.overflow_mul-all
overflow_mul-all c = fits c.args.self.now.ready all tt

pub overflow_add-middle : goal.overflow_add-middle
overflow_add-middle c = fits c.args.self.now.ready (w0 ⊕ odd) tt

pub overflow_mul-middle : goal.overflow_mul-middle
overflow_mul-middle c = fits c.args.self.now.ready middle tt

pub overflow_add-result : goal.overflow_add-result
overflow_add-result c = fits_with c.args.self.now.ready (product_known c.args.self.now.ready near tt c.product-made.ensures ∷ []) (middle ⊕ result 0) tt

pub overflow_add-result-2 : goal.overflow_add-result-2
overflow_add-result-2 c = fits_with c.args.self.now.ready (product_known c.args.self.now.ready far tt c.product-made-2.ensures ∷ []) (all ⊕ result 0) tt

pub returns : goal.returns
returns c =
    answered (omega (arith, counted c.product-made.ensures, counted c.product-made-2.ensures, counted c.product-made-3.ensures, counted c.product-made-4.ensures))
    (written c.args.self.now.ready
    (product_known c.args.self.now.ready near tt c.product-made.ensures
    ∷ product_known c.args.self.now.ready far tt c.product-made-2.ensures
    ∷ product_known c.args.self.now.ready low tt c.product-made-3.ensures
    ∷ product_known c.args.self.now.ready high tt c.product-made-4.ensures
    ∷ [])
    6 c.requires
    (all ∷ (middle ⊕ result 0) ∷ (all ⊕ result 1) ∷ middle ∷ result 2 ∷ result 3 ∷ []) tt)
