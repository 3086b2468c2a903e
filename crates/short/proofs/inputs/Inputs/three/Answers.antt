use Rattle.std.proofs.Common.{[], ◌∷◌, arith}
use Rattle.algebra.proofs.Ring.{Exp, ◌⊕◌, ◌⊖◌, ◌⊗◌}
use Rattle.short.proofs.Lines.{counted, answered, result, fits, product_known, fits_with, written}
use Rattle.short.proofs.Symbols.{cos, sin, x}
use Rattle.short.proofs.inputs.Inputs.three.Goals as goal

abbrev sum : Exp
sum = x 1 ⊕ x 2

abbrev all : Exp
all = cos 0 ⊗ (x 0 ⊕ sum)

abbrev part : Exp
part = (cos 1 ⊖ cos 0) ⊗ sum

abbrev last : Exp
last = sin 1 ⊗ (x 1 ⊖ x 2)

pub overflow_mul-all : goal.overflow_mul-all
overflow_mul-all c = fits c.args.self.now.ready all tt

pub overflow_sub-cos : goal.overflow_sub-cos
overflow_sub-cos c = fits c.args.self.now.ready (cos 1 ⊖ cos 0) tt

pub product-made-requires-clause-room : goal.product-made-requires-clause-room
product-made-requires-clause-room c = fits c.args.self.now.ready part tt

pub product-made-requires-2-clause-room : goal.product-made-requires-2-clause-room
product-made-requires-2-clause-room c = fits c.args.self.now.ready last tt

pub overflow_add-result : goal.overflow_add-result
overflow_add-result c = fits_with c.args.self.now.ready (product_known c.args.self.now.ready part tt c.product-made.ensures ∷ []) (all ⊕ result 0) tt

pub returns : goal.returns
returns c =
    answered (omega (arith, counted c.product-made.ensures, counted c.product-made-2.ensures))
    (written c.args.self.now.ready
    (product_known c.args.self.now.ready part tt c.product-made.ensures
    ∷ product_known c.args.self.now.ready last tt c.product-made-2.ensures
    ∷ [])
    3 c.requires
    (all ∷ (all ⊕ result 0) ∷ result 1 ∷ []) tt)
