use Rattle.std.proofs.Common.{◌≡◌, ℕ, List, [], ◌∷◌, ℤ, pos, arith, lit<}
use Rattle.algebra.proofs.Values.{Known}
use Rattle.algebra.proofs.Words.{run}
use Rattle.tables.specs.declared.scale.Scale.TheVariants.{Standard}
use Rattle.short.specs.Room.{Ready}
use Rattle.short.specs.Short.{short_limit}
use Rattle.algebra.proofs.Ring.{Exp, lit, ◌⊕◌, ◌⊖◌, ◌⊗◌}
use Rattle.short.proofs.Lines.{counted, answered, sizes, result, fits, product_known, fits_with, divides, quotient_known, written}
use Rattle.short.proofs.Symbols.{inputs, cos, sin, x}
use Rattle.short.proofs.inputs.Inputs.five.Goals as goal

abbrev t1 : Exp
t1 = x 1 ⊕ x 4

abbrev t2 : Exp
t2 = x 2 ⊕ x 3

abbrev t3 : Exp
t3 = x 2 ⊖ x 3

abbrev t4 : Exp
t4 = x 1 ⊖ x 4

abbrev sum : Exp
sum = t1 ⊕ t2

abbrev all : Exp
all = cos 0 ⊗ (x 0 ⊕ sum)

abbrev double : Exp
double = lit (pos 2) ⊗ all

abbrev both : Exp
both = (cos 1 ⊕ cos 2 ⊖ lit (pos 2) ⊗ cos 0) ⊗ sum

abbrev apart : Exp
apart = (cos 1 ⊖ cos 2) ⊗ (t1 ⊖ t2)

abbrev turn : Exp
turn = sin 2 ⊗ (t3 ⊕ t4)

abbrev low : Exp
low = (sin 1 ⊕ sin 2) ⊗ t3

abbrev high : Exp
high = (sin 1 ⊖ sin 2) ⊗ t4

abbrev first : Exp
first = cos 0 ⊗ x 0 ⊕ cos 1 ⊗ t1 ⊕ cos 2 ⊗ t2

abbrev second : Exp
second = cos 0 ⊗ x 0 ⊕ cos 2 ⊗ t1 ⊕ cos 1 ⊗ t2

pub overflow_add-sum : goal.overflow_add-sum
overflow_add-sum c = fits c.args.self.now.ready sum tt

pub overflow_add-all : goal.overflow_add-all
overflow_add-all c = fits c.args.self.now.ready (x 0 ⊕ sum) tt

pub overflow_mul-all : goal.overflow_mul-all
overflow_mul-all c = fits c.args.self.now.ready all tt

pub overflow_mul-double : goal.overflow_mul-double
overflow_mul-double c = fits c.args.self.now.ready double tt

pub overflow_add-cos : goal.overflow_add-cos
overflow_add-cos c = fits c.args.self.now.ready (cos 1 ⊕ cos 2) tt

pub overflow_mul-scale : goal.overflow_mul-scale
overflow_mul-scale c = fits c.args.self.now.ready (lit (pos 2) ⊗ cos 0) tt

pub overflow_sub-cos : goal.overflow_sub-cos
overflow_sub-cos c = fits c.args.self.now.ready (cos 1 ⊕ cos 2 ⊖ lit (pos 2) ⊗ cos 0) tt

pub product-made-requires-clause-room : goal.product-made-requires-clause-room
product-made-requires-clause-room c = fits c.args.self.now.ready both tt

pub overflow_sub-cos-2 : goal.overflow_sub-cos-2
overflow_sub-cos-2 c = fits c.args.self.now.ready (cos 1 ⊖ cos 2) tt

pub overflow_sub-t1 : goal.overflow_sub-t1
overflow_sub-t1 c = fits c.args.self.now.ready (t1 ⊖ t2) tt

pub product-made-requires-2-clause-room : goal.product-made-requires-2-clause-room
product-made-requires-2-clause-room c = fits c.args.self.now.ready apart tt

pub overflow_add-t3 : goal.overflow_add-t3
overflow_add-t3 c = fits c.args.self.now.ready (t3 ⊕ t4) tt

pub product-made-requires-3-clause-room : goal.product-made-requires-3-clause-room
product-made-requires-3-clause-room c = fits c.args.self.now.ready turn tt

pub overflow_add-sin : goal.overflow_add-sin
overflow_add-sin c = fits c.args.self.now.ready (sin 1 ⊕ sin 2) tt

pub product-made-requires-4-clause-room : goal.product-made-requires-4-clause-room
product-made-requires-4-clause-room c = fits c.args.self.now.ready low tt

pub overflow_sub-sin : goal.overflow_sub-sin
overflow_sub-sin c = fits c.args.self.now.ready (sin 1 ⊖ sin 2) tt

pub product-made-requires-5-clause-room : goal.product-made-requires-5-clause-room
product-made-requires-5-clause-room c = fits c.args.self.now.ready high tt

-- the bins 1 and 2 come from two products, the bins 3 and 4 from the three others
module _ {r cs ss : List ℤ} (ready : Ready Standard short_limit r cs ss) where
  abbrev lower : {m n : ℕ} {p q : ℕ × ℤ} → p ≡ (m, run (inputs cs ss r) both) → q ≡ (n, run (inputs cs ss r) apart) → List (Known (inputs cs ss r) sizes)
  lower both_is apart_is = product_known ready both tt both_is ∷ product_known ready apart tt apart_is ∷ []

pub overflow_add-double : goal.overflow_add-double
overflow_add-double c = fits_with c.args.self.now.ready (product_known c.args.self.now.ready both tt c.product-made.ensures ∷ []) (double ⊕ result 0) tt

pub overflow_add-double-2 : goal.overflow_add-double-2
overflow_add-double-2 c = fits_with c.args.self.now.ready (lower c.args.self.now.ready c.product-made.ensures c.product-made-2.ensures) (double ⊕ result 0 ⊕ result 1) tt

pub divided-first-requires-clause-exact : goal.divided-first-requires-clause-exact
divided-first-requires-clause-exact c = divides c.args.self.now.ready (lower c.args.self.now.ready c.product-made.ensures c.product-made-2.ensures) 5 c.requires 2 (double ⊕ result 0 ⊕ result 1) first tt tt

pub overflow_add-double-3 : goal.overflow_add-double-3
overflow_add-double-3 c = fits_with c.args.self.now.ready (product_known c.args.self.now.ready both tt c.product-made.ensures ∷ []) (double ⊕ result 0) tt

pub overflow_sub-double : goal.overflow_sub-double
overflow_sub-double c = fits_with c.args.self.now.ready (lower c.args.self.now.ready c.product-made.ensures c.product-made-2.ensures) (double ⊕ result 0 ⊖ result 1) tt

pub divided-second-requires-clause-exact : goal.divided-second-requires-clause-exact
divided-second-requires-clause-exact c = divides c.args.self.now.ready (lower c.args.self.now.ready c.product-made.ensures c.product-made-2.ensures) 5 c.requires 2 (double ⊕ result 0 ⊖ result 1) second tt tt

pub overflow_sub-result : goal.overflow_sub-result
overflow_sub-result c = fits_with c.args.self.now.ready (product_known c.args.self.now.ready turn tt c.product-made-3.ensures ∷ product_known c.args.self.now.ready low tt c.product-made-4.ensures ∷ []) (result 0 ⊖ result 1) tt

pub overflow_add-result : goal.overflow_add-result
overflow_add-result c = fits_with c.args.self.now.ready (product_known c.args.self.now.ready turn tt c.product-made-3.ensures ∷ product_known c.args.self.now.ready high tt c.product-made-5.ensures ∷ []) (result 0 ⊕ result 1) tt

pub returns : goal.returns
returns c =
    let ready = c.args.self.now.ready in
    let products = lower ready c.product-made.ensures c.product-made-2.ensures in
    answered (omega (arith, counted c.product-made.ensures, counted c.product-made-2.ensures, counted c.product-made-3.ensures, counted c.product-made-4.ensures, counted c.product-made-5.ensures))
    (written ready
    (quotient_known ready products 5 c.requires 2 (double ⊕ result 0 ⊕ result 1) first tt tt c.divided-first.result (lit< tt) tt c.divided-first.ensures
    ∷ quotient_known ready products 5 c.requires 2 (double ⊕ result 0 ⊖ result 1) second tt tt c.divided-second.result (lit< tt) tt c.divided-second.ensures
    ∷ product_known ready turn tt c.product-made-3.ensures
    ∷ product_known ready low tt c.product-made-4.ensures
    ∷ product_known ready high tt c.product-made-5.ensures
    ∷ [])
    5 c.requires
    (all ∷ result 0 ∷ result 1 ∷ (result 2 ⊖ result 3) ∷ (result 2 ⊕ result 4) ∷ []) tt)
