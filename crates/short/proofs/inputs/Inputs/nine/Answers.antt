use Rattle.std.proofs.Common.{◌≡◌, ℕ, List, [], ◌∷◌, ◌++◌, length, ℤ, pos, ◌*ℤ◌, arith, lit<}
use Rattle.algebra.proofs.Values.{Known}
use Rattle.algebra.proofs.Words.{word, run}
use Rattle.tables.specs.declared.scale.Scale.TheVariants.{Standard}
use Rattle.short.specs.Room.{Ready, turns}
use Rattle.short.specs.Short.{short_limit}
use Rattle.algebra.proofs.Ring.{Exp, lit, ◌⊕◌, ◌⊖◌, ◌⊗◌, neg}
use Rattle.short.proofs.Lines.{counted, answered, sizes, outputs, result, fits, product_known, turnable, turns_known, fits_with, divides, quotient_known, written}
use Rattle.short.proofs.Symbols.{inputs, cos, sin, x}
use Rattle.short.proofs.inputs.Inputs.nine.Goals as goal

abbrev t1 : Exp
t1 = x 1 ⊕ x 8

abbrev t2 : Exp
t2 = x 2 ⊕ x 7

abbrev t3 : Exp
t3 = x 3 ⊕ x 6

abbrev t4 : Exp
t4 = x 4 ⊕ x 5

abbrev t5 : Exp
t5 = x 4 ⊖ x 5

abbrev t6 : Exp
t6 = x 3 ⊖ x 6

abbrev t7 : Exp
t7 = x 7 ⊖ x 2

abbrev t8 : Exp
t8 = x 1 ⊖ x 8

abbrev thirds : Exp
thirds = x 0 ⊕ t3

abbrev rest : Exp
rest = t1 ⊕ t2 ⊕ t4

abbrev cosines : List Exp
cosines = cos 1 ∷ cos 2 ∷ cos 4 ∷ []

abbrev sums : List Exp
sums = t1 ∷ t2 ∷ t4 ∷ []

abbrev sines : List Exp
sines = sin 1 ∷ sin 7 ∷ sin 4 ∷ []

abbrev differences : List Exp
differences = t7 ∷ t5 ∷ t8 ∷ []

abbrev side : Exp
side = sin 3 ⊗ t6

abbrev sixth : Exp
sixth = sin 3 ⊗ (t7 ⊕ t5 ⊕ t8)

abbrev base2 : Exp
base2 = cos 0 ⊗ (lit (pos 2) ⊗ x 0 ⊖ t3)

abbrev base : Exp
base = cos 0 ⊗ x 0 ⊕ cos 3 ⊗ t3

abbrev third2 : Exp
third2 = cos 0 ⊗ (lit (pos 2) ⊗ thirds ⊖ rest)

abbrev third : Exp
third = cos 0 ⊗ thirds ⊕ cos 3 ⊗ rest

pub overflow_add-thirds : goal.overflow_add-thirds
overflow_add-thirds c = fits c.args.self.now.ready thirds tt

pub overflow_add-rest : goal.overflow_add-rest
overflow_add-rest c = fits c.args.self.now.ready (t1 ⊕ t2) tt

pub overflow_add-rest-2 : goal.overflow_add-rest-2
overflow_add-rest-2 c = fits c.args.self.now.ready rest tt

pub turned-made-requires-clause-small : goal.turned-made-requires-clause-small
turned-made-requires-clause-small c = turnable c.args.self.now.ready cosines sums tt tt

pub turned-made-requires-2-clause-small : goal.turned-made-requires-2-clause-small
turned-made-requires-2-clause-small c = turnable c.args.self.now.ready sines differences tt tt

pub product-made-requires-clause-room : goal.product-made-requires-clause-room
product-made-requires-clause-room c = fits c.args.self.now.ready side tt

pub overflow_add-t7 : goal.overflow_add-t7
overflow_add-t7 c = fits c.args.self.now.ready (t7 ⊕ t5) tt

pub overflow_add-t7-2 : goal.overflow_add-t7-2
overflow_add-t7-2 c = fits c.args.self.now.ready (t7 ⊕ t5 ⊕ t8) tt

pub product-made-requires-2-clause-room : goal.product-made-requires-2-clause-room
product-made-requires-2-clause-room c = fits c.args.self.now.ready sixth tt

pub overflow_mul-x : goal.overflow_mul-x
overflow_mul-x c = fits c.args.self.now.ready (lit (pos 2) ⊗ x 0) tt

pub overflow_sub-x : goal.overflow_sub-x
overflow_sub-x c = fits c.args.self.now.ready (lit (pos 2) ⊗ x 0 ⊖ t3) tt

pub overflow_mul-scale : goal.overflow_mul-scale
overflow_mul-scale c = fits c.args.self.now.ready base2 tt

pub divided-base-requires-clause-exact : goal.divided-base-requires-clause-exact
divided-base-requires-clause-exact c = divides c.args.self.now.ready [] 9 c.requires 2 base2 base tt tt

pub overflow_mul-thirds : goal.overflow_mul-thirds
overflow_mul-thirds c = fits c.args.self.now.ready (lit (pos 2) ⊗ thirds) tt

pub overflow_sub-thirds : goal.overflow_sub-thirds
overflow_sub-thirds c = fits c.args.self.now.ready (lit (pos 2) ⊗ thirds ⊖ rest) tt

pub overflow_mul-scale-2 : goal.overflow_mul-scale-2
overflow_mul-scale-2 c = fits c.args.self.now.ready third2 tt

pub divided-third-requires-clause-exact : goal.divided-third-requires-clause-exact
divided-third-requires-clause-exact c = divides c.args.self.now.ready [] 9 c.requires 2 third2 third tt tt

pub overflow_add-bins : goal.overflow_add-bins
overflow_add-bins c = fits c.args.self.now.ready (thirds ⊕ rest) tt

pub overflow_mul-bins : goal.overflow_mul-bins
overflow_mul-bins c = fits c.args.self.now.ready (cos 0 ⊗ (thirds ⊕ rest)) tt

-- the bins 1, 2 and 4 come from half of base2 and the cosines, the bins 5, 7 and 8 from a product and the sines
module _ {r cs ss : List ℤ} (ready : Ready Standard short_limit r cs ss) (whole : length r ≡ 9) where
  abbrev half : (z : ℤ) → word (run (inputs cs ss r) base2) ≡ pos 2 *ℤ z → Known (inputs cs ss r) sizes
  half z is = quotient_known ready [] 9 whole 2 base2 base tt tt z (lit< tt) tt is

  abbrev lower : (z : ℤ) {count : ℕ} {p : ℕ × List ℤ} → word (run (inputs cs ss r) base2) ≡ pos 2 *ℤ z
      → p ≡ (count, turns (outputs (inputs cs ss r) cosines) (outputs (inputs cs ss r) sums)) → List (Known (inputs cs ss r) sizes)
  lower z half_is turns_are = half z half_is ∷ turns_known ready cosines sums tt turns_are

  abbrev upper : {count n : ℕ} {p : ℕ × ℤ} {q : ℕ × List ℤ} → p ≡ (count, run (inputs cs ss r) side)
      → q ≡ (n, turns (outputs (inputs cs ss r) sines) (outputs (inputs cs ss r) differences)) → List (Known (inputs cs ss r) sizes)
  upper side_is turns_are = product_known ready side tt side_is ∷ turns_known ready sines differences tt turns_are

pub overflow_add-bins-2 : goal.overflow_add-bins-2
overflow_add-bins-2 c = fits_with c.args.self.now.ready (lower c.args.self.now.ready c.requires c.divided-base.result c.divided-base.ensures c.turned-made.ensures) (result 0 ⊕ result 1) tt

pub overflow_add-bins-3 : goal.overflow_add-bins-3
overflow_add-bins-3 c = fits_with c.args.self.now.ready (lower c.args.self.now.ready c.requires c.divided-base.result c.divided-base.ensures c.turned-made.ensures) (result 0 ⊕ result 2) tt

pub overflow_add-bins-4 : goal.overflow_add-bins-4
overflow_add-bins-4 c = fits_with c.args.self.now.ready (lower c.args.self.now.ready c.requires c.divided-base.result c.divided-base.ensures c.turned-made.ensures) (result 0 ⊕ result 3) tt

pub overflow_add-bins-5 : goal.overflow_add-bins-5
overflow_add-bins-5 c = fits_with c.args.self.now.ready (upper c.args.self.now.ready c.requires c.product-made.ensures c.turned-made-2.ensures) (result 0 ⊕ result 1) tt

pub overflow_add-bins-6 : goal.overflow_add-bins-6
overflow_add-bins-6 c = fits_with c.args.self.now.ready (upper c.args.self.now.ready c.requires c.product-made.ensures c.turned-made-2.ensures) (result 0 ⊕ result 3) tt

pub overflow_add-bins-7 : goal.overflow_add-bins-7
overflow_add-bins-7 c = fits_with c.args.self.now.ready (upper c.args.self.now.ready c.requires c.product-made.ensures c.turned-made-2.ensures) (result 0 ⊕ result 2) tt

pub overflow_sub-bins : goal.overflow_sub-bins
overflow_sub-bins c = fits_with c.args.self.now.ready (upper c.args.self.now.ready c.requires c.product-made.ensures c.turned-made-2.ensures) (neg (result 0 ⊕ result 3)) tt

pub returns : goal.returns
returns c =
    answered (omega (arith, counted c.turned-made.ensures, counted c.turned-made-2.ensures, counted c.product-made.ensures, counted c.product-made-2.ensures))
    (written c.args.self.now.ready
    (lower c.args.self.now.ready c.requires c.divided-base.result c.divided-base.ensures c.turned-made.ensures
    ++ upper c.args.self.now.ready c.requires c.product-made.ensures c.turned-made-2.ensures
    ++ quotient_known c.args.self.now.ready [] 9 c.requires 2 third2 third tt tt c.divided-third.result (lit< tt) tt c.divided-third.ensures
    ∷ product_known c.args.self.now.ready sixth tt c.product-made-2.ensures
    ∷ [])
    9 c.requires
    (cos 0 ⊗ (thirds ⊕ rest) ∷ (result 0 ⊕ result 1) ∷ (result 0 ⊕ result 2) ∷ result 8 ∷ (result 0 ⊕ result 3)
    ∷ (result 4 ⊕ result 5) ∷ result 9 ∷ neg (result 4 ⊕ result 7) ∷ (result 4 ⊕ result 6) ∷ []) tt)
