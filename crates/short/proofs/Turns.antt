-- Three numbers weighed by three entries and by their turns: four products give three times the sums. Assumes nothing.
use Rattle.std.proofs.Common.{◌≡◌, ℕ, ◌+◌, ◌*◌, ◌%◌, T, List, [], ◌∷◌, ◌++◌, ℤ, pos, ◌*ℤ◌, sym, refl, ap, ◌∙◌, lit<, w64, SFits}
use lib.IntN.{+ℤ_idl}
use Rattle.algebra.specs.Sums.{Σ}
use Rattle.algebra.proofs.Ring.{Exp, var, lit, ◌⊕◌, ◌⊖◌, ◌⊗◌, ev, normal, vanishes, ring, cancel}
use Rattle.algebra.proofs.Values.{Known, numbers, terms, sizes_with, plug, fits_with, stored_with}
use Rattle.algebra.proofs.Words.{word, run, word_is}
use Rattle.algebra.proofs.Sizes.{Size, entries_of, readings_of, roomy, Bounded, most-entries_of, most-readings_of, below, run_is, run_fits}
use Rattle.kernel.specs.Bins.{reading}
use Rattle.short.specs.Room.{Turnable, Multiple, turns}
use Rattle.short.proofs.Lines.{small_at}

-- entry k and number k
abbrev pub e : ℕ → Exp
e k = var k

abbrev pub t : ℕ → Exp
t k = var (3 + k)

-- the four products
abbrev pub sum : Exp
sum = e 0 ⊕ e 1 ⊕ e 2

abbrev pub all : Exp
all = sum ⊗ (t 0 ⊕ t 1 ⊕ t 2)

abbrev pub first : Exp
first = (lit (pos 3) ⊗ e 0 ⊖ sum) ⊗ (t 0 ⊖ t 2)

abbrev pub second : Exp
second = (lit (pos 3) ⊗ e 1 ⊖ sum) ⊗ (t 1 ⊖ t 2)

abbrev pub last : Exp
last = (lit (pos 3) ⊗ e 2 ⊖ sum) ⊗ (t 1 ⊖ t 0)

-- product k
abbrev pub m : ℕ → Exp
m k = var (6 + k)

-- the numbers weighed by the entries, turned by n places
abbrev pub turn : ℕ → Exp
turn n = e (n % 3) ⊗ t 0 ⊕ e ((n + 1) % 3) ⊗ t 1 ⊕ e ((n + 2) % 3) ⊗ t 2

abbrev sizes : List Size
sizes = entries_of 2 ∷ entries_of 2 ∷ entries_of 2 ∷ readings_of 2 ∷ readings_of 2 ∷ readings_of 2 ∷ []

module _ {g L : ℕ} {entries weighed : List ℤ} (given : Turnable g L entries weighed) where
  abbrev ρ : List ℤ
  ρ = reading entries 0 ∷ reading entries 1 ∷ reading entries 2 ∷ reading weighed 0 ∷ reading weighed 1 ∷ reading weighed 2 ∷ []

  bounded : Bounded g L ρ sizes
  bounded =
      rw (most-entries_of g L 2, most-readings_of g L 2) (
        small_at (2 * g) entries given.entries_small 0,
        (
          small_at (2 * g) entries given.entries_small 1,
          (
            small_at (2 * g) entries given.entries_small 2,
            (small_at (2 * L) weighed given.numbers_small 0, (small_at (2 * L) weighed given.numbers_small 1, (small_at (2 * L) weighed given.numbers_small 2, tt))),
          ),
        ),
      )

  pub fits : (x : Exp) → T (roomy sizes x) → SFits w64 (run ρ x)
  fits = run_fits g L given.units ρ sizes bounded

  pub product_is : (x : Exp) {count : ℕ} {p : ℕ × ℤ} → T (roomy sizes x) → p ≡ (count, run ρ x) → p.1 ≡ ev ρ x
  product_is x r is = ap (λ q. q.1) is ∙ run_is g L given.units ρ sizes bounded x r

  -- what the calls of `product` answered
  module _ {p q r w : ℕ × ℤ} {h i j k : ℕ} (p_is : p ≡ (h, run ρ all)) (q_is : q ≡ (i, run ρ first)) (r_is : r ≡ (j, run ρ second)) (w_is : w ≡ (k, run ρ last)) where
    abbrev made : List (Known ρ sizes)
    made =
        record { number = p.1; term = all; is = product_is all tt p_is; room = tt }
        ∷ record { number = q.1; term = first; is = product_is first tt q_is; room = tt }
        ∷ record { number = r.1; term = second; is = product_is second tt r_is; room = tt }
        ∷ record { number = w.1; term = last; is = product_is last tt w_is; room = tt }
        ∷ []

    pub sum_fits : (x : Exp) → T (roomy (sizes_with made) x) → SFits w64 (run (ρ ++ numbers made) x)
    sum_fits = fits_with g L given.units ρ sizes bounded made

    -- a sum of products that is three times a turn
    module _ (x y : Exp) (room : T (roomy (sizes_with made) x)) (same : T (vanishes (normal (plug 6 (terms made) x ⊖ lit (pos 3) ⊗ y)))) where
      thrice : word (run (ρ ++ numbers made) x) ≡ pos 3 *ℤ ev ρ y
      thrice = stored_with g L given.units ρ sizes bounded 6 refl made x room ∙ ring ρ (plug 6 (terms made) x) (lit (pos 3) ⊗ y) same

      pub divides : Multiple (pos 3) (word (run (ρ ++ numbers made) x))
      divides = record { times = ev ρ y; is = thrice }

      pub third_is : {z : ℤ} → word (run (ρ ++ numbers made) x) ≡ pos 3 *ℤ z → z ≡ ev ρ y
      third_is {z} is = cancel 3 z (ev ρ y) (lit< tt) (sym is ∙ thrice)

  whole : (y : Exp) → T (roomy sizes y) → word (ev ρ y) ≡ ev ρ y
  whole y room = word_is (ev ρ y) (below g L given.units ρ sizes bounded y room)

  pub turns_are : (a b c : ℤ) → a ≡ ev ρ (turn 0) → b ≡ ev ρ (turn 1) → c ≡ ev ρ (turn 2) → word a ∷ word b ∷ word c ∷ [] ≡ turns entries weighed
  unfolding turns Σ
  turns_are a b c a_is b_is c_is = rw (a_is, b_is, c_is, whole (turn 0) tt, whole (turn 1) tt, whole (turn 2) tt) (simp +ℤ_idl)
