-- Tests that antt computes, and the facts that they stand for. Assumes nothing.
use Rattle.std.proofs.Common.{◌≡◌, ℕ, zero, suc, ◌<◌, Bool, true, false, ◌&&◌, T, ℤ, sym, refl, subst}
use Rattle.std.specs.Bool.{Decides}
use Rattle.std.specs.Ordering.{int_eq}
use Rattle.std.proofs.lemmas.Bool.Decides.{Decides-int_eq, Decides-below_and}

pub both : (a b : Bool) → T (a && b) → T a × T b
both true true t = (tt, tt)
both true false t = absurd t
both false b t = absurd t

passed : (b : Bool) → Decides b (T b)
passed true = (λ _. tt, λ _. refl)
passed false = (λ e. absurd (subst T (sym e) tt), λ t. absurd t)

holds : {P : Type 0} (b : Bool) → Decides b P → T b → P
holds true d t = d.0 refl
holds false d t = absurd t

-- p holds of every number below n
unfoldable pub below : ℕ → (ℕ → Bool) → Bool
below zero p = true
below (suc n) p = p n && below n p

pub below_at : (n : ℕ) (p : ℕ → Bool) → T (below n p) → (k : ℕ) → k < n → T (p k)
unfolding below
below_at n p = holds (below n p) (Decides-below_and p (λ k. T (p k)) (λ m. below m p) (λ k. passed (p k)) refl (λ _. refl) n)

pub int_eq_is : (a b : ℤ) → T (int_eq a b) → a ≡ b
int_eq_is a b = holds (int_eq a b) (Decides-int_eq a b)
