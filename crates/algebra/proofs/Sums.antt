-- The laws of finite sums. Assumes nothing.
use Rattle.std.proofs.Common.{◌≡◌, ℕ, zero, suc, ◌+◌, ◌*◌, ◌<◌, ◌≤◌, ◌≢◌, ℤ, pos, ◌+ℤ◌, ◌*ℤ◌, neg_ℤ, nat_abs, sym, refl, ◌∙◌, zero-mul, add-one, arith}
use native.Mathlib.Decide.{ℕ_discrete}
use lib.IntN.{*ℤ-zero, +ℤ_idl, +ℤ_idr}
use borrow.Author.Differences.{ints}
use Rattle.algebra.specs.Sums.{Σ}
use Rattle.algebra.proofs.Integers.{dist_l, abs-add}

pub Σ_more : (n : ℕ) (f : ℕ → ℤ) → Σ (n + 1) f ≡ Σ n f +ℤ f n
unfolding Σ
Σ_more n f = rw add-one

pub Σ_cong : (n : ℕ) (f g : ℕ → ℤ) → ((k : ℕ) → k < n → f k ≡ g k) → Σ n f ≡ Σ n g
unfolding Σ
Σ_cong zero f g h = refl
Σ_cong (suc n) f g h = rw (Σ_cong n f g (λ k l. h k (omega arith)), h n (omega arith))

pub Σ-zero : (n : ℕ) → Σ n (λ k. pos 0) ≡ pos 0
unfolding Σ
Σ-zero zero = refl
Σ-zero (suc n) = rw (Σ-zero n)

pub Σ_none : (n : ℕ) (f : ℕ → ℤ) → ((k : ℕ) → k < n → f k ≡ pos 0) → Σ n f ≡ pos 0
Σ_none n f h = Σ_cong n f (λ k. pos 0) h ∙ Σ-zero n

pub Σ-add : (n : ℕ) (f g : ℕ → ℤ) → Σ n (λ k. f k +ℤ g k) ≡ Σ n f +ℤ Σ n g
unfolding Σ
Σ-add zero f g = refl
Σ-add (suc n) f g = rw (Σ-add n f g) (omega (arith, ints))

pub Σ-neg : (n : ℕ) (f : ℕ → ℤ) → Σ n (λ k. neg_ℤ (f k)) ≡ neg_ℤ (Σ n f)
unfolding Σ
Σ-neg zero f = refl
Σ-neg (suc n) f = rw (Σ-neg n f) (omega (arith, ints))

pub Σ_scale : (n : ℕ) (c : ℤ) (f : ℕ → ℤ) → Σ n (λ k. c *ℤ f k) ≡ c *ℤ Σ n f
unfolding Σ
Σ_scale zero c f = sym (*ℤ-zero c)
Σ_scale (suc n) c f = rw (Σ_scale n c f, dist_l)

pub Σ_swap : (m n : ℕ) (f : ℕ → ℕ → ℤ) → Σ m (λ i. Σ n (λ j. f i j)) ≡ Σ n (λ j. Σ m (λ i. f i j))
unfolding Σ
Σ_swap zero n f = sym (Σ-zero n)
Σ_swap (suc m) n f = rw (Σ_swap m n f) (sym (Σ-add n (λ j. Σ m (λ i. f i j)) (f m)))

-- a sum of which all terms but one are 0
pub Σ_single : (n j : ℕ) (f : ℕ → ℤ) → j < n → ((k : ℕ) → k < n → k ≢ j → f k ≡ pos 0) → Σ n f ≡ f j
unfolding Σ
Σ_single zero j f l h = absurd (omega arith)
Σ_single (suc n) j f l h =
    elim (ℕ_discrete j n) [
      | yes e ↦ rw (Σ_none n f (λ k q. h k (omega arith) (omega arith)), e, +ℤ_idl)
      | no u ↦ rw (Σ_single n j f (omega arith) (λ k q w. h k (omega arith) w), h n (omega arith) (omega arith), +ℤ_idr)
    ]

pub Σ_bound : (n B : ℕ) (f : ℕ → ℤ) → ((k : ℕ) → k < n → nat_abs (f k) ≤ B) → nat_abs (Σ n f) ≤ n * B
unfolding Σ
Σ_bound zero B f h = rw zero-mul (omega arith)
Σ_bound (suc n) B f h =
    omega (arith, Σ_bound n B f (λ k l. h k (omega arith)), h n (omega arith), abs-add (Σ n f) (f n))
