-- A square matrix with an inverse, up to a factor, takes only the row of zeros to zeros. Assumes nothing.
use Rattle.std.proofs.Common.{◌≡◌, ℕ, suc, ◌<◌, Bool, true, false, cond, T, eqb, ◌≢◌, [], ◌∷◌, ℤ, pos, ◌*ℤ◌, sym, refl, ◌∙◌, subst, arith, eqb→eq}
use lib.Dec.{eqb_refl}
use lib.IntN.{*ℤ-zero}
use borrow.Author.Differences.{ints}
use Rattle.algebra.specs.Sums.{Σ}
use Rattle.algebra.proofs.Ring.{ring, var, ◌⊗◌}
use Rattle.algebra.proofs.Sums.{Σ_cong, Σ_none, Σ_swap, Σ_scale, Σ_single}
use Rattle.std.specs.Ordering.{int_eq}
use Rattle.algebra.proofs.Tests.{below, below_at, int_eq_is}

-- d on the diagonal, 0 elsewhere
abbrev unit : ℕ → ℕ → ℕ → ℤ
unit d j k = cond (eqb j k) (pos d) (pos 0)

-- the product of the matrices M and R is d + 1 times the unit matrix
unfoldable pub inverts : ℕ → (ℕ → ℕ → ℤ) → (ℕ → ℕ → ℤ) → ℕ → Bool
inverts N R M d = below N (λ j. below N (λ k. int_eq (Σ N (λ n. M j n *ℤ R n k)) (unit (suc d) j k)))

off : (d j k : ℕ) → k ≢ j → unit d j k ≡ pos 0
off d j k u = go (eqb j k) refl
  where
    go : (b : Bool) → eqb j k ≡ b → cond b (pos d) (pos 0) ≡ pos 0
    go true e = absurd (u (sym (eqb→eq j k (subst T (sym e) tt))))
    go false e = refl

on : (d j : ℕ) → unit d j j ≡ pos d
on d j = go (eqb j j) (eqb_refl j)
  where
    go : (b : Bool) → T b → cond b (pos d) (pos 0) ≡ pos d
    go true t = refl
    go false t = absurd t

cancel : (z : ℤ) (d : ℕ) → z *ℤ pos (suc d) ≡ pos 0 → z ≡ pos 0
cancel z d e = omega (arith, ints)

module _ (N : ℕ) (R M : ℕ → ℕ → ℤ) (d : ℕ) (t : T (inverts N R M d)) (r : ℕ → ℤ) where
  -- row j of the product, over r: r j times d + 1
  one : (j : ℕ) → j < N → Σ N (λ k. r k *ℤ unit (suc d) j k) ≡ r j *ℤ pos (suc d)
  one j l =
      Σ_single N j (λ k. r k *ℤ unit (suc d) j k) l (λ k q u. rw (off (suc d) j k u, *ℤ-zero)) ∙ rw (on (suc d) j)

  spread : (j k : ℕ) → j < N → k < N → r k *ℤ unit (suc d) j k ≡ Σ N (λ n. M j n *ℤ (r k *ℤ R n k))
  unfolding inverts
  spread j k l q =
      let e = int_eq_is (Σ N (λ n. M j n *ℤ R n k)) (unit (suc d) j k) (below_at N _ (below_at N _ t j l) k q) in
      rw (← e, ← Σ_scale N (r k) (λ n. M j n *ℤ R n k))
      (Σ_cong N (λ n. r k *ℤ (M j n *ℤ R n k)) (λ n. M j n *ℤ (r k *ℤ R n k)) (λ n _. ring (r k ∷ M j n ∷ R n k ∷ []) (var 0 ⊗ (var 1 ⊗ var 2)) (var 1 ⊗ (var 0 ⊗ var 2)) tt))

  pub only_zeros : ((n : ℕ) → n < N → Σ N (λ k. r k *ℤ R n k) ≡ pos 0) → (j : ℕ) → j < N → r j ≡ pos 0
  only_zeros h j l = cancel (r j) d (sym (one j l) ∙ none)
    where
      column : (n : ℕ) → n < N → Σ N (λ k. M j n *ℤ (r k *ℤ R n k)) ≡ pos 0
      column n q = Σ_scale N (M j n) (λ k. r k *ℤ R n k) ∙ rw (h n q) (*ℤ-zero (M j n))

      none : Σ N (λ k. r k *ℤ unit (suc d) j k) ≡ pos 0
      none =
          Σ_cong N (λ k. r k *ℤ unit (suc d) j k) (λ k. Σ N (λ n. M j n *ℤ (r k *ℤ R n k))) (λ k q. spread j k l q)
          ∙ Σ_swap N N (λ k n. M j n *ℤ (r k *ℤ R n k))
          ∙ Σ_none N (λ n. Σ N (λ k. M j n *ℤ (r k *ℤ R n k))) column
