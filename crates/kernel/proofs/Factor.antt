-- A bin as one sum, over the factor of each reading. Assumes nothing.
use Rattle.std.proofs.Common.{◌≡◌, ℕ, ◌*◌, ◌/◌, ◌%◌, Bool, true, false, cond, leb, [], ◌∷◌, ℤ, ◌*ℤ◌, neg_ℤ, sym, refl, ◌∙◌}
use Rattle.algebra.specs.Sums.{Σ}
use Rattle.algebra.proofs.Ring.{ring, var, neg, ◌⊗◌}
use Rattle.algebra.proofs.Sums.{Σ_cong, Σ-neg}
use Rattle.kernel.specs.Bins.{Tables, bin}

-- what reading k is multiplied by in bin n
abbrev pub factor : Tables → ℕ → ℕ → ℤ
factor t n k = cond (leb n (t.N / 2)) (t.C (n * k % t.N)) (neg_ℤ (t.S (n * k % t.N)))

pub bin_factor : (t : Tables) (r : ℕ → ℤ) (n : ℕ) → bin t r n ≡ Σ t.N (λ k. r k *ℤ factor t n k)
unfolding bin
bin_factor t r n = go (leb n (t.N / 2))
  where
    cosines : ℕ → ℤ
    cosines k = r k *ℤ t.C (n * k % t.N)

    sines : ℕ → ℤ
    sines k = r k *ℤ t.S (n * k % t.N)

    go : (b : Bool) → cond b (Σ t.N cosines) (neg_ℤ (Σ t.N sines)) ≡ Σ t.N (λ k. r k *ℤ cond b (t.C (n * k % t.N)) (neg_ℤ (t.S (n * k % t.N))))
    go true = refl
    go false =
        sym (Σ-neg t.N sines)
        ∙ Σ_cong t.N (λ k. neg_ℤ (sines k)) (λ k. r k *ℤ neg_ℤ (t.S (n * k % t.N))) (λ k _. ring (r k ∷ t.S (n * k % t.N) ∷ []) (neg (var 0 ⊗ var 1)) (var 0 ⊗ neg (var 1)) tt)
