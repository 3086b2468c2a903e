-- The negative of a block has the opposite bins. Assumes nothing.
use Rattle.std.proofs.Common.{◌≡◌, ℕ, zero, suc, ◌*◌, ◌/◌, ◌%◌, Bool, true, false, cond, leb, List, [], ◌∷◌, map, ℤ, ◌*ℤ◌, neg_ℤ, refl, ap, ap₂, ◌∙◌}
use Rattle.std.specs.List.{range_with_len}
use Rattle.algebra.specs.Sums.{Σ}
use Rattle.algebra.proofs.Ring.{ring, var, neg, ◌⊗◌}
use Rattle.algebra.proofs.Sums.{Σ_cong, Σ-neg}
use Rattle.kernel.specs.Bins.{Tables, reading, bin, image}

reading_opposite : (r : List ℤ) (k : ℕ) → reading (map neg_ℤ r) k ≡ neg_ℤ (reading r k)
reading_opposite [] k = refl
reading_opposite (x ∷ r) zero = refl
reading_opposite (x ∷ r) (suc k) = reading_opposite r k

bin_opposite : (t : Tables) (r : List ℤ) (n : ℕ) → bin t (reading (map neg_ℤ r)) n ≡ neg_ℤ (bin t (reading r) n)
unfolding bin
bin_opposite t r n = go (leb n (t.N / 2))
  where
    sum : (ℕ → ℤ) → ℤ
    sum table = Σ t.N (λ k. reading r k *ℤ table (n * k % t.N))

    sum_opposite : (table : ℕ → ℤ) → Σ t.N (λ k. reading (map neg_ℤ r) k *ℤ table (n * k % t.N)) ≡ neg_ℤ (sum table)
    sum_opposite table =
        Σ_cong t.N (λ k. reading (map neg_ℤ r) k *ℤ table (n * k % t.N)) (λ k. neg_ℤ (reading r k *ℤ table (n * k % t.N)))
        (λ k _. rw (reading_opposite r k) (ring (reading r k ∷ table (n * k % t.N) ∷ []) (neg (var 0) ⊗ var 1) (neg (var 0 ⊗ var 1)) tt))
        ∙ Σ-neg t.N (λ k. reading r k *ℤ table (n * k % t.N))

    go : (b : Bool)
        → cond b (Σ t.N (λ k. reading (map neg_ℤ r) k *ℤ t.C (n * k % t.N))) (neg_ℤ (Σ t.N (λ k. reading (map neg_ℤ r) k *ℤ t.S (n * k % t.N))))
        ≡ neg_ℤ (cond b (sum t.C) (neg_ℤ (sum t.S)))
    go true = sum_opposite t.C
    go false = ap neg_ℤ (sum_opposite t.S)

pub image_opposite : (t : Tables) (r : List ℤ) → image t (map neg_ℤ r) ≡ map neg_ℤ (image t r)
unfolding image
image_opposite t r = go (range_with_len 0 t.N)
  where
    go : (ns : List ℕ) → map (bin t (reading (map neg_ℤ r))) ns ≡ map neg_ℤ (map (bin t (reading r)) ns)
    go [] = refl
    go (n ∷ ns) = ap₂ ◌∷◌ (bin_opposite t r n) (go ns)
