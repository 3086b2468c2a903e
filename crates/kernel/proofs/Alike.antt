-- Alike tables give every block the same bins. Assumes nothing.
use Rattle.std.proofs.Common.{◌≡◌, ℕ, ◌*◌, ◌/◌, ◌%◌, Bool, true, false, cond, leb, List, ℤ, ◌*ℤ◌, neg_ℤ, ap, ◌∙◌, arith}
use Rattle.algebra.specs.Sums.{Σ}
use Rattle.algebra.proofs.Sums.{Σ_cong}
use Rattle.kernel.specs.Bins.{Tables, reading, bin, image, Alike}
use Rattle.kernel.proofs.Image.{image-length, image_at, image_is}

module _ {t u : Tables} (alike : Alike t u) where
  pub Alike-bin : (r : ℕ → ℤ) (n : ℕ) → bin t r n ≡ bin u r n
  unfolding bin
  Alike-bin r n = rw (← alike.lengths) (go (leb n (t.N / 2)))
    where
      cosines : Σ t.N (λ k. r k *ℤ t.C (n * k % t.N)) ≡ Σ t.N (λ k. r k *ℤ u.C (n * k % t.N))
      cosines = Σ_cong t.N _ _ (λ k _. ap (λ x. r k *ℤ x) (alike.cosines (n * k % t.N)))

      sines : Σ t.N (λ k. r k *ℤ t.S (n * k % t.N)) ≡ Σ t.N (λ k. r k *ℤ u.S (n * k % t.N))
      sines = Σ_cong t.N _ _ (λ k _. ap (λ x. r k *ℤ x) (alike.sines (n * k % t.N)))

      go : (b : Bool) → cond b (Σ t.N (λ k. r k *ℤ t.C (n * k % t.N))) (neg_ℤ (Σ t.N (λ k. r k *ℤ t.S (n * k % t.N))))
          ≡ cond b (Σ t.N (λ k. r k *ℤ u.C (n * k % t.N))) (neg_ℤ (Σ t.N (λ k. r k *ℤ u.S (n * k % t.N))))
      go true = cosines
      go false = ap neg_ℤ sines

  pub Alike-image : (r : List ℤ) → image t r ≡ image u r
  Alike-image r =
      image_is u r (image t r) (image-length t r ∙ alike.lengths)
      (λ n l. image_at t r n (omega (arith, alike.lengths)) ∙ Alike-bin (reading r) n)
