-- A list that holds each bin at its place is the image. Assumes nothing.
use Rattle.std.proofs.Common.{◌≡◌, ℕ, ◌<◌, List, length, get_or, ℤ, pos, sym, ◌∙◌, arith}
use Rattle.std.proofs.lemmas.List.FromFn.{length-map-range_with_len, get_or-map-range_with_len}
use Rattle.std.proofs.lemmas.List.{ext_get_or}
use Rattle.kernel.specs.Bins.{Tables, reading, bin, image}

module _ (t : Tables) (r : List ℤ) where
  pub image-length : length (image t r) ≡ t.N
  unfolding image
  image-length = length-map-range_with_len (bin t (reading r)) 0 t.N

  pub image_at : (n : ℕ) → n < t.N → get_or (image t r) n (pos 0) ≡ bin t (reading r) n
  unfolding image
  image_at n l = get_or-map-range_with_len (bin t (reading r)) 0 t.N n n (pos 0) l (omega arith)

  pub image_is : (xs : List ℤ) → length xs ≡ t.N → ((n : ℕ) → n < t.N → get_or xs n (pos 0) ≡ bin t (reading r) n) → xs ≡ image t r
  image_is xs e h =
      ext_get_or (pos 0) xs (image t r) (e ∙ sym image-length)
      (λ n l. let m : n < t.N = omega arith in h n m ∙ sym (image_at n m))
