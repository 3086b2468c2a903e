-- The bins of a block: exact sums over a cosine and a sine table. Assumes nothing.
use Rattle.std.specs.Prelude.{◌≡◌, ℕ, ◌+◌, ◌-◌, ◌*◌, ◌/◌, ◌%◌, ◌<◌, ◌≤◌, if◌then◌else◌, List, map, ℤ, pos, ◌*ℤ◌, neg_ℤ, nat_le, slice_index_or}
use Rattle.std.specs.List.{range_with_len}
use Rattle.algebra.specs.Sums.{Σ}

-- a length with its cosine and sine table
pub record Tables : Type 0 where
  pub N : ℕ
  pub C : ℕ → ℤ
  pub S : ℕ → ℤ

-- reading k of a block
abbrev pub reading : List ℤ → ℕ → ℤ
reading r k = slice_index_or r k (pos 0)

-- bin n of the row r: cosines up to the half length, minus sines above it
unfoldable pub bin : Tables → (ℕ → ℤ) → ℕ → ℤ
bin t r n =
    if nat_le n (t.N / 2)
    then Σ t.N (λ k. r k *ℤ t.C (n * k % t.N))
    else neg_ℤ (Σ t.N (λ k. r k *ℤ t.S (n * k % t.N)))

-- the image of a block: its N bins
unfoldable pub image : Tables → List ℤ → List ℤ
image t r = map (bin t (reading r)) (range_with_len 0 t.N)

-- C is even and S is odd about the length, and both repeat after it
pub record Symmetric (t : Tables) : Type 0 where
  pub C_period : (m : ℕ) → t.C (m + t.N) ≡ t.C m
  pub S_period : (m : ℕ) → t.S (m + t.N) ≡ t.S m
  pub even : (m : ℕ) → m ≤ t.N → t.C (t.N - m) ≡ t.C m
  pub odd : (m : ℕ) → m ≤ t.N → t.S (t.N - m) ≡ neg_ℤ (t.S m)
  pub no_sine : t.S 0 ≡ pos 0

-- only the row of zeros has bins that are all zero, over whole numbers of every size
abbrev pub OnlyZeros : Tables → Type 0
OnlyZeros t = (r : ℕ → ℤ) → ((n : ℕ) → n < t.N → bin t r n ≡ pos 0) → (k : ℕ) → k < t.N → r k ≡ pos 0

-- two tables of one length that agree at every place
pub record Alike (t u : Tables) : Type 0 where
  pub lengths : t.N ≡ u.N
  pub cosines : (m : ℕ) → t.C m ≡ u.C m
  pub sines : (m : ℕ) → t.S m ≡ u.S m
