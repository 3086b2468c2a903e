-- What leaves room in a word, and what inner steps of a transform work out: for the contracts of inner functions only. Assumes nothing.
use Rattle.std.specs.Prelude.{◌≡◌, ℕ, ◌+◌, ◌*◌, ◌%◌, ◌^◌, ◌<◌, ◌≤◌, true, List, map, length, ℤ, ◌*ℤ◌, unsigned_abs}
use Rattle.std.specs.List.{range_with_len}
use Rattle.algebra.specs.Sums.{Σ}
use Rattle.algebra.specs.Units.{Units}
use Rattle.kernel.specs.Bins.{reading}
use Rattle.tables.specs.declared.scale.Scale.{Scale}
use Rattle.tables.specs.Entries.{scale_of, is_short, row_of, C, S}

-- no number of the list is larger in size than b
abbrev pub Small : ℕ → List ℤ → Type 0
Small b r = (k : ℕ) → k < length r → unsigned_abs (reading r k) ≤ b

-- a block with readings up to L and a row with entries up to g, of one length up to 9: their products and the sum of these have
-- room in a word
pub record Matched (L g : ℕ) (r row : List ℤ) : Type 0 where
  pub lengths : length r ≡ length row
  pub few : length r ≤ 9
  pub L_room : L < 2 ^ 63
  pub g_room : g < 2 ^ 63
  pub room : L * g ≤ 2 ^ 54
  pub readings : Small L r
  pub entries : Small g row

-- a block of a short length with readings up to L, and the rows of cosines and of sines of that length at a scale: hundreds of
-- entries, of readings and of their products have room in a word
pub record Ready (s : Scale) (L : ℕ) (r cosines sines : List ℤ) : Type 0 where
  pub short : is_short (length r) ≡ true
  pub cosines_are : cosines ≡ row_of (C s) (length r)
  pub sines_are : sines ≡ row_of (S s) (length r)
  pub cosines_whole : length cosines ≡ length r
  pub sines_whole : length sines ≡ length r
  pub readings : Small L r
  pub units : Units (scale_of s) L

-- three entries and three numbers whose sums and products have room: up to twice the largest entry, and twice the largest reading
pub record Turnable (g L : ℕ) (entries numbers : List ℤ) : Type 0 where
  pub units : Units g L
  pub entries_small : Small (2 * g) entries
  pub numbers_small : Small (2 * L) numbers

-- d divides x
pub record Multiple (d x : ℤ) : Type 0 where
  pub times : ℤ
  pub is : x ≡ d *ℤ times

-- the numbers weighed by the entries, and by the entries turned by one place and by two
unfoldable pub turns : List ℤ → List ℤ → List ℤ
turns entries numbers = map (λ n. Σ 3 (λ k. reading entries ((n + k) % 3) *ℤ reading numbers k)) (range_with_len 0 3)
