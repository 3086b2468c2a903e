-- The rule that says which whole number an entry is. Assumes nothing.
use Rattle.std.specs.Prelude.{◌≡◌, ℕ, ◌+◌, ◌*◌, ◌^◌, ◌<◌, ◌≤◌, true, List, [], ◌∷◌, length, ℤ, pos, ◌+ℤ◌, ◌-ℤ◌, ◌*ℤ◌, ◌<ℤ◌, slice_index_or}
use Rattle.tables.specs.declared.scale.Scale.{Scale}
use Rattle.tables.specs.declared.table.Table.{Table}
use Rattle.tables.specs.declared.table.Table.TheVariants.{Cosines, Sines}
use Rattle.tables.specs.Entries.{scale_of, is_short, neg, C, S}

-- an entry is so many halves of the scale, or half the scale times a root of a polynomial, whose coefficients stand from the
-- constant up
pub data Rule : Type 0 where
  halves : ℤ → Rule
  root : List ℤ → Rule

-- a polynomial at y / T, multiplied out by T to its degree
abbrev pub value : List ℤ → ℕ → ℤ → ℤ
value [] T y = pos 0
value (c ∷ p) T y = c *ℤ pos (T ^ length p) +ℤ y *ℤ value p T y

-- the entry E at scale T: exact, or the polynomial changes sign between (2E - 1) / T and (2E + 1) / T
abbrev pub Obeys : ℕ → Rule → ℤ → Type 0
Obeys T (halves h) E = pos 2 *ℤ E ≡ h *ℤ pos T
Obeys T (root p) E = (value p T (pos 2 *ℤ E -ℤ pos 1) *ℤ value p T (pos 2 *ℤ E +ℤ pos 1)) <ℤ pos 0

abbrev whole : Rule
whole = halves (pos 2)

abbrev half : Rule
half = halves (pos 1)

abbrev none : Rule
none = halves (pos 0)

abbrev less_half : Rule
less_half = halves (neg 1)

abbrev less_whole : Rule
less_whole = halves (neg 2)

-- twice a cosine: z² + z - 1 at length 5, z³ + z² - 2z - 1 at 7, z³ - 3z + 1 at 9
abbrev c5 : Rule
c5 = root (neg 1 ∷ pos 1 ∷ pos 1 ∷ [])

abbrev c7 : Rule
c7 = root (neg 1 ∷ neg 2 ∷ pos 1 ∷ pos 1 ∷ [])

abbrev c9 : Rule
c9 = root (pos 1 ∷ neg 3 ∷ pos 0 ∷ pos 1 ∷ [])

-- twice a sine: z⁴ - 5z² + 5 at length 5, z⁶ - 7z⁴ + 14z² - 7 at 7, z⁶ - 6z⁴ + 9z² - 3 at 9
abbrev s5 : Rule
s5 = root (pos 5 ∷ pos 0 ∷ neg 5 ∷ pos 0 ∷ pos 1 ∷ [])

abbrev s7 : Rule
s7 = root (neg 7 ∷ pos 0 ∷ pos 14 ∷ pos 0 ∷ neg 7 ∷ pos 0 ∷ pos 1 ∷ [])

abbrev s9 : Rule
s9 = root (neg 3 ∷ pos 0 ∷ pos 9 ∷ pos 0 ∷ neg 6 ∷ pos 0 ∷ pos 1 ∷ [])

-- z² - 2 and z² - 3
abbrev root2 : Rule
root2 = root (neg 2 ∷ pos 0 ∷ pos 1 ∷ [])

abbrev root3 : Rule
root3 = root (neg 3 ∷ pos 0 ∷ pos 1 ∷ [])

-- the rules of C(0), C(1), .. up to the half length: a row for each length from 0 to 9
abbrev pub cosine_rules : List (List Rule)
cosine_rules = [] ∷ [] ∷ [] ∷
    (whole ∷ less_half ∷ []) ∷
    (whole ∷ none ∷ less_whole ∷ []) ∷
    (whole ∷ c5 ∷ c5 ∷ []) ∷
    (whole ∷ half ∷ less_half ∷ less_whole ∷ []) ∷
    (whole ∷ c7 ∷ c7 ∷ c7 ∷ []) ∷
    (whole ∷ root2 ∷ none ∷ root2 ∷ less_whole ∷ []) ∷
    (whole ∷ c9 ∷ c9 ∷ less_half ∷ c9 ∷ []) ∷
    []

abbrev pub sine_rules : List (List Rule)
sine_rules = [] ∷ [] ∷ [] ∷
    (none ∷ root3 ∷ []) ∷
    (none ∷ whole ∷ none ∷ []) ∷
    (none ∷ s5 ∷ s5 ∷ []) ∷
    (none ∷ root3 ∷ root3 ∷ none ∷ []) ∷
    (none ∷ s7 ∷ s7 ∷ s7 ∷ []) ∷
    (none ∷ root2 ∷ whole ∷ root2 ∷ none ∷ []) ∷
    (none ∷ s9 ∷ s9 ∷ root3 ∷ s9 ∷ []) ∷
    []

abbrev pub rule_at : List (List Rule) → ℕ → ℕ → Rule
rule_at rules N m = slice_index_or (slice_index_or rules N []) m none

-- every cosine up to the half length obeys its rule, and they fall
pub record RightCosines (s : Scale) : Type 0 where
  pub entries : (N m : ℕ) → is_short N ≡ true → 2 * m ≤ N → Obeys (scale_of s) (rule_at cosine_rules N m) (C s N m)
  pub falls : (N m : ℕ) → is_short N ≡ true → 2 * (m + 1) ≤ N → C s N (m + 1) <ℤ C s N m

-- every sine up to the half length obeys its rule, those between 0 and the half length are above 0, and they stand in order
pub record RightSines (s : Scale) : Type 0 where
  pub entries : (N m : ℕ) → is_short N ≡ true → 2 * m ≤ N → Obeys (scale_of s) (rule_at sine_rules N m) (S s N m)
  pub above : (N m : ℕ) → is_short N ≡ true → 0 < m → 2 * m < N → pos 0 <ℤ S s N m
  pub order_5 : S s 5 2 <ℤ S s 5 1
  pub order_7 : (S s 7 1 <ℤ S s 7 2) × (S s 7 3 <ℤ S s 7 1)
  pub order_9 : (S s 9 1 <ℤ S s 9 2) × (S s 9 4 <ℤ S s 9 1)

-- every entry of the table is right
abbrev pub Right : Table → Scale → Type 0
Right Cosines = RightCosines
Right Sines = RightSines
