-- The tables of lengths 3 to 9 at two scales: each entry is the scale times a cosine or a sine, to the nearest whole number.
-- Assumes nothing.
use Rattle.std.specs.Prelude.{ℕ, ◌-◌, ◌*◌, ◌%◌, ◌^◌, min, Bool, if◌then◌else◌, ◌&&◌, List, [], ◌∷◌, map, ℤ, pos, neg_ℤ, nat_le, slice_index_or}
use Rattle.std.specs.List.{range_with_len}
use Rattle.kernel.specs.Bins.{Tables}
use Rattle.tables.specs.declared.scale.Scale.{Scale}
use Rattle.tables.specs.declared.scale.Scale.TheVariants.{Standard, Fine}
use Rattle.tables.specs.declared.table.Table.{Table}
use Rattle.tables.specs.declared.table.Table.TheVariants.{Cosines, Sines}

-- C(0), which no entry passes in size
abbrev pub scale_of : Scale → ℕ
scale_of Standard = 16384
scale_of Fine = 2 ^ 30

-- the lengths that have tables
abbrev pub is_short : ℕ → Bool
is_short N = nat_le 3 N && nat_le N 9

-- -n
abbrev pub neg : ℕ → ℤ
neg n = neg_ℤ (pos n)

-- C(0), C(1), .. up to the half length: a row for each length from 0 to 9
abbrev pub half_cosines : Scale → List (List ℤ)
half_cosines Standard = [] ∷ [] ∷ [] ∷
    (pos 16384 ∷ neg 8192 ∷ []) ∷
    (pos 16384 ∷ pos 0 ∷ neg 16384 ∷ []) ∷
    (pos 16384 ∷ pos 5063 ∷ neg 13255 ∷ []) ∷
    (pos 16384 ∷ pos 8192 ∷ neg 8192 ∷ neg 16384 ∷ []) ∷
    (pos 16384 ∷ pos 10215 ∷ neg 3646 ∷ neg 14761 ∷ []) ∷
    (pos 16384 ∷ pos 11585 ∷ pos 0 ∷ neg 11585 ∷ neg 16384 ∷ []) ∷
    (pos 16384 ∷ pos 12551 ∷ pos 2845 ∷ neg 8192 ∷ neg 15396 ∷ []) ∷
    []
half_cosines Fine = [] ∷ [] ∷ [] ∷
    (pos 1073741824 ∷ neg 536870912 ∷ []) ∷
    (pos 1073741824 ∷ pos 0 ∷ neg 1073741824 ∷ []) ∷
    (pos 1073741824 ∷ pos 331804471 ∷ neg 868675383 ∷ []) ∷
    (pos 1073741824 ∷ pos 536870912 ∷ neg 536870912 ∷ neg 1073741824 ∷ []) ∷
    (pos 1073741824 ∷ pos 669467077 ∷ neg 238930034 ∷ neg 967407956 ∷ []) ∷
    (pos 1073741824 ∷ pos 759250125 ∷ pos 0 ∷ neg 759250125 ∷ neg 1073741824 ∷ []) ∷
    (pos 1073741824 ∷ pos 822533958 ∷ pos 186453311 ∷ neg 536870912 ∷ neg 1008987269 ∷ []) ∷
    []

-- S(0), S(1), .. up to the half length
abbrev pub half_sines : Scale → List (List ℤ)
half_sines Standard = [] ∷ [] ∷ [] ∷
    (pos 0 ∷ pos 14189 ∷ []) ∷
    (pos 0 ∷ pos 16384 ∷ pos 0 ∷ []) ∷
    (pos 0 ∷ pos 15582 ∷ pos 9630 ∷ []) ∷
    (pos 0 ∷ pos 14189 ∷ pos 14189 ∷ pos 0 ∷ []) ∷
    (pos 0 ∷ pos 12810 ∷ pos 15973 ∷ pos 7109 ∷ []) ∷
    (pos 0 ∷ pos 11585 ∷ pos 16384 ∷ pos 11585 ∷ pos 0 ∷ []) ∷
    (pos 0 ∷ pos 10531 ∷ pos 16135 ∷ pos 14189 ∷ pos 5604 ∷ []) ∷
    []
half_sines Fine = [] ∷ [] ∷ [] ∷
    (pos 0 ∷ pos 929887697 ∷ []) ∷
    (pos 0 ∷ pos 1073741824 ∷ pos 0 ∷ []) ∷
    (pos 0 ∷ pos 1021189159 ∷ pos 631129609 ∷ []) ∷
    (pos 0 ∷ pos 929887697 ∷ pos 929887697 ∷ pos 0 ∷ []) ∷
    (pos 0 ∷ pos 839485162 ∷ pos 1046820875 ∷ pos 465879117 ∷ []) ∷
    (pos 0 ∷ pos 759250125 ∷ pos 1073741824 ∷ pos 759250125 ∷ pos 0 ∷ []) ∷
    (pos 0 ∷ pos 690187940 ∷ pos 1057429273 ∷ pos 929887697 ∷ pos 367241333 ∷ []) ∷
    []

-- entry m below N, from the entries up to the half length: C(N - m) = C(m)
abbrev pub evenly : ℕ → List ℤ → ℕ → ℤ
evenly N half m = slice_index_or half (min m (N - m)) (pos 0)

-- S(N - m) = -S(m)
abbrev pub oddly : ℕ → List ℤ → ℕ → ℤ
oddly N half m = if nat_le (2 * m) N then slice_index_or half m (pos 0) else neg_ℤ (slice_index_or half (N - m) (pos 0))

-- the entries of length N at every m, with period N
unfoldable pub C : Scale → ℕ → ℕ → ℤ
C s N m = evenly N (slice_index_or (half_cosines s) N []) (m % N)

unfoldable pub S : Scale → ℕ → ℕ → ℤ
S s N m = oddly N (slice_index_or (half_sines s) N []) (m % N)

-- a table's entries at a scale
abbrev pub entries : Table → Scale → ℕ → ℕ → ℤ
entries Cosines = C
entries Sines = S

-- both tables of a length
abbrev pub tables_of : Scale → ℕ → Tables
tables_of s N = record { N = N; C = C s N; S = S s N }

-- the first N entries of a table, or none where no short table has the length
unfoldable pub row_of : (ℕ → ℕ → ℤ) → ℕ → List ℤ
row_of table N = if is_short N then map (table N) (range_with_len 0 N) else []
