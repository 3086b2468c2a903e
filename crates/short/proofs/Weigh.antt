-- The terms of one bin: each has room in a word, and so has their sum. Assumes nothing.
use Rattle.std.proofs.Common.{◌≡◌, ℕ, ◌+◌, ◌*◌, ◌/◌, ◌%◌, ◌^◌, ◌<◌, ◌≤◌, List, [], ◌∷◌, length, ℤ, pos, ◌+ℤ◌, ◌-ℤ◌, ◌*ℤ◌, neg_ℤ, get_or, nat_abs, sym, refl, ap, ◌∙◌, mod-lt, mul-le-mul, arith, w64, SFits}
use Rattle.std.proofs.lemmas.Bool.{le-leb, lt-leb}
use Rattle.algebra.specs.Sums.{Σ}
use Rattle.algebra.proofs.Integers.{abs-mul}
use Rattle.algebra.proofs.Ring.{var, neg}
use Rattle.algebra.proofs.Sums.{Σ_cong, Σ_bound}
use Rattle.algebra.proofs.Words.{word, word_is, word_fits, run_fits, stored_is, add_term}
use Rattle.kernel.specs.Bins.{reading, bin}
use Rattle.tables.specs.declared.scale.Scale.{Scale}
use Rattle.tables.specs.declared.table.Table.{Table}
use Rattle.tables.specs.declared.table.Table.TheVariants.{Cosines, Sines}
use Rattle.tables.specs.Entries.{scale_of, row_of, entries, tables_of}
use Rattle.tables.proofs.Lengths.{bounds}
use Rattle.tables.proofs.Listed.{row_length, row_at}
use Rattle.short.specs.Room.{Matched, Ready}
use Rattle.short.proofs.Laws.{entries_small}

-- reading k times the entry of a row that bin n gives it
abbrev pub term : List ℤ → List ℤ → ℕ → ℕ → ℤ
term r row n k = reading r k *ℤ get_or row (n * k % length row) (pos 0)

module _ (L g : ℕ) (r row : List ℤ) (n : ℕ) (m : Matched L g r row) where
  place : (k : ℕ) → k < length r → n * k % length row < length row
  place k l = mod-lt (n * k) (omega (arith, m.lengths))

  term_small : (k : ℕ) → k < length r → nat_abs (term r row n k) ≤ 2 ^ 54
  term_small k l =
      let both = mul-le-mul (m.readings k l) (m.entries (n * k % length row) (place k l)) in
      rw abs-mul (omega (arith, m.room))

  -- the product of turn k
  pub made : (k at : ℕ) → k < length r → at ≡ n * k % length row
      → SFits w64 (word (reading r k) *ℤ word (get_or row at (pos 0))) × (word (reading r k) *ℤ word (get_or row at (pos 0)) ≡ term r row n k)
  made k at l e =
      let entry = m.entries (n * k % length row) (place k l) in
      let same : word (reading r k) *ℤ word (get_or row at (pos 0)) ≡ term r row n k =
      rw (e, word_is (reading r k) (omega (arith, m.readings k l, m.L_room)), word_is (get_or row (n * k % length row) (pos 0)) (omega (arith, m.g_room))) in
      (rw same (word_fits (term r row n k) (omega (arith, term_small k l))), same)

  -- the sum after turn k, where `product` answered p
  pub added : (k at count : ℕ) (s : ℤ) (p : ℕ × ℤ) → k < length r → at ≡ n * k % length row → s ≡ Σ k (term r row n)
      → p ≡ (count, word (reading r k) *ℤ word (get_or row at (pos 0)))
      → SFits w64 (s +ℤ word p.1) × (word (s +ℤ word p.1) ≡ Σ (k + 1) (term r row n))
  added k at count s p l e es ep =
      add_term (length r) (2 ^ 54) (term r row n) (omega (arith, m.few)) term_small k s p.1 l es (ap (λ q. q.1) ep ∙ (made k at l e).1)

  whole_small : nat_abs (Σ (length r) (term r row n)) ≤ 2 ^ 60
  whole_small = omega (arith, m.few, Σ_bound (length r) (2 ^ 54) (term r row n) term_small)

-- the same over a table: its row is matched with a block of its length
abbrev pub table_term : Table → Scale → List ℤ → ℕ → ℕ → ℤ
table_term t s r n k = reading r k *ℤ entries t s (length r) (n * k % length r)

module _ {s : Scale} {L : ℕ} {r cosines sines : List ℤ} (ready : Ready s L r cosines sines) (t : Table) (n : ℕ) where
  whole : {row : List ℤ} → row ≡ row_of (entries t s) (length r) → length row ≡ length r
  whole is = ap length is ∙ row_length (entries t s) (length r) ready.short

  pub matched : {row : List ℤ} → row ≡ row_of (entries t s) (length r) → Matched L (scale_of s) r row
  matched is =
      record {
        lengths = sym (whole is);
        few = (bounds (length r) ready.short).1;
        L_room = omega (arith, ready.units.reading);
        g_room = omega (arith, ready.units.entry);
        room = omega (arith, ready.units.both);
        readings = ready.readings;
        entries = entries_small t s (length r) ready.short is;
      }

  entry_is : {row : List ℤ} → row ≡ row_of (entries t s) (length r) → (k : ℕ) → term r row n k ≡ table_term t s r n k
  entry_is {row} is k =
      let at = mod-lt (n * k) {m = length r} (omega (arith, (bounds (length r) ready.short).0)) in
      rw (whole is, is) (ap (λ x. reading r k *ℤ x) (row_at (entries t s) (length r) ready.short (n * k % length r) at))

  -- the sum over the table's row is the sum over the table
  over_row : {row : List ℤ} → row ≡ row_of (entries t s) (length r) → (j : ℕ) → Σ j (term r row n) ≡ Σ j (table_term t s r n)
  over_row {row} is j = Σ_cong j (term r row n) (table_term t s r n) (λ i h. entry_is is i)

  pub table_made : {row : List ℤ} (k at : ℕ) → row ≡ row_of (entries t s) (length r) → k < length r → at ≡ n * k % length r
      → SFits w64 (word (reading r k) *ℤ word (reading row at)) × (word (reading r k) *ℤ word (reading row at) ≡ table_term t s r n k)
  table_made {row} k at is l e =
      let m = made L (scale_of s) r row n (matched is) k at l (rw (whole is) e) in
      (m.0, m.1 ∙ entry_is is k)

  pub table_added : {row : List ℤ} (k at count : ℕ) (sum : ℤ) (p : ℕ × ℤ) → row ≡ row_of (entries t s) (length r) → k < length r → at ≡ n * k % length r
      → sum ≡ Σ k (table_term t s r n) → p ≡ (count, word (reading r k) *ℤ word (reading row at))
      → SFits w64 (sum +ℤ word p.1) × (word (sum +ℤ word p.1) ≡ Σ (k + 1) (table_term t s r n))
  table_added {row} k at count sum p is l e es ep =
      let a = added L (scale_of s) r row n (matched is) k at count sum p l (rw (whole is) e) (es ∙ sym (over_row is k)) ep in
      (a.0, a.1 ∙ over_row is (k + 1))

  table_small : nat_abs (Σ (length r) (table_term t s r n)) ≤ 2 ^ 60
  table_small =
      rw (← over_row {row = row_of (entries t s) (length r)} refl (length r))
      (whole_small L (scale_of s) r (row_of (entries t s) (length r)) n (matched refl))

-- what `weigh` answers over the cosines is a lower bin, and over the sines, negated in a word, an upper one
module _ {s : Scale} {L : ℕ} {r cosines sines : List ℤ} (ready : Ready s L r cosines sines) (n made : ℕ) (p : ℕ × ℤ) where
  pub cosine_bin : p ≡ (made, Σ (length r) (table_term Cosines s r n)) → n ≤ length r / 2 → p ≡ (made, bin (tables_of s (length r)) (reading r) n)
  unfolding bin
  cosine_bin is h = rw (le-leb n (length r / 2) h) is

  pub sine_bin : p ≡ (made, Σ (length r) (table_term Sines s r n)) → length r / 2 < n
      → SFits w64 (pos 0 -ℤ word p.1) × (◌≡◌ {A = ℕ × ℤ} (p.0, word (pos 0 -ℤ word p.1)) (made, bin (tables_of s (length r)) (reading r) n))
  unfolding bin
  sine_bin is h =
      let first : p.0 ≡ made = ap (λ q. q.0) is in
      let second : p.1 ≡ Σ (length r) (table_term Sines s r n) = ap (λ q. q.1) is in
      let small : nat_abs p.1 ≤ 2 ^ 60 = rw second (table_small ready Sines n) in
      let ρ = p.1 ∷ [] in
      let β = 2 ^ 60 ∷ [] in
      let negated = stored_is ρ β (small, tt) (neg (var 0)) tt ∙ ap neg_ℤ second in
      (run_fits ρ β (small, tt) (neg (var 0)) tt, rw (lt-leb n (length r / 2) h) (cc))
