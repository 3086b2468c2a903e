-- The rows of a table, as they are defined and as the code lists them. Assumes nothing.
use Rattle.std.proofs.Common.{◌≡◌, ℕ, zero, suc, ◌%◌, ◌<◌, Bool, true, false, cond, List, [], map, length, get_or, ℤ, pos, Some, None, sym, refl, ap, ◌∙◌, mod-lt, arith}
use Rattle.std.specs.List.{range_with_len}
use native.Mathlib.Nat.{mod-mod}
use Rattle.std.proofs.lemmas.List.FromFn.{length-map-range_with_len, get_or-map-range_with_len}
use Rattle.std.proofs.lemmas.Bool.Decides.{nat_tests}
use Rattle.tables.specs.declared.table.Table.{Table}
use Rattle.tables.specs.declared.table.Table.TheVariants.{Cosines, Sines}
use Rattle.tables.specs.Entries.{is_short, row_of, entries, C, S}
use Rattle.tables.specs.declared.scale.Scale.{Scale}
use Rattle.tables.proofs.Lengths.{bounds}

module _ (table : ℕ → ℕ → ℤ) (N : ℕ) where
  pub row_none : is_short N ≡ false → row_of table N ≡ []
  unfolding row_of
  row_none e = rw e

  pub row_length : is_short N ≡ true → length (row_of table N) ≡ N
  unfolding row_of
  row_length e = rw e (length-map-range_with_len (table N) 0 N)

  pub row_at : is_short N ≡ true → (i : ℕ) → i < N → get_or (row_of table N) i (pos 0) ≡ table N i
  unfolding row_of
  row_at e i h = rw e (get_or-map-range_with_len (table N) 0 N i i (pos 0) h (omega arith))

-- the rows of a table, as the code lists them
abbrev pub rows_of : (ℕ → ℕ → ℤ) → List (List ℤ)
rows_of t = map (row_of t) (range_with_len 0 10)

pub listed : (t : ℕ → ℕ → ℤ) (N : ℕ) → get_or (rows_of t) N [] ≡ row_of t N
unfolding row_of
listed t zero = refl
listed t (suc zero) = refl
listed t (suc (suc zero)) = refl
listed t (suc (suc (suc zero))) = refl
listed t (suc (suc (suc (suc zero)))) = refl
listed t (suc (suc (suc (suc (suc zero))))) = refl
listed t (suc (suc (suc (suc (suc (suc zero)))))) = refl
listed t (suc (suc (suc (suc (suc (suc (suc zero))))))) = refl
listed t (suc (suc (suc (suc (suc (suc (suc (suc zero)))))))) = refl
listed t (suc (suc (suc (suc (suc (suc (suc (suc (suc zero))))))))) = refl
listed t (suc (suc (suc (suc (suc (suc (suc (suc (suc (suc n)))))))))) = sym (row_none t (suc (suc (suc (suc (suc (suc (suc (suc (suc (suc n)))))))))) (grind (arith, nat_tests)))

-- the row of a table at scale s, from the rows as the code lists them at scale u, where s is u
pub row_of_lem : (t : Scale → ℕ → ℕ → ℤ) (s u : Scale) (N : ℕ) (row : List ℤ) → row ≡ get_or (rows_of (t u)) N [] → s ≡ u → row ≡ row_of (t s) N
row_of_lem t s u N row e is = e ∙ listed (t u) N ∙ ap (λ v. row_of (t v) N) (sym is)

-- the same where the table is u
pub row_is : {t u : Table} {s v : Scale} (N : ℕ) {row : List ℤ} → t ≡ u → s ≡ v → row ≡ get_or (rows_of (entries u v)) N [] → row ≡ row_of (entries t s) N
row_is {t} {u} {s} {v} N {row} t_is s_is e = rw t_is (row_of_lem (entries u) s v N row e s_is)

pub period : (t : Table) (s : Scale) (N m : ℕ) → entries t s N (m % N) ≡ entries t s N m
unfolding C S
period Cosines s N m = rw mod-mod
period Sines s N m = rw mod-mod

-- entry m of a row, round its end, where the table has the row's period
module _ (table : ℕ → ℕ → ℤ) (N m : ℕ) (round : table N (m % N) ≡ table N m) {row : List ℤ} (e : row ≡ row_of table N) where
  pub entry_none : (0 < length row → ⊥) → None ≡ cond (is_short N) (Some (table N m)) None
  entry_none none = go (is_short N) refl
    where
      go : (b : Bool) → is_short N ≡ b → None ≡ cond b (Some (table N m)) None
      go true d = absurd (none (rw (e, row_length table N d) (omega (arith, (bounds N d).0))))
      go false d = refl

  pub entry_some : 0 < length row → Some (get_or row (m % length row) (pos 0)) ≡ cond (is_short N) (Some (table N m)) None
  entry_some some = go (is_short N) refl
    where
      go : (b : Bool) → is_short N ≡ b → Some (get_or row (m % length row) (pos 0)) ≡ cond b (Some (table N m)) None
      go true d =
          let l : length row ≡ N = ap length e ∙ row_length table N d in
          let at : m % N < N = mod-lt m {m = N} (omega (arith, (bounds N d).0)) in
          rw (l, e, row_at table N d (m % N) at, round)
      go false d =
          let none : length row ≡ 0 = rw (e, row_none table N d) in
          absurd (omega arith)
