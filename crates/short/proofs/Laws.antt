-- The room that the standard tables leave, and what a short kernel takes. Assumes nothing.
use Rattle.std.proofs.Common.{◌≡◌, ℕ, ◌≤◌, Bool, true, false, cond, List, length, ℤ, nat_abs, Ok, sym, refl, ap, ◌∙◌, subst, lit≤}
use Rattle.std.proofs.lemmas.Option.{none-some}
use Rattle.algebra.specs.Units.{Units}
use Rattle.kernel.specs.declared.fault.Layer.{Layer}
use Rattle.kernel.specs.declared.told.Told.{Told}
use Rattle.kernel.specs.Meaning.{told}
use Rattle.kernel.specs.Refusal.{refused, answered}
use Rattle.kernel.proofs.Admitted.{Admitted, admitted, not_refused}
use Rattle.tables.specs.declared.scale.Scale.TheVariants.{Standard}
use Rattle.tables.specs.declared.scale.Scale.{Scale}
use Rattle.tables.specs.declared.table.Table.{Table}
use Rattle.tables.specs.declared.table.Table.TheVariants.{Cosines, Sines}
use Rattle.tables.specs.Entries.{scale_of, is_short, row_of, entries, C, S}
use Rattle.tables.proofs.Laws.{short_laws}
use Rattle.tables.proofs.Listed.{row_length, row_at}
use Rattle.short.specs.Room.{Small, Ready}
use Rattle.short.specs.Short.{short_limit, fit_short, unfit_short, short}

pub standard_units : Units (scale_of Standard) short_limit
standard_units = record { entry = lit≤ tt; reading = lit≤ tt; both = lit≤ tt }

-- what a short kernel admits
pub record Taken (N : ℕ) (r : List ℤ) (k : ℕ) : Type 0 where
  pub short : is_short N ≡ true
  pub block : length r ≡ N
  pub image : k ≡ N
  pub readings : Small short_limit r

pub taken : (N count : ℕ) (t : Told) (layer : Layer) (r : List ℤ) (k : ℕ) (y : Unit {0}) → t ≡ told (short N count) → Ok y ≡ answered tt (refused t layer r k) → Taken N r k
taken N count t layer r k y is e = go (is_short N) refl (subst (λ t. Admitted t r k) is (admitted t layer r k (not_refused tt y (refused t layer r k) e)))
  where
    go : (b : Bool) → is_short N ≡ b → Admitted (told (cond b (fit_short N count) (unfit_short N))) r k → Taken N r k
    go true s a = record { short = s; block = a.block; image = a.image; readings = a.readings }
    go false s a = absurd (none-some _ (sym a.fit))

-- no entry of a table, and so none of a row, is larger in size than the scale
pub entry_small : (t : Table) (s : Scale) (N : ℕ) → is_short N ≡ true → (m : ℕ) → nat_abs (entries t s N m) ≤ scale_of s
entry_small Cosines s N e = (short_laws N e).C_size s
entry_small Sines s N e = (short_laws N e).S_size s

pub entries_small : (t : Table) (s : Scale) (N : ℕ) {row : List ℤ} → is_short N ≡ true → row ≡ row_of (entries t s) N → Small (scale_of s) row
entries_small t s N {row} e is k h = rw (is, row_at (entries t s) N e k (rw (← row_length (entries t s) N e, ← is) h)) (entry_small t s N e k)

-- the rows of a length at a scale, beside a block of that length
pub ready_by : {s : Scale} {L N : ℕ} {r cosines sines : List ℤ} → Units (scale_of s) L → length r ≡ N → is_short N ≡ true → Small L r
    → cosines ≡ row_of (C s) N → sines ≡ row_of (S s) N → Ready s L r cosines sines
ready_by {s} {L} {N} {r} {cosines} {sines} units whole e small c_are s_are =
    record {
      short = rw whole e;
      cosines_are = rw whole c_are;
      sines_are = rw whole s_are;
      cosines_whole = ap length c_are ∙ row_length (C s) N e ∙ sym whole;
      sines_whole = ap length s_are ∙ row_length (S s) N e ∙ sym whole;
      readings = small;
      units = units;
    }
