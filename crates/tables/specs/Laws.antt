-- What the tables of a short length are good for. Assumes nothing.
use Rattle.std.specs.Prelude.{◌≡◌, ℕ, ◌≤◌, pos, unsigned_abs}
use Rattle.kernel.specs.Bins.{Symmetric, OnlyZeros}
use Rattle.tables.specs.declared.scale.Scale.{Scale}
use Rattle.tables.specs.declared.scale.Scale.TheVariants.{Standard}
use Rattle.tables.specs.Entries.{scale_of, tables_of, C, S}

-- both tables are symmetric and no larger than their scale; and the transform over the standard one loses nothing
pub record ShortLaws (N : ℕ) : Type 0 where
  pub symmetric : (s : Scale) → Symmetric (tables_of s N)
  pub at_zero : (s : Scale) → C s N 0 ≡ pos (scale_of s)
  pub C_size : (s : Scale) (m : ℕ) → unsigned_abs (C s N m) ≤ scale_of s
  pub S_size : (s : Scale) (m : ℕ) → unsigned_abs (S s N m) ≤ scale_of s
  pub only_zeros : OnlyZeros (tables_of Standard N)
