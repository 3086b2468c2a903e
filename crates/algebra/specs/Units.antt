-- What leaves room in a 64-bit word. Assumes nothing.
use Rattle.std.specs.Prelude.{ℕ, ◌*◌, ◌^◌, ◌≤◌}

-- the largest entry of a table and the largest reading, where hundreds of either, and of their products, have room in a word
pub record Units (g L : ℕ) : Type 0 where
  pub entry : g ≤ 2 ^ 54
  pub reading : L ≤ 2 ^ 54
  pub both : g * L ≤ 2 ^ 54
