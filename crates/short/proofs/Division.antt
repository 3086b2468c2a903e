-- The quotient of a number that another one divides. Assumes nothing.
use Rattle.std.proofs.Common.{◌≡◌, ◌*◌, ◌<◌, ℤ, pos, ◌-ℤ◌, ◌*ℤ◌, nat_abs, [], ◌∷◌, ap, ◌∙◌, mul-le-mul, arith, w64, SFits, to_z, of_z}
use Rattle.std.specs.Prelude.{int_div, int_rem, ◌<ℤ◌}
use native.Mathlib.Decide.{dec_lt}
use Rattle.std.proofs.lemmas.Int.{ints, to_z-of_z, quot-rem, rem_below, quot_fits}
use Rattle.algebra.proofs.Integers.{abs-mul}
use Rattle.algebra.proofs.Ring.{ring, var, ◌⊖◌, ◌⊗◌}
use Rattle.short.specs.Room.{Multiple}

-- nothing remains, so the quotient is the other factor
quotient : (x d t : ℤ) → 0 < nat_abs d → x ≡ d *ℤ t → int_div x d ≡ t
quotient x d t some is =
    let q = int_div x d in
    let rest : int_rem x d ≡ d *ℤ t -ℤ q *ℤ d = omega (arith, ints, quot-rem x d, is) in
    let apart = ring (d ∷ t ∷ q ∷ []) (var 0 ⊗ var 1 ⊖ var 2 ⊗ var 0) (var 0 ⊗ (var 1 ⊖ var 2)) tt in
    let size : nat_abs (int_rem x d) ≡ nat_abs d * nat_abs (t -ℤ q) = ap nat_abs (rest ∙ apart) ∙ abs-mul d (t -ℤ q) in
    elim (dec_lt 0 (nat_abs (t -ℤ q))) [
      | yes h ↦
          let more = mul-le-mul {n₁ = nat_abs d} {m₁ = 1} {n₂ = nat_abs d} {m₂ = nat_abs (t -ℤ q)} (omega arith) (omega arith) in
          absurd (omega (arith, rem_below x d some, size, more))
      | no h ↦ omega (arith, ints)
    ]

-- the same as the machine works it
pub exact : (x d : ℤ) → SFits w64 x → pos 0 <ℤ d → Multiple d x → x ≡ d *ℤ to_z w64 (of_z w64 (int_div (to_z w64 (of_z w64 x)) d))
exact x d fits above by =
    let q = quotient x d by.times (omega (arith, ints, above)) by.is in
    rw (to_z-of_z w64 x fits, to_z-of_z w64 (int_div x d) (quot_fits w64 x d fits above), q) by.is
