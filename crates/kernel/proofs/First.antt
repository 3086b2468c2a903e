-- The first reading above a limit, by what is known of the readings before it. Assumes nothing.
use Rattle.std.proofs.Common.{◌≡◌, ℕ, ◌<◌, ◌≤◌, false, ltb, List, length, ℤ, pos, nat_abs, Some, None, arith}
use Rattle.std.specs.List.{position_or_len}
use Rattle.std.proofs.lemmas.Bool.Decides.{nat_tests}
use Rattle.std.proofs.lemmas.List.Sums.{position_or_len_is, fails_before_first}
use Rattle.kernel.specs.Bins.{reading}
use Rattle.kernel.specs.Refusal.{first_above}

module _ (limit : ℕ) (r : List ℤ) where
  pub first_is : (i : ℕ) → i < length r → ((k : ℕ) → k < i → ltb limit (nat_abs (reading r k)) ≡ false) → limit < nat_abs (reading r i) → Some i ≡ first_above limit r
  first_is i l before at =
      let e = position_or_len_is (λ x. ltb limit (nat_abs x)) r i (pos 0) (omega arith) before (λ _. grind (arith, nat_tests)) in
      grind (arith, nat_tests)

  pub first_none : ((k : ℕ) → k < length r → ltb limit (nat_abs (reading r k)) ≡ false) → None ≡ first_above limit r
  first_none all =
      let e = position_or_len_is (λ x. ltb limit (nat_abs x)) r (length r) (pos 0) (omega arith) all (λ h. absurd (omega arith)) in
      grind (arith, nat_tests)

  pub none_above : first_above limit r ≡ None → (i : ℕ) → i < length r → nat_abs (reading r i) ≤ limit
  none_above e i l =
      let h : length r ≤ position_or_len (λ x. ltb limit (nat_abs x)) r = grind (arith, nat_tests) in
      let f : ltb limit (nat_abs (reading r i)) ≡ false = fails_before_first (λ x. ltb limit (nat_abs x)) r i (pos 0) (omega arith) in
      grind (arith, nat_tests)
