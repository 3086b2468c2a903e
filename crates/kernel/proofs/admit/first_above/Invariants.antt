use Rattle.std.proofs.Common.{◌≡◌, ℕ, ◌<◌, false, ltb, nat_abs}
use Rattle.kernel.specs.Bins.{reading}
use Rattle.kernel.proofs.admit.first_above.Given as goal

abbrev pub invariant-loop-index : goal.invariant-loop-index
invariant-loop-index l = (k : ℕ) → k < l.index → ltb l.limit (nat_abs (reading l.block k)) ≡ false
