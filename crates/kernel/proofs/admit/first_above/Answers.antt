use Rattle.std.proofs.Common.{arith, pos, get_or, rules, w64, SFits}
use Rattle.std.proofs.lemmas.Int.{to_z-of_z}
use Rattle.kernel.proofs.First.{first_is, first_none}
use Rattle.kernel.proofs.admit.first_above.Goals as goal

pub returns-then-unsigned_abs-limit : goal.returns-then-unsigned_abs-limit
returns-then-unsigned_abs-limit c =
    let f : SFits w64 (get_or c.args.block.now c.loop-index.index (pos 0)) = search rules in
    let v = simp to_z-of_z at c.unsigned_abs.ensures.value in
    first_is c.args.limit c.args.block.now c.loop-index.index c.loop-index-test.true c.loop-index.invariant (omega arith)

pub returns : goal.returns
returns c = first_none c.args.limit c.args.block.now (λ k h. c.loop-index.invariant k (omega arith))
