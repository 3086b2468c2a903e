use Rattle.std.proofs.Common.{◌≡◌, ◌+◌, ◌*◌, ◌%◌, length, refl, ◌∙◌, mod-lt, mul-zero, arith}
use native.Mathlib.Nat.{zero-mod}
use Rattle.algebra.specs.Sums.{Σ}
use Rattle.algebra.proofs.Congruence.{remainder_step}
use Rattle.short.proofs.Lines.{counted}
use Rattle.short.proofs.Weigh.{table_made, table_added}
use Rattle.short.proofs.inputs.Inputs.weigh.Goals as goal
use Rattle.short.proofs.inputs.Inputs.weigh.Goals.{then-at-row, else-at-row}

pub loop-value-init : goal.loop-value-init
unfolding Σ
loop-value-init c = (omega arith, refl, rw (mul-zero, zero-mod), omega arith)

pub product-next-requires-clause-room : goal.product-next-requires-clause-room
product-next-requires-clause-room c =
    let l = c.loop-value in
    (table_made c.args.self.now.ready c.args.table c.args.n l.value-index l.at c.row-row.ensures.row c.loop-value-test.true l.invariant.2).0

pub overflow_add-sum : goal.overflow_add-sum
overflow_add-sum c =
    let l = c.loop-value in
    (table_added c.args.self.now.ready c.args.table c.args.n l.value-index l.at _ _ c.product-next.result c.row-row.ensures.row c.loop-value-test.true l.invariant.2 l.invariant.1 c.product-next.ensures).0

pub loop-value-preserved : goal.loop-value-preserved
loop-value-preserved c =
    let l = c.loop-value in
    let N = length c.args.self.now.x.now in
    let n = c.args.n in
    let k = l.value-index in
    let sum = (table_added c.args.self.now.ready c.args.table n k l.at _ _ c.product-next.result c.row-row.ensures.row c.loop-value-test.true l.invariant.2 l.invariant.1 c.product-next.ensures).1 in
    let step = remainder_step N n k l.at c.if-at-row.at c.requires.step l.invariant.2 in
    let next : c.if-at-row.at ≡ n * (k + 1) % N =
    elim c.if-at-row.branch [
      | then-at-row w ↦ step (λ h. absurd (omega (arith, w.if-at-row.true, c.row-row.ensures.whole))) (λ _. rw (← c.row-row.ensures.whole) w.at-is)
      | else-at-row w ↦ step (λ _. w.at-is) (λ h. absurd (omega (arith, w.if-at-row.false, c.row-row.ensures.whole)))
    ] in
    (counted c.product-next.ensures ∙ omega arith, sum, next, rw next (mod-lt (n * (k + 1)) (omega arith)))
