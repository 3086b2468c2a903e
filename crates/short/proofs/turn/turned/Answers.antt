use Rattle.std.proofs.Common.{pos, ◌∙◌, arith}
use Rattle.algebra.proofs.Ring.{lit, ◌⊕◌, ◌⊖◌, ◌⊗◌}
use Rattle.short.proofs.Lines.{counted, answered}
use Rattle.short.proofs.Turns.{e, t, m, sum, all, first, second, last, turn, fits, sum_fits, divides, third_is, turns_are}
use Rattle.short.proofs.turn.turned.Goals as goal

pub overflow_add-sum-2 : goal.overflow_add-sum-2
overflow_add-sum-2 c = fits c.requires.small sum tt

pub overflow_add-x-2 : goal.overflow_add-x-2
overflow_add-x-2 c = fits c.requires.small (t 0 ⊕ t 1 ⊕ t 2) tt

pub product-made-requires-clause-room : goal.product-made-requires-clause-room
product-made-requires-clause-room c = fits c.requires.small all tt

pub overflow_mul-a : goal.overflow_mul-a
overflow_mul-a c = fits c.requires.small (lit (pos 3) ⊗ e 0) tt

pub overflow_sub-a : goal.overflow_sub-a
overflow_sub-a c = fits c.requires.small (lit (pos 3) ⊗ e 0 ⊖ sum) tt

pub overflow_sub-x : goal.overflow_sub-x
overflow_sub-x c = fits c.requires.small (t 0 ⊖ t 2) tt

pub product-made-requires-2-clause-room : goal.product-made-requires-2-clause-room
product-made-requires-2-clause-room c = fits c.requires.small first tt

pub overflow_mul-b : goal.overflow_mul-b
overflow_mul-b c = fits c.requires.small (lit (pos 3) ⊗ e 1) tt

pub overflow_sub-b : goal.overflow_sub-b
overflow_sub-b c = fits c.requires.small (lit (pos 3) ⊗ e 1 ⊖ sum) tt

pub overflow_sub-y : goal.overflow_sub-y
overflow_sub-y c = fits c.requires.small (t 1 ⊖ t 2) tt

pub product-made-requires-3-clause-room : goal.product-made-requires-3-clause-room
product-made-requires-3-clause-room c = fits c.requires.small second tt

pub overflow_mul-c : goal.overflow_mul-c
overflow_mul-c c = fits c.requires.small (lit (pos 3) ⊗ e 2) tt

pub overflow_sub-c : goal.overflow_sub-c
overflow_sub-c c = fits c.requires.small (lit (pos 3) ⊗ e 2 ⊖ sum) tt

pub overflow_sub-y-2 : goal.overflow_sub-y-2
overflow_sub-y-2 c = fits c.requires.small (t 1 ⊖ t 0) tt

pub product-made-requires-4-clause-room : goal.product-made-requires-4-clause-room
product-made-requires-4-clause-room c = fits c.requires.small last tt

pub overflow_add-all : goal.overflow_add-all
overflow_add-all c = sum_fits c.requires.small c.product-made.ensures c.product-made-2.ensures c.product-made-3.ensures c.product-made-4.ensures (m 0 ⊕ m 1) tt

pub overflow_add-all-2 : goal.overflow_add-all-2
overflow_add-all-2 c = sum_fits c.requires.small c.product-made.ensures c.product-made-2.ensures c.product-made-3.ensures c.product-made-4.ensures (m 0 ⊕ m 1 ⊕ m 2) tt

pub divided-requires-clause-exact : goal.divided-requires-clause-exact
divided-requires-clause-exact c = divides c.requires.small c.product-made.ensures c.product-made-2.ensures c.product-made-3.ensures c.product-made-4.ensures (m 0 ⊕ m 1 ⊕ m 2) (turn 0) tt tt

pub overflow_sub-all : goal.overflow_sub-all
overflow_sub-all c = sum_fits c.requires.small c.product-made.ensures c.product-made-2.ensures c.product-made-3.ensures c.product-made-4.ensures (m 0 ⊖ m 1) tt

pub overflow_add-all-3 : goal.overflow_add-all-3
overflow_add-all-3 c = sum_fits c.requires.small c.product-made.ensures c.product-made-2.ensures c.product-made-3.ensures c.product-made-4.ensures (m 0 ⊖ m 1 ⊕ m 3) tt

pub divided-requires-2-clause-exact : goal.divided-requires-2-clause-exact
divided-requires-2-clause-exact c = divides c.requires.small c.product-made.ensures c.product-made-2.ensures c.product-made-3.ensures c.product-made-4.ensures (m 0 ⊖ m 1 ⊕ m 3) (turn 1) tt tt

pub overflow_sub-all-2 : goal.overflow_sub-all-2
overflow_sub-all-2 c = sum_fits c.requires.small c.product-made.ensures c.product-made-2.ensures c.product-made-3.ensures c.product-made-4.ensures (m 0 ⊖ m 2) tt

pub overflow_sub-all-3 : goal.overflow_sub-all-3
overflow_sub-all-3 c = sum_fits c.requires.small c.product-made.ensures c.product-made-2.ensures c.product-made-3.ensures c.product-made-4.ensures (m 0 ⊖ m 2 ⊖ m 3) tt

pub divided-requires-3-clause-exact : goal.divided-requires-3-clause-exact
divided-requires-3-clause-exact c = divides c.requires.small c.product-made.ensures c.product-made-2.ensures c.product-made-3.ensures c.product-made-4.ensures (m 0 ⊖ m 2 ⊖ m 3) (turn 2) tt tt

pub returns : goal.returns
returns c =
    let count = counted c.product-made-4.ensures ∙ omega (arith, counted c.product-made.ensures, counted c.product-made-2.ensures, counted c.product-made-3.ensures) in
    answered count
    (turns_are c.requires.small c.divided.result c.divided-2.result c.divided-3.result
    (third_is c.requires.small c.product-made.ensures c.product-made-2.ensures c.product-made-3.ensures c.product-made-4.ensures (m 0 ⊕ m 1 ⊕ m 2) (turn 0) tt tt c.divided.ensures)
    (third_is c.requires.small c.product-made.ensures c.product-made-2.ensures c.product-made-3.ensures c.product-made-4.ensures (m 0 ⊖ m 1 ⊕ m 3) (turn 1) tt tt c.divided-2.ensures)
    (third_is c.requires.small c.product-made.ensures c.product-made-2.ensures c.product-made-3.ensures c.product-made-4.ensures (m 0 ⊖ m 2 ⊖ m 3) (turn 2) tt tt c.divided-3.ensures))
