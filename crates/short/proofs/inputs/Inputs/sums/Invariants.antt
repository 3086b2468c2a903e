use Rattle.std.proofs.Common.{◌≡◌, ℕ, ◌*◌, ◌<◌, length}
use Rattle.kernel.specs.Bins.{reading, bin}
use Rattle.tables.specs.declared.scale.Scale.TheVariants.{Standard}
use Rattle.tables.specs.Entries.{tables_of}
use Rattle.short.proofs.inputs.Inputs.sums.Given as goal

abbrev pub invariant-loop-n : goal.invariant-loop-n
invariant-loop-n l =
    let r = l.self.x.now in
    (l.count ≡ l.n * length r)
    × ((i : ℕ) → i < l.n → reading l.image i ≡ bin (tables_of Standard (length r)) (reading r) i)
