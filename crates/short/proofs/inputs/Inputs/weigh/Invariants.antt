use Rattle.std.proofs.Common.{◌≡◌, ◌+◌, ◌*◌, ◌%◌, ◌<◌, length}
use Rattle.algebra.specs.Sums.{Σ}
use Rattle.tables.specs.declared.scale.Scale.TheVariants.{Standard}
use Rattle.short.proofs.Weigh.{table_term}
use Rattle.short.proofs.inputs.Inputs.weigh.Given as goal

abbrev pub invariant-loop-value : goal.invariant-loop-value
invariant-loop-value l =
    (l.made ≡ l.count + l.value-index)
    × (l.sum ≡ Σ l.value-index (table_term l.fn.table Standard l.self.x.now l.n))
    × (l.at ≡ l.n * l.value-index % length l.self.x.now)
    × (l.at < length l.self.x.now)
