use Rattle.short.proofs.Laws.{standard_units, ready_by}
use Rattle.short.proofs.inputs.Inputs.new.Goals as goal

pub invariant_of-result : goal.invariant_of-result
invariant_of-result c = record { ready = ready_by standard_units c.requires.whole c.requires.short c.requires.readings c.row.ensures.row c.row-2.ensures.row }
