use Rattle.std.proofs.lemmas.Slice.Eq.{slice_eq-Decides}
use Rattle.std.proofs.lemmas.Bool.Decides.{Decides-int_eq}
use Rattle.report.proofs.by_both.Goals as goal

pub returns-clause-equal : goal.returns-clause-equal
returns-clause-equal c = slice_eq-Decides Decides-int_eq _ _ _ c.eq.ensures
