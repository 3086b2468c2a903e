use Rattle.std.proofs.Common.{neg_ℤ, map, sym, ap, ◌∙◌}
use Rattle.report.proofs.Opposite.{sample_opposite}
use Rattle.report.proofs.cancelling.Goals as goal

pub returns-clause-cancel : goal.returns-clause-cancel
returns-clause-cancel g c =
    c.attempt-2.ensures.writes ∙ sample_opposite (g.K.Kernel.meaning c.args.kernel.now) ∙ ap (map neg_ℤ) (sym c.attempt.ensures.writes)
