use Rattle.std.proofs.Common.{◌≡◌, sym, ◌∙◌, rules}
use Rattle.tables.specs.Entries.{is_short}
use Rattle.tables.proofs.Laws.{short_laws}
use Rattle.tables.proofs.table.is_short.Goals as goal

pub returns-clause-laws : goal.returns-clause-laws
returns-clause-laws c =
    let same : c.contains.result ≡ is_short c.args.length = search rules in
    λ e. short_laws c.args.length (sym same ∙ e)
