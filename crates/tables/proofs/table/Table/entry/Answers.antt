use Rattle.std.proofs.Common.{◌∙◌, ap, get_or, pos, Some, rules}
use Rattle.tables.specs.Entries.{entries}
use Rattle.tables.proofs.Listed.{period, entry_none, entry_some}
use Rattle.tables.proofs.table.Table.entry.Goals as goal

pub returns-in_err-at : goal.returns-in_err-at
returns-in_err-at c =
    let round = period c.args.self c.args.scale c.args.length c.args.m in
    c.from_residual.ensures ∙ entry_none (entries c.args.self c.args.scale) c.args.length c.args.m round c.row-row.ensures.row c.in_err-at.ensures

pub returns : goal.returns
returns c =
    let row = c.row-row.result.now in
    let round = period c.args.self c.args.scale c.args.length c.args.m in
    let some = entry_some (entries c.args.self c.args.scale) c.args.length c.args.m round c.row-row.ensures.row c.in_ok-at.ensures.0 in
    let is = ap (λ i. Some (get_or row i (pos 0))) c.in_ok-at.ensures.1 ∙ some in
    search (rules, is)
