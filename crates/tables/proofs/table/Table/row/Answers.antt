use Rattle.std.proofs.Common.{◌≡◌, [], get_or, rules}
use Rattle.tables.specs.declared.scale.Scale.TheVariants.{Standard, Fine}
use Rattle.tables.specs.Entries.{C, S, row_of}
use Rattle.tables.proofs.Listed.{rows_of, row_is}
use Rattle.tables.proofs.Right.{right}
use Rattle.tables.proofs.table.Table.row.Goals as goal
use Rattle.tables.proofs.table.Table.row.Goals.{in-Cosines-Standard, in-Cosines-Fine, in-Sines-Standard, in-Sines-Fine}

pub returns-clause-row : goal.returns-clause-row
unfolding C S row_of
returns-clause-row c =
    elim c.match-self.branch [
      | in-Cosines-Standard w ↦
          let listed : c.unwrap_or.result.now ≡ get_or (rows_of (C Standard)) c.args.length [] = search rules in
          row_is c.args.length w.in-Cosines-Standard.is-0 w.in-Cosines-Standard.is-1 listed
      | in-Cosines-Fine w ↦
          let listed : c.unwrap_or.result.now ≡ get_or (rows_of (C Fine)) c.args.length [] = search rules in
          row_is c.args.length w.in-Cosines-Fine.is-0 w.in-Cosines-Fine.is-1 listed
      | in-Sines-Standard w ↦
          let listed : c.unwrap_or.result.now ≡ get_or (rows_of (S Standard)) c.args.length [] = search rules in
          row_is c.args.length w.in-Sines-Standard.is-0 w.in-Sines-Standard.is-1 listed
      | in-Sines-Fine w ↦
          let listed : c.unwrap_or.result.now ≡ get_or (rows_of (S Fine)) c.args.length [] = search rules in
          row_is c.args.length w.in-Sines-Fine.is-0 w.in-Sines-Fine.is-1 listed
    ]

pub returns-clause-rule : goal.returns-clause-rule
returns-clause-rule c = right c.args.self c.args.scale
