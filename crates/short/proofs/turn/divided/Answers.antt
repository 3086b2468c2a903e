use Rattle.std.proofs.Common.{to_z, w64}
use Rattle.short.proofs.Division.{exact}
use Rattle.short.proofs.turn.divided.Goals as goal

pub returns : goal.returns
returns g c = exact c.args.x (to_z w64 g.row.D) c.ranges.x c.requires.above c.requires.exact
