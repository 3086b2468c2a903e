use Rattle.std.proofs.Common.{arith}
use Rattle.short.proofs.Weigh.{cosine_bin, sine_bin}
use Rattle.short.proofs.inputs.Inputs.bin.Goals as goal

pub returns-then-n-self : goal.returns-then-n-self
returns-then-n-self c = cosine_bin c.args.self.now.ready c.args.n _ c.weigh.result c.weigh.ensures (omega (arith, c.if-n-self.true))

pub overflow_sub-result : goal.overflow_sub-result
overflow_sub-result c = (sine_bin c.args.self.now.ready c.args.n _ c.weigh-made.result c.weigh-made.ensures (omega (arith, c.if-n-self.false))).0

pub returns-else-n-self : goal.returns-else-n-self
returns-else-n-self c = (sine_bin c.args.self.now.ready c.args.n _ c.weigh-made.result c.weigh-made.ensures (omega (arith, c.if-n-self.false))).1
