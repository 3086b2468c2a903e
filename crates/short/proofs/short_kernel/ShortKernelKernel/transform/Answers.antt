use Rattle.short.specs.Kernels.{short_length}
use Rattle.short.proofs.Laws.{taken}
use Rattle.short.proofs.short_kernel.ShortKernelKernel.transform.Goals as goal

pub bins-requires-clause-readings : goal.bins-requires-clause-readings
bins-requires-clause-readings g c = (taken (short_length c.args.self.now) _ c.tell.result _ c.args.block.now _ _ c.tell.ensures c.in_ok-admit.ensures).readings
