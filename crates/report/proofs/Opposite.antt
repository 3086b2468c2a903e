-- The sample and its negative are refused alike, and otherwise have opposite bins. Assumes nothing.
use Rattle.std.proofs.Common.{◌≡◌, map, pos, neg_ℤ, Some, None, Option, refl}
use Rattle.std.specs.Prelude.{replicate}
use Rattle.kernel.specs.declared.fault.KernelFault.{KernelFault}
use Rattle.kernel.specs.Bins.{image}
use Rattle.kernel.specs.Meaning.{Meaning}
use Rattle.kernel.specs.Refusal.{refusal, granted, image_after}
use Rattle.kernel.proofs.Opposite.{image_opposite}
use Rattle.report.specs.Shown.{sample}

-- what zeros hold after the sample's negative, and after the sample
pub sample_opposite : (m : Meaning) → image_after m (map neg_ℤ sample) (replicate 7 (pos 0)) ≡ map neg_ℤ (image_after m sample (replicate 7 (pos 0)))
sample_opposite m = go (refusal m sample 7)
  where
    go : (f : Option KernelFault) → granted f (image m.tables (map neg_ℤ sample)) (replicate 7 (pos 0)) ≡ map neg_ℤ (granted f (image m.tables sample) (replicate 7 (pos 0)))
    go None = image_opposite m.tables sample
    go (Some f) = refl
