-- Short kernels of one length whose tables are alike write the same, whatever products they make. Assumes nothing.
use Rattle.std.proofs.Common.{◌≡◌, ℕ, Bool, true, false, cond, List, length, ℤ, refl, ap₂}
use Rattle.kernel.specs.Bins.{Alike}
use Rattle.kernel.specs.Refusal.{refusal, granted, image_after}
use Rattle.kernel.proofs.Alike.{Alike-image}
use Rattle.tables.specs.Entries.{is_short}
use Rattle.short.specs.Short.{fit_short, unfit_short, short}

same_refusal : (N a b : ℕ) (r : List ℤ) (k : ℕ) → refusal (short N a) r k ≡ refusal (short N b) r k
same_refusal N a b r k = go (is_short N)
  where
    go : (d : Bool) → refusal (cond d (fit_short N a) (unfit_short N)) r k ≡ refusal (cond d (fit_short N b) (unfit_short N)) r k
    go true = refl
    go false = refl

pub same_after : (N a b : ℕ) (r old : List ℤ) → Alike (short N a).tables (short N b).tables → image_after (short N a) r old ≡ image_after (short N b) r old
same_after N a b r old alike = ap₂ (λ f new. granted f new old) (same_refusal N a b r (length old)) (Alike-image alike r)
