-- What holds of a block and an image that nothing refuses. Assumes nothing.
use Rattle.std.proofs.Common.{◌≡◌, ℕ, ◌<◌, ◌≤◌, List, length, ℤ, nat_abs, Some, None, Ok, Option, sym, refl, arith}
use Rattle.std.specs.Option.{option_map}
use Rattle.std.proofs.lemmas.Bool.Decides.{nat_tests}
use Rattle.std.proofs.lemmas.Option.{none-some}
use Rattle.kernel.specs.declared.fault.Layer.{Layer}
use Rattle.kernel.specs.declared.fault.Unfit.{Unfit}
use Rattle.kernel.specs.declared.told.Told.{Told}
use Rattle.kernel.specs.Bins.{reading}
use Rattle.kernel.specs.declared.fault.KernelFault.TheVariants.{Reading}
use Rattle.kernel.proofs.First.{none_above}
use Rattle.kernel.specs.Refusal.{first_above, misfit, unfit_first, refused, answered}

pub record Admitted (t : Told) (r : List ℤ) (k : ℕ) : Type 0 where
  pub fit : t.fault ≡ None
  pub block : length r ≡ t.length
  pub image : k ≡ t.length
  pub readings : (i : ℕ) → i < length r → nat_abs (reading r i) ≤ t.limit

-- a call that answers Ok was not refused
pub not_refused : {X F : Type 0} (x y : X) (o : Option F) → Ok y ≡ answered x o → o ≡ None
not_refused x y None e = refl
not_refused x y (Some f) e = cc

mapped_none : {X Y : Type 0} (f : X → Y) (o : Option X) → option_map f o ≡ None → o ≡ None
mapped_none f None e = refl
mapped_none f (Some x) e = cc

pub admitted : (t : Told) (layer : Layer) (r : List ℤ) (k : ℕ) → refused t layer r k ≡ None → Admitted t r k
admitted t layer r k e = go t.fault refl e
  where
    go : (f : Option Unfit) → t.fault ≡ f → unfit_first f (misfit layer t.length t.limit r k) ≡ None → Admitted t r k
    go (Some f) p q = absurd (none-some _ (sym q))
    go None p q =
        let block : length r ≡ t.length = grind (arith, nat_tests) in
        let image : k ≡ t.length = grind (arith, nat_tests) in
        let m : option_map (Reading layer) (first_above t.limit r) ≡ None = grind (arith, nat_tests) in
        record { fit = p; block = block; image = image; readings = none_above t.limit r (mapped_none (Reading layer) (first_above t.limit r) m) }
