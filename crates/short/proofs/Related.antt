-- The tables of every short length have the symmetries of that length, at each scale. Assumes nothing.
use Rattle.std.proofs.Common.{◌≡◌, ℕ, Bool, true, ◌&&◌, T, ltb, ltb→lt}
use Rattle.std.specs.Ordering.{int_eq}
use Rattle.algebra.proofs.Tests.{both, below, below_at, int_eq_is}
use Rattle.kernel.specs.Bins.{reading}
use Rattle.tables.specs.declared.scale.Scale.{Scale}
use Rattle.tables.specs.declared.scale.Scale.TheVariants.{Standard, Fine}
use Rattle.tables.specs.Entries.{is_short, row_of, C, S}
use Rattle.tables.proofs.Lengths.{bounds, everywhere, everywhere_at}
use Rattle.short.proofs.Symbols.{cosine_of, sine_of, value_of, Related}

abbrev cosines_agree : Scale → ℕ → ℕ → Bool
cosines_agree s N m = int_eq (reading (row_of (C s) N) m) (value_of (row_of (C s) N) (row_of (S s) N) (cosine_of N m))

abbrev sines_agree : Scale → ℕ → ℕ → Bool
sines_agree s N m = int_eq (reading (row_of (S s) N) m) (value_of (row_of (C s) N) (row_of (S s) N) (sine_of N m))

tested : (s : Scale) → T (everywhere (λ N. below N (λ m. cosines_agree s N m && sines_agree s N m)))
unfolding everywhere below row_of C S
tested Standard = tt
tested Fine = tt

placed : T (everywhere (λ N. below N (λ m. ltb (cosine_of N m).1 18 && ltb (sine_of N m).1 18)))
unfolding everywhere below
placed = tt

pub related : (s : Scale) (N : ℕ) → is_short N ≡ true → Related N (row_of (C s) N) (row_of (S s) N)
related s N e =
    let at = below_at N _ (everywhere_at _ (tested s) N e) in
    let place = below_at N _ (everywhere_at _ placed N e) in
    record {
      few = (bounds N e).1;
      cosine_is = λ m h. int_eq_is _ _ (both (cosines_agree s N m) (sines_agree s N m) (at m h)).0;
      sine_is = λ m h. int_eq_is _ _ (both (cosines_agree s N m) (sines_agree s N m) (at m h)).1;
      cosine_place = λ m h. ltb→lt (cosine_of N m).1 18 (both (ltb (cosine_of N m).1 18) (ltb (sine_of N m).1 18) (place m h)).0;
      sine_place = λ m h. ltb→lt (sine_of N m).1 18 (both (ltb (cosine_of N m).1 18) (ltb (sine_of N m).1 18) (place m h)).1;
    }
