-- Why only the block of zeros has bins that are all zero: tables by which the bins give the readings back, up to a factor.
-- Assumes nothing.
use Rattle.std.proofs.Common.{◌≡◌, ℕ, pred, ◌*◌, ◌%◌, true, cond, ◌||◌, T, eqb, List, [], ◌∷◌, get_or, ℤ, pos, ◌*ℤ◌, sym, ◌∙◌}
use Rattle.algebra.specs.Sums.{Σ}
use Rattle.algebra.proofs.Inverse.{inverts, only_zeros}
use Rattle.algebra.proofs.Tests.{below}
use Rattle.kernel.specs.Bins.{Tables, OnlyZeros}
use Rattle.kernel.proofs.Factor.{factor, bin_factor}
use Rattle.tables.specs.declared.scale.Scale.TheVariants.{Standard}
use Rattle.tables.specs.Entries.{is_short, neg, evenly, oddly, tables_of, C, S}
use Rattle.tables.proofs.Lengths.{everywhere, everywhere_at}

-- the dual tables up to the half length, a row for each length from 0 to 9
dual_cosines : List (List ℤ)
dual_cosines = [] ∷ [] ∷ [] ∷
    (pos 28378 ∷ neg 14189 ∷ []) ∷
    (pos 1 ∷ pos 0 ∷ neg 1 ∷ []) ∷
    (pos 170731710012 ∷ pos 52758316657 ∷ neg 138124171663 ∷ []) ∷
    (pos 28378 ∷ pos 14189 ∷ neg 14189 ∷ neg 28378 ∷ []) ∷
    (pos 4782801338943485264678 ∷ pos 2982165952677951919311 ∷ neg 1064351839369711373105 ∷ neg 4309214782779983178545 ∷ []) ∷
    (pos 11585 ∷ pos 8192 ∷ pos 0 ∷ neg 8192 ∷ neg 11585 ∷ []) ∷
    (pos 1150219998958774638538 ∷ pos 881117107738549592064 ∷ pos 199727366067737518080 ∷ neg 575109999479387319269 ∷ neg 1080844473806287110144 ∷ []) ∷
    []

dual_sines : List (List ℤ)
dual_sines = [] ∷ [] ∷ [] ∷
    (pos 0 ∷ pos 24576 ∷ []) ∷
    (pos 0 ∷ pos 1 ∷ pos 0 ∷ []) ∷
    (pos 0 ∷ pos 162378567680 ∷ pos 100353331200 ∷ []) ∷
    (pos 0 ∷ pos 24576 ∷ pos 24576 ∷ pos 0 ∷ []) ∷
    (pos 0 ∷ pos 3739437013086525599744 ∷ pos 4662751581999147470848 ∷ pos 2075138673973390635008 ∷ []) ∷
    (pos 0 ∷ pos 8192 ∷ pos 11585 ∷ pos 8192 ∷ pos 0 ∷ []) ∷
    (pos 0 ∷ pos 739331845223899275264 ∷ pos 1132762256451202621440 ∷ pos 996116946028995895296 ∷ pos 393430411227303346176 ∷ []) ∷
    []

-- how many times its reading a length's dual tables give
times : List ℕ
times = 0 ∷ 0 ∷ 0 ∷ 1394835456 ∷ 65536 ∷ 13986341684183040 ∷ 2789670912 ∷ 548529919960750438035390464 ∷ 1518469120 ∷ 169606840166465073100259328 ∷ []

dual : ℕ → Tables
dual N = record { N = N; C = λ m. evenly N (get_or dual_cosines N []) (m % N); S = λ m. oddly N (get_or dual_sines N []) (m % N) }

-- bin n's part in reading j: bin 0 and the middle bin once, every other twice
back : ℕ → ℕ → ℕ → ℤ
back N j n = cond (eqb n 0 || eqb (2 * n) N) (pos 1) (pos 2) *ℤ factor (dual N) n j

certificate : T (everywhere (λ N. inverts N (factor (tables_of Standard N)) (back N) (pred (get_or times N 0))))
unfolding everywhere below inverts Σ C S dual_cosines dual_sines times dual back
certificate = tt

pub short_only_zeros : (N : ℕ) → is_short N ≡ true → OnlyZeros (tables_of Standard N)
short_only_zeros N e r h =
    let t : Tables = tables_of Standard N in
    only_zeros N (factor t) (back N) (pred (get_or times N 0)) (everywhere_at _ certificate N e) r
    (λ n l. sym (bin_factor t r n) ∙ h n l)
