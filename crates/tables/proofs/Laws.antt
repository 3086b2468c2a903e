-- The tables of a short length keep the laws of a kernel's tables. Assumes nothing.
use Rattle.std.proofs.Common.{◌≡◌, ℕ, ◌+◌, ◌-◌, ◌%◌, ◌≤◌, true, T, leb, ℤ, pos, neg_ℤ, nat_abs, sym, ap, ◌∙◌, subst, mod-lt, arith, leb→le}
use native.Mathlib.Nat.{add-mod_right}
use Rattle.std.specs.Ordering.{int_eq}
use Rattle.algebra.proofs.Tests.{below, below_at, int_eq_is}
use Rattle.kernel.specs.Bins.{Symmetric}
use Rattle.tables.specs.declared.scale.Scale.{Scale}
use Rattle.tables.specs.declared.scale.Scale.TheVariants.{Standard, Fine}
use Rattle.tables.specs.declared.table.Table.{Table}
use Rattle.tables.specs.declared.table.Table.TheVariants.{Cosines, Sines}
use Rattle.tables.specs.Entries.{scale_of, is_short, tables_of, entries, C, S}
use Rattle.tables.specs.Laws.{ShortLaws}
use Rattle.tables.proofs.Duals.{short_only_zeros}
use Rattle.tables.proofs.Lengths.{bounds, everywhere, everywhere_at}
use Rattle.tables.proofs.Listed.{period}

C_mirrors : (s : Scale) → T (everywhere (λ N. below (N + 1) (λ m. int_eq (C s N (N - m)) (C s N m))))
unfolding everywhere below C
C_mirrors Standard = tt
C_mirrors Fine = tt

S_mirrors : (s : Scale) → T (everywhere (λ N. below (N + 1) (λ m. int_eq (S s N (N - m)) (neg_ℤ (S s N m)))))
unfolding everywhere below S
S_mirrors Standard = tt
S_mirrors Fine = tt

starts : (s : Scale) → T (everywhere (λ N. int_eq (C s N 0) (pos (scale_of s)))) × T (everywhere (λ N. int_eq (S s N 0) (pos 0)))
unfolding everywhere below C S
starts Standard = (tt, tt)
starts Fine = (tt, tt)

-- no entry of a period is larger in size than the scale
sizes : (t : Table) (s : Scale) → T (everywhere (λ N. below N (λ m. leb (nat_abs (entries t s N m)) (scale_of s))))
unfolding everywhere below C S
sizes Cosines Standard = tt
sizes Cosines Fine = tt
sizes Sines Standard = tt
sizes Sines Fine = tt

module _ (N : ℕ) (e : is_short N ≡ true) where
  repeats : (t : Table) (s : Scale) (m : ℕ) → entries t s N (m + N) ≡ entries t s N m
  repeats t s m = sym (period t s N (m + N)) ∙ ap (entries t s N) (add-mod_right m N) ∙ period t s N m

  symmetric : (s : Scale) → Symmetric (tables_of s N)
  symmetric s = record {
    C_period = repeats Cosines s;
    S_period = repeats Sines s;
    even = λ m h. int_eq_is (C s N (N - m)) (C s N m) (below_at (N + 1) _ (everywhere_at _ (C_mirrors s) N e) m (omega arith));
    odd = λ m h. int_eq_is (S s N (N - m)) (neg_ℤ (S s N m)) (below_at (N + 1) _ (everywhere_at _ (S_mirrors s) N e) m (omega arith));
    no_sine = int_eq_is (S s N 0) (pos 0) (everywhere_at _ (starts s).1 N e);
  }

  size : (t : Table) (s : Scale) (m : ℕ) → nat_abs (entries t s N m) ≤ scale_of s
  size t s m =
      subst (λ (x : ℤ). nat_abs x ≤ scale_of s) (period t s N m)
      (leb→le (nat_abs (entries t s N (m % N))) (scale_of s) (below_at N _ (everywhere_at _ (sizes t s) N e) (m % N) (mod-lt m {m = N} (omega (arith, (bounds N e).0)))))

  pub short_laws : ShortLaws N
  short_laws = record {
    symmetric = symmetric;
    at_zero = λ s. int_eq_is (C s N 0) (pos (scale_of s)) (everywhere_at _ (starts s).0 N e);
    C_size = size Cosines;
    S_size = size Sines;
    only_zeros = short_only_zeros N e;
  }
