-- The tables keep their rule, by tests that antt computes over every entry. Assumes nothing.
use Rattle.std.proofs.Common.{◌≡◌, ℕ, ◌+◌, ◌-◌, ◌*◌, ◌/◌, ◌≤◌, Bool, true, T, List, ℤ, pos, ◌+ℤ◌, ◌-ℤ◌, ◌*ℤ◌, arith}
use lib.Signed.{lt_z, lt_z_yes}
use Rattle.std.specs.Ordering.{int_eq}
use Rattle.algebra.proofs.Tests.{below, below_at, int_eq_is}
use Rattle.tables.specs.declared.scale.Scale.{Scale}
use Rattle.tables.specs.declared.scale.Scale.TheVariants.{Standard, Fine}
use Rattle.tables.specs.declared.table.Table.{Table}
use Rattle.tables.specs.declared.table.Table.TheVariants.{Cosines, Sines}
use Rattle.tables.specs.Entries.{scale_of, is_short, C, S}
use Rattle.tables.specs.Rule.{Rule, halves, root, value, Obeys, cosine_rules, sine_rules, rule_at, RightCosines, RightSines, Right}
use Rattle.tables.proofs.Lengths.{everywhere, everywhere_at}

abbrev obeys : ℕ → Rule → ℤ → Bool
obeys T (halves h) E = int_eq (pos 2 *ℤ E) (h *ℤ pos T)
obeys T (root p) E = lt_z (value p T (pos 2 *ℤ E -ℤ pos 1) *ℤ value p T (pos 2 *ℤ E +ℤ pos 1)) (pos 0)

obeyed : (T' : ℕ) (rule : Rule) (E : ℤ) → T (obeys T' rule E) → Obeys T' rule E
obeyed T' (halves h) E t = int_eq_is (pos 2 *ℤ E) (h *ℤ pos T') t
obeyed T' (root p) E t = lt_z_yes t

-- at every place up to the half length of every short length
keeps : Scale → List (List Rule) → (ℕ → ℕ → ℤ) → Bool
keeps s rules table = everywhere (λ N. below (N / 2 + 1) (λ m. obeys (scale_of s) (rule_at rules N m) (table N m)))

kept : (s : Scale) (rules : List (List Rule)) (table : ℕ → ℕ → ℤ) → T (keeps s rules table)
    → (N m : ℕ) → is_short N ≡ true → 2 * m ≤ N → Obeys (scale_of s) (rule_at rules N m) (table N m)
unfolding keeps
kept s rules table t N m e h =
    obeyed (scale_of s) (rule_at rules N m) (table N m)
    (below_at (N / 2 + 1) (λ m. obeys (scale_of s) (rule_at rules N m) (table N m)) (everywhere_at _ t N e) m (omega arith))

cosines_keep : (s : Scale) → T (keeps s cosine_rules (C s))
unfolding keeps everywhere below C
cosines_keep Standard = tt
cosines_keep Fine = tt

cosines_fall : (s : Scale) → T (everywhere (λ N. below (N / 2) (λ m. lt_z (C s N (m + 1)) (C s N m))))
unfolding everywhere below C
cosines_fall Standard = tt
cosines_fall Fine = tt

sines_keep : (s : Scale) → T (keeps s sine_rules (S s))
unfolding keeps everywhere below S
sines_keep Standard = tt
sines_keep Fine = tt

-- the place m + 1 lies between 0 and the half length
sines_above : (s : Scale) → T (everywhere (λ N. below ((N - 1) / 2) (λ m. lt_z (pos 0) (S s N (m + 1)))))
unfolding everywhere below S
sines_above Standard = tt
sines_above Fine = tt

pub right_cosines : (s : Scale) → RightCosines s
right_cosines s = record {
  entries = kept s cosine_rules (C s) (cosines_keep s);
  falls = λ N m e h. lt_z_yes (below_at (N / 2) _ (everywhere_at _ (cosines_fall s) N e) m (omega arith));
}

sines_order : (s : Scale) → (T (lt_z (S s 5 2) (S s 5 1))) × (T (lt_z (S s 7 1) (S s 7 2))) × (T (lt_z (S s 7 3) (S s 7 1))) × (T (lt_z (S s 9 1) (S s 9 2))) × (T (lt_z (S s 9 4) (S s 9 1)))
unfolding S
sines_order Standard = (tt, tt, tt, tt, tt)
sines_order Fine = (tt, tt, tt, tt, tt)

pub right_sines : (s : Scale) → RightSines s
right_sines s =
    let o = sines_order s in
    record {
      entries = kept s sine_rules (S s) (sines_keep s);
      above = λ N m e l h.
          let next : m - 1 + 1 ≡ m = omega arith in
          rw next at (lt_z_yes {a = pos 0} {b = S s N (m - 1 + 1)} (below_at ((N - 1) / 2) _ (everywhere_at _ (sines_above s) N e) (m - 1) (omega arith)));
      order_5 = lt_z_yes o.0;
      order_7 = (lt_z_yes o.1, lt_z_yes o.2);
      order_9 = (lt_z_yes o.3, lt_z_yes o.4);
    }

pub right : (t : Table) (s : Scale) → Right t s
right Cosines = right_cosines
right Sines = right_sines
