-- Signed 64-bit expressions over entries and readings: where the largest entry, the largest reading and their product leave room,
-- what the machine works out is the whole number. Assumes nothing.
use Rattle.std.proofs.Common.{◌≡◌, ℕ, zero, suc, ◌+◌, ◌*◌, ◌^◌, ◌<◌, ◌≤◌, Bool, ◌&&◌, T, eqb, ltb, leb, List, [], ◌∷◌, get_or, ℤ, pos, nat_abs, sym, ap, ◌∙◌, add-mul, mul-le-mul, one-mul, mul-one, arith, eqb→eq, ltb→lt, leb→le, w64, SFits}
use native.Mathlib.Nat.{mul-mul-mul_comm, pow-zero, pow-succ'}
use Rattle.std.proofs.lemmas.Nat.{pow-add}
use Rattle.algebra.specs.Units.{Units}
use Rattle.algebra.proofs.Integers.{abs-add, abs-sub, abs_neg, abs-mul}
use Rattle.algebra.proofs.Ring.{Exp, var, lit, ◌⊕◌, ◌⊖◌, ◌⊗◌, neg, ev}
use Rattle.algebra.proofs.Tests.{both}
use Rattle.algebra.proofs.Words.{word, run, Room, worked_is, worked_stored, worked_fits}

-- how large a number may be: so many times the largest entry of a table to a degree times the largest reading to a degree
pub record Size : Type 0 where
  pub entries : ℕ
  pub readings : ℕ
  pub times : ℕ

-- n entries, and n readings
abbrev pub entries_of : ℕ → Size
entries_of n = record { entries = 1; readings = 0; times = n }

abbrev pub readings_of : ℕ → Size
readings_of n = record { entries = 0; readings = 1; times = n }

-- the size of an expression, from those of the variables
abbrev pub size : List Size → Exp → Size
size β (var i) = get_or β i (entries_of 0)
size β (lit c) = record { entries = 0; readings = 0; times = nat_abs c }
size β (a ⊕ b) = record { entries = (size β a).entries; readings = (size β a).readings; times = (size β a).times + (size β b).times }
size β (a ⊖ b) = record { entries = (size β a).entries; readings = (size β a).readings; times = (size β a).times + (size β b).times }
size β (a ⊗ b) = record { entries = (size β a).entries + (size β b).entries; readings = (size β a).readings + (size β b).readings; times = (size β a).times * (size β b).times }
size β (neg a) = size β a

-- a number of this size has room in a word
abbrev modest : Size → Bool
modest s = leb s.entries 1 && leb s.readings 1 && ltb s.times 512

-- numbers of these sizes can be added
abbrev addable : Size → Size → Bool
addable s t = eqb s.entries t.entries && eqb s.readings t.readings

-- every part of an expression has room in a word
abbrev pub roomy : List Size → Exp → Bool
roomy β (var i) = modest (size β (var i))
roomy β (lit c) = modest (size β (lit c))
roomy β (a ⊕ b) = (roomy β a && roomy β b) && (addable (size β a) (size β b) && modest (size β (a ⊕ b)))
roomy β (a ⊖ b) = (roomy β a && roomy β b) && (addable (size β a) (size β b) && modest (size β (a ⊖ b)))
roomy β (a ⊗ b) = (roomy β a && roomy β b) && modest (size β (a ⊗ b))
roomy β (neg a) = roomy β a && modest (size β a)

pow-one : (b : ℕ) → b ^ 1 ≡ b
pow-one b = pow-succ' b 0 ∙ rw (pow-zero, mul-one)

module _ (g L : ℕ) where
  -- the largest size
  abbrev pub most : Size → ℕ
  most s = s.times * (g ^ s.entries * L ^ s.readings)

  -- no variable is larger than its size
  abbrev pub Bounded : List ℤ → List Size → Type 0
  Bounded [] [] = Unit {0}
  Bounded [] (b ∷ β) = ⊥
  Bounded (x ∷ ρ) [] = ⊥
  Bounded (x ∷ ρ) (b ∷ β) = (nat_abs x ≤ most b) × Bounded ρ β

  Bounded_at : (ρ : List ℤ) (β : List Size) → Bounded ρ β → (i : ℕ) → nat_abs (get_or ρ i (pos 0)) ≤ most (get_or β i (entries_of 0))
  Bounded_at [] [] h i = omega arith
  Bounded_at [] (b ∷ β) h i = absurd h
  Bounded_at (x ∷ ρ) [] h i = absurd h
  Bounded_at (x ∷ ρ) (b ∷ β) h zero = h.0
  Bounded_at (x ∷ ρ) (b ∷ β) h (suc i) = Bounded_at ρ β h.1 i

  pub most-entries_of : (n : ℕ) → most (entries_of n) ≡ n * g
  most-entries_of n = rw (pow-one, pow-zero, mul-one)

  pub most-readings_of : (n : ℕ) → most (readings_of n) ≡ n * L
  most-readings_of n = rw (pow-zero, pow-one, one-mul)

  most-mul : (s t : Size) → most s * most t ≡ most (record { entries = s.entries + t.entries; readings = s.readings + t.readings; times = s.times * t.times })
  most-mul s t =
      mul-mul-mul_comm s.times (g ^ s.entries * L ^ s.readings) t.times (g ^ t.entries * L ^ t.readings)
      ∙ ap (λ x. s.times * t.times * x) (mul-mul-mul_comm (g ^ s.entries) (L ^ s.readings) (g ^ t.entries) (L ^ t.readings) ∙ rw (pow-add, pow-add))

  most-add : (s t : Size) → T (addable s t) → most s + most t ≡ (s.times + t.times) * (g ^ s.entries * L ^ s.readings)
  most-add s t e =
      let p = both (eqb s.entries t.entries) (eqb s.readings t.readings) e in
      let a = eqb→eq s.entries t.entries p.0 in
      let b = eqb→eq s.readings t.readings p.1 in
      rw (← a, ← b) (sym (add-mul s.times t.times (g ^ s.entries * L ^ s.readings)))

  module _ (u : Units g L) where
    unit_small : (e r : ℕ) → e ≤ 1 → r ≤ 1 → g ^ e * L ^ r ≤ 2 ^ 54
    unit_small zero zero h k = simp (pow-zero) (omega arith)
    unit_small zero (suc zero) h k = simp (pow-zero, pow-one) (omega (arith, u.reading))
    unit_small (suc zero) zero h k = simp (pow-zero, pow-one) (omega (arith, u.entry))
    unit_small (suc zero) (suc zero) h k = simp (pow-one) (omega (arith, u.both))
    unit_small zero (suc (suc r)) h k = absurd (omega arith)
    unit_small (suc zero) (suc (suc r)) h k = absurd (omega arith)
    unit_small (suc (suc e)) r h k = absurd (omega arith)

    most_small : (s : Size) → T (modest s) → most s < 2 ^ 63
    most_small s t =
        let p = both (leb s.entries 1 && leb s.readings 1) (ltb s.times 512) t in
        let q = both (leb s.entries 1) (leb s.readings 1) p.0 in
        let n = ltb→lt s.times 512 p.1 in
        let unit = unit_small s.entries s.readings (leb→le s.entries 1 q.0) (leb→le s.readings 1 q.1) in
        let all = mul-le-mul {n₁ = s.times} {m₁ = g ^ s.entries * L ^ s.readings} {n₂ = 511} {m₂ = 2 ^ 54} (omega arith) unit in
        omega arith

    module _ (ρ : List ℤ) (β : List Size) (h : Bounded ρ β) where
      sum_parts : (a b : Exp) (c : Bool) → T ((roomy β a && roomy β b) && (addable (size β a) (size β b) && c)) → (T (roomy β a) × T (roomy β b)) × (T (addable (size β a) (size β b)) × T c)
      sum_parts a b c t =
          let p = both (roomy β a && roomy β b) (addable (size β a) (size β b) && c) t in
          (both (roomy β a) (roomy β b) p.0, both (addable (size β a) (size β b)) c p.1)

      product_parts : (a b : Exp) (c : Bool) → T ((roomy β a && roomy β b) && c) → (T (roomy β a) × T (roomy β b)) × T c
      product_parts a b c t = let p = both (roomy β a && roomy β b) c t in (both (roomy β a) (roomy β b) p.0, p.1)

      pub sized : (e : Exp) → T (roomy β e) → nat_abs (ev ρ e) ≤ most (size β e)
      sized (var i) t = Bounded_at ρ β h i
      sized (lit c) t = rw (pow-zero, pow-zero) (omega arith)
      sized (a ⊕ b) t =
          let p = sum_parts a b _ t in
          omega (arith, abs-add (ev ρ a) (ev ρ b), sized a p.0.0, sized b p.0.1, most-add (size β a) (size β b) p.1.0)
      sized (a ⊖ b) t =
          let p = sum_parts a b _ t in
          omega (arith, abs-sub (ev ρ a) (ev ρ b), sized a p.0.0, sized b p.0.1, most-add (size β a) (size β b) p.1.0)
      sized (a ⊗ b) t =
          let p = product_parts a b _ t in
          rw (abs-mul, ← most-mul (size β a) (size β b)) (mul-le-mul (sized a p.0.0) (sized b p.0.1))
      sized (neg a) t = rw abs_neg (sized a (both (roomy β a) _ t).0)

      modest_last : (e : Exp) → T (roomy β e) → T (modest (size β e))
      modest_last (var i) t = t
      modest_last (lit c) t = t
      modest_last (a ⊕ b) t = (sum_parts a b _ t).1.1
      modest_last (a ⊖ b) t = (sum_parts a b _ t).1.1
      modest_last (a ⊗ b) t = (product_parts a b _ t).1
      modest_last (neg a) t = (both (roomy β a) _ t).1

      pub below : (e : Exp) → T (roomy β e) → nat_abs (ev ρ e) < 2 ^ 63
      below e t = omega (arith, sized e t, most_small (size β e) (modest_last e t))

      room : Room ρ (λ e. T (roomy β e))
      room = record {
        below = below;
        sum = λ a b t. (sum_parts a b _ t).0;
        difference = λ a b t. (sum_parts a b _ t).0;
        product = λ a b t. (product_parts a b _ t).0;
        negative = λ a t. (both (roomy β a) _ t).0;
      }

      -- what the machine works out is the whole number, before it is stored and after, and it fits
      pub run_is : (e : Exp) → T (roomy β e) → run ρ e ≡ ev ρ e
      run_is = worked_is room

      pub stored_is : (e : Exp) → T (roomy β e) → word (run ρ e) ≡ ev ρ e
      stored_is = worked_stored room

      pub run_fits : (e : Exp) → T (roomy β e) → SFits w64 (run ρ e)
      run_fits = worked_fits room
