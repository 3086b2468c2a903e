-- Signed 64-bit expressions: where sizes leave room at every step, what the machine works out is the whole number.
-- Assumes nothing.
use Rattle.std.proofs.Common.{◌≡◌, ℕ, zero, suc, ◌+◌, ◌*◌, ◌^◌, ◌<◌, ◌≤◌, Bool, ◌&&◌, T, ltb, List, [], ◌∷◌, get_or, ℤ, pos, ◌+ℤ◌, ◌-ℤ◌, ◌*ℤ◌, nat_abs, sym, refl, ◌∙◌, mul-le-mul, arith, lit≤, ltb→lt, w64, SFits, to_z, of_z}
use Rattle.std.proofs.lemmas.Int.{ints, to_z-of_z}
use Rattle.algebra.specs.Sums.{Σ}
use Rattle.algebra.proofs.Integers.{abs-add, abs-sub, abs_neg, abs-mul, zero-sub}
use Rattle.algebra.proofs.Ring.{Exp, var, lit, ◌⊕◌, ◌⊖◌, ◌⊗◌, neg, ev}
use Rattle.algebra.proofs.Sums.{Σ_more, Σ_bound}
use Rattle.algebra.proofs.Tests.{both}

-- a number that was stored in a word and read again
abbrev pub word : ℤ → ℤ
word z = to_z w64 (of_z w64 z)

pub word_fits : (z : ℤ) → nat_abs z < 2 ^ 63 → SFits w64 z
word_fits z h = omega (arith, ints)

pub word_is : (z : ℤ) → nat_abs z < 2 ^ 63 → word z ≡ z
word_is z h = to_z-of_z w64 z (word_fits z h)

-- an expression as the machine works it, each operand through a word
abbrev pub run : List ℤ → Exp → ℤ
run ρ (var i) = get_or ρ i (pos 0)
run ρ (lit c) = c
run ρ (a ⊕ b) = word (run ρ a) +ℤ word (run ρ b)
run ρ (a ⊖ b) = word (run ρ a) -ℤ word (run ρ b)
run ρ (a ⊗ b) = word (run ρ a) *ℤ word (run ρ b)
run ρ (neg a) = pos 0 -ℤ word (run ρ a)

-- which expressions are fine: where one is, its parts are, and its value has room in a word
pub record Room (ρ : List ℤ) (Fine : Exp → Type 0) : Type 0 where
  pub below : (e : Exp) → Fine e → nat_abs (ev ρ e) < 2 ^ 63
  pub sum : (a b : Exp) → Fine (a ⊕ b) → Fine a × Fine b
  pub difference : (a b : Exp) → Fine (a ⊖ b) → Fine a × Fine b
  pub product : (a b : Exp) → Fine (a ⊗ b) → Fine a × Fine b
  pub negative : (a : Exp) → Fine (neg a) → Fine a

-- what the machine works out of a fine expression is the whole number, before it is stored and after, and it fits
module _ {ρ : List ℤ} {Fine : Exp → Type 0} (room : Room ρ Fine) where
  stored : (e : Exp) → Fine e → run ρ e ≡ ev ρ e → word (run ρ e) ≡ ev ρ e
  stored e t q = rw q (word_is (ev ρ e) (room.below e t))

  pub worked_is : (e : Exp) → Fine e → run ρ e ≡ ev ρ e
  worked_is (var i) t = refl
  worked_is (lit c) t = refl
  worked_is (a ⊕ b) t = let p = room.sum a b t in rw (stored a p.0 (worked_is a p.0), stored b p.1 (worked_is b p.1))
  worked_is (a ⊖ b) t = let p = room.difference a b t in rw (stored a p.0 (worked_is a p.0), stored b p.1 (worked_is b p.1))
  worked_is (a ⊗ b) t = let p = room.product a b t in rw (stored a p.0 (worked_is a p.0), stored b p.1 (worked_is b p.1))
  worked_is (neg a) t = let p = room.negative a t in rw (stored a p (worked_is a p)) (zero-sub (ev ρ a))

  pub worked_stored : (e : Exp) → Fine e → word (run ρ e) ≡ ev ρ e
  worked_stored e t = stored e t (worked_is e t)

  pub worked_fits : (e : Exp) → Fine e → SFits w64 (run ρ e)
  worked_fits e t = rw (worked_is e t) (word_fits (ev ρ e) (room.below e t))

-- a bound of its size, from bounds of the variables
abbrev pub size : List ℕ → Exp → ℕ
size β (var i) = get_or β i 0
size β (lit c) = nat_abs c
size β (a ⊕ b) = size β a + size β b
size β (a ⊖ b) = size β a + size β b
size β (a ⊗ b) = size β a * size β b
size β (neg a) = size β a

-- every part of it has room in a word
abbrev pub roomy : List ℕ → Exp → Bool
roomy β (var i) = ltb (get_or β i 0) (2 ^ 63)
roomy β (lit c) = ltb (nat_abs c) (2 ^ 63)
roomy β (a ⊕ b) = (roomy β a && roomy β b) && ltb (size β (a ⊕ b)) (2 ^ 63)
roomy β (a ⊖ b) = (roomy β a && roomy β b) && ltb (size β (a ⊖ b)) (2 ^ 63)
roomy β (a ⊗ b) = (roomy β a && roomy β b) && ltb (size β (a ⊗ b)) (2 ^ 63)
roomy β (neg a) = roomy β a && ltb (size β a) (2 ^ 63)

-- no variable is larger in size than its bound
abbrev pub Bounded : List ℤ → List ℕ → Type 0
Bounded [] [] = Unit {0}
Bounded [] (b ∷ β) = ⊥
Bounded (x ∷ ρ) [] = ⊥
Bounded (x ∷ ρ) (b ∷ β) = (nat_abs x ≤ b) × Bounded ρ β

Bounded_at : (ρ : List ℤ) (β : List ℕ) → Bounded ρ β → (i : ℕ) → nat_abs (get_or ρ i (pos 0)) ≤ get_or β i 0
Bounded_at [] [] h i = lit≤ tt
Bounded_at [] (b ∷ β) h i = absurd h
Bounded_at (x ∷ ρ) [] h i = absurd h
Bounded_at (x ∷ ρ) (b ∷ β) h zero = h.0
Bounded_at (x ∷ ρ) (b ∷ β) h (suc i) = Bounded_at ρ β h.1 i

module _ (ρ : List ℤ) (β : List ℕ) (h : Bounded ρ β) where
  small : (e : Exp) → nat_abs (ev ρ e) ≤ size β e
  small (var i) = Bounded_at ρ β h i
  small (lit c) = omega arith
  small (a ⊕ b) = omega (arith, abs-add (ev ρ a) (ev ρ b), small a, small b)
  small (a ⊖ b) = omega (arith, abs-sub (ev ρ a) (ev ρ b), small a, small b)
  small (a ⊗ b) = rw abs-mul (mul-le-mul (small a) (small b))
  small (neg a) = rw abs_neg (small a)

  below : (e : Exp) → T (roomy β e) → nat_abs (ev ρ e) < 2 ^ 63
  below e t = omega (arith, small e, ltb→lt (size β e) (2 ^ 63) (last e t))
    where
      last : (e : Exp) → T (roomy β e) → T (ltb (size β e) (2 ^ 63))
      last (var i) t = t
      last (lit c) t = t
      last (a ⊕ b) t = (both (roomy β a && roomy β b) (ltb (size β (a ⊕ b)) (2 ^ 63)) t).1
      last (a ⊖ b) t = (both (roomy β a && roomy β b) (ltb (size β (a ⊖ b)) (2 ^ 63)) t).1
      last (a ⊗ b) t = (both (roomy β a && roomy β b) (ltb (size β (a ⊗ b)) (2 ^ 63)) t).1
      last (neg a) t = (both (roomy β a) (ltb (size β a) (2 ^ 63)) t).1

  parts : (a b : Exp) (c : Bool) → T ((roomy β a && roomy β b) && c) → T (roomy β a) × T (roomy β b)
  parts a b c t = both (roomy β a) (roomy β b) (both (roomy β a && roomy β b) c t).0

  room : Room ρ (λ e. T (roomy β e))
  room = record {
    below = below;
    sum = λ a b. parts a b _;
    difference = λ a b. parts a b _;
    product = λ a b. parts a b _;
    negative = λ a t. (both (roomy β a) _ t).0;
  }

  -- what the machine works out is the whole number, before it is stored and after, and it fits
  pub run_is : (e : Exp) → T (roomy β e) → run ρ e ≡ ev ρ e
  run_is = worked_is room

  pub stored_is : (e : Exp) → T (roomy β e) → word (run ρ e) ≡ ev ρ e
  stored_is = worked_stored room

  pub run_fits : (e : Exp) → T (roomy β e) → SFits w64 (run ρ e)
  run_fits = worked_fits room

-- one term more of a sum whose terms leave room for all of them
pub add_term : (n B : ℕ) (f : ℕ → ℤ) → n * B < 2 ^ 63 → ((i : ℕ) → i < n → nat_abs (f i) ≤ B)
    → (k : ℕ) (s x : ℤ) → k < n → s ≡ Σ k f → x ≡ f k → SFits w64 (s +ℤ word x) × (word (s +ℤ word x) ≡ Σ (k + 1) f)
add_term n B f room h k s x l es ex =
    let one : nat_abs x ≤ B = rw ex (h k l) in
    let least : 1 * B ≤ n * B = mul-le-mul {n₁ = 1} {m₁ = B} {n₂ = n} {m₂ = B} (omega arith) (omega arith) in
    let most : (k + 1) * B ≤ n * B = mul-le-mul {n₁ = k + 1} {m₁ = B} {n₂ = n} {m₂ = B} (omega arith) (omega arith) in
    let total : s +ℤ word x ≡ Σ (k + 1) f = rw (word_is x (omega arith), es, ex) (sym (Σ_more k f)) in
    let small : nat_abs (s +ℤ word x) < 2 ^ 63 = rw total (omega (arith, Σ_bound (k + 1) B f (λ i q. h i (omega arith)))) in
    (word_fits (s +ℤ word x) small, word_is (s +ℤ word x) small ∙ total)
