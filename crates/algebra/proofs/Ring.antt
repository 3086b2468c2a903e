-- Ring identities over ℤ by computing: `ring ρ a b tt` proves `ev ρ a ≡ ev ρ b` where both have one normal form.
-- Assumes nothing.
use Rattle.std.proofs.Common.{◌≡◌, ℕ, ◌*◌, ◌<◌, Bool, true, false, cond, ◌&&◌, T, eqb, leb, List, [], ◌∷◌, get_or, ℤ, pos, negsuc, ◌+ℤ◌, ◌-ℤ◌, ◌*ℤ◌, neg_ℤ, nat_abs, sym, refl, ap, ◌∙◌, mul-le-mul, arith, eqb→eq}
use lib.IntN.{*ℤ_comm, zero-*ℤ, *ℤ-zero, +ℤ_idl}
use borrow.Author.Differences.{ints}
use Rattle.algebra.proofs.Integers.{dist_l, dist_r, *ℤ_assoc, *ℤ_left_comm, abs-mul}
use Rattle.std.specs.Ordering.{int_eq}
use Rattle.algebra.proofs.Tests.{both, int_eq_is}

infixl 60 ◌⊕◌ ◌⊖◌
infixl 70 ◌⊗◌
pub data Exp : Type 0 where
  var : ℕ → Exp
  lit : ℤ → Exp
  ◌⊕◌ ◌⊖◌ ◌⊗◌ : Exp → Exp → Exp
  neg : Exp → Exp

-- the value of an expression where variable i is entry i of ρ
abbrev pub ev : List ℤ → Exp → ℤ
ev ρ (var i) = get_or ρ i (pos 0)
ev ρ (lit c) = c
ev ρ (a ⊕ b) = ev ρ a +ℤ ev ρ b
ev ρ (a ⊖ b) = ev ρ a -ℤ ev ρ b
ev ρ (a ⊗ b) = ev ρ a *ℤ ev ρ b
ev ρ (neg a) = neg_ℤ (ev ρ a)

-- a sum of terms, each a number times variables in order
pub data Poly : Type 0 where
  nil : Poly
  term : ℤ → List ℕ → Poly → Poly

value_m : List ℤ → List ℕ → ℤ
value_m ρ [] = pos 1
value_m ρ (i ∷ m) = get_or ρ i (pos 0) *ℤ value_m ρ m

value_p : List ℤ → Poly → ℤ
value_p ρ nil = pos 0
value_p ρ (term c m p) = c *ℤ value_m ρ m +ℤ value_p ρ p

abbrev insert : ℕ → List ℕ → List ℕ
insert i [] = i ∷ []
insert i (j ∷ m) = cond (leb i j) (i ∷ j ∷ m) (j ∷ insert i m)

abbrev mul_m : List ℕ → List ℕ → List ℕ
mul_m [] n = n
mul_m (i ∷ m) n = insert i (mul_m m n)

abbrev same_m : List ℕ → List ℕ → Bool
same_m [] [] = true
same_m [] (j ∷ n) = false
same_m (i ∷ m) [] = false
same_m (i ∷ m) (j ∷ n) = eqb i j && same_m m n

abbrev add_t : ℤ → List ℕ → Poly → Poly
add_t c m nil = term c m nil
add_t c m (term d n p) = cond (same_m m n) (term (c +ℤ d) n p) (term d n (add_t c m p))

abbrev add_p : Poly → Poly → Poly
add_p nil q = q
add_p (term c m p) q = add_t c m (add_p p q)

abbrev mul_t : ℤ → List ℕ → Poly → Poly
mul_t c m nil = nil
mul_t c m (term d n q) = add_t (c *ℤ d) (mul_m m n) (mul_t c m q)

abbrev mul_p : Poly → Poly → Poly
mul_p nil q = nil
mul_p (term c m p) q = add_p (mul_t c m q) (mul_p p q)

abbrev pub normal : Exp → Poly
normal (var i) = term (pos 1) (i ∷ []) nil
normal (lit c) = term c [] nil
normal (a ⊕ b) = add_p (normal a) (normal b)
normal (a ⊖ b) = add_p (normal a) (mul_t (negsuc 0) [] (normal b))
normal (a ⊗ b) = mul_p (normal a) (normal b)
normal (neg a) = mul_t (negsuc 0) [] (normal a)

abbrev pub vanishes : Poly → Bool
vanishes nil = true
vanishes (term c m p) = int_eq c (pos 0) && vanishes p

by_cond : {A : Type 0} (P : A → Type 0) (b : Bool) (x y : A) → (T b → P x) → P y → P (cond b x y)
by_cond P true x y f g = f tt
by_cond P false x y f g = g

-- each step of the normal form keeps the value
module _ (ρ : List ℤ) where
  insert_is : (i : ℕ) (m : List ℕ) → value_m ρ (insert i m) ≡ get_or ρ i (pos 0) *ℤ value_m ρ m
  unfolding value_m
  insert_is i [] = refl
  insert_is i (j ∷ m) =
      by_cond (λ l. value_m ρ l ≡ get_or ρ i (pos 0) *ℤ value_m ρ (j ∷ m)) (leb i j) (i ∷ j ∷ m) (j ∷ insert i m) (λ _. refl)
      (ap (λ x. get_or ρ j (pos 0) *ℤ x) (insert_is i m) ∙ *ℤ_left_comm (get_or ρ j (pos 0)) (get_or ρ i (pos 0)) (value_m ρ m))

  mul_m_is : (m n : List ℕ) → value_m ρ (mul_m m n) ≡ value_m ρ m *ℤ value_m ρ n
  unfolding value_m
  mul_m_is [] n = sym (*ℤ_comm (pos 1) (value_m ρ n) ∙ omega (arith, ints))
  mul_m_is (i ∷ m) n =
      insert_is i (mul_m m n)
      ∙ ap (λ x. get_or ρ i (pos 0) *ℤ x) (mul_m_is m n)
      ∙ sym (*ℤ_assoc (get_or ρ i (pos 0)) (value_m ρ m) (value_m ρ n))

  same_m_is : (m n : List ℕ) → T (same_m m n) → value_m ρ m ≡ value_m ρ n
  unfolding value_m
  same_m_is [] [] t = refl
  same_m_is [] (j ∷ n) t = absurd t
  same_m_is (i ∷ m) [] t = absurd t
  same_m_is (i ∷ m) (j ∷ n) t =
      let b = both (eqb i j) (same_m m n) t in
      ap (λ a. get_or ρ a (pos 0) *ℤ value_m ρ m) (eqb→eq i j b.0) ∙ ap (λ x. get_or ρ j (pos 0) *ℤ x) (same_m_is m n b.1)

  add_t_is : (c : ℤ) (m : List ℕ) (p : Poly) → value_p ρ (add_t c m p) ≡ c *ℤ value_m ρ m +ℤ value_p ρ p
  unfolding value_p
  add_t_is c m nil = refl
  add_t_is c m (term d n p) =
      by_cond (λ l. value_p ρ l ≡ c *ℤ value_m ρ m +ℤ value_p ρ (term d n p)) (same_m m n) (term (c +ℤ d) n p) (term d n (add_t c m p))
      (λ t. rw (same_m_is m n t, dist_r) (omega (arith, ints)))
      (rw (add_t_is c m p) (omega (arith, ints)))

  add_p_is : (p q : Poly) → value_p ρ (add_p p q) ≡ value_p ρ p +ℤ value_p ρ q
  unfolding value_p
  add_p_is nil q = sym (+ℤ_idl (value_p ρ q))
  add_p_is (term c m p) q = add_t_is c m (add_p p q) ∙ rw (add_p_is p q) (omega (arith, ints))

  mul_t_is : (c : ℤ) (m : List ℕ) (q : Poly) → value_p ρ (mul_t c m q) ≡ (c *ℤ value_m ρ m) *ℤ value_p ρ q
  unfolding value_p
  mul_t_is c m nil = sym (*ℤ-zero (c *ℤ value_m ρ m))
  mul_t_is c m (term d n q) =
      add_t_is (c *ℤ d) (mul_m m n) (mul_t c m q)
      ∙ rw (mul_m_is m n, mul_t_is c m q, dist_l)
      (ap (λ x. x +ℤ c *ℤ value_m ρ m *ℤ value_p ρ q) (simp (*ℤ_assoc, *ℤ_left_comm d (value_m ρ m) (value_m ρ n))))

  mul_p_is : (p q : Poly) → value_p ρ (mul_p p q) ≡ value_p ρ p *ℤ value_p ρ q
  unfolding value_p
  mul_p_is nil q = sym (zero-*ℤ (value_p ρ q))
  mul_p_is (term c m p) q = add_p_is (mul_t c m q) (mul_p p q) ∙ rw (mul_t_is c m q, mul_p_is p q, dist_r)

  minus_one : (z : ℤ) → negsuc 0 *ℤ pos 1 *ℤ z ≡ neg_ℤ z
  minus_one z = omega (arith, ints)

  alone : (z : ℤ) → pos 1 *ℤ (z *ℤ pos 1) +ℤ pos 0 ≡ z
  alone z = omega (arith, ints)

  normal_is : (e : Exp) → value_p ρ (normal e) ≡ ev ρ e
  unfolding value_p value_m
  normal_is (var i) = alone (get_or ρ i (pos 0))
  normal_is (lit c) = omega (arith, ints)
  normal_is (a ⊕ b) = add_p_is (normal a) (normal b) ∙ rw (normal_is a, normal_is b)
  normal_is (a ⊖ b) =
      add_p_is (normal a) (mul_t (negsuc 0) [] (normal b))
      ∙ rw (mul_t_is (negsuc 0) [] (normal b), normal_is a, normal_is b) (ap (λ x. ev ρ a +ℤ x) (minus_one (ev ρ b)))
  normal_is (a ⊗ b) = mul_p_is (normal a) (normal b) ∙ rw (normal_is a, normal_is b)
  normal_is (neg a) = mul_t_is (negsuc 0) [] (normal a) ∙ rw (normal_is a) (minus_one (ev ρ a))

  vanishes_is : (p : Poly) → T (vanishes p) → value_p ρ p ≡ pos 0
  unfolding value_p
  vanishes_is nil t = refl
  vanishes_is (term c m p) t =
      let b = both (int_eq c (pos 0)) (vanishes p) t in
      rw (int_eq_is c (pos 0) b.0, vanishes_is p b.1, zero-*ℤ)

  pub ring : (a b : Exp) → T (vanishes (normal (a ⊖ b))) → ev ρ a ≡ ev ρ b
  ring a b t =
      let e : ev ρ a -ℤ ev ρ b ≡ pos 0 = sym (normal_is (a ⊖ b)) ∙ vanishes_is (normal (a ⊖ b)) t in
      omega (arith, ints)

-- a factor that is not zero can be left out on both sides
pub cancel : (n : ℕ) (a b : ℤ) → 0 < n → pos n *ℤ a ≡ pos n *ℤ b → a ≡ b
cancel n a b some e =
    let apart = ring (pos n ∷ a ∷ b ∷ []) (var 0 ⊗ (var 1 ⊖ var 2)) (var 0 ⊗ var 1 ⊖ var 0 ⊗ var 2) tt in
    let away : pos n *ℤ (a -ℤ b) ≡ pos 0 = apart ∙ omega (arith, ints) in
    let none : n * nat_abs (a -ℤ b) ≡ 0 = sym (abs-mul (pos n) (a -ℤ b)) ∙ ap nat_abs away in
    let least = mul-le-mul {n₁ = 1} {m₁ = nat_abs (a -ℤ b)} {n₂ = n} {m₂ = nat_abs (a -ℤ b)} (omega arith) (omega arith) in
    omega (arith, ints)
