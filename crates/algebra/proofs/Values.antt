-- Numbers that are known to be the values of expressions over earlier ones, and what is worked out from both. Assumes nothing.
use Rattle.std.proofs.Common.{◌≡◌, ℕ, zero, suc, ◌-◌, ◌<◌, ◌≤◌, cond, T, ltb, List, [], ◌∷◌, ◌++◌, map, length, get_or, ℤ, pos, refl, ◌∙◌, arith, w64, SFits}
use native.Mathlib.Decide.{dec_lt}
use Rattle.std.proofs.lemmas.List.{get_or_append_left, get_or-append_right}
use Rattle.std.proofs.lemmas.Bool.{lt-ltb, le-ltb}
use Rattle.algebra.specs.Units.{Units}
use Rattle.algebra.proofs.Ring.{Exp, var, lit, ◌⊕◌, ◌⊖◌, ◌⊗◌, neg, ev}
use Rattle.algebra.proofs.Words.{word, run}
use Rattle.algebra.proofs.Sizes.{Size, size, roomy, Bounded, sized, stored_is, run_fits}

-- a number that is the value of an expression over the numbers ρ, which have the sizes β
pub record Known (ρ : List ℤ) (β : List Size) : Type 0 where
  pub number : ℤ
  pub term : Exp
  pub is : number ≡ ev ρ term
  pub room : T (roomy β term)

-- an expression over n numbers and the values of es, as one over the n numbers alone
abbrev pub plug : ℕ → List Exp → Exp → Exp
plug n es (var i) = cond (ltb i n) (var i) (get_or es (i - n) (lit (pos 0)))
plug n es (lit c) = lit c
plug n es (a ⊕ b) = plug n es a ⊕ plug n es b
plug n es (a ⊖ b) = plug n es a ⊖ plug n es b
plug n es (a ⊗ b) = plug n es a ⊗ plug n es b
plug n es (neg a) = neg (plug n es a)

module _ {ρ : List ℤ} {β : List Size} where
  abbrev pub numbers : List (Known ρ β) → List ℤ
  numbers [] = []
  numbers (k ∷ ks) = k.number ∷ numbers ks

  abbrev pub terms : List (Known ρ β) → List Exp
  terms [] = []
  terms (k ∷ ks) = k.term ∷ terms ks

  -- the sizes of the numbers ρ and of the known ones
  abbrev pub sizes_with : List (Known ρ β) → List Size
  sizes_with ks = β ++ map (size β) (terms ks)

  value_at : (ks : List (Known ρ β)) (i : ℕ) → get_or (numbers ks) i (pos 0) ≡ ev ρ (get_or (terms ks) i (lit (pos 0)))
  value_at [] i = refl
  value_at (k ∷ ks) zero = k.is
  value_at (k ∷ ks) (suc i) = value_at ks i

  module _ (n : ℕ) (long : length ρ ≡ n) (ks : List (Known ρ β)) where
    plug_is : (e : Exp) → ev (ρ ++ numbers ks) e ≡ ev ρ (plug n (terms ks) e)
    plug_is (var i) =
        elim (dec_lt i n) [
          | yes h ↦ let l : i < length ρ = omega arith in rw (lt-ltb i n h) (get_or_append_left ρ (numbers ks) (pos 0) i l)
          | no h ↦ let l : n ≤ i = omega arith in rw (le-ltb i n l) (get_or-append_right ρ (numbers ks) n i (pos 0) long l ∙ value_at ks (i - n))
        ]
    plug_is (lit c) = refl
    plug_is (a ⊕ b) = rw (plug_is a, plug_is b)
    plug_is (a ⊖ b) = rw (plug_is a, plug_is b)
    plug_is (a ⊗ b) = rw (plug_is a, plug_is b)
    plug_is (neg a) = rw (plug_is a)

module _ (g L : ℕ) where
  pub Bounded-append : (ρ σ : List ℤ) (β γ : List Size) → Bounded g L ρ β → Bounded g L σ γ → Bounded g L (ρ ++ σ) (β ++ γ)
  Bounded-append [] σ [] γ h k = k
  Bounded-append [] σ (b ∷ β) γ h k = absurd h
  Bounded-append (x ∷ ρ) σ [] γ h k = absurd h
  Bounded-append (x ∷ ρ) σ (b ∷ β) γ h k = (h.0, Bounded-append ρ σ β γ h.1 k)

  module _ (u : Units g L) (ρ : List ℤ) (β : List Size) (h : Bounded g L ρ β) where
    Bounded_known : (ks : List (Known ρ β)) → Bounded g L (numbers ks) (map (size β) (terms ks))
    Bounded_known [] = tt
    Bounded_known (k ∷ ks) = (rw k.is (sized g L u ρ β h k.term k.room), Bounded_known ks)

    Bounded_with : (ks : List (Known ρ β)) → Bounded g L (ρ ++ numbers ks) (sizes_with ks)
    Bounded_with ks = Bounded-append ρ (numbers ks) β (map (size β) (terms ks)) h (Bounded_known ks)

    -- what is worked out from the numbers ρ and from known ones
    pub fits_with : (ks : List (Known ρ β)) (e : Exp) → T (roomy (sizes_with ks) e) → SFits w64 (run (ρ ++ numbers ks) e)
    fits_with ks = run_fits g L u (ρ ++ numbers ks) (sizes_with ks) (Bounded_with ks)

    pub stored_with : (n : ℕ) → length ρ ≡ n → (ks : List (Known ρ β)) (e : Exp) → T (roomy (sizes_with ks) e) → word (run (ρ ++ numbers ks) e) ≡ ev ρ (plug n (terms ks) e)
    stored_with n long ks e t = stored_is g L u (ρ ++ numbers ks) (sizes_with ks) (Bounded_with ks) e t ∙ plug_is n long ks e
