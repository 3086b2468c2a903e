-- The bins of a length as expressions over the entries of any table with that length's symmetries, and over the readings.
-- Assumes nothing.
use Rattle.std.proofs.Common.{◌≡◌, ℕ, zero, suc, ◌+◌, ◌-◌, ◌*◌, ◌/◌, ◌%◌, ◌<◌, ◌≤◌, min, Bool, true, false, cond, ◌&&◌, T, ltb, leb, List, [], ◌∷◌, ◌++◌, map, get_or, ℤ, pos, negsuc, ◌*ℤ◌, neg_ℤ, sym, refl, ap, ◌∙◌, mod-lt, arith}
use Rattle.std.specs.List.{range_with_len}
use Rattle.std.proofs.lemmas.List.FromFn.{get_or-map-range_with_len}
use Rattle.std.proofs.lemmas.List.{get_or_append_left, get_or-append-add}
use Rattle.std.proofs.lemmas.Bool.Decides.{nat_tests}
use Rattle.algebra.specs.Sums.{Σ}
use Rattle.algebra.proofs.Ring.{Exp, var, lit, ◌⊕◌, ◌⊖◌, ◌⊗◌, neg, ev, normal, vanishes, ring}
use Rattle.algebra.proofs.Sums.{Σ_cong}
use Rattle.kernel.specs.Bins.{reading, bin}

-- the cosines and the sines of a row, and then the readings: nine of each, with zeros past the length
abbrev pub firsts : List ℤ → List ℤ
firsts row = map (reading row) (range_with_len 0 9)

abbrev pub entries : List ℤ → List ℤ → List ℤ
entries cosines sines = firsts cosines ++ firsts sines

abbrev pub inputs : List ℤ → List ℤ → List ℤ → List ℤ
inputs cosines sines r = entries cosines sines ++ firsts r

-- their names in expressions
abbrev pub cos : ℕ → Exp
cos m = var m

abbrev pub sin : ℕ → Exp
sin m = var (9 + m)

abbrev pub x : ℕ → Exp
x k = var (18 + k)

-- an entry as a whole multiple of another one, which stands at this place among the entries
abbrev Multiple : Type 0
Multiple = ℤ × ℕ

abbrev cosine : ℤ → ℕ → Multiple
cosine z m = (z, m)

abbrev sine : ℤ → ℕ → Multiple
sine z m = (z, 9 + m)

abbrev nothing : Multiple
nothing = (pos 0, 0)

-- C(0), C(1), .. up to the half length as such multiples: a row for each length from 0 to 9
abbrev cosine_multiples : List (List Multiple)
cosine_multiples = [] ∷ [] ∷ [] ∷
    (cosine (pos 1) 0 ∷ cosine (pos 1) 1 ∷ []) ∷
    (cosine (pos 1) 0 ∷ nothing ∷ cosine (negsuc 0) 0 ∷ []) ∷
    (cosine (pos 1) 0 ∷ cosine (pos 1) 1 ∷ cosine (pos 1) 2 ∷ []) ∷
    (cosine (pos 1) 0 ∷ cosine (negsuc 0) 2 ∷ cosine (pos 1) 2 ∷ cosine (negsuc 0) 0 ∷ []) ∷
    (cosine (pos 1) 0 ∷ cosine (pos 1) 1 ∷ cosine (pos 1) 2 ∷ cosine (pos 1) 3 ∷ []) ∷
    (cosine (pos 1) 0 ∷ cosine (pos 1) 1 ∷ nothing ∷ cosine (negsuc 0) 1 ∷ cosine (negsuc 0) 0 ∷ []) ∷
    (cosine (negsuc 1) 3 ∷ cosine (pos 1) 1 ∷ cosine (pos 1) 2 ∷ cosine (pos 1) 3 ∷ cosine (pos 1) 4 ∷ []) ∷
    []

abbrev sine_multiples : List (List Multiple)
sine_multiples = [] ∷ [] ∷ [] ∷
    (nothing ∷ sine (pos 1) 1 ∷ []) ∷
    (nothing ∷ cosine (pos 1) 0 ∷ nothing ∷ []) ∷
    (nothing ∷ sine (pos 1) 1 ∷ sine (pos 1) 2 ∷ []) ∷
    (nothing ∷ sine (pos 1) 1 ∷ sine (pos 1) 1 ∷ nothing ∷ []) ∷
    (nothing ∷ sine (pos 1) 1 ∷ sine (pos 1) 2 ∷ sine (pos 1) 3 ∷ []) ∷
    (nothing ∷ sine (pos 1) 1 ∷ cosine (pos 1) 0 ∷ sine (pos 1) 1 ∷ nothing ∷ []) ∷
    (nothing ∷ sine (pos 1) 1 ∷ sine (pos 1) 2 ∷ sine (pos 1) 3 ∷ sine (pos 1) 4 ∷ []) ∷
    []

-- C(m) and S(m), m below N
abbrev pub cosine_of : ℕ → ℕ → Multiple
cosine_of N m = get_or (get_or cosine_multiples N []) (min m (N - m)) nothing

abbrev opposite : Multiple → Multiple
opposite p = (neg_ℤ p.0, p.1)

abbrev pub sine_of : ℕ → ℕ → Multiple
sine_of N m = cond (leb (2 * m) N) (get_or (get_or sine_multiples N []) m nothing) (opposite (get_or (get_or sine_multiples N []) (N - m) nothing))

-- the value of a multiple, over the rows of a table
abbrev pub value_of : List ℤ → List ℤ → Multiple → ℤ
value_of cosines sines p = p.0 *ℤ get_or (entries cosines sines) p.1 (pos 0)

-- the rows of a table of length N that has these symmetries
pub record Related (N : ℕ) (cosines sines : List ℤ) : Type 0 where
  pub few : N ≤ 9
  pub cosine_is : (m : ℕ) → m < N → reading cosines m ≡ value_of cosines sines (cosine_of N m)
  pub sine_is : (m : ℕ) → m < N → reading sines m ≡ value_of cosines sines (sine_of N m)
  pub cosine_place : (m : ℕ) → m < N → (cosine_of N m).1 < 18
  pub sine_place : (m : ℕ) → m < N → (sine_of N m).1 < 18

-- a multiple as an expression
abbrev times : Multiple → Exp
times p = lit p.0 ⊗ var p.1

abbrev sum : ℕ → (ℕ → Exp) → Exp
sum zero f = lit (pos 0)
sum (suc n) f = sum n f ⊕ f n

-- bin n
abbrev pub bin_of : ℕ → ℕ → Exp
bin_of N n =
    cond (leb n (N / 2))
    (sum N (λ k. x k ⊗ times (cosine_of N (n * k % N))))
    (neg (sum N (λ k. x k ⊗ times (sine_of N (n * k % N)))))

-- an expression with the symmetries put to use
abbrev pub reduced : ℕ → Exp → Exp
reduced N (var i) = cond (ltb i N) (times (cosine_of N i)) (cond (leb 9 i && ltb i (9 + N)) (times (sine_of N (i - 9))) (var i))
reduced N (lit z) = lit z
reduced N (a ⊕ b) = reduced N a ⊕ reduced N b
reduced N (a ⊖ b) = reduced N a ⊖ reduced N b
reduced N (a ⊗ b) = reduced N a ⊗ reduced N b
reduced N (neg a) = neg (reduced N a)

-- one test for an identity over all tables of a length
abbrev pub equal : ℕ → Exp → Exp → Bool
equal N a b = vanishes (normal (reduced N a ⊖ reduced N b))

first_at : (row : List ℤ) (m : ℕ) → m < 9 → get_or (firsts row) m (pos 0) ≡ reading row m
first_at row m h = get_or-map-range_with_len (reading row) 0 9 m m (pos 0) h (omega arith)

-- where each input stands
module _ (cosines sines r : List ℤ) where
  entry_at : (j : ℕ) → j < 18 → get_or (inputs cosines sines r) j (pos 0) ≡ get_or (entries cosines sines) j (pos 0)
  entry_at j h = get_or_append_left (entries cosines sines) (firsts r) (pos 0) j h

  cosine_at : (m : ℕ) → m < 9 → get_or (inputs cosines sines r) m (pos 0) ≡ reading cosines m
  cosine_at m h = entry_at m (omega arith) ∙ get_or_append_left (firsts cosines) (firsts sines) (pos 0) m h ∙ first_at cosines m h

  sine_at : (m : ℕ) → m < 9 → get_or (inputs cosines sines r) (9 + m) (pos 0) ≡ reading sines m
  sine_at m h = entry_at (9 + m) (omega arith) ∙ get_or-append-add (firsts cosines) (firsts sines) m (pos 0) ∙ first_at sines m h

  reading_at : (k : ℕ) → k < 9 → get_or (inputs cosines sines r) (18 + k) (pos 0) ≡ reading r k
  reading_at k h = get_or-append-add (entries cosines sines) (firsts r) k (pos 0) ∙ first_at r k h

module _ (N : ℕ) (cosines sines r : List ℤ) (related : Related N cosines sines) where
  abbrev ρ : List ℤ
  ρ = inputs cosines sines r

  times_is : (p : Multiple) → p.1 < 18 → ev ρ (times p) ≡ value_of cosines sines p
  times_is p h = ap (λ y. p.0 *ℤ y) (entry_at cosines sines r p.1 h)

  cosine_times : (m : ℕ) → m < N → ev ρ (times (cosine_of N m)) ≡ reading cosines m
  cosine_times m h = times_is (cosine_of N m) (related.cosine_place m h) ∙ sym (related.cosine_is m h)

  sine_times : (m : ℕ) → m < N → ev ρ (times (sine_of N m)) ≡ reading sines m
  sine_times m h = times_is (sine_of N m) (related.sine_place m h) ∙ sym (related.sine_is m h)

  reduced_is : (e : Exp) → ev ρ (reduced N e) ≡ ev ρ e
  reduced_is (var i) = go (ltb i N) refl (leb 9 i && ltb i (9 + N)) refl
    where
      go : (b : Bool) → ltb i N ≡ b → (d : Bool) → leb 9 i && ltb i (9 + N) ≡ d → ev ρ (cond b (times (cosine_of N i)) (cond d (times (sine_of N (i - 9))) (var i))) ≡ ev ρ (var i)
      go true e d f =
          let h : i < N = grind (arith, nat_tests) in
          cosine_times i h ∙ sym (cosine_at cosines sines r i (omega (arith, related.few)))
      go false e true f =
          let l : 9 ≤ i = grind (arith, nat_tests) in
          let h : i < 9 + N = grind (arith, nat_tests) in
          let at : 9 + (i - 9) ≡ i = omega arith in
          sine_times (i - 9) (omega arith) ∙ sym (sine_at cosines sines r (i - 9) (omega (arith, related.few))) ∙ ap (λ j. get_or ρ j (pos 0)) at
      go false e false f = refl
  reduced_is (lit z) = refl
  reduced_is (a ⊕ b) = rw (reduced_is a, reduced_is b)
  reduced_is (a ⊖ b) = rw (reduced_is a, reduced_is b)
  reduced_is (a ⊗ b) = rw (reduced_is a, reduced_is b)
  reduced_is (neg a) = rw (reduced_is a)

  pub equal_is : (a b : Exp) → T (equal N a b) → ev ρ a ≡ ev ρ b
  equal_is a b t = sym (reduced_is a) ∙ ring ρ (reduced N a) (reduced N b) t ∙ reduced_is b

  sum_is : (n : ℕ) (f : ℕ → Exp) → ev ρ (sum n f) ≡ Σ n (λ k. ev ρ (f k))
  unfolding Σ
  sum_is zero f = refl
  sum_is (suc n) f = rw (sum_is n f)

  -- a sum over the readings, by expressions
  weighed : (n : ℕ) (table : ℕ → ℤ) (f : ℕ → Multiple) → 0 < N → ((m : ℕ) → m < N → ev ρ (times (f m)) ≡ table m)
      → ev ρ (sum N (λ k. x k ⊗ times (f (n * k % N)))) ≡ Σ N (λ k. reading r k *ℤ table (n * k % N))
  weighed n table f some is =
      sum_is N (λ k. x k ⊗ times (f (n * k % N)))
      ∙ Σ_cong N (λ k. ev ρ (x k ⊗ times (f (n * k % N)))) (λ k. reading r k *ℤ table (n * k % N))
      (λ k l. rw (reading_at cosines sines r k (omega (arith, related.few)), is (n * k % N) (mod-lt (n * k) some)))

  pub bin_is : (C S : ℕ → ℤ) → 0 < N → ((m : ℕ) → m < N → reading cosines m ≡ C m) → ((m : ℕ) → m < N → reading sines m ≡ S m)
      → (n : ℕ) → ev ρ (bin_of N n) ≡ bin (record { N = N; C = C; S = S }) (reading r) n
  unfolding bin
  bin_is C S some C_is S_is n = go (leb n (N / 2))
    where
      low : ev ρ (sum N (λ k. x k ⊗ times (cosine_of N (n * k % N)))) ≡ Σ N (λ k. reading r k *ℤ C (n * k % N))
      low = weighed n C (cosine_of N) some (λ m h. cosine_times m h ∙ C_is m h)

      high : ev ρ (sum N (λ k. x k ⊗ times (sine_of N (n * k % N)))) ≡ Σ N (λ k. reading r k *ℤ S (n * k % N))
      high = weighed n S (sine_of N) some (λ m h. sine_times m h ∙ S_is m h)

      go : (b : Bool) → ev ρ (cond b (sum N (λ k. x k ⊗ times (cosine_of N (n * k % N)))) (neg (sum N (λ k. x k ⊗ times (sine_of N (n * k % N))))))
          ≡ cond b (Σ N (λ k. reading r k *ℤ C (n * k % N))) (neg_ℤ (Σ N (λ k. reading r k *ℤ S (n * k % N))))
      go true = low
      go false = ap neg_ℤ high
