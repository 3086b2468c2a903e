-- Straight lines of machine arithmetic over the entries and readings of a short length: nothing overflows, and what they write
-- is the image, by one computed test for all tables of a length. Assumes nothing.
use Rattle.std.proofs.Common.{◌≡◌, ℕ, zero, suc, ◌+◌, ◌*◌, ◌%◌, ◌^◌, ◌<◌, ◌≤◌, Bool, true, ◌&&◌, T, eqb, leb, List, [], ◌∷◌, ◌++◌, map, length, get_or, ℤ, pos, ◌*ℤ◌, nat_abs, sym, refl, ap, ◌∙◌, subst, ap₂, le_trans, le_refl, add-zero, mul-le-mul, arith, lit<, eqb→eq, leb→le, w64, SFits}
use native.Mathlib.Decide.{dec_lt}
use lib.IntN.{+ℤ_idl}
use Rattle.std.specs.List.{range_with_len}
use Rattle.std.proofs.lemmas.List.FromFn.{get_or-map-range_with_len}
use Rattle.std.proofs.lemmas.List.{get_or_past}
use Rattle.algebra.specs.Sums.{Σ}
use Rattle.algebra.specs.Units.{Units}
use Rattle.algebra.proofs.Ring.{Exp, var, lit, ◌⊕◌, ◌⊗◌, ev, cancel}
use Rattle.algebra.proofs.Tests.{both}
use Rattle.algebra.proofs.Values.{Known, numbers, terms, sizes_with, plug, Bounded-append, fits_with as known_fits, stored_with as known_stored}
use Rattle.algebra.proofs.Words.{word, run}
use Rattle.algebra.proofs.Sizes.{Size, size, entries_of, readings_of, roomy, Bounded, most, most-entries_of, most-readings_of, sized, stored_is, run_is, run_fits}
use Rattle.kernel.specs.Bins.{reading, bin, image}
use Rattle.tables.specs.declared.scale.Scale.{Scale}
use Rattle.tables.specs.Entries.{scale_of, row_of, tables_of, C, S}
use Rattle.tables.proofs.Lengths.{bounds}
use Rattle.tables.proofs.Listed.{row_at}
use Rattle.tables.specs.declared.table.Table.TheVariants.{Cosines, Sines}
use Rattle.short.specs.Room.{Small, Ready, Turnable, Multiple, turns}
use Rattle.short.proofs.Laws.{entries_small}
use Rattle.short.proofs.Related.{related}
use Rattle.short.proofs.Symbols.{firsts, inputs, Related, bin_of, equal, equal_is, bin_is}

-- the count that a call answers with its result
pub counted : {A : Type 0} {n : ℕ} {y : A} {p : ℕ × A} → p ≡ (n, y) → p.0 ≡ n
counted is = ap (λ q. q.0) is

-- a count with its bins
pub answered : {m n : ℕ} {xs ys : List ℤ} → m ≡ n → xs ≡ ys → ◌≡◌ {A = ℕ × List ℤ} (m, xs) (n, ys)
answered = ap₂ (λ n xs. (n, xs))

pub small_at : (b : ℕ) (row : List ℤ) → Small b row → (k : ℕ) → nat_abs (reading row k) ≤ b
small_at b row h k = elim (dec_lt k (length row)) [ yes l ↦ h k l | no l ↦ rw (get_or_past row k (pos 0) (omega arith)) (omega arith) ]

-- the sizes of the inputs
abbrev nine : Size → List Size
nine b = b ∷ b ∷ b ∷ b ∷ b ∷ b ∷ b ∷ b ∷ b ∷ []

abbrev pub sizes : List Size
sizes = (nine (entries_of 1) ++ nine (entries_of 1)) ++ nine (readings_of 1)

Bounded_firsts : (g L : ℕ) (b : Size) (row : List ℤ) → ((k : ℕ) → nat_abs (reading row k) ≤ most g L b) → Bounded g L (firsts row) (nine b)
Bounded_firsts g L b row h = (h 0, (h 1, (h 2, (h 3, (h 4, (h 5, (h 6, (h 7, (h 8, tt)))))))))

Bounded_entries : (g L : ℕ) (row : List ℤ) → Small g row → Bounded g L (firsts row) (nine (entries_of 1))
Bounded_entries g L row h = Bounded_firsts g L (entries_of 1) row (λ k. rw (most-entries_of g L 1) (omega (arith, small_at g row h k)))

Bounded_readings : (g L : ℕ) (row : List ℤ) → Small L row → Bounded g L (firsts row) (nine (readings_of 1))
Bounded_readings g L row h = Bounded_firsts g L (readings_of 1) row (λ k. rw (most-readings_of g L 1) (omega (arith, small_at L row h k)))

-- known number k, after the inputs
abbrev pub result : ℕ → Exp
result k = var (27 + k)

-- expressions as the machine works them
abbrev pub outputs : List ℤ → List Exp → List ℤ
outputs τ [] = []
outputs τ (f ∷ fs) = word (run τ f) ∷ outputs τ fs

abbrev all_roomy : List Size → List Exp → Bool
all_roomy β [] = true
all_roomy β (f ∷ fs) = roomy β f && all_roomy β fs

-- whether the outputs fs, over the inputs and numbers that are known by es, are bins n, n + 1, .. N - 1, for all tables of length N
abbrev bins_from : ℕ → List Exp → ℕ → List Exp → Bool
bins_from N es n [] = eqb n N
bins_from N es n (f ∷ fs) = equal N (plug 27 es f) (bin_of N n) && bins_from N es (n + 1) fs

-- whether each expression has a size up to this one
abbrev up_to : Size → List Exp → Bool
up_to b [] = true
up_to b (e ∷ es) =
    ((roomy sizes e && eqb (size sizes e).entries b.entries) && (eqb (size sizes e).readings b.readings && leb (size sizes e).times b.times))
    && up_to b es

-- the numbers ts weighed by the entries es, turned by n places
abbrev pub turn_of : List Exp → List Exp → ℕ → Exp
turn_of es ts n =
    get_or es (n % 3) (lit (pos 0)) ⊗ get_or ts 0 (lit (pos 0))
    ⊕ get_or es ((n + 1) % 3) (lit (pos 0)) ⊗ get_or ts 1 (lit (pos 0))
    ⊕ get_or es ((n + 2) % 3) (lit (pos 0)) ⊗ get_or ts 2 (lit (pos 0))

module _ {s : Scale} {L : ℕ} {r cosines sines : List ℤ} (ready : Ready s L r cosines sines) where
  abbrev ρ : List ℤ
  ρ = inputs cosines sines r

  abbrev g : ℕ
  g = scale_of s

  units : Units g L
  units = ready.units

  bounded : Bounded g L ρ sizes
  bounded =
      Bounded-append g L (firsts cosines ++ firsts sines) (firsts r) (nine (entries_of 1) ++ nine (entries_of 1)) (nine (readings_of 1))
      (Bounded-append g L (firsts cosines) (firsts sines) (nine (entries_of 1)) (nine (entries_of 1))
      (Bounded_entries g L cosines (entries_small Cosines s (length r) ready.short ready.cosines_are)) (Bounded_entries g L sines (entries_small Sines s (length r) ready.short ready.sines_are)))
      (Bounded_readings g L r ready.readings)

  -- what is worked out from the inputs alone
  pub fits : (e : Exp) → T (roomy sizes e) → SFits w64 (run ρ e)
  fits = run_fits g L units ρ sizes bounded

  stored : (e : Exp) → T (roomy sizes e) → word (run ρ e) ≡ ev ρ e
  stored = stored_is g L units ρ sizes bounded

  within : (e : Exp) → T (roomy sizes e) → nat_abs (word (run ρ e)) ≤ most g L (size sizes e)
  within e t = rw (stored e t) (sized g L units ρ sizes bounded e t)

  -- what `product` answers
  pub product_is : (e : Exp) {count : ℕ} {p : ℕ × ℤ} → T (roomy sizes e) → p ≡ (count, run ρ e) → p.1 ≡ ev ρ e
  product_is e t is = ap (λ q. q.1) is ∙ run_is g L units ρ sizes bounded e t

  abbrev pub product_known : (e : Exp) {count : ℕ} {p : ℕ × ℤ} → T (roomy sizes e) → p ≡ (count, run ρ e) → Known ρ sizes
  product_known e {count} {p} t is = record { number = p.1; term = e; is = product_is e t is; room = t }

  -- what `turned` asks
  up_to_small : (b : Size) (es : List Exp) → T (up_to b es) → Small (most g L b) (outputs ρ es)
  up_to_small b [] t k h = absurd (omega arith)
  up_to_small b (e ∷ es) t zero h =
      let p = (both _ (up_to b es) t).0 in
      let q = both (roomy sizes e && eqb (size sizes e).entries b.entries) _ p in
      let r = both (roomy sizes e) (eqb (size sizes e).entries b.entries) q.0 in
      let w = both (eqb (size sizes e).readings b.readings) (leb (size sizes e).times b.times) q.1 in
      let few = leb→le (size sizes e).times b.times w.1 in
      rw (← eqb→eq (size sizes e).entries b.entries r.1, ← eqb→eq (size sizes e).readings b.readings w.0)
      (le_trans (within e r.0) (mul-le-mul few (le_refl (g ^ (size sizes e).entries * L ^ (size sizes e).readings))))
  up_to_small b (e ∷ es) t (suc k) h = up_to_small b es (both _ (up_to b es) t).1 k (omega arith)

  pub turnable : (es ts : List Exp) → T (up_to (entries_of 2) es) → T (up_to (readings_of 2) ts) → Turnable g L (outputs ρ es) (outputs ρ ts)
  turnable es ts t u = record {
    units = units;
    entries_small = λ k h. rw (← most-entries_of g L 2) (up_to_small (entries_of 2) es t k h);
    numbers_small = λ k h. rw (← most-readings_of g L 2) (up_to_small (readings_of 2) ts u k h);
  }

  -- and what it answers
  output_at : (es : List Exp) → T (all_roomy sizes es) → (k : ℕ) → reading (outputs ρ es) k ≡ ev ρ (get_or es k (lit (pos 0)))
  output_at [] t k = refl
  output_at (e ∷ es) t zero = stored e (both (roomy sizes e) (all_roomy sizes es) t).0
  output_at (e ∷ es) t (suc k) = output_at es (both (roomy sizes e) (all_roomy sizes es) t).1 k

  pub turned_is : (es ts : List Exp) {count : ℕ} {p : ℕ × List ℤ} → T (all_roomy sizes es) → T (all_roomy sizes ts) → p ≡ (count, turns (outputs ρ es) (outputs ρ ts))
      → (n : ℕ) → n < 3 → reading p.1 n ≡ ev ρ (turn_of es ts n)
  unfolding turns Σ
  turned_is es ts t u is n h =
      ap (λ q. reading q.1 n) is
      ∙ get_or-map-range_with_len (λ n. Σ 3 (λ k. reading (outputs ρ es) ((n + k) % 3) *ℤ reading (outputs ρ ts) k)) 0 3 n n (pos 0) h (omega arith)
      ∙ simp (add-zero, output_at es t, output_at ts u, +ℤ_idl)

  abbrev pub turn_known : (es ts : List Exp) (n : ℕ) {count : ℕ} {p : ℕ × List ℤ} → n < 3 → T (all_roomy sizes es) → T (all_roomy sizes ts) → T (roomy sizes (turn_of es ts n))
      → p ≡ (count, turns (outputs ρ es) (outputs ρ ts)) → Known ρ sizes
  turn_known es ts n {count} {p} h t u room is = record { number = reading p.1 n; term = turn_of es ts n; is = turned_is es ts t u is n h; room = room }

  -- the three sums that `turned` answers
  abbrev pub turns_known : (es ts : List Exp) {count : ℕ} {p : ℕ × List ℤ}
      → T (all_roomy sizes es && all_roomy sizes ts && all_roomy sizes (turn_of es ts 0 ∷ turn_of es ts 1 ∷ turn_of es ts 2 ∷ []))
      → p ≡ (count, turns (outputs ρ es) (outputs ρ ts)) → List (Known ρ sizes)
  turns_known es ts t is =
      let p = both (all_roomy sizes es && all_roomy sizes ts) _ t in
      let q = both (all_roomy sizes es) (all_roomy sizes ts) p.0 in
      let r = both (roomy sizes (turn_of es ts 0)) _ p.1 in
      let w = both (roomy sizes (turn_of es ts 1)) _ r.1 in
      turn_known es ts 0 (lit< tt) q.0 q.1 r.0 is
      ∷ turn_known es ts 1 (lit< tt) q.0 q.1 w.0 is
      ∷ turn_known es ts 2 (lit< tt) q.0 q.1 (both (roomy sizes (turn_of es ts 2)) true w.1).0 is
      ∷ []

  -- what is worked out from the inputs and from known numbers
  module _ (ks : List (Known ρ sizes)) where
    pub fits_with : (e : Exp) → T (roomy (sizes_with ks) e) → SFits w64 (run (ρ ++ numbers ks) e)
    fits_with = known_fits g L units ρ sizes bounded ks

    stored_with : (e : Exp) → T (roomy (sizes_with ks) e) → word (run (ρ ++ numbers ks) e) ≡ ev ρ (plug 27 (terms ks) e)
    stored_with = known_stored g L units ρ sizes bounded 27 refl ks

    module _ (N : ℕ) (long : length r ≡ N) where
      symmetries : Related N cosines sines
      symmetries =
          subst (λ n. Related n cosines sines) long
          (rw (ready.cosines_are, ready.sines_are) (related s (length r) ready.short))

      same : (a b : Exp) → T (equal N a b) → ev ρ a ≡ ev ρ b
      same = equal_is N cosines sines r symmetries

      holds : (table : ℕ → ℕ → ℤ) (row : List ℤ) → row ≡ row_of table (length r) → (m : ℕ) → m < N → reading row m ≡ table N m
      holds table row is m h = ap (λ xs. reading xs m) is ∙ row_at table (length r) ready.short m (omega arith) ∙ ap (λ n. table n m) long

      -- bin n as an expression
      named : (n : ℕ) → ev ρ (bin_of N n) ≡ bin (tables_of s N) (reading r) n
      named =
          bin_is N cosines sines r symmetries (C s N) (S s N) (omega (arith, bounds (length r) ready.short))
          (holds (C s) cosines ready.cosines_are) (holds (S s) sines ready.sines_are)

      bins_are : (n : ℕ) (fs : List Exp) → T (all_roomy (sizes_with ks) fs) → T (bins_from N (terms ks) n fs)
          → (outputs (ρ ++ numbers ks) fs ≡ map (bin (tables_of s N) (reading r)) (range_with_len n (length fs))) × (n + length fs ≡ N)
      bins_are n [] h b = (refl, omega (arith, eqb→eq n N b))
      bins_are n (f ∷ fs) h b =
          let p = both (roomy (sizes_with ks) f) (all_roomy (sizes_with ks) fs) h in
          let q = both (equal N (plug 27 (terms ks) f) (bin_of N n)) (bins_from N (terms ks) (n + 1) fs) b in
          let here = stored_with f p.0 ∙ same (plug 27 (terms ks) f) (bin_of N n) q.0 ∙ named n in
          let rest = bins_are (n + 1) fs p.1 q.1 in
          (ap₂ ◌∷◌ here rest.0, omega (arith, rest.1))

      -- outputs that pass the test are the image
      pub written : (fs : List Exp) → T (all_roomy (sizes_with ks) fs && bins_from N (terms ks) 0 fs) → outputs (ρ ++ numbers ks) fs ≡ image (tables_of s N) r
      unfolding image
      written fs h =
          let p = both (all_roomy (sizes_with ks) fs) (bins_from N (terms ks) 0 fs) h in
          let all = bins_are 0 fs p.0 p.1 in
          let whole : length fs ≡ N = omega (arith, all.1) in
          all.0 ∙ ap (λ n. map (bin (tables_of s N) (reading r)) (range_with_len 0 n)) whole

      -- what is d times y in every table of the length
      module _ (d : ℕ) (e y : Exp) (room : T (roomy (sizes_with ks) e)) (equals : T (equal N (plug 27 (terms ks) e) (lit (pos d) ⊗ y))) where
        times : word (run (ρ ++ numbers ks) e) ≡ pos d *ℤ ev ρ y
        times = stored_with e room ∙ same (plug 27 (terms ks) e) (lit (pos d) ⊗ y) equals

        pub divides : Multiple (pos d) (word (run (ρ ++ numbers ks) e))
        divides = record { times = ev ρ y; is = times }

        pub quotient_is : (z : ℤ) → 0 < d → word (run (ρ ++ numbers ks) e) ≡ pos d *ℤ z → z ≡ ev ρ y
        quotient_is z some is = cancel d z (ev ρ y) some (sym is ∙ times)

        abbrev pub quotient_known : (z : ℤ) → 0 < d → T (roomy sizes y) → word (run (ρ ++ numbers ks) e) ≡ pos d *ℤ z → Known ρ sizes
        quotient_known z some small is = record { number = z; term = y; is = quotient_is z some is; room = small }
