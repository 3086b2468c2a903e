-- A test that holds of every short length. Assumes nothing.
use Rattle.std.proofs.Common.{◌≡◌, ℕ, ◌+◌, ◌-◌, ◌≤◌, Bool, true, T, arith}
use Rattle.std.proofs.lemmas.Bool.Decides.{nat_tests}
use Rattle.algebra.proofs.Tests.{below, below_at}
use Rattle.tables.specs.Entries.{is_short}

pub bounds : (N : ℕ) → is_short N ≡ true → (3 ≤ N) × (N ≤ 9)
bounds N e =
    let low : 3 ≤ N = grind (arith, nat_tests) in
    let high : N ≤ 9 = grind (arith, nat_tests) in
    (low, high)

-- p holds of every short length
unfoldable pub everywhere : (ℕ → Bool) → Bool
everywhere p = below 7 (λ i. p (i + 3))

pub everywhere_at : (p : ℕ → Bool) → T (everywhere p) → (N : ℕ) → is_short N ≡ true → T (p N)
unfolding everywhere
everywhere_at p t N e =
    let b = bounds N e in
    let same : N - 3 + 3 ≡ N = omega arith in
    rw same at (below_at 7 (λ i. p (i + 3)) t (N - 3) (omega arith))
