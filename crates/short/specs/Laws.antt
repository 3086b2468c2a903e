-- A short kernel keeps the laws of a kernel. Assumes nothing.
use Rattle.std.specs.Prelude.{◌≡◌, ℕ, ◌*◌, ◌≤◌, Bool, true, false, cond, T, nat_le, refl}
use Rattle.std.proofs.Common.{arith, leb→le}
use Rattle.algebra.proofs.Tests.{below}
use Rattle.kernel.specs.Meaning.{Fit, Idle, Lawful}
use Rattle.tables.specs.declared.scale.Scale.TheVariants.{Standard}
use Rattle.tables.specs.Entries.{is_short}
use Rattle.tables.proofs.Laws.{short_laws}
use Rattle.tables.proofs.Lengths.{bounds, everywhere, everywhere_at}
use Rattle.short.specs.Short.{fit_short, unfit_short, short, direct, fast, fast_count}

fit : (N count : ℕ) → is_short N ≡ true → count ≤ N * N → Fit (fit_short N count)
fit N count e few =
    let laws = short_laws N e in
    let b = bounds N e in
    record {
      N_least = omega arith;
      N_most = omega arith;
      gain_least = omega arith;
      gain_most = omega arith;
      room = omega arith;
      few = few;
      symmetric = laws.symmetric Standard;
      C_size = laws.C_size Standard;
      S_size = laws.S_size Standard;
      at_zero = laws.at_zero Standard;
      scaled = omega arith;
      only_zeros = laws.only_zeros;
    }

idle : (N : ℕ) → Idle (unfit_short N)
idle N = record { no_length = refl; no_gain = refl; no_limit = refl; no_scale = refl; no_count = refl }

-- a short kernel of any length that makes no more products than the sums as they are written
pub short_lawful : (N count : ℕ) → (is_short N ≡ true → count ≤ N * N) → Lawful (short N count)
short_lawful N count few = go (is_short N) refl
  where
    go : (b : Bool) → is_short N ≡ b → Lawful (cond b (fit_short N count) (unfit_short N))
    go true e = fit N count e (few e)
    go false e = idle N

-- the sums as they are written make no more products than themselves
pub sums_few : (N : ℕ) → is_short N ≡ true → N * N ≤ N * N
sums_few N e = omega arith

-- the algorithms make no more products than the sums as they are written
counts : T (everywhere (λ N. nat_le (fast_count N) (N * N)))
unfolding everywhere below
counts = tt

pub few_products : (N : ℕ) → is_short N ≡ true → fast_count N ≤ N * N
few_products N e = leb→le (fast_count N) (N * N) (everywhere_at _ counts N e)

-- the law at both methods: the direct and the fast kernel
pub direct_lawful : (N : ℕ) → Lawful (direct N)
direct_lawful N = short_lawful N (N * N) (sums_few N)

pub fast_lawful : (N : ℕ) → Lawful (fast N)
fast_lawful N = short_lawful N (fast_count N) (few_products N)
