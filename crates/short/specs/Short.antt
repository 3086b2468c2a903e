-- What a short kernel means: the standard tables of a length from 3 to 9. Assumes nothing.
use Rattle.std.specs.Prelude.{ℕ, ◌*◌, ◌^◌, if◌then◌else◌, [], ◌∷◌, pos, Some, None, slice_index}
use Rattle.kernel.specs.declared.fault.Layer.TheVariants.{Short}
use Rattle.kernel.specs.declared.fault.Unfit.TheVariants.{NoShortKernel}
use Rattle.kernel.specs.Meaning.{Meaning}
use Rattle.tables.specs.declared.scale.Scale.TheVariants.{Standard}
use Rattle.tables.specs.Entries.{scale_of, is_short, tables_of}

-- the largest size of a reading
abbrev pub short_limit : ℕ
short_limit = 2 ^ 40

-- a fit kernel of length N that makes so many products
abbrev pub fit_short : ℕ → ℕ → Meaning
fit_short N count = record {
  fault = None;
  layer = Short;
  gain = scale_of Standard;
  limit = short_limit;
  scale = scale_of Standard;
  count = count;
  tables = tables_of Standard N;
}

abbrev pub unfit_short : ℕ → Meaning
unfit_short N = record {
  fault = Some (NoShortKernel N);
  layer = Short;
  gain = 0;
  limit = 0;
  scale = 0;
  count = 0;
  tables = record { N = 0; C = λ m. pos 0; S = λ m. pos 0 };
}

abbrev pub short : ℕ → ℕ → Meaning
short N count = if is_short N then fit_short N count else unfit_short N

-- the direct kernel makes a product for each reading in each bin
abbrev pub direct : ℕ → Meaning
direct N = short N (N * N)

-- the products that the fast kernel makes, at lengths 0 to 9
abbrev pub fast_count : ℕ → ℕ
fast_count N = slice_index (0 ∷ 0 ∷ 0 ∷ 2 ∷ 0 ∷ 5 ∷ 4 ∷ 8 ∷ 2 ∷ 10 ∷ []) N

abbrev pub fast : ℕ → Meaning
fast N = short N (fast_count N)
