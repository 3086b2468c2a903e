use Rattle.std.proofs.Common.{◌≡◌, ◌*◌, ◌<◌, ◌≢◌, length, ap, ◌∙◌, add-mul, mul-le-mul, arith, get_or-set_other, get_or-set_same, w64, SFits, rules, below_more}
use Rattle.std.proofs.lemmas.Int.{to_z-of_z}
use Rattle.kernel.proofs.Image.{image_is}
use Rattle.tables.specs.declared.scale.Scale.TheVariants.{Standard}
use Rattle.tables.specs.Entries.{tables_of}
use Rattle.tables.proofs.Lengths.{bounds}
use Rattle.short.proofs.Lines.{counted}
use Rattle.short.proofs.inputs.Inputs.sums.Goals as goal

pub bin-made-requires : goal.bin-made-requires
bin-made-requires c =
    let most = (bounds (length c.args.self.now.x.now) c.args.self.now.ready.short).1 in
    let few = mul-le-mul {n₁ = c.loop-n.n} {m₁ = length c.args.self.now.x.now} {n₂ = 9} {m₂ = 9} (omega arith) most in
    record { at = omega arith; few = omega arith }

pub loop-n-preserved : goal.loop-n-preserved
loop-n-preserved c =
    let fits : SFits w64 c.bin-made.result.1 = search rules in
    let e = to_z-of_z w64 c.bin-made.result.1 fits ∙ ap (λ p. p.1) c.bin-made.ensures in
    let l : c.loop-n.n < length c.loop-n.image = omega arith in (
      counted c.bin-made.ensures ∙ omega (arith, add-mul c.loop-n.n 1 (length c.args.self.now.x.now)),
      below_more _ _
          (λ i h. let other : i ≢ c.loop-n.n = omega arith in rw get_or-set_other (c.loop-n.invariant.1 i h))
          (rw get_or-set_same e),
    )

pub returns : goal.returns
returns c =
    let r = c.args.self.now.x.now in
    let e : c.loop-n.n ≡ length r = omega arith in
    record {
      made = c.loop-n.invariant.0 ∙ ap (λ n. n * length r) e;
      writes = image_is (tables_of Standard (length r)) r c.loop-n.image (omega arith) (λ i h. c.loop-n.invariant.1 i (omega arith));
    }
