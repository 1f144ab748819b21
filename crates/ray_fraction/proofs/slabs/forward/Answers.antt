use Rattle.std.proofs.Common.{◌≡◌, arith, pos}
use Rattle.std.specs.Prelude.{unsigned_abs}
use Rattle.std.specs.Int.{int_max}
use Rattle.std.proofs.lemmas.Int.{ints, clamps, to_z-of_z}
use Rattle.ray_fraction.proofs.Gone.{gone_between}
use Rattle.ray_fraction.proofs.slabs.forward.Goals as goal

pub returns-clause-times : goal.returns-clause-times
returns-clause-times c = λ n m some.
    let approach = c.args.approach.now in
    let from : c.unsigned_abs.result ≡ unsigned_abs (int_max approach.low (pos 0)) = grind (arith, ints, clamps, to_z-of_z) in
    let until : c.unsigned_abs-2.result ≡ unsigned_abs approach.high = grind (arith, ints, to_z-of_z) in
    let pace : pos c.unsigned_abs-speed.result ≡ approach.speed = grind (arith, ints, to_z-of_z) in
    let gone = gone_between approach.low approach.high approach.speed c.unsigned_abs.result c.unsigned_abs-2.result c.unsigned_abs-speed.result from until pace (omega (arith, ints, c.if-approach-lt0.false)) n m in
    let times = c.between.ensures.times n m some in
    (λ h. gone.0 (times.0 h), λ h. times.1 (gone.1 h))
