use Rattle.std.proofs.Common.{◌≡◌, ⊎_elim, subst}
use Rattle.ray_fraction.specs.Spans.{IsDuring}
use Rattle.ray_fraction.specs.declared.spans.TimeSpan.{TimeSpan}
use Rattle.ray_fraction.specs.declared.spans.TimeSpan.TheVariants.{Never, Always}
use Rattle.ray_fraction.proofs.Ends.{stands_still}
use Rattle.ray_fraction.proofs.passing.times_in.Goals as goal

pub returns-in-Never : goal.returns-in-Never
returns-in-Never c = λ n m some. (
  λ h. absurd h,
  λ inside.
      let x = (c.crossing-x.ensures.times n m some).1 inside.x in
      let y = (c.crossing-y.ensures.times n m some).1 inside.y in
      let z = (c.crossing-z.ensures.times n m some).1 inside.z in
      let both = (c.meet.ensures.times n m some).1 (x, y) in
      let all = (c.meet-2.ensures.times n m some).1 (both, z) in
      ⊎_elim (λ (never : c.meet-2.result ≡ Never). let P : TimeSpan → Type 0 = λ span. IsDuring span n m in absurd (subst P never all)) (λ (always : c.meet-2.result ≡ Always).
      let ray = c.args.ray.now in
      let later = c.meet-2.ensures.always always in
      let first = c.meet.ensures.always later.0 in
      let limits = c.crossing-x.ensures.limits in
      let still = stands_still ray.direction limits.direction_axes (c.crossing-x.ensures.always first.0) (c.crossing-y.ensures.always first.1) (c.crossing-z.ensures.always later.1) in
      let moves = limits.moves in cc) c.in-Never.is,
)
