use Rattle.ray_fraction.proofs.Gone.{gone_turned}
use Rattle.ray_fraction.proofs.slabs.passage.Goals as goal

pub returns-in-Less-clause-times : goal.returns-in-Less-clause-times
returns-in-Less-clause-times c = λ n m some.
    let approach = c.args.approach.now in
    let turned = c.turned in
    let gone = gone_turned approach.low approach.high approach.speed turned.result.low turned.result.high turned.result.speed turned.ensures.low turned.ensures.high turned.ensures.speed n m in
    let times = c.forward.ensures.times n m some in
    (λ h. gone.0 (times.0 h), λ h. times.1 (gone.1 h))
