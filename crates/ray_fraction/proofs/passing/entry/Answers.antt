use Rattle.ray_fraction.specs.InCube.{InAt}
use Rattle.ray_fraction.proofs.Ends.{start_is_least}
use Rattle.ray_fraction.proofs.passing.entry.Goals as goal

pub returns : goal.returns
returns c =
    start_is_least (InAt c.args.ray.now c.args.cube.now) (λ n m at. at.some) c.in_ok-times.times c.in_ok-times.ensures c.time.result c.time.ensures
