use Rattle.ray_fraction.specs.InCube.{InAt}
use Rattle.ray_fraction.proofs.Ends.{end_is_greatest}
use Rattle.ray_fraction.proofs.passing.exit.Goals as goal

pub returns : goal.returns
returns c =
    end_is_greatest (InAt c.args.ray.now c.args.cube.now) (λ n m at. at.some) c.in_ok-times.times c.in_ok-times.ensures c.time.result c.time.ensures
