use Rattle.std.proofs.Common.{◌^◌, ◌≤◌, arith}
use Rattle.std.specs.Prelude.{unsigned_abs}
use Rattle.std.proofs.lemmas.List.Elements.{All-weaker}
use Rattle.slice_view.proofs.cameras.Camera.ray.Goals as goal

pub moved-requires-in-Pinhole-clause-vector : goal.moved-requires-in-Pinhole-clause-vector
moved-requires-in-Pinhole-clause-vector c =
    All-weaker (λ z. unsigned_abs z ≤ 2 ^ 16) (λ z. unsigned_abs z ≤ 2 ^ 39) (λ z near. omega (arith, near)) c.self.inside.toward c.self.invariant.ahead
