use Rattle.std.proofs.Common.{◌≡◌, arith, to_z-of_z}
use mir.Val.{to_z, of_z}
use Rattle.std.specs.Int.{w64}
use Rattle.std.proofs.lemmas.Int.{ints}
use Rattle.slice_view.specs.Cameras.{moved_along}
use Rattle.slice_view.proofs.CameraLimits.{three}
use Rattle.slice_view.proofs.cameras.Camera.moved.Goals as goal

pub returns : goal.returns
returns c =
    let x : to_z w64 (of_z w64 c.moved_along.result) ≡ moved_along c.args.self.now c.args.vector.now 0 c.args.a c.args.b = grind (arith, ints, to_z-of_z) in
    let y : to_z w64 (of_z w64 c.moved_along-2.result) ≡ moved_along c.args.self.now c.args.vector.now 1 c.args.a c.args.b = grind (arith, ints, to_z-of_z) in
    let z : to_z w64 (of_z w64 c.moved_along-3.result) ≡ moved_along c.args.self.now c.args.vector.now 2 c.args.a c.args.b = grind (arith, ints, to_z-of_z) in
    three _ _ _ _ _ _ x y z
