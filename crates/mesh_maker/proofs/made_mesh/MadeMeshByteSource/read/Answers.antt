use Rattle.std.proofs.Common.{◌≡◌, ℕ, List, ◌-◌, ◌≤◌, length, take, drop, arith, ◌∙◌, length-take-le, length-drop}
use borrow.Rule.Slice.PartMut.{put_mid, same_len_mid}
use Rattle.mesh_maker.proofs.GivenBytes.{gave_on}
use Rattle.mesh_maker.proofs.made_mesh.MadeMeshByteSource.read.Goals as goal

pub loop-done-preserved : goal.loop-done-preserved
loop-done-preserved c =
    let done : ℕ = c.loop-done.done in
    let into : List ℕ = c.loop-done.into in
    let ys : List ℕ = c.give-count.new.into in
    let k : ℕ = length into - done in
    let size : length (put_mid done k into ys) ≡ length into = same_len_mid done k into ys c.give-count.ensures.size in
    let room : length (take k (drop done into)) ≡ k = length-take-le k (drop done into) (omega (arith, length-drop done into)) in
    let bound : c.give-count.result ≤ k = omega (arith, room, c.give-count.ensures.bound) in (
      omega (arith, size, bound, c.loop-done-test.true),
      size ∙ c.loop-done.invariant.1,
      gave_on into ys c.args.self.now c.loop-done.self c.give-count.new.self done k c.give-count.result c.loop-done.invariant.0 (omega (arith, c.give-count.ensures.size, c.give-count.ensures.bound)) c.loop-done.invariant.2 c.give-count.ensures.bytes,
    )
