use Rattle.std.proofs.Common.{◌-◌, ◌≤◌, length, take, drop, arith}
use Rattle.host_files.proofs.MovedBytes.{appends_on}
use Rattle.host_files.proofs.transfers.write_whole.Goals as goal

pub loop-done-preserved : goal.loop-done-preserved
loop-done-preserved g c =
    let left : length (take (length c.args.piece.now - c.loop-done.done) (drop c.loop-done.done c.args.piece.now)) ≤ length c.args.piece.now - c.loop-done.done = omega arith in (
      omega (arith, left, c.loop-done.invariant.0, c.in_ok-count.ensures.bound),
      appends_on (g.W.Write.contents c.args.file.now) (g.W.Write.contents c.loop-done.file) (g.W.Write.contents c.write.new.self) c.args.piece.now c.loop-done.done (length c.args.piece.now - c.loop-done.done) c.in_ok-count.count (omega (arith, left, c.in_ok-count.ensures.bound)) c.loop-done.invariant.1 c.in_ok-count.ensures.bytes,
    )
