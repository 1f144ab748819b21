use Rattle.std.proofs.Common.{◌≡◌, ◌++◌, ◌≤◌, length, take, arith, length-take-le}
use Rattle.svo_top.proofs.MadeBlocks.{front_put, less_left, more_put, put_stops}
use Rattle.svo_top.proofs.making.put_mesh.Goals as goal

pub loop-block-preserved : goal.loop-block-preserved
loop-block-preserved g c = (
  more_put (g.O.ByteSink.written c.args.out.now) (g.O.ByteSink.written c.loop-block.out) (g.O.ByteSink.written c.put.new.self) c.args.mesh.now c.loop-block.mesh _ c.next_bytes-count.new.mesh
      c.loop-block.invariant.0 c.next_bytes-count.ensures.bytes c.in_ok-put.ensures.bytes,
  omega (arith, c.loop-block.invariant.1, c.in_ok-put.ensures.cause),
  omega (arith, c.loop-block.invariant.2, c.next_bytes-count.ensures.size),
)

pub returns-in_err-put-clause-bytes : goal.returns-in_err-put-clause-bytes
returns-in_err-put-clause-bytes g c =
    put_stops (g.O.ByteSink.written c.args.out.now) (g.O.ByteSink.written c.put.new.self) c.args.mesh.now c.from_residual.result c.from_residual.ensures.0
    (front_put (g.O.ByteSink.written c.args.out.now) (g.O.ByteSink.written c.loop-block.out) (g.O.ByteSink.written c.put.new.self) c.args.mesh.now c.loop-block.mesh _ c.next_bytes-count.new.mesh
    c.loop-block.invariant.0 c.next_bytes-count.ensures.bytes c.in_err-put.ensures.bytes)
