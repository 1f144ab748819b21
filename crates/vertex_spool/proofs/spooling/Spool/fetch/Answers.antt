-- The point of an index.
use Rattle.std.proofs.Common.{◌≡◌, ◌*◌, []}
use Rattle.std.specs.Prelude.{IfSome}
use Rattle.room_plan.specs.declared.elements.VertexBlock.{VertexBlock}
use Rattle.room_plan.specs.Coordinates.{point_at}
use Rattle.dev_traits.specs.Streams.{stream_of}
use Rattle.vertex_spool.proofs.Vertices.{fetched, fetched_point}
use Rattle.vertex_spool.proofs.spooling.Spool.fetch.Goals as goal

no_points : VertexBlock
no_points = record { number = 0; count = 0; numbers = [] }

pub returns-clause-point : goal.returns-clause-point
returns-clause-point g c =
    let block = c.in_ok-slot.ensures.block no_points in
    let read : IfSome (g.S.Scratch.told c.args.scratch.now) (λ streams. c.kept_point.result ≡ point_at (stream_of streams 0) (3 * c.args.index)) =
    fetched (g.S.Scratch.told c.args.scratch.now) c.load.new.window c.in_ok-slot.slot c.args.index no_points c.kept_point.result
    c.in_ok-slot.ensures.slot c.load.ensures.kept block.0 block.1 (c.kept_point.ensures no_points) in
    fetched_point (g.S.Scratch.told c.args.scratch.now) c.args.self.now c.args.index c.kept_point.result c.requires.index c.requires.held read

pub returns-clause-read : goal.returns-clause-read
returns-clause-read g c =
    let block = c.in_ok-slot.ensures.block no_points in
    fetched (g.S.Scratch.told c.args.scratch.now) c.load.new.window c.in_ok-slot.slot c.args.index no_points c.kept_point.result
    c.in_ok-slot.ensures.slot c.load.ensures.kept block.0 block.1 (c.kept_point.ensures no_points)
