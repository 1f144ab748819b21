-- What is written is a front of what waits and the trailer.
use Rattle.std.proofs.Common.{take, ap, ◌∙◌}
use Rattle.std.specs.Io.KnownBytes.{append_known}
use Rattle.octree_specs.specs.OctreeFile.{trailer_of}
use Rattle.node_file.specs.Waiting.{given_by}
use Rattle.node_file.proofs.Fronts.{front_of_more, front_of_longer, front_of_all}
use Rattle.node_file.proofs.blocks.put_last.Goals as goal

pub returns-in_err-used-clause-front : goal.returns-in_err-used-clause-front
returns-in_err-used-clause-front g c =
    front_of_longer (g.O.ByteSink.written c.args.sink.now) (g.O.ByteSink.written c.append.new.sink) (take c.args.used c.args.block.now) (trailer_of 2 c.args.records c.args.cells) c.append.ensures.front

pub returns-in_err-put_front-clause-front : goal.returns-in_err-put_front-clause-front
returns-in_err-put_front-clause-front g c =
    front_of_more (g.O.ByteSink.written c.args.sink.now) (g.O.ByteSink.written c.append.new.sink) (g.O.ByteSink.written c.put_front.new.sink)
    (take c.args.used c.args.block.now) (take c.in_ok-used.used c.append.new.block) (trailer_of 2 c.args.records c.args.cells)
    c.append.ensures.front
    (c.in_ok-used.ensures.given ∙ ap (append_known (given_by (g.O.ByteSink.written c.args.sink.now) c.args.block.now c.args.used)) c.trailer_bytes.ensures)
    c.in_err-put_front.ensures.cut

pub returns-clause-front : goal.returns-clause-front
returns-clause-front g c =
    front_of_more (g.O.ByteSink.written c.args.sink.now) (g.O.ByteSink.written c.append.new.sink) (g.O.ByteSink.written c.put_front.new.sink)
    (take c.args.used c.args.block.now) (take c.in_ok-used.used c.append.new.block) (trailer_of 2 c.args.records c.args.cells)
    c.append.ensures.front
    (c.in_ok-used.ensures.given ∙ ap (append_known (given_by (g.O.ByteSink.written c.args.sink.now) c.args.block.now c.args.used)) c.trailer_bytes.ensures)
    (front_of_all (g.O.ByteSink.written c.append.new.sink) (g.O.ByteSink.written c.put_front.new.sink) c.in_ok-used.used c.append.new.block c.in_ok-put_front.ensures.written)
