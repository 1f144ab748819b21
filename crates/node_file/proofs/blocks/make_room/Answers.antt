-- All that waits was written.
use Rattle.node_file.proofs.Fronts.{front_of_all}
use Rattle.node_file.proofs.blocks.make_room.Goals as goal

pub returns-clause-front : goal.returns-clause-front
returns-clause-front g c =
    front_of_all (g.O.ByteSink.written c.args.sink.now) (g.O.ByteSink.written c.put_front.new.sink) c.args.used c.args.block.now c.in_ok-put_front.ensures.written
