-- The block's bytes are those of the file.
use Rattle.node_file.specs.Viewing.{bytes_of}
use Rattle.node_file.proofs.Frames.{held_word_is}
use Rattle.node_file.proofs.stored.Nodes.held_word.Goals as goal

pub returns : goal.returns
returns g c =
    held_word_is (bytes_of c.args.self.now) c.args.self.now.frame.totals.records c.args.self.now.first c.args.self.now.held c.args.number c.number_at.result c.args.self.now.block
    c.args.self.now.kept c.requires.0 c.requires.1 c.args.self.now.inside.0 c.number_at.ensures
