-- The bytes read are those of the words from the number on.
use Rattle.std.proofs.Common.{◌∙◌}
use Rattle.node_file.specs.Viewing.{bytes_of}
use Rattle.node_file.proofs.Frames.{block_words}
use Rattle.node_file.proofs.stored.Nodes.block.Goals as goal

pub returns-clause-words : goal.returns-clause-words
returns-clause-words g c =
    block_words (bytes_of c.args.self.now) c.args.self.now.frame.totals.records c.args.from c.requires.whole.0 c.read_words.new.into (c.in_ok-read_words.ensures.room ∙ c.requires.whole.1) c.requires.whole.3
    c.in_ok-read_words.ensures.bytes
