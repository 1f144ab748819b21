-- The block's bytes are those of the file.
use Rattle.node_merge.proofs.HeldWords.{held_in}
use Rattle.node_merge.proofs.halves.held_word.Goals as goal

pub returns : goal.returns
returns c = record { word = held_in c.args.half.now c.args.number c.word_at.result c.requires.there.0 c.requires.there.1 c.word_at.ensures }
