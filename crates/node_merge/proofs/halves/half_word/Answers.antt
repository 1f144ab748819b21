-- The block has the word.
use Rattle.std.proofs.Common.{◌≡◌, subst}
use Rattle.std.specs.Prelude.{IfSome, slice_index}
use Rattle.node_file.specs.FileView.{FileView}
use Rattle.node_merge.proofs.halves.half_word.Goals as goal

pub returns-clause-word : goal.returns-clause-word
returns-clause-word g c =
    subst (λ (view : FileView). IfSome view.words (λ words. c.held_word.result ≡ slice_index words c.args.number)) c.fetch.ensures.view
    (c.held_word.ensures.word (g.N.NodeStore.files c.fetch.new.store) (g.N.NodeStore.current c.fetch.new.store) c.fetch.ensures.half)
