-- The file whose frame was read is the one that is shown.
use Rattle.dev_traits.specs.Files.{current_bytes}
use Rattle.node_file.specs.Stored.{words_in}
use Rattle.node_file.specs.Viewing.{file_of}
use Rattle.node_file.proofs.Loads.{is_loaded}
use Rattle.node_file.proofs.stored.Nodes.load.Goals as goal

pub returns-in-Ok-clause-loaded : goal.returns-in-Ok-clause-loaded
returns-in-Ok-clause-loaded g c =
    is_loaded file_of c.args.name.now c.new.result c.in-Ok.frame (g.N.NodeStore.files c.args.store.now) (g.N.NodeStore.files c.read.new.store) (g.N.NodeStore.current c.read.new.store)
    c.in-Ok.ensures.found c.in-Ok.ensures.files c.in-Ok.ensures.current
    (λ i. record {
      format = (c.new.ensures.frame i).format;
      grid = (c.new.ensures.frame i).grid;
      totals = (c.new.ensures.frame i).totals;
      words = words_in (current_bytes (g.N.NodeStore.files (c.new.ensures.now i)) (g.N.NodeStore.current (c.new.ensures.now i))) (c.new.ensures.frame i).totals.records;
    })
    c.in-Ok.ensures.some
