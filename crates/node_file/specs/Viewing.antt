-- What contracts see of a file that is read from a store.
use Rattle.std.specs.Prelude.{List, ℕ, Option, Result, Ok, Err}
use Rattle.dev_traits.specs.Files.{current_bytes}
use Rattle.dev_traits.specs.declared.file_device.NodeStore.{Ghosts}
use Rattle.node_file.specs.FileView.{FileView}
use Rattle.node_file.specs.Stored.{words_in}
use Rattle.node_file.specs.declared.loading.LoadFault.{LoadFault}
use Rattle.node_file.specs.declared.stored.Nodes.{Nodes}
use Rattle.node_file.specs.declared.stored.Unloaded.{Unloaded}

module _ {N : Type 0} {g : Ghosts N} where
  -- the bytes of the store's current file, where it tells them
  abbrev pub bytes_of : Nodes N g → Option (List ℕ)
  bytes_of nodes = current_bytes (g.files nodes.store.now) (g.current nodes.store.now)

  abbrev pub file_of : Nodes N g → FileView
  file_of nodes = record {
    format = nodes.frame.format;
    grid = nodes.frame.grid;
    totals = nodes.frame.totals;
    words = words_in (bytes_of nodes) nodes.frame.totals.records;
  }

  -- the answer to a load without the store that comes back with a fault
  abbrev pub fault_of : Result (Nodes N g) (Unloaded N) → Result (Nodes N g) LoadFault
  fault_of (Ok nodes) = Ok nodes
  fault_of (Err unloaded) = Err unloaded.fault
