-- What a writer of words was given.
use Rattle.std.specs.Prelude.{ℕ, List, take, Option}
use Rattle.dev_traits.specs.declared.device.ByteSink.{Ghosts}
use Rattle.node_file.specs.Waiting.{given_by}
use Rattle.node_file.specs.declared.writer.NodeWriter.{NodeWriter}

module _ {O : Type 0} {g : Ghosts O} where
  -- the bytes that wait in the block
  abbrev pub waiting : NodeWriter O g → List ℕ
  waiting writer = take writer.used writer.block.now

  -- all that was given: the sink holds a front of it, and the rest waits
  abbrev pub given : NodeWriter O g → Option (List ℕ)
  given writer = given_by (g.written writer.sink.now) writer.block.now writer.used
