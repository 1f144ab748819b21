-- What contracts see of a file whose words are read by blocks.
use Rattle.std.specs.Prelude.{ℕ, List}
use Rattle.std.specs.Map.{keys_of}
use Rattle.dev_traits.specs.declared.file_device.NodeStore.{Ghosts}
use Rattle.block_cache.specs.declared.reading.Blocks.{Blocks}

module _ {N : Type 0} {g : Ghosts N} where
  -- the numbers of the blocks that are kept, the last used first
  abbrev pub kept_of : Blocks N g → List ℕ
  kept_of blocks = keys_of blocks.cache.now.entries

  -- how many blocks are kept at most
  abbrev pub keep_of : Blocks N g → ℕ
  keep_of blocks = blocks.cache.now.cap
