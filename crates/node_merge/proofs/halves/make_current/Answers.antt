-- The store has the file.
use Rattle.std.specs.Prelude.{IsSome}
use Rattle.dev_traits.specs.Files.{file_named}
use Rattle.node_merge.proofs.HeldWords.{if_some}
use Rattle.node_merge.proofs.halves.make_current.Goals as goal

pub select-requires : goal.select-requires
select-requires g c = if_some (λ files. IsSome (file_named files c.args.half.now.name.now)) (g.N.NodeStore.files c.args.store.now) c.requires.half.there
