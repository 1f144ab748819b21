use Rattle.std.proofs.Common.{[], ◌∷◌}
use Rattle.dev_traits.proofs.StoredFiles.{current_still}
use Rattle.dev_traits.proofs.memory_store.MemStore.add.Goals as goal

pub invariant_of-self-2 : goal.invariant_of-self-2
invariant_of-self-2 c =
    current_still c.self.inside.current c.self.inside.files.items c.push.new.self.items (record { name = c.in_ok-name.name; bytes = c.in_ok-bytes.bytes } ∷ [])
    c.in_ok-push.ensures.items c.self.invariant
