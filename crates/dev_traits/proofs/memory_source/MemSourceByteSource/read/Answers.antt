use Rattle.std.proofs.Common.{◌+◌, arith, ap, Some}
use Rattle.std.proofs.lemmas.List.{drop_all}
use Rattle.dev_traits.proofs.Pieces.{copied_front}
use Rattle.dev_traits.proofs.memory_source.MemSourceByteSource.read.Goals as goal

pub returns-clause-bytes : goal.returns-clause-bytes
returns-clause-bytes c = rw (← c.self.view_is, c.copy_from_slice.ensures.after) (
  ap Some (rw c.deref-2.ensures.value (copied_front c.self.inside.bytes.items c.args.into.now c.self.inside.at c.min-count.result (omega arith))),
  λ nothing. drop_all (c.self.inside.at + c.min-count.result) c.self.inside.bytes.items (omega arith),
)
