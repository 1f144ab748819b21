use Rattle.std.proofs.Common.{ap, Some, rules}
use Rattle.std.specs.Vec.{vec_capacity}
use Rattle.dev_traits.proofs.Rooms.{starts_empty}
use Rattle.dev_traits.proofs.memory_scratch.MemScratchScratch.start.Goals as goal

pub returns-clause-empty : goal.returns-clause-empty
returns-clause-empty c =
    ap Some (starts_empty c.self.inside.lists.items (λ list. list.items) vec_capacity c.self.inside.started c.self.inside.room c.args.streams
    c.self.invariant.1 (search rules) (search rules))

pub returns-clause-exact : goal.returns-clause-exact
returns-clause-exact c =
    let empty = starts_empty c.self.inside.lists.items (λ list. list.items) vec_capacity c.self.inside.started c.self.inside.room c.args.streams
    c.self.invariant.1 (search rules) (search rules) in
    record {
      called = search rules;
      asked = search rules;
      accepted = search rules;
      started = empty;
      none = search rules;
    }
