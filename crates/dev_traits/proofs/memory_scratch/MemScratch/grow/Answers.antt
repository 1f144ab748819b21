use Rattle.std.proofs.Common.{◌≡◌, ◌++◌, ◌-◌, length, take, min, refl, rules}
use Rattle.dev_traits.specs.Failing.{taken_of}
use Rattle.dev_traits.proofs.Rooms.{grown_as, is_started}
use Rattle.dev_traits.proofs.memory_scratch.MemScratch.grow.Goals as goal

pub returns-clause-grows : goal.returns-clause-grows
returns-clause-grows c =
    let list = c.index_mut-list.result.now in
    let inside = is_started (λ list. list.items) c.self.inside.started c.args.stream c.self.inside.lists.items (rw (← c.self.view_is) at c.requires) in
    let longer : c.extend_from_slice.new.self.items ≡ list.items ++ take c.taken-taken.result c.args.piece.now = search rules in
    let taken : c.taken-taken.result ≡ taken_of c.args.entry (min (length c.args.piece.now) (c.self.inside.room - length list.items)) = search rules in
    rw (← c.self.view_is) (record {
      streams = grown_as (λ list. list.items) c.self.inside.started c.args.stream c.self.inside.lists.items list c.extend_from_slice.new.self c.args.piece.now
          c.self.inside.room c.taken-taken.result c.args.entry inside c.self.invariant.1.within (search rules) longer taken;
      asked = refl;
      made = search rules;
      room = refl;
      fails = refl;
      calls = refl;
      faults = refl;
    })
