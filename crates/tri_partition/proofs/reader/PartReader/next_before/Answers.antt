-- The next parcel, or none.
use Rattle.std.proofs.Common.{◌≡◌, [], sym, ap, ◌∙◌}
use Rattle.dev_traits.specs.declared.device.Failed.{Failed}
use Rattle.tri_partition.proofs.Held.{nothing_between}
use Rattle.tri_partition.proofs.NextParcels.{stays, gives_none, gives_some}
use Rattle.tri_partition.proofs.reader.PartReader.next_before.Goals as goal

pub returns-then-self-clause-gives : goal.returns-then-self-clause-gives
returns-then-self-clause-gives g c =
    let none : c.fetch.new.self.held ≡ [] = sym (ap (λ view. view.held) c.self.view_is) ∙ nothing_between c.self.inside.block.now c.self.inside.from c.self.inside.to c.if-self.true in
    gives_none Failed (g.S.Scratch.told c.args.scratch.now) c.args.self.now.part c.args.self.now c.fetch.new.self none c.fetch.ensures.holds c.in_ok-fetch.ensures.none

pub returns-then-self-clause-goes : goal.returns-then-self-clause-goes
returns-then-self-clause-goes g c =
    let none : c.fetch.new.self.held ≡ [] = sym (ap (λ view. view.held) c.self.view_is) ∙ nothing_between c.self.inside.block.now c.self.inside.from c.self.inside.to c.if-self.true in
    stays c.args.self.now c.fetch.new.self c.fetch.ensures.part c.fetch.ensures.place none c.fetch.ensures.kept

pub returns-clause-gives : goal.returns-clause-gives
returns-clause-gives g c =
    gives_some Failed (g.S.Scratch.told c.args.scratch.now) c.args.self.now.part c.args.self.now c.fetch.new.self c.pass.new.self c.front-parcel.result
    c.fetch.ensures.place c.pass.ensures.whole c.front-parcel.ensures.faced c.pass.ensures.after c.fetch.ensures.holds
