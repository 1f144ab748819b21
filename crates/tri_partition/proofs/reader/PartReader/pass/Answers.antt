-- What is behind the piece in front.
use Rattle.std.proofs.Common.{◌≡◌, ◌≤◌, ◌+◌, ◌-◌, drop, arith, sym, ap, ◌∙◌}
use Rattle.std.specs.Prelude.{slice_range}
use Rattle.tri_partition.proofs.Held.{some_whole, behind_front}
use Rattle.tri_partition.proofs.reader.PartReader.pass.Goals as goal

pub invariant_of-self : goal.invariant_of-self
invariant_of-self c =
    let held : slice_range c.self.inside.block.now c.self.inside.from c.self.inside.to ≡ c.args.self.now.held = ap (λ view. view.held) c.self.view_is in
    let whole = c.self.invariant.4 in
    let within : c.self.inside.from + 40 ≤ c.self.inside.to =
    some_whole c.self.inside.block.now c.self.inside.from c.self.inside.to whole.0 whole.1 (λ none. c.requires (sym held ∙ none)) in (
      c.self.invariant.0,
      within,
      c.self.invariant.2,
      omega (arith, within, c.self.invariant.3),
      (whole.0 - 1, omega (arith, within, whole.1)),
    )

pub returns-clause-after : goal.returns-clause-after
returns-clause-after c =
    let held : slice_range c.self.inside.block.now c.self.inside.from c.self.inside.to ≡ c.args.self.now.held = ap (λ view. view.held) c.self.view_is in
    let whole = c.self.invariant.4 in
    let within : c.self.inside.from + 40 ≤ c.self.inside.to =
    some_whole c.self.inside.block.now c.self.inside.from c.self.inside.to whole.0 whole.1 (λ none. c.requires (sym held ∙ none)) in
    let behind : slice_range c.self.inside.block.now (c.self.inside.from + 40) c.self.inside.to ≡ drop 40 c.args.self.now.held =
    sym (behind_front c.self.inside.block.now c.self.inside.from c.self.inside.to within) ∙ ap (drop 40) held in
    let part : c.self.inside.part ≡ c.args.self.now.part = ap (λ view. view.part) c.self.view_is in
    let place : c.self.inside.place + 40 ≡ c.args.self.now.place + 40 = ap (λ view. view.place + 40) c.self.view_is in
    λ i. record { part = part i; place = place i; held = behind i }
