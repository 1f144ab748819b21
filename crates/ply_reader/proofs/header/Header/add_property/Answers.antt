use Rattle.std.proofs.Common.{◌+◌, ◌++◌, ◌∷◌, [], length, ap, sym, ◌∙◌, subst, append-nil}
use Rattle.ply_reader.specs.Ranges.{AreWithin, AreFew}
use Rattle.ply_reader.specs.Declarations.{one_more}
use Rattle.ply_reader.proofs.WithinRanges.{within_more, within_one_more, few_one_more}
use Rattle.ply_reader.proofs.header.Header.add_property.Goals as goal
use Rattle.ply_reader.proofs.header.Header.add_property.Goals.{in-Some, in_default}

pub invariant_of-self : goal.invariant_of-self
invariant_of-self c =
    let n = length c.args.self.now.properties.items in
    elim c.match-pop.branch [
      | in-Some w ↦
          let before : AreWithin n (c.pop.new.self.items ++ w.in-Some.last ∷ []) = subst (AreWithin n) w.in-Some.ensures.items c.args.self.now.within in
          let after : AreWithin (n + 1) (c.pop.new.self.items ++ one_more w.in-Some.last ∷ []) = within_one_more n c.pop.new.self.items w.in-Some.last before in
          let pushed : AreWithin (n + 1) w.push.new.self.items = subst (AreWithin (n + 1)) (sym w.push.ensures.items) after in
          let same = ap (λ s. s.1.1.1.0.items) w.self-is in
          let few : AreFew c.match-pop.self.1.1.1.0.items = subst AreFew (sym w.push.ensures.items ∙ sym same) (few_one_more c.pop.new.self.items w.in-Some.last (subst AreFew w.in-Some.ensures.items c.args.self.now.few)) in
          record { few = few; within = subst (λ count. AreWithin count c.match-pop.self.1.1.1.0.items) (sym c.push-2.ensures.len) (subst (AreWithin (n + 1)) (sym same) pushed) }
      | in_default w ↦
          let before : AreWithin n c.pop.new.self.items = subst (AreWithin n) (w.in_default.ensures.items ∙ append-nil c.pop.new.self.items) c.args.self.now.within in
          let same = ap (λ s. s.1.1.1.0.items) w.self-is in
          let few : AreFew c.match-pop.self.1.1.1.0.items = subst AreFew (w.in_default.ensures.items ∙ append-nil c.pop.new.self.items ∙ sym same) c.args.self.now.few in
          record { few = few; within = subst (λ count. AreWithin count c.match-pop.self.1.1.1.0.items) (sym c.push-2.ensures.len) (subst (AreWithin (n + 1)) (sym same) (within_more n c.pop.new.self.items before)) }
    ]
