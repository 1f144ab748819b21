-- One part after another.
use Rattle.std.proofs.Common.{◌≡◌, ◌+◌, ◌-◌, ◌∷◌, [], map, refl, arith, sym, ap, subst, ◌∙◌}
use Rattle.std.specs.List.{range_with_len}
use Rattle.octree_specs.specs.NodeCube.{code_of}
use Rattle.tri_partition.specs.Partitioning.{Spills}
use Rattle.tri_partition.specs.PartRanges.{parcel_to}
use Rattle.tri_partition.proofs.SpilledRuns.{none_spilled, no_range, spills_part}
use Rattle.tri_partition.proofs.waiting.WaitingParcels.add_row.Goals as goal

pub loop-x-init : goal.loop-x-init
loop-x-init g c = record {
  from = omega arith;
  most = omega arith;
  added = subst (λ l. Spills (g.S.Scratch.told c.args.scratch.now) (g.S.Scratch.told c.args.scratch.now) c.args.self.now.waiting (map (parcel_to c.args.self.now.levels c.args.self.now.before c.args.parcel.now c.args.z c.args.y) l) c.args.self.now.waiting)
      (sym (no_range c.args.xs.now.from)) (none_spilled (g.S.Scratch.told c.args.scratch.now) c.args.self.now.waiting);
  levels = refl;
  before = refl;
  started = refl;
  asked = refl;
  later = omega arith;
}

pub loop-x-preserved : goal.loop-x-preserved
loop-x-preserved g c =
    let put : Spills (g.S.Scratch.told c.loop-x.scratch) (g.S.Scratch.told c.put.new.scratch) c.loop-x.self.waiting (parcel_to c.args.self.now.levels c.args.self.now.before c.args.parcel.now c.args.z c.args.y c.loop-x.x ∷ []) c.put.new.self.waiting =
    let part : c.part_at-part.result ≡ c.args.self.now.before + code_of c.args.self.now.levels c.loop-x.x c.args.y c.args.z =
    c.part_at-part.ensures.code
    ∙ (ap (λ levels. c.loop-x.self.before + code_of levels c.loop-x.x c.args.y c.args.z) c.loop-x.invariant.levels
    ∙ ap (λ before. before + code_of c.args.self.now.levels c.loop-x.x c.args.y c.args.z) c.loop-x.invariant.before) in
    let parcel : c.parcel_to.result ≡ parcel_to c.args.self.now.levels c.args.self.now.before c.args.parcel.now c.args.z c.args.y c.loop-x.x =
    c.parcel_to.ensures ∙ ap (λ part. record { corners = c.args.parcel.now.corners; face = c.args.parcel.now.face; part = part }) part in
    subst (λ p. Spills (g.S.Scratch.told c.loop-x.scratch) (g.S.Scratch.told c.put.new.scratch) c.loop-x.self.waiting (p ∷ []) c.put.new.self.waiting) parcel c.in_ok-put.ensures.added in
    record {
      from = omega (arith, c.loop-x.invariant.from);
      most = omega (arith, c.loop-x.invariant.from, c.loop-x-test.true);
      added = spills_part (g.S.Scratch.told c.args.scratch.now) (g.S.Scratch.told c.loop-x.scratch) (g.S.Scratch.told c.put.new.scratch) c.args.self.now.waiting c.loop-x.self.waiting c.put.new.self.waiting
          (parcel_to c.args.self.now.levels c.args.self.now.before c.args.parcel.now c.args.z c.args.y) c.args.xs.now.from c.loop-x.x c.loop-x.invariant.from c.loop-x.invariant.added put;
      levels = c.put.ensures.levels ∙ c.loop-x.invariant.levels;
      before = c.put.ensures.before ∙ c.loop-x.invariant.before;
      started = c.put.ensures.started ∙ c.loop-x.invariant.started;
      asked = c.put.ensures.asked ∙ c.loop-x.invariant.asked;
      later = omega (arith, c.put.ensures.cause.later, c.loop-x.invariant.later);
    }

pub returns-clause-added : goal.returns-clause-added
returns-clause-added g c =
    let count : c.loop-x.x - c.args.xs.now.from ≡ c.args.xs.now.to - c.args.xs.now.from = omega (arith, c.loop-x.invariant.most, c.loop-x-test.false) in
    subst (λ n. Spills (g.S.Scratch.told c.args.scratch.now) (g.S.Scratch.told c.loop-x.scratch) c.args.self.now.waiting (map (parcel_to c.args.self.now.levels c.args.self.now.before c.args.parcel.now c.args.z c.args.y) (range_with_len c.args.xs.now.from n)) c.loop-x.self.waiting)
    count c.loop-x.invariant.added
