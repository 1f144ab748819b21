-- One layer after another.
use Rattle.std.proofs.Common.{◌≡◌, ◌-◌, refl, arith, sym, subst, ◌∙◌}
use Rattle.std.specs.List.{flat_map, range_with_len}
use Rattle.tri_partition.specs.Partitioning.{Spills}
use Rattle.tri_partition.specs.PartRanges.{layer_parcels}
use Rattle.tri_partition.proofs.SpilledRuns.{none_spilled, no_range, spills_row}
use Rattle.tri_partition.proofs.waiting.WaitingParcels.add_box.Goals as goal

pub loop-z-init : goal.loop-z-init
loop-z-init g c = record {
  from = omega arith;
  most = omega arith;
  added = subst (λ l. Spills (g.S.Scratch.told c.args.scratch.now) (g.S.Scratch.told c.args.scratch.now) c.args.self.now.waiting (flat_map (layer_parcels c.args.self.now.levels c.args.self.now.before c.args.parcel.now c.args.xs.now c.args.ys.now) l) c.args.self.now.waiting)
      (sym (no_range c.args.zs.now.from)) (none_spilled (g.S.Scratch.told c.args.scratch.now) c.args.self.now.waiting);
  levels = refl;
  before = refl;
  started = refl;
  asked = refl;
  later = omega arith;
}

pub loop-z-preserved : goal.loop-z-preserved
loop-z-preserved g c =
    let layer : Spills (g.S.Scratch.told c.loop-z.scratch) (g.S.Scratch.told c.add_layer.new.scratch) c.loop-z.self.waiting (layer_parcels c.args.self.now.levels c.args.self.now.before c.args.parcel.now c.args.xs.now c.args.ys.now c.loop-z.z) c.add_layer.new.self.waiting =
    subst (λ before. Spills (g.S.Scratch.told c.loop-z.scratch) (g.S.Scratch.told c.add_layer.new.scratch) c.loop-z.self.waiting (layer_parcels c.args.self.now.levels before c.args.parcel.now c.args.xs.now c.args.ys.now c.loop-z.z) c.add_layer.new.self.waiting)
    c.loop-z.invariant.before
    (subst (λ levels. Spills (g.S.Scratch.told c.loop-z.scratch) (g.S.Scratch.told c.add_layer.new.scratch) c.loop-z.self.waiting (layer_parcels levels c.loop-z.self.before c.args.parcel.now c.args.xs.now c.args.ys.now c.loop-z.z) c.add_layer.new.self.waiting)
    c.loop-z.invariant.levels c.in_ok-add_layer.ensures.added) in
    record {
      from = omega (arith, c.loop-z.invariant.from);
      most = omega (arith, c.loop-z.invariant.from, c.loop-z-test.true);
      added = spills_row (g.S.Scratch.told c.args.scratch.now) (g.S.Scratch.told c.loop-z.scratch) (g.S.Scratch.told c.add_layer.new.scratch) c.args.self.now.waiting c.loop-z.self.waiting c.add_layer.new.self.waiting
          (layer_parcels c.args.self.now.levels c.args.self.now.before c.args.parcel.now c.args.xs.now c.args.ys.now) c.args.zs.now.from c.loop-z.z c.loop-z.invariant.from c.loop-z.invariant.added layer;
      levels = c.add_layer.ensures.levels ∙ c.loop-z.invariant.levels;
      before = c.add_layer.ensures.before ∙ c.loop-z.invariant.before;
      started = c.add_layer.ensures.started ∙ c.loop-z.invariant.started;
      asked = c.add_layer.ensures.asked ∙ c.loop-z.invariant.asked;
      later = omega (arith, c.add_layer.ensures.cause.later, c.loop-z.invariant.later);
    }

pub returns-clause-added : goal.returns-clause-added
returns-clause-added g c =
    let count : c.loop-z.z - c.args.zs.now.from ≡ c.args.zs.now.to - c.args.zs.now.from = omega (arith, c.loop-z.invariant.most, c.loop-z-test.false) in
    subst (λ n. Spills (g.S.Scratch.told c.args.scratch.now) (g.S.Scratch.told c.loop-z.scratch) c.args.self.now.waiting (flat_map (layer_parcels c.args.self.now.levels c.args.self.now.before c.args.parcel.now c.args.xs.now c.args.ys.now) (range_with_len c.args.zs.now.from n)) c.loop-z.self.waiting)
    count c.loop-z.invariant.added
