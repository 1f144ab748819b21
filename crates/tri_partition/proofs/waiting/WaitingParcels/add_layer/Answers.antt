-- One row after another.
use Rattle.std.proofs.Common.{◌≡◌, ◌-◌, refl, arith, sym, subst, ◌∙◌}
use Rattle.std.specs.List.{flat_map, range_with_len}
use Rattle.tri_partition.specs.Partitioning.{Spills}
use Rattle.tri_partition.specs.PartRanges.{row_parcels}
use Rattle.tri_partition.proofs.SpilledRuns.{none_spilled, no_range, spills_row}
use Rattle.tri_partition.proofs.waiting.WaitingParcels.add_layer.Goals as goal

pub loop-y-init : goal.loop-y-init
loop-y-init g c = record {
  from = omega arith;
  most = omega arith;
  added = subst (λ l. Spills (g.S.Scratch.told c.args.scratch.now) (g.S.Scratch.told c.args.scratch.now) c.args.self.now.waiting (flat_map (row_parcels c.args.self.now.levels c.args.self.now.before c.args.parcel.now c.args.xs.now c.args.z) l) c.args.self.now.waiting)
      (sym (no_range c.args.ys.now.from)) (none_spilled (g.S.Scratch.told c.args.scratch.now) c.args.self.now.waiting);
  levels = refl;
  before = refl;
  started = refl;
  asked = refl;
  later = omega arith;
}

pub loop-y-preserved : goal.loop-y-preserved
loop-y-preserved g c =
    let put : Spills (g.S.Scratch.told c.loop-y.scratch) (g.S.Scratch.told c.add_row.new.scratch) c.loop-y.self.waiting (row_parcels c.args.self.now.levels c.args.self.now.before c.args.parcel.now c.args.xs.now c.args.z c.loop-y.y) c.add_row.new.self.waiting =
    subst (λ before. Spills (g.S.Scratch.told c.loop-y.scratch) (g.S.Scratch.told c.add_row.new.scratch) c.loop-y.self.waiting (row_parcels c.args.self.now.levels before c.args.parcel.now c.args.xs.now c.args.z c.loop-y.y) c.add_row.new.self.waiting)
    c.loop-y.invariant.before
    (subst (λ levels. Spills (g.S.Scratch.told c.loop-y.scratch) (g.S.Scratch.told c.add_row.new.scratch) c.loop-y.self.waiting (row_parcels levels c.loop-y.self.before c.args.parcel.now c.args.xs.now c.args.z c.loop-y.y) c.add_row.new.self.waiting)
    c.loop-y.invariant.levels c.in_ok-add_row.ensures.added) in
    record {
      from = omega (arith, c.loop-y.invariant.from);
      most = omega (arith, c.loop-y.invariant.from, c.loop-y-test.true);
      added = spills_row (g.S.Scratch.told c.args.scratch.now) (g.S.Scratch.told c.loop-y.scratch) (g.S.Scratch.told c.add_row.new.scratch) c.args.self.now.waiting c.loop-y.self.waiting c.add_row.new.self.waiting
          (row_parcels c.args.self.now.levels c.args.self.now.before c.args.parcel.now c.args.xs.now c.args.z) c.args.ys.now.from c.loop-y.y c.loop-y.invariant.from c.loop-y.invariant.added put;
      levels = c.add_row.ensures.levels ∙ c.loop-y.invariant.levels;
      before = c.add_row.ensures.before ∙ c.loop-y.invariant.before;
      started = c.add_row.ensures.started ∙ c.loop-y.invariant.started;
      asked = c.add_row.ensures.asked ∙ c.loop-y.invariant.asked;
      later = omega (arith, c.add_row.ensures.cause.later, c.loop-y.invariant.later);
    }

pub returns-clause-added : goal.returns-clause-added
returns-clause-added g c =
    let count : c.loop-y.y - c.args.ys.now.from ≡ c.args.ys.now.to - c.args.ys.now.from = omega (arith, c.loop-y.invariant.most, c.loop-y-test.false) in
    subst (λ n. Spills (g.S.Scratch.told c.args.scratch.now) (g.S.Scratch.told c.loop-y.scratch) c.args.self.now.waiting (flat_map (row_parcels c.args.self.now.levels c.args.self.now.before c.args.parcel.now c.args.xs.now c.args.z) (range_with_len c.args.ys.now.from n)) c.loop-y.self.waiting)
    count c.loop-y.invariant.added
