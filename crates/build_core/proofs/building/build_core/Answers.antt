-- A valid plan has a split of at most 4, and so at most 4096 parts.
use Rattle.std.proofs.Common.{◌≤◌, ◌^◌, arith}
use Rattle.room_plan.proofs.Sizes.{cells_within}
use Rattle.build_core.proofs.ValidPlans.{valid_sizes}
use Rattle.build_core.proofs.building.build_core.Goals as goal

pub part_count-requires : goal.part_count-requires
part_count-requires g c = (valid_sizes c.args.job.now.plan c.requires.job.planned).split

pub overflow_add-part_count : goal.overflow_add-part_count
overflow_add-part_count g c =
    let few : 8 ^ c.args.job.now.plan.split ≤ 8 ^ 4 = cells_within c.args.job.now.plan.split 4 (valid_sizes c.args.job.now.plan c.requires.job.planned).split in
    omega (arith, few, c.part_count.ensures)
