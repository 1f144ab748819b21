-- The numbers of parts have 32 bits.
use Rattle.std.proofs.Common.{arith}
use Rattle.tri_partition.proofs.ReachedParts.{few_parts}
use Rattle.tri_partition.proofs.waiting.WaitingParcels.part_at.Goals as goal

pub overflow_add-result : goal.overflow_add-result
overflow_add-result c = record { fits = omega (arith, c.part_at.ensures.below, few_parts c.self.inside.levels c.self.invariant.0, c.self.invariant.1) }
