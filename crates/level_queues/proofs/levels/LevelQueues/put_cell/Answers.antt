-- There are few cells.
use Rattle.std.proofs.Common.{arith}
use Rattle.level_queues.proofs.Bounds.{cells-few}
use Rattle.level_queues.proofs.levels.LevelQueues.put_cell.Goals as goal

pub overflow_add-self : goal.overflow_add-self
overflow_add-self g c =
    let now = c.args.self.now in
    omega (arith, c.put.ensures.cells, cells-few now.depth now.last now.cells now.most now.inside now.few)
