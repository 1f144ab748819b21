use Rattle.std.proofs.Common.{◌*◌, ◌%◌, ◌^◌, min, ap, ◌∙◌, arith, refl}
use Rattle.bit_grid.proofs.BlocksLemmas.{no_run, next_run_is, block_ends}
use Rattle.bit_grid.proofs.touched.TouchedBlocks.next_run.Goals as goal

pub returns-in_err-block : goal.returns-in_err-block
returns-in_err-block c = rw c.from_residual.ensures (no_run c.args.self.now c.args.from c.args.count c.requires.count c.in_err-block.ensures)

pub overflow_add-first : goal.overflow_add-first
overflow_add-first c =
    let ends = block_ends c.args.self.now.table c.in_ok-block.block c.args.self.now.shift c.requires.long c.requires.shift c.in_ok-block.ensures.found in
    omega (arith, ends.small)

pub returns : goal.returns
returns c =
    next_run_is c.args.self.now c.args.from c.args.count c.in_ok-block.block (c.in_ok-block.block * 2 ^ c.args.self.now.shift % 2 ^ 64) (1 * 2 ^ c.args.self.now.shift % 2 ^ 64) c.min.result c.min-2.result
    c.requires.long c.requires.shift (omega (arith, c.if-from-count.false)) c.in_ok-block.ensures refl refl (c.min.ensures ∙ ap (λ n. min n c.args.count) c.max.ensures) c.min-2.ensures
