use Rattle.std.proofs.Common.{refl}
use Rattle.bit_grid.proofs.BlocksLemmas.{all_touched}
use Rattle.bit_grid.proofs.touched.TouchedBlocks.all.Goals as goal

pub returns : goal.returns
returns c list long = all_touched _ list c.block_shift.result c.args.slots refl c.requires c.block_shift.ensures.shallow c.block_shift.ensures.covered long
