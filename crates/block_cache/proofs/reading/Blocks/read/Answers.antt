-- What the block's own call leaves, or nothing where there is no room.
use Rattle.std.proofs.Common.{◌/◌}
use Rattle.block_cache.specs.Viewing.{kept_of, keep_of}
use Rattle.block_cache.proofs.Keeping.{brings_block, brings_none}
use Rattle.block_cache.proofs.reading.Blocks.read.Goals as goal

pub returns-in-Some-clause-brings : goal.returns-in-Some-clause-brings
returns-in-Some-clause-brings g c =
    brings_block (keep_of c.args.self.now) (c.args.number / 512) (kept_of c.args.self.now) (kept_of c.fetch.new.self) c.fetch.result c.fetch.ensures.kept c.fetch.ensures.refused

pub returns-in-None-clause-brings : goal.returns-in-None-clause-brings
returns-in-None-clause-brings g c = brings_none (keep_of c.args.self.now) (c.args.number / 512) (kept_of c.args.self.now) c.word.result
