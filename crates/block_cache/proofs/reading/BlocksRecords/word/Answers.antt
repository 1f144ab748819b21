-- A kept block holds the file's words; of another one the call that reads it says all.
use Rattle.std.proofs.Common.{◌/◌}
use Rattle.node_file.specs.Viewing.{file_of}
use Rattle.block_cache.specs.Viewing.{kept_of}
use Rattle.block_cache.proofs.Keeping.{kept_room, right_now, kept_word, keeps_hit, keeps_miss, still_missing}
use Rattle.block_cache.proofs.reading.BlocksRecords.word.Goals as goal

pub word-requires : goal.word-requires
word-requires g c = kept_room (file_of c.args.self.now.nodes) c.args.number c.args.self.now.cache.now.entries c.args.self.now.right c.requires

pub invariant_of-self : goal.invariant_of-self
invariant_of-self g c = record {
  right = right_now (file_of c.args.self.now.nodes) (c.args.number / 512) c.args.self.now.cache.now.cap c.args.self.now.cache.now.entries c.word.new.self c.word.ensures.entries c.args.self.now.right;
}

pub returns-in-Some-clause-word : goal.returns-in-Some-clause-word
returns-in-Some-clause-word g c =
    kept_word (file_of c.args.self.now.nodes) c.args.number c.in-Some.word c.args.self.now.cache.now.entries c.args.self.now.right c.requires c.in-Some.ensures.word

pub returns-in-Some-clause-keeps : goal.returns-in-Some-clause-keeps
returns-in-Some-clause-keeps g c =
    keeps_hit c.args.number c.in-Some.word c.args.self.now.cache.now.cap c.args.self.now.cache.now.entries c.word.new.self c.args.self.now.nodes.store.now c.in-Some.ensures.word c.word.ensures.entries

pub read-requires-clause-missing : goal.read-requires-clause-missing
read-requires-clause-missing g c =
    still_missing c.args.number c.args.self.now.cache.now.cap c.args.self.now.cache.now.entries c.word.new.self c.in-None.ensures.word c.word.ensures.entries

pub returns-in-None-clause-keeps : goal.returns-in-None-clause-keeps
returns-in-None-clause-keeps g c =
    keeps_miss c.args.number c.args.self.now.cache.now.cap c.args.self.now.cache.now.entries c.word.new.self c.in-None.ensures.word c.word.ensures.entries
    (kept_of c.read.new.self) c.args.self.now.nodes.store.now c.read.new.self.nodes.store.now c.read.result c.read.ensures.brings
