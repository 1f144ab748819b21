-- The bytes that were read are the block's.
use Rattle.std.proofs.Common.{◌≡◌, ◌-◌, ◌/◌, ◌%◌, length, refl, sym, ap, ◌∙◌, subst}
use Rattle.node_file.specs.Viewing.{file_of}
use Rattle.block_cache.specs.Kept.{HoldsBlock}
use Rattle.block_cache.proofs.Keeping.{all_written, fetched, read_word, right_kept, keys_kept}
use Rattle.block_cache.proofs.reading.Blocks.fetch.Goals as goal

pub invariant_of-self-2 : goal.invariant_of-self-2
invariant_of-self-2 g c =
    let size : length c.block.new.into ≡ length c.args.room.items = c.in_ok-block.ensures.room ∙ ap length c.as_mut_slice.ensures.value in
    let same = c.new-block.ensures ∙ all_written c.args.room.len c.block.new.into c.args.room.items (c.in_ok-block.ensures.room ∙ c.as_mut_slice.ensures.len) in
    record {
      right = right_kept (file_of c.args.self.now.nodes) (file_of c.block.new.self) c.args.self.now.cache.now c.keep.new.self (c.args.number / 512) c.new-block.result c.keep.ensures.entries
          c.in_ok-block.ensures.file c.args.self.now.right
          (subst (HoldsBlock (file_of c.args.self.now.nodes) (c.args.number / 512)) (sym same)
          (fetched (file_of c.args.self.now.nodes) c.args.number (c.args.number - c.args.number % 512) c.block.new.into refl (size ∙ c.requires.size) c.in_ok-block.ensures.words));
    }

pub returns-clause-word : goal.returns-clause-word
returns-clause-word g c =
    let size : length c.block.new.into ≡ length c.args.room.items = c.in_ok-block.ensures.room ∙ ap length c.as_mut_slice.ensures.value in
    let same = c.new-block.ensures ∙ all_written c.args.room.len c.block.new.into c.args.room.items (c.in_ok-block.ensures.room ∙ c.as_mut_slice.ensures.len) in
    read_word (file_of c.args.self.now.nodes) c.new-block.result c.args.number c.word-word.result c.requires.number
    (subst (HoldsBlock (file_of c.args.self.now.nodes) (c.args.number / 512)) (sym same)
    (fetched (file_of c.args.self.now.nodes) c.args.number (c.args.number - c.args.number % 512) c.block.new.into refl (size ∙ c.requires.size) c.in_ok-block.ensures.words))
    c.word-word.ensures

pub returns-clause-kept : goal.returns-clause-kept
returns-clause-kept g c = keys_kept c.args.self.now.cache.now c.keep.new.self (c.args.number / 512) c.new-block.result c.keep.ensures.entries c.requires.missing c.requires.valid.some
