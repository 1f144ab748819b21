-- The word of a file that a half holds.
use Rattle.std.proofs.Common.{◌≡◌, ℕ, ◌+◌, ◌-◌, ◌*◌, ◌<◌, ◌≤◌, List, take, drop, Option, None, Some, refl}
use Rattle.std.specs.Prelude.{IfSome}
use Rattle.std.specs.Int.{w64, from_le_bytes}
use Rattle.std.specs.Option.{ForSome}
use Rattle.dev_traits.specs.Files.{NamedFile}
use Rattle.node_file.proofs.Frames.{held_word_is}
use Rattle.node_merge.specs.Paired.{half_bytes, IsHalf, GivesIn}
use Rattle.node_merge.specs.declared.halves.Half.{Half}

pub held_in : (half : Half) (number word : ℕ) → half.first ≤ number → number < half.first + half.held → word ≡ from_le_bytes w64 (take 8 (drop (8 * (number - half.first)) half.block))
    → (told : Option (List NamedFile)) (current : Option (List ℕ)) → IsHalf told current half → GivesIn told half number word
held_in half number word from below read told current is =
    held_word_is (half_bytes told half) half.frame.totals.records half.first half.held number word half.block is.kept from below is.inside.0 read

pub if_some : {A : Type 0} (P : A → Type 0) (o : Option A) → ForSome o P → IfSome o P
if_some P None holds = tt
if_some P (Some a) holds = holds a refl
