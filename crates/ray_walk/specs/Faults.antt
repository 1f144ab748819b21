-- What a refused walk says of the words.
use Rattle.std.specs.Prelude.{◌≡◌, ℕ, ◌/◌, ◌%◌, ◌^◌, ◌<◌, ◌≤◌, ◌==◌, true, List, slice_index, Option, IfSome}
use Rattle.dev_traits.specs.Faults.{Rose}
use Rattle.octree_specs.specs.Walking.{child_number}
use Rattle.node_check.specs.declared.walking.WalkFault.{WalkFault}
use Rattle.node_check.specs.declared.walking.WalkFault.TheVariants.{Failed, Refused}

-- the word, which has this number, places a child not before itself
pub record IsMisplaced (number word : ℕ) : Type 0 where
  pub place : ℕ
  pub octant : place < 8
  pub child : word / 2 ^ place % 2 == 1 ≡ true
  pub late : number ≤ child_number word place

-- the causes of faults: the count of faults rose; the word, which is the one of its number where the words are told, places a child not before itself
abbrev pub IsCaused : Option (List ℕ) → ℕ → ℕ → WalkFault → Type 0
IsCaused told before after Failed = Rose before after
IsCaused told before after (Refused number word) = IsMisplaced number word × IfSome told (λ words. word ≡ slice_index words number)
