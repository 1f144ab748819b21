-- Blocks that are kept, by number, and their words.
use Rattle.std.specs.Prelude.{◌≡◌, ℕ, ◌+◌, ◌-◌, ◌*◌, ◌<◌, ◌≤◌, ◌⊎◌, min, Bool, cond, true, false, nat_eq, List, [], ◌∷◌, length, take, drop, slice_index, Contains, Option, None, Some, Result, IsOk, MatchResult}
use Rattle.std.specs.Int.{w64, from_le_bytes}
use Rattle.std.specs.List.{IsDistinct}
use Rattle.std.specs.Option.{ForSome}
use Rattle.node_file.specs.FileView.{FileView}

-- the word at a place in a block's bytes
abbrev pub word_at : List ℕ → ℕ → ℕ
word_at bytes at = from_le_bytes w64 (take 8 (drop (8 * at) bytes))

-- the bytes of the first block, where it is this one
abbrev pub front_of : ℕ → List (ℕ × List ℕ) → Option (List ℕ)
front_of block [] = None
front_of block (e ∷ _) = cond (nat_eq block e.0) (Some e.1) None

-- these are the bytes of the file's words in this block: 512 of them, or as many as there are from its first on
pub record HoldsBlock (file : FileView) (block : ℕ) (bytes : List ℕ) : Type 0 where
  pub size : length bytes ≡ 8 * min 512 (file.totals.records - 512 * block)
  pub words : ForSome file.words (λ words. (at : ℕ) → 8 * at < length bytes → slice_index words (512 * block + at) ≡ word_at bytes at)

-- the bytes of each block are the file's
abbrev pub AreOfFile : FileView → List (ℕ × List ℕ) → Type 0
AreOfFile file blocks = (e : ℕ × List ℕ) → Contains blocks e → HoldsBlock file e.0 e.1

-- ---- numbers of blocks, the last used first

-- whether a block is kept
abbrev pub is_kept : ℕ → List ℕ → Bool
is_kept block [] = false
is_kept block (other ∷ rest) = cond (nat_eq block other) true (is_kept block rest)

-- the others
abbrev pub without : ℕ → List ℕ → List ℕ
without block [] = []
without block (other ∷ rest) = cond (nat_eq block other) rest (other ∷ without block rest)

-- at most so many blocks, all different; at least one may be kept
pub record AreKept (keep : ℕ) (kept : List ℕ) : Type 0 where
  pub some : 1 ≤ keep
  pub few : length kept ≤ keep
  pub different : IsDistinct nat_eq kept

-- what a call for a word of a block that is not kept leaves: the block comes to the front, and the last leaves where there would be too many; or
-- it is not kept. A refused call leaves all as it was.
abbrev pub BringsBlock : {T E : Type 0} → ℕ → ℕ → List ℕ → List ℕ → Result T E → Type 0
BringsBlock keep block before after result = MatchResult result (λ _. (after ≡ take keep (block ∷ before)) ⊎ (after ≡ before)) (λ _. after ≡ before)

-- what a call for a word of a block leaves: of a kept block the word comes, the store is as it was, and the block goes to the front
pub record KeepsBlock {S T E : Type 0} (keep block : ℕ) (before after : List ℕ) (store_before store_after : S) (result : Result T E) : Type 0 where
  pub hit : is_kept block before ≡ true → IsOk result × (store_after ≡ store_before) × (after ≡ block ∷ without block before)
  pub miss : is_kept block before ≡ false → BringsBlock keep block before after result
