-- Two files of a store that are read in turns.
use Rattle.std.specs.Prelude.{◌≡◌, ℕ, ◌+◌, ◌*◌, ◌^◌, ◌<◌, ◌≤◌, true, List, length, take, drop, slice_index, Option, Some, IfSome, IsSome}
use Rattle.std.specs.Option.{ForSome}
use Rattle.svo_base.specs.GridShape.{IsGrid}
use Rattle.dev_traits.specs.Files.{NamedFile, current_bytes, file_named}
use Rattle.node_file.specs.FileView.{FileView}
use Rattle.node_file.specs.Stored.{words_in}
use Rattle.node_merge.specs.declared.halves.Half.{Half}

-- the bytes of a half's file, where the store's files are told
abbrev pub half_bytes : Option (List NamedFile) → Half → Option (List ℕ)
half_bytes told half = current_bytes told (Some half.name.now)

-- what contracts see of the file
abbrev pub half_view : Option (List NamedFile) → Half → FileView
half_view told half = record {
  format = half.frame.format;
  grid = half.frame.grid;
  totals = half.frame.totals;
  words = words_in (half_bytes told half) half.frame.totals.records;
}

-- the frame is that of a file of the store, the block holds words of that file, and the file is the current one where the half says so
pub record IsHalf (told : Option (List NamedFile)) (current : Option (List ℕ)) (half : Half) : Type 0 where
  pub limits : IsGrid half.frame.grid
  pub format : (1 ≤ half.frame.format) × (half.frame.format ≤ 2)
  pub some : 1 ≤ half.frame.totals.records
  pub few : 80 + 8 * half.frame.totals.records < 2 ^ 64
  pub there : ForSome told (λ files. IsSome (file_named files half.name.now))
  pub long : ForSome (half_bytes told half) (λ bytes. 80 + 8 * half.frame.totals.records ≤ length bytes)
  pub inside : (half.first + half.held ≤ half.frame.totals.records) × (half.held ≤ 512)
  pub kept : ForSome (half_bytes told half) (λ bytes. take (8 * half.held) half.block ≡ take (8 * half.held) (drop (48 + 8 * half.first) bytes))
  pub turned : half.current ≡ true → current ≡ Some half.name.now

-- it is the half's word of this number, where the store's files are told
abbrev pub GivesIn : Option (List NamedFile) → Half → ℕ → ℕ → Type 0
GivesIn told half number word = IfSome (half_view told half).words (λ words. word ≡ slice_index words number)
