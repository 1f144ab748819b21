-- The options of `build`, and what their values make of it.
use Rattle.std.specs.Prelude.{◌≡◌, ℕ, Bool, not, is_some, true, false, List, [], ◌∷◌, pos, Option, None, Some, option_map, codes}
use Rattle.svo_words.specs.Choices.{Choice}
use Rattle.text_words.specs.Numbers.{◌>>=◌}
use Rattle.svo_words.specs.Tables.{required, required_unless, optional, flag}
use Rattle.svo_words.specs.Lookups.{Lookup}
use Rattle.svo_words.specs.Values.{is_set, number_in, number_or, numbers_in, text_or}
use Rattle.svo_words.specs.declared.build.BuildNumbers.{BuildNumbers}
use Rattle.svo_words.specs.declared.build.BuildWords.{BuildWords}

-- the grid is given by its corner and its cell, or fitted to the mesh
unfoldable pub build_choices : List Choice
build_choices =
    required (codes "depth") ∷ optional (codes "memory") ∷ optional (codes "decimals") ∷ flag (codes "cut") ∷ optional (codes "scratch") ∷ flag (codes "fit")
    ∷ required_unless (codes "fit") (codes "origin") ∷ required_unless (codes "fit") (codes "cell") ∷ []

-- a value that is wanted where a flag does not stand
abbrev pub unless : {A : Type 0} → Bool → Option A → Option (Option A)
unless true value = Some None
unless false value = option_map Some value

unfoldable pub build_numbers : Lookup → Option BuildNumbers
build_numbers values = do
  depth ← number_in values (codes "depth")
  memory ← number_or (pos 268435456) values (codes "memory")
  decimals ← number_or (pos 0) values (codes "decimals")
  origin ← unless (is_set values (codes "fit")) (numbers_in 3 values (codes "origin"))
  cell ← unless (is_set values (codes "fit")) (number_in values (codes "cell"))
  Some (record { depth = depth; memory = memory; decimals = decimals; cut = is_set values (codes "cut"); fit = is_set values (codes "fit"); origin = origin; cell = cell })

abbrev pub with_scratch : BuildNumbers → List ℕ → BuildWords
with_scratch numbers scratch = record {
  depth = numbers.depth;
  memory = numbers.memory;
  decimals = numbers.decimals;
  cut = numbers.cut;
  scratch = scratch;
  fit = numbers.fit;
  origin = numbers.origin;
  cell = numbers.cell;
}

unfoldable pub build_from : Lookup → Option BuildWords
build_from values = do
  numbers ← build_numbers values
  scratch ← text_or (codes "svo_scratch") values (codes "scratch")
  Some (with_scratch numbers scratch)

-- it has a corner and a cell exactly where its grid is not fitted
abbrev pub HasOneGrid : BuildWords → Type 0
HasOneGrid job = (is_some job.origin ≡ not job.fit) × (is_some job.cell ≡ not job.fit)
