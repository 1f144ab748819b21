-- The options of `make` and `sum`, and what their values make of them.
use Rattle.std.specs.Prelude.{ℕ, List, [], ◌∷◌, pos, Option, Some, codes}
use Rattle.svo_words.specs.Choices.{Choice}
use Rattle.text_words.specs.Numbers.{◌>>=◌}
use Rattle.svo_words.specs.Tables.{required, optional}
use Rattle.svo_words.specs.Lookups.{Lookup}
use Rattle.svo_words.specs.Values.{number_in, number_or, text_or}
use Rattle.svo_words.specs.declared.made.MakeWords.{MakeWords}
use Rattle.svo_words.specs.declared.made.SumNumbers.{SumNumbers}
use Rattle.svo_words.specs.declared.made.SumWords.{SumWords}

unfoldable pub make_choices : List Choice
make_choices = required (codes "number") ∷ required (codes "side") ∷ []

unfoldable pub make_from : Lookup → Option MakeWords
make_from values = do
  number ← number_in values (codes "number")
  side ← number_in values (codes "side")
  Some (record { number = number; side = side })

unfoldable pub sum_choices : List Choice
sum_choices =
    required (codes "number") ∷ required (codes "side") ∷ required (codes "depth") ∷ optional (codes "memory") ∷ optional (codes "scratch") ∷ []

unfoldable pub sum_numbers : Lookup → Option SumNumbers
sum_numbers values = do
  made ← make_from values
  depth ← number_in values (codes "depth")
  memory ← number_or (pos 268435456) values (codes "memory")
  Some (record { made = made; depth = depth; memory = memory })

abbrev pub sum_with : SumNumbers → List ℕ → SumWords
sum_with numbers scratch = record {
  number = numbers.made.number;
  side = numbers.made.side;
  depth = numbers.depth;
  memory = numbers.memory;
  scratch = scratch;
}

-- the same options as for `build` have the same defaults
unfoldable pub sum_from : Lookup → Option SumWords
sum_from values = do
  numbers ← sum_numbers values
  scratch ← text_or (codes "svo_scratch") values (codes "scratch")
  Some (sum_with numbers scratch)
