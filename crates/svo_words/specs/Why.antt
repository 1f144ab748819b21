-- The options of `why`, and what their values make of it.
use Rattle.std.specs.Prelude.{List, [], ◌∷◌, Option, Some, codes}
use Rattle.svo_words.specs.Choices.{Choice}
use Rattle.text_words.specs.Numbers.{◌>>=◌}
use Rattle.svo_words.specs.Tables.{required}
use Rattle.svo_words.specs.Lookups.{Lookup}
use Rattle.svo_words.specs.Values.{numbers_in}
use Rattle.svo_words.specs.declared.why.WhyWords.{WhyWords}

unfoldable pub why_choices : List Choice
why_choices = required (codes "triangle") ∷ required (codes "cube") ∷ []

unfoldable pub why_from : Lookup → Option WhyWords
why_from values = do
  triangle ← numbers_in 9 values (codes "triangle")
  cube ← numbers_in 4 values (codes "cube")
  Some (record { triangle = triangle; cube = cube })
