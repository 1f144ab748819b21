-- The options of `merge` and `coarse`, and what their values make of them.
use Rattle.std.specs.Prelude.{ℕ, List, [], ◌∷◌, Option, Some, codes}
use Rattle.svo_words.specs.Choices.{Choice}
use Rattle.text_words.specs.Numbers.{◌>>=◌}
use Rattle.svo_words.specs.Tables.{required}
use Rattle.svo_words.specs.Lookups.{Lookup}
use Rattle.svo_words.specs.Values.{number_in, text_in, merge_in}
use Rattle.svo_words.specs.declared.kinds.MergeWord.{MergeWord}
use Rattle.svo_words.specs.declared.combining.MergeWords.{MergeWords}
use Rattle.svo_words.specs.declared.combining.CoarseWords.{CoarseWords}

unfoldable pub merge_choices : List Choice
merge_choices = required (codes "kind") ∷ required (codes "nodes") ∷ required (codes "with") ∷ []

unfoldable pub coarse_choices : List Choice
coarse_choices = required (codes "nodes") ∷ required (codes "levels") ∷ []

abbrev pub merge_with : MergeWord → List ℕ → List ℕ → MergeWords
merge_with kind nodes second = record { kind = kind; nodes = nodes; with = second }

unfoldable pub merge_from : Lookup → Option MergeWords
merge_from values = do
  kind ← merge_in values (codes "kind")
  second ← text_in values (codes "with")
  nodes ← text_in values (codes "nodes")
  Some (merge_with kind nodes second)

unfoldable pub coarse_from : Lookup → Option CoarseWords
coarse_from values = do
  levels ← number_in values (codes "levels")
  nodes ← text_in values (codes "nodes")
  Some (record { nodes = nodes; levels = levels })
