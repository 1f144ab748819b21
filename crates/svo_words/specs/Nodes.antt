-- The options of the commands on a node file, and what their values make of them.
use Rattle.std.specs.Prelude.{List, [], ◌∷◌, pos, Option, Some, codes}
use Rattle.svo_words.specs.Choices.{Choice}
use Rattle.text_words.specs.Numbers.{◌>>=◌}
use Rattle.svo_words.specs.Tables.{required, optional}
use Rattle.svo_words.specs.Lookups.{Lookup}
use Rattle.svo_words.specs.Values.{number_in, number_or, text_in}
use Rattle.svo_words.specs.declared.nodes.CheckWords.{CheckWords}
use Rattle.svo_words.specs.declared.nodes.HasWords.{HasWords}
use Rattle.svo_words.specs.declared.nodes.CellsWords.{CellsWords}
use Rattle.svo_words.specs.declared.nodes.LiftWords.{LiftWords}
use Rattle.svo_words.specs.declared.nodes.CastWords.{CastWords}
use Rattle.svo_words.specs.declared.nodes.NearWords.{NearWords}

-- of `check` and `lift`
unfoldable pub nodes_choices : List Choice
nodes_choices = required (codes "nodes") ∷ []

-- of `has`
unfoldable pub has_choices : List Choice
has_choices = required (codes "nodes") ∷ required (codes "code") ∷ []

-- of `cells`, `cast` and `near`
unfoldable pub kept_choices : List Choice
kept_choices = required (codes "nodes") ∷ optional (codes "keep") ∷ []

unfoldable pub check_from : Lookup → Option CheckWords
check_from values = do
  nodes ← text_in values (codes "nodes")
  Some (record { nodes = nodes })

unfoldable pub has_from : Lookup → Option HasWords
has_from values = do
  code ← number_in values (codes "code")
  nodes ← text_in values (codes "nodes")
  Some (record { nodes = nodes; code = code })

unfoldable pub cells_from : Lookup → Option CellsWords
cells_from values = do
  keep ← number_or (pos 64) values (codes "keep")
  nodes ← text_in values (codes "nodes")
  Some (record { nodes = nodes; keep = keep })

unfoldable pub lift_from : Lookup → Option LiftWords
lift_from values = do
  nodes ← text_in values (codes "nodes")
  Some (record { nodes = nodes })

unfoldable pub cast_from : Lookup → Option CastWords
cast_from values = do
  keep ← number_or (pos 64) values (codes "keep")
  nodes ← text_in values (codes "nodes")
  Some (record { nodes = nodes; keep = keep })

unfoldable pub near_from : Lookup → Option NearWords
near_from values = do
  keep ← number_or (pos 64) values (codes "keep")
  nodes ← text_in values (codes "nodes")
  Some (record { nodes = nodes; keep = keep })
