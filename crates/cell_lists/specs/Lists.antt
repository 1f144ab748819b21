-- The text of a list of cells.
use Rattle.std.specs.Prelude.{◌≡◌, ℕ, ◌++◌, List, Option, Result, Ok, Err, codes}
use Rattle.std.specs.Fmt.{decimal}
use Rattle.std.specs.List.{flat_map}
use Rattle.octree_specs.specs.Cells.{Cell}
use Rattle.octree_specs.specs.NodeCube.{coordinate_of}
use Rattle.std.specs.Io.KnownBytes.{append_known}
use Rattle.node_file.specs.Waiting.{given_by}
use Rattle.node_check.specs.Stops.{PutsFront}
use Rattle.node_check.specs.declared.stops.AnswerStop.{AnswerStop}
use Rattle.node_check.specs.declared.stops.AnswerStop.TheVariants.{WriteFault, Walk}
use Rattle.node_check.specs.declared.walking.WalkFault.TheVariants.{Failed, Refused}

-- the line of a cell: its code, and how many cells are below it along x, y and z
unfoldable pub cell_line : ℕ → List ℕ
cell_line code =
    decimal code ++ codes " " ++ decimal (coordinate_of 0 20 code) ++ codes " " ++ decimal (coordinate_of 1 20 code) ++ codes " " ++ decimal (coordinate_of 2 20 code) ++ codes "\n"

-- a line for each cell, in the order of the list
unfoldable pub cells_text : List Cell → List ℕ
cells_text cells = flat_map (λ cell. cell_line cell.code) cells

-- the text was given: a sink has some front of it, and the rest waits in a block; or only that front, where a put or a read failed
abbrev pub Waits : Option (List ℕ) → Option (List ℕ) → List ℕ → List ℕ → Result ℕ AnswerStop → Type 0
Waits before after block text (Ok used) = (given_by after block used ≡ append_known before text) × PutsFront before after text
Waits before after block text (Err WriteFault) = PutsFront before after text
Waits before after block text (Err (Walk Failed)) = PutsFront before after text
Waits before after block text (Err (Walk (Refused number word))) = ⊥
