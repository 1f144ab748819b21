-- The options of `slice` and `view`, and what their values make of them.
use Rattle.std.specs.Prelude.{ℕ, List, [], ◌∷◌, pos, Option, Some, codes}
use Rattle.svo_words.specs.Choices.{Choice}
use Rattle.text_words.specs.Numbers.{◌>>=◌}
use Rattle.svo_words.specs.Tables.{required, optional}
use Rattle.svo_words.specs.Lookups.{Lookup}
use Rattle.svo_words.specs.Values.{number_in, number_or, numbers_in, text_in, axis_in, kind_in}
use Rattle.svo_words.specs.declared.pictures.SliceValues.{SliceValues}
use Rattle.svo_words.specs.declared.pictures.SliceWords.{SliceWords}
use Rattle.svo_words.specs.declared.pictures.ViewFrame.{ViewFrame}
use Rattle.svo_words.specs.declared.pictures.ViewSizes.{ViewSizes}
use Rattle.svo_words.specs.declared.pictures.ViewWords.{ViewWords}

unfoldable pub slice_choices : List Choice
slice_choices = required (codes "nodes") ∷ required (codes "axis") ∷ required (codes "at") ∷ optional (codes "keep") ∷ []

unfoldable pub slice_values : Lookup → Option SliceValues
slice_values values = do
  axis ← axis_in values (codes "axis")
  at ← number_in values (codes "at")
  keep ← number_or (pos 64) values (codes "keep")
  Some (record { axis = axis; at = at; keep = keep })

abbrev pub slice_with : SliceValues → List ℕ → SliceWords
slice_with others nodes = record { nodes = nodes; axis = others.axis; at = others.at; keep = others.keep }

unfoldable pub slice_from : Lookup → Option SliceWords
slice_from values = do
  others ← slice_values values
  nodes ← text_in values (codes "nodes")
  Some (slice_with others nodes)

unfoldable pub view_choices : List Choice
view_choices =
    required (codes "nodes") ∷ required (codes "kind") ∷ required (codes "eye") ∷ required (codes "toward") ∷ required (codes "right") ∷ required (codes "up")
    ∷ required (codes "width") ∷ required (codes "height") ∷ required (codes "far") ∷ optional (codes "keep") ∷ []

unfoldable pub view_frame : Lookup → Option ViewFrame
view_frame values = do
  kind ← kind_in values (codes "kind")
  eye ← numbers_in 3 values (codes "eye")
  toward ← numbers_in 3 values (codes "toward")
  right ← numbers_in 3 values (codes "right")
  up ← numbers_in 3 values (codes "up")
  Some (record { kind = kind; eye = eye; toward = toward; right = right; up = up })

unfoldable pub view_sizes : Lookup → Option ViewSizes
view_sizes values = do
  width ← number_in values (codes "width")
  height ← number_in values (codes "height")
  far ← number_in values (codes "far")
  keep ← number_or (pos 64) values (codes "keep")
  Some (record { width = width; height = height; far = far; keep = keep })

abbrev pub view_with : ViewFrame → ViewSizes → List ℕ → ViewWords
view_with frame sizes nodes = record {
  nodes = nodes;
  kind = frame.kind;
  eye = frame.eye;
  toward = frame.toward;
  right = frame.right;
  up = frame.up;
  width = sizes.width;
  height = sizes.height;
  far = sizes.far;
  keep = sizes.keep;
}

unfoldable pub view_from : Lookup → Option ViewWords
view_from values = do
  frame ← view_frame values
  sizes ← view_sizes values
  nodes ← text_in values (codes "nodes")
  Some (view_with frame sizes nodes)
