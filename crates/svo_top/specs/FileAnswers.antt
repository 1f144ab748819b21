-- The answers to questions about node files.
use Rattle.std.specs.Prelude.{ℕ, ◌^◌, Bool, cond, if◌then◌else◌, ◌&&◌, nat_lt, is_some, ℤ, pos, int_le, unsigned_abs, List, ◌++◌, length, codes, Option, None, Some}
use Rattle.std.specs.Fmt.{decimal}
use Rattle.svo_base.specs.GridShape.{GridShape}
use Rattle.svo_base.specs.GridLimits.{is_positive}
use Rattle.octree_specs.specs.Cells.{Cell}
use Rattle.octree_specs.specs.Formats.{file_words}
use Rattle.octree_specs.specs.OctreeFile.{image_of}
use Rattle.node_check.specs.Walks.{face_at}
use Rattle.svo_top.specs.declared.outcome.RangeFault.{RangeFault}
use Rattle.svo_top.specs.declared.outcome.RangeFault.TheVariants.{Code, Levels, Slice as BadSlice}
use Rattle.svo_top.specs.Picturing.{is_layer}
use Rattle.svo_top.specs.declared.file_question.Question.{Question}
use Rattle.svo_top.specs.declared.file_question.Question.TheVariants.{Check, Has, Cells, Lift, Lines, Slice, View, Coarse}

-- ---- what needs the file's grid

-- a code is that of a cell of a grid of this depth
abbrev pub is_code : ℤ → ℕ → Bool
is_code code depth = int_le (pos 0) code && nat_lt (unsigned_abs code) (8 ^ depth)

-- a grid of this depth can lose so many levels and keep one
abbrev pub is_coarser : ℤ → ℕ → Bool
is_coarser levels depth = is_positive levels && nat_lt (unsigned_abs levels) depth

-- the first range that needs the grid and that a number of the question is out of
abbrev pub bar : Question → ℕ → Option RangeFault
bar Check depth = None
bar (Has code) depth = if is_code code depth then None else Some Code
bar Cells depth = None
bar Lift depth = None
bar (Lines kind) depth = None
bar (Slice axis at) depth = if is_layer at depth then None else Some BadSlice
bar (View camera) depth = None
bar (Coarse levels) depth = if is_coarser levels depth then None else Some Levels

-- ---- lines

unfoldable pub check_line : ℕ → ℕ → ℕ → List ℕ
check_line depth records cells = codes "ok depth " ++ decimal depth ++ codes " records " ++ decimal records ++ codes " cells " ++ decimal cells ++ codes "\n"

unfoldable pub has_line : Bool → List ℕ
has_line filled = cond filled (codes "yes\n") (codes "no\n")
