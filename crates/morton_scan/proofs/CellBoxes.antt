-- Boxes of cells under a node.
use Rattle.std.proofs.Common.{◌≡◌, ℕ, zero, suc, ◌+◌, ◌-◌, ◌*◌, ◌/◌, ◌%◌, ◌^◌, ◌<◌, ◌≤◌, max, min, List, length, get_or, set, Bool, true, ℤ, lit<, arith, refl, sym, ap, subst, ◌∙◌}
use Rattle.std.specs.Prelude.{int_le, ◌&&◌, nat_le, nat_lt}
use Rattle.std.proofs.Math.Nat.{pow-suc, div-div-eq-div-mul, div-lt_iff_lt-mul, div-mul-le_self, mul-le-mul_right, pow-le-pow_right}
use Rattle.std.proofs.lemmas.Nat.{le-div, pow-add, pow_pos}
use Rattle.std.proofs.lemmas.Bool.{and_parts, leb-true}
use Rattle.svo_base.specs.GridShape.{GridShape}
use Rattle.svo_base.specs.declared.shapes.Triangle.{Triangle}
use Rattle.svo_base.specs.declared.boxes.Extent.{Extent}
use Rattle.svo_base.specs.declared.boxes.Bounds.{Bounds}
use Rattle.svo_base.specs.Boxes.{bounds_of}
use Rattle.octree_specs.specs.Meeting.{Meets, low_of, high_of}
use Rattle.octree_specs.specs.NodeCube.{code_of, coordinate_of, node_cube, side_of}
use Rattle.octree_specs.specs.Parts.{passing, PassWhereMet}
use Rattle.morton_code.proofs.Children.{halves_coordinates, meet_together}
use Rattle.bit_grid.specs.Slots.{lesser_slot}
use Rattle.morton_code.proofs.Heights.{eight_pos}
use Rattle.morton_code.proofs.Coordinates.{coordinate_of_short, coordinate_in_level, code_of_coordinates, code_of_short, code_below, x_of_code, y_of_code, z_of_code}
use Rattle.tri_partition.specs.PartRanges.{extent_reaches as range_reaches, in_range}
use Rattle.tri_partition.specs.declared.part_ranges.PartRange.{PartRange}
use Rattle.morton_scan.specs.CellBoxes.{Along, HoldsMet, IsBoxUnder, IsInRange, IsSingle, MetInBox, cells_in, places_in}
use Rattle.morton_scan.specs.declared.cell_boxes.CellBox.{CellBox}
use Rattle.morton_scan.specs.declared.nodes.Node.{Node}
use Rattle.morton_scan.specs.Nodes.{IsNode, HasSlots}
use Rattle.morton_scan.specs.Putting.{ArePut, MetUnder}
use Rattle.morton_scan.specs.Reaching.{bounds_reach, extent_reaches}
use Rattle.morton_scan.proofs.Putting.{Keyed, joined_within, none_put, put_cell, put_joined, range_grows, same_put}
use Rattle.morton_scan.proofs.ReachedCubes.{reach_where_met}
use Rattle.morton_scan.proofs.SmallerNodes.{one_of_sum}

-- ---- places along the axes

-- of a code without its last digits
place_above : (axis digits height code : ℕ) → coordinate_of axis digits (code / 8 ^ height) ≡ coordinate_of axis (digits + height) code / 2 ^ height
place_above axis digits zero code =
    let same : code / 8 ^ 0 ≡ code = omega arith in
    let level : digits + 0 ≡ digits = omega arith in
    rw (same, level) (omega arith)
place_above axis digits (suc height) code =
    let eight : 8 ^ suc height ≡ 8 * 8 ^ height = omega (arith, pow-suc 8 height) in
    let two : 2 ^ suc height ≡ 2 * 2 ^ height = omega (arith, pow-suc 2 height) in
    let level : digits + suc height ≡ digits + height + 1 = omega arith in
    let halved = halves_coordinates.parent axis (digits + height) code in
    rw (eight, two, level, ← div-div-eq-div-mul code 8 (8 ^ height), ← div-div-eq-div-mul (coordinate_of axis (digits + height + 1) code) 2 (2 ^ height), ← halved)
    (place_above axis digits height (code / 8))

-- a cell under a node has the node's place, without its last digits
pub place_of_node : (axis height code node : ℕ) → height ≤ 20 → node < 8 ^ (20 - height) → code / 8 ^ height ≡ node → coordinate_of axis 20 code / 2 ^ height ≡ coordinate_of axis 20 node
place_of_node axis height code node within below is =
    let level : 20 - height + height ≡ 20 = omega (arith, within) in
    let above = place_above axis (20 - height) height code in
    let short : coordinate_of axis 20 node ≡ coordinate_of axis (20 - height) node = coordinate_of_short axis (20 - height) 20 node (omega arith) below in
    rw (short, ← is, above, level) refl

-- codes of few digits, without their last ones, and back
eights_joined : (height : ℕ) → height ≤ 20 → 8 ^ (20 - height) * 8 ^ height ≡ 8 ^ 20
eights_joined height within =
    let level : 20 - height + height ≡ 20 = omega (arith, within) in
    let power : 8 ^ (20 - height + height) ≡ 8 ^ (20 - height) * 8 ^ height = pow-add 8 (20 - height) height in
    sym (subst (λ n. 8 ^ n ≡ 8 ^ (20 - height) * 8 ^ height) level power)

short_above : (height code : ℕ) → height ≤ 20 → code < 8 ^ 20 → code / 8 ^ height < 8 ^ (20 - height)
short_above height code within below =
    (div-lt_iff_lt-mul {k = 8 ^ height} {x = code} {y = 8 ^ (20 - height)} (eight_pos height)).1 (subst (λ n. code < n) (sym (eights_joined height within)) below)

short_below : (height code : ℕ) → height ≤ 20 → code / 8 ^ height < 8 ^ (20 - height) → code < 8 ^ 20
short_below height code within below =
    subst (λ n. code < n) (eights_joined height within) ((div-lt_iff_lt-mul {k = 8 ^ height} {x = code} {y = 8 ^ (20 - height)} (eight_pos height)).0 below)

-- and a cell with the node's places lies under it
pub under_by_places : (height node x y z : ℕ) → height ≤ 20 → node < 8 ^ (20 - height) → x < 2 ^ 20 → y < 2 ^ 20 → z < 2 ^ 20
    → x / 2 ^ height ≡ coordinate_of 0 20 node → y / 2 ^ height ≡ coordinate_of 1 20 node → z / 2 ^ height ≡ coordinate_of 2 20 node
    → code_of 20 x y z / 8 ^ height ≡ node
under_by_places height node x y z within below x_below y_below z_below is_x is_y is_z =
    let digits : ℕ = 20 - height in
    let level : digits + height ≡ 20 = omega (arith, within) in
    let code : ℕ = code_of 20 x y z in
    let short : code / 8 ^ height < 8 ^ digits = short_above height code within (code_below 20 x y z) in
    let one : coordinate_of 0 digits (code / 8 ^ height) ≡ coordinate_of 0 digits node =
    place_above 0 digits height code ∙ (rw (level, x_of_code 20 x y z x_below) (is_x ∙ coordinate_of_short 0 digits 20 node (omega arith) below)) in
    let two : coordinate_of 1 digits (code / 8 ^ height) ≡ coordinate_of 1 digits node =
    place_above 1 digits height code ∙ (rw (level, y_of_code 20 x y z y_below) (is_y ∙ coordinate_of_short 1 digits 20 node (omega arith) below)) in
    let three : coordinate_of 2 digits (code / 8 ^ height) ≡ coordinate_of 2 digits node =
    place_above 2 digits height code ∙ (rw (level, z_of_code 20 x y z z_below) (is_z ∙ coordinate_of_short 2 digits 20 node (omega arith) below)) in
    sym (code_of_coordinates digits (code / 8 ^ height) short) ∙ (rw (one, two, three) (code_of_coordinates digits node below))

-- ---- the levels below a node that is met

-- a node that is met has at least as many met nodes at or below it as levels
pub levels_passing : (grid : GridShape) (t : Triangle) (test : ℕ → ℕ → Bool) (height node : ℕ) → height ≤ grid.depth → PassWhereMet grid t test
    → Meets t (node_cube grid (grid.depth - height) node) → height ≤ passing test height node
levels_passing grid t test zero node within pass met = omega arith
levels_passing grid t test (suc height) node within pass met =
    let level : grid.depth - suc height + 1 ≡ grid.depth - height = omega (arith, within) in
    let child : (place : ℕ) × (place < 8) × Meets t (node_cube grid (grid.depth - suc height + 1) (8 * node + place)) = meet_together.child t grid (grid.depth - suc height) node (omega (arith, within)) met in
    let below : Meets t (node_cube grid (grid.depth - height) (8 * node + child.0)) = subst (λ l. Meets t (node_cube grid l (8 * node + child.0))) level child.2 in
    let rest = levels_passing grid t test height (8 * node + child.0) (omega (arith, within)) pass below in
    let one = one_of_sum (passing test height) (8 * node) 8 child.0 child.1 in
    let passes : test (suc height) node ≡ true = pass (suc height) node met in
    rw passes (omega (arith, rest, one))

-- so a test of it and of so many cells are not too many
pub few_tests : (grid : GridShape) (t : Triangle) (test : ℕ → ℕ → Bool) (height node before after cells : ℕ) → height ≤ grid.depth → PassWhereMet grid t test
    → Meets t (node_cube grid (grid.depth - height) node) → cells ≤ 8 * height → after ≡ before + 1 + cells → after ≤ before + 1 + 8 * passing test height node
few_tests grid t test height node before after cells within pass met few is =
    omega (arith, levels_passing grid t test height node within pass met, few, is)

-- ---- boxes that grow by a layer, a row or a cell

-- the box from one layer on to before another, the same of rows in it, and of cells in a row
abbrev pub layers : CellBox → ℕ → ℕ → CellBox
layers cells from to = record { x = cells.x; y = cells.y; z = record { from = from; to = to } }

abbrev pub rows : CellBox → ℕ → ℕ → CellBox
rows cells from to = record { x = cells.x; y = record { from = from; to = to }; z = cells.z }

abbrev pub row_cells : CellBox → ℕ → ℕ → CellBox
row_cells cells from to = record { x = record { from = from; to = to }; y = cells.y; z = cells.z }

-- nothing is put yet
pub no_layer : (grid : GridShape) (t : Triangle) (node : Node) (cells : CellBox) (at first face : ℕ) (slots : List ℕ) → ArePut (MetInBox grid t node (layers cells at at)) first face slots slots
no_layer grid t node cells at first face slots = none_put (MetInBox grid t node (layers cells at at)) first face slots (λ code chosen. absurd (omega (arith, chosen.0, chosen.1.0)))

pub no_row : (grid : GridShape) (t : Triangle) (node : Node) (cells : CellBox) (at first face : ℕ) (slots : List ℕ) → ArePut (MetInBox grid t node (rows cells at at)) first face slots slots
no_row grid t node cells at first face slots = none_put (MetInBox grid t node (rows cells at at)) first face slots (λ code chosen. absurd (omega (arith, chosen.1.1.0, chosen.1.1.1.0)))

pub no_cell : (grid : GridShape) (t : Triangle) (node : Node) (cells : CellBox) (at first face : ℕ) (slots : List ℕ) → ArePut (MetInBox grid t node (row_cells cells at at)) first face slots slots
no_cell grid t node cells at first face slots = none_put (MetInBox grid t node (row_cells cells at at)) first face slots (λ code chosen. absurd (omega (arith, chosen.1.1.1.1.0, chosen.1.1.1.1.1.0)))

-- one more
pub more_layers : (grid : GridShape) (t : Triangle) (node : Node) (cells : CellBox) (from at first face : ℕ) (old middle new : List ℕ) → from ≤ at
    → ArePut (MetInBox grid t node (layers cells from at)) first face old middle → ArePut (MetInBox grid t node (layers cells at (at + 1))) first face middle new
    → ArePut (MetInBox grid t node (layers cells from (at + 1))) first face old new
more_layers grid t node cells from at first face old middle new row before then =
    let inner : ℕ → Type 0 = Along 1 cells.y.from cells.y.to (Along 0 cells.x.from cells.x.to (MetUnder grid t node.height node.code (node.code + 1))) in
    put_joined (MetInBox grid t node (layers cells from at)) (MetInBox grid t node (layers cells at (at + 1))) (MetInBox grid t node (layers cells from (at + 1))) first face old middle new
    (range_grows (coordinate_of 2 20) from at inner row) before then

pub more_rows : (grid : GridShape) (t : Triangle) (node : Node) (cells : CellBox) (from at first face : ℕ) (old middle new : List ℕ) → from ≤ at
    → ArePut (MetInBox grid t node (rows cells from at)) first face old middle → ArePut (MetInBox grid t node (rows cells at (at + 1))) first face middle new
    → ArePut (MetInBox grid t node (rows cells from (at + 1))) first face old new
more_rows grid t node cells from at first face old middle new row before then =
    let inner : ℕ → Type 0 = Along 0 cells.x.from cells.x.to (MetUnder grid t node.height node.code (node.code + 1)) in
    put_joined (MetInBox grid t node (rows cells from at)) (MetInBox grid t node (rows cells at (at + 1))) (MetInBox grid t node (rows cells from (at + 1))) first face old middle new
    (joined_within (coordinate_of 2 20) cells.z.from cells.z.to (Along 1 from at inner) (Along 1 at (at + 1) inner) (Along 1 from (at + 1) inner)
    (range_grows (coordinate_of 1 20) from at inner row)) before then

pub more_cells : (grid : GridShape) (t : Triangle) (node : Node) (cells : CellBox) (from at first face : ℕ) (old middle new : List ℕ) → from ≤ at
    → ArePut (MetInBox grid t node (row_cells cells from at)) first face old middle → ArePut (MetInBox grid t node (row_cells cells at (at + 1))) first face middle new
    → ArePut (MetInBox grid t node (row_cells cells from (at + 1))) first face old new
more_cells grid t node cells from at first face old middle new row before then =
    let inner : ℕ → Type 0 = MetUnder grid t node.height node.code (node.code + 1) in
    let across : ℕ → ℕ → ℕ → Type 0 = λ first last. Along 1 cells.y.from cells.y.to (Along 0 first last inner) in
    put_joined (MetInBox grid t node (row_cells cells from at)) (MetInBox grid t node (row_cells cells at (at + 1))) (MetInBox grid t node (row_cells cells from (at + 1))) first face old middle new
    (joined_within (coordinate_of 2 20) cells.z.from cells.z.to (across from at) (across at (at + 1)) (across from (at + 1))
    (joined_within (coordinate_of 1 20) cells.y.from cells.y.to (Along 0 from at inner) (Along 0 at (at + 1) inner) (Along 0 from (at + 1) inner)
    (range_grows (coordinate_of 0 20) from at inner row))) before then

-- a layer, a row and a cell lie where the box lies
pub layer_under : (grid : GridShape) (node : Node) (cells : CellBox) (at : ℕ) → IsBoxUnder grid node cells → IsInRange cells.z at → IsBoxUnder grid node (layers cells at (at + 1))
layer_under grid node cells at is inside = record {
  x = is.x;
  y = is.y;
  z = omega (arith, is.z, inside.1);
  under = λ x y z in_x in_y in_z. is.under x y z in_x in_y (omega (arith, inside.0, in_z.0), omega (arith, inside.1, in_z.1));
}

pub row_under : (grid : GridShape) (node : Node) (cells : CellBox) (at : ℕ) → IsBoxUnder grid node cells → IsInRange cells.y at → IsBoxUnder grid node (rows cells at (at + 1))
row_under grid node cells at is inside = record {
  x = is.x;
  y = omega (arith, is.y, inside.1);
  z = is.z;
  under = λ x y z in_x in_y in_z. is.under x y z in_x (omega (arith, inside.0, in_y.0), omega (arith, inside.1, in_y.1)) in_z;
}

pub cell_under : (grid : GridShape) (node : Node) (cells : CellBox) (at : ℕ) → IsBoxUnder grid node cells → IsInRange cells.x at → IsBoxUnder grid node (row_cells cells at (at + 1))
cell_under grid node cells at is inside = record {
  x = omega (arith, is.x, inside.1);
  y = is.y;
  z = is.z;
  under = λ x y z in_x in_y in_z. is.under x y z (omega (arith, inside.0, in_x.0), omega (arith, inside.1, in_x.1)) in_y in_z;
}

-- the whole range
range_ends : (key : ℕ → ℕ) (from at to : ℕ) (Chosen : ℕ → Type 0) (code : ℕ) → from ≤ at → at - from ≡ to - from → Keyed key from at Chosen code → Keyed key from to Chosen code
range_ends key from at to Chosen code row same chosen = (chosen.0, (omega (arith, row, same, chosen.0, chosen.1.0), chosen.1.1))

range_ended : (key : ℕ → ℕ) (from at to : ℕ) (Chosen : ℕ → Type 0) (code : ℕ) → from ≤ at → at - from ≡ to - from → Keyed key from to Chosen code → Keyed key from at Chosen code
range_ended key from at to Chosen code row same chosen = (chosen.0, (omega (arith, row, same, chosen.0, chosen.1.0), chosen.1.1))

pub all_layers : (grid : GridShape) (t : Triangle) (node : Node) (cells : CellBox) (at first face : ℕ) (old new : List ℕ) → cells.z.from ≤ at → at - cells.z.from ≡ places_in cells.z
    → ArePut (MetInBox grid t node (layers cells cells.z.from at)) first face old new → ArePut (MetInBox grid t node cells) first face old new
all_layers grid t node cells at first face old new row same are_put =
    let inner : ℕ → Type 0 = Along 1 cells.y.from cells.y.to (Along 0 cells.x.from cells.x.to (MetUnder grid t node.height node.code (node.code + 1))) in
    same_put (MetInBox grid t node (layers cells cells.z.from at)) (MetInBox grid t node cells) first face old new
    (λ code chosen. range_ends (coordinate_of 2 20) cells.z.from at cells.z.to inner code row same chosen)
    (λ code chosen. range_ended (coordinate_of 2 20) cells.z.from at cells.z.to inner code row same chosen) are_put

pub all_rows : (grid : GridShape) (t : Triangle) (node : Node) (cells : CellBox) (at first face : ℕ) (old new : List ℕ) → cells.y.from ≤ at → at - cells.y.from ≡ places_in cells.y
    → ArePut (MetInBox grid t node (rows cells cells.y.from at)) first face old new → ArePut (MetInBox grid t node cells) first face old new
all_rows grid t node cells at first face old new row same are_put =
    let inner : ℕ → Type 0 = Along 0 cells.x.from cells.x.to (MetUnder grid t node.height node.code (node.code + 1)) in
    same_put (MetInBox grid t node (rows cells cells.y.from at)) (MetInBox grid t node cells) first face old new
    (λ code chosen. (chosen.0, (chosen.1.0, range_ends (coordinate_of 1 20) cells.y.from at cells.y.to inner code row same chosen.1.1)))
    (λ code chosen. (chosen.0, (chosen.1.0, range_ended (coordinate_of 1 20) cells.y.from at cells.y.to inner code row same chosen.1.1))) are_put

pub all_cells : (grid : GridShape) (t : Triangle) (node : Node) (cells : CellBox) (at first face : ℕ) (old new : List ℕ) → cells.x.from ≤ at → at - cells.x.from ≡ places_in cells.x
    → ArePut (MetInBox grid t node (row_cells cells cells.x.from at)) first face old new → ArePut (MetInBox grid t node cells) first face old new
all_cells grid t node cells at first face old new row same are_put =
    let inner : ℕ → Type 0 = MetUnder grid t node.height node.code (node.code + 1) in
    same_put (MetInBox grid t node (row_cells cells cells.x.from at)) (MetInBox grid t node cells) first face old new
    (λ code chosen. (chosen.0, (chosen.1.0, (chosen.1.1.0, (chosen.1.1.1.0, range_ends (coordinate_of 0 20) cells.x.from at cells.x.to inner code row same chosen.1.1.1.1)))))
    (λ code chosen. (chosen.0, (chosen.1.0, (chosen.1.1.0, (chosen.1.1.1.0, range_ended (coordinate_of 0 20) cells.x.from at cells.x.to inner code row same chosen.1.1.1.1))))) are_put

-- no test yet, and the tests of one more
pub no_tests : (before from size : ℕ) → before ≡ before + (from - from) * size
no_tests before from size =
    let none : from - from ≡ 0 = omega arith in
    rw none (omega arith)

pub more_tests : (before now after from at size : ℕ) → from ≤ at → now ≡ before + (at - from) * size → after ≡ now + size → after ≡ before + (at + 1 - from) * size
more_tests before now after from at size row is more =
    let next : at + 1 - from ≡ at - from + 1 = omega (arith, row) in
    rw next (omega (arith, is, more))

-- ---- which cells an extent reaches

pub widths_within : (depth most : ℕ) → depth ≤ most → 2 ^ depth ≤ 2 ^ most
widths_within depth most within = pow-le-pow_right {n = 2} (lit< tt) {i = depth} {j = most} within

-- the places of a node's cells
pub in_node : (height place cell : ℕ) → place * 2 ^ height ≤ cell → cell < place * 2 ^ height + 2 ^ height → cell / 2 ^ height ≡ place
in_node height place cell from to =
    let below : cell / 2 ^ height < place + 1 = (div-lt_iff_lt-mul (pow_pos height)).1 (omega (arith, to)) in
    let least : place ≤ cell / 2 ^ height = le-div place cell (2 ^ height) (pow_pos height) from in
    omega (arith, below, least)

pub node_from : (height place cell : ℕ) → cell / 2 ^ height ≡ place → (place * 2 ^ height ≤ cell) × (cell < place * 2 ^ height + 2 ^ height)
node_from height place cell is = (
  subst (λ n. n * 2 ^ height ≤ cell) is (div-mul-le_self cell (2 ^ height)),
  omega (arith, (div-lt_iff_lt-mul {k = 2 ^ height} {x = cell} {y = place + 1} (pow_pos height)).0 (omega (arith, is))),
)

-- which are short
node_cells_fit : (depth height place : ℕ) → depth ≤ 20 → height ≤ depth → place < 2 ^ (depth - height) → (place * 2 ^ height + 2 ^ height ≤ 2 ^ depth) × (2 ^ depth ≤ 2 ^ 20)
node_cells_fit depth height place shallow within below =
    let level : depth - height + height ≡ depth = omega (arith, within) in
    let power : 2 ^ (depth - height + height) ≡ 2 ^ (depth - height) * 2 ^ height = pow-add 2 (depth - height) height in
    let whole : 2 ^ depth ≡ 2 ^ (depth - height) * 2 ^ height = subst (λ n. 2 ^ n ≡ 2 ^ (depth - height) * 2 ^ height) level power in
    let most : (place + 1) * 2 ^ height ≤ 2 ^ (depth - height) * 2 ^ height = mul-le-mul_right (2 ^ height) (omega (arith, below)) in
    (omega (arith, whole, most), widths_within depth 20 shallow)

-- the cells that are reached, of those under a node, as code has them
pub cells_under : (depth height place reached_from reached_to from to cell : ℕ) → depth ≤ 20 → height ≤ depth → place < 2 ^ (depth - height)
    → from ≡ max reached_from (place * 2 ^ height % 2 ^ 32) → to ≡ min reached_to (place * 2 ^ height % 2 ^ 32 + 1 * 2 ^ height % 2 ^ 32) → from ≤ cell → cell < to → cell / 2 ^ height ≡ place
cells_under depth height place reached_from reached_to from to cell shallow within below is_from is_to low high =
    let fit = node_cells_fit depth height place shallow within below in
    let start : place * 2 ^ height % 2 ^ 32 ≡ place * 2 ^ height = omega (arith, fit.0, fit.1) in
    let width : 1 * 2 ^ height % 2 ^ 32 ≡ 2 ^ height = omega (arith, fit.0, fit.1) in
    in_node height place cell (omega (arith, is_from, low, start)) (omega (arith, is_to, high, start, width))

pub cells_reached : (depth height place reached_from reached_to from to cell : ℕ) → depth ≤ 20 → height ≤ depth → place < 2 ^ (depth - height)
    → from ≡ max reached_from (place * 2 ^ height % 2 ^ 32) → to ≡ min reached_to (place * 2 ^ height % 2 ^ 32 + 1 * 2 ^ height % 2 ^ 32) → cell / 2 ^ height ≡ place
    → (cell < 2 ^ depth → (reached_from ≤ cell) × (cell < reached_to)) → (from ≤ cell) × (cell < to)
cells_reached depth height place reached_from reached_to from to cell shallow within below is_from is_to under reached =
    let fit = node_cells_fit depth height place shallow within below in
    let start : place * 2 ^ height % 2 ^ 32 ≡ place * 2 ^ height = omega (arith, fit.0, fit.1) in
    let width : 1 * 2 ^ height % 2 ^ 32 ≡ 2 ^ height = omega (arith, fit.0, fit.1) in
    let row = node_from height place cell under in
    let inside = reached (omega (arith, row.1, fit.0)) in
    (omega (arith, is_from, inside.0, row.0, start), omega (arith, is_to, inside.1, row.1, start, width))

-- a cell that is reached is in the range
pub range_of_reached : (range : PartRange) (cell : ℕ) → in_range range cell ≡ true → IsInRange range cell
range_of_reached range cell holds =
    let parts = and_parts (nat_le range.from cell) (nat_lt cell range.to) holds in
    (leb-true range.from cell parts.0, omega (arith, leb-true (suc cell) range.to parts.1))

-- a box around a triangle reaches each cell that the triangle meets
reaches_turned : (e : Extent) (low high : ℤ) → (int_le e.low high && int_le low e.high) ≡ true → (int_le low e.high && int_le e.low high) ≡ true
reaches_turned e low high holds =
    let parts = and_parts (int_le e.low high) (int_le low e.high) holds in
    rw (parts.0, parts.1) refl

pub record ReachesCell (grid : GridShape) (b : Bounds) (code : ℕ) : Type 0 where
  pub x : range_reaches grid grid.depth 0 b.x (coordinate_of 0 20 code) ≡ true
  pub y : range_reaches grid grid.depth 1 b.y (coordinate_of 1 20 code) ≡ true
  pub z : range_reaches grid grid.depth 2 b.z (coordinate_of 2 20 code) ≡ true

pub cell_reached : (grid : GridShape) (t : Triangle) (b : Bounds) (code : ℕ) → b ≡ bounds_of t → grid.depth ≤ 20 → code < 8 ^ grid.depth
    → Meets t (node_cube grid grid.depth code) → ReachesCell grid b code
unfolding bounds_reach node_cube
cell_reached grid t b code is shallow below met =
    let all : bounds_reach b (node_cube grid grid.depth code) ≡ true = subst (λ b. bounds_reach b (node_cube grid grid.depth code) ≡ true) (sym is) (reach_where_met t (node_cube grid grid.depth code) met) in
    let outer = and_parts _ _ all in
    let inner = and_parts _ _ outer.0 in
    record {
      x = rw (coordinate_of_short 0 grid.depth 20 code shallow below) (reaches_turned b.x _ _ inner.0);
      y = rw (coordinate_of_short 1 grid.depth 20 code shallow below) (reaches_turned b.y _ _ inner.1);
      z = rw (coordinate_of_short 2 grid.depth 20 code shallow below) (reaches_turned b.z _ _ outer.1);
    }

eights_within : (few most : ℕ) → few ≤ most → 8 ^ few ≤ 8 ^ most
eights_within few most within = pow-le-pow_right {n = 8} (lit< tt) {i = few} {j = most} within

node_short : (grid : GridShape) (node : Node) → IsNode grid node → node.code < 8 ^ (20 - node.height)
node_short grid node is =
    let short = eights_within (grid.depth - node.height) (20 - node.height) (omega (arith, is.shallow)) in
    omega (arith, is.below, short)

code_in_grid : (grid : GridShape) (node : Node) (code : ℕ) → IsNode grid node → code / 8 ^ node.height ≡ node.code → code < 8 ^ grid.depth
code_in_grid grid node code is here =
    let level : grid.depth - node.height + node.height ≡ grid.depth = omega (arith, is.within) in
    let power : 8 ^ (grid.depth - node.height + node.height) ≡ 8 ^ (grid.depth - node.height) * 8 ^ node.height = pow-add 8 (grid.depth - node.height) node.height in
    let below : code / 8 ^ node.height < 8 ^ (grid.depth - node.height) = omega (arith, here, is.below) in
    subst (λ n. code < 8 ^ n) level (subst (λ n. code < n) (sym power) ((div-lt_iff_lt-mul {k = 8 ^ node.height} {x = code} {y = 8 ^ (grid.depth - node.height)} (eight_pos node.height)).0 below))

-- the box of the cells under a node that are reached
pub is_box_under : (grid : GridShape) (node : Node) (x y z : PartRange) (at_x at_y at_z : ℕ) → IsNode grid node
    → at_x ≡ coordinate_of 0 20 node.code → at_y ≡ coordinate_of 1 20 node.code → at_z ≡ coordinate_of 2 20 node.code
    → x.to ≤ 2 ^ grid.depth → y.to ≤ 2 ^ grid.depth → z.to ≤ 2 ^ grid.depth
    → ((cell : ℕ) → IsInRange x cell → cell / 2 ^ node.height ≡ at_x) → ((cell : ℕ) → IsInRange y cell → cell / 2 ^ node.height ≡ at_y) → ((cell : ℕ) → IsInRange z cell → cell / 2 ^ node.height ≡ at_z)
    → IsBoxUnder grid node (record { x = x; y = y; z = z })
is_box_under grid node x y z at_x at_y at_z is is_x is_y is_z to_x to_y to_z under_x under_y under_z = record {
  x = to_x;
  y = to_y;
  z = to_z;
  under = λ cx cy cz in_x in_y in_z.
      let short = widths_within grid.depth 20 is.shallow in
      under_by_places node.height node.code cx cy cz (omega (arith, is.within, is.shallow)) (node_short grid node is)
      (omega (arith, in_x.1, to_x, short)) (omega (arith, in_y.1, to_y, short)) (omega (arith, in_z.1, to_z, short))
      (under_x cx in_x ∙ is_x) (under_y cy in_y ∙ is_y) (under_z cz in_z ∙ is_z);
}

pub holds_met : (grid : GridShape) (t : Triangle) (node : Node) (b : Bounds) (x y z : PartRange) (at_x at_y at_z : ℕ) → IsNode grid node → b ≡ bounds_of t
    → at_x ≡ coordinate_of 0 20 node.code → at_y ≡ coordinate_of 1 20 node.code → at_z ≡ coordinate_of 2 20 node.code
    → ((cell : ℕ) → cell / 2 ^ node.height ≡ at_x → range_reaches grid grid.depth 0 b.x cell ≡ true → IsInRange x cell)
    → ((cell : ℕ) → cell / 2 ^ node.height ≡ at_y → range_reaches grid grid.depth 1 b.y cell ≡ true → IsInRange y cell)
    → ((cell : ℕ) → cell / 2 ^ node.height ≡ at_z → range_reaches grid grid.depth 2 b.z cell ≡ true → IsInRange z cell)
    → HoldsMet grid t node (record { x = x; y = y; z = z })
holds_met grid t node b x y z at_x at_y at_z is is_box is_x is_y is_z in_x in_y in_z code chosen =
    let here : code / 8 ^ node.height ≡ node.code = omega (arith, chosen.0, chosen.1.0) in
    let short = node_short grid node is in
    let within : node.height ≤ 20 = omega (arith, is.within, is.shallow) in
    let reached = cell_reached grid t b code is_box is.shallow (code_in_grid grid node code is here) chosen.1.1 in
    let x = in_x (coordinate_of 0 20 code) (place_of_node 0 node.height code node.code within short here ∙ sym is_x) reached.x in
    let y = in_y (coordinate_of 1 20 code) (place_of_node 1 node.height code node.code within short here ∙ sym is_y) reached.y in
    let z = in_z (coordinate_of 2 20 code) (place_of_node 2 node.height code node.code within short here ∙ sym is_z) reached.z in
    (z.0, (z.1, (y.0, (y.1, (x.0, (x.1, chosen))))))

-- ---- a single cell

-- its places along the axes
pub record HasPlaces (cells : CellBox) : Type 0 where
  pub x : IsSingle cells.x
  pub y : IsSingle cells.y
  pub z : IsSingle cells.z
  pub short_x : cells.x.from < 2 ^ 20
  pub short_y : cells.y.from < 2 ^ 20
  pub short_z : cells.z.from < 2 ^ 20

abbrev pub single_code : CellBox → ℕ
single_code cells = code_of 20 cells.x.from cells.y.from cells.z.from

pub has_places : (grid : GridShape) (node : Node) (cells : CellBox) → grid.depth ≤ 20 → IsBoxUnder grid node cells → IsSingle cells.x → IsSingle cells.y → IsSingle cells.z → HasPlaces cells
has_places grid node cells shallow is x y z =
    let short = widths_within grid.depth 20 shallow in
    record {
      x = x;
      y = y;
      z = z;
      short_x = omega (arith, x, is.x, short);
      short_y = omega (arith, y, is.y, short);
      short_z = omega (arith, z, is.z, short);
    }

pub single_under : (grid : GridShape) (node : Node) (cells : CellBox) → IsBoxUnder grid node cells → HasPlaces cells → single_code cells / 8 ^ node.height ≡ node.code
single_under grid node cells is has =
    is.under cells.x.from cells.y.from cells.z.from (omega arith, omega (arith, has.x)) (omega arith, omega (arith, has.y)) (omega arith, omega (arith, has.z))

-- the place of its slot
pub single_place : (grid : GridShape) (node : Node) (cells : CellBox) (first count : ℕ) → IsBoxUnder grid node cells → HasPlaces cells → HasSlots first count node.height node.code
    → (first ≤ single_code cells) × (single_code cells - first < count)
single_place grid node cells first count is has slots =
    let under = single_under grid node cells is has in
    let from : node.code * 8 ^ node.height ≤ single_code cells = subst (λ n. n * 8 ^ node.height ≤ single_code cells) under (div-mul-le_self (single_code cells) (8 ^ node.height)) in
    let to : single_code cells < (node.code + 1) * 8 ^ node.height =
    (div-lt_iff_lt-mul {k = 8 ^ node.height} {x = single_code cells} {y = node.code + 1} (eight_pos node.height)).0 (omega (arith, under)) in
    (omega (arith, from, slots.from), omega (arith, from, to, slots.from, slots.to))

-- a cell that is met in it is that one
single_is : (grid : GridShape) (t : Triangle) (node : Node) (cells : CellBox) (code : ℕ) → IsNode grid node → HasPlaces cells → MetInBox grid t node cells code → code ≡ single_code cells
single_is grid t node cells code is has chosen =
    let below : code < 8 ^ 20 = short_below node.height code (omega (arith, is.within, is.shallow)) (omega (arith, chosen.1.1.1.1.1.1.0, chosen.1.1.1.1.1.1.1.0, node_short grid node is)) in
    let x : coordinate_of 0 20 code ≡ cells.x.from = omega (arith, chosen.1.1.1.1.0, chosen.1.1.1.1.1.0, has.x) in
    let y : coordinate_of 1 20 code ≡ cells.y.from = omega (arith, chosen.1.1.0, chosen.1.1.1.0, has.y) in
    let z : coordinate_of 2 20 code ≡ cells.z.from = omega (arith, chosen.0, chosen.1.0, has.z) in
    let whole = code_of_coordinates 20 code below in
    rw (← x, ← y, ← z) (sym whole)

single_in : (grid : GridShape) (t : Triangle) (node : Node) (cells : CellBox) → IsBoxUnder grid node cells → HasPlaces cells → Meets t (node_cube grid grid.depth (single_code cells))
    → MetInBox grid t node cells (single_code cells)
single_in grid t node cells is has met =
    let under = single_under grid node cells is has in
    let x = x_of_code 20 cells.x.from cells.y.from cells.z.from has.short_x in
    let y = y_of_code 20 cells.x.from cells.y.from cells.z.from has.short_y in
    let z = z_of_code 20 cells.x.from cells.y.from cells.z.from has.short_z in
    (omega (arith, z), (omega (arith, z, has.z), (omega (arith, y), (omega (arith, y, has.y), (omega (arith, x), (omega (arith, x, has.x), (omega (arith, under), (omega (arith, under), met))))))))

-- it is not met
pub put_no_single : (grid : GridShape) (t : Triangle) (node : Node) (cells : CellBox) (first face : ℕ) (slots : List ℕ) → IsNode grid node → HasPlaces cells
    → (Meets t (node_cube grid grid.depth (single_code cells)) → ⊥) → ArePut (MetInBox grid t node cells) first face slots slots
put_no_single grid t node cells first face slots is has unmet =
    none_put (MetInBox grid t node cells) first face slots
    (λ code chosen. unmet (subst (λ n. Meets t (node_cube grid grid.depth n)) (single_is grid t node cells code is has chosen) chosen.1.1.1.1.1.1.1.1))

-- it is met
pub put_single : (grid : GridShape) (t : Triangle) (node : Node) (cells : CellBox) (code first face : ℕ) (old new : List ℕ) → IsNode grid node → IsBoxUnder grid node cells → HasPlaces cells
    → HasSlots first (length old) node.height node.code → code ≡ single_code cells → Meets t (node_cube grid grid.depth (single_code cells))
    → new ≡ set old (code - first) (lesser_slot (get_or old (code - first) 0) face) → ArePut (MetInBox grid t node cells) first face old new
put_single grid t node cells code first face old new is under has slots is_code met is_new =
    let place = single_place grid node cells first (length old) under has slots in
    let there : (other : ℕ) → MetUnder grid t 0 code (code + 1) other → MetInBox grid t node cells other = λ other chosen.
    let same : single_code cells ≡ other = omega (arith, chosen.0, chosen.1.0, is_code) in
    subst (MetInBox grid t node cells) same (single_in grid t node cells under has met) in
    let back : (other : ℕ) → MetInBox grid t node cells other → MetUnder grid t 0 code (code + 1) other = λ other chosen.
    let same : other ≡ single_code cells = single_is grid t node cells other is has chosen in
    (omega (arith, same, is_code), (omega (arith, same, is_code), chosen.1.1.1.1.1.1.1.1)) in
    same_put (MetUnder grid t 0 code (code + 1)) (MetInBox grid t node cells) first face old new there back
    (put_cell grid t code first face old new (omega (arith, place.0, is_code)) (omega (arith, place.0, place.1, is_code)) (subst (λ n. Meets t (node_cube grid grid.depth n)) (sym is_code) met) is_new)
