-- The squares of a root and of children.
use Rattle.std.proofs.Common.{◌≡◌, ℕ, suc, ◌+◌, ◌-◌, ◌*◌, ◌/◌, ◌%◌, ◌^◌, ◌<◌, ◌≤◌, sym, ap, subst, ◌∙◌, arith, lit<}
use Rattle.std.proofs.Math.Nat.{pow-suc, pow-le-pow_right}
use Rattle.svo_base.specs.declared.grids.TheConstants.{MAX_DEPTH}
use Rattle.morton_code.proofs.Children.{halves_coordinates}
use Rattle.morton_code.proofs.Coordinates.{coordinate_below, coordinate_of_zero, code_fits}
use Rattle.morton_code.proofs.Heights.{eight_pos}
use Rattle.octree_specs.specs.NodeCube.{coordinate_of}
use Rattle.slice_view.specs.Bands.{across, along_columns, along_rows, IsSquare}
use Rattle.slice_view.specs.declared.axes.Axis.{Axis}
use Rattle.slice_view.specs.declared.axes.Axis.TheVariants.{X, Y, Z}
use Rattle.slice_view.specs.declared.squares.Square.{Square}

pub root_square : (axis : Axis) (depth : ℕ) → IsSquare depth axis (record { height = depth; code = 0; layer = 0; column = 0; row = 0 })
root_square axis depth = record {
  within = omega arith;
  code = eight_pos (depth - depth);
  layer = sym (coordinate_of_zero (across axis) (depth - depth));
  column = sym (coordinate_of_zero (along_columns axis) (depth - depth));
  row = sym (coordinate_of_zero (along_rows axis) (depth - depth));
}

-- places of a node of a shallow octree are small, and so is its code
pub place_small : (axis depth height code place : ℕ) → depth ≤ MAX_DEPTH → place ≡ coordinate_of axis (depth - height) code → place < 2 ^ MAX_DEPTH
place_small axis depth height code place shallow is =
    let most : place < 2 ^ (depth - height) = subst (λ n. n < 2 ^ (depth - height)) (sym is) (coordinate_below axis (depth - height) code) in
    let wider : 2 ^ (depth - height) ≤ 2 ^ MAX_DEPTH = pow-le-pow_right {n = 2} (lit< tt) {i = depth - height} {j = MAX_DEPTH} (omega (arith, shallow)) in
    omega (arith, most, wider)

pub code_small : (depth height code : ℕ) → depth ≤ MAX_DEPTH → code < 8 ^ (depth - height) → code < 2 ^ 60
code_small depth height code shallow below = code_fits (depth - height) code (omega (arith, shallow)) below

-- a child's place along an axis
child_place : (axis depth height code place parent child : ℕ) → axis < 3 → 1 ≤ height → height ≤ depth → place < 8 → parent ≡ coordinate_of axis (depth - height) code → child ≡ 2 * parent + place / 2 ^ axis % 2
    → child ≡ coordinate_of axis (depth - (height - 1)) (8 * code + place)
child_place axis depth height code place parent child real above within octant is half =
    let level : depth - height + 1 ≡ depth - (height - 1) = omega (arith, above, within) in
    half ∙ (ap (λ n. 2 * n + place / 2 ^ axis % 2) is ∙ (sym (halves_coordinates.child axis (depth - height) code place real octant) ∙ ap (λ n. coordinate_of axis n (8 * code + place)) level))

across_real : (axis : Axis) → across axis < 3
across_real X = lit< tt
across_real Y = lit< tt
across_real Z = lit< tt

columns_real : (axis : Axis) → along_columns axis < 3
columns_real X = lit< tt
columns_real Y = lit< tt
columns_real Z = lit< tt

rows_real : (axis : Axis) → along_rows axis < 3
rows_real X = lit< tt
rows_real Y = lit< tt
rows_real Z = lit< tt

pub child_square : (depth : ℕ) (axis : Axis) (parent : Square) (place : ℕ) (layer column row : ℕ) → IsSquare depth axis parent → 1 ≤ parent.height → place < 8
    → layer ≡ 2 * parent.layer + place / 2 ^ across axis % 2 → column ≡ 2 * parent.column + place / 2 ^ along_columns axis % 2 → row ≡ 2 * parent.row + place / 2 ^ along_rows axis % 2
    → IsSquare depth axis (record { height = parent.height - 1; code = 8 * parent.code + place; layer = layer; column = column; row = row })
child_square depth axis parent place layer column row is above octant layer_is column_is row_is =
    let level : depth - (parent.height - 1) ≡ suc (depth - parent.height) = omega (arith, above, is.within) in
    let power : 8 ^ (depth - (parent.height - 1)) ≡ 8 ^ (depth - parent.height) * 8 = ap (λ n. 8 ^ n) level ∙ pow-suc 8 (depth - parent.height) in
    record {
      within = omega (arith, is.within);
      code = omega (arith, power, is.code, octant);
      layer = child_place (across axis) depth parent.height parent.code place parent.layer layer (across_real axis) above is.within octant is.layer layer_is;
      column = child_place (along_columns axis) depth parent.height parent.code place parent.column column (columns_real axis) above is.within octant is.column column_is;
      row = child_place (along_rows axis) depth parent.height parent.code place parent.row row (rows_real axis) above is.within octant is.row row_is;
    }
