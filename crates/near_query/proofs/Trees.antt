-- The words of a tree, node by node.
use Rattle.std.proofs.Common.{◌≡◌, ℕ, zero, suc, ◌+◌, ◌-◌, ◌*◌, ◌/◌, ◌^◌, ◌<◌, ◌≤◌, true, List, length, IfSome, arith, sym, ap, subst, ◌∙◌}
use Rattle.std.specs.Prelude.{slice_index}
use Rattle.std.specs.List.{Contains}
use Rattle.std.proofs.lemmas.List.Elements.{All-contains, All-map}
use Rattle.octree_specs.specs.Cells.{Cell, codes_of}
use Rattle.octree_specs.specs.Formats.{StandFor, face_leaves}
use Rattle.octree_specs.specs.Octree.{is_nonempty}
use Rattle.octree_specs.specs.Walking.{HasMask, HasMasks, child_number}
use Rattle.octree_laws.proofs.Images.{at_depth}
use Rattle.octree_laws.proofs.Maps.{in_filled, map_has_masks}
use Rattle.octree_laws.proofs.Under.{div-up, nonempty_above}
use Rattle.node_check.specs.Walks.{has_child}
use Rattle.node_file.specs.FileView.{FileView, IsFileView}
use Rattle.ray_walk.specs.Answers.{TellsCells}
use Rattle.near_query.specs.Frontiers.{IsOnTree}
use Rattle.near_query.specs.declared.queues.Waiting.{Waiting}

tree_mask : (words : List ℕ) (cells : List Cell) (lower node number : ℕ) → HasMasks words cells (lower + 1) node number → HasMask (face_leaves cells) lower node (slice_index words number)
tree_mask words cells zero node number tree = tree
tree_mask words cells (suc lower) node number tree =
    let up : suc lower + 1 ≡ suc (suc lower) = omega arith in
    let whole : HasMasks words cells (suc (suc lower)) node number = subst (λ h. HasMasks words cells h node number) up tree in
    whole.0

tree_child : (words : List ℕ) (cells : List Cell) (lower node number place : ℕ) → HasMasks words cells (lower + 2) node number → place < 8 → is_nonempty (face_leaves cells) (lower + 1) (8 * node + place) ≡ true
    → (child_number (slice_index words number) place < number) × HasMasks words cells (lower + 1) (8 * node + place) (child_number (slice_index words number) place)
tree_child words cells lower node number place tree octant some =
    let up : lower + 2 ≡ suc (suc lower) = omega arith in
    let one : lower + 1 ≡ suc lower = omega arith in
    let whole : HasMasks words cells (suc (suc lower)) node number = subst (λ h. HasMasks words cells h node number) up tree in
    let child : (child_number (slice_index words number) place < number) × HasMasks words cells (suc lower) (8 * node + place) (child_number (slice_index words number) place) =
    whole.1 place octant (subst (λ h. is_nonempty (face_leaves cells) h (8 * node + place) ≡ true) one some) in
    (child.0, subst (λ h. HasMasks words cells h (8 * node + place) (child_number (slice_index words number) place)) (sym one) child.1)

-- a child is nonempty exactly where the node's word has its bit
pub bit_tells : (words : List ℕ) (cells : List Cell) (node : Waiting) (word place : ℕ) → IsOnTree words cells node word → 1 ≤ node.height → place < 8
    → is_nonempty (face_leaves cells) (node.height - 1) (8 * node.code + place) ≡ has_child word place
bit_tells words cells node word place on above octant =
    let up : node.height ≡ (node.height - 1) + 1 = omega (arith, above) in
    let mask : HasMask (face_leaves cells) (node.height - 1) node.code (slice_index words node.number) =
    tree_mask words cells (node.height - 1) node.code node.number (subst (λ h. HasMasks words cells h node.code node.number) up on.tree) in
    mask place octant ∙ ap (λ w. has_child w place) (sym on.own)

-- and then its word stands before the node's, and leads on
pub child_leads : (words : List ℕ) (cells : List Cell) (node : Waiting) (word place : ℕ) → IsOnTree words cells node word → 2 ≤ node.height → place < 8 → has_child word place ≡ true
    → (child_number word place < node.number) × HasMasks words cells (node.height - 1) (8 * node.code + place) (child_number word place)
child_leads words cells node word place on above octant bit =
    let up : node.height ≡ (node.height - 2) + 2 = omega (arith, above) in
    let one : node.height - 1 ≡ (node.height - 2) + 1 = omega (arith, above) in
    let some : is_nonempty (face_leaves cells) (node.height - 1) (8 * node.code + place) ≡ true = bit_tells words cells node word place on (omega (arith, above)) octant ∙ bit in
    let below : (child_number (slice_index words node.number) place < node.number) × HasMasks words cells ((node.height - 2) + 1) (8 * node.code + place) (child_number (slice_index words node.number) place) =
    tree_child words cells (node.height - 2) node.code node.number place (subst (λ h. HasMasks words cells h node.code node.number) up on.tree) octant
    (subst (λ h. is_nonempty (face_leaves cells) h (8 * node.code + place) ≡ true) one some) in
    let same : child_number (slice_index words node.number) place ≡ child_number word place = ap (λ w. child_number w place) (sym on.own) in (
      subst (λ n. n < node.number) same below.0,
      subst (λ n. HasMasks words cells (node.height - 1) (8 * node.code + place) n) same
          (subst (λ h. HasMasks words cells h (8 * node.code + place) (child_number (slice_index words node.number) place)) (sym one) below.1),
    )

-- a filled cell makes each node above it nonempty
pub cell_above : (cells : List Cell) (height code : ℕ) → Contains (codes_of cells) code → is_nonempty (face_leaves cells) height (code / 8 ^ height) ≡ true
cell_above cells zero code filled = let same : code / 8 ^ 0 ≡ code = omega arith in subst (λ n. is_nonempty (face_leaves cells) 0 n ≡ true) (sym same) (in_filled cells code filled)
cell_above cells (suc height) code filled =
    subst (λ n. is_nonempty (face_leaves cells) (suc height) n ≡ true) (sym (div-up code height)) (nonempty_above (face_leaves cells) height (code / 8 ^ height) (cell_above cells height code filled))

-- ---- the root

pub root_leads : (file : FileView) (cells : List Cell) (tells : TellsCells file cells) (height number : ℕ) → IsFileView file → height ≡ file.grid.depth → number ≡ file.totals.records - 1 → HasMasks tells.words cells height 0 number
root_leads file cells tells height number view is_height is_number =
    let deep : (levels : ℕ) × (file.grid.depth ≡ suc levels) = at_depth file.grid.depth view.limits.halved in
    let many : length tells.words ≡ file.totals.records = subst (λ told. IfSome told (λ words. length words ≡ file.totals.records)) tells.told view.told in
    let long : length tells.words ≡ number + 1 = omega (arith, many, is_number, view.some) in
    let masks : HasMasks tells.words cells (suc deep.0) 0 number = map_has_masks file.format deep.0 number tells.words cells (subst (λ d. StandFor file.format d tells.words cells) deep.1 tells.stand) long in
    subst (λ h. HasMasks tells.words cells h 0 number) (sym (is_height ∙ deep.1)) masks

pub code_inside : (file : FileView) (cells : List Cell) (tells : TellsCells file cells) (code : ℕ) → Contains (codes_of cells) code → code < 8 ^ file.grid.depth
code_inside file cells tells code filled = All-contains (λ c. c < 8 ^ file.grid.depth) (codes_of cells) code (All-map (λ c. c < 8 ^ file.grid.depth) (λ (cell : Cell). cell.code) cells tells.stand.cells_are.map.inside) filled
