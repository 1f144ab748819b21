-- The filled codes of a grid, computed by trying each cell with the 72 candidates of each triangle.
use Rattle.std.proofs.Common.{◌≡◌, ℕ, ◌^◌, Bool, true, List, filter, subst}
use Rattle.std.specs.Prelude.{IsTrue}
use Rattle.std.specs.List.{Any, list_any, range_with_len}
use Rattle.std.proofs.lemmas.Bool.{both_ways}
use Rattle.std.proofs.lemmas.List.Folds.{Any-from_list_any, list_any-from_Any}
use Rattle.svo_base.specs.GridShape.{GridShape}
use Rattle.svo_base.specs.declared.shapes.Triangle.{Triangle}
use Rattle.octree_specs.specs.Meeting.{Meets}
use Rattle.octree_specs.specs.Candidates.{has_good_candidate}
use Rattle.octree_specs.specs.Filling.{IsFilled, AreFilledCodes}
use Rattle.octree_specs.specs.NodeCube.{node_cube}
use Rattle.octree_specs.proofs.Meetings.{meeting_has_candidate, good_candidates_meet}
use Rattle.octree_specs.proofs.CodeSets.{all_that_pass}
use Rattle.octree_specs.proofs.Filled.{filled_from}

-- some triangle has a good candidate with the cell's cube
unfoldable pub is_filled : GridShape → List Triangle → ℕ → Bool
is_filled grid triangles code = list_any (λ t. has_good_candidate t (node_cube grid grid.depth code)) triangles

-- the codes of those cells, in ascending order
unfoldable pub filled_codes : GridShape → List Triangle → List ℕ
filled_codes grid triangles = filter (is_filled grid triangles) (range_with_len 0 (8 ^ grid.depth))

-- some element has a property where some element has another that implies it
any_weaker : {X : Type 0} (P Q : X → Type 0) (xs : List X) → ((x : X) → P x → Q x) → Any P xs → Any Q xs
any_weaker P Q xs f found = (found.0, found.1, found.2, found.3, f found.1 found.4)

passes_is_filled : (grid : GridShape) (triangles : List Triangle) (code : ℕ) → is_filled grid triangles code ≡ true → IsFilled grid triangles code
unfolding is_filled
passes_is_filled grid triangles code passed =
    any_weaker (λ t. IsTrue (has_good_candidate t (node_cube grid grid.depth code))) (λ t. Meets t (node_cube grid grid.depth code)) triangles
    (λ t. good_candidates_meet t (node_cube grid grid.depth code))
    (Any-from_list_any (λ t. has_good_candidate t (node_cube grid grid.depth code)) triangles passed)

filled_passes : (grid : GridShape) (triangles : List Triangle) (code : ℕ) → IsFilled grid triangles code → is_filled grid triangles code ≡ true
unfolding is_filled
filled_passes grid triangles code filled =
    list_any-from_Any (λ t. has_good_candidate t (node_cube grid grid.depth code)) triangles
    (any_weaker (λ t. Meets t (node_cube grid grid.depth code)) (λ t. IsTrue (has_good_candidate t (node_cube grid grid.depth code))) triangles
    (λ t. meeting_has_candidate t (node_cube grid grid.depth code)) filled)

-- what is computed are the filled codes
pub computed : (grid : GridShape) (triangles : List Triangle) (cells : List ℕ) → filled_codes grid triangles ≡ cells → AreFilledCodes grid triangles cells
unfolding filled_codes
computed grid triangles cells is =
    subst (AreFilledCodes grid triangles) is
    (filled_from grid triangles _
    (all_that_pass (IsFilled grid triangles) (is_filled grid triangles)
    (passes_is_filled grid triangles)
    (λ code no filled. both_ways (is_filled grid triangles code) no (filled_passes grid triangles code filled))
    (8 ^ grid.depth)))
