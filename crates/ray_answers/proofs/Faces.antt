-- From a hit, or a nearest cell, to the answer with its face.
use Rattle.std.proofs.Common.{◌≡◌, ℕ, true, false, List, ℤ, sym, ap, ◌∙◌, subst, Option, None, Some, Result, Ok, Err}
use Rattle.std.specs.Prelude.{is_some}
use Rattle.std.specs.List.{Contains}
use Rattle.svo_base.specs.GridShape.{GridShape}
use Rattle.octree_specs.specs.Cells.{Cell, codes_of}
use Rattle.octree_laws.proofs.Maps.{in_filled}
use Rattle.node_check.specs.Walks.{face_at}
use Rattle.node_check.specs.declared.walking.WalkFault.{WalkFault}
use Rattle.node_check.specs.declared.walking.WalkFault.TheVariants.{Failed, Refused}
use Rattle.node_check.proofs.Walks.{filled_is}
use Rattle.ray_fraction.specs.RayShape.{RayShape}
use Rattle.near_query.specs.Faults.{RefusesNone}
use Rattle.near_query.specs.Nearest.{IsNearest}
use Rattle.near_query.specs.declared.cells.NearCell.{NearCell}
use Rattle.near_query.specs.declared.cells.NearFault.{NearFault}
use Rattle.near_query.specs.declared.cells.NearFault.TheVariants as near
use Rattle.ray_answers.specs.declared.neighbours.FacedCell.{FacedCell}
use Rattle.ray_walk.specs.Answers.{IsFirst}
use Rattle.ray_walk.specs.declared.hits.Hit.{Hit}
use Rattle.ray_answers.specs.AnswerLines.{IsHit, IsNeighbour}
use Rattle.ray_answers.specs.Runs.{FindsHit, FindsNeighbour, HasFace, HasCellFace}
use Rattle.ray_answers.specs.declared.hits.FacedHit.{FacedHit}

-- a filled cell has a face
has_face : (cells : List Cell) (code : ℕ) → Contains (codes_of cells) code → face_at cells code ≡ None → ⊥
has_face cells code filled none =
    let some : true ≡ is_some (face_at cells code) = sym (in_filled cells code filled) ∙ filled_is cells code in
    let other : is_some (face_at cells code) ≡ false = ap is_some none in
    cc (some ∙ other)

-- the answer of a ray that hits a cell
pub faced_answer : (grid : GridShape) (cells : List Cell) (ray : RayShape) (hit : Hit) (result : Result (Option FacedHit) WalkFault) → IsFirst ray grid cells (Some hit) → HasFace cells hit result
    → FindsHit grid cells ray result
faced_answer grid cells ray hit (Ok None) first none = absurd (has_face cells hit.code first.met.filled none)
faced_answer grid cells ray hit (Ok (Some faced)) first is =
    let whole : (faced ≡ record { n = hit.time.n; m = hit.time.m; code = hit.code; face = faced.face }) =
    λ i. record { n = is.0 i; m = is.1 i; code = is.2 i; face = faced.face } in
    subst (λ f. IsHit grid cells ray (Some f)) (sym whole) (first, hit.time.reduced, is.3)
faced_answer grid cells ray hit (Err Failed) first is = tt
faced_answer grid cells ray hit (Err (Refused number word)) first is = absurd is

-- a walk that failed
pub failed_answer : (grid : GridShape) (cells : List Cell) (ray : RayShape) (fault : WalkFault) → fault ≡ Failed → FindsHit grid cells ray (Err fault)
failed_answer grid cells ray fault failed = subst (λ f. FindsHit grid cells ray (Err f)) (sym failed) tt

-- the answer of a point that has a nearest cell
pub faced_neighbour : (grid : GridShape) (cells : List Cell) (point : List ℤ) (cell : NearCell) (result : Result (Option FacedCell) NearFault) → IsNearest point grid cells (Some cell) → HasCellFace cells cell result
    → FindsNeighbour grid cells point result
faced_neighbour grid cells point cell (Ok None) nearest none = absurd (has_face cells cell.code nearest.found.filled none)
faced_neighbour grid cells point cell (Ok (Some faced)) nearest is =
    let whole : (faced ≡ record { distance = cell.distance; code = cell.code; face = faced.face }) = λ i. record { distance = is.0 i; code = is.1 i; face = faced.face } in
    subst (λ f. IsNeighbour grid cells point (Some f)) (sym whole) (nearest, is.2)
faced_neighbour grid cells point cell (Err (near.Walk Failed)) nearest is = tt
faced_neighbour grid cells point cell (Err (near.Walk (Refused number word))) nearest is = absurd is
faced_neighbour grid cells point cell (Err near.Memory) nearest is = absurd is

-- a search that failed
pub failed_neighbour : (grid : GridShape) (cells : List Cell) (point : List ℤ) (fault : NearFault) → RefusesNone fault → FindsNeighbour grid cells point (Err fault)
failed_neighbour grid cells point (near.Walk fault) failed = subst (λ f. FindsNeighbour grid cells point (Err (near.Walk f))) (sym failed) tt
failed_neighbour grid cells point near.Memory failed = tt
