-- The answers to rays and points, and their text.
use Rattle.std.specs.Prelude.{◌≡◌, ℕ, List, [], ◌∷◌, ◌++◌, ℤ, codes, Option, None, Some}
use Rattle.std.specs.Fmt.{decimal}
use Rattle.svo_base.specs.GridShape.{GridShape}
use Rattle.octree_specs.specs.Cells.{Cell}
use Rattle.near_query.specs.Nearest.{IsNearest}
use Rattle.node_check.specs.Walks.{face_at}
use Rattle.ray_fraction.specs.Fractions.{IsReduced}
use Rattle.ray_fraction.specs.Hits.{IsFirstHit, HitsNone}
use Rattle.ray_fraction.specs.RayShape.{RayShape}
use Rattle.ray_answers.specs.declared.hits.FacedHit.{FacedHit}
use Rattle.ray_answers.specs.declared.neighbours.FacedCell.{FacedCell}
use Rattle.ray_answers.specs.declared.queries.Query.{Query}
use Rattle.ray_answers.specs.declared.queries.Query.TheVariants.{Ray, Point}

-- the first cell that the ray hits, with the time in lowest terms and the cell's face; or that it hits none
abbrev pub IsHit : GridShape → List Cell → RayShape → Option FacedHit → Type 0
IsHit grid cells ray None = HitsNone ray grid cells
IsHit grid cells ray (Some hit) =
    IsFirstHit ray grid cells hit.code hit.n hit.m × IsReduced hit.n hit.m × (face_at cells hit.code ≡ Some hit.face)

-- the nearest cell, with its face; or that no cell is filled
abbrev pub IsNeighbour : GridShape → List Cell → List ℤ → Option FacedCell → Type 0
IsNeighbour grid cells point None = IsNearest point grid cells None
IsNeighbour grid cells point (Some cell) =
    IsNearest point grid cells (Some (record { distance = cell.distance; code = cell.code })) × (face_at cells cell.code ≡ Some cell.face)

unfoldable pub hit_line : Option FacedHit → List ℕ
hit_line None = codes "none\n"
hit_line (Some hit) =
    codes "hit " ++ decimal hit.n ++ codes "/" ++ decimal hit.m ++ codes " cell " ++ decimal hit.code ++ codes " face " ++ decimal hit.face ++ codes "\n"

unfoldable pub near_line : Option FacedCell → List ℕ
near_line None = codes "none\n"
near_line (Some cell) = codes "near " ++ decimal cell.distance ++ codes " cell " ++ decimal cell.code ++ codes " face " ++ decimal cell.face ++ codes "\n"

-- the line of the answer to a query
abbrev pub IsAnswer : GridShape → List Cell → Query → List ℕ → Type 0
IsAnswer grid cells (Ray ray) line = (hit : Option FacedHit) × IsHit grid cells ray hit × (line ≡ hit_line hit)
IsAnswer grid cells (Point point) line = (cell : Option FacedCell) × IsNeighbour grid cells point cell × (line ≡ near_line cell)

-- the lines of the answers to these queries, in order
abbrev pub AreAnswers : GridShape → List Cell → List Query → List ℕ → Type 0
AreAnswers grid cells [] text = text ≡ []
AreAnswers grid cells (query ∷ queries) text =
    (line : List ℕ) × (later : List ℕ) × IsAnswer grid cells query line × AreAnswers grid cells queries later × (text ≡ line ++ later)
