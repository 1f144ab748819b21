-- From a cell that is hit to the hit.
use Rattle.std.specs.Prelude.{◌≡◌, Option, None, Some}
use Rattle.svo_base.specs.GridShape.{GridShape}
use Rattle.octree_specs.specs.NodeCube.{node_cube}
use Rattle.ray_fraction.specs.EndTimes.{IsLeastTime}
use Rattle.ray_fraction.specs.InCube.{InAt}
use Rattle.ray_fraction.specs.RayShape.{RayShape}
use Rattle.ray_walk.specs.declared.hits.Candidate.{Candidate}
use Rattle.ray_walk.specs.declared.hits.Hit.{Hit}

-- the hit of a cell is at the least time in the cell's cube; it is missing where the ray is never there
abbrev pub IsTimed : RayShape → GridShape → Option Candidate → Option Hit → Type 0
IsTimed ray grid None hit = hit ≡ None
IsTimed ray grid (Some best) None = IsLeastTime (InAt ray (node_cube grid grid.depth best.code)) None
IsTimed ray grid (Some best) (Some hit) = (hit.code ≡ best.code) × IsLeastTime (InAt ray (node_cube grid grid.depth best.code)) (Some hit.time)
