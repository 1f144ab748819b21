-- Laws of solid cells.
use Rattle.std.specs.Prelude.{◌≡◌, ℕ, ◌+◌, ◌%◌, ◌==◌, true, false, ◌&&◌, not, List, [], ◌∷◌, ◌++◌}
use Rattle.std.specs.List.{sum_by}
use Rattle.svo_base.specs.GridShape.{GridShape}
use Rattle.svo_base.specs.declared.shapes.Vector.{Vector}
use Rattle.octree_specs.specs.FacedTriangles.{Faced}
use Rattle.solid_parity.specs.Edges.{ArePaired}
use Rattle.solid_parity.specs.Parity.{one, centre_of, is_covered, is_above, is_solid, solid_below, solid_cell}

-- how many triangles cover the cell's column and are not above its centre
abbrev pub number_under : GridShape → List Faced → ℕ → ℕ
number_under grid faced code =
    sum_by (λ x. one (is_covered x.triangle (centre_of grid code) && not (is_above x.triangle (centre_of grid code)))) faced

-- where all edges are paired, each column goes through an even number of triangles, and so the solid cells may as well be told by the triangles that are not above
pub record AgreeFromBelow : Type 0 where
  pub even : (faced : List Faced) (q : Vector) → ArePaired faced → sum_by (λ x. one (is_covered x.triangle q)) faced % 2 ≡ 0
  pub below : (grid : GridShape) (faced : List Faced) (code : ℕ) → ArePaired faced → is_solid grid faced code ≡ (number_under grid faced code % 2 == 1)

-- the solid cells below a bound and whether the bound's cell is solid give the cells below the next one
pub record SolidCellsGrow : Type 0 where
  pub none : (grid : GridShape) (faced : List Faced) → solid_below grid faced 0 ≡ []
  pub solid : (grid : GridShape) (faced : List Faced) (bound : ℕ) → is_solid grid faced bound ≡ true → solid_below grid faced (bound + 1) ≡ solid_below grid faced bound ++ solid_cell bound ∷ []
  pub empty : (grid : GridShape) (faced : List Faced) (bound : ℕ) → is_solid grid faced bound ≡ false → solid_below grid faced (bound + 1) ≡ solid_below grid faced bound
