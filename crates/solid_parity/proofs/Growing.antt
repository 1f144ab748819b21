-- The solid cells grow cell by cell.
use Rattle.std.proofs.Common.{◌≡◌, ℕ, ◌+◌, true, false, List, [], ◌∷◌, ◌++◌, filter, refl, ap, ◌∙◌, add-one, zero-add}
use Rattle.std.specs.Prelude.{map}
use Rattle.std.specs.List.{range_with_len}
use Rattle.std.proofs.lemmas.List.{append-nil, map-append}
use Rattle.std.proofs.lemmas.List.Elements.{filter-append}
use Rattle.svo_base.specs.GridShape.{GridShape}
use Rattle.octree_specs.specs.FacedTriangles.{Faced}
use Rattle.tri_partition.proofs.SpilledRuns.{range_more}
use Rattle.solid_parity.specs.Laws.{SolidCellsGrow}
use Rattle.solid_parity.specs.Parity.{is_solid, solid_below, solid_cell}

-- one cell more
next_cells : (grid : GridShape) (faced : List Faced) (bound : ℕ) →
    solid_below grid faced (bound + 1) ≡ solid_below grid faced bound ++ map solid_cell (filter (is_solid grid faced) (bound ∷ []))
unfolding solid_below
next_cells grid faced bound =
    let codes : range_with_len 0 (bound + 1) ≡ range_with_len 0 bound ++ bound ∷ [] =
    ap (range_with_len 0) (add-one bound) ∙ (range_more 0 bound ∙ ap (λ n. range_with_len 0 bound ++ n ∷ []) (zero-add bound))
    in
    ap (λ list. map solid_cell (filter (is_solid grid faced) list)) codes
    ∙ (ap (map solid_cell) (filter-append (is_solid grid faced) (range_with_len 0 bound) (bound ∷ []))
    ∙ map-append solid_cell (filter (is_solid grid faced) (range_with_len 0 bound)) (filter (is_solid grid faced) (bound ∷ [])))

none_below : (grid : GridShape) (faced : List Faced) → solid_below grid faced 0 ≡ []
unfolding solid_below
none_below grid faced = refl

solid_next : (grid : GridShape) (faced : List Faced) (bound : ℕ) → is_solid grid faced bound ≡ true → solid_below grid faced (bound + 1) ≡ solid_below grid faced bound ++ solid_cell bound ∷ []
solid_next grid faced bound solid = next_cells grid faced bound ∙ rw solid refl

empty_next : (grid : GridShape) (faced : List Faced) (bound : ℕ) → is_solid grid faced bound ≡ false → solid_below grid faced (bound + 1) ≡ solid_below grid faced bound
empty_next grid faced bound empty = next_cells grid faced bound ∙ rw empty (append-nil (solid_below grid faced bound))

pub solid_cells_grow : SolidCellsGrow
solid_cells_grow = record { none = none_below; solid = solid_next; empty = empty_next }
