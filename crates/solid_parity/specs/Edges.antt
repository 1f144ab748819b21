-- Meshes of which each edge belongs to an even number of triangles, as those of closed bodies.
use Rattle.std.specs.Prelude.{◌≡◌, ℕ, ◌%◌, Bool, ◌&&◌, ◌||◌, List, [], ◌∷◌}
use Rattle.std.specs.List.{flat_map, sum_by}
use Rattle.std.specs.Ordering.{int_eq}
use Rattle.svo_base.specs.declared.shapes.Vector.{Vector}
use Rattle.octree_specs.specs.FacedTriangles.{Faced}
use Rattle.solid_parity.specs.Parity.{doubled, one}

pub record Edge : Type 0 where
  pub from : Vector
  pub to : Vector

abbrev pub same_place : Vector → Vector → Bool
same_place u v = int_eq u.x v.x && (int_eq u.y v.y && int_eq u.z v.z)

-- the edges have the same two ends, in either order
unfoldable pub is_same_pair : Edge → Edge → Bool
is_same_pair e f = (same_place e.from f.from && same_place e.to f.to) || (same_place e.from f.to && same_place e.to f.from)

-- by doubled corners, which are at one place exactly where the corners are
abbrev pub edges_of : Faced → List Edge
edges_of x =
    let a : Vector = doubled x.triangle.a in
    let b : Vector = doubled x.triangle.b in
    let c : Vector = doubled x.triangle.c in
    record { from = a; to = b } ∷ record { from = b; to = c } ∷ record { from = c; to = a } ∷ []

abbrev pub all_edges : List Faced → List Edge
all_edges faced = flat_map edges_of faced

abbrev pub times_in : Edge → List Edge → ℕ
times_in e edges = sum_by (λ f. one (is_same_pair e f)) edges

-- each pair of places stands an even number of times among the edges of all triangles
abbrev pub ArePaired : List Faced → Type 0
ArePaired faced = (e : Edge) → times_in e (all_edges faced) % 2 ≡ 0
