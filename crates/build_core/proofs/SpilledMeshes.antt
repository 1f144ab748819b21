-- A mesh that was put on scratch, whole.
use Rattle.std.proofs.Common.{◌≡◌, ℕ, zero, suc, ◌+◌, ◌-◌, ◌*◌, ◌^◌, ◌<◌, length, arith, All, List, [], ◌∷◌, map, replicate, pos, refl, sym, ap, ◌∙◌, subst, Option, None, Some, IfSome, true}
use Rattle.std.specs.List.{flat_map}
use Rattle.std.proofs.lemmas.List.{length-replicate}
use Rattle.std.proofs.lemmas.List.Elements.{All-weaker, All-head, All-tail, All-map}
use Rattle.svo_base.specs.GridShape.{GridShape}
use Rattle.svo_base.specs.declared.shapes.Point.{Point}
use Rattle.svo_base.specs.declared.boxes.Bounds.{Bounds}
use Rattle.svo_base.specs.Boxes.{IsPoint, IsNearPoint, IsNearBox, IsBoxOf}
use Rattle.svo_base.proofs.Widening.{near_point_fits, near_box}
use Rattle.dev_traits.specs.Streams.{grown, grown_known, stream_of}
use Rattle.dev_traits.proofs.Rooms.{length-grown}
use Rattle.ply_reader.specs.Bounds.{IsNear}
use Rattle.ply_reader.specs.declared.fans.FaceTriangle.{FaceTriangle}
use Rattle.ply_reader.specs.PlyMeaning.{PlyMesh}
use Rattle.mesh_laws.specs.Meshes.{faced_at, faced_of, corner_of}
use Rattle.octree_specs.specs.Mesh.{vertex_at}
use Rattle.octree_specs.specs.Parcels.{vertex_bytes}
use Rattle.octree_specs.specs.Parts.{part_of}
use Rattle.room_plan.specs.declared.elements.Parcel.{Parcel}
use Rattle.tri_partition.specs.PartStreams.{part_stream}
use Rattle.tri_partition.specs.Partitioning.{PartitionView, Spills, parcels_of, appended, appended_known}
use Rattle.tri_partition.specs.Laws.{IsFaced, IsPartitioned, GrewByParcels}
use Rattle.tri_partition.proofs.SpilledParts.{parts_spilled}
use Rattle.tri_partition.proofs.ReadBack.{read_back}
use Rattle.vertex_spool.specs.Spooling.{SpoolView}
use Rattle.vertex_spool.specs.Window.{AreBlocksOf}
use Rattle.vertex_spool.proofs.Vertices.{length_vertices}
use Rattle.build_core.specs.declared.jobs.GridChoice.{GridChoice}
use Rattle.build_core.specs.declared.jobs.GridChoice.TheVariants.{Given, Fit}
use Rattle.ply_reader.specs.MeshCalls.{MeshReading}
use Rattle.build_core.specs.declared.triangles.Taken.{Taken}
use Rattle.build_core.specs.Spilling.{IsSpooled, SpillsTriangles}
use Rattle.build_core.specs.Meshes.{IsGridOf, IsGridFor, AreEmpty, IsOnScratch, AreReadBack}

-- ---- points

pub points_near : (points : List Point) → All IsNear points → All IsNearPoint points
points_near points near = All-weaker IsNear IsNearPoint (λ p n. (n.x, n.y, n.z)) points near

pub box_near : (points : List Point) (bounds : Option Bounds) → All IsNear points → IsBoxOf points bounds → IsNearBox bounds
box_near points bounds near is = near_box points bounds (points_near points near) is

vertex_fits : (points : List Point) (number : ℕ) → All IsNear points → IsPoint (vertex_at points number)
vertex_fits [] number near = near_point_fits (record { x = pos 0; y = pos 0; z = pos 0 }) (omega arith, omega arith, omega arith)
vertex_fits (p ∷ rest) zero near = let n = All-head IsNear p rest near in near_point_fits p (n.x, n.y, n.z)
vertex_fits (p ∷ rest) (suc number) near = vertex_fits rest number (All-tail IsNear p rest near)

are_faced : (points : List Point) (triangles : List FaceTriangle) → All IsNear points → All (λ t. t.face < 2 ^ 32 - 1) triangles → All IsFaced (map (faced_at points) triangles)
are_faced points triangles near numbered =
    All-map IsFaced (faced_at points) triangles
    (All-weaker (λ (t : FaceTriangle). t.face < 2 ^ 32 - 1) (λ t. IsFaced (faced_at points t))
    (λ t below. record { a = vertex_fits points (corner_of t 0) near; b = vertex_fits points (corner_of t 1) near; c = vertex_fits points (corner_of t 2) near; face = omega (arith, below) })
    triangles numbered)

-- ---- streams that were empty

no_bytes : (count stream : ℕ) → stream_of (replicate count []) stream ≡ []
no_bytes zero stream = refl
no_bytes (suc count) zero = refl
no_bytes (suc count) (suc stream) = no_bytes count stream

behind_first : (streams : List (List ℕ)) (stream : ℕ) (bytes : List ℕ) → 0 < stream → stream_of (grown streams 0 bytes) stream ≡ stream_of streams stream
unfolding grown
behind_first [] stream bytes behind = refl
behind_first (first ∷ rest) zero bytes behind = absurd (omega (arith, behind))
behind_first (first ∷ rest) (suc stream) bytes behind = refl

first_of_empty : (count : ℕ) (bytes : List ℕ) → 0 < count → stream_of (grown (replicate count []) 0 bytes) 0 ≡ bytes
unfolding grown
first_of_empty zero bytes some = absurd (omega (arith, some))
first_of_empty (suc count) bytes some = refl

-- the points may be fetched once they stand in a stream that was empty
pub spooled : (count : ℕ) (points : List Point) (spool : SpoolView) (before after : Option (List (List ℕ))) → 0 < count → AreEmpty count before → after ≡ grown_known before 0 (vertex_bytes points)
    → spool.closed ≡ true → spool.count ≡ length points → All IsNear points → ((bytes : List ℕ) → AreBlocksOf bytes spool.window) → IsSpooled points spool after
spooled count points spool None after some empty put closed counts near window = subst (IsSpooled points spool) (sym put) (record { closed = closed; count = counts; near = near; held = tt; bytes = tt })
spooled count points spool (Some streams) after some empty put closed counts near window =
    let bytes : stream_of (grown streams 0 (vertex_bytes points)) 0 ≡ vertex_bytes points = ap (λ s. stream_of (grown s 0 (vertex_bytes points)) 0) empty ∙ first_of_empty count (vertex_bytes points) some in
    subst (IsSpooled points spool) (sym put)
    (record {
      closed = closed;
      count = counts;
      near = near;
      held = record { long = ap length bytes ∙ length_vertices points ∙ ap (λ n. 12 * n) (sym counts); kept = window (stream_of (grown streams 0 (vertex_bytes points)) 0) };
      bytes = bytes;
    })

-- ---- the mesh on scratch

abbrev mesh_of : List Point → List FaceTriangle → PlyMesh
mesh_of points triangles = record { points = points; triangles = triangles }

abbrev Both : GridShape → ℕ → List Point → List FaceTriangle → List (List ℕ) → Type 0
Both grid split points triangles streams = IsOnScratch grid split (mesh_of points triangles) streams × AreReadBack grid split (mesh_of points triangles) streams

both : (grid : GridShape) (split count : ℕ) (points : List Point) (triangles : List FaceTriangle) (streams first now : List (List ℕ)) → count ≡ 1 + 8 ^ split → streams ≡ replicate count []
    → first ≡ grown streams 0 (vertex_bytes points) → All IsFaced (map (faced_at points) triangles) → IsPartitioned grid split (map (faced_at points) triangles) first now → Both grid split points triangles now
unfolding faced_of
both grid split count points triangles streams first now counts empty put faced parts =
    let some : 0 < count = omega (arith, counts) in
    let is_first : first ≡ grown (replicate count []) 0 (vertex_bytes points) = put ∙ ap (λ s. grown s 0 (vertex_bytes points)) empty in
    let none : (part : ℕ) → part_stream first part ≡ [] = λ part. ap (λ s. part_stream s part) is_first ∙ behind_first (replicate count []) (1 + part) (vertex_bytes points) (omega arith) ∙ no_bytes count (1 + part) in
    let long : length first ≡ 1 + 8 ^ split = ap length is_first ∙ length-grown (replicate count []) 0 (vertex_bytes points) ∙ length-replicate count [] ∙ counts in
    let grew : (part : ℕ) → part < 8 ^ split → GrewByParcels [] (part_stream now part) (part_of grid split part (map (faced_at points) triangles)) =
    λ part within. subst (λ bytes. GrewByParcels bytes (part_stream now part) (part_of grid split part (map (faced_at points) triangles))) (none part) (parts.parts part within (omega (arith, within, long))) in (
      record {
        vertices = parts.front ∙ ap (λ s. stream_of s 0) is_first ∙ first_of_empty count (vertex_bytes points) some;
        parts = λ part within. read_back.holds (part_stream now part) (part_of grid split part (map (faced_at points) triangles)) (grew part within);
      },
      λ part within. read_back.reads grid split part (part_stream now part) (map (faced_at points) triangles) faced (grew part within),
    )

pub on_scratch : (grid : GridShape) (split : ℕ) (points : List Point) (triangles : List FaceTriangle) (t0 t1 t2 : Option (List (List ℕ))) (more : List Parcel) → AreEmpty (1 + 8 ^ split) t0
    → t1 ≡ grown_known t0 0 (vertex_bytes points) → Spills t1 t2 [] more [] → IfSome t1 (λ _. more ≡ flat_map (parcels_of grid split) (map (faced_at points) triangles)) → All IsNear points
    → All (λ t. t.face < 2 ^ 32 - 1) triangles → IfSome t2 (Both grid split points triangles)
on_scratch grid split points triangles None t1 t2 more empty put spills parcels near numbered =
    subst (λ t. IfSome t (Both grid split points triangles)) (sym (spills.grew ∙ ap (λ t. appended_known t spills.parcels) put)) tt
on_scratch grid split points triangles (Some streams) t1 t2 more empty put spills parcels near numbered =
    let first = grown streams 0 (vertex_bytes points) in
    let faced = map (faced_at points) triangles in
    let told : Spills (Some first) t2 [] more [] = subst (λ t. Spills t t2 [] more []) put spills in
    let now = appended first told.parcels in
    let is_more : more ≡ flat_map (parcels_of grid split) faced = subst (λ t. IfSome t (λ _. more ≡ flat_map (parcels_of grid split) faced)) put parcels in
    let all : Spills (Some first) (Some now) [] (flat_map (parcels_of grid split) faced) [] = subst (λ m. Spills (Some first) (Some now) [] m []) is_more (subst (λ t. Spills (Some first) t [] more []) told.grew told) in
    subst (λ t. IfSome t (Both grid split points triangles)) (sym told.grew)
    (both grid split (1 + 8 ^ split) points triangles streams first now refl empty refl (are_faced points triangles near numbered) (parts_spilled grid split faced first now all))

pub first_told : (grid : GridShape) (split : ℕ) (points : List Point) (triangles : List FaceTriangle) (told : Option (List (List ℕ))) → IfSome told (Both grid split points triangles)
    → IfSome told (IsOnScratch grid split (mesh_of points triangles)) × IfSome told (AreReadBack grid split (mesh_of points triangles))
first_told grid split points triangles None both = (tt, tt)
first_told grid split points triangles (Some streams) both = both

-- ---- the grid

pub grid_is : (choice : GridChoice) (points : List Point) (bounds : Option Bounds) (grid : GridShape) → IsBoxOf points bounds → IsGridFor choice bounds grid → IsGridOf choice points grid
grid_is (Given given) points bounds grid is chosen = chosen
grid_is (Fit depth) points bounds grid is chosen = record { depth_is = chosen.0; bounds = bounds; is_box = is; fits = chosen.1 }

-- a partition that was made for this grid and split, with nothing waiting
pub of_partition : (old new : MeshReading) (points : List Point) (before after : Option (List (List ℕ))) (partition : PartitionView) (grid : GridShape) (split : ℕ) (taken : Taken)
    → partition ≡ record { grid = grid; split = split; waiting = [] } → SpillsTriangles partition.grid partition.split points old new before after partition.waiting [] taken.faces taken.triangles
    → SpillsTriangles grid split points old new before after [] [] taken.faces taken.triangles
of_partition old new points before after partition grid split taken is spills =
    subst (λ (p : PartitionView). SpillsTriangles p.grid p.split points old new before after p.waiting [] taken.faces taken.triangles) is spills
