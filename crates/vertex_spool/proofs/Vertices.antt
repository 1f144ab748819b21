-- Points in bytes, one after another.
use Rattle.std.proofs.Common.{◌≡◌, ◌<◌, ◌+◌, ◌*◌, ◌/◌, ◌%◌, ℕ, zero, suc, List, [], ◌∷◌, ◌++◌, length, drop, get_or, Some, None, refl, arith, sym, ap, ◌∙◌}
use Rattle.std.specs.Prelude.{Option, IfSome, slice_index_or}
use Rattle.std.specs.List.{All}
use Rattle.std.proofs.lemmas.List.{length-append, drop-drop, drop_at}
use Rattle.std.proofs.lemmas.List.Elements.{All-get_or}
use Rattle.std.proofs.lemmas.List.Concat.{flat_map-cons}
use Rattle.svo_base.specs.declared.shapes.Point.{Point}
use Rattle.room_plan.specs.declared.elements.VertexBlock.{VertexBlock}
use Rattle.octree_specs.specs.Parcels.{point_bytes, vertex_bytes}
use Rattle.dev_traits.specs.Streams.{stream_of}
use Rattle.room_plan.specs.Coordinates.{IsPoint, coordinate_at, point_at}
use Rattle.room_plan.proofs.Numbers.{reads_point, point_moved, length_point}
use Rattle.vertex_spool.specs.Spooling.{SpoolView, HasPoints}
use Rattle.vertex_spool.specs.Window.{IsBlockOf, AreBlocksOf, point_in}

-- ---- a point of a block that is kept

pub point_is : (bytes : List ℕ) (block : VertexBlock) (index : ℕ) → IsBlockOf bytes block → block.number ≡ index / 63 → index % 63 < block.count
    → point_in block (index % 63) ≡ point_at bytes (3 * index)
point_is bytes block index is number inside =
    let x : 189 * block.number + 3 * (index % 63) ≡ 3 * index = omega (arith, number) in
    let y : 189 * block.number + (3 * (index % 63) + 1) ≡ 3 * index + 1 = omega (arith, number) in
    let z : 189 * block.number + (3 * (index % 63) + 2) ≡ 3 * index + 2 = omega (arith, number) in
    let at_x = is (3 * (index % 63)) (omega (arith, inside)) ∙ ap (coordinate_at bytes) x in
    let at_y = is (3 * (index % 63) + 1) (omega (arith, inside)) ∙ ap (coordinate_at bytes) y in
    let at_z = is (3 * (index % 63) + 2) (omega (arith, inside)) ∙ ap (coordinate_at bytes) z in
    λ i. record { x = at_x i; y = at_y i; z = at_z i }

-- ---- points read back from their bytes

pub length_vertices : (points : List Point) → length (vertex_bytes points) ≡ 12 * length points
length_vertices [] = refl
length_vertices (p ∷ rest) =
    ap length (flat_map-cons point_bytes p rest) ∙ (length-append (point_bytes p) (vertex_bytes rest) ∙ omega (arith, length_point p, length_vertices rest))

vertices_from : (points : List Point) (index : ℕ) (none : Point) → index < length points
    → drop (12 * index) (vertex_bytes points) ≡ point_bytes (get_or points index none) ++ vertex_bytes (drop (suc index) points)
vertices_from [] index none inside = absurd (omega arith)
vertices_from (p ∷ rest) zero none inside = flat_map-cons point_bytes p rest
vertices_from (p ∷ rest) (suc index) none inside =
    let more : 12 * suc index ≡ 12 + 12 * index = omega arith in
    ap (λ n. drop n (vertex_bytes (p ∷ rest))) more
    ∙ (sym (drop-drop (12 * index) 12 (vertex_bytes (p ∷ rest)))
    ∙ (ap (λ l. drop (12 * index) (drop 12 l)) (flat_map-cons point_bytes p rest)
    ∙ (ap (drop (12 * index)) (drop_at (point_bytes p) (vertex_bytes rest) 12 (length_point p)) ∙ vertices_from rest index none (omega (arith, inside)))))

-- the point of an index
pub point_of_index : (points : List Point) (index : ℕ) (none : Point) → All IsPoint points → index < length points
    → point_at (vertex_bytes points) (3 * index) ≡ get_or points index none
point_of_index points index none fits inside =
    let place : 4 * (3 * index) ≡ 12 * index = omega arith in
    point_moved (vertex_bytes points) (3 * index)
    ∙ (ap (λ n. point_at (drop n (vertex_bytes points)) 0) place
    ∙ (ap (λ l. point_at l 0) (vertices_from points index none inside)
    ∙ reads_point (get_or points index none) (vertex_bytes (drop (suc index) points)) (All-get_or IsPoint points index none inside fits)))

-- ---- what is fetched

pub fetched : (told : Option (List (List ℕ))) (window : List VertexBlock) (slot index : ℕ) (empty : VertexBlock) (point : Point) → slot < length window
    → IfSome told (λ streams. AreBlocksOf (stream_of streams 0) window)
    → (slice_index_or window slot empty).number ≡ index / 63 → index % 63 < (slice_index_or window slot empty).count
    → point ≡ point_in (slice_index_or window slot empty) (index % 63)
    → IfSome told (λ streams. point ≡ point_at (stream_of streams 0) (3 * index))
fetched None window slot index empty point inside kept number has same = tt
fetched (Some streams) window slot index empty point inside kept number has same =
    same ∙ point_is (stream_of streams 0) (slice_index_or window slot empty) index (kept slot empty inside) number has

pub fetched_point : (told : Option (List (List ℕ))) (spool : SpoolView) (index : ℕ) (point : Point) → index < spool.count
    → IfSome told (λ streams. HasPoints (stream_of streams 0) spool)
    → IfSome told (λ streams. point ≡ point_at (stream_of streams 0) (3 * index))
    → IfSome told (λ streams. (points : List Point) → All IsPoint points → stream_of streams 0 ≡ vertex_bytes points → (none : Point) → point ≡ get_or points index none)
fetched_point None spool index point inside held read = tt
fetched_point (Some streams) spool index point inside held read = λ points fits same none.
    let long : 12 * length points ≡ 12 * spool.count = sym (length_vertices points) ∙ (ap length (sym same) ∙ held.long) in
    read ∙ (ap (λ bytes. point_at bytes (3 * index)) same ∙ point_of_index points index none fits (omega (arith, inside, long)))
