-- Triangles that are taken from a reader and given to their parts, one after another.
use Rattle.std.proofs.Common.{◌≡◌, ℕ, zero, suc, ◌+◌, ◌-◌, ◌^◌, ◌<◌, arith, All, List, [], ◌∷◌, ◌++◌, map, refl, sym, ap, ◌∙◌, subst, append-nil, Option, None, Some, Result, Ok, Err, MatchResult, IfOk, IfSome, length-append, get_or, pos}
use Rattle.std.specs.Result.{IsErr, IsErrAnd}
use Rattle.std.specs.List.{flat_map}
use Rattle.std.specs.Option.{option_map}
use Rattle.std.proofs.lemmas.List.{map-append}
use Rattle.std.proofs.lemmas.List.Elements.{All-push, All-nil, All-weaker}
use Rattle.std.proofs.lemmas.Grind.{flat_map-append}
use Rattle.svo_base.specs.GridShape.{GridShape}
use Rattle.svo_base.specs.declared.shapes.Point.{Point}
use Rattle.svo_base.specs.declared.shapes.Triangle.{Triangle}
use Rattle.svo_base.specs.Boxes.{IsPoint}
use Rattle.svo_base.proofs.Widening.{near_point_fits}
use Rattle.dev_traits.specs.Streams.{grown, stream_of}
use Rattle.ply_reader.specs.declared.fault.PlyFault.{PlyFault}
use Rattle.ply_reader.specs.declared.fans.FaceTriangle.{FaceTriangle}
use Rattle.ply_reader.specs.Bounds.{IsNear}
use Rattle.ply_reader.specs.MeshCalls.{MeshReading, MeshCall, give_face}
use Rattle.ply_reader.proofs.GatheredMeshes.{gave_stops, gave_triangle, gave_no_triangle, went_by}
use Rattle.mesh_laws.specs.Meshes.{faced_at, corner_of}
use Rattle.octree_specs.specs.Mesh.{vertex_at}
use Rattle.octree_specs.specs.FacedTriangles.{Faced}
use Rattle.octree_specs.specs.Parcels.{vertex_bytes}
use Rattle.room_plan.specs.declared.elements.Parcel.{Parcel}
use Rattle.tri_partition.specs.Partitioning.{Spills, parcels_of, appended, bytes_of}
use Rattle.tri_partition.proofs.SpilledRuns.{none_spilled, spills_more}
use Rattle.vertex_spool.specs.Spooling.{SpoolView, HasPoints}
use Rattle.build_core.specs.declared.faults.SpillFault.{SpillFault}
use Rattle.build_core.specs.declared.faults.SpillFault.TheVariants.{Text, Scratch}
use Rattle.build_core.specs.Spilling.{SpillsTriangles, StopsTriangles, IsSpooled, faces_after}
use Rattle.build_core.proofs.SpooledPoints.{spill_stop_is}

pub triangles_answer : {A : Type 0} (good : A → Type 0) (points : List Point) (old new : MeshReading) (result : Result A SpillFault) (stop : SpillFault)
    → IsErr result × IsErrAnd result (λ e. e ≡ stop) → StopsTriangles points old new stop → MatchResult result good (StopsTriangles points old new)
triangles_answer good points old new result stop is why = subst (λ r. MatchResult r good (StopsTriangles points old new)) (sym (spill_stop_is result stop is)) why

-- ---- corners

-- the point of a number, and the triangle of three
pub corner_is : {E : Type 0} (told : Option (List (List ℕ))) (points : List Point) (spool : SpoolView) (number : ℕ) (result : Result Point E) → IsSpooled points spool told
    → IfSome told (λ streams. (points : List Point) → All IsPoint points → stream_of streams 0 ≡ vertex_bytes points → IfOk result (λ point. (none : Point) → point ≡ get_or points number none))
    → IfSome told (λ _. IfOk result (λ point. point ≡ vertex_at points number))
corner_is None points spool number result s fetched = tt
corner_is (Some streams) points spool number (Err e) s fetched = tt
corner_is (Some streams) points spool number (Ok point) s fetched =
    fetched points (All-weaker IsNear IsPoint (λ p near. near_point_fits p (near.x, near.y, near.z)) points s.near) s.bytes (record { x = pos 0; y = pos 0; z = pos 0 })

pub corners_are : (told : Option (List (List ℕ))) (points : List Point) (found : FaceTriangle) (a b c : Point) (i j k : ℕ) → i ≡ corner_of found 0 → j ≡ corner_of found 1 → k ≡ corner_of found 2
    → IfSome told (λ _. a ≡ vertex_at points i) → IfSome told (λ _. b ≡ vertex_at points j) → IfSome told (λ _. c ≡ vertex_at points k)
    → IfSome told (λ _. record { a = a; b = b; c = c } ≡ (faced_at points found).triangle)
corners_are None points found a b c i j k is_i is_j is_k pa pb pc = tt
corners_are (Some streams) points found a b c i j k is_i is_j is_k pa pb pc = rw (pa, pb, pc, is_i, is_j, is_k) refl

-- ---- stream 0 stays

front_grown : (streams : List (List ℕ)) (stream : ℕ) (bytes : List ℕ) → 0 < stream → stream_of (grown streams stream bytes) 0 ≡ stream_of streams 0
unfolding grown
front_grown [] stream bytes behind = refl
front_grown (first ∷ rest) zero bytes behind = absurd (omega (arith, behind))
front_grown (first ∷ rest) (suc stream) bytes behind = refl

front_appended : (streams : List (List ℕ)) (parcels : List Parcel) → stream_of (appended streams parcels) 0 ≡ stream_of streams 0
unfolding appended
front_appended streams [] = refl
front_appended streams (p ∷ rest) = front_appended (grown streams (1 + p.part) (bytes_of p)) rest ∙ front_grown streams (1 + p.part) (bytes_of p) (omega arith)

-- the points still stand where parcels were appended
pub still_spooled : (points : List Point) (spool : SpoolView) (before after : Option (List (List ℕ))) (waited more waits : List Parcel)
    → Spills before after waited more waits → IsSpooled points spool before → IsSpooled points spool after
still_spooled points spool before after waited more waits spills s = subst (IsSpooled points spool) (sym spills.grew) (of before s)
  where
    of : (told : Option (List (List ℕ))) → IsSpooled points spool told → IsSpooled points spool (option_map (λ streams. appended streams spills.parcels) told)
    of None t = t
    of (Some streams) t = record {
      closed = t.closed;
      count = t.count;
      near = t.near;
      held = subst (λ bytes. HasPoints bytes spool) (sym (front_appended streams spills.parcels)) t.held;
      bytes = front_appended streams spills.parcels ∙ t.bytes;
    }

-- ---- triangle by triangle

-- the grid, the split and the streams of an addition by other names
pub same_spills : (mid after fetched : Option (List (List ℕ))) (waits now : List Parcel) (x : Faced) (grid other : GridShape) (split also : ℕ) → fetched ≡ mid → grid ≡ other → split ≡ also
    → Spills fetched after waits (parcels_of grid split x) now → Spills mid after waits (parcels_of other also x) now
same_spills mid after fetched waits now x grid other split also told is_grid is_split spills =
    subst (λ streams. Spills streams after waits (parcels_of other also x) now) told
    (subst (λ parcels. Spills fetched after waits parcels now) (ap (λ h. parcels_of h split x) is_grid ∙ ap (λ n. parcels_of other n x) is_split) spills)

-- what is told later was told before
pub told_before : (P : Type 0) (before mid : Option (List (List ℕ))) (parcels : List Parcel) → mid ≡ option_map (λ streams. appended streams parcels) before → IfSome mid (λ _. P) → IfSome before (λ _. P)
told_before P before mid parcels grew p = of before (subst (λ known. IfSome known (λ _. P)) grew p)
  where
    of : (known : Option (List (List ℕ))) → IfSome (option_map (λ streams. appended streams parcels) known) (λ _. P) → IfSome known (λ _. P)
    of None q = tt
    of (Some streams) q = q

-- no triangle yet
pub no_triangle_spilled : (grid : GridShape) (split : ℕ) (points : List Point) (old : MeshReading) (told : Option (List (List ℕ))) (waited : List Parcel)
    → SpillsTriangles grid split points old old told told waited waited 0 0
no_triangle_spilled grid split points old told waited = record {
  triangles = [];
  takes = λ scale start began. began;
  numbered = All-nil (λ (t : FaceTriangle). t.face < 2 ^ 32 - 1);
  count_is = refl;
  faces_are = refl;
  more = [];
  spills = none_spilled told waited;
  parcels = of told;
}
  where
    of : (known : Option (List (List ℕ))) → IfSome known (λ _. [] ≡ flat_map (parcels_of grid split) (map (faced_at points) []))
    of None = tt
    of (Some streams) = refl

faces_grow : (count : ℕ) (triangles : List FaceTriangle) (t : FaceTriangle) → faces_after count (triangles ++ t ∷ []) ≡ t.face + 1
faces_grow count [] t = refl
faces_grow count (first ∷ rest) t = faces_grow (first.face + 1) rest t

parcels_grow : (f : Faced → List Parcel) (g : FaceTriangle → Faced) (triangles : List FaceTriangle) (t : FaceTriangle) → flat_map f (map g (triangles ++ t ∷ [])) ≡ flat_map f (map g triangles) ++ f (g t)
parcels_grow f g triangles t = ap (flat_map f) (map-append g triangles (t ∷ [])) ∙ flat_map-append f (map g triangles) (g t ∷ []) ∙ ap (λ last. flat_map f (map g triangles) ++ last) (append-nil (f (g t)))

-- one triangle more
pub triangle_spilled : (grid : GridShape) (split : ℕ) (points : List Point) (old a b : MeshReading) (before mid after : Option (List (List ℕ))) (waited waits now : List Parcel) (faces count : ℕ)
    (found : FaceTriangle) (triangle : Triangle)
    → SpillsTriangles grid split points old a before mid waited waits faces count → MeshCall give_face a b (Ok (Some found)) → found.face < 2 ^ 32 - 1
    → Spills mid after waits (parcels_of grid split (record { triangle = triangle; face = found.face })) now → IfSome before (λ _. triangle ≡ (faced_at points found).triangle)
    → SpillsTriangles grid split points old b before after waited now (found.face + 1) (count + 1)
triangle_spilled grid split points old a b before mid after waited waits now faces count found triangle s call below spills fetched = record {
  triangles = s.triangles ++ found ∷ [];
  takes = λ scale start gave. gave_triangle scale start points s.triangles a b found (s.takes scale start gave) call;
  numbered = All-push (λ (t : FaceTriangle). t.face < 2 ^ 32 - 1) s.triangles found s.numbered below;
  count_is = omega (arith, s.count_is, length-append s.triangles (found ∷ []));
  faces_are = sym (faces_grow 0 s.triangles found);
  more = s.more ++ parcels_of grid split (record { triangle = triangle; face = found.face });
  spills = spills_more before mid after waited s.more waits (parcels_of grid split (record { triangle = triangle; face = found.face })) now s.spills spills;
  parcels = of before s.parcels fetched;
}
  where
    of : (known : Option (List (List ℕ))) → IfSome known (λ _. s.more ≡ flat_map (parcels_of grid split) (map (faced_at points) s.triangles)) → IfSome known (λ _. triangle ≡ (faced_at points found).triangle)
        → IfSome known (λ _. s.more ++ parcels_of grid split (record { triangle = triangle; face = found.face }) ≡ flat_map (parcels_of grid split) (map (faced_at points) (s.triangles ++ found ∷ [])))
    of None so_far is = tt
    of (Some streams) so_far is =
        ap (λ more. more ++ parcels_of grid split (record { triangle = triangle; face = found.face })) so_far
        ∙ ap (λ t. flat_map (parcels_of grid split) (map (faced_at points) s.triangles) ++ parcels_of grid split (record { triangle = t; face = found.face })) is
        ∙ sym (parcels_grow (parcels_of grid split) (faced_at points) s.triangles found)

-- none is left, and all that waited was appended
pub triangles_spilled : (grid : GridShape) (split : ℕ) (points : List Point) (old a b : MeshReading) (before mid after : Option (List (List ℕ))) (waited waits : List Parcel) (faces count : ℕ)
    → SpillsTriangles grid split points old a before mid waited waits faces count → MeshCall give_face a b (Ok None) → Spills mid after waits [] []
    → SpillsTriangles grid split points old b before after waited [] faces count
triangles_spilled grid split points old a b before mid after waited waits faces count s call spills = record {
  triangles = s.triangles;
  takes = λ scale start gave. gave_no_triangle scale start points s.triangles a b (s.takes scale start gave) call;
  numbered = s.numbered;
  count_is = s.count_is;
  faces_are = s.faces_are;
  more = s.more;
  spills = subst (λ more. Spills before after waited more []) (append-nil s.more) (spills_more before mid after waited s.more waits [] [] s.spills spills);
  parcels = s.parcels;
}

-- a refusal of the text, and a fault of the scratch
pub triangle_refused : (grid : GridShape) (split : ℕ) (points : List Point) (old a b : MeshReading) (before mid : Option (List (List ℕ))) (waited waits : List Parcel) (faces count : ℕ) (fault : PlyFault)
    → SpillsTriangles grid split points old a before mid waited waits faces count → MeshCall give_face a b (Err fault) → StopsTriangles points old b (Text fault)
triangle_refused grid split points old a b before mid waited waits faces count fault s call = λ scale start gave. gave_stops give_face scale start points s.triangles a b fault (s.takes scale start gave) call

pub triangle_failed : (grid : GridShape) (split : ℕ) (points : List Point) (old a b : MeshReading) (before mid : Option (List (List ℕ))) (waited waits : List Parcel) (faces count : ℕ) (found : Option FaceTriangle)
    → SpillsTriangles grid split points old a before mid waited waits faces count → MeshCall give_face a b (Ok found) → StopsTriangles points old b Scratch
triangle_failed grid split points old a b before mid waited waits faces count found s call = λ scale start gave. went_by give_face scale start points s.triangles a b found (s.takes scale start gave) call
