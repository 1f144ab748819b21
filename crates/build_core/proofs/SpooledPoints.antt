-- Points that are taken from a reader and put on scratch, one after another.
use Rattle.std.proofs.Common.{◌≡◌, ℕ, ◌+◌, arith, List, [], ◌∷◌, ◌++◌, refl, sym, ap, ◌∙◌, subst, append-nil, Option, None, Some, Result, Ok, Err, MatchResult, length-append}
use Rattle.std.specs.Result.{IsErr, IsErrAnd}
use Rattle.std.proofs.lemmas.List.Elements.{All-push, All-nil}
use Rattle.std.proofs.lemmas.Grind.{flat_map-append}
use Rattle.svo_base.specs.declared.shapes.Point.{Point}
use Rattle.svo_base.specs.declared.boxes.Bounds.{Bounds}
use Rattle.svo_base.specs.Boxes.{IsBoxOf, IsPoint}
use Rattle.svo_base.proofs.Widening.{near_point_fits}
use Rattle.dev_traits.specs.Streams.{grown_known}
use Rattle.octree_specs.specs.Parcels.{point_bytes, vertex_bytes}
use Rattle.ply_reader.specs.declared.fault.PlyFault.{PlyFault}
use Rattle.ply_reader.specs.Bounds.{IsNear}
use Rattle.ply_reader.specs.MeshCalls.{MeshReading, MeshCall, give_vertex}
use Rattle.ply_reader.proofs.GatheredMeshes.{gave_stops, gave_point, gave_none, went_by}
use Rattle.vertex_spool.specs.Spooling.{SpoolView, with_waiting}
use Rattle.dev_traits.proofs.GrownStreams.{known_twice}
use Rattle.build_core.specs.declared.faults.SpillFault.{SpillFault}
use Rattle.build_core.specs.declared.faults.SpillFault.TheVariants.{Text, Scratch}
use Rattle.build_core.specs.Spilling.{SpoolsPoints, StopsSpilling}

-- what `?` answers
pub spill_stop_is : {A : Type 0} (result : Result A SpillFault) (stop : SpillFault) → IsErr result × IsErrAnd result (λ e. e ≡ stop) → result ≡ Err stop
spill_stop_is (Ok x) stop h = absurd (let e = h.0 in cc)
spill_stop_is (Err e) stop h = ap Err h.1

pub stop_answer : {A : Type 0} (good : A → Type 0) (old new : MeshReading) (result : Result A SpillFault) (stop : SpillFault)
    → IsErr result × IsErrAnd result (λ e. e ≡ stop) → StopsSpilling old new stop → MatchResult result good (StopsSpilling old new)
stop_answer good old new result stop is why = subst (λ r. MatchResult r good (StopsSpilling old new)) (sym (spill_stop_is result stop is)) why

-- no point yet
pub none_spooled : (old : MeshReading) (told : Option (List (List ℕ))) (spool : SpoolView) (bounds : Option Bounds) → spool.count ≡ 0 → spool.waiting ≡ [] → bounds ≡ None
    → SpoolsPoints old old told (with_waiting told spool.waiting) spool bounds
none_spooled old told spool bounds none empty no_box = record {
  points = [];
  takes = λ scale start began. began;
  near = All-nil IsNear;
  count = none;
  put = ap (λ waiting. with_waiting told waiting) empty;
  is_box = subst (λ s. IsBoxOf [] s) (sym no_box) refl;
}

vertices_grow : (points : List Point) (point : Point) → vertex_bytes (points ++ point ∷ []) ≡ vertex_bytes points ++ point_bytes point
vertices_grow points point = flat_map-append point_bytes points (point ∷ []) ∙ ap (λ bytes. vertex_bytes points ++ bytes) (append-nil (point_bytes point))

-- one point more
pub point_spooled : (old a b : MeshReading) (before after later : Option (List (List ℕ))) (spool next : SpoolView) (bounds wider : Option Bounds) (point : Point)
    → SpoolsPoints old a before after spool bounds → MeshCall give_vertex a b (Ok (Some point)) → IsNear point → later ≡ grown_known after 0 (point_bytes point) → next.count ≡ spool.count + 1
    → ((points : List Point) → IsPoint point → IsBoxOf points bounds → IsBoxOf (points ++ point ∷ []) wider) → SpoolsPoints old b before later next wider
point_spooled old a b before after later spool next bounds wider point s call near grew counts widens = record {
  points = s.points ++ point ∷ [];
  takes = λ scale start began. gave_point scale start s.points a b point (s.takes scale start began) call;
  near = All-push IsNear s.points point s.near near;
  count = omega (arith, counts, s.count, length-append s.points (point ∷ []));
  put = grew ∙ ap (λ told. grown_known told 0 (point_bytes point)) s.put ∙ known_twice before 0 (vertex_bytes s.points) (point_bytes point)
      ∙ ap (λ bytes. grown_known before 0 bytes) (sym (vertices_grow s.points point));
  is_box = widens s.points (near_point_fits point (near.x, near.y, near.z)) s.is_box;
}

-- no point is left, and what waited was appended
pub points_spooled : (old a b : MeshReading) (before after later : Option (List (List ℕ))) (spool closed : SpoolView) (bounds : Option Bounds)
    → SpoolsPoints old a before after spool bounds → MeshCall give_vertex a b (Ok None) → later ≡ after → closed.count ≡ spool.count → SpoolsPoints old b before later closed bounds
points_spooled old a b before after later spool closed bounds s call same counts = record {
  points = s.points;
  takes = λ scale start began. gave_none scale start s.points [] a b (s.takes scale start began) call;
  near = s.near;
  count = counts ∙ s.count;
  put = same ∙ s.put;
  is_box = s.is_box;
}

-- a refusal of the text, and a fault of the scratch
pub text_stops : (old a b : MeshReading) (before after : Option (List (List ℕ))) (spool : SpoolView) (bounds : Option Bounds) (fault : PlyFault)
    → SpoolsPoints old a before after spool bounds → MeshCall give_vertex a b (Err fault) → StopsSpilling old b (Text fault)
text_stops old a b before after spool bounds fault s call = λ scale start began. gave_stops give_vertex scale start s.points [] a b fault (s.takes scale start began) call

pub scratch_stops : (old a b : MeshReading) (before after : Option (List (List ℕ))) (spool : SpoolView) (bounds : Option Bounds) (found : Option Point)
    → SpoolsPoints old a before after spool bounds → MeshCall give_vertex a b (Ok found) → StopsSpilling old b Scratch
scratch_stops old a b before after spool bounds found s call = λ scale start began. went_by give_vertex scale start s.points [] a b found (s.takes scale start began) call
