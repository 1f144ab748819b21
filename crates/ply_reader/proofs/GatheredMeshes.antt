-- What a reader of a mesh gave, call by call.
use Rattle.std.proofs.Common.{◌≡◌, ℕ, ◌+◌, ◌≤◌, ◌<◌, ◌^◌, length, arith, All, List, [], ◌∷◌, ◌++◌, refl, sym, ap, ◌∙◌, subst, append_assoc, append-nil, Option, None, Some, IfSome, MatchOption, Result, Ok, Err, IfOk, MatchResult, le_trans}
use Rattle.svo_base.specs.declared.shapes.Point.{Point}
use Rattle.ply_text.specs.Reading.{Reading}
use Rattle.ply_reader.specs.declared.fault.PlyFault.{PlyFault}
use Rattle.ply_reader.specs.declared.fault.PlyFault.TheVariants.{ReadFault}
use Rattle.ply_reader.specs.declared.fans.FaceTriangle.{FaceTriangle}
use Rattle.ply_reader.specs.declared.scales.Scale.{Scale}
use Rattle.std.specs.Result.{IsErr, IsErrAnd}
use Rattle.std.proofs.lemmas.List.Elements.{All-weaker}
use Rattle.ply_reader.specs.Bounds.{IsNear}
use Rattle.ply_reader.specs.Declarations.{Declared}
use Rattle.ply_reader.specs.Layout.{vertex_count}
use Rattle.ply_reader.specs.WholeMeshes.{IsWhole}
use Rattle.ply_reader.specs.declared.whole_mesh.MeshFault.{MeshFault}
use Rattle.ply_reader.specs.declared.whole_mesh.MeshFault.TheVariants.{Text}
use Rattle.ply_reader.specs.Cursors.{at}
use Rattle.ply_reader.specs.PlyMeaning.{Outcome, PlyMesh, stopped_by, meaning_of, ended_at}
use Rattle.ply_reader.specs.Runs.{refused_place}
use Rattle.ply_reader.specs.MeshCalls.{BodyReading, MeshReading, CountsVertex, CountsFace, rest_of, MeshRun, MeshCall, Begins, give_vertex, give_face, give_end, AtEnd, IsWithinMesh}
use Rattle.ply_reader.specs.Gathering.{outcome_from, give_all, WentOn, Gave, IsStopped, GaveAll}
use Rattle.ply_reader.proofs.Steps.{rose_later}

-- a call goes on
pub went_on : {A : Type 0} (give : A → Outcome → Outcome) (start : Reading) (a b : MeshReading) (result : Result A PlyFault) → WentOn start a → MeshRun give a.body b.body result → WentOn start b
went_on give start a b result went run = record { later = le_trans went.later run.later; stands = λ text stands. run.stands text (went.stands text stands) }

-- a reader that gave something was not stopped
pub not_stopped : {A : Type 0} (give : A → Outcome → Outcome) (a b : MeshReading) (x : A) → MeshCall give a b (Ok x) → a.stopped ≡ None
not_stopped {A} give a b x call = of a.stopped (λ fault is. (call.stays fault is).0)
  where
    of : (o : Option PlyFault) → ((fault : PlyFault) → o ≡ Some fault → Ok x ≡ Err fault) → o ≡ None
    of None same = refl
    of (Some fault) same = absurd (cc (same fault refl))

-- what a text gave, where the reader is not stopped
abbrev pub GaveTold : Scale → Reading → List Point → List FaceTriangle → MeshReading → List ℕ → Type 0
GaveTold scale start ps ts now text = (rest : List ℕ) × (now.body.text.left ≡ Some rest) × (outcome_from scale (at start.place text) ≡ give_all ps ts (rest_of now.body rest))

abbrev pub StopTold : Scale → Reading → List ℕ → PlyFault → Type 0
StopTold scale start text fault = (outcome_from scale (at start.place text)).ends ≡ Err fault

abbrev pub IsReached : MeshReading → PlyFault → Type 0
IsReached now fault = refused_place fault ≤ now.body.text.place + now.body.text.ahead

pub told_free : (P : Type 0) (Q : PlyFault → Type 0) (o : Option PlyFault) → o ≡ None → MatchOption o P Q → P
told_free P Q None is p = p
told_free P Q (Some fault) is p = absurd (cc is)

pub free_told : (P : Type 0) (Q : PlyFault → Type 0) (o : Option PlyFault) → o ≡ None → P → MatchOption o P Q
free_told P Q None is p = p
free_told P Q (Some fault) is p = absurd (cc is)

pub free_if : (Q : PlyFault → Type 0) (o : Option PlyFault) → o ≡ None → IfSome o Q
free_if Q None is = tt
free_if Q (Some fault) is = absurd (cc is)

pub some_if : (Q : PlyFault → Type 0) (o : Option PlyFault) (fault : PlyFault) → o ≡ Some fault → Q fault → IfSome o Q
some_if Q None fault is q = absurd (cc is)
some_if Q (Some other) fault is q = let same : fault ≡ other = cc is in subst Q same q

pub some_told : (P : Type 0) (Q : PlyFault → Type 0) (o : Option PlyFault) (fault : PlyFault) → o ≡ Some fault → Q fault → MatchOption o P Q
some_told P Q None fault is q = absurd (cc is)
some_told P Q (Some other) fault is q = let same : fault ≡ other = cc is in subst Q same q

pub some_of : (P : Type 0) (Q : PlyFault → Type 0) (o : Option PlyFault) (fault : PlyFault) → o ≡ Some fault → MatchOption o P Q → Q fault
some_of P Q None fault is p = absurd (cc is)
some_of P Q (Some other) fault is p = let same : other ≡ fault = cc is in subst Q same p

pub told_some : (P R : Type 0) (Q : PlyFault → Type 0) (o : Option PlyFault) (fault : PlyFault) → o ≡ Some fault → MatchOption o P Q → MatchOption o R Q
told_some P R Q None fault is p = absurd (cc is)
told_some P R Q (Some other) fault is p = p

-- items, given further
pub gave_on : {A : Type 0} (give : A → Outcome → Outcome) (scale : Scale) (start : Reading) (ps qs : List Point) (ts us : List FaceTriangle) (a b : MeshReading) (x : A)
    → ((o : Outcome) → give_all ps ts (give x o) ≡ give_all qs us o) → Gave scale start ps ts a → MeshCall give a b (Ok x) → Gave scale start qs us b
gave_on {A} give scale start ps qs ts us a b x same gave call =
    let free : a.stopped ≡ None = not_stopped give a b x call in
    let none : b.stopped ≡ None = call.stops in
    let run : MeshRun give a.body b.body (Ok x) = call.run free in
    record {
      went = went_on give start a b (Ok x) gave.went run;
      failed = λ bad. absurd (cc (none, bad));
      reached = free_if (IsReached b) b.stopped none;
      told = λ text told _.
          let before = told_free (GaveTold scale start ps ts a text) (StopTold scale start text) a.stopped free (gave.told text told (λ bad. cc (free, bad))) in
          let after = run.told before.0 before.1 (λ bad. cc bad) in
          free_told (GaveTold scale start qs us b text) (StopTold scale start text) b.stopped none (after.0, after.1, before.2 ∙ ap (give_all ps ts) after.2 ∙ same (rest_of b.body after.0));
    }

-- a stopped reader gives nothing more, whatever it gave before
pub gave_lists : (scale : Scale) (start : Reading) (ps qs : List Point) (ts us : List FaceTriangle) (a : MeshReading) (fault : PlyFault) → a.stopped ≡ Some fault → Gave scale start ps ts a → Gave scale start qs us a
gave_lists scale start ps qs ts us a fault is gave = record {
  went = gave.went;
  failed = gave.failed;
  reached = gave.reached;
  told = λ text told ok. told_some (GaveTold scale start ps ts a text) (GaveTold scale start qs us a text) (StopTold scale start text) a.stopped fault is (gave.told text told ok);
}

-- a call that is refused
pub gave_stops : {A : Type 0} (give : A → Outcome → Outcome) (scale : Scale) (start : Reading) (ps : List Point) (ts : List FaceTriangle) (a b : MeshReading) (fault : PlyFault)
    → Gave scale start ps ts a → MeshCall give a b (Err fault) → IsStopped scale start b (Text fault)
gave_stops {A} give scale start ps ts a b fault gave call = (of a.stopped refl, is)
  where
    is : b.stopped ≡ Some fault
    is = call.stops

    stopped : MeshRun give a.body b.body (Err fault) → a.stopped ≡ None → Gave scale start [] [] b
    stopped run free = record {
      went = went_on give start a b (Err fault) gave.went run;
      failed = λ bad. let same : fault ≡ ReadFault = cc (is, bad) in rose_later start.faults a.body.text.faults b.body.text.faults gave.went.later (run.failed (ap Err same));
      reached = some_if (IsReached b) b.stopped fault is run.reached;
      told = λ text told ok.
          let before = told_free (GaveTold scale start ps ts a text) (StopTold scale start text) a.stopped free (gave.told text told (λ bad. cc (free, bad))) in
          let after = run.told before.0 before.1 (λ bad. let same : fault ≡ ReadFault = cc bad in ok (is ∙ ap Some same)) in
          some_told (GaveTold scale start [] [] b text) (StopTold scale start text) b.stopped fault is (ap (λ o. o.ends) before.2 ∙ ap (λ o. o.ends) after);
    }

    of : (o : Option PlyFault) → a.stopped ≡ o → Gave scale start [] [] b
    of None free = stopped (call.run free) free
    of (Some other) was = subst (Gave scale start [] []) (sym (call.stays other was).1) (gave_lists scale start ps [] ts [] a other was gave)

-- a point, and a triangle
pub gave_point : (scale : Scale) (start : Reading) (ps : List Point) (a b : MeshReading) (point : Point)
    → Gave scale start ps [] a → MeshCall give_vertex a b (Ok (Some point)) → Gave scale start (ps ++ point ∷ []) [] b
gave_point scale start ps a b point gave call =
    gave_on give_vertex scale start ps (ps ++ point ∷ []) [] [] a b (Some point)
    (λ o. ap (λ points. record { points = points; triangles = o.triangles; ends = o.ends }) (sym (append_assoc ps (point ∷ []) o.points))) gave call

pub gave_triangle : (scale : Scale) (start : Reading) (ps : List Point) (ts : List FaceTriangle) (a b : MeshReading) (triangle : FaceTriangle)
    → Gave scale start ps ts a → MeshCall give_face a b (Ok (Some triangle)) → Gave scale start ps (ts ++ triangle ∷ []) b
gave_triangle scale start ps ts a b triangle gave call =
    gave_on give_face scale start ps ps ts (ts ++ triangle ∷ []) a b (Some triangle)
    (λ o. ap (λ triangles. record { points = ps ++ o.points; triangles = triangles; ends = o.ends }) (sym (append_assoc ts (triangle ∷ []) o.triangles))) gave call

-- all is given
pub gave_all : (scale : Scale) (start : Reading) (ps : List Point) (ts : List FaceTriangle) (a b : MeshReading) (size : ℕ)
    → Gave scale start ps ts a → MeshCall give_end a b (Ok size) → AtEnd a.body.text b.body.text size → GaveAll scale start (record { points = ps; triangles = ts }) b
gave_all scale start ps ts a b size gave call at_end =
    let free : a.stopped ≡ None = not_stopped give_end a b size call in
    let run : MeshRun give_end a.body b.body (Ok size) = call.run free in
    record {
      went = went_on give_end start a b (Ok size) gave.went run;
      read = at_end.read;
      told = λ text told.
          let before = told_free (GaveTold scale start ps ts a text) (StopTold scale start text) a.stopped free (gave.told text told (λ bad. cc (free, bad))) in
          let after = run.told before.0 before.1 (λ bad. cc bad) in
          let whole : outcome_from scale (at start.place text) ≡ give_all ps ts (ended_at size) = before.2 ∙ ap (give_all ps ts) after.2 in
          (at_end.nothing before.0 before.1, ap (λ o. meaning_of o o.ends) whole ∙ mesh_is (append-nil ps) (append-nil ts));
    }
  where
    mesh : List Point → List FaceTriangle → Result PlyMesh PlyFault
    mesh qs us = Ok (record { points = qs; triangles = us })

    mesh_is : {qs : List Point} {us : List FaceTriangle} → qs ≡ ps → us ≡ ts → mesh qs us ≡ mesh ps ts
    mesh_is p q = λ i. mesh (p i) (q i)

-- a reader that begins gave nothing yet
pub gave_nothing : (scale : Scale) (start : Reading) (m : MeshReading) → Begins scale start m → Gave scale start [] [] m
gave_nothing scale start m begins = record {
  went = record { later = begins.later; stands = begins.stands };
  failed = begins.failed;
  reached = begins.reached;
  told = λ text told ok. of m.stopped (outcome_from scale (at start.place text)) (begins.told text told ok);
}
  where
    of : (o : Option PlyFault) (all : Outcome)
        → MatchOption o ((rest : List ℕ) × (m.body.text.left ≡ Some rest) × (all ≡ rest_of m.body rest)) (λ fault. all ≡ stopped_by fault)
        → MatchOption o ((rest : List ℕ) × (m.body.text.left ≡ Some rest) × (all ≡ give_all [] [] (rest_of m.body rest))) (λ fault. all.ends ≡ Err fault)
    of None all told = told
    of (Some fault) all told = ap (λ o. o.ends) told

-- what `?` answers
pub stop_is : {A : Type 0} (result : Result A MeshFault) (stop : MeshFault) → IsErr result × IsErrAnd result (λ e. e ≡ stop) → result ≡ Err stop
stop_is (Ok x) stop h = absurd (let e = h.0 in cc)
stop_is (Err e) stop h = ap Err h.1

pub stopped_answer : {A : Type 0} (good : A → Type 0) (scale : Scale) (start : Reading) (now : MeshReading) (result : Result A MeshFault) (stop : MeshFault)
    → IsErr result × IsErrAnd result (λ e. e ≡ stop) → IsStopped scale start now stop → MatchResult result good (IsStopped scale start now)
stopped_answer good scale start now result stop is why = subst (λ r. MatchResult r good (IsStopped scale start now)) (sym (stop_is result stop is)) why

-- a call gave this
pub call_given : {A : Type 0} (give : A → Outcome → Outcome) (a b : MeshReading) (result other : Result A PlyFault) → result ≡ other → MeshCall give a b result → MeshCall give a b other
call_given give a b result other is call = subst (MeshCall give a b) is call

-- memory ran out behind a call
pub went_by : {A : Type 0} (give : A → Outcome → Outcome) (scale : Scale) (start : Reading) (ps : List Point) (ts : List FaceTriangle) (a b : MeshReading) (x : A) → Gave scale start ps ts a → MeshCall give a b (Ok x) → WentOn start b
went_by give scale start ps ts a b x gave call = went_on give start a b (Ok x) gave.went (call.run (not_stopped give a b x call))

-- a point or none was given
pub counted_point : (a b : BodyReading) (result : Result (Option Point) PlyFault) (found : Option Point) → result ≡ Ok found → IfOk result (CountsVertex a b) → CountsVertex a b found
counted_point a b result found is counted = subst (λ r. IfOk r (CountsVertex a b)) is counted

-- the header stays
pub same_header : {A : Type 0} (give : A → Outcome → Outcome) (a b : MeshReading) (x : A) → MeshCall give a b (Ok x) → b.body.header ≡ a.body.header
same_header give a b x call = (call.run (not_stopped give a b x call)).same.header

pub gave_none : (scale : Scale) (start : Reading) (ps : List Point) (ts : List FaceTriangle) (a b : MeshReading) → Gave scale start ps ts a → MeshCall give_vertex a b (Ok None) → Gave scale start ps ts b
gave_none scale start ps ts a b gave call = gave_on give_vertex scale start ps ps ts ts a b None (λ o. refl) gave call

-- a triangle or none was given
pub counted_triangle : (a b : BodyReading) (result : Result (Option FaceTriangle) PlyFault) (found : Option FaceTriangle) → result ≡ Ok found → IfOk result (CountsFace a b) → CountsFace a b found
counted_triangle a b result found is counted = subst (λ r. IfOk r (CountsFace a b)) is counted

pub gave_no_triangle : (scale : Scale) (start : Reading) (ps : List Point) (ts : List FaceTriangle) (a b : MeshReading) → Gave scale start ps ts a → MeshCall give_face a b (Ok None) → Gave scale start ps ts b
gave_no_triangle scale start ps ts a b gave call = gave_on give_face scale start ps ps ts ts a b None (λ o. refl) gave call

-- a gathering call gave this
pub gathered : {A : Type 0} (good : A → Type 0) (bad : MeshFault → Type 0) (result other : Result A MeshFault) → result ≡ other → MatchResult result good bad → MatchResult other good bad
gathered good bad result other is p = subst (λ r. MatchResult r good bad) is p

-- the points and triangles of a reader that began at the first of its vertices are a mesh
pub is_whole : (d e : Declared) (vertices : ℕ) (ps : List Point) (ts : List FaceTriangle) → vertex_count d < 2 ^ 32 → vertices ≡ vertex_count d → length ps ≡ vertices → e ≡ d → All IsNear ps → All (IsWithinMesh e) ts
    → IsWhole (record { points = ps; triangles = ts })
is_whole d e vertices ps ts few start counted same near within =
    let size : length ps ≡ vertex_count e = counted ∙ start ∙ ap vertex_count (sym same) in
    record {
      few = omega (arith, few, counted, start);
      near = near;
      known = All-weaker (IsWithinMesh e) (λ triangle. All (λ corner. corner < length ps) triangle.corners)
          (λ triangle inside. subst (λ n. All (λ corner. corner < n) triangle.corners) (sym size) inside.corners) ts within;
    }
