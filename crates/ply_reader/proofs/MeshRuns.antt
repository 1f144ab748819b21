-- Calls that take items off what is left of a mesh.
use Rattle.std.proofs.Common.{◌≡◌, ℕ, suc, ◌-◌, true, false, List, [], ◌∷◌, refl, sym, ap, ◌∙◌, subst, None, Some, Result, Ok, Err, MatchResult, le_trans, le_refl}
use Rattle.std.specs.Prelude.{⊤}
use Rattle.std.specs.Result.{IsErr, IsErrAnd}
use Rattle.ply_text.specs.Reading.{Reading}
use Rattle.ply_reader.specs.declared.fault.PlyFault.{PlyFault}
use Rattle.ply_reader.specs.declared.fault.PlyFault.TheVariants.{ReadFault}
use Rattle.ply_reader.specs.declared.fans.Fan.{Fan}
use Rattle.ply_reader.specs.declared.scales.Scale.{Scale}
use Rattle.ply_reader.specs.Declarations.{Declared, nothing_declared}
use Rattle.ply_reader.specs.Layout.{before_vertices, before_faces, behind_faces, behind_list, before_list, vertex_properties, vertex_count, face_count}
use Rattle.ply_reader.specs.Cursors.{Cursor, Step, at, onward, done}
use Rattle.ply_reader.specs.Rows.{row_passed, elements_passed, vertex_row, origin, corner, fan_opened}
use Rattle.ply_reader.specs.PlyMeaning.{Outcome, stopped_by, give_point, give_triangle, reach, behind_rest, fan_rest, faces_rest, vertices_rest, face_element_rest, text_end, text_ended, ended_at, body_rest, vertices_reached}
use Rattle.ply_reader.specs.HeaderSteps.{whole_header}
use Rattle.ply_reader.specs.Runs.{Gives, Runs}
use Rattle.ply_reader.specs.MeshCalls.{BodyReading, begun_rest, waiting_rest, rest_of, SameHeader, MeshRun, give_nothing, give_end, start_of, Begins}
use Rattle.ply_reader.proofs.Steps.{rose_later, err_is, runs_given}

-- a call that changes nothing
pub run_nothing : {A : Type 0} (give : A → Outcome → Outcome) (r : BodyReading) (x : A) → r.text.stopped ≡ None → ((o : Outcome) → give x o ≡ o) → MeshRun give r r (Ok x)
run_nothing give r x free same = record {
  same = record { scale = refl; header = refl };
  later = le_refl r.text.faults;
  failed = λ bad. absurd (cc bad);
  free = free;
  reached = tt;
  stands = λ text stands. stands;
  told = λ text told _. (text, told, sym (same (rest_of r text)));
}

-- a step was taken: what was left is the step and what follows it, and what is left now follows it
pub run_step : {A B : Type 0} (give : B → Outcome → Outcome) (step : Step A) (next : A → Cursor → Outcome) (old new : BodyReading) (x : A) (y : B) → SameHeader old new
    → Runs step old.text new.text (Ok x) → ((text : List ℕ) → rest_of old text ≡ reach (step (at old.text.place text)) next)
    → ((rest : List ℕ) → next x (at new.text.place rest) ≡ give y (rest_of new rest)) → MeshRun give old new (Ok y)
run_step give step next old new x y same runs begins goes = record {
  same = same;
  later = runs.later;
  failed = λ bad. absurd (cc bad);
  free = runs.free;
  reached = tt;
  stands = runs.stands;
  told = λ text told _.
      let after = runs.told text told (λ e. cc e) in
      (after.0, after.1, begins text ∙ ap (λ r. reach r next) after.2 ∙ goes after.0);
}

-- a step was refused
pub run_stops : {A B : Type 0} (give : B → Outcome → Outcome) (step : Step A) (next : A → Cursor → Outcome) (old new : BodyReading) (fault : PlyFault) → SameHeader old new
    → Runs step old.text new.text (Err fault) → ((text : List ℕ) → rest_of old text ≡ reach (step (at old.text.place text)) next) → MeshRun give old new (Err fault)
run_stops give step next old new fault same runs begins = record {
  same = same;
  later = runs.later;
  failed = λ bad. let is : fault ≡ ReadFault = cc bad in runs.failed (ap Err is);
  free = tt;
  reached = runs.reached;
  stands = runs.stands;
  told = λ text told ok. begins text ∙ ap (λ r. reach r next) (runs.told text told (λ bad. let is : fault ≡ ReadFault = cc bad in ok (ap Err is)));
}

pub run_given : {A : Type 0} (give : A → Outcome → Outcome) (old new : BodyReading) (result other : Result A PlyFault) → result ≡ other → MeshRun give old new result → MeshRun give old new other
run_given give old new result other is run = subst (MeshRun give old new) is run

-- one call after another that gave nothing
pub run_then : {A B : Type 0} (give : B → Outcome → Outcome) (a b c : BodyReading) (x : A) (result : Result B PlyFault) → MeshRun give_nothing a b (Ok x) → MeshRun give b c result → MeshRun give a c result
run_then {B = B} give a b c x result first second = record {
  same = record { scale = second.same.scale ∙ first.same.scale; header = second.same.header ∙ first.same.header };
  later = le_trans first.later second.later;
  failed = λ bad. rose_later a.text.faults b.text.faults c.text.faults first.later (second.failed bad);
  free = second.free;
  reached = second.reached;
  stands = λ text stands. second.stands text (first.stands text stands);
  told = λ text told ok. let before = first.told text told (λ e. cc e) in told_then result before.0 before.2 (second.told before.0 before.1 ok);
}
  where
    told_then : (r : Result B PlyFault) (rest : List ℕ) {o : Outcome} → o ≡ rest_of b rest
        → MatchResult r (λ y. (rest' : List ℕ) × (c.text.left ≡ Some rest') × (rest_of b rest ≡ give y (rest_of c rest'))) (λ fault. rest_of b rest ≡ stopped_by fault)
        → MatchResult r (λ y. (rest' : List ℕ) × (c.text.left ≡ Some rest') × (o ≡ give y (rest_of c rest'))) (λ fault. o ≡ stopped_by fault)
    told_then (Ok y) rest is after = (after.0, after.1, is ∙ after.2)
    told_then (Err fault) rest is after = is ∙ after

-- a call that is refused refuses the whole
pub run_refused : {A B : Type 0} (give : B → Outcome → Outcome) (a b : BodyReading) (fault : PlyFault) → MeshRun {A = A} give_nothing a b (Err fault) → MeshRun give a b (Err fault)
run_refused give a b fault run = record {
  same = run.same;
  later = run.later;
  failed = λ bad. let is : fault ≡ ReadFault = cc bad in run.failed (ap Err is);
  free = tt;
  reached = run.reached;
  stands = run.stands;
  told = λ text told ok. run.told text told (λ bad. let is : fault ≡ ReadFault = cc bad in ok (ap Err is));
}

-- a vertex
pub vertex_left : (r : BodyReading) (n : ℕ) → r.vertices ≡ suc n → (text : List ℕ) → rest_of r text
    ≡ reach (vertex_row r.scale (vertex_properties r.header) origin (at r.text.place text)) (λ point c. give_point point (vertices_rest r.scale r.header n (waiting_rest r.header r.waits r.faces r.fan) c))
unfolding rest_of vertices_rest
vertex_left r n more text = ap (λ k. vertices_rest r.scale r.header k (waiting_rest r.header r.waits r.faces r.fan) (at r.text.place text)) more

-- no vertex
pub no_vertex_left : (r : BodyReading) → r.vertices ≡ 0 → (text : List ℕ) → rest_of r text ≡ waiting_rest r.header r.waits r.faces r.fan (at r.text.place text)
unfolding rest_of vertices_rest
no_vertex_left r none text = ap (λ k. vertices_rest r.scale r.header k (waiting_rest r.header r.waits r.faces r.fan) (at r.text.place text)) none

-- a call by `?` that was refused
pub run_fails : {A B : Type 0} (give : B → Outcome → Outcome) (step : Step A) (next : A → Cursor → Outcome) (old new : BodyReading) (called : Result A PlyFault) (fault : PlyFault) (last : Result B PlyFault)
    → SameHeader old new → called ≡ Err fault → Runs step old.text new.text called → IsErr last × IsErrAnd last (λ e. e ≡ fault)
    → ((text : List ℕ) → rest_of old text ≡ reach (step (at old.text.place text)) next) → MeshRun give old new last
run_fails give step next old new called fault last same was runs is begins =
    run_given give old new (Err fault) last (sym (err_is last fault is))
    (run_stops give step next old new fault same (runs_given step old.text new.text called (Err fault) was runs) begins)

-- a call by `?` that was refused, behind one that gave nothing
pub run_fails_behind : {A B : Type 0} (give : B → Outcome → Outcome) (a b c : BodyReading) (x : A) {C : Type 0} (called : Result C PlyFault) (fault : PlyFault) (last : Result B PlyFault)
    → MeshRun give_nothing a b (Ok x) → called ≡ Err fault → MeshRun {A = C} give_nothing b c called → IsErr last × IsErrAnd last (λ e. e ≡ fault) → MeshRun give a c last
run_fails_behind give a b c x called fault last first was second is =
    run_given give a c (Err fault) last (sym (err_is last fault is))
    (run_then give a b c x (Err fault) first (run_refused give b c fault (run_given give_nothing b c called (Err fault) was second)))

-- the elements before the faces
pub waits_left : (r : BodyReading) → r.vertices ≡ 0 → r.waits ≡ true → (text : List ℕ) → rest_of r text
    ≡ reach (elements_passed r.header (before_faces r.header) (at r.text.place text)) (λ _. faces_rest r.header (face_count r.header) (behind_rest r.header))
unfolding face_element_rest
waits_left r none waits text = no_vertex_left r none text ∙ ap (λ w. waiting_rest r.header w r.faces r.fan (at r.text.place text)) waits

pub begun_left : (r : BodyReading) → r.vertices ≡ 0 → r.waits ≡ false → (text : List ℕ) → rest_of r text ≡ begun_rest r.header r.faces r.fan (at r.text.place text)
begun_left r none passed text = no_vertex_left r none text ∙ ap (λ w. waiting_rest r.header w r.faces r.fan (at r.text.place text)) passed

-- a face whose corners were all read
pub closing_left : (r : BodyReading) (fan : Fan) → r.vertices ≡ 0 → r.waits ≡ false → r.fan ≡ Some fan → fan.left ≡ 0 → (text : List ℕ) → rest_of r text
    ≡ reach (row_passed (behind_list r.header) (at r.text.place text)) (λ _. faces_rest r.header r.faces (behind_rest r.header))
unfolding fan_rest
closing_left r fan none passed is empty text =
    let c = at r.text.place text in
    begun_left r none passed text ∙ ap (λ f. begun_rest r.header r.faces f c) is
    ∙ ap (λ k. fan_rest r.header (face_count r.header - suc r.faces) fan.first fan.last k (faces_rest r.header r.faces (behind_rest r.header)) c) empty

-- a face to begin
pub face_left : (r : BodyReading) (n : ℕ) → r.vertices ≡ 0 → r.waits ≡ false → r.fan ≡ None → r.faces ≡ suc n → (text : List ℕ) → rest_of r text
    ≡ reach (fan_opened (vertex_count r.header) (before_list r.header) (at r.text.place text)) (λ fan. begun_rest r.header n (Some fan))
unfolding faces_rest
face_left r n none passed is more text =
    let c = at r.text.place text in
    begun_left r none passed text ∙ ap (λ f. begun_rest r.header r.faces f c) is ∙ ap (λ k. faces_rest r.header k (behind_rest r.header) c) more

-- a corner
pub corner_left : (r : BodyReading) (fan : Fan) (n : ℕ) → r.vertices ≡ 0 → r.waits ≡ false → r.fan ≡ Some fan → fan.left ≡ suc n → (text : List ℕ) → rest_of r text
    ≡ reach (corner (vertex_count r.header) (at r.text.place text)) (λ next c.
    give_triangle (record { face = face_count r.header - suc r.faces; corners = fan.first ∷ fan.last ∷ next ∷ [] })
    (begun_rest r.header r.faces (Some (record { first = fan.first; last = next; left = n })) c))
unfolding fan_rest
corner_left r fan n none passed is more text =
    let c = at r.text.place text in
    begun_left r none passed text ∙ ap (λ f. begun_rest r.header r.faces f c) is
    ∙ ap (λ k. fan_rest r.header (face_count r.header - suc r.faces) fan.first fan.last k (faces_rest r.header r.faces (behind_rest r.header)) c) more

-- what stands behind the faces
pub end_left : (r : BodyReading) → r.vertices ≡ 0 → r.waits ≡ false → r.fan ≡ None → r.faces ≡ 0 → (text : List ℕ) → rest_of r text
    ≡ reach (elements_passed r.header (behind_faces r.header) (at r.text.place text)) (λ _. text_end)
unfolding faces_rest behind_rest
end_left r none passed is empty text =
    let c = at r.text.place text in
    begun_left r none passed text ∙ ap (λ f. begun_rest r.header r.faces f c) is ∙ ap (λ k. faces_rest r.header k (behind_rest r.header) c) empty

-- what is left of a body, taken apart
pub rest_is : (r : BodyReading) (rest : List ℕ) → vertices_rest r.scale r.header r.vertices (waiting_rest r.header r.waits r.faces r.fan) (at r.text.place rest) ≡ rest_of r rest
unfolding rest_of
rest_is r rest = refl

-- the end of a text
pub run_ends : {A : Type 0} (step : Step A) (old new : BodyReading) (result : Result ℕ PlyFault) → SameHeader old new
    → Runs (λ k. onward (step k) (λ _. text_ended)) old.text new.text result → ((text : List ℕ) → rest_of old text ≡ reach (step (at old.text.place text)) (λ _. text_end))
    → MeshRun give_end old new result
run_ends {A} step old new result same runs begins = record {
  same = same;
  later = runs.later;
  failed = runs.failed;
  free = runs.free;
  reached = runs.reached;
  stands = runs.stands;
  told = λ text told ok. of result (rest_of old text) (onward (step (at old.text.place text)) (λ _. text_ended)) (begins text ∙ joins (step (at old.text.place text))) (runs.told text told ok);
}
  where
    joins : (r : Result (A × Cursor) PlyFault) → reach r (λ _. text_end) ≡ reach (onward r (λ _. text_ended)) (λ size _. ended_at size)
    joins (Ok found) = refl
    joins (Err fault) = refl

    of : (r : Result ℕ PlyFault) (o : Outcome) (e : Result (ℕ × Cursor) PlyFault) → o ≡ reach e (λ size _. ended_at size) → Gives e new.text r
        → MatchResult r (λ size. (rest : List ℕ) × (new.text.left ≡ Some rest) × (o ≡ give_end size (rest_of new rest))) (λ fault. o ≡ stopped_by fault)
    of (Ok size) o e is gives = (gives.0, gives.1, is ∙ ap (λ r. reach r (λ size _. ended_at size)) gives.2)
    of (Err fault) o e is gives = is ∙ ap (λ r. reach r (λ size _. ended_at size)) gives

-- what a text gives, from its vertices on
body_joins : (scale : Scale) (d : Declared) (r : Result (⊤ × Cursor) PlyFault)
    → reach r (λ _. vertices_rest scale d (vertex_count d) (face_element_rest d)) ≡ reach (onward r (λ _. done d)) (λ e. vertices_rest scale e (vertex_count e) (face_element_rest e))
body_joins scale d (Ok found) = refl
body_joins scale d (Err fault) = refl

header_joins : (scale : Scale) (r : Result (Declared × Cursor) PlyFault)
    → reach r (body_rest scale) ≡ reach (onward r (λ d c. onward (elements_passed d (before_vertices d) c) (λ _. done d))) (λ e. vertices_rest scale e (vertex_count e) (face_element_rest e))
unfolding body_rest
header_joins scale (Ok found) = body_joins scale found.0 (elements_passed found.0 (before_vertices found.0) found.1)
header_joins scale (Err fault) = refl

pub from_vertices : (scale : Scale) (c : Cursor) → reach (whole_header c) (body_rest scale) ≡ reach (vertices_reached c) (λ e. vertices_rest scale e (vertex_count e) (face_element_rest e))
unfolding vertices_reached
from_vertices scale c = header_joins scale (whole_header c)

-- a reader begins at the vertices, or is stopped
pub begins_well : (scale : Scale) (d : Declared) (a b : Reading) (body : BodyReading) → body ≡ start_of b scale d → Runs vertices_reached a b (Ok d) → Begins scale a (record { body = body; stopped = None })
begins_well scale d a b body is runs = subst (λ r. Begins scale a (record { body = r; stopped = None })) (sym is) (record {
  start = refl;
  empty = tt;
  later = runs.later;
  failed = λ bad. absurd (cc bad);
  reached = tt;
  stands = runs.stands;
  told = λ text told _.
      let after = runs.told text told (λ e. cc e) in
      (after.0, after.1, from_vertices scale (at a.place text) ∙ ap (λ r. reach r (λ e. vertices_rest scale e (vertex_count e) (face_element_rest e))) after.2 ∙ rest_is (start_of b scale d) after.0);
})

pub begins_stopped : (scale : Scale) (d : Declared) (a b : Reading) (fault : PlyFault) (body : BodyReading) → d ≡ nothing_declared → body ≡ start_of b scale d → Runs vertices_reached a b (Err fault) → Begins scale a (record { body = body; stopped = Some fault })
begins_stopped scale d a b fault body nothing is runs = subst (λ r. Begins scale a (record { body = r; stopped = Some fault })) (sym is) (record {
  start = refl;
  empty = nothing;
  later = runs.later;
  failed = λ bad. let same : fault ≡ ReadFault = cc bad in runs.failed (ap Err same);
  reached = runs.reached;
  stands = runs.stands;
  told = λ text told ok.
      from_vertices scale (at a.place text) ∙ ap (λ r. reach r (λ e. vertices_rest scale e (vertex_count e) (face_element_rest e))) (runs.told text told (λ bad. let same : fault ≡ ReadFault = cc bad in ok (ap Some same)));
})
