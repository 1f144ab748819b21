-- The body of a plain text gives its vertices, and the triangle of each face.
use Rattle.std.proofs.Common.{◌≡◌, ℕ, zero, suc, ◌+◌, ◌-◌, ◌^◌, ◌<◌, ◌≤◌, Bool, true, false, cond, List, [], ◌∷◌, ◌++◌, length, map, Option, None, Some, Result, Ok, Err, inr, refl, sym, ap, subst, ◌∙◌, arith, append-nil, length-append, add-zero}
use Rattle.std.specs.Prelude.{codes, decimal, ◌==◌, All}
use Rattle.std.specs.List.{list_all, prefix_len, flat_map}
use Rattle.std.proofs.lemmas.Bool.Decides.{nat_tests}
use Rattle.std.proofs.lemmas.List.{append_assoc}
use Rattle.std.proofs.lemmas.List.Elements.{All-head, All-tail}
use Rattle.svo_base.specs.declared.shapes.Point.{Point}
use Rattle.octree_specs.specs.PlainText.{vertex_line, face_line, IsNear, IsTriple}
use Rattle.ply_text.specs.declared.fault.TextFault.{TextFault}
use Rattle.ply_text.specs.declared.run.Run.TheVariants.{Token, White}
use Rattle.ply_text.specs.Pieces.{belongs}
use Rattle.ply_text.specs.NextPieces.{next_place_of, room_at, sized}
use Rattle.ply_text.proofs.RunSizes.{run_size-near}
use Rattle.ply_reader.specs.declared.fault.PlyFault.{PlyFault}
use Rattle.ply_reader.specs.declared.fans.FaceTriangle.{FaceTriangle}
use Rattle.ply_reader.specs.Cursors.{Cursor, at}
use Rattle.ply_reader.specs.Layout.{vertex_properties}
use Rattle.ply_reader.specs.PlyMeaning.{Outcome, give_point, give_triangle, reach, ended_at, end_by, text_ended, behind_rest, vertices_rest, faces_rest, fan_rest, face_element_rest, body_rest}
use Rattle.ply_reader.specs.Rows.{vertex_row, origin, fan_opened, row_passed, elements_passed}
use Rattle.mesh_laws.proofs.NextTokens.{run_all}
use Rattle.mesh_laws.proofs.PlainHeaders.{plain_declared}
use Rattle.mesh_laws.proofs.PlainRows.{whole_scale, RowRead, vertex_read, fan_read, corner_taken, face_split}

-- ---- what is given

unfoldable pub with_points : List Point → Outcome → Outcome
with_points [] o = o
with_points (p ∷ ps) o = give_point p (with_points ps o)

unfoldable pub with_triangles : ℕ → List (List ℕ) → Outcome → Outcome
with_triangles number [] o = o
with_triangles number (face ∷ faces) o = give_triangle (record { face = number; corners = face }) (with_triangles (suc number) faces o)

-- steps that take all lines go on with white space alone before what follows
pub record LinesRead (start : Outcome) (gives : Outcome → Outcome) (then : Cursor → Outcome) (end : ℕ) (more : List ℕ) : Type 0 where
  pub place : ℕ
  pub white : List ℕ
  pub read : start ≡ gives (then (at place (white ++ more)))
  pub blank : list_all (belongs White) white ≡ true
  pub reached : place + length (white ++ more) ≡ end

-- ---- vertices

pub vertices_read : (cut : Bool) (v f : ℕ) (then : Cursor → Outcome) (ps : List Point) (place : ℕ) (white more : List ℕ) → All IsNear ps → list_all (belongs White) white ≡ true
    → place + length (white ++ (flat_map vertex_line ps ++ more)) ≤ 2 ^ 62
    → LinesRead (vertices_rest (whole_scale cut) (plain_declared v f) (length ps) then (at place (white ++ (flat_map vertex_line ps ++ more)))) (with_points ps) then (place + length (white ++ (flat_map vertex_line ps ++ more))) more
unfolding vertices_rest with_points belongs
vertices_read cut v f then [] place white more near blank room = record { place = place; white = white; read = refl; blank = blank; reached = refl }
vertices_read cut v f then (p ∷ ps) place white more near blank room =
    let behind : List ℕ = flat_map vertex_line ps ++ more in
    let text : white ++ ((vertex_line p ++ flat_map vertex_line ps) ++ more) ≡ white ++ (vertex_line p ++ behind) = ap (λ l. white ++ l) (append_assoc (vertex_line p) (flat_map vertex_line ps) more) in
    let long : length (white ++ ((vertex_line p ++ flat_map vertex_line ps) ++ more)) ≡ length (white ++ (vertex_line p ++ behind)) = ap length text in
    let row = vertex_read cut v f place white p behind (All-head IsNear p ps near) blank (omega (arith, room, long)) in
    let further : LinesRead (vertices_rest (whole_scale cut) (plain_declared v f) (length ps) then (at row.place (10 ∷ behind))) (with_points ps) then (row.place + suc (length behind)) more =
    vertices_read cut v f then ps row.place (10 ∷ []) more (All-tail IsNear p ps near) refl (omega (arith, row.reached, room, long)) in
    let go : Point → Cursor → Outcome = λ point c. give_point point (vertices_rest (whole_scale cut) (plain_declared v f) (length ps) then c) in
    record {
      place = further.place;
      white = further.white;
      read = ap (λ l. reach (vertex_row (whole_scale cut) (vertex_properties (plain_declared v f)) origin (at place l)) go) text
          ∙ (ap (λ r. reach r go) row.read ∙ ap (give_point p) further.read);
      blank = further.blank;
      reached = omega (arith, further.reached, row.reached, long);
    }

-- ---- faces

-- a face of three corners
pub record Triple (v : ℕ) (face : List ℕ) : Type 0 where
  pub i : ℕ
  pub j : ℕ
  pub k : ℕ
  pub is : face ≡ i ∷ j ∷ k ∷ []
  known_i : i < v
  known_j : j < v
  known_k : k < v

pub three_corners : (v : ℕ) (face : List ℕ) → IsTriple v face → Triple v face
three_corners v [] t = absurd (omega (arith, t.three))
three_corners v (i ∷ []) t = absurd (omega (arith, t.three))
three_corners v (i ∷ j ∷ []) t = absurd (omega (arith, t.three))
three_corners v (i ∷ j ∷ k ∷ []) t =
    let P : ℕ → Type 0 = λ corner. corner < v in
    let behind = All-tail P i (j ∷ k ∷ []) t.known in
    record { i = i; j = j; k = k; is = refl; known_i = All-head P i (j ∷ k ∷ []) t.known; known_j = All-head P j (k ∷ []) behind; known_k = All-head P k [] (All-tail P j (k ∷ []) behind) }
three_corners v (i ∷ j ∷ k ∷ l ∷ rest) t = absurd (omega (arith, t.three))

-- the row of a face gives its triangle
face_read : (v f number place : ℕ) (then : Cursor → Outcome) (white : List ℕ) (i j k : ℕ) (rest : List ℕ) → v < 2 ^ 32 → i < v → j < v → k < v → list_all (belongs White) white ≡ true
    → place + length (white ++ (face_line (i ∷ j ∷ k ∷ []) ++ rest)) ≤ 2 ^ 62
    → LinesRead (reach (fan_opened v [] (at place (white ++ (face_line (i ∷ j ∷ k ∷ []) ++ rest)))) (λ fan. fan_rest (plain_declared v f) number fan.first fan.last fan.left then))
    (give_triangle (record { face = number; corners = i ∷ j ∷ k ∷ [] })) then (place + length (white ++ (face_line (i ∷ j ∷ k ∷ []) ++ rest))) rest
unfolding fan_rest row_passed belongs
face_read v f number place then white i j k rest few known_i known_j known_k blank room =
    let third : List ℕ = 32 ∷ (decimal k ++ (10 ∷ rest)) in
    let both : List ℕ = 32 ∷ (decimal i ++ (32 ∷ (decimal j ++ third))) in
    let split : face_line (i ∷ j ∷ k ∷ []) ++ rest ≡ 51 ∷ both = face_split i j k rest in
    let long : length (white ++ (face_line (i ∷ j ∷ k ∷ []) ++ rest)) ≡ length (white ++ (51 ∷ both)) = ap (λ l. length (white ++ l)) split in
    let whole_size : length (white ++ (51 ∷ both)) ≡ length white + suc (length both) = length-append white (51 ∷ both) in
    let both_size : length both ≡ 1 + (length (decimal i) + (1 + (length (decimal j) + length third))) =
    ap suc (length-append (decimal i) (32 ∷ (decimal j ++ third)) ∙ ap (λ n. length (decimal i) + suc n) (length-append (decimal j) third)) ∙ omega arith in
    let third_size : length third ≡ 1 + (length (decimal k) + suc (length rest)) = ap suc (length-append (decimal k) (10 ∷ rest)) ∙ omega arith in
    let at_k : ℕ = place + (length white + 1) + (1 + length (decimal i)) + (1 + length (decimal j)) in
    let opened = fan_read v f place white i j third few known_i known_j blank refl (omega (arith, room, long)) in
    let last = corner_taken v at_k k (10 ∷ rest) known_k few refl (omega (arith, room, long, whole_size, both_size, third_size)) in
    record {
      place = at_k + (1 + length (decimal k));
      white = 10 ∷ [];
      read = ap (λ l. reach (fan_opened v [] (at place (white ++ l))) (λ fan. fan_rest (plain_declared v f) number fan.first fan.last fan.left then)) split ∙ rw (opened, last) refl;
      blank = refl;
      reached = omega (arith, long, whole_size, both_size, third_size);
    }

faces_read : (v f : ℕ) (then : Cursor → Outcome) (faces : List (List ℕ)) (number place : ℕ) (white more : List ℕ) → v < 2 ^ 32 → number + length faces ≡ f → All (IsTriple v) faces → list_all (belongs White) white ≡ true
    → place + length (white ++ (flat_map face_line faces ++ more)) ≤ 2 ^ 62
    → LinesRead (faces_rest (plain_declared v f) (length faces) then (at place (white ++ (flat_map face_line faces ++ more)))) (with_triangles number faces) then (place + length (white ++ (flat_map face_line faces ++ more))) more
unfolding faces_rest with_triangles
faces_read v f then [] number place white more few count triples blank room = record { place = place; white = white; read = refl; blank = blank; reached = refl }
faces_read v f then (face ∷ faces) number place white more few count triples blank room =
    let behind : List ℕ = flat_map face_line faces ++ more in
    let text : white ++ ((face_line face ++ flat_map face_line faces) ++ more) ≡ white ++ (face_line face ++ behind) = ap (λ l. white ++ l) (append_assoc (face_line face) (flat_map face_line faces) more) in
    let long : length (white ++ ((face_line face ++ flat_map face_line faces) ++ more)) ≡ length (white ++ (face_line face ++ behind)) = ap length text in
    let next : Cursor → Outcome = faces_rest (plain_declared v f) (length faces) then in
    let corners : Triple v face = three_corners v face (All-head (IsTriple v) face faces triples) in
    let P : List ℕ → Type 0 = λ l. place + length (white ++ (face_line l ++ behind)) ≤ 2 ^ 62
    → LinesRead (reach (fan_opened v [] (at place (white ++ (face_line l ++ behind)))) (λ fan. fan_rest (plain_declared v f) number fan.first fan.last fan.left next))
    (give_triangle (record { face = number; corners = l })) next (place + length (white ++ (face_line l ++ behind))) behind in
    let row = subst P (sym corners.is) (face_read v f number place next white corners.i corners.j corners.k behind few corners.known_i corners.known_j corners.known_k blank) (omega (arith, room, long)) in
    let further : LinesRead (next (at row.place (row.white ++ behind))) (with_triangles (suc number) faces) then (row.place + length (row.white ++ behind)) more =
    faces_read v f then faces (suc number) row.place row.white more few (omega (arith, count)) (All-tail (IsTriple v) face faces triples) row.blank (omega (arith, row.reached, room, long)) in
    let here : f - suc (length faces) ≡ number = omega (arith, count) in
    record {
      place = further.place;
      white = further.white;
      read = ap (λ l. reach (fan_opened v [] (at place l)) (λ fan. fan_rest (plain_declared v f) (f - suc (length faces)) fan.first fan.last fan.left next)) text
          ∙ (ap (λ n. reach (fan_opened v [] (at place (white ++ (face_line face ++ behind)))) (λ fan. fan_rest (plain_declared v f) n fan.first fan.last fan.left next)) here
          ∙ (row.read ∙ ap (give_triangle (record { face = number; corners = face })) further.read));
      blank = further.blank;
      reached = omega (arith, further.reached, row.reached, long);
    }

-- ---- the end

white_end : (place : ℕ) (white : List ℕ) → list_all (belongs White) white ≡ true → place + length white ≤ 2 ^ 62 → next_place_of place white ≡ Ok None
unfolding next_place_of
white_end place white blank room =
    let size : prefix_len (belongs White) white ≡ length white = ap (prefix_len (belongs White)) (sym (append-nil white)) ∙ (run_all (belongs White) white [] blank ∙ add-zero (length white)) in
    let end : (length white == length white) ≡ true = grind (arith, nat_tests) in
    let go : ℕ → Result (Option ℕ) TextFault = λ n. Ok (cond (n == length white) None (Some (place + n))) in
    ap (λ (r : Result ℕ TextFault). sized r go) (run_size-near White (room_at place) white (inr (omega (arith, room))) ∙ ap (λ (n : ℕ). Ok n) size) ∙ rw end refl

pub end_read : (v f place : ℕ) (white : List ℕ) → list_all (belongs White) white ≡ true → place + length white ≤ 2 ^ 62 → behind_rest (plain_declared v f) (at place white) ≡ ended_at (place + length white)
unfolding behind_rest text_ended elements_passed
end_read v f place white blank room = rw (white_end place white blank room) refl

-- the body, and the end of the text
pub body_read : (cut : Bool) (ps : List Point) (faces : List (List ℕ)) (place : ℕ) → length ps < 2 ^ 32 → All IsNear ps → All (IsTriple (length ps)) faces
    → place + length (flat_map vertex_line ps ++ flat_map face_line faces) ≤ 2 ^ 62
    → (size : ℕ) × (body_rest (whole_scale cut) (plain_declared (length ps) (length faces)) (at place (flat_map vertex_line ps ++ flat_map face_line faces)) ≡ with_points ps (with_triangles 0 faces (ended_at size)))
unfolding body_rest face_element_rest elements_passed
body_read cut ps faces place few near triples room =
    let v : ℕ = length ps in
    let f : ℕ = length faces in
    let more : List ℕ = flat_map face_line faces in
    let then : Cursor → Outcome = face_element_rest (plain_declared v f) in
    let points : LinesRead (vertices_rest (whole_scale cut) (plain_declared v f) v then (at place (flat_map vertex_line ps ++ more))) (with_points ps) then (place + length (flat_map vertex_line ps ++ more)) more =
    vertices_read cut v f then ps place [] more near refl room in
    let whole : points.white ++ more ≡ points.white ++ (more ++ []) = ap (λ l. points.white ++ l) (sym (append-nil more)) in
    let size : length (points.white ++ more) ≡ length (points.white ++ (more ++ [])) = ap length whole in
    let triangles : LinesRead (faces_rest (plain_declared v f) f (behind_rest (plain_declared v f)) (at points.place (points.white ++ (more ++ [])))) (with_triangles 0 faces) (behind_rest (plain_declared v f)) (points.place + length (points.white ++ (more ++ []))) [] =
    faces_read v f (behind_rest (plain_declared v f)) faces 0 points.place points.white [] few (omega arith) triples points.blank (omega (arith, points.reached, room, size)) in
    let last : triangles.white ++ [] ≡ triangles.white = append-nil triangles.white in
    let left : length (triangles.white ++ []) ≡ length triangles.white = ap length last in (
      triangles.place + length triangles.white,
      points.read
          ∙ ap (with_points ps) (ap (λ l. faces_rest (plain_declared v f) f (behind_rest (plain_declared v f)) (at points.place l)) whole
          ∙ (triangles.read ∙ ap (with_triangles 0 faces) (ap (λ l. behind_rest (plain_declared v f) (at triangles.place l)) last
          ∙ end_read v f triangles.place triangles.white triangles.blank (omega (arith, triangles.reached, points.reached, room, size, left))))),
    )
