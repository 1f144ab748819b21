-- A made text means its mesh.
use Rattle.std.proofs.Common.{◌≡◌, ℕ, ◌+◌, ◌^◌, ◌≤◌, Bool, List, [], ◌++◌, length, map, Result, Ok, refl, sym, ap, ◌∙◌, arith, append-nil}
use Rattle.std.specs.List.{flat_map, range_with_len}
use Rattle.std.proofs.lemmas.List.FromFn.{length-map-range_with_len}
use Rattle.svo_base.specs.declared.shapes.Point.{Point}
use Rattle.octree_specs.specs.PlainText.{plain_header, vertex_line}
use Rattle.ply_reader.specs.declared.fault.PlyFault.{PlyFault}
use Rattle.ply_reader.specs.Cursors.{Cursor, at}
use Rattle.ply_reader.specs.Declarations.{Declared}
use Rattle.ply_reader.specs.PlyMeaning.{Outcome, reach, body_rest, face_element_rest, faces_rest, vertices_rest, behind_rest, outcome_of, meaning_of, ended_at}
use Rattle.ply_reader.specs.Rows.{elements_passed}
use Rattle.mesh_laws.proofs.PlainBodies.{LinesRead, with_points, vertices_read, end_read}
use Rattle.mesh_laws.proofs.PlainHeaders.{plain_declared, header_read}
use Rattle.mesh_laws.proofs.PlainRows.{whole_scale}
use Rattle.mesh_laws.proofs.PlainTexts.{points_of, points_keep}
use Rattle.mesh_maker.specs.Laws.{MeanMadeMeshes}
use Rattle.mesh_maker.specs.MadeMeaning.{made_mesh, triangles_at}
use Rattle.mesh_maker.specs.MadeText.{made_text, made_body, made_vertices, made_vertex, made_faces, made_face, quad_line, vertex_total, face_total}
use Rattle.mesh_maker.proofs.MadeSizes.{all_near, few_vertices, few_faces, text_short}
use Rattle.mesh_maker.proofs.QuadRows.{with_quads, quads_read, quads_are, quads_keep}

-- the body, and the end of the text
body_read : (cut : Bool) (number side place : ℕ) → 1 ≤ side → side ≤ 1024 → place + length (made_body number side) ≤ 2 ^ 62
    → (size : ℕ) × (body_rest (whole_scale cut) (plain_declared (vertex_total side) (face_total side)) (at place (made_body number side))
    ≡ with_points (made_vertices number side) (with_quads side 0 (face_total side) (ended_at size)))
unfolding body_rest face_element_rest elements_passed made_body made_vertices made_faces
body_read cut number side place some few room =
    let v : ℕ = vertex_total side in
    let f : ℕ = face_total side in
    let d : Declared = plain_declared v f in
    let ps : List Point = map (made_vertex number side) (range_with_len 0 v) in
    let count : length ps ≡ v = length-map-range_with_len (made_vertex number side) 0 v in
    let more : List ℕ = flat_map quad_line (map (made_face side) (range_with_len 0 f)) in
    let then : Cursor → Outcome = face_element_rest d in
    let points : LinesRead (vertices_rest (whole_scale cut) d (length ps) then (at place (flat_map vertex_line ps ++ more))) (with_points ps) then (place + length (flat_map vertex_line ps ++ more)) more =
    vertices_read cut v f then ps place [] more (all_near number side 0 v few (omega arith)) refl room in
    let whole : points.white ++ more ≡ points.white ++ (more ++ []) = ap (λ l. points.white ++ l) (sym (append-nil more)) in
    let size : length (points.white ++ more) ≡ length (points.white ++ (more ++ [])) = ap length whole in
    let triangles : LinesRead (faces_rest d f (behind_rest d) (at points.place (points.white ++ (more ++ [])))) (with_quads side 0 f) (behind_rest d) (points.place + length (points.white ++ (more ++ []))) [] =
    quads_read side (behind_rest d) f 0 points.place points.white [] some (omega (arith, few_vertices side few)) (omega arith) points.blank (omega (arith, points.reached, room, size)) in
    let last : triangles.white ++ [] ≡ triangles.white = append-nil triangles.white in
    let left : length (triangles.white ++ []) ≡ length triangles.white = ap length last in (
      triangles.place + length triangles.white,
      ap (λ n. vertices_rest (whole_scale cut) d n then (at place (flat_map vertex_line ps ++ more))) (sym count)
          ∙ (points.read
          ∙ ap (with_points ps) (ap (λ l. faces_rest d f (behind_rest d) (at points.place l)) whole
          ∙ (triangles.read ∙ ap (with_quads side 0 f) (ap (λ l. behind_rest d (at triangles.place l)) last
          ∙ end_read v f triangles.place triangles.white triangles.blank (omega (arith, triangles.reached, points.reached, room, size, left)))))),
    )

given : (cut : Bool) (number side : ℕ) → 1 ≤ side → side ≤ 1024
    → (size : ℕ) × (outcome_of (whole_scale cut) (made_text number side) ≡ with_points (made_vertices number side) (with_quads side 0 (face_total side) (ended_at size)))
unfolding outcome_of made_text
given cut number side some few =
    let v : ℕ = vertex_total side in
    let f : ℕ = face_total side in
    let body : List ℕ = made_body number side in
    let room : length (plain_header v f ++ body) ≤ 2 ^ 62 = text_short number side some few in
    let header = header_read v f body (omega (arith, few_vertices side few)) (omega (arith, few_faces side few)) room in
    let rest = body_read cut number side header.place some few (omega (arith, header.reached, room)) in (
      rest.0,
      ap (λ (r : Result (Declared × Cursor) PlyFault). reach r (body_rest (whole_scale cut))) header.read ∙ rest.1,
    )

pub made_means : MeanMadeMeshes
unfolding made_mesh
made_means number side cut some few =
    let all = given cut number side some few in
    let f : ℕ = face_total side in
    let ps : List Point = made_vertices number side in
    let last : Outcome = with_quads side 0 f (ended_at all.0) in
    let o : Outcome = with_points ps last in
    let points : o.points ≡ ps = points_of ps last ∙ (ap (λ qs. ps ++ qs) (quads_keep side 0 f (ended_at all.0)).0 ∙ append-nil ps) in
    let triangles : o.triangles ≡ flat_map (triangles_at side) (range_with_len 0 f) = (points_keep ps last).0 ∙ quads_are side 0 f (ended_at all.0) refl in
    let ends : o.ends ≡ Ok all.0 = (points_keep ps last).1 ∙ (quads_keep side 0 f (ended_at all.0)).1 in
    ap (λ (outcome : Outcome). meaning_of outcome outcome.ends) all.1
    ∙ (ap (meaning_of o) ends ∙ (λ i. Ok (record { points = points i; triangles = triangles i })))
