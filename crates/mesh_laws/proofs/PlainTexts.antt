-- A text in the plain form means the mesh that it spells.
use Rattle.std.proofs.Common.{◌≡◌, ℕ, suc, ◌+◌, ◌^◌, ◌≤◌, Bool, List, [], ◌∷◌, ◌++◌, length, map, Result, Ok, refl, sym, ap, subst, ◌∙◌, arith, append-nil}
use Rattle.std.specs.Prelude.{All}
use Rattle.std.specs.List.{flat_map}
use Rattle.std.proofs.lemmas.List.{append_assoc}
use Rattle.std.proofs.lemmas.List.Elements.{All-head, All-tail}
use Rattle.svo_base.specs.declared.shapes.Point.{Point}
use Rattle.octree_specs.specs.FacedTriangles.{faced_triangles, faced_from}
use Rattle.octree_specs.specs.Mesh.{Mesh}
use Rattle.octree_specs.specs.PlainText.{plain_text, plain_header, vertex_line, face_line, IsPlainText, IsTriple}
use Rattle.ply_reader.specs.declared.fault.PlyFault.{PlyFault}
use Rattle.ply_reader.specs.declared.fans.FaceTriangle.{FaceTriangle}
use Rattle.ply_reader.specs.Cursors.{Cursor, at}
use Rattle.ply_reader.specs.Declarations.{Declared}
use Rattle.ply_reader.specs.HeaderSteps.{whole_header}
use Rattle.ply_reader.specs.PlyMeaning.{Outcome, PlyMesh, reach, body_rest, outcome_of, meaning_of, ended_at}
use Rattle.mesh_laws.specs.Laws.{Means}
use Rattle.mesh_laws.specs.Meshes.{faced_of, faced_at}
use Rattle.mesh_laws.proofs.PlainBodies.{with_points, with_triangles, three_corners, body_read}
use Rattle.mesh_laws.proofs.PlainHeaders.{header_read}
use Rattle.mesh_laws.proofs.PlainRows.{whole_scale}

-- ---- what was given

pub points_of : (ps : List Point) (o : Outcome) → (with_points ps o).points ≡ ps ++ o.points
unfolding with_points
points_of [] o = refl
points_of (p ∷ ps) o = ap (λ qs. p ∷ qs) (points_of ps o)

pub points_keep : (ps : List Point) (o : Outcome) → ((with_points ps o).triangles ≡ o.triangles) × ((with_points ps o).ends ≡ o.ends)
unfolding with_points
points_keep [] o = (refl, refl)
points_keep (p ∷ ps) o = points_keep ps o

numbered : ℕ → List (List ℕ) → List FaceTriangle
numbered number [] = []
numbered number (face ∷ faces) = record { face = number; corners = face } ∷ numbered (suc number) faces

triangles_of : (number : ℕ) (faces : List (List ℕ)) (o : Outcome) → o.triangles ≡ [] → (with_triangles number faces o).triangles ≡ numbered number faces
unfolding with_triangles numbered
triangles_of number [] o none = none
triangles_of number (face ∷ faces) o none = ap (λ ts. record { face = number; corners = face } ∷ ts) (triangles_of (suc number) faces o none)

triangles_keep : (number : ℕ) (faces : List (List ℕ)) (o : Outcome) → ((with_triangles number faces o).points ≡ o.points) × ((with_triangles number faces o).ends ≡ o.ends)
unfolding with_triangles
triangles_keep number [] o = (refl, refl)
triangles_keep number (face ∷ faces) o = triangles_keep (suc number) faces o

-- the triangles with their faces
faced_numbered : (ps : List Point) (number : ℕ) (faces : List (List ℕ)) → All (IsTriple (length ps)) faces → map (faced_at ps) (numbered number faces) ≡ faced_from ps number faces
unfolding numbered
faced_numbered ps number [] triples = refl
faced_numbered ps number (face ∷ faces) triples =
    let corners = three_corners (length ps) face (All-head (IsTriple (length ps)) face faces triples) in
    let next : suc number ≡ number + 1 = omega arith in
    let later : map (faced_at ps) (numbered (suc number) faces) ≡ faced_from ps (number + 1) faces =
    faced_numbered ps (suc number) faces (All-tail (IsTriple (length ps)) face faces triples) ∙ ap (λ n. faced_from ps n faces) next in
    let P : List ℕ → Type 0 = λ f. map (faced_at ps) (record { face = number; corners = f } ∷ numbered (suc number) faces) ≡ faced_from ps number (f ∷ faces) in
    subst P (sym corners.is) (ap (λ fs. faced_at ps (record { face = number; corners = corners.i ∷ corners.j ∷ corners.k ∷ [] }) ∷ fs) later)

-- ---- the text

given : (cut : Bool) (mesh : Mesh) (text : List ℕ) → IsPlainText text mesh
    → (size : ℕ) × (outcome_of (whole_scale cut) text ≡ with_points mesh.vertices (with_triangles 0 mesh.faces (ended_at size)))
unfolding outcome_of plain_text
given cut mesh text plain =
    let v : ℕ = length mesh.vertices in
    let f : ℕ = length mesh.faces in
    let body : List ℕ = flat_map vertex_line mesh.vertices ++ flat_map face_line mesh.faces in
    let same : text ≡ plain_header v f ++ body = plain.spelled ∙ append_assoc (plain_header v f) (flat_map vertex_line mesh.vertices) (flat_map face_line mesh.faces) in
    let size : length text ≡ length (plain_header v f ++ body) = ap length same in
    let header = header_read v f body plain.within.vertex_count plain.within.face_count (omega (arith, plain.short, size)) in
    let rest = body_read cut mesh.vertices mesh.faces header.place plain.within.vertex_count plain.within.vertices plain.within.faces (omega (arith, header.reached, plain.short, size)) in (
      rest.0,
      ap (λ l. reach (whole_header (at 0 l)) (body_rest (whole_scale cut))) same
          ∙ (ap (λ (r : Result (Declared × Cursor) PlyFault). reach r (body_rest (whole_scale cut))) header.read ∙ rest.1),
    )

pub plain_means : (cut : Bool) (text : List ℕ) (mesh : Mesh) → IsPlainText text mesh → Means cut text mesh
unfolding faced_of faced_triangles
plain_means cut text mesh plain =
    let all = given cut mesh text plain in
    let last : Outcome = with_triangles 0 mesh.faces (ended_at all.0) in
    let o : Outcome = with_points mesh.vertices last in
    let points : o.points ≡ mesh.vertices = points_of mesh.vertices last ∙ (ap (λ qs. mesh.vertices ++ qs) (triangles_keep 0 mesh.faces (ended_at all.0)).0 ∙ append-nil mesh.vertices) in
    let triangles : o.triangles ≡ numbered 0 mesh.faces = (points_keep mesh.vertices last).0 ∙ triangles_of 0 mesh.faces (ended_at all.0) refl in
    let ends : o.ends ≡ Ok all.0 = (points_keep mesh.vertices last).1 ∙ (triangles_keep 0 mesh.faces (ended_at all.0)).1 in
    record {
      found = record { points = o.points; triangles = o.triangles };
      meaning = ap (λ (outcome : Outcome). meaning_of outcome outcome.ends) all.1 ∙ ap (meaning_of o) ends;
      points = points;
      triangles =
          ap (λ qs. map (faced_at qs) o.triangles) points
          ∙ (ap (map (faced_at mesh.vertices)) triangles ∙ faced_numbered mesh.vertices 0 mesh.faces plain.within.faces);
    }
