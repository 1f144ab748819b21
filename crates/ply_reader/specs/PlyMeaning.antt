-- What a mesh text means: a mesh, or its first refusal.
use Rattle.std.specs.Prelude.{ℕ, zero, suc, ◌+◌, ◌-◌, List, [], ◌∷◌, length, Option, None, Some, Result, Ok, Err}
use Rattle.svo_base.specs.declared.shapes.Point.{Point}
use Rattle.ply_text.specs.declared.fault.TextFault.{TextFault}
use Rattle.ply_text.specs.NextPieces.{next_place_of}
use Rattle.ply_reader.specs.declared.fault.PlyFault.{PlyFault}
use Rattle.ply_reader.specs.declared.fault.PlyFault.TheVariants.{Refused}
use Rattle.ply_reader.specs.declared.fault.PlyKind.TheVariants.{TrailingData}
use Rattle.ply_reader.specs.declared.fans.FaceTriangle.{FaceTriangle}
use Rattle.ply_reader.specs.declared.scales.Scale.{Scale}
use Rattle.ply_reader.specs.Declarations.{Declared}
use Rattle.ply_reader.specs.Layout.{before_vertices, before_faces, behind_faces, vertex_properties, before_list, behind_list, vertex_count, face_count}
use Rattle.ply_reader.specs.Cursors.{Cursor, Step, at, onward, done, ply_fault}
use Rattle.ply_reader.specs.Rows.{row_passed, elements_passed, vertex_row, origin, corner, fan_opened}
use Rattle.ply_reader.specs.HeaderSteps.{whole_header}

-- the points and triangles of a text up to its end, with the text's length, or up to its first refusal
pub record Outcome : Type 0 where
  pub points : List Point
  pub triangles : List FaceTriangle
  pub ends : Result ℕ PlyFault

abbrev pub stopped_by : PlyFault → Outcome
stopped_by fault = record { points = []; triangles = []; ends = Err fault }

abbrev pub ended_at : ℕ → Outcome
ended_at size = record { points = []; triangles = []; ends = Ok size }

-- one more in front
abbrev pub give_point : Point → Outcome → Outcome
give_point point o = record { points = point ∷ o.points; triangles = o.triangles; ends = o.ends }

abbrev pub give_triangle : FaceTriangle → Outcome → Outcome
give_triangle triangle o = record { points = o.points; triangles = triangle ∷ o.triangles; ends = o.ends }

-- a step, and what follows it
abbrev pub reach : {A : Type 0} → Result (A × Cursor) PlyFault → (A → Cursor → Outcome) → Outcome
reach (Ok found) next = next found.0 found.1
reach (Err fault) next = stopped_by fault

-- only white space may follow the last element; the text then ends at its length
abbrev pub end_by : Cursor → Result (Option ℕ) TextFault → Result (ℕ × Cursor) PlyFault
end_by c (Err fault) = Err (ply_fault fault)
end_by c (Ok (Some place)) = Err (Refused TrailingData place)
end_by c (Ok None) = Ok (c.place + length c.text, at (c.place + length c.text) [])

unfoldable pub text_ended : Step ℕ
text_ended c = end_by c (next_place_of c.place c.text)

abbrev pub text_end : Cursor → Outcome
text_end c = reach (text_ended c) (λ size _. ended_at size)

-- the elements behind the faces, and the end
unfoldable pub behind_rest : Declared → Cursor → Outcome
behind_rest d c = reach (elements_passed d (behind_faces d) c) (λ _. text_end)

-- the triangles of a face: each further corner makes one with the first corner and the one before it
unfoldable pub fan_rest : Declared → ℕ → ℕ → ℕ → ℕ → (Cursor → Outcome) → Cursor → Outcome
fan_rest d face first last zero then c = reach (row_passed (behind_list d) c) (λ _. then)
fan_rest d face first last (suc left) then c =
    reach (corner (vertex_count d) c) (λ next c.
    give_triangle (record { face = face; corners = first ∷ last ∷ next ∷ [] }) (fan_rest d face first next left then c))

-- so many faces, the last ones of all
unfoldable pub faces_rest : Declared → ℕ → (Cursor → Outcome) → Cursor → Outcome
faces_rest d zero then c = then c
faces_rest d (suc left) then c =
    reach (fan_opened (vertex_count d) (before_list d) c) (λ fan.
    fan_rest d (face_count d - suc left) fan.first fan.last fan.left (faces_rest d left then))

-- so many vertices
unfoldable pub vertices_rest : Scale → Declared → ℕ → (Cursor → Outcome) → Cursor → Outcome
vertices_rest scale d zero then c = then c
vertices_rest scale d (suc left) then c =
    reach (vertex_row scale (vertex_properties d) origin c) (λ point c. give_point point (vertices_rest scale d left then c))

-- the faces, where the elements before them are still to be passed, and where they were passed
unfoldable pub face_element_rest : Declared → Cursor → Outcome
face_element_rest d c = reach (elements_passed d (before_faces d) c) (λ _. faces_rest d (face_count d) (behind_rest d))

-- the elements in their order: those before the vertices, the vertices, those between, the faces, those behind
unfoldable pub body_rest : Scale → Declared → Cursor → Outcome
body_rest scale d c =
    reach (elements_passed d (before_vertices d) c) (λ _. vertices_rest scale d (vertex_count d) (face_element_rest d))

-- the header, and the elements before the vertices
unfoldable pub vertices_reached : Step Declared
vertices_reached c = onward (whole_header c) (λ d c. onward (elements_passed d (before_vertices d) c) (λ _. done d))

unfoldable pub outcome_of : Scale → List ℕ → Outcome
outcome_of scale text = reach (whole_header (at 0 text)) (body_rest scale)

-- a mesh as its text gives it
pub record PlyMesh : Type 0 where
  pub points : List Point
  pub triangles : List FaceTriangle

abbrev pub meaning_of : Outcome → Result ℕ PlyFault → Result PlyMesh PlyFault
meaning_of o (Ok size) = Ok (record { points = o.points; triangles = o.triangles })
meaning_of o (Err fault) = Err fault

-- the mesh of a text at a scale, or the text's first refusal
abbrev pub ply_meaning : Scale → List ℕ → Result PlyMesh PlyFault
ply_meaning scale text = meaning_of (outcome_of scale text) (outcome_of scale text).ends
