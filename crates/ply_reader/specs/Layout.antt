-- Where the vertices and the faces stand in a body.
use Rattle.std.specs.Prelude.{ℕ, ◌+◌, ◌-◌, not, List, take, drop, slice_index_or}
use Rattle.std.specs.List.{prefix_len}
use Rattle.ply_reader.specs.declared.elements.Element.{Element}
use Rattle.ply_reader.specs.declared.elements.Role.{Role}
use Rattle.ply_reader.specs.declared.elements.Role.TheVariants.{Vertex, Face}
use Rattle.ply_reader.specs.declared.layouts.Layout.{Layout}
use Rattle.ply_reader.specs.declared.properties.Property.{Property}
use Rattle.ply_reader.specs.declared.properties.Part.TheVariants.{Indices}
use Rattle.ply_reader.specs.Declarations.{Declared, is_role, is_part, properties_of}

-- the number of the first element of a role
abbrev pub first_of : Role → Declared → ℕ
first_of role d = prefix_len (λ element. not (is_role role element.role)) d.elements

-- that element; there is one where it is asked for
abbrev pub no_element : Element
no_element = record { count = 0; first = 0; properties = 0; role = Vertex }

abbrev pub element_in : Role → Declared → Element
element_in role d = slice_index_or d.elements (first_of role d) no_element

-- the elements before the vertices, between the vertices and the faces, and behind the faces
abbrev pub before_vertices : Declared → List Element
before_vertices d = take (first_of Vertex d) d.elements

abbrev pub before_faces : Declared → List Element
before_faces d = take (first_of Face d - (first_of Vertex d + 1)) (drop (first_of Vertex d + 1) d.elements)

abbrev pub behind_faces : Declared → List Element
behind_faces d = drop (first_of Face d + 1) d.elements

-- the properties of a vertex
abbrev pub vertex_properties : Declared → List Property
vertex_properties d = properties_of d (element_in Vertex d)

-- the properties of a face before the list of its corners, and behind it
abbrev pub face_properties : Declared → List Property
face_properties d = properties_of d (element_in Face d)

abbrev pub list_place : List Property → ℕ
list_place properties = prefix_len (λ property. not (is_part Indices property.part)) properties

abbrev pub before_list : Declared → List Property
before_list d = take (list_place (face_properties d)) (face_properties d)

abbrev pub behind_list : Declared → List Property
behind_list d = drop (list_place (face_properties d) + 1) (face_properties d)

-- how many vertices and faces there are
abbrev pub vertex_count : Declared → ℕ
vertex_count d = (element_in Vertex d).count

abbrev pub face_count : Declared → ℕ
face_count d = (element_in Face d).count

-- all of this at once
abbrev pub layout_of : Declared → Layout
layout_of d = record {
  vertex_at = first_of Vertex d;
  face_at = first_of Face d;
  list_at = list_place (face_properties d);
  vertex = element_in Vertex d;
  face = element_in Face d;
}
