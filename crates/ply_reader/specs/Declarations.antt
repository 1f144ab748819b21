-- What the header lines that were taken declare.
use Rattle.std.specs.Prelude.{ℕ, ◌+◌, ◌-◌, Bool, false, ◌||◌, ◌==◌, List, [], ◌∷◌, ◌++◌, length, take, drop, slice_get, Option, None, Some}
use Rattle.std.specs.List.{list_any}
use Rattle.ply_reader.specs.declared.elements.Element.{Element}
use Rattle.ply_reader.specs.declared.elements.Role.{Role}
use Rattle.ply_reader.specs.declared.elements.Role.TheVariants.{Vertex, Face, Other}
use Rattle.ply_reader.specs.declared.properties.Property.{Property}
use Rattle.ply_reader.specs.declared.properties.Part.{Part}
use Rattle.ply_reader.specs.declared.properties.Part.TheVariants.{X, Y, Z, Indices}
use Rattle.ply_reader.specs.declared.properties.Part.TheVariants as parts
use Rattle.ply_reader.specs.declared.header.Header.{Header}

-- the first line was taken; the format was said; the elements and, of all of them, the properties
pub record Declared : Type 0 where
  pub begun : Bool
  pub format : Bool
  pub elements : List Element
  pub properties : List Property

abbrev pub declared : Header → Declared
declared header =
    record { begun = header.begun; format = header.format; elements = header.elements.items; properties = header.properties.items }

abbrev pub nothing_declared : Declared
nothing_declared = record { begun = false; format = false; elements = []; properties = [] }

-- roles and parts are told apart by numbers
abbrev pub role_number : Role → ℕ
role_number Vertex = 0
role_number Face = 1
role_number Other = 2

abbrev pub part_number : Part → ℕ
part_number X = 0
part_number Y = 1
part_number Z = 2
part_number Indices = 3
part_number parts.Other = 4

abbrev pub is_role : Role → Role → Bool
is_role a b = role_number a == role_number b

abbrev pub is_part : Part → Part → Bool
is_part a b = part_number a == part_number b

abbrev pub is_coordinate : Part → Bool
is_coordinate part = is_part X part || is_part Y part || is_part Z part

-- an element of this role was declared
abbrev pub has_role : Role → Declared → Bool
has_role role d = list_any (λ element. is_role role element.role) d.elements

-- a property that is this part was declared
abbrev pub has_part : Part → Declared → Bool
has_part part d = list_any (λ property. is_part part property.part) d.properties

-- the role of the element that was declared last
abbrev pub role_in : Option Element → Role
role_in None = Other
role_in (Some element) = element.role

abbrev pub last_role : Declared → Role
last_role d = role_in (slice_get d.elements (length d.elements - 1))

-- a further element, and a further property of the last one
abbrev pub with_element : Declared → Element → Declared
with_element d element = record { begun = d.begun; format = d.format; elements = d.elements ++ element ∷ []; properties = d.properties }

abbrev pub one_more : Element → Element
one_more element = record { count = element.count; first = element.first; properties = element.properties + 1; role = element.role }

abbrev pub with_last : List Element → Option Element → List Element
with_last elements None = elements
with_last elements (Some last) = take (length elements - 1) elements ++ one_more last ∷ []

abbrev pub with_property : Declared → Property → Declared
with_property d property = record {
  begun = d.begun;
  format = d.format;
  elements = with_last d.elements (slice_get d.elements (length d.elements - 1));
  properties = d.properties ++ property ∷ [];
}

-- the properties of an element
abbrev pub properties_of : Declared → Element → List Property
properties_of d element = take element.properties (drop element.first d.properties)
