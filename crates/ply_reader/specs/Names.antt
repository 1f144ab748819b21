-- The names that a header line may have.
use Rattle.std.specs.Prelude.{ℕ, Bool, true, false, ◌||◌, if◌then◌else◌, List, [], ◌∷◌, Option, None, Some, codes}
use Rattle.std.specs.Str.{bytes_eq}
use Rattle.ply_reader.specs.declared.elements.Role.{Role}
use Rattle.ply_reader.specs.declared.elements.Role.TheVariants.{Vertex, Face}
use Rattle.ply_reader.specs.declared.properties.Scalar.{Scalar}
use Rattle.ply_reader.specs.declared.properties.Scalar.TheVariants.{Int8, UInt8, Int16, UInt16, Int32, UInt32, Float32, Float64}
use Rattle.ply_reader.specs.declared.properties.Part.{Part}
use Rattle.ply_reader.specs.declared.properties.Part.TheVariants.{X, Y, Z, Indices}
use Rattle.ply_reader.specs.declared.names.Keyword.{Keyword}
use Rattle.ply_reader.specs.declared.names.Keyword.TheVariants.{Blank, Comment, Format, NewElement, NewProperty, EndHeader, Unknown}
use Rattle.ply_reader.specs.declared.elements.Role.TheVariants as roles
use Rattle.ply_reader.specs.declared.properties.Part.TheVariants as parts

abbrev pub is_either : List ℕ → List ℕ → List ℕ → Bool
is_either word a b = bytes_eq word a || bytes_eq word b

-- the scalar type of a name
unfoldable pub scalar_of : List ℕ → Option Scalar
scalar_of name =
    if is_either name (codes "char") (codes "int8") then Some Int8 else
    if is_either name (codes "uchar") (codes "uint8") then Some UInt8 else
    if is_either name (codes "short") (codes "int16") then Some Int16 else
    if is_either name (codes "ushort") (codes "uint16") then Some UInt16 else
    if is_either name (codes "int") (codes "int32") then Some Int32 else
    if is_either name (codes "uint") (codes "uint32") then Some UInt32 else
    if is_either name (codes "float") (codes "float32") then Some Float32 else
    if is_either name (codes "double") (codes "float64") then Some Float64 else
    None

-- the scalar types of whole numbers
abbrev pub is_whole_type : Scalar → Bool
is_whole_type Int8 = true
is_whole_type UInt8 = true
is_whole_type Int16 = true
is_whole_type UInt16 = true
is_whole_type Int32 = true
is_whole_type UInt32 = true
is_whole_type Float32 = false
is_whole_type Float64 = false

-- what an element of a name is
unfoldable pub role_of : List ℕ → Role
role_of name =
    if bytes_eq name (codes "vertex") then Vertex else
    if bytes_eq name (codes "face") then Face else
    roles.Other

-- what a property of a name is in a vertex
abbrev pub coordinate_of : List ℕ → Part
coordinate_of name =
    if bytes_eq name (codes "x") then X else
    if bytes_eq name (codes "y") then Y else
    if bytes_eq name (codes "z") then Z else
    parts.Other

-- and in any element
unfoldable pub part_of : Role → List ℕ → Part
part_of Vertex name = coordinate_of name
part_of Face name = if is_either name (codes "vertex_indices") (codes "vertex_index") then Indices else parts.Other
part_of roles.Other name = parts.Other

-- what a line is about, by its first word
unfoldable pub keyword_of : List (List ℕ) → Keyword
keyword_of [] = Blank
keyword_of (first ∷ _) =
    if is_either first (codes "comment") (codes "obj_info") then Comment else
    if bytes_eq first (codes "format") then Format else
    if bytes_eq first (codes "element") then NewElement else
    if bytes_eq first (codes "property") then NewProperty else
    if bytes_eq first (codes "end_header") then EndHeader else
    Unknown
