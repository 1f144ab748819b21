-- The rows of elements: their properties in order, a scalar as one token, a list as its count and as many tokens.
use Rattle.std.specs.Prelude.{ℕ, zero, suc, ◌-◌, ◌^◌, if◌then◌else◌, List, [], ◌∷◌, Option, None, Some, ℤ, pos, ⊤}
use Rattle.svo_base.specs.declared.shapes.Point.{Point}
use Rattle.ply_reader.specs.declared.fault.PlyKind.TheVariants.{BadCount, BadIndex}
use Rattle.ply_reader.specs.declared.elements.Element.{Element}
use Rattle.ply_reader.specs.declared.properties.Property.{Property}
use Rattle.ply_reader.specs.declared.properties.Scalar.{Scalar}
use Rattle.ply_reader.specs.declared.properties.Part.{Part}
use Rattle.ply_reader.specs.declared.properties.Part.TheVariants.{X, Y, Z, Indices, Other}
use Rattle.ply_reader.specs.declared.scales.Scale.{Scale}
use Rattle.ply_reader.specs.declared.fans.Fan.{Fan}
use Rattle.ply_reader.specs.Declarations.{Declared, properties_of, is_coordinate}
use Rattle.ply_reader.specs.Cursors.{Step, onward, done, taken}
use Rattle.ply_reader.specs.TokenValues.{unread, whole_in, coordinate}

-- so many tokens are passed
unfoldable pub passed : ℕ → Step ⊤
passed zero c = done tt c
passed (suc n) c = onward (taken unread c) (λ _. passed n)

-- a list is passed
unfoldable pub list_passed : Step ⊤
list_passed c = onward (taken (whole_in BadCount 0 (2 ^ 32)) c) passed

-- a property is passed
abbrev pub counted_passed : Option Scalar → Step ⊤
counted_passed None c = taken unread c
counted_passed (Some counts) c = list_passed c

unfoldable pub property_passed : Property → Step ⊤
property_passed property c = counted_passed property.counts c

-- a row is passed
unfoldable pub row_passed : List Property → Step ⊤
row_passed [] c = done tt c
row_passed (property ∷ behind) c = onward (property_passed property c) (λ _. row_passed behind)

-- so many rows
unfoldable pub rows_passed : List Property → ℕ → Step ⊤
rows_passed properties zero c = done tt c
rows_passed properties (suc n) c = onward (row_passed properties c) (λ _. rows_passed properties n)

-- elements, each as often as its count says
unfoldable pub elements_passed : Declared → List Element → Step ⊤
elements_passed d [] c = done tt c
elements_passed d (element ∷ behind) c = onward (rows_passed (properties_of d element) element.count c) (λ _. elements_passed d behind)

-- a point with one coordinate put in
abbrev pub with_x : Point → ℤ → Point
with_x point n = record { x = n; y = point.y; z = point.z }

abbrev pub with_y : Point → ℤ → Point
with_y point n = record { x = point.x; y = n; z = point.z }

abbrev pub with_z : Point → ℤ → Point
with_z point n = record { x = point.x; y = point.y; z = n }

abbrev pub origin : Point
origin = record { x = pos 0; y = pos 0; z = pos 0 }

abbrev pub with_part : Part → Point → ℤ → Point
with_part X point n = with_x point n
with_part Y point n = with_y point n
with_part Z point n = with_z point n
with_part Indices point n = point
with_part Other point n = point

-- a property of a vertex is taken
unfoldable pub coordinate_taken : Scale → Property → Point → Step Point
coordinate_taken scale property point c =
    if is_coordinate property.part then onward (taken (coordinate scale) c) (λ n. done (with_part property.part point n))
    else onward (property_passed property c) (λ _. done point)

-- the row of a vertex
unfoldable pub vertex_row : Scale → List Property → Point → Step Point
vertex_row scale [] point c = done point c
vertex_row scale (property ∷ behind) point c = onward (coordinate_taken scale property point c) (λ next. vertex_row scale behind next)

-- the number of a corner
abbrev pub corner : ℕ → Step ℕ
corner vertices = taken (whole_in BadIndex 0 vertices)

-- a fan that begins with two corners of so many
abbrev pub fan_of : ℕ → ℕ → ℕ → Fan
fan_of count first last = record { first = first; last = last; left = count - 2 }

-- the row of a face up to the second corner of its list; `front` are the properties before the list
unfoldable pub fan_opened : ℕ → List Property → Step Fan
fan_opened vertices front c =
    onward (row_passed front c) (λ _ c.
    onward (taken (whole_in BadCount 3 256) c) (λ count c.
    onward (corner vertices c) (λ first c.
    onward (corner vertices c) (λ last. done (fan_of count first last)))))
