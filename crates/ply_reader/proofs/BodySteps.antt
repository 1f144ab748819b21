-- What is left of the steps over vertices and faces.
use Rattle.std.proofs.Common.{◌≡◌, ℕ, if◌then◌else◌, true, false, List, [], ◌∷◌, refl, ap}
use Rattle.std.specs.Prelude.{⊤}
use Rattle.svo_base.specs.declared.shapes.Point.{Point}
use Rattle.ply_reader.specs.declared.properties.Property.{Property}
use Rattle.ply_reader.specs.declared.scales.Scale.{Scale}
use Rattle.ply_reader.specs.declared.fans.Fan.{Fan}
use Rattle.ply_reader.specs.declared.fault.PlyKind.TheVariants.{BadCount}
use Rattle.ply_reader.specs.Declarations.{is_coordinate}
use Rattle.ply_reader.specs.Cursors.{Cursor, Step, onward, done, taken}
use Rattle.ply_reader.specs.TokenValues.{whole_in, coordinate}
use Rattle.ply_reader.specs.Rows.{property_passed, row_passed, with_part, coordinate_taken, vertex_row, corner, fan_of, fan_opened}

-- a property of a vertex
pub is_taken : (scale : Scale) (property : Property) (point : Point) → is_coordinate property.part ≡ true → (c : Cursor)
    → coordinate_taken scale property point c ≡ onward (taken (coordinate scale) c) (λ n. done (with_part property.part point n))
unfolding coordinate_taken
is_taken scale property point is c =
    ap (λ b. if b then onward (taken (coordinate scale) c) (λ n. done (with_part property.part point n)) else onward (property_passed property c) (λ _. done point)) is

pub is_passed : (scale : Scale) (property : Property) (point : Point) → is_coordinate property.part ≡ false → (c : Cursor)
    → coordinate_taken scale property point c ≡ onward (property_passed property c) (λ _. done point)
unfolding coordinate_taken
is_passed scale property point is c =
    ap (λ b. if b then onward (taken (coordinate scale) c) (λ n. done (with_part property.part point n)) else onward (property_passed property c) (λ _. done point)) is

-- the row of a vertex
pub no_part : (scale : Scale) (properties : List Property) (point : Point) → properties ≡ [] → (c : Cursor) → vertex_row scale properties point c ≡ done point c
unfolding vertex_row
no_part scale properties point none c = ap (λ ps. vertex_row scale ps point c) none

pub one_part : (scale : Scale) (properties behind : List Property) (property : Property) (point : Point) → properties ≡ property ∷ behind → (c : Cursor)
    → vertex_row scale properties point c ≡ onward (coordinate_taken scale property point c) (vertex_row scale behind)
unfolding vertex_row
one_part scale properties behind property point more c = ap (λ ps. vertex_row scale ps point c) more

-- a face: behind the properties before its list, behind the list's count, behind its first corner
abbrev pub after_first : ℕ → ℕ → ℕ → Step Fan
after_first vertices count first c = onward (corner vertices c) (λ last. done (fan_of count first last))

abbrev pub after_count : ℕ → ℕ → Step Fan
after_count vertices count c = onward (corner vertices c) (after_first vertices count)

abbrev pub after_front : ℕ → ⊤ → Step Fan
after_front vertices _ c = onward (taken (whole_in BadCount 3 256) c) (after_count vertices)

pub fan_steps : (vertices : ℕ) (front : List Property) (c : Cursor) → fan_opened vertices front c ≡ onward (row_passed front c) (after_front vertices)
unfolding fan_opened
fan_steps vertices front c = refl
