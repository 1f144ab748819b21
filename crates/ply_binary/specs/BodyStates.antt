-- What is left of a body while it is rewritten.
use Rattle.std.specs.Prelude.{◌≡◌, ℕ, ◌+◌, ◌-◌, ◌<◌, ◌≤◌, Bool, false, true, ◌&&◌, ◌⊎◌, if◌then◌else◌, List, [], ◌++◌, length, drop, slice_range, slice_index_or, ⊤}
use Rattle.ply_reader.specs.declared.elements.Element.{Element}
use Rattle.ply_reader.specs.declared.elements.Role.TheVariants.{Other}
use Rattle.ply_reader.specs.Declarations.{Declared}
use Rattle.ply_binary.specs.declared.body.Body.{Body}
use Rattle.ply_binary.specs.declared.body.Due.{Due}
use Rattle.ply_binary.specs.declared.body.Kind.{Kind}
use Rattle.ply_binary.specs.declared.body.Kind.TheVariants.{Item, Single, Count}
use Rattle.ply_binary.specs.declared.rewriting.Halt.{Halt}
use Rattle.ply_binary.specs.declared.rewriting.Halt.TheVariants.{Filled, Short, Ended, Over}
use Rattle.ply_binary.specs.Values.{number_of, is_negative, token_of}
use Rattle.ply_binary.specs.Bodies.{Rewrite, nothing, with_value, values_then, row_then, rows_then, elements_then, end_text}

-- the place in a body is one that the header has
pub record IsIn (d : Declared) (b : Body) : Type 0 where
  pub begun : b.first ≤ b.end
  pub here : b.property ≤ b.end
  pub within : b.end ≤ length d.properties
  pub elements : b.next ≤ length d.elements

-- the elements that are not begun; the rows of one that is; the properties of a row that is begun; the values of a list
abbrev pub elements_left : Declared → Body → Rewrite
elements_left d b = elements_then d (drop b.next d.elements) end_text

abbrev pub rows_left : Declared → Body → Rewrite
rows_left d b = rows_then (slice_range d.properties b.first b.end) b.rows (elements_left d b)

abbrev pub row_left : Declared → Body → Rewrite
row_left d b = row_then (slice_range d.properties b.property b.end) (rows_left d b)

unfoldable pub body_left : Declared → Body → Rewrite
body_left d b = values_then b.list b.values (row_left d b)

-- a value of a list or of a row is to come, or none is
abbrev pub HasValue : Body → Type 0
HasValue b = (0 < b.values) ⊎ (b.property < b.end)

pub record IsBetween (b : Body) : Type 0 where
  pub values : b.values ≡ 0
  pub property : b.property ≡ b.end

-- a row of the element is to come that has properties, or none is
pub record HasRow (b : Body) : Type 0 where
  pub rows : 0 < b.rows
  pub properties : b.first < b.end

abbrev pub HasNoRow : Body → Type 0
HasNoRow b = (b.rows ≡ 0) ⊎ (b.first ≡ b.end)

-- the next row, and the next element, are begun
abbrev pub begun_row : Body → Body
begun_row b = record { next = b.next; rows = b.rows - 1; first = b.first; end = b.end; property = b.first; list = b.list; values = b.values }

abbrev pub begun_at : Body → Element → Body
begun_at b element = record { next = b.next + 1; rows = element.count; first = element.first; end = element.first + element.properties; property = element.first + element.properties; list = b.list; values = b.values }

-- the element of a number; `nowhere` stands where there is none
abbrev pub nowhere : Element
nowhere = record { count = 0; first = 0; properties = 0; role = Other }

abbrev pub begun_element : Declared → Body → Body
begun_element d b = begun_at b (slice_index_or d.elements b.next nowhere)

-- the value that comes next is of this kind
abbrev pub IsAt : Body → Kind → Type 0
IsAt b Item = 0 < b.values
IsAt b (Single coordinate) = b.property < b.end
IsAt b (Count values) = b.property < b.end

-- the place behind a value, of this number
abbrev pub passed : Kind → ℕ → Body → Body
passed Item n b = record { next = b.next; rows = b.rows; first = b.first; end = b.end; property = b.property; list = b.list; values = b.values - 1 }
passed (Single coordinate) n b = record { next = b.next; rows = b.rows; first = b.first; end = b.end; property = b.property + 1; list = b.list; values = b.values }
passed (Count values) n b = record { next = b.next; rows = b.rows; first = b.first; end = b.end; property = b.property + 1; list = values; values = n }

abbrev pub is_coordinate_kind : Kind → Bool
is_coordinate_kind Item = false
is_coordinate_kind (Single coordinate) = coordinate
is_coordinate_kind (Count values) = false

abbrev pub is_count : Kind → Bool
is_count Item = false
is_count (Single coordinate) = false
is_count (Count values) = true

-- after a negative count nothing follows
abbrev pub is_last : Due → ℕ → Bool
is_last due n = is_count due.kind && is_negative due.scalar n

-- what a value is rewritten as, with what follows it
abbrev pub unless_over : Bool → Rewrite → Rewrite
unless_over over next = if over then nothing else next

abbrev pub due_left : Declared → Body → Due → List ℕ → Rewrite
due_left d b due value behind = token_of (is_coordinate_kind due.kind) due.scalar value
    ++ unless_over (is_last due (number_of due.scalar value)) (body_left d (passed due.kind (number_of due.scalar value) b)) behind

-- the next value of a body is this one
abbrev pub IsDue : Declared → Body → Due → Type 0
IsDue d b due = body_left d b ≡ with_value due.scalar (due_left d b due)

-- why a part of a body is not rewritten further: the room is filled, a value's bytes are not all there, no value is left, or a negative count came
abbrev pub Halts : Halt → Rewrite → List ℕ → Type 0
Halts Filled left bytes = ⊤
Halts Short left bytes = (length bytes < 8) × (left bytes ≡ [])
Halts Ended left bytes = left ≡ end_text
Halts Over left bytes = ⊤

-- what is left of a body behind a rewritten part
abbrev pub left_behind : Halt → Declared → Body → Rewrite
left_behind Filled d b = body_left d b
left_behind Short d b = body_left d b
left_behind Ended d b = body_left d b
left_behind Over d b = nothing
