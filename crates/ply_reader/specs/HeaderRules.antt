-- The rules of header lines, in order: the first that a line breaks refuses it.
use Rattle.std.specs.Prelude.{ℕ, ◌-◌, ◌^◌, ◌≡◌, Bool, true, false, ◌&&◌, ◌||◌, not, ◌==◌, nat_le, nat_lt, if◌then◌else◌, List, [], ◌∷◌, length, Option, None, Some, Result, Ok, Err, OnOk, OnErr, codes}
use Rattle.std.specs.Str.{bytes_eq}
use Rattle.ply_text.specs.Wholes.{whole_of}
use Rattle.ply_reader.specs.declared.fault.PlyKind.{PlyKind}
use Rattle.ply_reader.specs.declared.fault.PlyKind.TheVariants.{NotPly, BadFormat, BadHeader, HeaderTooLarge, NoVertexElement, NoFaceElement, FaceFirst}
use Rattle.ply_reader.specs.declared.elements.Element.{Element}
use Rattle.ply_reader.specs.declared.elements.Role.{Role}
use Rattle.ply_reader.specs.declared.elements.Role.TheVariants.{Vertex, Face}
use Rattle.ply_reader.specs.declared.properties.Property.{Property}
use Rattle.ply_reader.specs.declared.properties.Scalar.{Scalar}
use Rattle.ply_reader.specs.declared.properties.Part.TheVariants.{X, Y, Z, Indices}
use Rattle.ply_reader.specs.declared.names.Keyword.{Keyword}
use Rattle.ply_reader.specs.declared.names.Keyword.TheVariants.{Blank, Comment, Format, NewElement, NewProperty, EndHeader, Unknown}
use Rattle.ply_reader.specs.Names.{scalar_of, is_whole_type, role_of, part_of, keyword_of}
use Rattle.ply_reader.specs.Declarations.{Declared, is_role, is_part, is_coordinate, has_role, has_part, role_in, last_role, with_element, with_property}

-- whether a rule is broken, and the kind that it refuses by
abbrev pub Rules : Type 0
Rules = List (Bool × PlyKind)

abbrev pub first_broken : Rules → Option PlyKind
first_broken [] = None
first_broken (rule ∷ rules) = if rule.0 then Some rule.1 else first_broken rules

-- the words are this one alone
abbrev pub is_only : List (List ℕ) → List ℕ → Bool
is_only [] name = false
is_only (word ∷ []) name = bytes_eq word name
is_only (word ∷ other ∷ _) name = false

-- the words are `format ascii 1.0`
unfoldable pub is_ascii_format : List (List ℕ) → Bool
is_ascii_format [] = false
is_ascii_format (_ ∷ []) = false
is_ascii_format (_ ∷ _ ∷ []) = false
is_ascii_format (_ ∷ format ∷ version ∷ []) = bytes_eq format (codes "ascii") && bytes_eq version (codes "1.0")
is_ascii_format (_ ∷ _ ∷ _ ∷ _ ∷ _) = false

-- the count of an element: 1 to 19 digits of a number of at most 2^63 - 1
unfoldable pub count_of : List ℕ → Option ℕ
count_of word = if nat_le (length word) 19 then whole_of word (2 ^ 63 - 1) else None

-- the element of a name and a count
abbrev pub counted_element : ℕ → List ℕ → Option ℕ → Option Element
counted_element first name None = None
counted_element first name (Some count) = Some (record { count = count; first = first; properties = 0; role = role_of name })

-- the element that the words declare; `first` properties were declared before
unfoldable pub element_of : ℕ → List (List ℕ) → Option Element
element_of first [] = None
element_of first (_ ∷ []) = None
element_of first (_ ∷ _ ∷ []) = None
element_of first (_ ∷ name ∷ count ∷ []) = counted_element first name (count_of count)
element_of first (_ ∷ _ ∷ _ ∷ _ ∷ _) = None

-- a property of one value
abbrev pub single_property : Role → List ℕ → Option Scalar → Option Property
single_property role name None = None
single_property role name (Some values) = Some (record { counts = None; values = values; part = part_of role name })

-- a property that is a list
abbrev pub list_property : Role → List ℕ → Option Scalar → Option Scalar → Option Property
list_property role name None values = None
list_property role name (Some counts) None = None
list_property role name (Some counts) (Some values) =
    if is_whole_type counts then Some (record { counts = Some counts; values = values; part = part_of role name }) else None

-- the property that the words declare, of an element of this role
unfoldable pub property_of : Role → List (List ℕ) → Option Property
property_of role [] = None
property_of role (_ ∷ []) = None
property_of role (_ ∷ _ ∷ []) = None
property_of role (_ ∷ values ∷ name ∷ []) = single_property role name (scalar_of values)
property_of role (_ ∷ _ ∷ _ ∷ _ ∷ []) = None
property_of role (_ ∷ list ∷ counts ∷ values ∷ name ∷ []) =
    if bytes_eq list (codes "list") then list_property role name (scalar_of counts) (scalar_of values) else None
property_of role (_ ∷ _ ∷ _ ∷ _ ∷ _ ∷ _ ∷ _) = None

abbrev pub is_none : {A : Type 0} → Option A → Bool
is_none None = true
is_none (Some _) = false

abbrev pub is_list : Property → Bool
is_list property = not (is_none property.counts)

-- a coordinate is one value, the indices are a list of whole numbers, and each is there once at most
unfoldable pub is_misplaced : Declared → Property → Bool
is_misplaced d property =
    if is_coordinate property.part then is_list property || has_part property.part d else
    if is_part Indices property.part then not (is_list property) || not (is_whole_type property.values) || has_part Indices d else
    false

-- more vertices or faces than 4,294,967,295
abbrev pub is_too_many : Option Element → Bool
is_too_many None = false
is_too_many (Some element) = (is_role Vertex element.role || is_role Face element.role) && nat_lt (2 ^ 32 - 1) element.count

abbrev pub is_misplaced_one : Declared → Option Property → Bool
is_misplaced_one d None = false
is_misplaced_one d (Some property) = is_misplaced d property

-- vertices with their three coordinates
abbrev pub has_vertices : Declared → Bool
has_vertices d = has_role Vertex d && has_part X d && has_part Y d && has_part Z d

-- faces with the list of their corners
abbrev pub has_faces : Declared → Bool
has_faces d = has_role Face d && has_part Indices d

unfoldable pub first_rules : List (List ℕ) → Rules
first_rules words = (not (is_only words (codes "ply")), NotPly) ∷ []

unfoldable pub format_rules : Declared → List (List ℕ) → Rules
format_rules d words =
    (not (is_ascii_format words), BadFormat)
    ∷ (d.format, BadFormat)
    ∷ []

unfoldable pub element_rules : Declared → Option Element → Rules
element_rules d element =
    (not d.format, BadFormat)
    ∷ (is_none element, BadHeader)
    ∷ (is_role Vertex (role_in element) && has_role Vertex d, BadHeader)
    ∷ (is_role Face (role_in element) && has_role Face d, BadHeader)
    ∷ (is_role Face (role_in element) && not (has_role Vertex d), FaceFirst)
    ∷ (nat_le 16 (length d.elements), HeaderTooLarge)
    ∷ (is_too_many element, HeaderTooLarge)
    ∷ []

unfoldable pub property_rules : Declared → Option Property → Rules
property_rules d property =
    (not d.format, BadFormat)
    ∷ (length d.elements == 0, BadHeader)
    ∷ (is_none property, BadHeader)
    ∷ (is_misplaced_one d property, BadHeader)
    ∷ (nat_le 128 (length d.properties), HeaderTooLarge)
    ∷ []

unfoldable pub end_rules : Declared → List (List ℕ) → Rules
end_rules d words =
    (not d.format, BadFormat)
    ∷ (not (is_only words (codes "end_header")), BadHeader)
    ∷ (not (has_vertices d), NoVertexElement)
    ∷ (not (has_faces d), NoFaceElement)
    ∷ []

-- the rules of a line, by its first word
abbrev pub rules_by : Keyword → Declared → List (List ℕ) → Rules
rules_by Blank d words = []
rules_by Comment d words = []
rules_by Format d words = format_rules d words
rules_by NewElement d words = element_rules d (element_of (length d.properties) words)
rules_by NewProperty d words = property_rules d (property_of (last_role d) words)
rules_by EndHeader d words = end_rules d words
rules_by Unknown d words = (true, BadHeader) ∷ []

unfoldable pub rules_of : Declared → List (List ℕ) → Rules
rules_of d words = if d.begun then rules_by (keyword_of words) d words else first_rules words

-- what is declared once a line is accepted
abbrev pub with_one_element : Declared → Option Element → Declared
with_one_element d None = d
with_one_element d (Some element) = with_element d element

abbrev pub with_one_property : Declared → Option Property → Declared
with_one_property d None = d
with_one_property d (Some property) = with_property d property

abbrev pub with_format : Declared → Declared
with_format d = record { begun = d.begun; format = true; elements = d.elements; properties = d.properties }

abbrev pub with_beginning : Declared → Declared
with_beginning d = record { begun = true; format = d.format; elements = d.elements; properties = d.properties }

abbrev pub after_by : Keyword → Declared → List (List ℕ) → Declared
after_by Blank d words = d
after_by Comment d words = d
after_by Format d words = with_format d
after_by NewElement d words = with_one_element d (element_of (length d.properties) words)
after_by NewProperty d words = with_one_property d (property_of (last_role d) words)
after_by EndHeader d words = d
after_by Unknown d words = d

unfoldable pub after : Declared → List (List ℕ) → Declared
after d words = if d.begun then after_by (keyword_of words) d words else with_beginning d

-- an accepted line ends the header
abbrev pub is_end_keyword : Keyword → Bool
is_end_keyword Blank = false
is_end_keyword Comment = false
is_end_keyword Format = false
is_end_keyword NewElement = false
is_end_keyword NewProperty = false
is_end_keyword EndHeader = true
is_end_keyword Unknown = false

unfoldable pub is_end : Declared → List (List ℕ) → Bool
is_end d words = d.begun && is_end_keyword (keyword_of words)

-- a line is refused by the first rule that it breaks, or says whether it ends the header
abbrev pub answer_of : Option PlyKind → Bool → Result Bool PlyKind
answer_of None end = Ok end
answer_of (Some kind) end = Err kind

-- a line that is taken adds what it declares, and one that is refused nothing
pub record TakesLine (words : List (List ℕ)) (old new : Declared) (result : Result Bool PlyKind) : Type 0 where
  pub answer : result ≡ answer_of (first_broken (rules_of old words)) (is_end old words)
  pub taken : OnOk result (new ≡ after old words)
  pub refused : OnErr result (new ≡ old)

-- the same of a line by rules and an outcome of its own
pub record TakesBy (rules : Rules) (end : Bool) (old next new : Declared) (result : Result Bool PlyKind) : Type 0 where
  pub answer : result ≡ answer_of (first_broken rules) end
  pub taken : OnOk result (new ≡ next)
  pub refused : OnErr result (new ≡ old)

-- what an accepted header has: vertices, and faces
pub record HasMesh (d : Declared) : Type 0 where
  pub vertices : has_vertices d ≡ true
  pub faces : has_faces d ≡ true
