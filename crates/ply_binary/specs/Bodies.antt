-- A binary body as text: its values in the order in which they were declared, each as a token and LF.
-- What follows a piece of a body is handed on as a function of the bytes behind it.
use Rattle.std.specs.Prelude.{ℕ, zero, suc, Bool, false, nat_lt, if◌then◌else◌, List, [], ◌∷◌, ◌++◌, length, take, drop, Option, None, Some, codes}
use Rattle.ply_reader.specs.declared.elements.Element.{Element}
use Rattle.ply_reader.specs.declared.properties.Property.{Property}
use Rattle.ply_reader.specs.declared.properties.Scalar.{Scalar}
use Rattle.ply_reader.specs.Declarations.{Declared, is_coordinate, properties_of}
use Rattle.ply_binary.specs.Values.{size_of, number_of, is_negative, token_of}

-- the text that bytes are rewritten as
abbrev pub Rewrite : Type 0
Rewrite = List ℕ → List ℕ

-- the text ends
abbrev pub nothing : Rewrite
nothing bytes = []

-- a value, and what follows it; where its bytes are not all there, the text ends
abbrev pub with_value : Scalar → (List ℕ → Rewrite) → Rewrite
with_value values next bytes =
    if nat_lt (length bytes) (size_of values) then [] else next (take (size_of values) bytes) (drop (size_of values) bytes)

unfoldable pub value_then : Bool → Scalar → Rewrite → Rewrite
value_then coordinate values next = with_value values (λ value behind. token_of coordinate values value ++ next behind)

-- so many values
unfoldable pub values_then : Scalar → ℕ → Rewrite → Rewrite
values_then values zero next = next
values_then values (suc n) next = value_then false values (values_then values n next)

-- a list: its count and as many values; after a negative count the text ends
unfoldable pub list_then : Scalar → Scalar → Rewrite → Rewrite
list_then counts values next = with_value counts (λ count behind. token_of false counts count
    ++ (if is_negative counts (number_of counts count) then nothing else values_then values (number_of counts count) next) behind)

-- a property: one value, or a list
abbrev pub counted_then : Option Scalar → Property → Rewrite → Rewrite
counted_then None property next = value_then (is_coordinate property.part) property.values next
counted_then (Some counts) property next = list_then counts property.values next

unfoldable pub property_then : Property → Rewrite → Rewrite
property_then property next = counted_then property.counts property next

-- properties, one after the other
unfoldable pub row_then : List Property → Rewrite → Rewrite
row_then [] next = next
row_then (property ∷ behind) next = property_then property (row_then behind next)

-- as many rows as an element's count says
unfoldable pub rows_then : List Property → ℕ → Rewrite → Rewrite
rows_then properties zero next = next
rows_then properties (suc n) next = row_then properties (rows_then properties n next)

unfoldable pub elements_then : Declared → List Element → Rewrite → Rewrite
elements_then d [] next = next
elements_then d (element ∷ behind) next = rows_then (properties_of d element) element.count (elements_then d behind next)

-- behind the last value the text ends, with one `x` where a byte follows
abbrev pub end_text : Rewrite
end_text [] = []
end_text (_ ∷ _) = codes "x"

-- the body of a header
unfoldable pub body_text : Declared → Rewrite
body_text d = elements_then d d.elements end_text
