-- A text that ends: where none of it is left, and a further byte would be given as one byte, no byte is left.
use Rattle.std.proofs.Common.{◌≡◌, ℕ, zero, suc, ◌+◌, ◌<◌, Bool, true, false, nat_lt, if◌then◌else◌, subst, IfSome, List, [], ◌∷◌, ◌++◌, length, take, drop, Option, None, Some, Result, Ok, Err, refl, sym, ap, arith, length-append}
use Rattle.std.specs.Prelude.{◌≢◌, codes, ◌-◌, ◌||◌, not}
use Rattle.std.proofs.lemmas.List.{length-take}
use Rattle.ply_text.specs.declared.fault.TextFault.{TextFault}
use Rattle.ply_text.specs.Pieces.{Piece}
use Rattle.ply_text.specs.NextPieces.{next_line_of, line_size}
use Rattle.ply_reader.specs.declared.elements.Element.{Element}
use Rattle.ply_reader.specs.declared.properties.Property.{Property}
use Rattle.ply_reader.specs.declared.properties.Scalar.{Scalar}
use Rattle.ply_reader.specs.Declarations.{Declared, is_coordinate, properties_of, nothing_declared}
use Rattle.ply_reader.specs.LineWords.{line_words}
use Rattle.ply_reader.specs.Names.{is_whole_type}
use Rattle.ply_binary.specs.declared.body.Body.{Body}
use Rattle.ply_binary.specs.declared.source.Stage.{Stage}
use Rattle.ply_binary.specs.declared.source.Stage.TheVariants.{Head, Values, Plain, Over}
use Rattle.ply_binary.specs.Values.{size_of, number_of, is_negative, number_text, token_of}
use Rattle.ply_binary.specs.Bodies.{Rewrite, nothing, with_value, value_then, values_then, list_then, counted_then, property_then, row_then, rows_then, elements_then, end_text}
use Rattle.ply_binary.specs.BodyStates.{body_left, row_left, rows_left, elements_left}
use Rattle.ply_binary.specs.HeaderTexts.{Shown, is_format, is_binary, ascii_line, shown_line, shown_then, taken_line, line_then, header_left, ascii}
use Rattle.ply_binary.specs.SourceStates.{left_by}
use Rattle.ply_binary.proofs.HeaderSteps.{header_step}

-- ---- a token is no single byte but LF

one_byte : (line behind : List ℕ) (mark : ℕ) → (line ++ 10 ∷ []) ++ behind ≡ mark ∷ [] → mark ≡ 10
one_byte [] behind mark one = let both : 10 ∷ behind ≡ mark ∷ [] = one in sym (cc both)
one_byte (x ∷ xs) behind mark one = absurd (omega (arith, ap length one, length-append (xs ++ 10 ∷ []) behind, length-append xs (10 ∷ [])))

token_byte : (coordinate : Bool) (values : Scalar) (value behind : List ℕ) (mark : ℕ) → token_of coordinate values value ++ behind ≡ mark ∷ [] → mark ≡ 10
unfolding token_of
token_byte coordinate values value behind mark one = by_type (is_whole_type values) coordinate one
  where
    by_type : (whole coordinate : Bool)
        → (if whole then number_text values (number_of values value) ++ codes "\n" else if coordinate then codes "nan\n" else codes "0\n") ++ behind ≡ mark ∷ [] → mark ≡ 10
    by_type true coordinate one = one_byte (number_text values (number_of values value)) behind mark one
    by_type false true one = one_byte (codes "nan") behind mark one
    by_type false false one = one_byte (codes "0") behind mark one

-- ---- what is left of a body

-- where nothing is given for these bytes, and one byte other than LF for one more of them, there is none of them
abbrev pub Ends : Rewrite → Type 0
Ends next = (bytes : List ℕ) (byte mark : ℕ) → mark ≢ 10 → next bytes ≡ [] → next (bytes ++ byte ∷ []) ≡ mark ∷ [] → bytes ≡ []

value_ends : (values : Scalar) (next : List ℕ → Rewrite) → ((value behind : List ℕ) (mark : ℕ) → next value behind ≡ mark ∷ [] → mark ≡ 10) → Ends (with_value values next)
value_ends values next long bytes byte mark other none one = by_test (nat_lt (length (bytes ++ byte ∷ [])) (size_of values)) one
  where
    by_test : (b : Bool) → (if b then [] else next (take (size_of values) (bytes ++ byte ∷ [])) (drop (size_of values) (bytes ++ byte ∷ []))) ≡ mark ∷ [] → bytes ≡ []
    by_test true is = absurd (omega (arith, ap length is))
    by_test false is = absurd (other (long (take (size_of values) (bytes ++ byte ∷ [])) (drop (size_of values) (bytes ++ byte ∷ [])) mark is))

single_ends : (coordinate : Bool) (values : Scalar) (next : Rewrite) → Ends (value_then coordinate values next)
unfolding value_then
single_ends coordinate values next =
    value_ends values (λ value behind. token_of coordinate values value ++ next behind) (λ value behind mark one. token_byte coordinate values value (next behind) mark one)

values_end : (values : Scalar) (n : ℕ) (next : Rewrite) → Ends next → Ends (values_then values n next)
unfolding values_then
values_end values zero next ends = ends
values_end values (suc n) next ends = single_ends false values (values_then values n next)

list_ends : (counts values : Scalar) (next : Rewrite) → Ends (list_then counts values next)
unfolding list_then
list_ends counts values next =
    let behind_count : List ℕ → Rewrite = λ count. if is_negative counts (number_of counts count) then nothing else values_then values (number_of counts count) next in
    value_ends counts (λ count behind. token_of false counts count ++ behind_count count behind) (λ count behind mark one. token_byte false counts count (behind_count count behind) mark one)

counted_ends : (counts : Option Scalar) (property : Property) (next : Rewrite) → Ends (counted_then counts property next)
counted_ends None property next = single_ends (is_coordinate property.part) property.values next
counted_ends (Some counts) property next = list_ends counts property.values next

row_ends : (properties : List Property) (next : Rewrite) → Ends next → Ends (row_then properties next)
unfolding row_then property_then
row_ends [] next ends = ends
row_ends (property ∷ behind) next ends = counted_ends property.counts property (row_then behind next)

rows_end : (properties : List Property) (n : ℕ) (next : Rewrite) → Ends next → Ends (rows_then properties n next)
unfolding rows_then
rows_end properties zero next ends = ends
rows_end properties (suc n) next ends = row_ends properties (rows_then properties n next) (rows_end properties n next ends)

end_ends : Ends end_text
end_ends [] byte mark other none one = refl
end_ends (x ∷ xs) byte mark other none one = absurd (omega (arith, ap length none))

elements_end : (d : Declared) (elements : List Element) → Ends (elements_then d elements end_text)
unfolding elements_then
elements_end d [] = end_ends
elements_end d (element ∷ behind) = rows_end (properties_of d element) element.count (elements_then d behind end_text) (elements_end d behind)

body_ends : (d : Declared) (b : Body) → Ends (body_left d b)
unfolding body_left
body_ends d b =
    values_end b.list b.values (row_left d b)
    (row_ends _ (rows_left d b) (rows_end _ b.rows (elements_left d b) (elements_end d _)))

-- ---- what is left of a header

word_long : (front word tail spaces behind : List ℕ) → 0 < length word → 0 < length ((((front ++ word) ++ tail) ++ spaces) ++ behind)
word_long front word tail spaces behind some =
    omega (arith, some, length-append (((front ++ word) ++ tail) ++ spaces) behind, length-append ((front ++ word) ++ tail) spaces, length-append (front ++ word) tail, length-append front word)

format_long : (line behind : List ℕ) → 0 < length (ascii_line line ++ behind)
unfolding ascii_line
format_long line behind = word_long _ (codes "ascii") _ _ behind (omega arith)

abbrev IsLongText : Option Shown → Type 0
IsLongText shown = IfSome shown (λ s. 0 < length s.text)

shown_long : (found : Bool) (line whole : List ℕ) → 0 < length whole → IsLongText (shown_line found line whole)
shown_long found line whole some = by_test (found || not (is_format (line_words line))) (is_binary (line_words line))
  where
    by_test : (a b : Bool) → IsLongText (if a then Some (record { text = whole; line = line; found = found }) else
        if b then Some (record { text = ascii_line line ++ drop (length line) whole; line = ascii_line line; found = true }) else None)
    by_test true b = some
    by_test false true = format_long line (drop (length line) whole)
    by_test false false = tt

text_long : (next : Bool → Declared → List ℕ → List ℕ) (d : Declared) (text : List ℕ) (size : ℕ) (shown : Option Shown) → 0 < length text → IsLongText shown
    → 0 < length (shown_then next d text size shown)
text_long next d text size None some long = some
text_long next d text size (Some shown) some long = omega (arith, long, length-append shown.text (taken_line (next shown.found) d shown.line (drop size text)))

line_long : (next : Bool → Declared → List ℕ → List ℕ) (found : Bool) (d : Declared) (text : List ℕ) (size : ℕ) (line : Result (Option Piece) TextFault) → 0 < length text → 0 < length (take size text)
    → 0 < length (line_then next found d text size line)
line_long next found d text size (Err fault) some front = some
line_long next found d text size (Ok None) some front = some
line_long next found d text size (Ok (Some line)) some front =
    text_long next d text size (shown_line found line.bytes (take size text)) some (shown_long found line.bytes (take size text) front)

header_some : (found : Bool) (d : Declared) (place x : ℕ) (xs : List ℕ) → 0 < length (header_left found d place (x ∷ xs))
header_some found d place x xs =
    let text : List ℕ = x ∷ xs in
    let next : Bool → Declared → List ℕ → List ℕ = λ found d behind. header_left found d (place + line_size text) behind in
    let front : 0 < length (take (line_size text) text) = omega (arith, length-take (line_size text) text) in
    let is : header_left found d place text ≡ line_then next found d text (line_size text) (next_line_of place text) = header_step found d place text (next_line_of place text) refl in
    subst (λ l. 0 < length l) (sym is) (line_long next found d text (line_size text) (next_line_of place text) (omega arith) front)

header_ends : (found : Bool) (d : Declared) (place : ℕ) (bytes : List ℕ) → header_left found d place bytes ≡ [] → bytes ≡ []
header_ends found d place [] none = refl
header_ends found d place (x ∷ xs) none = absurd (omega (arith, header_some found d place x xs, ap length none))

-- a text of which nothing is given is empty
pub ascii_ends : (bytes : List ℕ) → ascii bytes ≡ [] → bytes ≡ []
unfolding ascii
ascii_ends bytes none = header_ends false nothing_declared 0 bytes none

-- ---- what is left of a source's text

pub stage_ends : (stage : Stage) (d : Declared) (place : ℕ) (body : Body) → Ends (left_by stage d place body)
stage_ends (Head found) d place body bytes byte mark other none one = header_ends found d place bytes none
stage_ends Values d place body bytes byte mark other none one = body_ends d body bytes byte mark other none one
stage_ends Plain d place body bytes byte mark other none one = none
stage_ends Over d place body bytes byte mark other none one = absurd (omega (arith, ap length one))
