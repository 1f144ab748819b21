-- The steps through a body, each of which leaves what is to come as it is.
use Rattle.std.proofs.Common.{◌≡◌, ℕ, zero, suc, ◌+◌, ◌-◌, ◌<◌, ◌≤◌, inl, inr, Bool, false, if◌then◌else◌, List, [], ◌∷◌, ◌++◌, length, take, drop, slice_range, slice_index_or, refl, sym, ap, ◌∙◌, arith, None, Some, nat_lt, append_assoc, length-append, take_at, drop_at}
use Rattle.std.proofs.lemmas.List.{drop_all}
use Rattle.std.proofs.lemmas.List.Folds.{drop_split}
use Rattle.std.proofs.lemmas.Grind.{common_steps}
use Rattle.std.proofs.lemmas.Bool.Decides.{nat_tests}
use Rattle.ply_reader.specs.declared.elements.Element.{Element}
use Rattle.ply_reader.specs.declared.properties.Property.{Property}
use Rattle.ply_reader.specs.declared.properties.Scalar.{Scalar}
use Rattle.ply_reader.specs.Declarations.{Declared, is_coordinate}
use Rattle.ply_binary.specs.declared.body.Body.{Body}
use Rattle.ply_binary.specs.declared.body.Due.{Due}
use Rattle.ply_binary.specs.declared.body.Kind.{Kind}
use Rattle.ply_binary.specs.declared.body.Kind.TheVariants.{Item, Single, Count}
use Rattle.ply_binary.specs.Values.{size_of, number_of, token_of}
use Rattle.ply_binary.specs.Bodies.{Rewrite, with_value, value_then, values_then, list_then, counted_then, property_then, row_then, rows_then, elements_then, end_text}
use Rattle.ply_binary.specs.BodyStates.{IsIn, HasValue, IsBetween, HasNoRow, HasRow, body_left, row_left, rows_left, elements_left, begun_row, begun_at, begun_element, IsAt, IsDue, due_left, passed, is_last, is_coordinate_kind, unless_over}

-- rows without properties give nothing
pub rows_free : (n : ℕ) (next : Rewrite) → rows_then [] n next ≡ next
unfolding rows_then row_then
rows_free zero next = refl
rows_free (suc n) next = rows_free n next

empty_range : {A : Type 0} (xs : List A) (n : ℕ) → slice_range xs n n ≡ []
empty_range xs n = ap (λ k. take k (drop n xs)) {x = n - n} {y = 0} (omega arith)

pub one_of : {A : Type 0} (xs : List A) (n : ℕ) (d : A) → n < length xs → drop n xs ≡ slice_index_or xs n d ∷ drop (n + 1) xs
one_of (x ∷ xs) zero d h = refl
one_of (x ∷ xs) (suc n) d h =
    let next : suc (n + 1) ≡ suc n + 1 = omega arith in
    one_of xs n d (omega (arith, h)) ∙ ap (λ m. slice_index_or xs n d ∷ drop m (x ∷ xs)) next
one_of [] zero d h = absurd (omega (arith, h))
one_of [] (suc n) d h = absurd (omega (arith, h))

pub first_of_range : {A : Type 0} (xs : List A) (from to : ℕ) (d : A) → from < to → to ≤ length xs
    → slice_range xs from to ≡ slice_index_or xs from d ∷ slice_range xs (from + 1) to
first_of_range xs from to d h within =
    let more : to - from ≡ suc (to - (from + 1)) = omega (arith, h) in
    ap (λ n. take n (drop from xs)) more ∙ ap (take (suc (to - (from + 1)))) (one_of xs from d (omega (arith, h, within)))

-- no value is begun
pub between_left : (d : Declared) (b : Body) → IsBetween b → body_left d b ≡ rows_left d b
unfolding body_left values_then row_then
between_left d b between =
    ap (λ n. values_then b.list n (row_left d b)) between.values
    ∙ ap (λ n. row_then (slice_range d.properties n b.end) (rows_left d b)) between.property
    ∙ ap (λ ps. row_then ps (rows_left d b)) (empty_range d.properties b.end)

-- no row is left
pub rowless_left : (d : Declared) (b : Body) → HasNoRow b → rows_left d b ≡ elements_left d b
unfolding rows_then
rowless_left d b (inl none) = ap (λ n. rows_then (slice_range d.properties b.first b.end) n (elements_left d b)) none
rowless_left d b (inr none) =
    ap (λ n. rows_then (slice_range d.properties n b.end) b.rows (elements_left d b)) none
    ∙ ap (λ ps. rows_then ps b.rows (elements_left d b)) (empty_range d.properties b.end)
    ∙ rows_free b.rows (elements_left d b)

-- a row is begun
pub row_begun : (d : Declared) (b : Body) → IsBetween b → HasRow b → body_left d (begun_row b) ≡ body_left d b
unfolding body_left rows_then values_then
row_begun d b between has =
    let more : b.rows ≡ suc (b.rows - 1) = omega (arith, has.rows) in
    ap (λ n. values_then b.list n (row_left d (begun_row b))) between.values
    ∙ sym (between_left d b between ∙ ap (λ n. rows_then (slice_range d.properties b.first b.end) n (elements_left d b)) more)

-- an element is begun
begun_between : (b : Body) (element : Element) → IsBetween b → IsBetween (begun_at b element)
begun_between b element between = record { values = between.values; property = refl }

pub element_between : (d : Declared) (b : Body) → IsBetween b → IsBetween (begun_element d b)
element_between d b between = record { values = between.values; property = refl }

begun_rows : (d : Declared) (b : Body) (element : Element) → drop b.next d.elements ≡ element ∷ drop (b.next + 1) d.elements
    → rows_left d (begun_at b element) ≡ elements_left d b
unfolding elements_then
begun_rows d b element is =
    let count : element.first + element.properties - element.first ≡ element.properties = omega arith in
    ap (λ n. rows_then (take n (drop element.first d.properties)) element.count (elements_left d (begun_at b element))) count
    ∙ sym (ap (λ es. elements_then d es end_text) is)

pub element_begun : (d : Declared) (b : Body) → IsBetween b → HasNoRow b → b.next < length d.elements → body_left d (begun_element d b) ≡ body_left d b
element_begun d b between none more =
    let element : Element = slice_index_or d.elements b.next _ in
    between_left d (begun_element d b) (begun_between b element between)
    ∙ begun_rows d b element (one_of d.elements b.next _ more)
    ∙ sym (between_left d b between ∙ rowless_left d b none)

-- no element is left
pub body_ended : (d : Declared) (b : Body) → IsBetween b → HasNoRow b → b.next ≡ length d.elements → body_left d b ≡ end_text
unfolding elements_then
body_ended d b between none end =
    between_left d b between ∙ rowless_left d b none
    ∙ ap (λ es. elements_then d es end_text) (drop_all b.next d.elements (omega (arith, end)))

-- a value of a list is next
pub item_due : (d : Declared) (b : Body) → 0 < b.values → IsDue d b (record { scalar = b.list; kind = Item })
unfolding body_left values_then value_then
item_due d b some =
    let more : b.values ≡ suc (b.values - 1) = omega (arith, some) in
    ap (λ n. values_then b.list n (row_left d b)) more

-- a property is next
pub next_property : (d : Declared) (b : Body) (property : Property) → IsIn d b → HasValue b → b.values ≡ 0 → property ≡ slice_index_or d.properties b.property property
    → slice_range d.properties b.property b.end ≡ property ∷ slice_range d.properties (b.property + 1) b.end
next_property d b property inside (inl some) none is = absurd (omega (arith, some, none))
next_property d b property inside (inr here) none is =
    first_of_range d.properties b.property b.end property here inside.within ∙ ap (λ p. p ∷ slice_range d.properties (b.property + 1) b.end) (sym is)

property_left : (d : Declared) (b : Body) (property : Property) → b.values ≡ 0 → slice_range d.properties b.property b.end ≡ property ∷ slice_range d.properties (b.property + 1) b.end
    → body_left d b ≡ property_then property (row_then (slice_range d.properties (b.property + 1) b.end) (rows_left d b))
unfolding body_left values_then row_then
property_left d b property none is =
    ap (λ n. values_then b.list n (row_left d b)) none ∙ ap (λ ps. row_then ps (rows_left d b)) is

pub single_due : (d : Declared) (b : Body) (property : Property) → b.values ≡ 0 → slice_range d.properties b.property b.end ≡ property ∷ slice_range d.properties (b.property + 1) b.end
    → property.counts ≡ None → IsDue d b (record { scalar = property.values; kind = Single (is_coordinate property.part) })
unfolding property_then value_then body_left values_then
single_due d b property none is one =
    let next : Rewrite = row_then (slice_range d.properties (b.property + 1) b.end) (rows_left d b) in
    let left : values_then b.list b.values next ≡ next = ap (λ n. values_then b.list n next) none in
    property_left d b property none is ∙ ap (λ counts. counted_then counts property next) one
    ∙ ap (λ next. with_value property.values (λ value behind. token_of (is_coordinate property.part) property.values value ++ next behind)) (sym left)

pub count_due : (d : Declared) (b : Body) (property : Property) (counts : Scalar) → b.values ≡ 0 → slice_range d.properties b.property b.end ≡ property ∷ slice_range d.properties (b.property + 1) b.end
    → property.counts ≡ Some counts → IsDue d b (record { scalar = counts; kind = Count property.values })
unfolding property_then list_then body_left
count_due d b property counts none is list =
    let next : Rewrite = row_then (slice_range d.properties (b.property + 1) b.end) (rows_left d b) in
    property_left d b property none is ∙ ap (λ counts. counted_then counts property next) list

-- the place behind a value is in the body too
pub passed_in : (d : Declared) (b : Body) (kind : Kind) (n : ℕ) → IsIn d b → IsAt b kind → IsIn d (passed kind n b)
passed_in d b Item n inside here = record { begun = inside.begun; here = inside.here; within = inside.within; elements = inside.elements }
passed_in d b (Single coordinate) n inside here = record { begun = inside.begun; here = omega (arith, here); within = inside.within; elements = inside.elements }
passed_in d b (Count values) n inside here = record { begun = inside.begun; here = omega (arith, here); within = inside.within; elements = inside.elements }

-- a value whose bytes are all there
pub value_there : (values : Scalar) (next : List ℕ → Rewrite) (value behind : List ℕ) → length value ≡ size_of values → with_value values next (value ++ behind) ≡ next value behind
value_there values next value behind size =
    let more : length (value ++ behind) ≡ length value + length behind = length-append value behind in
    let test : nat_lt (length (value ++ behind)) (size_of values) ≡ false = grind (arith, nat_tests, more, size) in
    ap (λ b. if b then [] else next (take (size_of values) (value ++ behind)) (drop (size_of values) (value ++ behind))) test
    ∙ ap (λ v. next v (drop (size_of values) (value ++ behind))) (take_at value behind (size_of values) size)
    ∙ ap (next value) (drop_at value behind (size_of values) size)

-- the bytes from a place on begin with a value
value_first : (bytes behind : List ℕ) (used size : ℕ) → used + size ≤ length bytes
    → drop used bytes ++ behind ≡ slice_range bytes used (used + size) ++ (drop (used + size) bytes ++ behind)
value_first bytes behind used size fits =
    let count : used + size - used ≡ size = omega arith in
    let parts : drop used bytes ≡ slice_range bytes used (used + size) ++ drop (used + size) bytes = drop_split bytes used (used + size) (omega arith) in
    ap (λ l. l ++ behind) parts ∙ append_assoc (slice_range bytes used (used + size)) (drop (used + size) bytes) behind

pub length-value : (bytes : List ℕ) (used size : ℕ) → used + size ≤ length bytes → length (slice_range bytes used (used + size)) ≡ size
length-value bytes used size fits = grind (arith, common_steps)

-- a value is taken
pub value_taken : (d : Declared) (b : Body) (due : Due) (bytes behind : List ℕ) (used size : ℕ) (over : Bool) → IsDue d b due → size ≡ size_of due.scalar → used + size ≤ length bytes
    → let value = slice_range bytes used (used + size) in over ≡ is_last due (number_of due.scalar value)
    → body_left d b (drop used bytes ++ behind)
    ≡ token_of (is_coordinate_kind due.kind) due.scalar value ++ unless_over over (body_left d (passed due.kind (number_of due.scalar value) b)) (drop (used + size) bytes ++ behind)
value_taken d b due bytes behind used size over is sized fits last =
    let value : List ℕ = slice_range bytes used (used + size) in
    let rest : List ℕ = drop (used + size) bytes ++ behind in
    ap (λ f. f (drop used bytes ++ behind)) is
    ∙ ap (with_value due.scalar (due_left d b due)) (value_first bytes behind used size fits)
    ∙ value_there due.scalar (due_left d b due) value rest (length-value bytes used size fits ∙ sized)
    ∙ ap (λ w. token_of (is_coordinate_kind due.kind) due.scalar value ++ unless_over w (body_left d (passed due.kind (number_of due.scalar value) b)) rest) (sym last)
