-- What is left of the steps over rows.
use Rattle.std.proofs.Common.{◌≡◌, ℕ, zero, suc, ◌^◌, List, [], ◌∷◌, refl, ap, None}
use Rattle.ply_reader.specs.declared.elements.Element.{Element}
use Rattle.ply_reader.specs.declared.properties.Property.{Property}
use Rattle.ply_reader.specs.declared.fault.PlyKind.TheVariants.{BadCount}
use Rattle.ply_reader.specs.declared.properties.Scalar.TheVariants.{Int8}
use Rattle.ply_reader.specs.declared.properties.Part.TheVariants.{X}
use Rattle.ply_reader.specs.declared.elements.Role.TheVariants.{Vertex}
use Rattle.ply_reader.specs.Declarations.{Declared, properties_of}
use Rattle.ply_reader.specs.Cursors.{Cursor, onward, done, taken}
use Rattle.ply_reader.specs.TokenValues.{unread, whole_in}
use Rattle.ply_reader.specs.Rows.{passed, list_passed, property_passed, row_passed, rows_passed, elements_passed}

-- what an index past the end gives
abbrev pub some_property : Property
some_property = record { counts = None; values = Int8; part = X }

abbrev pub some_element : Element
some_element = record { count = 0; first = 0; properties = 0; role = Vertex }

-- counts
pub no_tokens : (n : ℕ) → n ≡ 0 → (c : Cursor) → passed n c ≡ done tt c
unfolding passed
no_tokens n none c = ap (λ k. passed k c) none

pub one_token : (n m : ℕ) → n ≡ suc m → (c : Cursor) → passed n c ≡ onward (taken unread c) (λ _. passed m)
unfolding passed
one_token n m more c = ap (λ k. passed k c) more

pub no_rows : (properties : List Property) (n : ℕ) → n ≡ 0 → (c : Cursor) → rows_passed properties n c ≡ done tt c
unfolding rows_passed
no_rows properties n none c = ap (λ k. rows_passed properties k c) none

pub one_row : (properties : List Property) (n m : ℕ) → n ≡ suc m → (c : Cursor) → rows_passed properties n c ≡ onward (row_passed properties c) (λ _. rows_passed properties m)
unfolding rows_passed
one_row properties n m more c = ap (λ k. rows_passed properties k c) more

-- rows without properties take nothing
pub rows_free : (n : ℕ) (c : Cursor) → rows_passed [] n c ≡ done tt c
unfolding rows_passed row_passed
rows_free zero c = refl
rows_free (suc n) c = rows_free n c

-- a list
pub list_steps : (c : Cursor) → list_passed c ≡ onward (taken (whole_in BadCount 0 (2 ^ 32)) c) passed
unfolding list_passed
list_steps c = refl

-- properties and elements
pub no_property : (properties : List Property) → properties ≡ [] → (c : Cursor) → row_passed properties c ≡ done tt c
unfolding row_passed
no_property properties none c = ap (λ ps. row_passed ps c) none

pub one_property : (properties behind : List Property) (property : Property) → properties ≡ property ∷ behind → (c : Cursor)
    → row_passed properties c ≡ onward (property_passed property c) (λ _. row_passed behind)
unfolding row_passed
one_property properties behind property more c = ap (λ ps. row_passed ps c) more

pub no_element : (d : Declared) (elements : List Element) → elements ≡ [] → (c : Cursor) → elements_passed d elements c ≡ done tt c
unfolding elements_passed
no_element d elements none c = ap (λ es. elements_passed d es c) none

pub one_element : (d : Declared) (elements behind : List Element) (element : Element) → elements ≡ element ∷ behind → (c : Cursor)
    → elements_passed d elements c ≡ onward (rows_passed (properties_of d element) element.count c) (λ _. elements_passed d behind)
unfolding elements_passed
one_element d elements behind element more c = ap (λ es. elements_passed d es c) more
