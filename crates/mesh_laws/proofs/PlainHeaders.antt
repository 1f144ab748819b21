-- The header of a plain text declares its vertices and its faces.
use Rattle.std.proofs.Common.{◌≡◌, ℕ, suc, ◌+◌, ◌-◌, ◌^◌, ◌<◌, ◌≤◌, Bool, true, false, nat_le, nat_lt, List, [], ◌∷◌, ◌++◌, length, Option, None, Some, Result, Ok, Err, refl, sym, ap, subst, ◌∙◌, arith, append-nil, length-append}
use Rattle.std.specs.Prelude.{◌==◌, not, codes, decimal}
use Rattle.std.specs.Int.{IsInRange}
use Rattle.std.specs.List.{list_all, prefix_len}
use Rattle.std.proofs.lemmas.Bool.{and_parts}
use Rattle.std.proofs.lemmas.Bool.Decides.{nat_tests}
use Rattle.std.proofs.lemmas.Fmt.{decimal_nonempty, length-decimal-le}
use Rattle.std.proofs.lemmas.List.{append_assoc, take_all, drop_all}
use Rattle.octree_specs.specs.PlainText.{plain_header}
use Rattle.ply_reader.specs.declared.elements.Element.{Element}
use Rattle.ply_reader.specs.declared.elements.Role.TheVariants.{Vertex, Face}
use Rattle.ply_reader.specs.declared.properties.Property.{Property}
use Rattle.ply_reader.specs.declared.properties.Scalar.TheVariants.{UInt8, Int32}
use Rattle.ply_reader.specs.declared.properties.Part.{Part}
use Rattle.ply_reader.specs.declared.properties.Part.TheVariants.{X, Y, Z, Indices}
use Rattle.ply_reader.specs.Cursors.{Cursor, at}
use Rattle.ply_reader.specs.Declarations.{Declared, nothing_declared}
use Rattle.ply_reader.specs.HeaderRules.{count_of, element_of, property_of, is_misplaced, is_ascii_format, first_broken, first_rules, format_rules, element_rules, property_rules, end_rules, rules_of, is_end, after}
use Rattle.ply_reader.specs.HeaderSteps.{header_of, whole_header}
use Rattle.text_words.specs.LineWords.{words_of, is_blank, word_size}
use Rattle.ply_reader.specs.LineWords.{line_words}
use Rattle.ply_reader.specs.Names.{keyword_of, scalar_of, role_of, part_of}
use Rattle.mesh_laws.proofs.NextTokens.{run_all}
use Rattle.mesh_laws.proofs.NumberTokens.{digits_pass, digits_of, few_digits, whole_of_decimal}
use Rattle.mesh_laws.proofs.PlainLines.{is_plain_byte, IsPlainLine, goes_on, ends}

-- ---- lines that are taken one after the other

-- a line, and what is declared behind it
pub record Line : Type 0 where
  pub bytes : List ℕ
  pub next : Declared

record IsTaken (d : Declared) (line : Line) : Type 0 where
  plain : IsPlainLine line.bytes
  kept : first_broken (rules_of d (line_words line.bytes)) ≡ None
  more : is_end d (line_words line.bytes) ≡ false
  declares : after d (line_words line.bytes) ≡ line.next

AreTaken : Declared → List Line → Type 0
AreTaken d [] = Unit {0}
AreTaken d (line ∷ lines) = IsTaken d line × AreTaken line.next lines

abbrev last_of : Declared → List Line → Declared
last_of d [] = d
last_of d (line ∷ lines) = last_of line.next lines

abbrev joined : List Line → List ℕ → List ℕ
joined [] rest = rest
joined (line ∷ lines) rest = line.bytes ++ (10 ∷ joined lines rest)

-- the header goes on at a place from which the rest reaches the end of the text
record GoesOn (n : ℕ) (d : Declared) (start : Result (Declared × Cursor) _) (end : ℕ) (rest : List ℕ) : Type 0 where
  place : ℕ
  same : start ≡ header_of n d (at place rest)
  reached : place + length rest ≡ end

lines_taken : (lines : List Line) (d : Declared) (n place : ℕ) (rest : List ℕ) → AreTaken d lines → place + length (joined lines rest) ≤ 2 ^ 62
    → GoesOn n (last_of d lines) (header_of (length lines + n) d (at place (joined lines rest))) (place + length (joined lines rest)) rest
unfolding AreTaken
lines_taken [] d n place rest taken room =
    let none : 0 + n ≡ n = omega arith in
    record { place = place; same = ap (λ k. header_of k d (at place rest)) none; reached = refl }
lines_taken (line ∷ lines) d n place rest taken room =
    let behind : List ℕ = joined lines rest in
    let long : length (line.bytes ++ (10 ∷ behind)) ≡ length line.bytes + suc (length behind) = length-append line.bytes (10 ∷ behind) in
    let next : ℕ = place + (length line.bytes + 1) in
    let steps : suc (length lines) + n ≡ suc (length lines + n) = omega arith in
    let first : header_of (suc (length lines + n)) d (at place (line.bytes ++ (10 ∷ behind))) ≡ header_of (length lines + n) line.next (at next behind) =
    goes_on place line.bytes behind taken.0.plain room (length lines + n) d line.next taken.0.kept taken.0.more taken.0.declares in
    let further : GoesOn n (last_of line.next lines) (header_of (length lines + n) line.next (at next behind)) (next + length behind) rest =
    lines_taken lines line.next n next rest taken.1 (omega (arith, room, long)) in
    record {
      place = further.place;
      same = ap (λ k. header_of k d (at place (line.bytes ++ (10 ∷ behind)))) steps ∙ (first ∙ further.same);
      reached = omega (arith, further.reached, long);
    }

-- ---- the count of an element

digit_no_blank : (c : ℕ) → IsInRange 48 57 c → not (is_blank c) ≡ true
digit_no_blank c digit = grind (arith, nat_tests, digit)

digit_plain : (c : ℕ) → IsInRange 48 57 c → is_plain_byte c ≡ true
digit_plain c digit = grind (arith, nat_tests, digit)

words_of_run : (k : ℕ) (ds : List ℕ) → 0 < length ds → list_all (λ c. not (is_blank c)) ds ≡ true → words_of (suc (suc k)) (32 ∷ ds) ≡ ds ∷ []
words_of_run k [] some all = absurd (omega (arith, some))
words_of_run k (c ∷ cs) some all =
    let first : is_blank c ≡ false = grind (arith, nat_tests, (and_parts (not (is_blank c)) (list_all (λ b. not (is_blank b)) cs) all).0) in
    let size : word_size (c ∷ cs) ≡ length (c ∷ cs) = ap word_size (sym (append-nil (c ∷ cs))) ∙ (run_all (λ b. not (is_blank b)) (c ∷ cs) [] all ∙ omega arith) in
    rw (first, size, take_all (length (c ∷ cs)) (c ∷ cs) (omega arith), drop_all (length (c ∷ cs)) (c ∷ cs) (omega arith)) refl

count_words : (n : ℕ) → n < 2 ^ 32 → words_of 4 (32 ∷ decimal n) ≡ decimal n ∷ []
count_words n small =
    words_of_run 2 (decimal n) (decimal_nonempty n (omega (arith, small))) (digits_pass (λ c. not (is_blank c)) digit_no_blank (decimal n) (digits_of n (omega (arith, small))))

count_is : (n : ℕ) → n < 2 ^ 32 → count_of (decimal n) ≡ Some n
unfolding count_of
count_is n small =
    let few : length (decimal n) ≤ 10 = length-decimal-le 10 n (omega arith) (omega (arith, small)) (omega (arith, small)) in
    let short : nat_le (length (decimal n)) 19 ≡ true = grind (arith, nat_tests, few) in
    rw short (whole_of_decimal n (2 ^ 63 - 1) (omega (arith, small)) (omega (arith, small)))

not_many : (n : ℕ) → n < 2 ^ 32 → nat_lt (2 ^ 32 - 1) n ≡ false
not_many n small = grind (arith, nat_tests, small)

plain_count : (front : List ℕ) (n : ℕ) → n < 2 ^ 32 → list_all is_plain_byte front ≡ true → length front ≤ 100 → IsPlainLine (front ++ decimal n)
plain_count front n small all short = record {
  bytes = both front all;
  short = omega (arith, short, few_digits n (omega (arith, small)), length-append front (decimal n));
}
  where
    both : (front : List ℕ) → list_all is_plain_byte front ≡ true → list_all is_plain_byte (front ++ decimal n) ≡ true
    both [] all = digits_pass is_plain_byte digit_plain (decimal n) (digits_of n (omega (arith, small)))
    both (b ∷ rest) all = let parts = and_parts (is_plain_byte b) (list_all is_plain_byte rest) all in rw parts.0 (both rest parts.1)

-- ---- the lines of a plain header

abbrev vertices : ℕ → ℕ → Element
vertices count properties = record { count = count; first = 0; properties = properties; role = Vertex }

abbrev faces : ℕ → ℕ → Element
faces count properties = record { count = count; first = 3; properties = properties; role = Face }

abbrev single : Part → Property
single part = record { counts = None; values = Int32; part = part }

abbrev indices : Property
indices = record { counts = Some UInt8; values = Int32; part = Indices }

abbrev declares : List Element → List Property → Declared
declares elements properties = record { begun = true; format = true; elements = elements; properties = properties }

-- what the header declares
abbrev pub plain_declared : ℕ → ℕ → Declared
plain_declared v f = declares (vertices v 3 ∷ faces f 1 ∷ []) (single X ∷ single Y ∷ single Z ∷ indices ∷ [])

begun_only : Declared
begun_only = record { begun = true; format = false; elements = []; properties = [] }

abbrev plain_lines : ℕ → ℕ → List Line
plain_lines v f =
    record { bytes = codes "ply"; next = record { begun = true; format = false; elements = []; properties = [] } }
    ∷ record { bytes = codes "format ascii 1.0"; next = declares [] [] }
    ∷ record { bytes = codes "element vertex " ++ decimal v; next = declares (vertices v 0 ∷ []) [] }
    ∷ record { bytes = codes "property int x"; next = declares (vertices v 1 ∷ []) (single X ∷ []) }
    ∷ record { bytes = codes "property int y"; next = declares (vertices v 2 ∷ []) (single X ∷ single Y ∷ []) }
    ∷ record { bytes = codes "property int z"; next = declares (vertices v 3 ∷ []) (single X ∷ single Y ∷ single Z ∷ []) }
    ∷ record { bytes = codes "element face " ++ decimal f; next = declares (vertices v 3 ∷ faces f 0 ∷ []) (single X ∷ single Y ∷ single Z ∷ []) }
    ∷ record { bytes = codes "property list uchar int vertex_indices"; next = plain_declared v f }
    ∷ []

constant : (line : List ℕ) → list_all is_plain_byte line ≡ true → nat_le (length line) 1024 ≡ true → IsPlainLine line
constant line all short = record { bytes = all; short = grind (arith, nat_tests, short) }

vertex_words : (v : ℕ) → v < 2 ^ 32 → line_words (codes "element vertex " ++ decimal v) ≡ codes "element" ∷ codes "vertex" ∷ decimal v ∷ []
unfolding line_words
vertex_words v small = ap (λ (words : List (List ℕ)). codes "element" ∷ codes "vertex" ∷ words) (count_words v small)

face_words : (f : ℕ) → f < 2 ^ 32 → line_words (codes "element face " ++ decimal f) ≡ codes "element" ∷ codes "face" ∷ decimal f ∷ []
unfolding line_words
face_words f small = ap (λ (words : List (List ℕ)). codes "element" ∷ codes "face" ∷ words) (count_words f small)

vertex_line : (v : ℕ) → v < 2 ^ 32 → IsTaken (declares [] []) (record { bytes = codes "element vertex " ++ decimal v; next = declares (vertices v 0 ∷ []) [] })
unfolding rules_of is_end after keyword_of element_of element_rules role_of
vertex_line v small = record {
  plain = plain_count (codes "element vertex ") v small refl (omega arith);
  kept = rw (vertex_words v small, count_is v small, not_many v small) refl;
  more = rw (vertex_words v small) refl;
  declares = rw (vertex_words v small, count_is v small) refl;
}

face_line : (v f : ℕ) → f < 2 ^ 32
    → IsTaken (declares (vertices v 3 ∷ []) (single X ∷ single Y ∷ single Z ∷ [])) (record { bytes = codes "element face " ++ decimal f; next = declares (vertices v 3 ∷ faces f 0 ∷ []) (single X ∷ single Y ∷ single Z ∷ []) })
unfolding rules_of is_end after keyword_of element_of element_rules role_of
face_line v f small = record {
  plain = plain_count (codes "element face ") f small refl (omega arith);
  kept = rw (face_words f small, count_is f small, not_many f small) refl;
  more = rw (face_words f small) refl;
  declares = rw (face_words f small, count_is f small) refl;
}

all_taken : (v f : ℕ) → v < 2 ^ 32 → f < 2 ^ 32 → AreTaken nothing_declared (plain_lines v f)
unfolding AreTaken line_words rules_of is_end after keyword_of scalar_of role_of part_of is_misplaced is_ascii_format property_of first_rules format_rules property_rules
all_taken v f few_vertices few_faces = (
  record { plain = constant (codes "ply") refl refl; kept = refl; more = refl; declares = refl },
  (
    record { plain = constant (codes "format ascii 1.0") refl refl; kept = refl; more = refl; declares = refl },
    (
      vertex_line v few_vertices,
      (
        record { plain = constant (codes "property int x") refl refl; kept = refl; more = refl; declares = refl },
        (
          record { plain = constant (codes "property int y") refl refl; kept = refl; more = refl; declares = refl },
          (
            record { plain = constant (codes "property int z") refl refl; kept = refl; more = refl; declares = refl },
            (
              face_line v f few_faces,
              (record { plain = constant (codes "property list uchar int vertex_indices") refl refl; kept = refl; more = refl; declares = refl }, tt),
            ),
          ),
        ),
      ),
    ),
  ),
)

end_kept : (v f : ℕ) → (first_broken (rules_of (plain_declared v f) (line_words (codes "end_header"))) ≡ None) × (is_end (plain_declared v f) (line_words (codes "end_header")) ≡ true)
    × (after (plain_declared v f) (line_words (codes "end_header")) ≡ plain_declared v f)
unfolding line_words rules_of is_end after keyword_of end_rules
end_kept v f = (refl, refl, refl)

-- the text of a header and what follows it, line by line
split : (v f : ℕ) (rest : List ℕ) → plain_header v f ++ rest ≡ joined (plain_lines v f) (codes "end_header" ++ (10 ∷ rest))
unfolding plain_header
split v f rest =
    let front : List ℕ = codes "ply\nformat ascii 1.0\nelement vertex " in
    let middle : List ℕ = codes "\nproperty int x\nproperty int y\nproperty int z\nelement face " in
    let back : List ℕ = codes "\nproperty list uchar int vertex_indices\nend_header\n" in
    append_assoc (front ++ decimal v ++ middle ++ decimal f) back rest
    ∙ (append_assoc (front ++ decimal v ++ middle) (decimal f) (back ++ rest)
    ∙ (append_assoc (front ++ decimal v) middle (decimal f ++ (back ++ rest)) ∙ append_assoc front (decimal v) (middle ++ (decimal f ++ (back ++ rest)))))

-- a plain header is read to its end
pub record HeaderRead (v f : ℕ) (rest : List ℕ) : Type 0 where
  pub place : ℕ
  pub read : whole_header (at 0 (plain_header v f ++ rest)) ≡ Ok (plain_declared v f, at place rest)
  pub reached : place + length rest ≡ length (plain_header v f ++ rest)

pub header_read : (v f : ℕ) (rest : List ℕ) → v < 2 ^ 32 → f < 2 ^ 32 → length (plain_header v f ++ rest) ≤ 2 ^ 62 → HeaderRead v f rest
unfolding whole_header
header_read v f rest few_vertices few_faces room =
    let last : List ℕ = codes "end_header" ++ (10 ∷ rest) in
    let whole : List ℕ = joined (plain_lines v f) last in
    let same : plain_header v f ++ rest ≡ whole = split v f rest in
    let long : length (plain_header v f ++ rest) ≡ length whole = ap length same in
    let some : 8 ≤ length whole = eight (plain_lines v f) last in
    let k : ℕ = length whole - 8 in
    let steps : length whole + 1 ≡ 8 + suc k = omega (arith, some) in
    let lines : GoesOn (suc k) (plain_declared v f) (header_of (8 + suc k) nothing_declared (at 0 whole)) (0 + length whole) last =
    lines_taken (plain_lines v f) nothing_declared (suc k) 0 last (all_taken v f few_vertices few_faces) (omega (arith, room, long)) in
    let kept = end_kept v f in
    let behind : length last ≡ 11 + length rest = omega arith in
    let ended : header_of (suc k) (plain_declared v f) (at lines.place last) ≡ Ok (plain_declared v f, at (lines.place + 11) rest) =
    ends lines.place (codes "end_header") rest (constant (codes "end_header") refl refl) (omega (arith, lines.reached, room, long)) k (plain_declared v f) (plain_declared v f) kept.0 kept.1 kept.2 in
    record {
      place = lines.place + 11;
      read = ap (λ text. header_of (length text + 1) nothing_declared (at 0 text)) same ∙ (ap (λ n. header_of n nothing_declared (at 0 whole)) steps ∙ (lines.same ∙ ended));
      reached = omega (arith, lines.reached, long, behind);
    }
  where
    line_long : (line : Line) (lines : List Line) (rest : List ℕ) → suc (length (joined lines rest)) ≤ length (joined (line ∷ lines) rest)
    line_long line lines rest = omega (arith, length-append line.bytes (10 ∷ joined lines rest))

    eight : (lines : List Line) (rest : List ℕ) → length lines ≤ length (joined lines rest)
    eight [] rest = omega arith
    eight (line ∷ lines) rest = omega (arith, eight lines rest, line_long line lines rest)
