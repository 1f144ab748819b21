-- What the rules of a header say of its format.
use Rattle.std.proofs.Common.{◌≡◌, ℕ, Bool, true, false, ◌&&◌, if◌then◌else◌, List, [], ◌∷◌, length, Option, None, Some, refl, sym, ap, ◌∙◌, codes}
use Rattle.std.specs.Str.{bytes_eq}
use Rattle.ply_reader.specs.declared.elements.Element.{Element}
use Rattle.ply_reader.specs.declared.properties.Property.{Property}
use Rattle.ply_reader.specs.declared.names.Keyword.{Keyword}
use Rattle.ply_reader.specs.declared.names.Keyword.TheVariants as keyword
use Rattle.ply_reader.specs.Names.{keyword_of, is_either}
use Rattle.ply_reader.specs.Declarations.{Declared, last_role}
use Rattle.ply_reader.specs.HeaderRules.{first_broken, rules_of, rules_by, first_rules, end_rules, is_end, is_end_keyword, after, after_by, with_beginning, with_one_element, with_one_property, element_of, property_of}

-- the first word is `format`
abbrev pub says_format : List (List ℕ) → Bool
says_format [] = false
says_format (word ∷ _) = bytes_eq word (codes "format")

-- ---- the format line is said by no other line

format_first : (d : Declared) (words : List (List ℕ)) (begun : Bool) (word : Keyword) → d.format ≡ false → (begun && is_end_keyword word) ≡ true
    → first_broken (if begun then rules_by word d words else first_rules words) ≡ None → ⊥
unfolding end_rules
format_first d words false word unsaid end none = cc end
format_first d words true keyword.Blank unsaid end none = cc end
format_first d words true keyword.Comment unsaid end none = cc end
format_first d words true keyword.Format unsaid end none = cc end
format_first d words true keyword.NewElement unsaid end none = cc end
format_first d words true keyword.NewProperty unsaid end none = cc end
format_first d words true keyword.Unknown unsaid end none = cc end
format_first d words true keyword.EndHeader unsaid end none =
    let bad : None ≡ first_broken (end_rules (record { begun = d.begun; format = false; elements = d.elements; properties = d.properties }) words) = sym none ∙ same in
    cc bad
  where
    same : first_broken (end_rules d words) ≡ first_broken (end_rules (record { begun = d.begun; format = false; elements = d.elements; properties = d.properties }) words)
    same = ap (λ f. first_broken (end_rules (record { begun = d.begun; format = f; elements = d.elements; properties = d.properties }) words)) unsaid

-- a header does not end before its format was said
pub not_ended : (d : Declared) (words : List (List ℕ)) → d.format ≡ false → is_end d words ≡ true → first_broken (rules_of d words) ≡ None → ⊥
unfolding is_end rules_of
not_ended d words unsaid end none = format_first d words d.begun (keyword_of words) unsaid end none

other_word : (a c d e : Bool) → (if a then keyword.Comment else if false then keyword.Format else if c then keyword.NewElement else if d then keyword.NewProperty else if e then keyword.EndHeader else keyword.Unknown) ≡ keyword.Format → ⊥
other_word true c d e is = cc is
other_word false true d e is = cc is
other_word false false true e is = cc is
other_word false false false true is = cc is
other_word false false false false is = cc is

no_format : (words : List (List ℕ)) → says_format words ≡ false → keyword_of words ≡ keyword.Format → ⊥
unfolding keyword_of
no_format [] other is = cc is
no_format (first ∷ rest) other is =
    other_word (is_either first (codes "comment") (codes "obj_info")) (bytes_eq first (codes "element")) (bytes_eq first (codes "property")) (bytes_eq first (codes "end_header"))
    (ap (λ f. if is_either first (codes "comment") (codes "obj_info") then keyword.Comment else if f then keyword.Format else if bytes_eq first (codes "element") then keyword.NewElement
    else if bytes_eq first (codes "property") then keyword.NewProperty else if bytes_eq first (codes "end_header") then keyword.EndHeader else keyword.Unknown) (sym other) ∙ is)

one_element : (d : Declared) (element : Option Element) → (with_one_element d element).format ≡ d.format
one_element d None = refl
one_element d (Some element) = refl

one_property : (d : Declared) (property : Option Property) → (with_one_property d property).format ≡ d.format
one_property d None = refl
one_property d (Some property) = refl

format_by : (d : Declared) (words : List (List ℕ)) (begun : Bool) (word : Keyword) → (word ≡ keyword.Format → ⊥) → (if begun then after_by word d words else with_beginning d).format ≡ d.format
format_by d words false word other = refl
format_by d words true keyword.Blank other = refl
format_by d words true keyword.Comment other = refl
format_by d words true keyword.Format other = absurd (other refl)
format_by d words true keyword.NewElement other = one_element d (element_of (length d.properties) words)
format_by d words true keyword.NewProperty other = one_property d (property_of (last_role d) words)
format_by d words true keyword.EndHeader other = refl
format_by d words true keyword.Unknown other = refl

pub format_kept : (d : Declared) (words : List (List ℕ)) → d.format ≡ false → says_format words ≡ false → (after d words).format ≡ false
unfolding after
format_kept d words unsaid other = format_by d words d.begun (keyword_of words) (no_format words other) ∙ unsaid
