-- How many vertices and faces there are.
use Rattle.std.proofs.Common.{◌≡◌, ◌≢◌, ◌^◌, ◌<◌, false, not, length, refl, sym, ap, ◌∙◌, subst, arith, ⊎_elim}
use Rattle.std.proofs.lemmas.Bool.{cases_lt}
use Rattle.std.proofs.lemmas.List.{get_or_past}
use Rattle.std.proofs.lemmas.List.Elements.{All-get_or}
use Rattle.std.proofs.lemmas.List.Sums.{prefix_len_stops}
use Rattle.ply_reader.specs.declared.elements.Element.{Element}
use Rattle.ply_reader.specs.declared.elements.Role.{Role}
use Rattle.ply_reader.specs.declared.elements.Role.TheVariants.{Vertex, Face, Other}
use Rattle.ply_reader.specs.Ranges.{IsFew, AreFew}
use Rattle.ply_reader.specs.Declarations.{Declared, is_role}
use Rattle.ply_reader.specs.Layout.{first_of, no_element, element_in}

-- an element that is in the role asked for is not another one
not_other : (role : Role) → role ≢ Other → (element : Element) → not (is_role role element.role) ≡ false → element.role ≢ Other
not_other Vertex asked element found other = let no : not (is_role Vertex Other) ≡ false = ap (λ r. not (is_role Vertex r)) (sym other) ∙ found in cc no
not_other Face asked element found other = let no : not (is_role Face Other) ≡ false = ap (λ r. not (is_role Face r)) (sym other) ∙ found in cc no
not_other Other asked element found other = asked refl

pub few_in : (role : Role) → role ≢ Other → (d : Declared) → AreFew d.elements → (element_in role d).count < 2 ^ 32
few_in role asked d few =
    let at = first_of role d in
    let test = λ (element : Element). not (is_role role element.role) in
    ⊎_elim
    (λ within. All-get_or IsFew d.elements at no_element within few (not_other role asked (element_in role d) (prefix_len_stops test d.elements no_element within)))
    (λ past. let none : element_in role d ≡ no_element = get_or_past d.elements at no_element past in subst (λ e. e.count < 2 ^ 32) (sym none) (omega arith))
    (cases_lt at (length d.elements))
