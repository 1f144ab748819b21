-- The node just above a cell that was found, and the cell's face.
use Rattle.std.proofs.Common.{◌≡◌, ℕ, ◌+◌, ◌-◌, ◌*◌, ◌/◌, ◌%◌, ◌^◌, ◌<◌, true, List, Option, None, Some, Ok, Err, refl, sym, ap, subst, ◌∙◌, arith}
use Rattle.std.specs.Prelude.{IfSome}
use Rattle.octree_specs.specs.Cells.{Cell}
use Rattle.octree_specs.specs.Formats.{StandFor}
use Rattle.octree_specs.specs.Walking.{child_number}
use Rattle.node_check.specs.Cursors.{IsParent, GivesFace}
use Rattle.node_check.specs.Walks.{face_at, IsWordOf, has_child, led_to, LeadsOn}
use Rattle.node_check.specs.declared.walking.WalkFault.{WalkFault}
use Rattle.node_check.specs.declared.walking.WalkFault.TheVariants.{Failed, Refused}
use Rattle.node_check.specs.declared.walking.Node.{Node}
use Rattle.node_check.proofs.NextCells.{below_leads}
use Rattle.node_check.proofs.Walks.{led_down, Answers}

pub parent_here : (told : Option (List ℕ)) (records format height code place : ℕ) (node : Node) → height ≡ 1 → place < 8 → IsWordOf told records node.number node.word → has_child node.word place ≡ true
    → IsParent told records format height code node.number (8 * code + place) node
parent_here told records format height code place node low octant own bit = record {
  own = own;
  bit = subst (λ p. has_child node.word p ≡ true) (let e : place ≡ (8 * code + place) % 8 = omega (arith, octant) in e) bit;
  leads = leads_here told;
  led = led_here told;
}
  where
    leads_here : (told : Option (List ℕ)) → IfSome told (λ words. (cells : List Cell) → LeadsOn words format cells height code node.number → LeadsOn words format cells 1 ((8 * code + place) / 8) node.number)
    leads_here None = tt
    leads_here (Some words) = λ cells leads.
        let up : code ≡ (8 * code + place) / 8 = omega (arith, octant) in
        subst (λ n. LeadsOn words format cells 1 n node.number) up (subst (λ h. LeadsOn words format cells h code node.number) low leads)

    led_here : (told : Option (List ℕ)) → IfSome told (λ words. led_to words height (8 * code + place) node.number ≡ led_to words 1 (8 * code + place) node.number)
    led_here None = tt
    led_here (Some words) = ap (λ h. led_to words h (8 * code + place) node.number) low

pub parent_below : (told : Option (List ℕ)) (records format height code place next number word cell : ℕ) (parent : Node) → 1 < height → place < 8 → IsWordOf told records number word → has_child word place ≡ true
    → next ≡ child_number word place → cell / 8 ^ (height - 1) ≡ 8 * code + place → IsParent told records format (height - 1) (8 * code + place) next cell parent
    → IsParent told records format height code number cell parent
parent_below told records format height code place next number word cell parent high octant own bit is there under = record {
  own = under.own;
  bit = under.bit;
  leads = leads_on told own under.leads;
  led = led_on told
      (led_down told (λ words. led_to words height cell number) height cell records number word next (omega (arith, high)) own
      (subst (λ p. has_child word p ≡ true) at bit) (is ∙ ap (child_number word) at) (led_start told)) under.led;
}
  where
    at : place ≡ cell / 8 ^ (height - 1) % 8
    at = omega (arith, there, octant)

    leads_on : (told : Option (List ℕ)) → IsWordOf told records number word
        → IfSome told (λ words. (cells : List Cell) → LeadsOn words format cells (height - 1) (8 * code + place) next → LeadsOn words format cells 1 (cell / 8) parent.number)
        → IfSome told (λ words. (cells : List Cell) → LeadsOn words format cells height code number → LeadsOn words format cells 1 (cell / 8) parent.number)
    leads_on None own on = tt
    leads_on (Some words) own on = λ cells leads. on cells (below_leads format records code number word 0 words cells height place next high octant own.own bit is leads).1

    led_start : (told : Option (List ℕ)) → IfSome told (λ words. led_to words height cell number ≡ led_to words height cell number)
    led_start None = tt
    led_start (Some words) = refl

    led_on : (told : Option (List ℕ)) → IfSome told (λ words. led_to words height cell number ≡ led_to words (height - 1) cell next)
        → IfSome told (λ words. led_to words (height - 1) cell next ≡ led_to words 1 cell parent.number) → IfSome told (λ words. led_to words height cell number ≡ led_to words 1 cell parent.number)
    led_on None first second = tt
    led_on (Some words) first second = first ∙ second

-- ---- the face of a cell that was found

pub given_face : (told : Option (List ℕ)) (format depth code face : ℕ) → Answers told format depth (λ cells. face_at cells code) (Ok (Some face))
    → IfSome told (λ words. (cells : List Cell) → StandFor format depth words cells → GivesFace cells code (Ok face))
given_face None format depth code face given = tt
given_face (Some words) format depth code face given = λ cells stand. sym (given cells stand)

pub refused_face : (told : Option (List ℕ)) (format depth code : ℕ) (fault : WalkFault) → Answers told format depth (λ cells. face_at cells code) (Err fault)
    → IfSome told (λ words. (cells : List Cell) → StandFor format depth words cells → GivesFace cells code (Err fault))
refused_face None format depth code fault given = tt
refused_face (Some words) format depth code Failed given = λ cells stand. tt
refused_face (Some words) format depth code (Refused number word) given = λ cells stand. given cells stand
