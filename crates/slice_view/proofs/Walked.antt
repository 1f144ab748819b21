-- What is painted under a node whose words are told.
use Rattle.std.proofs.Common.{◌≡◌, ℕ, zero, suc, ◌+◌, ◌-◌, ◌*◌, ◌/◌, ◌^◌, ◌<◌, ◌≤◌, true, false, is_some, List, length, Option, None, Some, Ok, Err, refl, sym, ap, subst, ◌∙◌, inl, inr, arith}
use Rattle.std.specs.Prelude.{◌&&◌, ⊤, slice_index, IfSome, Result}
use Rattle.std.proofs.Math.ListN.{set}
use Rattle.std.proofs.lemmas.Bool.{and_parts, and_cases}
use Rattle.octree_specs.specs.Cells.{Cell}
use Rattle.octree_specs.specs.Formats.{face_leaves}
use Rattle.octree_specs.specs.Octree.{is_nonempty}
use Rattle.octree_specs.specs.Walking.{child_number}
use Rattle.octree_laws.proofs.Under.{empty_below}
use Rattle.node_check.specs.Walks.{face_at, has_child, IsWordOf, LeadsOn}
use Rattle.node_check.specs.declared.walking.WalkFault.{WalkFault}
use Rattle.node_check.specs.declared.walking.WalkFault.TheVariants.{Failed, Refused}
use Rattle.node_check.proofs.NextCells.{below_leads}
use Rattle.node_check.proofs.Walks.{none_at, filled_is, mask_at}
use Rattle.slice_view.specs.Bands.{IsBand, IsSquare, ArePainted, PaintsUnder, band_size, cell_of, crosses}
use Rattle.slice_view.specs.declared.bands.Band.{Band}
use Rattle.slice_view.specs.declared.squares.Square.{Square}
use Rattle.slice_view.proofs.Places.{sample_number}
use Rattle.slice_view.proofs.Painted.{none_painted, painted_next, painted_children, none_crossed, cell_painted}

-- the children from the first one up to another are painted
abbrev pub Painted : Option (List ℕ) → Band → (format height code number : ℕ) → (old new : List ℕ) → (end : ℕ) → Type 0
Painted told band format height code number old new end = IfSome told (λ words. (cells : List Cell) → LeadsOn words format cells height code number → ArePainted band cells (height - 1) (8 * code) end old new)

abbrev pub Under : Option (List ℕ) → Band → (format height code number : ℕ) → (old new : List ℕ) → Result ⊤ WalkFault → Type 0
Under told band format height code number old new result = IfSome told (λ words. (cells : List Cell) → LeadsOn words format cells height code number → PaintsUnder band cells height code old new result)

-- a child of a node, and what a band sees of it
pub record IsChild (band : Band) (height code place : ℕ) (child : Square) : Type 0 where
  pub band_is : IsBand band
  pub square : IsSquare band.depth band.axis child
  pub height_is : child.height ≡ height - 1
  pub code_is : child.code ≡ 8 * code + place
  pub octant : place < 8
  pub high : 0 < height

module _ (words : List ℕ) (format : ℕ) (cells : List Cell) (height code number : ℕ) (leads : LeadsOn words format cells (suc height) code number) (word : ℕ) (own : word ≡ slice_index words number) (place : ℕ) (octant : place < 8) where
  filled_child : is_nonempty (face_leaves cells) height (8 * code + place) ≡ has_child word place
  filled_child = mask_at words format cells height code number leads.masks place octant ∙ ap (λ w. has_child w place) (sym own)

  empty_child : has_child word place ≡ false → (c : ℕ) → c / 8 ^ height ≡ 8 * code + place → is_some (face_at cells c) ≡ false
  empty_child none c up = ap is_some (none_at cells c (empty_below (face_leaves cells) height c (ap (is_nonempty (face_leaves cells) height) up ∙ (filled_child ∙ none))))

  full_cell : height ≡ 0 → has_child word place ≡ true → is_some (face_at cells (8 * code + place)) ≡ true
  full_cell low bit =
      sym (filled_is cells (8 * code + place)) ∙ (subst (λ h. is_nonempty (face_leaves cells) h (8 * code + place) ≡ has_child word place) low filled_child ∙ bit)

module _ (band : Band) (format records code number word : ℕ) where
  pub first_painted : (told : Option (List ℕ)) (height : ℕ) (block : List ℕ) → Painted told band format height code number block block (8 * code + 0)
  first_painted None height block = tt
  first_painted (Some words) height block = λ cells leads. none_painted band cells (height - 1) (8 * code) (8 * code + 0) block (λ number below low high. absurd (omega (arith, low, high)))

  -- a child that is not there, or not crossed
  pub passed_painted : (told : Option (List ℕ)) (height place : ℕ) (child : Square) (old new : List ℕ) → IsChild band height code place child → IsWordOf told records number word
      → (has_child word place && crosses band child) ≡ false → Painted told band format height code number old new (8 * code + place) → Painted told band format height code number old new (8 * code + (place + 1))
  passed_painted None height place child old new is own missed before = tt
  passed_painted (Some words) zero place child old new is own missed before = absurd (omega (arith, is.high))
  passed_painted (Some words) (suc height) place child old new is own missed before = λ cells leads.
      let next : 8 * code + place + 1 ≡ 8 * code + (place + 1) = omega arith in
      let down : suc height - 1 ≡ height = omega arith in
      let none : ArePainted band cells (suc height - 1) (8 * code + place) (8 * code + place + 1) new new =
      elim (and_cases (has_child word place) (crosses band child) missed) [
        | inl empty ↦ none_painted band cells (suc height - 1) (8 * code + place) (8 * code + place + 1) new
            (λ n below low high. empty_child words format cells height code number leads word own.own place is.octant empty (cell_of band n)
            (subst (λ h. cell_of band n / 8 ^ h ≡ 8 * code + place) down (omega (arith, low, high))))
        | inr apart ↦ subst (λ h. ArePainted band cells h (8 * code + place) (8 * code + place + 1) new new) is.height_is
            (subst (λ c. ArePainted band cells child.height c (c + 1) new new) is.code_is (none_crossed band child cells new is.band_is is.square apart))
      ] in
      subst (λ end. ArePainted band cells (suc height - 1) (8 * code) end old new) next
      (painted_next band cells (suc height - 1) (8 * code) (8 * code + place) (8 * code + place + 1) old new new (omega arith) (omega arith) (before cells leads) none)

  -- a filled cell that the band shows
  pub cell_added : (told : Option (List ℕ)) (height place : ℕ) (child : Square) (old new : List ℕ) → IsChild band height code place child → IsWordOf told records number word → child.height ≡ 0
      → (has_child word place && crosses band child) ≡ true → band_size band ≤ length new
      → Painted told band format height code number old new (8 * code + place) → Painted told band format height code number old (set new (sample_number band child) 255) (8 * code + (place + 1))
  cell_added None height place child old new is own leaf here room before = tt
  cell_added (Some words) zero place child old new is own leaf here room before = absurd (omega (arith, is.high))
  cell_added (Some words) (suc height) place child old new is own leaf here room before = λ cells leads.
      let next : 8 * code + place + 1 ≡ 8 * code + (place + 1) = omega arith in
      let low : 0 ≡ suc height - 1 = omega (arith, leaf, is.height_is) in
      let parts : (has_child word place ≡ true) × (crosses band child ≡ true) = and_parts (has_child word place) (crosses band child) here in
      let filled : is_some (face_at cells child.code) ≡ true =
      ap (λ c. is_some (face_at cells c)) is.code_is ∙ full_cell words format cells height code number leads word own.own place is.octant (omega (arith, low)) parts.0 in
      let one : ArePainted band cells 0 child.code (child.code + 1) new (set new (sample_number band child) 255) = cell_painted band child cells new is.band_is is.square leaf parts.1 filled room in
      let there : ArePainted band cells (suc height - 1) (8 * code + place) (8 * code + place + 1) new (set new (sample_number band child) 255) =
      subst (λ h. ArePainted band cells h (8 * code + place) (8 * code + place + 1) new (set new (sample_number band child) 255)) low
      (subst (λ c. ArePainted band cells 0 c (c + 1) new (set new (sample_number band child) 255)) is.code_is one) in
      subst (λ end. ArePainted band cells (suc height - 1) (8 * code) end old (set new (sample_number band child) 255)) next
      (painted_next band cells (suc height - 1) (8 * code) (8 * code + place) (8 * code + place + 1) old new (set new (sample_number band child) 255) (omega arith) (omega arith) (before cells leads) there)

  pub node_added : (told : Option (List ℕ)) (height place next : ℕ) (child : Square) (old mid new : List ℕ) → IsChild band height code place child → 1 < height → IsWordOf told records number word
      → (has_child word place && crosses band child) ≡ true → next ≡ child_number word place → Under told band format child.height child.code next mid new (Ok tt)
      → Painted told band format height code number old mid (8 * code + place) → Painted told band format height code number old new (8 * code + (place + 1))
  node_added None height place next child old mid new is high own here number_is under before = tt
  node_added (Some words) height place next child old mid new is high own here number_is under before = λ cells leads.
      let step : 8 * code + place + 1 ≡ 8 * code + (place + 1) = omega arith in
      let parts : (has_child word place ≡ true) × (crosses band child ≡ true) = and_parts (has_child word place) (crosses band child) here in
      let below : LeadsOn words format cells (height - 1) (8 * code + place) next = (below_leads format records code number word 0 words cells height place next high is.octant own.own parts.0 number_is leads).1 in
      let led : LeadsOn words format cells child.height child.code next = subst (λ h. LeadsOn words format cells h child.code next) (sym is.height_is) (subst (λ c. LeadsOn words format cells (height - 1) c next) (sym is.code_is) below) in
      let one : ArePainted band cells child.height child.code (child.code + 1) mid new = under cells led in
      let there : ArePainted band cells (height - 1) (8 * code + place) (8 * code + place + 1) mid new =
      subst (λ h. ArePainted band cells h (8 * code + place) (8 * code + place + 1) mid new) is.height_is (subst (λ c. ArePainted band cells child.height c (c + 1) mid new) is.code_is one) in
      subst (λ end. ArePainted band cells (height - 1) (8 * code) end old new) step
      (painted_next band cells (height - 1) (8 * code) (8 * code + place) (8 * code + place + 1) old mid new (omega arith) (omega arith) (before cells leads) there)

  pub all_painted : (told : Option (List ℕ)) (height : ℕ) (old new : List ℕ) → 0 < height → Painted told band format height code number old new (8 * code + 8) → Under told band format height code number old new (Ok tt)
  all_painted None height old new high before = tt
  all_painted (Some words) zero old new high before = absurd (omega (arith, high))
  all_painted (Some words) (suc height) old new high before = λ cells leads.
      let down : suc height - 1 ≡ height = omega arith in
      painted_children band cells height code old new (subst (λ h. ArePainted band cells h (8 * code) (8 * code + 8) old new) down (before cells leads))

  pub child_fails : (told : Option (List ℕ)) (height place : ℕ) (old new : List ℕ) (fault : WalkFault) → 1 < height → place < 8 → IsWordOf told records number word → has_child word place ≡ true
      → (child_number word place < number → fault ≡ Failed) → Under told band format height code number old new (Err fault)
  child_fails None height place old new fault high octant own bit below = tt
  child_fails (Some words) height place old new fault high octant own bit below = λ cells leads.
      subst (λ f. PaintsUnder band cells height code old new (Err f)) (sym (below (below_leads format records code number word 0 words cells height place (child_number word place) high octant own.own bit refl leads).0)) tt

  pub under_fails : (told : Option (List ℕ)) (height place next : ℕ) (child : Square) (old mid new : List ℕ) (fault : WalkFault) → IsChild band height code place child → 1 < height → IsWordOf told records number word
      → (has_child word place && crosses band child) ≡ true → next ≡ child_number word place → Under told band format child.height child.code next mid new (Err fault) → Under told band format height code number old new (Err fault)
  under_fails None height place next child old mid new fault is high own here number_is under = tt
  under_fails (Some words) height place next child old mid new Failed is high own here number_is under = λ cells leads. tt
  under_fails (Some words) height place next child old mid new (Refused n w) is high own here number_is under = λ cells leads.
      let parts : (has_child word place ≡ true) × (crosses band child ≡ true) = and_parts (has_child word place) (crosses band child) here in
      let below : LeadsOn words format cells (height - 1) (8 * code + place) next = (below_leads format records code number word 0 words cells height place next high is.octant own.own parts.0 number_is leads).1 in
      under cells (subst (λ h. LeadsOn words format cells h child.code next) (sym is.height_is) (subst (λ c. LeadsOn words format cells (height - 1) c next) (sym is.code_is) below))
