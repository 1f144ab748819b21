-- A face put into the slots of some cells and then of others.
use Rattle.std.proofs.Common.{◌≡◌, ℕ, suc, ◌+◌, ◌-◌, ◌*◌, ◌/◌, ◌^◌, ◌<◌, ◌≤◌, List, length, get_or, set, arith, refl, sym, ap, subst, ◌∙◌, get_or-set_same, get_or-set_other, ⊎_elim, inl, inr, ◌⊎◌}
use Rattle.std.proofs.lemmas.Bool.{cases_lt}
use Rattle.std.proofs.Math.Nat.{pow-suc, div-div-eq-div-mul}
use Rattle.svo_base.specs.GridShape.{GridShape}
use Rattle.svo_base.specs.declared.shapes.Triangle.{Triangle}
use Rattle.bit_grid.specs.Slots.{lesser_slot}
use Rattle.octree_specs.specs.Meeting.{Meets}
use Rattle.octree_specs.specs.NodeCube.{node_cube}
use Rattle.morton_scan.specs.Putting.{ArePut, MetUnder, MeetsInPart, first_of_part}

-- where no code is chosen, nothing changes
pub none_put : (Chosen : ℕ → Type 0) (first face : ℕ) (slots : List ℕ) → ((code : ℕ) → Chosen code → ⊥) → ArePut Chosen first face slots slots
none_put Chosen first face slots none = record {
  put = λ place chosen. absurd (none (first + place) chosen);
  others = λ place not_chosen. refl;
}

-- the same codes in other words
pub same_put : (P Q : ℕ → Type 0) (first face : ℕ) (old new : List ℕ) → ((code : ℕ) → P code → Q code) → ((code : ℕ) → Q code → P code) → ArePut P first face old new → ArePut Q first face old new
same_put P Q first face old new there back are_put = record {
  put = λ place chosen. are_put.put place (back (first + place) chosen);
  others = λ place not_chosen. are_put.others place (λ chosen. not_chosen (there (first + place) chosen));
}

-- the slot of one cell that is met
pub put_cell : (grid : GridShape) (t : Triangle) (code first face : ℕ) (old new : List ℕ) → first ≤ code → code - first < length old
    → Meets t (node_cube grid grid.depth code) → new ≡ set old (code - first) (lesser_slot (get_or old (code - first) 0) face)
    → ArePut (MetUnder grid t 0 code (code + 1)) first face old new
put_cell grid t code first face old new from within met is = record {
  put = λ place chosen.
      let low = chosen.0 in
      let high = chosen.1.0 in
      let same : place ≡ code - first = omega (arith, low, high) in
      rw (is, same) (get_or-set_same old (code - first) (lesser_slot (get_or old (code - first) 0) face) 0 within);
  others = λ place not_chosen.
      let apart : place ≡ code - first → ⊥ = λ same.
      let here : first + place ≡ code = omega (arith, same) in
      not_chosen (omega (arith, here), (omega (arith, here), subst (λ n. Meets t (node_cube grid grid.depth n)) (sym here) met)) in
      rw is (get_or-set_other old (code - first) place (lesser_slot (get_or old (code - first) 0) face) 0 apart);
}

-- the codes of one choice are those of two others, which have none in common
pub record Joins (P Q R : ℕ → Type 0) : Type 0 where
  pub either : (code : ℕ) → R code → P code ⊎ Q code
  pub one : (code : ℕ) → P code → R code
  pub other : (code : ℕ) → Q code → R code
  pub apart : (code : ℕ) → P code → Q code → ⊥

-- a face that is put into one choice and then into another is put into both
pub put_joined : (P Q R : ℕ → Type 0) (first face : ℕ) (old middle new : List ℕ) → Joins P Q R → ArePut P first face old middle → ArePut Q first face middle new → ArePut R first face old new
put_joined P Q R first face old middle new joins before then = record {
  put = λ place chosen.
      ⊎_elim
      (λ one. then.others place (λ other. joins.apart (first + place) one other) ∙ before.put place one)
      (λ other. then.put place other ∙ ap (λ slot. lesser_slot slot face) (before.others place (λ one. joins.apart (first + place) one other)))
      (joins.either (first + place) chosen);
  others = λ place not_chosen.
      then.others place (λ other. not_chosen (joins.other (first + place) other)) ∙ before.others place (λ one. not_chosen (joins.one (first + place) one));
}

-- of the chosen codes, those that a number of theirs puts into a range
abbrev pub Keyed : (ℕ → ℕ) → ℕ → ℕ → (ℕ → Type 0) → ℕ → Type 0
Keyed key from to Chosen code = (from ≤ key code) × ((key code < to) × Chosen code)

-- a range that grows by one
pub range_grows : (key : ℕ → ℕ) (from at : ℕ) (Chosen : ℕ → Type 0) → from ≤ at → Joins (Keyed key from at Chosen) (Keyed key at (at + 1) Chosen) (Keyed key from (at + 1) Chosen)
range_grows key from at Chosen row = record {
  either = λ code chosen. elim (cases_lt (key code) at) [
    | inl below ↦ inl (chosen.0, (below, chosen.1.1))
    | inr above ↦ inr (above, (chosen.1.0, chosen.1.1))
  ];
  one = λ code chosen. (chosen.0, (omega (arith, chosen.1.0), chosen.1.1));
  other = λ code chosen. (omega (arith, chosen.0, row), (chosen.1.0, chosen.1.1));
  apart = λ code one other. absurd (omega (arith, one.1.0, other.0));
}

-- two choices are joined within a range too
pub joined_within : (key : ℕ → ℕ) (from to : ℕ) (P Q R : ℕ → Type 0) → Joins P Q R → Joins (Keyed key from to P) (Keyed key from to Q) (Keyed key from to R)
joined_within key from to P Q R joins = record {
  either = λ code chosen. elim (joins.either code chosen.1.1) [
    | inl one ↦ inl (chosen.0, (chosen.1.0, one))
    | inr other ↦ inr (chosen.0, (chosen.1.0, other))
  ];
  one = λ code chosen. (chosen.0, (chosen.1.0, joins.one code chosen.1.1));
  other = λ code chosen. (chosen.0, (chosen.1.0, joins.other code chosen.1.1));
  apart = λ code one other. joins.apart code one.1.1 other.1.1;
}

-- a node is passed after those before it
pub put_next : (grid : GridShape) (t : Triangle) (height from to first face : ℕ) (old middle new : List ℕ) → from ≤ to
    → ArePut (MetUnder grid t height from to) first face old middle → ArePut (MetUnder grid t height to (to + 1)) first face middle new
    → ArePut (MetUnder grid t height from (to + 1)) first face old new
put_next grid t height from to first face old middle new row before then =
    put_joined (MetUnder grid t height from to) (MetUnder grid t height to (to + 1)) (MetUnder grid t height from (to + 1)) first face old middle new
    (range_grows (λ code. code / 8 ^ height) from to (λ code. Meets t (node_cube grid grid.depth code)) row) before then

-- no node is passed yet
pub put_no_node : (grid : GridShape) (t : Triangle) (height from first face : ℕ) (slots : List ℕ) → ArePut (MetUnder grid t height from from) first face slots slots
put_no_node grid t height from first face slots =
    none_put (MetUnder grid t height from from) first face slots (λ code chosen. absurd (omega (arith, chosen.0, chosen.1.0)))

-- a code under a node is one under its children
pub one_higher : (code height : ℕ) → code / 8 ^ height / 8 ≡ code / 8 ^ suc height
one_higher code height =
    let power : 8 ^ height * 8 ≡ 8 ^ suc height = sym (pow-suc 8 height) in
    div-div-eq-div-mul code (8 ^ height) 8 ∙ ap (λ n. code / n) power

-- all eight children are passed
pub put_children : (grid : GridShape) (t : Triangle) (lower height node first face : ℕ) (old new : List ℕ) → height ≡ suc lower
    → ArePut (MetUnder grid t lower (8 * node) (8 * node + 8)) first face old new → ArePut (MetUnder grid t height node (node + 1)) first face old new
put_children grid t lower height node first face old new up are_put =
    let higher : (code : ℕ) → code / 8 ^ lower / 8 ≡ code / 8 ^ height = λ code. one_higher code lower ∙ ap (λ h. code / 8 ^ h) (sym up) in
    same_put (MetUnder grid t lower (8 * node) (8 * node + 8)) (MetUnder grid t height node (node + 1)) first face old new
    (λ code chosen. (omega (arith, higher code, chosen.0), (omega (arith, higher code, chosen.1.0), chosen.1.1)))
    (λ code chosen. (omega (arith, higher code, chosen.0), (omega (arith, higher code, chosen.1.0), chosen.1.1)))
    are_put

-- the cells under a part's node are the part's
pub put_part : (grid : GridShape) (t : Triangle) (split part height code first face : ℕ) (old new : List ℕ) → height ≡ grid.depth - split → code ≡ part → first ≡ first_of_part grid split part
    → ArePut (MetUnder grid t height code (code + 1)) first face old new → ArePut (MeetsInPart grid split part t) (first_of_part grid split part) face old new
put_part grid t split part height code first face old new is_height is_code is_first are_put =
    let there : (code : ℕ) → MetUnder grid t (grid.depth - split) part (part + 1) code → MeetsInPart grid split part t code = λ code chosen. (omega (arith, chosen.0, chosen.1.0), chosen.1.1) in
    let back : (code : ℕ) → MeetsInPart grid split part t code → MetUnder grid t (grid.depth - split) part (part + 1) code = λ code chosen. (omega (arith, chosen.0), (omega (arith, chosen.0), chosen.1)) in
    same_put (MetUnder grid t (grid.depth - split) part (part + 1)) (MeetsInPart grid split part t) (first_of_part grid split part) face old new there back
    (subst (λ f. ArePut (MetUnder grid t (grid.depth - split) part (part + 1)) f face old new) is_first
    (subst (λ h. ArePut (MetUnder grid t h part (part + 1)) first face old new) is_height
    (subst (λ c. ArePut (MetUnder grid t height c (c + 1)) first face old new) is_code are_put)))

-- the row of children that are passed grows by one
pub put_child : (grid : GridShape) (t : Triangle) (lower from place height code first face : ℕ) (old middle new : List ℕ) → height ≡ lower → code ≡ from + place
    → ArePut (MetUnder grid t lower from (from + place)) first face old middle → ArePut (MetUnder grid t height code (code + 1)) first face middle new
    → ArePut (MetUnder grid t lower from (from + (place + 1))) first face old new
put_child grid t lower from place height code first face old middle new is_height is_code before then =
    let next : from + place + 1 ≡ from + (place + 1) = omega arith in
    let last : ArePut (MetUnder grid t lower (from + place) (from + place + 1)) first face middle new =
    subst (λ n. ArePut (MetUnder grid t lower n (n + 1)) first face middle new) is_code
    (subst (λ h. ArePut (MetUnder grid t h code (code + 1)) first face middle new) is_height then) in
    subst (λ n. ArePut (MetUnder grid t lower from n) first face old new) next (put_next grid t lower from (from + place) first face old middle new (omega arith) before last)
