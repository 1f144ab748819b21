-- The highest cell of a part's column that a triangle is over.
use Rattle.std.proofs.Common.{◌≡◌, ℕ, ◌+◌, ◌-◌, ◌<◌, ◌≤◌, Bool, true, false, List, arith, refl, ap, ◌∙◌, inl, inr, subst, ◌^◌, lit<}
use Rattle.std.proofs.Math.Nat.{pow-le-pow_right}
use Rattle.morton_code.proofs.Coordinates.{code_of_short, code_below}
use Rattle.std.specs.Prelude.{◌⊎◌, ◌&&◌, not, nat_lt, slice_index, set as put_at}
use Rattle.std.proofs.lemmas.Bool.{cases_lt, cases_Bool, ltb-true, lt-ltb}
use Rattle.svo_base.specs.declared.shapes.Triangle.{Triangle}
use Rattle.bit_grid.specs.Slots.{turned_slot}
use Rattle.solid_parity.specs.Notes.{is_highest, place_in, IsNoted}
use Rattle.solid_parity.specs.PartCells.{Part, part_side, is_over_in}
use Rattle.solid_parity.specs.Shapes.{AreUnder}
use Rattle.solid_parity.proofs.Paired.{both_parts}

differ : (b : Bool) → b ≡ true → b ≡ false → ⊥
differ true p q = absurd (cc)
differ false p q = absurd (cc)

not_true : (b : Bool) → not b ≡ true → b ≡ false
not_true true h = absurd (cc)
not_true false h = refl

not_less : (a b : ℕ) → b ≤ a → nat_lt a b ≡ false
not_less a b above = elim (cases_Bool (nat_lt a b)) [
  | inl less ↦ absurd (omega (arith, above, ltb-true a b less))
  | inr other ↦ other
]

over_highest : (p : Part) (t : Triangle) (x y z : ℕ) → is_highest p t x y z ≡ true
    → (is_over_in p.grid p.split p.part t x y z ≡ true) × ((nat_lt (z + 1) (part_side p.grid p.split) && is_over_in p.grid p.split p.part t x y (z + 1)) ≡ false)
unfolding is_highest
over_highest p t x y z h =
    let next : Bool = nat_lt (z + 1) (part_side p.grid p.split) && is_over_in p.grid p.split p.part t x y (z + 1) in
    let parts = both_parts (is_over_in p.grid p.split p.part t x y z) (not next) h in
    (parts.0, not_true next parts.1)

-- it is the last of those that are counted
pub highest_is_last : (p : Part) (t : Triangle) (x y z count : ℕ) → AreUnder p t x y count → z < part_side p.grid p.split → is_highest p t x y z ≡ true → z + 1 ≡ count
highest_is_last p t x y z count under within h =
    let over = over_highest p t x y z h in
    elim (cases_lt z count) [
      | inl below ↦ elim (cases_lt (z + 1) count) [
        | inl further ↦
            let test : nat_lt (z + 1) (part_side p.grid p.split) ≡ true = lt-ltb (z + 1) (part_side p.grid p.split) (omega (arith, further, under.within)) in
            let next : (nat_lt (z + 1) (part_side p.grid p.split) && is_over_in p.grid p.split p.part t x y (z + 1)) ≡ true = rw (test, under.over (z + 1) further) refl in
            absurd (differ _ next over.1)
        | inr last ↦ omega (arith, below, last)
      ]
      | inr above ↦ absurd (differ _ over.0 (under.others z (omega (arith, above)) within))
    ]

pub last_is_highest : (p : Part) (t : Triangle) (x y z count : ℕ) → AreUnder p t x y count → z + 1 ≡ count → is_highest p t x y z ≡ true
unfolding is_highest
last_is_highest p t x y z count under last =
    rw (under.over z (omega (arith, last))) (no_next (cases_lt (z + 1) (part_side p.grid p.split)))
  where
    side : ℕ
    side = part_side p.grid p.split

    no_next : (z + 1 < side) ⊎ (side ≤ z + 1) → not (nat_lt (z + 1) side && is_over_in p.grid p.split p.part t x y (z + 1)) ≡ true
    no_next (inl within) = rw (lt-ltb (z + 1) side within, under.others (z + 1) (omega (arith, last)) within) refl
    no_next (inr outside) = rw (not_less (z + 1) side outside) refl

pub none_noted : (p : Part) (t : Triangle) (x y count : ℕ) (old : List ℕ) → AreUnder p t x y count → count ≤ 0 → IsNoted p t x y old old
none_noted p t x y count old under none = record {
  highest = λ z within h. absurd (omega (arith, none, highest_is_last p t x y z count under within h));
  none = λ _. refl;
}

pub one_noted : (p : Part) (t : Triangle) (x y count place : ℕ) (old new : List ℕ) → AreUnder p t x y count → 0 < count → place ≡ place_in x y (count - 1)
    → new ≡ put_at old place (turned_slot (slice_index old place)) → IsNoted p t x y old new
one_noted p t x y count place old new under some is_place is_new = record {
  highest = λ z within h.
      let last : count - 1 ≡ z = omega (arith, highest_is_last p t x y z count under within h) in
      let where_it_is : place ≡ place_in x y z = is_place ∙ ap (λ k. place_in x y k) last in
      subst (λ at. new ≡ put_at old at (turned_slot (slice_index old at))) where_it_is is_new;
  none = λ lower.
      let z : ℕ = count - 1 in
      absurd (differ _ (last_is_highest p t x y z count under (omega (arith, some))) (lower z (omega (arith, some, under.within))));
}

-- such a cell has a slot
pub place_within : (height x y z place slots : ℕ) → 2 ^ height ≤ 2 ^ 12 → x < 2 ^ height → y < 2 ^ height → z < 2 ^ height → place ≡ place_in x y z → 8 ^ height ≤ slots → place < slots
place_within height x y z place slots short below_x below_y below_z is enough =
    let shallow : height ≤ 20 = elim (cases_lt 20 height) [
      | inl deep ↦
          let most : 2 ^ 21 ≤ 2 ^ height = pow-le-pow_right {n = 2} (lit< tt) {i = 21} {j = height} (omega (arith, deep)) in absurd (omega (arith, most, short))
      | inr shallow ↦ shallow
    ]
    in
    omega (arith, is, enough, code_of_short height 20 x y z shallow below_x below_y below_z, code_below height x y z)
