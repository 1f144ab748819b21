-- The next filled cell below a node.
use Rattle.std.proofs.Common.{◌≡◌, ℕ, zero, suc, ◌+◌, ◌-◌, ◌*◌, ◌/◌, ◌^◌, ◌<◌, ◌≤◌, Bool, true, false, cond, is_some, List, [], ◌∷◌, Option, None, Some, Result, Ok, Err, refl, sym, ap, subst, ◌∙◌, ◌⊎◌, inl, inr, arith, lit<, lit≤}
use Rattle.std.specs.Prelude.{◌==◌, not, nat_lt, slice_index, All, IfSome, IfOk}
use Rattle.std.proofs.Math.Nat.{pow-suc, one-le-pow, pow-le-pow_right, div-eq_of_lt, div-mul-le_self}
use Rattle.std.proofs.lemmas.Nat.{le-div}
use Rattle.std.proofs.lemmas.Bool.{cases_Bool, ltb-false, ltb-true, or_parts, or_cases, ne_eqb}
use Rattle.std.proofs.lemmas.List.Elements.{All-head, All-tail}
use Rattle.svo_base.specs.declared.grids.TheConstants.{MAX_DEPTH}
use Rattle.octree_specs.specs.Cells.{Cell}
use Rattle.octree_specs.specs.Formats.{StandFor, face_leaves}
use Rattle.octree_specs.specs.Octree.{is_nonempty}
use Rattle.octree_specs.specs.Walking.{child_number}
use Rattle.octree_laws.proofs.Under.{div-up, div-leaf, empty_below}
use Rattle.node_check.specs.Walks.{face_at, has_child, passes, IsWordOf, LeadsOn, IsNextUnder, GivesNextUnder, GivesNext}
use Rattle.node_check.specs.declared.walking.WalkFault.{WalkFault}
use Rattle.node_check.specs.declared.walking.WalkFault.TheVariants.{Failed, Refused}
use Rattle.node_check.proofs.Walks.{none_at, filled_is, mask_at, child_leads}

-- no cell from a number on lies below the nodes of this height from one up to another
abbrev pub AreNone : List Cell → (height from first end : ℕ) → Type 0
AreNone cells height from first end = (c : ℕ) → first ≤ c / 8 ^ height → c / 8 ^ height < end → from ≤ c → face_at cells c ≡ None

le_or_same : (m n : ℕ) → m ≤ n → (m < n) ⊎ (m ≡ n)
le_or_same m n below = elim (cases_Bool (nat_lt m n)) [
  | inl less ↦ inl (ltb-true m n less)
  | inr not_less ↦ inr (omega (arith, below, ltb-false m n not_less))
]

div_up_to : (a b power : ℕ) → 0 < power → a ≤ b → a / power ≤ b / power
div_up_to a b power some below = le-div (a / power) b power some (omega (arith, below, div-mul-le_self a power))

pub power_some : (height : ℕ) → 0 < 8 ^ height
power_some height = omega (arith, one-le-pow height 8 (lit< tt))

not_true : (b : Bool) → not b ≡ true → b ≡ false
not_true true is = absurd (cc)
not_true false is = refl

-- below a child there is none: one more
one_more : (cells : List Cell) (height from first child : ℕ) → AreNone cells height from first child → ((c : ℕ) → c / 8 ^ height ≡ child → from ≤ c → face_at cells c ≡ None)
    → AreNone cells height from first (child + 1)
one_more cells height from first child before here = λ c low high above.
    elim (le_or_same (c / 8 ^ height) child (omega (arith, high))) [
      | inl less ↦ before c low less above
      | inr same ↦ here c same above
    ]

-- the codes below a node lie below its children
child_low : (c height code : ℕ) → c / 8 ^ suc height ≡ code → 8 * code ≤ c / 8 ^ height
child_low c height code up = omega (arith, up, div-up c height)

child_high : (c height code : ℕ) → c / 8 ^ suc height ≡ code → c / 8 ^ height < 8 * code + 8
child_high c height code up = omega (arith, up, div-up c height)

module _ (words : List ℕ) (format : ℕ) (cells : List Cell) (height code number : ℕ) (leads : LeadsOn words format cells (suc height) code number) (word : ℕ) (own : word ≡ slice_index words number)
    (from place : ℕ) (octant : place < 8) where
  filled_child : is_nonempty (face_leaves cells) height (8 * code + place) ≡ has_child word place
  filled_child = mask_at words format cells height code number leads.masks place octant ∙ ap (λ w. has_child w place) (sym own)

  empty_child : has_child word place ≡ false → (c : ℕ) → c / 8 ^ height ≡ 8 * code + place → face_at cells c ≡ None
  empty_child none c up = none_at cells c (empty_below (face_leaves cells) height c (ap (is_nonempty (face_leaves cells) height) up ∙ (filled_child ∙ none)))

  passed_child : passes word place (8 * code + place) (from / 8 ^ height) ≡ true → (c : ℕ) → c / 8 ^ height ≡ 8 * code + place → from ≤ c → face_at cells c ≡ None
  passed_child passed c up above = elim (or_cases (nat_lt (8 * code + place) (from / 8 ^ height)) (not (has_child word place)) passed) [
    | inl before ↦ absurd (omega (arith, up, ltb-true (8 * code + place) (from / 8 ^ height) before, div_up_to from c (8 ^ height) (power_some height) above))
    | inr empty ↦ empty_child (not_true (has_child word place) empty) c up
  ]

  found_child : (child : ℕ) → child ≡ 8 * code + place → height ≡ 0 → has_child word place ≡ true → is_some (face_at cells child) ≡ true
  found_child child here low bit =
      sym (filled_is cells child)
      ∙ (ap (is_nonempty (face_leaves cells) 0) here ∙ (subst (λ h. is_nonempty (face_leaves cells) h (8 * code + place) ≡ has_child word place) low filled_child ∙ bit))

-- ---- the same of told words

abbrev pub Nones : Option (List ℕ) → (format height code number from end : ℕ) → Type 0
Nones told format height code number from end = IfSome told (λ words. (cells : List Cell) → LeadsOn words format cells height code number → AreNone cells (height - 1) from (8 * code) end)

abbrev pub Unders : Option (List ℕ) → (format height code number from : ℕ) → Result (Option ℕ) WalkFault → Type 0
Unders told format height code number from result = IfSome told (λ words. (cells : List Cell) → LeadsOn words format cells height code number → GivesNextUnder cells height code from result)

module _ (format records code number word from : ℕ) where
  pub none_first : (told : Option (List ℕ)) (height : ℕ) → Nones told format height code number from (8 * code + 0)
  none_first None height = tt
  none_first (Some words) height = λ cells leads c low high above. absurd (omega (arith, low, high))

  pub none_passed : (told : Option (List ℕ)) (height place : ℕ) → 0 < height → place < 8 → IsWordOf told records number word → passes word place (8 * code + place) (from / 8 ^ (height - 1)) ≡ true
      → Nones told format height code number from (8 * code + place) → Nones told format height code number from (8 * code + (place + 1))
  none_passed None height place high octant own passed before = tt
  none_passed (Some words) zero place high octant own passed before = absurd (omega (arith, high))
  none_passed (Some words) (suc height) place high octant own passed before = λ cells leads.
      let e : 8 * code + place + 1 ≡ 8 * code + (place + 1) = omega arith in
      let down : suc height - 1 ≡ height = omega arith in
      let here : passes word place (8 * code + place) (from / 8 ^ height) ≡ true = subst (λ h. passes word place (8 * code + place) (from / 8 ^ h) ≡ true) down passed in
      subst (λ h. AreNone cells h from (8 * code) (8 * code + (place + 1))) (sym down)
      (subst (AreNone cells height from (8 * code)) e
      (one_more cells height from (8 * code) (8 * code + place) (subst (λ h. AreNone cells h from (8 * code) (8 * code + place)) down (before cells leads))
      (passed_child words format cells height code number leads word own.own from place octant here)))

  -- the child that was walked to
  pub below_leads : (words : List ℕ) (cells : List Cell) (height place next : ℕ) → 1 < height → place < 8 → word ≡ slice_index words number → has_child word place ≡ true → next ≡ child_number word place
      → LeadsOn words format cells height code number → (child_number word place < number) × LeadsOn words format cells (height - 1) (8 * code + place) next
  below_leads words cells zero place next high octant own bit is leads = absurd (omega (arith, high))
  below_leads words cells (suc zero) place next high octant own bit is leads = absurd (omega (arith, high))
  below_leads words cells (suc (suc height)) place next high octant own bit is leads =
      let down : suc (suc height) - 1 ≡ suc height = omega arith in
      let there : (child_number (slice_index words number) place < number) × LeadsOn words format cells (suc height) (8 * code + place) (child_number (slice_index words number) place) =
      child_leads words format cells height code number place leads octant (subst (λ w. has_child w place ≡ true) own bit) in
      let same : (child_number word place < number) × LeadsOn words format cells (suc height) (8 * code + place) (child_number word place) =
      subst (λ w. (child_number w place < number) × LeadsOn words format cells (suc height) (8 * code + place) (child_number w place)) (sym own) there in
      (same.0, subst (λ h. LeadsOn words format cells h (8 * code + place) next) (sym down) (subst (LeadsOn words format cells (suc height) (8 * code + place)) (sym is) same.1))

  pub none_child : (told : Option (List ℕ)) (height place next : ℕ) → 1 < height → place < 8 → IsWordOf told records number word → has_child word place ≡ true → next ≡ child_number word place
      → Unders told format (height - 1) (8 * code + place) next from (Ok None)
      → Nones told format height code number from (8 * code + place) → Nones told format height code number from (8 * code + (place + 1))
  none_child None height place next high octant own bit is under before = tt
  none_child (Some words) height place next high octant own bit is under before = λ cells leads.
      let e : 8 * code + place + 1 ≡ 8 * code + (place + 1) = omega arith in
      subst (AreNone cells (height - 1) from (8 * code)) e
      (one_more cells (height - 1) from (8 * code) (8 * code + place) (before cells leads) (under cells (below_leads words cells height place next high octant own.own bit is leads).1))

  pub found_here : (told : Option (List ℕ)) (height place : ℕ) → height ≡ 1 → place < 8 → IsWordOf told records number word → has_child word place ≡ true
      → Nones told format height code number from (8 * code + place) → Unders told format height code number from (Ok (Some (8 * code + place)))
  found_here None height place low octant own bit before = tt
  found_here (Some words) height place low octant own bit before = λ cells leads.
      let one : LeadsOn words format cells 1 code number = subst (λ h. LeadsOn words format cells h code number) low leads in
      let none : AreNone cells 0 from (8 * code) (8 * code + place) = subst (λ h. AreNone cells (h - 1) from (8 * code) (8 * code + place)) low (before cells leads) in (
        found_child words format cells 0 code number one word own.own from place octant (8 * code + place) refl refl bit,
        λ c up above less.
            let here : c / 8 ^ 1 ≡ code = subst (λ h. c / 8 ^ h ≡ code) low up in
            none c (child_low c 0 code here) (omega (arith, less, div-leaf c)) above,
      )

  pub found_below : (told : Option (List ℕ)) (height place next cell : ℕ) → 1 < height → place < 8 → IsWordOf told records number word → has_child word place ≡ true → next ≡ child_number word place
      → cell / 8 ^ (height - 1) ≡ 8 * code + place → Unders told format (height - 1) (8 * code + place) next from (Ok (Some cell))
      → Nones told format height code number from (8 * code + place) → Unders told format height code number from (Ok (Some cell))
  found_below None height place next cell high octant own bit is there under before = tt
  found_below (Some words) zero place next cell high octant own bit is there under before = absurd (omega (arith, high))
  found_below (Some words) (suc lower) place next cell high octant own bit is there under before = λ cells leads.
      let down : suc lower - 1 ≡ lower = omega arith in
      let below : IsNextUnder cells (suc lower - 1) (8 * code + place) from (Some cell) = under cells (below_leads words cells (suc lower) place next high octant own.own bit is leads).1 in (
        below.0,
        λ c up above less.
            let low : 8 * code ≤ c / 8 ^ (suc lower - 1) = subst (λ h. 8 * code ≤ c / 8 ^ h) (sym down) (child_low c lower code up) in
            let most : c / 8 ^ (suc lower - 1) ≤ 8 * code + place =
            omega (arith, there, div_up_to c cell (8 ^ (suc lower - 1)) (power_some (suc lower - 1)) (omega (arith, less))) in
            elim (le_or_same (c / 8 ^ (suc lower - 1)) (8 * code + place) most) [
              | inl before_it ↦ before cells leads c low before_it above
              | inr same ↦ below.1 c same above less
            ],
      )

  pub none_all : (told : Option (List ℕ)) (height : ℕ) → 0 < height → Nones told format height code number from (8 * code + 8) → Unders told format height code number from (Ok None)
  none_all None height high before = tt
  none_all (Some words) zero high before = absurd (omega (arith, high))
  none_all (Some words) (suc height) high before = λ cells leads c up above.
      let down : suc height - 1 ≡ height = omega arith in
      subst (λ h. AreNone cells h from (8 * code) (8 * code + 8)) down (before cells leads) c (child_low c height code up) (child_high c height code up) above

  pub child_fails : (told : Option (List ℕ)) (height place : ℕ) (fault : WalkFault) → 1 < height → place < 8 → IsWordOf told records number word → has_child word place ≡ true
      → (child_number word place < number → fault ≡ Failed) → Unders told format height code number from (Err fault)
  child_fails None height place fault high octant own bit below = tt
  child_fails (Some words) height place fault high octant own bit below = λ cells leads.
      subst (λ f. GivesNextUnder cells height code from (Err f)) (sym (below (below_leads words cells height place (child_number word place) high octant own.own bit refl leads).0)) tt

  pub under_fails : (told : Option (List ℕ)) (height place next : ℕ) (fault : WalkFault) → 1 < height → place < 8 → IsWordOf told records number word → has_child word place ≡ true → next ≡ child_number word place
      → Unders told format (height - 1) (8 * code + place) next from (Err fault) → Unders told format height code number from (Err fault)
  under_fails None height place next fault high octant own bit is under = tt
  under_fails (Some words) height place next Failed high octant own bit is under = λ cells leads. tt
  under_fails (Some words) height place next (Refused n w) high octant own bit is under = λ cells leads.
      under cells (below_leads words cells height place next high octant own.own bit is leads).1

pub not_passed : (word place child least : ℕ) → passes word place child least ≡ false → has_child word place ≡ true
not_passed word place child least is = not_false (has_child word place) (or_parts (nat_lt child least) (not (has_child word place)) is).1
  where
    not_false : (b : Bool) → not b ≡ false → b ≡ true
    not_false true is = refl
    not_false false is = absurd (cc)

-- ---- codes of nodes

pub child_code : (code place height : ℕ) → 1 ≤ height → height ≤ MAX_DEPTH → place < 8 → code < 8 ^ (MAX_DEPTH - height) → 8 * code + place < 8 ^ (MAX_DEPTH - (height - 1))
child_code code place height least most octant small =
    let e : MAX_DEPTH - (height - 1) ≡ suc (MAX_DEPTH - height) = omega (arith, least, most) in
    let power : 8 ^ (MAX_DEPTH - (height - 1)) ≡ 8 ^ (MAX_DEPTH - height) * 8 = ap (λ n. 8 ^ n) e ∙ pow-suc 8 (MAX_DEPTH - height) in
    omega (arith, power, small, octant)

pub code_small : (code place height : ℕ) → 1 ≤ height → height ≤ MAX_DEPTH → place < 8 → code < 8 ^ (MAX_DEPTH - height) → 8 * code + place < 2 ^ 40
code_small code place height least most octant small =
    let one : 8 * code + place < 8 ^ (MAX_DEPTH - (height - 1)) = child_code code place height least most octant small in
    let bound : 8 ^ (MAX_DEPTH - (height - 1)) ≤ 8 ^ MAX_DEPTH = pow-le-pow_right {n = 8} (lit< tt) {i = MAX_DEPTH - (height - 1)} {j = MAX_DEPTH} (omega arith) in
    let whole : 8 ^ MAX_DEPTH ≤ 2 ^ 40 = lit≤ tt in
    omega (arith, one, bound, whole)

pub up_from : (cell height child code place : ℕ) → 0 < height → cell / 8 ^ (height - 1) ≡ child → child ≡ 8 * code + place → place < 8 → cell / 8 ^ height ≡ code
up_from cell zero child code place high there is octant = absurd (omega (arith, high))
up_from cell (suc height) child code place high there is octant =
    let down : suc height - 1 ≡ height = omega arith in
    let here : cell / 8 ^ height ≡ child = subst (λ h. cell / 8 ^ h ≡ child) down there in
    div-up cell height ∙ omega (arith, here, is, octant)

-- ---- a whole file

pub within_top : (cell depth : ℕ) → cell / 8 ^ depth ≡ 0 → cell < 8 ^ depth
within_top cell depth top = elim (cases_Bool (nat_lt cell (8 ^ depth))) [
  | inl less ↦ ltb-true cell (8 ^ depth) less
  | inr not_less ↦
      let some : 1 * 8 ^ depth ≤ cell = omega (arith, ltb-false cell (8 ^ depth) not_less) in
      absurd (omega (arith, top, le-div 1 cell (8 ^ depth) (power_some depth) some))
]

pub next_inside : (from depth : ℕ) (next : Option ℕ) → IfSome next (λ cell. (from ≤ cell) × (cell / 8 ^ depth ≡ 0)) → IfSome next (λ code. (from ≤ code) × (code < 8 ^ depth))
next_inside from depth None inside = tt
next_inside from depth (Some cell) inside = (inside.0, within_top cell depth inside.1)

-- beyond the grid there is none
beyond : (cells : List Cell) (depth c : ℕ) → All (λ cell. cell.code < 8 ^ depth) cells → 8 ^ depth ≤ c → face_at cells c ≡ None
unfolding face_at
beyond [] depth c inside above = refl
beyond (cell ∷ rest) depth c inside above =
    let less : cell.code < 8 ^ depth = All-head (λ x. x.code < 8 ^ depth) cell rest inside in
    let other : (cell.code == c) ≡ false = ne_eqb cell.code c (λ same. absurd (omega (arith, less, above, same))) in
    ap (λ b. cond b (Some cell.face) (face_at rest c)) other ∙ beyond rest depth c (All-tail (λ x. x.code < 8 ^ depth) cell rest inside) above

whole_next : (cells : List Cell) (depth from : ℕ) (result : Result (Option ℕ) WalkFault) → All (λ cell. cell.code < 8 ^ depth) cells → IfOk result (λ next. IfSome next (λ cell. (from ≤ cell) × (cell / 8 ^ depth ≡ 0)))
    → GivesNextUnder cells depth 0 from result → GivesNext cells from result
whole_next cells depth from (Ok (Some code)) inside where_is gives = (
  where_is.0,
  gives.0,
  λ c above less. gives.1 c (div-eq_of_lt (let small : c < 8 ^ depth = omega (arith, less, within_top code depth where_is.1) in small)) above less,
)
whole_next cells depth from (Ok None) inside where_is gives = λ c above. elim (cases_Bool (nat_lt c (8 ^ depth))) [
  | inl less ↦ gives c (div-eq_of_lt (ltb-true c (8 ^ depth) less)) above
  | inr not_less ↦ beyond cells depth c inside (ltb-false c (8 ^ depth) not_less)
]
whole_next cells depth from (Err Failed) inside where_is gives = tt
whole_next cells depth from (Err (Refused n w)) inside where_is gives = gives

pub next_told : (told : Option (List ℕ)) (format depth height from number : ℕ) (result : Result (Option ℕ) WalkFault) → height ≡ depth
    → IfSome told (λ words. (cells : List Cell) → StandFor format depth words cells → LeadsOn words format cells depth (0 / 8 ^ depth) number)
    → IfOk result (λ next. IfSome next (λ cell. (from ≤ cell) × (cell / 8 ^ depth ≡ 0))) → Unders told format height 0 number from result
    → IfSome told (λ words. (cells : List Cell) → StandFor format depth words cells → GivesNext cells from result)
next_told None format depth height from number result same leads where_is under = tt
next_told (Some words) format depth height from number result same leads where_is under = λ cells stand.
    let top : 0 / 8 ^ depth ≡ 0 = div-eq_of_lt (power_some depth) in
    let there : LeadsOn words format cells depth 0 number = subst (λ n. LeadsOn words format cells depth n number) top (leads cells stand) in
    whole_next cells depth from result stand.cells_are.map.inside where_is
    (subst (λ h. GivesNextUnder cells h 0 from result) same (under cells (subst (λ h. LeadsOn words format cells h 0 number) (sym same) there)))

pub next_fails : (told : Option (List ℕ)) (format depth from : ℕ) (fault : WalkFault) → fault ≡ Failed
    → IfSome told (λ words. (cells : List Cell) → StandFor format depth words cells → GivesNext cells from (Err fault))
next_fails None format depth from fault is = tt
next_fails (Some words) format depth from fault is = λ cells stand. subst (λ f. GivesNext cells from (Err f)) (sym is) tt
