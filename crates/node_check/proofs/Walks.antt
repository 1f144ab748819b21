-- Walks from the root down toward a code.
use Rattle.std.proofs.Common.{◌≡◌, ℕ, zero, suc, ◌+◌, ◌-◌, ◌*◌, ◌/◌, ◌%◌, ◌^◌, ◌<◌, ◌≤◌, Bool, true, false, cond, is_some, List, [], ◌∷◌, length, Option, None, Some, Result, Ok, Err, refl, sym, ap, subst, ◌∙◌, inl, inr, arith}
use Rattle.std.specs.Prelude.{◌==◌, ◌||◌, ◌&&◌, nat_le, slice_index, All, IfSome}
use Rattle.std.specs.Result.{IsErr, IsErrAnd}
use Rattle.std.proofs.Math.Nat.{pow-suc, div-eq_of_lt}
use Rattle.std.proofs.lemmas.Bool.{eq-eqb, le-leb}
use Rattle.std.proofs.lemmas.List.Elements.{All-head, All-tail}
use Rattle.octree_specs.specs.Cells.{Cell}
use Rattle.octree_specs.specs.Formats.{IsFormat, StandFor, face_leaves}
use Rattle.octree_specs.specs.Octree.{is_nonempty, leaf_word}
use Rattle.octree_specs.specs.Walking.{HasTree, HasMasks, child_number}
use Rattle.octree_laws.proofs.Images.{at_depth}
use Rattle.octree_laws.proofs.Maps.{map_has_masks, map_has_faces}
use Rattle.octree_laws.proofs.Under.{div-up, div-leaf, empty_below}
use Rattle.node_file.specs.FileView.{FileView, IsFileView}
use Rattle.node_check.specs.Walks.{face_at, keeps_face, IsWordOf, IsAbove, has_child, led_to, LeadsOn, WalksTo, Gives}
use Rattle.node_check.specs.declared.walking.Node.{Node}
use Rattle.node_check.specs.declared.walking.WalkFault.{WalkFault}
use Rattle.node_check.specs.declared.walking.WalkFault.TheVariants.{Failed, Refused}

pub octal_digits : (height : ℕ) → 2 ^ (3 * height) ≡ 8 ^ height
octal_digits zero = refl
octal_digits (suc height) =
    let e : 3 * suc height ≡ suc (suc (suc (3 * height))) = omega arith in
    let twice : 2 ^ (3 * suc height) ≡ 2 ^ (3 * height) * 8 =
    ap (λ n. 2 ^ n) e ∙ omega (arith, pow-suc 2 (suc (suc (3 * height))), pow-suc 2 (suc (3 * height)), pow-suc 2 (3 * height)) in
    twice ∙ (ap (λ n. n * 8) (octal_digits height) ∙ sym (pow-suc 8 height))

pub err_is : {A : Type 0} (result : Result A WalkFault) (fault : WalkFault) → IsErr result × IsErrAnd result (λ e. e ≡ fault) → result ≡ Err fault
err_is (Ok x) fault h = absurd (let e = h.0 in cc)
err_is (Err e) fault h = ap Err h.1

-- a child that does not stand before its parent
pub above_node : (told : Option (List ℕ)) (records number word place child : ℕ) → IsWordOf told records number word → place < 8 → has_child word place ≡ true → child ≡ child_number word place → number ≤ child
    → IsAbove told records number word
above_node told records number word place child own octant bit is far = record {
  word_is = own;
  place = place;
  octant = octant;
  child = bit;
  late = subst (λ n. number ≤ n) is far;
}

-- ---- maps by codes

pub filled_is : (cells : List Cell) (code : ℕ) → is_nonempty (face_leaves cells) 0 code ≡ is_some (face_at cells code)
unfolding face_at
filled_is [] code = refl
filled_is (cell ∷ rest) code =
    ap (λ n. (n == code) || is_nonempty (face_leaves rest) 0 code) (div-leaf cell.code) ∙ filled_with (cell.code == code) (face_at rest code) (filled_is rest code)
  where
    filled_with : (b : Bool) (later : Option ℕ) → is_nonempty (face_leaves rest) 0 code ≡ is_some later → (b || is_nonempty (face_leaves rest) 0 code) ≡ is_some (cond b (Some cell.face) later)
    filled_with true later same = refl
    filled_with false later same = same

pub none_at : (cells : List Cell) (code : ℕ) → is_nonempty (face_leaves cells) 0 code ≡ false → face_at cells code ≡ None
none_at cells code empty = none_of (face_at cells code) (sym (filled_is cells code) ∙ empty)
  where
    none_of : (o : Option ℕ) → is_some o ≡ false → o ≡ None
    none_of None empty = refl
    none_of (Some n) empty = absurd (cc)

-- a cell's word has its face
pub leaf_face : (cells : List Cell) (code : ℕ) → is_some (face_at cells code) ≡ true → face_at cells code ≡ Some (leaf_word (face_leaves cells) code / 256) × (leaf_word (face_leaves cells) code % 256 ≡ 1)
unfolding face_at
leaf_face [] code some = absurd (cc)
leaf_face (cell ∷ rest) code some = face_with (cell.code == code) (face_at rest code) (leaf_word (face_leaves rest) code) (leaf_face rest code) some
  where
    face_with : (b : Bool) (later : Option ℕ) (word : ℕ) → (is_some later ≡ true → (later ≡ Some (word / 256)) × (word % 256 ≡ 1)) → is_some (cond b (Some cell.face) later) ≡ true
        → (cond b (Some cell.face) later ≡ Some (cond b (1 + 256 * cell.face) word / 256)) × (cond b (1 + 256 * cell.face) word % 256 ≡ 1)
    face_with true later word given some = (ap Some (let e : cell.face ≡ (1 + 256 * cell.face) / 256 = omega arith in e), let e : (1 + 256 * cell.face) % 256 ≡ 1 = omega arith in e)
    face_with false later word given some = given some

-- ---- one step down

-- the node over a code, by that one level higher
pub node_below : (code height : ℕ) → code / 8 ^ height ≡ 8 * (code / 8 ^ suc height) + code / 8 ^ height % 8
node_below code height = omega (arith, div-up code height)

module _ (words : List ℕ) (format : ℕ) (cells : List Cell) where
  pub child_leads : (height node number place : ℕ) → LeadsOn words format cells (suc (suc height)) node number → place < 8 → has_child (slice_index words number) place ≡ true
      → (child_number (slice_index words number) place < number) × LeadsOn words format cells (suc height) (8 * node + place) (child_number (slice_index words number) place)
  child_leads height node number place leads octant bit =
      let filled : is_nonempty (face_leaves cells) (suc height) (8 * node + place) ≡ true = leads.masks.0 place octant ∙ bit in
      let masks : (child_number (slice_index words number) place < number) × HasMasks words cells (suc height) (8 * node + place) (child_number (slice_index words number) place) =
      leads.masks.1 place octant filled in
      (masks.0, record { masks = masks.1; tree = λ two. ((leads.tree two).1 place octant filled).1 })

  pub step_down : (height code number word : ℕ) → 1 < height → word ≡ slice_index words number → has_child word (code / 8 ^ (height - 1) % 8) ≡ true
      → LeadsOn words format cells height (code / 8 ^ height) number
      → (child_number word (code / 8 ^ (height - 1) % 8) < number) × LeadsOn words format cells (height - 1) (code / 8 ^ (height - 1)) (child_number word (code / 8 ^ (height - 1) % 8))
  step_down zero code number word high own bit leads = absurd (omega (arith, high))
  step_down (suc zero) code number word high own bit leads = absurd (omega (arith, high))
  step_down (suc (suc height)) code number word high own bit leads =
      let down : suc (suc height) - 1 ≡ suc height = omega arith in
      let step : (place : ℕ) → place ≡ code / 8 ^ suc height % 8 → has_child word place ≡ true
      → (child_number word place < number) × LeadsOn words format cells (suc height) (code / 8 ^ suc height) (child_number word place) =
      λ place is has.
      let at : code / 8 ^ suc height ≡ 8 * (code / 8 ^ suc (suc height)) + place = node_below code (suc height) ∙ ap (λ p. 8 * (code / 8 ^ suc (suc height)) + p) (sym is) in
      let octant : place < 8 = omega (arith, is) in
      subst (λ w. (child_number w place < number) × LeadsOn words format cells (suc height) (code / 8 ^ suc height) (child_number w place)) (sym own)
      (subst (λ n. (child_number (slice_index words number) place < number) × LeadsOn words format cells (suc height) n (child_number (slice_index words number) place)) (sym at)
      (child_leads height (code / 8 ^ suc (suc height)) number place leads octant (subst (λ w. has_child w place ≡ true) own has))) in
      subst (λ h. (child_number word (code / 8 ^ h % 8) < number) × LeadsOn words format cells h (code / 8 ^ h) (child_number word (code / 8 ^ h % 8))) (sym down)
      (step (code / 8 ^ suc height % 8) refl (subst (λ h. has_child word (code / 8 ^ h % 8) ≡ true) down bit))

  -- the masks of a node above the cells
  pub mask_at : (height node number : ℕ) → HasMasks words cells (suc height) node number → (place : ℕ) → place < 8
      → is_nonempty (face_leaves cells) height (8 * node + place) ≡ has_child (slice_index words number) place
  mask_at zero node number masks place octant = masks place octant
  mask_at (suc height) node number masks place octant = masks.0 place octant

  pub filled_below : (height code number word : ℕ) → 0 < height → word ≡ slice_index words number → LeadsOn words format cells height (code / 8 ^ height) number
      → is_nonempty (face_leaves cells) (height - 1) (code / 8 ^ (height - 1)) ≡ has_child word (code / 8 ^ (height - 1) % 8)
  filled_below zero code number word high own leads = absurd (omega (arith, high))
  filled_below (suc height) code number word high own leads =
      let down : suc height - 1 ≡ height = omega arith in
      let octant : code / 8 ^ height % 8 < 8 = omega arith in
      subst (λ h. is_nonempty (face_leaves cells) h (code / 8 ^ h) ≡ has_child word (code / 8 ^ h % 8)) (sym down)
      (ap (is_nonempty (face_leaves cells) height) (node_below code height)
      ∙ (mask_at height (code / 8 ^ suc height) number leads.masks (code / 8 ^ height % 8) octant ∙ ap (λ w. has_child w (code / 8 ^ height % 8)) (sym own)))

  pub nothing_below : (height code number word : ℕ) → 0 < height → word ≡ slice_index words number → has_child word (code / 8 ^ (height - 1) % 8) ≡ false
      → LeadsOn words format cells height (code / 8 ^ height) number → face_at cells code ≡ None
  nothing_below height code number word high own none leads =
      none_at cells code (empty_below (face_leaves cells) (height - 1) code (filled_below height code number word high own leads ∙ none))

-- ---- the same of told words

-- what is known of a node on the way
abbrev pub Leads : Option (List ℕ) → (format depth height code number : ℕ) → Type 0
Leads told format depth height code number = IfSome told (λ words. (cells : List Cell) → StandFor format depth words cells → LeadsOn words format cells height (code / 8 ^ height) number)

pub leads_down : (told : Option (List ℕ)) (format depth height code records number word child : ℕ) → 1 < height → IsWordOf told records number word → has_child word (code / 8 ^ (height - 1) % 8) ≡ true
    → child ≡ child_number word (code / 8 ^ (height - 1) % 8) → Leads told format depth height code number → Leads told format depth (height - 1) code child
leads_down None format depth height code records number word child high own bit is leads = tt
leads_down (Some words) format depth height code records number word child high own bit is leads = λ cells stand.
    subst (LeadsOn words format cells (height - 1) (code / 8 ^ (height - 1))) (sym is) (step_down words format cells height code number word high own.own bit (leads cells stand)).1

pub walk_ends : (told : Option (List ℕ)) (format depth height code records number word : ℕ) → 0 < height → IsWordOf told records number word → has_child word (code / 8 ^ (height - 1) % 8) ≡ false
    → Leads told format depth height code number → IfSome told (λ words. (cells : List Cell) → StandFor format depth words cells → face_at cells code ≡ None)
walk_ends None format depth height code records number word high own none leads = tt
walk_ends (Some words) format depth height code records number word high own none leads = λ cells stand.
    nothing_below words format cells height code number word high own.own none (leads cells stand)

-- a fault of a step that no node file has
pub only_failed : (words : List ℕ) (format : ℕ) (cells : List Cell) (code : ℕ) (fault : WalkFault) → fault ≡ Failed → WalksTo words format cells code (Err fault)
only_failed words format cells code fault is = subst (λ f. WalksTo words format cells code (Err f)) (sym is) tt

pub walk_fails : (told : Option (List ℕ)) (format depth height code records number word : ℕ) (fault : WalkFault) → 1 < height → IsWordOf told records number word
    → has_child word (code / 8 ^ (height - 1) % 8) ≡ true → (child_number word (code / 8 ^ (height - 1) % 8) < number → fault ≡ Failed)
    → Leads told format depth height code number → IfSome told (λ words. (cells : List Cell) → StandFor format depth words cells → WalksTo words format cells code (Err fault))
walk_fails None format depth height code records number word fault high own bit below leads = tt
walk_fails (Some words) format depth height code records number word fault high own bit below leads = λ cells stand.
    only_failed words format cells code fault (below (step_down words format cells height code number word high own.own bit (leads cells stand)).0)

pub root_fails : (told : Option (List ℕ)) (format depth code : ℕ) (fault : WalkFault) → fault ≡ Failed → IfSome told (λ words. (cells : List Cell) → StandFor format depth words cells → WalksTo words format cells code (Err fault))
root_fails None format depth code fault is = tt
root_fails (Some words) format depth code fault is = λ cells stand. only_failed words format cells code fault is

-- the root leads to all cells
pub root_leads : (file : FileView) → IsFileView file → (code number : ℕ) → code < 8 ^ file.grid.depth → number ≡ file.totals.records - 1 → Leads file.words file.format file.grid.depth file.grid.depth code number
root_leads file framed code number within last = leads_of file.words framed.told
  where
    leads_of : (told : Option (List ℕ)) → IfSome told (λ words. length words ≡ file.totals.records) → Leads told file.format file.grid.depth file.grid.depth code number
    leads_of None long = tt
    leads_of (Some words) long = λ cells stand.
        let at : (levels : ℕ) × (file.grid.depth ≡ suc levels) = at_depth file.grid.depth framed.limits.halved in
        let many : length words ≡ number + 1 = omega (arith, long, last, framed.some) in
        let top : code / 8 ^ file.grid.depth ≡ 0 = div-eq_of_lt within in
        let there : StandFor file.format (suc at.0) words cells = subst (λ d. StandFor file.format d words cells) at.1 stand in
        subst (λ n. LeadsOn words file.format cells file.grid.depth n number) (sym top)
        (subst (λ d. LeadsOn words file.format cells d 0 number) (sym at.1) (record {
          masks = map_has_masks file.format at.0 number words cells there many;
          tree = λ two. map_has_faces at.0 number words cells (subst (λ f. StandFor f (suc at.0) words cells) two there) many;
        }))

-- ---- where masks and bases lead

led_by_word : (height code number word : ℕ) (words : List ℕ) → word ≡ slice_index words number
    → led_to words (suc height) code number ≡ cond (has_child word (code / 8 ^ height % 8)) (led_to words height code (child_number word (code / 8 ^ height % 8))) None
unfolding led_to
led_by_word height code number word words own =
    subst (λ w. led_to words (suc height) code number ≡ cond (has_child w (code / 8 ^ height % 8)) (led_to words height code (child_number w (code / 8 ^ height % 8))) None) (sym own) refl

pub led_down : (told : Option (List ℕ)) (whole : List ℕ → Option ℕ) (height code records number word child : ℕ) → 0 < height → IsWordOf told records number word → has_child word (code / 8 ^ (height - 1) % 8) ≡ true
    → child ≡ child_number word (code / 8 ^ (height - 1) % 8)
    → IfSome told (λ words. whole words ≡ led_to words height code number) → IfSome told (λ words. whole words ≡ led_to words (height - 1) code child)
led_down None whole height code records number word child high own bit is led = tt
led_down (Some words) whole height code records number word child high own bit is led = led ∙ led_step height high bit is
  where
    led_step : (height : ℕ) → 0 < height → has_child word (code / 8 ^ (height - 1) % 8) ≡ true → child ≡ child_number word (code / 8 ^ (height - 1) % 8) → led_to words height code number ≡ led_to words (height - 1) code child
    led_step zero high bit is = absurd (omega (arith, high))
    led_step (suc height) high bit is =
        let down : suc height - 1 ≡ height = omega arith in
        let has : has_child word (code / 8 ^ height % 8) ≡ true = subst (λ h. has_child word (code / 8 ^ h % 8) ≡ true) down bit in
        let here : child ≡ child_number word (code / 8 ^ height % 8) = subst (λ h. child ≡ child_number word (code / 8 ^ h % 8)) down is in
        led_by_word height code number word words own.own
        ∙ (ap (λ b. cond b (led_to words height code (child_number word (code / 8 ^ height % 8))) None) has
        ∙ (ap (led_to words height code) (sym here) ∙ ap (λ h. led_to words h code child) (sym down)))

pub led_start : (told : Option (List ℕ)) (depth height code root number : ℕ) → height ≡ depth → number ≡ root → IfSome told (λ words. led_to words depth code root ≡ led_to words height code number)
led_start None depth height code root number same last = tt
led_start (Some words) depth height code root number same last = λ i. led_to words (sym same i) code (sym last i)

-- ---- the answers of questions

-- the cell at a place of the node just above
pub cell_at : (words : List ℕ) (format : ℕ) (cells : List Cell) (code number word : ℕ) → LeadsOn words format cells 1 (code / 8) number → word ≡ slice_index words number
    → is_some (face_at cells code) ≡ has_child word (code % 8)
cell_at words format cells code number word leads own =
    let up : code ≡ 8 * (code / 8) + code % 8 = omega arith in
    let octant : code % 8 < 8 = omega arith in
    sym (filled_is cells code)
    ∙ (ap (is_nonempty (face_leaves cells) 0) up ∙ (mask_at words format cells 0 (code / 8) number leads.masks (code % 8) octant ∙ ap (λ w. has_child w (code % 8)) (sym own)))

none_some : (o : Option ℕ) → is_some o ≡ false → o ≡ None
none_some None empty = refl
none_some (Some n) empty = absurd (cc)

-- what was walked to, where the words are told
abbrev pub Walked : Option (List ℕ) → (format depth code : ℕ) → Result (Option Node) WalkFault → Type 0
Walked told format depth code result = IfSome told (λ words. (cells : List Cell) → StandFor format depth words cells → WalksTo words format cells code result)

abbrev pub Answers : {T : Type 0} → Option (List ℕ) → (format depth : ℕ) → (List Cell → T) → Result T WalkFault → Type 0
Answers told format depth wanted result = IfSome told (λ words. (cells : List Cell) → StandFor format depth words cells → Gives (wanted cells) result)

led_here : (words : List ℕ) (code number : ℕ) → led_to words 0 code number ≡ Some number
unfolding led_to
led_here words code number = refl

small_face : (cells : List Cell) (code face : ℕ) → All (λ cell. cell.face ≤ 2 ^ 32 - 2) cells → face_at cells code ≡ Some face → face ≤ 4294967294
unfolding face_at
small_face [] code face small is = absurd (cc)
small_face (cell ∷ rest) code face small is = small_with (cell.code == code) (face_at rest code) (small_face rest code face (All-tail (λ c. c.face ≤ 2 ^ 32 - 2) cell rest small)) is
  where
    small_with : (b : Bool) (later : Option ℕ) → (later ≡ Some face → face ≤ 4294967294) → cond b (Some cell.face) later ≡ Some face → face ≤ 4294967294
    small_with true later given is =
        let same : cell.face ≡ face = cc in
        subst (λ f. f ≤ 4294967294) same (All-head (λ c. c.face ≤ 2 ^ 32 - 2) cell rest small)
    small_with false later given is = given is

zero_face : (cells : List Cell) (code : ℕ) → All (λ cell. cell.face ≡ 0) cells → is_some (face_at cells code) ≡ true → face_at cells code ≡ Some 0
unfolding face_at
zero_face [] code zeros some = absurd (cc)
zero_face (cell ∷ rest) code zeros some = zero_with (cell.code == code) (face_at rest code) (zero_face rest code (All-tail (λ c. c.face ≡ 0) cell rest zeros)) some
  where
    zero_with : (b : Bool) (later : Option ℕ) → (is_some later ≡ true → later ≡ Some 0) → is_some (cond b (Some cell.face) later) ≡ true → cond b (Some cell.face) later ≡ Some 0
    zero_with true later given some = ap Some (All-head (λ c. c.face ≡ 0) cell rest zeros)
    zero_with false later given some = given some

module _ (format depth code records : ℕ) where
  pub has_none : (told : Option (List ℕ)) → Walked told format depth code (Ok None) → Answers told format depth (λ cells. is_some (face_at cells code)) (Ok false)
  has_none None walked = tt
  has_none (Some words) walked = λ cells stand. sym (ap is_some (walked cells stand))

  pub has_node : (told : Option (List ℕ)) (node : Node) (bit : Bool) → IsWordOf told records node.number node.word → bit ≡ has_child node.word (code % 8) → Walked told format depth code (Ok (Some node))
      → Answers told format depth (λ cells. is_some (face_at cells code)) (Ok bit)
  has_node None node bit own is walked = tt
  has_node (Some words) node bit own is walked = λ cells stand. is ∙ sym (cell_at words format cells code node.number node.word (walked cells stand) own.own)

  pub asks_fail : {T : Type 0} (told : Option (List ℕ)) (wanted : List Cell → T) (fault : WalkFault) → Walked told format depth code (Err fault) → Answers told format depth wanted (Err fault)
  asks_fail None wanted fault walked = tt
  asks_fail (Some words) wanted Failed walked = λ cells stand. tt
  asks_fail (Some words) wanted (Refused number word) walked = λ cells stand. walked cells stand

  pub face_none : (told : Option (List ℕ)) → Walked told format depth code (Ok None) → Answers told format depth (λ cells. face_at cells code) (Ok None)
  face_none None walked = tt
  face_none (Some words) walked = λ cells stand. sym (walked cells stand)

  pub face_no_bit : (told : Option (List ℕ)) (node : Node) → IsWordOf told records node.number node.word → has_child node.word (code % 8) ≡ false → Walked told format depth code (Ok (Some node))
      → Answers told format depth (λ cells. face_at cells code) (Ok None)
  face_no_bit None node own none walked = tt
  face_no_bit (Some words) node own none walked = λ cells stand.
      sym (none_some (face_at cells code) (cell_at words format cells code node.number node.word (walked cells stand) own.own ∙ none))

  -- in format 1 each cell has the face 0
  pub face_zero : (told : Option (List ℕ)) (node : Node) → format ≡ 1 → IsWordOf told records node.number node.word → has_child node.word (code % 8) ≡ true → Walked told format depth code (Ok (Some node))
      → Answers told format depth (λ cells. face_at cells code) (Ok (Some 0))
  face_zero None node one own bit walked = tt
  face_zero (Some words) node one own bit walked = λ cells stand.
      sym (zero_face cells code (stand.cells_are.faceless one) (cell_at words format cells code node.number node.word (walked cells stand) own.own ∙ bit))

  -- in format 2 it stands in the cell's own word
  pub face_own : (told : Option (List ℕ)) (node slot : Node) → format ≡ 2 → IsWordOf told records node.number node.word → has_child node.word (code % 8) ≡ true
      → IsWordOf told records slot.number slot.word → slot.number ≡ child_number node.word (code % 8) → Walked told format depth code (Ok (Some node))
      → IfSome told (λ words. (cells : List Cell) → StandFor format depth words cells → (face_at cells code ≡ Some (slot.word / 256)) × (slot.word % 256 ≡ 1))
  face_own None node slot two own bit slot_own is walked = tt
  face_own (Some words) node slot two own bit slot_own is walked = λ cells stand.
      let leads : LeadsOn words format cells 1 (code / 8) node.number = walked cells stand in
      let up : 8 * (code / 8) + code % 8 ≡ code = omega arith in
      let octant : code % 8 < 8 = omega arith in
      let some : is_some (face_at cells code) ≡ true = cell_at words format cells code node.number node.word leads own.own ∙ bit in
      let filled : is_nonempty (face_leaves cells) 0 (8 * (code / 8) + code % 8) ≡ true = ap (is_nonempty (face_leaves cells) 0) up ∙ (filled_is cells code ∙ some) in
      let tree : HasTree words (face_leaves cells) 0 (8 * (code / 8) + code % 8) (child_number (slice_index words node.number) (code % 8)) = ((leads.tree two).1 (code % 8) octant filled).1 in
      let word : slot.word ≡ leaf_word (face_leaves cells) code =
      slot_own.own ∙ (ap (slice_index words) (is ∙ ap (λ w. child_number w (code % 8)) own.own) ∙ (tree ∙ ap (leaf_word (face_leaves cells)) up)) in
      subst (λ w. (face_at cells code ≡ Some (w / 256)) × (w % 256 ≡ 1)) (sym word) (leaf_face cells code some)

  -- its number is below the node's
  pub slot_below : (words : List ℕ) (cells : List Cell) (node : Node) → format ≡ 2 → node.word ≡ slice_index words node.number → has_child node.word (code % 8) ≡ true → LeadsOn words format cells 1 (code / 8) node.number
      → child_number node.word (code % 8) < node.number
  slot_below words cells node two own bit leads =
      let up : 8 * (code / 8) + code % 8 ≡ code = omega arith in
      let octant : code % 8 < 8 = omega arith in
      let some : is_some (face_at cells code) ≡ true = cell_at words format cells code node.number node.word leads own ∙ bit in
      let filled : is_nonempty (face_leaves cells) 0 (8 * (code / 8) + code % 8) ≡ true = ap (is_nonempty (face_leaves cells) 0) up ∙ (filled_is cells code ∙ some) in
      subst (λ w. child_number w (code % 8) < node.number) (sym own) ((leads.tree two).1 (code % 8) octant filled).0

  -- the face of a cell whose word was read
  pub face_found : (told : Option (List ℕ)) (node slot : Node) (face : ℕ) → format ≡ 2 → IsWordOf told records node.number node.word → has_child node.word (code % 8) ≡ true
      → IsWordOf told records slot.number slot.word → slot.number ≡ child_number node.word (code % 8) → face ≡ slot.word / 256 → Walked told format depth code (Ok (Some node))
      → Answers told format depth (λ cells. face_at cells code) (Ok (Some face))
  face_found None node slot face two own bit slot_own is read walked = tt
  face_found (Some words) node slot face two own bit slot_own is read walked = λ cells stand.
      ap Some read ∙ sym (face_own (Some words) node slot two own bit slot_own is walked cells stand).0

  -- a word that is none of a cell
  pub face_refused : (told : Option (List ℕ)) (node slot : Node) → format ≡ 2 → IsWordOf told records node.number node.word → has_child node.word (code % 8) ≡ true
      → IsWordOf told records slot.number slot.word → slot.number ≡ child_number node.word (code % 8) → keeps_face slot.word ≡ false → Walked told format depth code (Ok (Some node))
      → Answers told format depth (λ cells. face_at cells code) (Err (Refused slot.number slot.word))
  face_refused None node slot two own bit slot_own is faceless walked = tt
  face_refused (Some words) node slot two own bit slot_own is faceless walked = λ cells stand.
      let word : (face_at cells code ≡ Some (slot.word / 256)) × (slot.word % 256 ≡ 1) = face_own (Some words) node slot two own bit slot_own is walked cells stand in
      let small : slot.word / 256 ≤ 4294967294 = small_face cells code (slot.word / 256) stand.cells_are.map.faces word.0 in
      let kept : keeps_face slot.word ≡ true = ap (λ b. b && nat_le (slot.word / 256) 4294967294) (eq-eqb (slot.word % 256) 1 word.1) ∙ le-leb (slot.word / 256) 4294967294 small in
      absurd (let e : true ≡ false = sym kept ∙ faceless in cc)

  -- a child that does not stand before its parent
  pub slot_fails : (told : Option (List ℕ)) (node : Node) (fault : WalkFault) → format ≡ 2 → IsWordOf told records node.number node.word → has_child node.word (code % 8) ≡ true
      → (child_number node.word (code % 8) < node.number → fault ≡ Failed) → Walked told format depth code (Ok (Some node)) → Answers told format depth (λ cells. face_at cells code) (Err fault)
  slot_fails None node fault two own bit below walked = tt
  slot_fails (Some words) node fault two own bit below walked = λ cells stand.
      subst (λ f. Gives (face_at cells code) (Err f)) (sym (below (slot_below words cells node two own.own bit (walked cells stand)))) tt

  -- where masks and bases lead
  pub slot_led : (told : Option (List ℕ)) (node : Node) (slot root : ℕ) → IsWordOf told records node.number node.word → has_child node.word (code % 8) ≡ true → slot ≡ child_number node.word (code % 8)
      → IfSome told (λ words. led_to words depth code root ≡ led_to words 1 code node.number) → IfSome told (λ words. led_to words depth code root ≡ Some slot)
  slot_led told node slot root own bit is led =
      led_last told
      (led_down told (λ words. led_to words depth code root) 1 code records node.number node.word slot (omega arith) own (subst (λ n. has_child node.word (n % 8) ≡ true) (sym (div-leaf code)) bit)
      (subst (λ n. slot ≡ child_number node.word (n % 8)) (sym (div-leaf code)) is) led)
    where
      led_last : (told : Option (List ℕ)) → IfSome told (λ words. led_to words depth code root ≡ led_to words 0 code slot) → IfSome told (λ words. led_to words depth code root ≡ Some slot)
      led_last None led = tt
      led_last (Some words) led = led ∙ led_here words code slot

pub format_two : (format read : ℕ) → IsFormat format → read ≡ format → (read ≡ 1 → ⊥) → format ≡ 2
format_two format read (inl one) same other = absurd (other (same ∙ one))
format_two format read (inr two) same other = two
