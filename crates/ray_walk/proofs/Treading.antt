-- A walk over told words that lead to cells: the children of a spot's node one after the other.
use Rattle.std.proofs.Common.{◌≡◌, ℕ, zero, suc, ◌+◌, ◌-◌, ◌*◌, ◌/◌, ◌^◌, ◌<◌, ◌≤◌, true, false, List, [], ◌∷◌, Option, Some, IfSome, Result, Ok, Err, IfOk, arith, sym, ap, subst, ◌∙◌, inl, inr, ⊎_elim}
use Rattle.std.specs.Prelude.{◌==◌, slice_index}
use Rattle.std.specs.List.{Contains}
use Rattle.std.specs.Result.{IfErr, IsErr, IsErrAnd}
use Rattle.node_file.specs.FileView.{FileView}
use Rattle.std.proofs.lemmas.Bool.{eqb-true, or_cases}
use Rattle.octree_specs.specs.Cells.{Cell, codes_of}
use Rattle.octree_specs.specs.Formats.{face_leaves}
use Rattle.octree_specs.specs.Octree.{is_nonempty}
use Rattle.octree_specs.specs.Walking.{HasMask, HasMasks, child_number}
use Rattle.ray_fraction.specs.Hits.{Precedes}
use Rattle.ray_walk.specs.Octants.{turn_of, visited}
use Rattle.ray_walk.specs.Stays.{InBox, IsFlight}
use Rattle.ray_walk.specs.Steps.{has_child, IsSpot, IsRefusal, IsPassed, IsTaken, IsStep, IsOnTree, IsWalked}
use Rattle.ray_walk.specs.Walks.{MetUnder, IsBest, WithKnown, AreWithin, IsEntered}
use Rattle.node_check.specs.declared.walking.WalkFault.{WalkFault}
use Rattle.node_check.specs.declared.walking.WalkFault.TheVariants.{Failed}
use Rattle.ray_walk.specs.declared.flights.Flight.{Flight}
use Rattle.ray_walk.specs.declared.hits.Candidate.{Candidate}
use Rattle.ray_walk.specs.declared.spots.Spot.{Spot}
use Rattle.ray_walk.specs.declared.spots.Step.TheVariants.{Skip, Take, Enter}
use Rattle.ray_walk.proofs.Siblings.{turn_below, visited_below}
use Rattle.ray_walk.proofs.NextSteps.{child_code as code_at}
use Rattle.ray_walk.proofs.UnderWay.{IsUnderWay, begins, passes_on, none_under, passed_under, takes, reads_on, walks_on, stops_within, ends_with}

-- ---- the words of a tree

pub tree_mask : (words : List ℕ) (cells : List Cell) (lower node number : ℕ) → HasMasks words cells (lower + 1) node number → HasMask (face_leaves cells) lower node (slice_index words number)
tree_mask words cells zero node number tree = tree
tree_mask words cells (suc lower) node number tree =
    let up : suc lower + 1 ≡ suc (suc lower) = omega arith in
    let whole : HasMasks words cells (suc (suc lower)) node number = subst (λ h. HasMasks words cells h node number) up tree in
    whole.0

pub tree_child : (words : List ℕ) (cells : List Cell) (lower node number place : ℕ) → HasMasks words cells (lower + 2) node number → place < 8 → is_nonempty (face_leaves cells) (lower + 1) (8 * node + place) ≡ true
    → (child_number (slice_index words number) place < number) × HasMasks words cells (lower + 1) (8 * node + place) (child_number (slice_index words number) place)
tree_child words cells lower node number place tree octant some =
    let up : lower + 2 ≡ suc (suc lower) = omega arith in
    let one : lower + 1 ≡ suc lower = omega arith in
    let whole : HasMasks words cells (suc (suc lower)) node number = subst (λ h. HasMasks words cells h node number) up tree in
    let child : (child_number (slice_index words number) place < number) × HasMasks words cells (suc lower) (8 * node + place) (child_number (slice_index words number) place) =
    whole.1 place octant (subst (λ h. is_nonempty (face_leaves cells) h (8 * node + place) ≡ true) one some) in
    (child.0, subst (λ h. HasMasks words cells h (8 * node + place) (child_number (slice_index words number) place)) (sym one) child.1)

-- a nonempty node of height 0 is a cell
cell_from : (cells : List Cell) (node : ℕ) → is_nonempty (face_leaves cells) 0 node ≡ true → Contains (codes_of cells) node
cell_from [] node some = cc
cell_from (cell ∷ rest) node some = elim (or_cases (cell.code / 8 ^ 0 == node) (is_nonempty (face_leaves rest) 0 node) some) [
  | inl here ↦ (0, omega arith, (let whole : cell.code / 8 ^ 0 ≡ cell.code = omega arith in sym whole ∙ eqb-true (cell.code / 8 ^ 0) node here))
  | inr later ↦
      let found : Contains (codes_of rest) node = cell_from rest node later in
      (suc found.0, omega (arith, found.1), found.2)
]

-- ---- what holds while the children are visited

-- on a tree the children before the k-th were walked
pub IsTreading : Option (List ℕ) → Flight → Spot → Option Candidate → ℕ → Option Candidate → ℕ → ℕ → Type 0
IsTreading told flight spot known k best before after =
    (words : List ℕ) (cells : List Cell) → IsOnTree told flight spot known words cells → IsUnderWay flight.ray flight.grid cells flight.scale (spot.height - 1) spot.code k known best before after

-- the word is the spot's own, where words are told
abbrev pub IsOwnWord : Option (List ℕ) → Spot → ℕ → Type 0
IsOwnWord told spot word = IfSome told (λ words. word ≡ slice_index words spot.number)

own_word : (told : Option (List ℕ)) (spot : Spot) (word : ℕ) (words : List ℕ) → told ≡ Some words → IsOwnWord told spot word → word ≡ slice_index words spot.number
own_word told spot word words is own = subst (λ t. IsOwnWord t spot word) is own

-- so a child is nonempty exactly where the word has its bit
bit_tells : (told : Option (List ℕ)) (flight : Flight) (spot : Spot) (known : Option Candidate) (word place : ℕ) (words : List ℕ) (cells : List Cell) → IsSpot flight spot → IsOwnWord told spot word → place < 8
    → IsOnTree told flight spot known words cells → is_nonempty (face_leaves cells) (spot.height - 1) (8 * spot.code + place) ≡ has_child word place
bit_tells told flight spot known word place words cells is own octant on =
    let up : spot.height ≡ (spot.height - 1) + 1 = omega (arith, is.above) in
    let mask : HasMask (face_leaves cells) (spot.height - 1) spot.code (slice_index words spot.number) =
    tree_mask words cells (spot.height - 1) spot.code spot.number (subst (λ h. HasMasks words cells h spot.code spot.number) up on.tree) in
    mask place octant ∙ ap (λ w. has_child w place) (sym (own_word told spot word words on.words_are own))

module _ (told : Option (List ℕ)) (flight : Flight) (spot : Spot) (known : Option Candidate) where
  pub treads_first : (before after : ℕ) → after ≤ before + 1 → IsTreading told flight spot known 0 known before after
  unfolding IsTreading
  treads_first before after one words cells on = begins flight.ray flight.grid cells flight.scale (spot.height - 1) spot.code known before after one

  place_is : (k : ℕ) → IsFlight flight → visited flight.turn k ≡ visited (turn_of flight.ray) k
  place_is k flies = ap (λ turn. visited turn k) flies.turn

  place_below : (k : ℕ) → IsFlight flight → k < 8 → visited flight.turn k < 8
  place_below k flies octant = subst (λ turn. visited turn k < 8) (sym flies.turn) (visited_below (turn_of flight.ray) k (turn_below flight.ray) octant)

  pub treads_past : (word k before after : ℕ) (best : Option Candidate) → IsFlight flight → IsSpot flight spot → k < 8 → IsOwnWord told spot word
      → IsStep flight spot word k best Skip → IsTreading told flight spot known k best before after → IsTreading told flight spot known (k + 1) best before after
  unfolding IsTreading
  treads_past word k before after best flies is octant own step treads words cells on =
      let place : visited flight.turn k ≡ visited (turn_of flight.ray) k = place_is k flies in
      let tells : is_nonempty (face_leaves cells) (spot.height - 1) (8 * spot.code + visited flight.turn k) ≡ has_child word (visited flight.turn k) =
      bit_tells told flight spot known word (visited flight.turn k) words cells is own (place_below k flies octant) on in
      passes_on flight.ray flight.grid cells flight.scale (spot.height - 1) spot.code k known best before after
      (⊎_elim
      (λ (empty : has_child word (visited flight.turn k) ≡ false). none_under flight.ray flight.grid cells flight.scale (spot.height - 1) (8 * spot.code + visited (turn_of flight.ray) k) best
      (subst (λ p. is_nonempty (face_leaves cells) (spot.height - 1) (8 * spot.code + p) ≡ false) place (tells ∙ empty)))
      (λ (passed : IsPassed flight best (spot.height - 1) (8 * spot.code + visited flight.turn k)). passed_under flight.ray flight.grid cells flight.scale (spot.height - 1) (8 * spot.code + visited (turn_of flight.ray) k) best
      (omega (arith, is.within)) (subst (λ p. IsPassed flight best (spot.height - 1) (8 * spot.code + p)) place passed))
      step)
      (treads words cells on)

  pub treads_cell : (word k before after : ℕ) (best : Option Candidate) (cell : Candidate) → IsFlight flight → IsSpot flight spot → k < 8 → IsOwnWord told spot word
      → IsStep flight spot word k best (Take cell) → IsTreading told flight spot known k best before after → IsTreading told flight spot known (k + 1) (Some cell) before after
  unfolding IsTreading
  treads_cell word k before after best cell flies is octant own step treads words cells on =
      let low : spot.height - 1 ≡ 0 = omega (arith, step.1) in
      let node : ℕ = 8 * spot.code + visited (turn_of flight.ray) k in
      let taken : IsTaken flight best node cell = subst (λ p. IsTaken flight best (8 * spot.code + p) cell) (place_is k flies) step.2 in
      let tells : is_nonempty (face_leaves cells) (spot.height - 1) (8 * spot.code + visited flight.turn k) ≡ has_child word (visited flight.turn k) =
      bit_tells told flight spot known word (visited flight.turn k) words cells is own (place_below k flies octant) on in
      let full : is_nonempty (face_leaves cells) 0 node ≡ true = subst (λ p. is_nonempty (face_leaves cells) 0 (8 * spot.code + p) ≡ true) (place_is k flies)
      (subst (λ h. is_nonempty (face_leaves cells) h (8 * spot.code + visited flight.turn k) ≡ true) low (tells ∙ step.0)) in
      let met : MetUnder flight.ray flight.grid cells 0 node cell.code cell.ticks flight.scale = record {
        filled = subst (λ code. Contains (codes_of cells) code) (sym taken.code) (cell_from cells node full);
        under = (let whole : cell.code / 8 ^ 0 ≡ cell.code = omega arith in whole ∙ taken.code);
        at = subst (λ code. InBox flight.ray flight.grid 0 code cell.ticks flight.scale) (sym taken.code) taken.at;
      } in
      let first : (code n m : ℕ) → MetUnder flight.ray flight.grid cells 0 node code n m → Precedes cell.ticks flight.scale cell.code n m code = λ code n m there.
      let same : code ≡ node = (let whole : code / 8 ^ 0 ≡ code = omega arith in sym whole ∙ there.under) in
      record {
        sooner = taken.first n m (subst (λ c. InBox flight.ray flight.grid 0 c n m) same there.at);
        tie = λ late. rw (same, taken.code) (omega arith);
      } in
      let way : IsUnderWay flight.ray flight.grid cells flight.scale 0 spot.code k known best before after = subst (λ h. IsUnderWay flight.ray flight.grid cells flight.scale h spot.code k known best before after) low (treads words cells on) in
      subst (λ h. IsUnderWay flight.ray flight.grid cells flight.scale h spot.code (k + 1) known (Some cell) before after) (sym low)
      (takes flight.ray flight.grid cells flight.scale spot.code k known best cell before after flies.some met first taken.before way)

  -- the child's words lead from it to the cells
  pub child_on_tree : (word k : ℕ) (best : Option Candidate) (child : Spot) (words : List ℕ) (cells : List Cell) → IsFlight flight → IsSpot flight spot → k < 8 → IsOwnWord told spot word
      → IsStep flight spot word k best (Enter child) → IsOnTree told flight spot known words cells → IsOnTree told flight child best words cells
  child_on_tree word k best child words cells flies is octant own step on =
      let place : ℕ = visited flight.turn k in
      let up : spot.height ≡ (child.height - 1) + 2 = omega (arith, step.2, step.1.above) in
      let one : spot.height - 1 ≡ (child.height - 1) + 1 = omega (arith, up) in
      let same : (child.height - 1) + 1 ≡ child.height = omega (arith, step.1.above) in
      let tells : is_nonempty (face_leaves cells) (spot.height - 1) (8 * spot.code + place) ≡ has_child word place = bit_tells told flight spot known word place words cells is own (place_below k flies octant) on in
      let full : is_nonempty (face_leaves cells) ((child.height - 1) + 1) (8 * spot.code + place) ≡ true = subst (λ h. is_nonempty (face_leaves cells) h (8 * spot.code + place) ≡ true) one (tells ∙ step.0) in
      let below : (child_number (slice_index words spot.number) place < spot.number) × HasMasks words cells ((child.height - 1) + 1) (8 * spot.code + place) (child_number (slice_index words spot.number) place) =
      tree_child words cells (child.height - 1) spot.code spot.number place (subst (λ h. HasMasks words cells h spot.code spot.number) up on.tree) (place_below k flies octant) full in
      let number : child.number ≡ child_number (slice_index words spot.number) place = step.4 ∙ ap (λ w. child_number w place) (own_word told spot word words on.words_are own) in
      record {
        words_are = on.words_are;
        tree = subst (λ n. HasMasks words cells child.height child.code n) (sym number) (subst (λ c. HasMasks words cells child.height c (child_number (slice_index words spot.number) place)) (sym step.3)
            (subst (λ h. HasMasks words cells h (8 * spot.code + place) (child_number (slice_index words spot.number) place)) same below.1));
        entered = step.6;
      }

  child_full : (word k : ℕ) (best : Option Candidate) (child : Spot) (words : List ℕ) (cells : List Cell) → IsFlight flight → IsSpot flight spot → k < 8 → IsOwnWord told spot word
      → IsStep flight spot word k best (Enter child) → IsOnTree told flight spot known words cells → is_nonempty (face_leaves cells) (spot.height - 1) (8 * spot.code + visited (turn_of flight.ray) k) ≡ true
  child_full word k best child words cells flies is octant own step on =
      subst (λ p. is_nonempty (face_leaves cells) (spot.height - 1) (8 * spot.code + p) ≡ true) (place_is k flies)
      (bit_tells told flight spot known word (visited flight.turn k) words cells is own (place_below k flies octant) on ∙ step.0)

  child_height : (word k : ℕ) (best : Option Candidate) (child : Spot) → IsStep flight spot word k best (Enter child) → child.height ≡ spot.height - 1
  child_height word k best child step = omega (arith, step.2)

  child_code : (word k : ℕ) (best : Option Candidate) (child : Spot) → IsFlight flight → IsStep flight spot word k best (Enter child) → child.code ≡ 8 * spot.code + visited (turn_of flight.ray) k
  child_code word k best child flies step = step.3 ∙ ap (λ p. 8 * spot.code + p) (place_is k flies)

  child_within : (word k between after : ℕ) (best : Option Candidate) (child : Spot) (cells : List Cell) → IsFlight flight → IsStep flight spot word k best (Enter child)
      → AreWithin flight.ray flight.grid cells flight.scale best child.height child.code between after
      → AreWithin flight.ray flight.grid cells flight.scale best (spot.height - 1) (8 * spot.code + visited (turn_of flight.ray) k) between after
  child_within word k between after best child cells flies step few =
      subst (λ h. AreWithin flight.ray flight.grid cells flight.scale best h (8 * spot.code + visited (turn_of flight.ray) k) between after) (child_height word k best child step)
      (subst (λ c. AreWithin flight.ray flight.grid cells flight.scale best child.height c between after) (child_code word k best child flies step) few)

  pub treads_child : (word k before between after : ℕ) (best found : Option Candidate) (child : Spot) (result : Result (Option Candidate) WalkFault) → IsFlight flight → IsSpot flight spot → k < 8 → IsOwnWord told spot word
      → IsStep flight spot word k best (Enter child) → result ≡ Ok found
      → ((words : List ℕ) (cells : List Cell) → IsOnTree told flight child best words cells → IsWalked flight child best cells between after result)
      → IsTreading told flight spot known k best before between → IsTreading told flight spot known (k + 1) found before after
  unfolding IsTreading
  treads_child word k before between after best found child result flies is octant own step ok walks treads words cells on =
      let walked : IsWalked flight child best cells between after result = walks words cells (child_on_tree word k best child words cells flies is octant own step on) in
      let first : IsBest (WithKnown flight.scale best (MetUnder flight.ray flight.grid cells child.height child.code)) flight.scale found =
      subst (λ r. IfOk r (IsBest (WithKnown flight.scale best (MetUnder flight.ray flight.grid cells child.height child.code)) flight.scale)) ok walked.best in
      let at : IsBest (WithKnown flight.scale best (MetUnder flight.ray flight.grid cells (spot.height - 1) (8 * spot.code + visited (turn_of flight.ray) k))) flight.scale found =
      subst (λ h. IsBest (WithKnown flight.scale best (MetUnder flight.ray flight.grid cells h (8 * spot.code + visited (turn_of flight.ray) k))) flight.scale found) (child_height word k best child step)
      (subst (λ c. IsBest (WithKnown flight.scale best (MetUnder flight.ray flight.grid cells child.height c)) flight.scale found) (child_code word k best child flies step) first) in
      walks_on flight.ray flight.grid cells flight.scale (spot.height - 1) spot.code k known best found before between after flies.some (omega (arith, is.above, is.within)) octant
      (child_full word k best child words cells flies is octant own step on) at (child_within word k between after best child cells flies step walked.reads) (treads words cells on)

  -- ---- how a walk ends

  entered_at : (words : List ℕ) (cells : List Cell) → IsSpot flight spot → IsOnTree told flight spot known words cells → IsEntered flight.ray flight.grid flight.scale known ((spot.height - 1) + 1) spot.code
  entered_at words cells is on =
      let up : spot.height ≡ (spot.height - 1) + 1 = omega (arith, is.above) in
      subst (λ h. IsEntered flight.ray flight.grid flight.scale known h spot.code) up on.entered

  within_from : (cells : List Cell) (before after : ℕ) → IsSpot flight spot → AreWithin flight.ray flight.grid cells flight.scale known ((spot.height - 1) + 1) spot.code before after
      → AreWithin flight.ray flight.grid cells flight.scale known spot.height spot.code before after
  within_from cells before after is few =
      let up : (spot.height - 1) + 1 ≡ spot.height = omega (arith, is.above) in
      subst (λ h. AreWithin flight.ray flight.grid cells flight.scale known h spot.code before after) up few

  -- a failure
  IsFailure : Result (Option Candidate) WalkFault → Type 0
  IsFailure result = (fault : WalkFault) × (result ≡ Err fault) × (fault ≡ Failed)

  fails_with : (cells : List Cell) (before after : ℕ) (result : Result (Option Candidate) WalkFault) (fault : WalkFault) → result ≡ Err fault → fault ≡ Failed
      → AreWithin flight.ray flight.grid cells flight.scale known spot.height spot.code before after → IsWalked flight spot known cells before after result
  fails_with cells before after result fault is cause few =
      let failed : IsWalked flight spot known cells before after (Err fault) = record { best = tt; reads = few; sound = cause } in
      subst (λ r. IsWalked flight spot known cells before after r) (sym is) failed

  -- the node's own word is not read
  pub fails_first : (before after : ℕ) (result : Result (Option Candidate) WalkFault) (fault : WalkFault) → IsFlight flight → IsSpot flight spot → after ≤ before + 1 → result ≡ Err fault → fault ≡ Failed
      → (words : List ℕ) (cells : List Cell) → IsOnTree told flight spot known words cells → IsWalked flight spot known cells before after result
  fails_first before after result fault flies is one err cause words cells on =
      fails_with cells before after result fault err cause (within_from cells before after is
      (stops_within flight.ray flight.grid cells flight.scale (spot.height - 1) spot.code 0 known before after flies.some (omega (arith, is.above, is.within)) (omega arith) (entered_at words cells is on)
      (λ test limit ready. omega (arith, one))))

  -- a word that is refused does not stand on a tree
  pub not_refused : (word : ℕ) (fault : WalkFault) (words : List ℕ) (cells : List Cell) → IsSpot flight spot → IsOwnWord told spot word → IsRefusal spot word fault → IsOnTree told flight spot known words cells → ⊥
  not_refused word fault words cells is own refusal on =
      let place : ℕ = refusal.misplaced.place in
      let up : spot.height ≡ (spot.height - 2) + 2 = omega (arith, refusal.above) in
      let one : spot.height - 1 ≡ (spot.height - 2) + 1 = omega (arith, refusal.above) in
      let tells : is_nonempty (face_leaves cells) (spot.height - 1) (8 * spot.code + place) ≡ has_child word place = bit_tells told flight spot known word place words cells is own refusal.misplaced.octant on in
      let full : is_nonempty (face_leaves cells) ((spot.height - 2) + 1) (8 * spot.code + place) ≡ true = subst (λ h. is_nonempty (face_leaves cells) h (8 * spot.code + place) ≡ true) one (tells ∙ refusal.misplaced.child) in
      let below : (child_number (slice_index words spot.number) place < spot.number) × HasMasks words cells ((spot.height - 2) + 1) (8 * spot.code + place) (child_number (slice_index words spot.number) place) =
      tree_child words cells (spot.height - 2) spot.code spot.number place (subst (λ h. HasMasks words cells h spot.code spot.number) up on.tree) refusal.misplaced.octant full in
      let same : child_number word place ≡ child_number (slice_index words spot.number) place = ap (λ w. child_number w place) (own_word told spot word words on.words_are own) in
      omega (arith, refusal.misplaced.late, same, below.0)

  -- a child's walk stops
  pub fails_below : (word k before between after : ℕ) (best : Option Candidate) (child : Spot) (result walk : Result (Option Candidate) WalkFault) (fault : WalkFault) → IsFlight flight → IsSpot flight spot → k < 8 → IsOwnWord told spot word
      → IsStep flight spot word k best (Enter child) → walk ≡ Err fault → result ≡ Err fault
      → ((words : List ℕ) (cells : List Cell) → IsOnTree told flight child best words cells → IsWalked flight child best cells between after walk)
      → IsTreading told flight spot known k best before between
      → (words : List ℕ) (cells : List Cell) → IsOnTree told flight spot known words cells → IsWalked flight spot known cells before after result
  unfolding IsTreading
  fails_below word k before between after best child result walk fault flies is octant own step err out walks treads words cells on =
      let walked : IsWalked flight child best cells between after walk = walks words cells (child_on_tree word k best child words cells flies is octant own step on) in
      let cause : fault ≡ Failed = subst (λ r. IfErr r (λ f. f ≡ Failed)) err walked.sound in
      fails_with cells before after result fault out cause (within_from cells before after is
      (stops_within flight.ray flight.grid cells flight.scale (spot.height - 1) spot.code (k + 1) known before after flies.some (omega (arith, is.above, is.within)) (omega (arith, octant)) (entered_at words cells is on)
      (reads_on flight.ray flight.grid cells flight.scale (spot.height - 1) spot.code k known best before between after flies.some (omega (arith, is.above, is.within)) octant
      (child_full word k best child words cells flies is octant own step on) (child_within word k between after best child cells flies step walked.reads) (treads words cells on))))

  -- all children were visited
  pub treads_last : (k before after : ℕ) (best : Option Candidate) → IsFlight flight → IsSpot flight spot → k ≡ 8 → IsTreading told flight spot known k best before after
      → (words : List ℕ) (cells : List Cell) → IsOnTree told flight spot known words cells → IsWalked flight spot known cells before after (Ok best)
  unfolding IsTreading
  treads_last k before after best flies is last treads words cells on =
      let up : (spot.height - 1) + 1 ≡ spot.height = omega (arith, is.above) in
      let way : IsUnderWay flight.ray flight.grid cells flight.scale (spot.height - 1) spot.code 8 known best before after =
      subst (λ n. IsUnderWay flight.ray flight.grid cells flight.scale (spot.height - 1) spot.code n known best before after) last (treads words cells on) in
      record {
        best = subst (λ h. IsBest (WithKnown flight.scale known (MetUnder flight.ray flight.grid cells h spot.code)) flight.scale best) up
            (ends_with flight.ray flight.grid cells flight.scale (spot.height - 1) spot.code known best before after way);
        reads = within_from cells before after is
            (stops_within flight.ray flight.grid cells flight.scale (spot.height - 1) spot.code 8 known before after flies.some (omega (arith, is.above, is.within)) (omega arith) (entered_at words cells is on) way.reads);
        sound = tt;
      }

-- ---- what the answers of the walk ask

-- a taken cell is one of the grid's
pub cell_below : (flight : Flight) (spot : Spot) (word k : ℕ) (best : Option Candidate) (cell : Candidate) → IsFlight flight → IsSpot flight spot → k < 8 → IsStep flight spot word k best (Take cell) → cell.code < 8 ^ flight.grid.depth
cell_below flight spot word k best cell flies is octant step =
    let place : visited flight.turn k < 8 = subst (λ turn. visited turn k < 8) (sym flies.turn) (visited_below (turn_of flight.ray) k (turn_below flight.ray) octant) in
    let below : 8 * spot.code + visited flight.turn k < 8 ^ (flight.grid.depth - (spot.height - 1)) = code_at flight spot (visited flight.turn k) is place in
    let level : flight.grid.depth - (spot.height - 1) ≡ flight.grid.depth = omega (arith, step.1) in
    let inside : 8 * spot.code + visited flight.turn k < 8 ^ flight.grid.depth = subst (λ l. 8 * spot.code + visited flight.turn k < 8 ^ l) level below in
    subst (λ code. code < 8 ^ flight.grid.depth) (sym step.2.code) inside

-- the file is the same in a call inside
pub on_file : (inner outer : FileView) → inner ≡ outer → (flight : Flight) (spot : Spot) (known : Option Candidate) (words : List ℕ) (cells : List Cell) → IsOnTree outer.words flight spot known words cells → IsOnTree inner.words flight spot known words cells
on_file inner outer same flight spot known words cells on = subst (λ file. IsOnTree file.words flight spot known words cells) (sym same) on

-- what `?` answers
pub err_is : {A : Type 0} (result : Result A WalkFault) (fault : WalkFault) → IsErr result × IsErrAnd result (λ e. e ≡ fault) → result ≡ Err fault
err_is (Ok x) fault h = absurd (let e = h.0 in cc)
err_is (Err e) fault h = ap Err h.1
