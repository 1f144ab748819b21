-- What is known of all cells while nodes wait.
use Rattle.std.proofs.Common.{◌≡◌, ℕ, zero, suc, ◌+◌, ◌/◌, ◌^◌, ◌<◌, ◌≤◌, ◌⊎◌, true, false, Bool, cond, List, [], ◌∷◌, ℤ, Option, None, Some, arith, refl, ap, subst, sym, ◌∙◌, inl, inr, ⊎_elim, lit≤}
use Rattle.std.specs.Prelude.{All, nat_le}
use Rattle.std.specs.List.{Contains}
use Rattle.std.specs.List.Sorted.{IsPermutation}
use Rattle.std.proofs.Math.Nat.{div-eq_of_lt}
use Rattle.std.proofs.lemmas.Bool.Decides.{nat_tests}
use Rattle.std.proofs.lemmas.List.Elements.{All-contains, All-cons, All-head, All-nil, All-tail}
use Rattle.std.proofs.lemmas.List.Sorted.{All-permutation, Contains-permutation, sum_by_popped, sum_by_pushed}
use Rattle.svo_base.specs.GridShape.{GridShape}
use Rattle.octree_specs.specs.Cells.{Cell, codes_of}
use Rattle.octree_specs.specs.Walking.{HasMasks}
use Rattle.ray_fraction.specs.Crossings.{count_of}
use Rattle.near_query.specs.Distances.{distance_to}
use Rattle.near_query.specs.Frontiers.{IsBeaten, IsFrontier, IsUnder, IsUnderSome}
use Rattle.near_query.specs.Nearest.{IsNearest, Leads, closer_of, is_closer}
use Rattle.near_query.specs.Nodes.{IsNode, is_nearer_than}
use Rattle.near_query.specs.Queues.{ahead_of}
use Rattle.near_query.specs.declared.cells.NearCell.{NearCell}
use Rattle.near_query.specs.declared.queues.Waiting.{Waiting}
use Rattle.near_query.proofs.Farther.{cell_farther}
use Rattle.near_query.proofs.Seeing.{from_less, less_from}

in_rest : (node : Waiting) (rest : List Waiting) (other : Waiting) → Contains (node ∷ rest) other → (node ≡ other) ⊎ Contains rest other
in_rest node rest other (zero, within, is) = inl is
in_rest node rest other (suc place, within, is) = inr (place, omega (arith, within), is)

-- the nearest cell is found, and as many nodes were read as are not ahead
pub record IsSearching (words : List ℕ) (cells : List Cell) (point : List ℤ) (grid : GridShape) (best : Option NearCell) (waiting : List Waiting) (before now : ℕ) : Type 0 where
  pub frontier : IsFrontier words cells point grid best waiting (λ code. ⊥)
  pub few : (nearest : Option NearCell) → IsNearest point grid cells nearest → now + ahead_of (is_closer point grid nearest) cells waiting ≤ before + closer_of point grid cells nearest

module _ (words : List ℕ) (cells : List Cell) (point : List ℤ) (grid : GridShape) where
  -- the root alone waits
  pub begins : (root : Waiting) (waiting : List Waiting) (before : ℕ) → IsPermutation (root ∷ []) waiting → root.height ≡ grid.depth → root.code ≡ 0 → HasMasks words cells root.height root.code root.number
      → ((code : ℕ) → Contains (codes_of cells) code → code < 8 ^ grid.depth) → IsSearching words cells point grid None waiting before before
  begins root waiting before moved is_height is_code tree inside = record {
    frontier = record {
      trees = All-permutation (λ node. HasMasks words cells node.height node.code node.number) (root ∷ []) waiting moved
          (All-cons (λ node. HasMasks words cells node.height node.code node.number) root [] tree (All-nil (λ node. HasMasks words cells node.height node.code node.number)));
      found = tt;
      covers = λ code filled. inr (inl (record {
        node = root;
        waits = Contains-permutation (root ∷ []) waiting root moved (0, omega arith, refl);
        under = ap (λ h. code / 8 ^ h) is_height ∙ (div-eq_of_lt (inside code filled) ∙ sym is_code);
      }));
    };
    few = λ nearest is.
        let test : ℕ → ℕ → Bool = is_closer point grid nearest in
        let pushed : ahead_of test cells waiting ≡ count_of test cells root.height root.code + 0 = sum_by_pushed (λ (node : Waiting). count_of test cells node.height node.code) root [] waiting moved in
        let whole : count_of test cells root.height root.code ≡ count_of test cells grid.depth 0 = ap (λ h. count_of test cells h root.code) is_height ∙ ap (count_of test cells grid.depth) is_code in
        omega (arith, pushed, whole);
  }

  -- one node is taken out
  pub popped_front : (best : Option NearCell) (node : Waiting) (old rest : List Waiting) → IsPermutation old (node ∷ rest) → IsFrontier words cells point grid best old (λ code. ⊥) → IsFrontier words cells point grid best rest (IsUnder node)
  popped_front best node old rest moved front = record {
    trees = All-tail (λ (n : Waiting). HasMasks words cells n.height n.code n.number) node rest (All-permutation (λ n. HasMasks words cells n.height n.code n.number) old (node ∷ rest) moved front.trees);
    found = front.found;
    covers = λ code filled. ⊎_elim inl
        (λ (more : IsUnderSome old code ⊎ ⊥). ⊎_elim
        (λ waits. ⊎_elim
        (λ here. inr (inr (subst (λ (n : Waiting). IsUnder n code) (sym here) waits.under)))
        (λ there. inr (inl (record { node = waits.node; waits = there; under = waits.under })))
        (in_rest node rest waits.node (Contains-permutation old (node ∷ rest) waits.node moved waits.waits)))
        (λ never. absurd never) more)
        (front.covers code filled);
  }

  pub popped_tree : (best : Option NearCell) (node : Waiting) (old rest : List Waiting) → IsPermutation old (node ∷ rest) → IsFrontier words cells point grid best old (λ code. ⊥) → HasMasks words cells node.height node.code node.number
  popped_tree best node old rest moved front = All-head (λ (n : Waiting). HasMasks words cells n.height n.code n.number) node rest (All-permutation (λ n. HasMasks words cells n.height n.code n.number) old (node ∷ rest) moved front.trees)

  -- a node is not farther than the cells under it
  under_farther : (node : Waiting) (code : ℕ) → IsNode point grid node → IsUnder node code → node.distance ≤ distance_to point grid 0 code
  under_farther node code is under =
      let farther : distance_to point grid node.height node.code ≤ distance_to point grid 0 code = subst (λ n. distance_to point grid node.height n ≤ distance_to point grid 0 code) under (cell_farther point grid node.height code is.within) in
      omega (arith, is.at, farther)

  -- so the first node is not farther than any cell that the best does not come before
  rest_farther : (node : Waiting) (rest : List Waiting) (code : ℕ) → IsNode point grid node → All (IsNode point grid) rest → All (λ other. node.distance ≤ other.distance) rest
      → IsUnderSome rest code ⊎ IsUnder node code → node.distance ≤ distance_to point grid 0 code
  rest_farther node rest code is nodes least (inl waits) =
      let other : node.distance ≤ waits.node.distance = All-contains (λ (other : Waiting). node.distance ≤ other.distance) rest waits.node least waits.waits in
      omega (arith, other, under_farther waits.node code (All-contains (IsNode point grid) rest waits.node nodes waits.waits) waits.under)
  rest_farther node rest code is nodes least (inr under) = under_farther node code is under

  best_farther : (best : Option NearCell) (distance code : ℕ) → is_nearer_than best distance ≡ false → IsBeaten point grid best code → distance ≤ distance_to point grid 0 code
  best_farther None distance code near beaten = absurd beaten
  best_farther (Some best) distance code near beaten = omega (arith, from_less best.distance distance near, beaten.nearer)

  -- the first node is not farther than the nearest cell, where the best is not nearer than the node
  pub is_close : (best : Option NearCell) (node : Waiting) (rest : List Waiting) (nearest : Option NearCell) → IsNode point grid node → All (IsNode point grid) rest → All (λ other. node.distance ≤ other.distance) rest
      → is_nearer_than best node.distance ≡ false → IsFrontier words cells point grid best rest (IsUnder node) → IsNearest point grid cells nearest → is_closer point grid nearest node.height node.code ≡ true
  unfolding is_closer
  is_close best node rest None is nodes least near front nearest = refl
  is_close best node rest (Some cell) is nodes least near front nearest =
      let close : node.distance ≤ distance_to point grid 0 cell.code = ⊎_elim (best_farther best node.distance cell.code near) (rest_farther node rest cell.code is nodes least) (front.covers cell.code nearest.found.filled) in
      at_most (distance_to point grid node.height node.code) cell.distance (omega (arith, close, is.at, nearest.found.at))
    where
      at_most : (a b : ℕ) → a ≤ b → nat_le a b ≡ true
      at_most a b less = grind (arith, nat_tests, less)

  -- the node was read, and nothing more is known
  pub one_read : (best : Option NearCell) (node : Waiting) (old rest : List Waiting) (before now : ℕ) → IsPermutation old (node ∷ rest) → 1 ≤ node.height
      → ((nearest : Option NearCell) → IsNearest point grid cells nearest → is_closer point grid nearest node.height node.code ≡ true)
      → IsSearching words cells point grid best old before now
      → (nearest : Option NearCell) → IsNearest point grid cells nearest → now + 1 ≤ before + closer_of point grid cells nearest
  one_read best node old rest before now moved above close known nearest is =
      let test : ℕ → ℕ → Bool = is_closer point grid nearest in
      let taken : ahead_of test cells rest + count_of test cells node.height node.code ≡ ahead_of test cells old = sum_by_popped (λ (n : Waiting). count_of test cells n.height n.code) node old rest moved in
      omega (arith, known.few nearest is, taken, counts test node.height node.code above (close nearest is))
    where
      counts : (test : ℕ → ℕ → Bool) (height code : ℕ) → 1 ≤ height → test height code ≡ true → 1 ≤ count_of test cells height code
      counts test zero code above passes = absurd (omega (arith, above))
      counts test (suc height) code above passes = rw passes (omega arith)

  -- and its children are seen to
  pub moved_on : (best next : Option NearCell) (node : Waiting) (old rest later : List Waiting) (before now : ℕ) → IsPermutation old (node ∷ rest)
      → ((nearest : Option NearCell) → IsNearest point grid cells nearest → is_closer point grid nearest node.height node.code ≡ true)
      → IsFrontier words cells point grid next later (λ code. ⊥)
      → ((test : ℕ → ℕ → Bool) → cond (test node.height node.code) 1 0 + ahead_of test cells later ≤ ahead_of test cells rest + count_of test cells node.height node.code)
      → IsSearching words cells point grid best old before now → IsSearching words cells point grid next later before (now + 1)
  moved_on best next node old rest later before now moved close front fewer known = record {
    frontier = front;
    few = λ nearest is.
        let test : ℕ → ℕ → Bool = is_closer point grid nearest in
        let taken : ahead_of test cells rest + count_of test cells node.height node.code ≡ ahead_of test cells old = sum_by_popped (λ (n : Waiting). count_of test cells n.height n.code) node old rest moved in
        let one : 1 ≤ cond (test node.height node.code) 1 0 = one_counted (test node.height node.code) (close nearest is) in
        omega (arith, known.few nearest is, taken, fewer test, one);
  }
    where
      one_counted : (b : Bool) → b ≡ true → 1 ≤ cond b 1 0
      one_counted b is = rw is (lit≤ tt)

  -- how many were read at any time
  pub few_so_far : (best : Option NearCell) (waiting : List Waiting) (before now : ℕ) → IsSearching words cells point grid best waiting before now
      → (nearest : Option NearCell) → IsNearest point grid cells nearest → now ≤ before + closer_of point grid cells nearest
  few_so_far best waiting before now known nearest is = omega (arith, known.few nearest is)

  -- the best is nearer than the first node that waits
  pub ended : (best : Option NearCell) (node : Waiting) (rest : List Waiting) → IsNode point grid node → All (IsNode point grid) rest → All (λ other. node.distance ≤ other.distance) rest
      → is_nearer_than best node.distance ≡ true → IsFrontier words cells point grid best rest (IsUnder node) → IsNearest point grid cells best
  ended None node rest is nodes least near front = cc
  ended (Some best) node rest is nodes least near front = record {
    found = front.found;
    first = λ code filled. ⊎_elim (λ (beaten : Leads best.distance best.code (distance_to point grid 0 code) code). beaten)
        (λ (more : IsUnderSome rest code ⊎ IsUnder node code).
        let less : best.distance < node.distance = less_from best.distance node.distance near in
        let farther : node.distance ≤ distance_to point grid 0 code = rest_farther node rest code is nodes least more in
        record { nearer = omega (arith, less, farther); tie = λ late. absurd (omega (arith, less, farther, late)) })
        (front.covers code filled);
  }

  none_waits : (waiting : List Waiting) (code : ℕ) → waiting ≡ [] → IsUnderSome waiting code ⊎ ⊥ → ⊥
  none_waits waiting code empty (inl waits) =
      let none : Contains [] waits.node = subst (λ list. Contains list waits.node) empty waits.waits in
      omega (arith, none.1)
  none_waits waiting code empty (inr never) = never

  -- no node waits
  pub ran_out : (best : Option NearCell) (waiting : List Waiting) → waiting ≡ [] → IsFrontier words cells point grid best waiting (λ code. ⊥) → IsNearest point grid cells best
  ran_out None waiting empty front = λ code filled. ⊎_elim (λ (never : IsBeaten point grid None code). never) (λ (more : IsUnderSome waiting code ⊎ ⊥). none_waits waiting code empty more) (front.covers code filled)
  ran_out (Some best) waiting empty front = record {
    found = front.found;
    first = λ code filled. ⊎_elim (λ (beaten : Leads best.distance best.code (distance_to point grid 0 code) code). beaten)
        (λ (more : IsUnderSome waiting code ⊎ ⊥). absurd (none_waits waiting code empty more)) (front.covers code filled);
  }
