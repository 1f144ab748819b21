-- The children of a node one after the other, where words lead to cells.
use Rattle.std.proofs.Common.{◌≡◌, ℕ, suc, ◌+◌, ◌-◌, ◌*◌, ◌/◌, ◌%◌, ◌^◌, ◌<◌, ◌≤◌, ◌⊎◌, true, false, Bool, cond, List, ◌∷◌, ℤ, Option, None, Some, Ok, arith, refl, ap, subst, sym, ◌∙◌, inl, inr, ⊎_elim}
use Rattle.std.specs.Prelude.{nat_lt}
use Rattle.std.specs.List.{Contains}
use Rattle.std.specs.List.Sorted.{IsPermutation}
use Rattle.std.proofs.lemmas.Bool.{cases_lt, or_cases, or_parts}
use Rattle.std.proofs.lemmas.Bool.Decides.{nat_tests}
use Rattle.std.proofs.lemmas.List.Elements.{All-cons}
use Rattle.std.proofs.lemmas.List.Sorted.{All-permutation, Contains-permutation, sum_by_pushed}
use Rattle.svo_base.specs.GridShape.{GridShape}
use Rattle.octree_specs.specs.Cells.{Cell, codes_of}
use Rattle.octree_specs.specs.Formats.{face_leaves}
use Rattle.octree_specs.specs.Octree.{is_nonempty}
use Rattle.octree_specs.specs.Walking.{HasMasks}
use Rattle.octree_laws.proofs.Maps.{filled_in}
use Rattle.octree_laws.proofs.Under.{div-up}
use Rattle.node_check.specs.Walks.{has_child}
use Rattle.ray_fraction.specs.Crossings.{count_of}
use Rattle.near_query.specs.Distances.{distance_to}
use Rattle.near_query.specs.Frontiers.{IsBeaten, IsFrontier, IsOnTree, IsUnder, IsUnderSome, IsVisited}
use Rattle.near_query.specs.Nearest.{IsFound, Leads}
use Rattle.near_query.specs.Nodes.{IsNode, IsRefusal, IsStep, cell_at, improves_on, is_nearer_than}
use Rattle.near_query.specs.Queues.{ahead_of}
use Rattle.node_check.specs.declared.walking.WalkFault.{WalkFault}
use Rattle.near_query.specs.declared.cells.NearCell.{NearCell}
use Rattle.near_query.specs.declared.queues.Waiting.{Waiting}
use Rattle.near_query.specs.declared.steps.Step.TheVariants.{Skip, Take, Enter}
use Rattle.ray_walk.proofs.Costs.{count_by_children, first_cost_grows, first_cost, no_cost, one_more}
use Rattle.near_query.proofs.Farther.{cell_farther}
use Rattle.near_query.proofs.Trees.{bit_tells, cell_above, child_leads}

-- a cell lies under the child at a place, or under one behind it
abbrev pub IsAhead : Waiting → ℕ → ℕ → Type 0
IsAhead node place code = (code / 8 ^ node.height ≡ node.code) × (place ≤ code / 8 ^ (node.height - 1) % 8)

ahead_split : (node : Waiting) (place code : ℕ) → 1 ≤ node.height → IsAhead node place code → (code / 8 ^ (node.height - 1) ≡ 8 * node.code + place) ⊎ IsAhead node (place + 1) code
ahead_split node place code above ahead =
    let up : suc (node.height - 1) ≡ node.height = omega (arith, above) in
    let parent : code / 8 ^ (node.height - 1) / 8 ≡ node.code = sym (div-up code (node.height - 1)) ∙ (ap (λ h. code / 8 ^ h) up ∙ ahead.0) in
    elim (cases_lt place (code / 8 ^ (node.height - 1) % 8)) [
      | inl later ↦ inr (ahead.0, omega (arith, later))
      | inr last ↦ inl (omega (arith, parent, last, ahead.1))
    ]

-- ---- which cell comes before which

leads_itself : (distance code : ℕ) → Leads distance code distance code
leads_itself distance code = record { nearer = omega arith; tie = λ late. omega arith }

leads_trans : (d a e b f c : ℕ) → Leads d a e b → Leads e b f c → Leads d a f c
leads_trans d a e b f c first second = record {
  nearer = omega (arith, first.nearer, second.nearer);
  tie = λ late. omega (arith, first.tie (omega (arith, second.nearer, late)), second.tie (omega (arith, first.nearer, late)));
}

pub less_from : (a b : ℕ) → nat_lt a b ≡ true → a < b
less_from a b is = grind (arith, nat_tests, is)

pub from_less : (a b : ℕ) → nat_lt a b ≡ false → b ≤ a
from_less a b is = grind (arith, nat_tests, is)

-- the best cell is nearer than a node
nearer_beats : (point : List ℤ) (grid : GridShape) (best : Option NearCell) (distance code : ℕ) → is_nearer_than best distance ≡ true → distance ≤ distance_to point grid 0 code → IsBeaten point grid best code
nearer_beats point grid None distance code near farther = cc
nearer_beats point grid (Some best) distance code near farther =
    let less : best.distance < distance = less_from best.distance distance near in
    record { nearer = omega (arith, less, farther); tie = λ late. absurd (omega (arith, less, farther, late)) }

-- a cell does not come before the best
not_better : (point : List ℤ) (grid : GridShape) (best : Option NearCell) (code : ℕ) → improves_on (cell_at point grid code) best ≡ false → IsBeaten point grid best code
not_better point grid None code not = cc
not_better point grid (Some best) code not =
    let parts = or_parts (nat_lt (distance_to point grid 0 code) best.distance) (nat_lt code best.code) not in
    record { nearer = from_less (distance_to point grid 0 code) best.distance parts.0; tie = λ late. from_less code best.code parts.1 }

-- a cell that comes before the best comes before what the best comes before
better_beats : (point : List ℤ) (grid : GridShape) (best : Option NearCell) (cell : NearCell) (code : ℕ) → is_nearer_than best cell.distance ≡ false → improves_on cell best ≡ true
    → IsBeaten point grid best code → IsBeaten point grid (Some cell) code
better_beats point grid None cell code near improves beaten = absurd beaten
better_beats point grid (Some best) cell code near improves beaten =
    leads_trans cell.distance cell.code best.distance best.code (distance_to point grid 0 code) code
    (record {
      nearer = from_less best.distance cell.distance near;
      tie = λ late. elim (or_cases (nat_lt cell.distance best.distance) (nat_lt cell.code best.code) improves) [
        | inl less ↦ absurd (omega (arith, less_from cell.distance best.distance less, late))
        | inr less ↦ omega (arith, less_from cell.code best.code less)
      ];
    })
    beaten

-- ---- what was seen, and what is ahead

-- after so many children: the frontier moved past them, and as many fewer nodes are ahead as they count for
pub record IsTold (words : List ℕ) (cells : List Cell) (point : List ℤ) (grid : GridShape) (node : Waiting) (known : Option NearCell) (before : List Waiting) (place : ℕ) (best : Option NearCell) (now : List Waiting) : Type 0 where
  pub frontier : IsFrontier words cells point grid known before (IsUnder node) → IsFrontier words cells point grid best now (IsAhead node place)
  pub fewer : (test : ℕ → ℕ → Bool) → ahead_of test cells now ≤ ahead_of test cells before + first_cost test cells (node.height - 1) node.code place

module _ (words : List ℕ) (cells : List Cell) (point : List ℤ) (grid : GridShape) where
  -- a filled cell that no child seen to has: how the rest of it is seen
  abbrev Sees : Option NearCell → List Waiting → (ℕ → Type 0) → ℕ → Type 0
  Sees best waiting Ahead code = IsBeaten point grid best code ⊎ IsUnderSome waiting code ⊎ Ahead code

  sees : (best next : Option NearCell) (now later : List Waiting) (Ahead Rest : ℕ → Type 0) (code : ℕ)
      → (IsBeaten point grid best code → Sees next later Rest code) → (IsUnderSome now code → Sees next later Rest code) → (Ahead code → Sees next later Rest code)
      → Sees best now Ahead code → Sees next later Rest code
  sees best next now later Ahead Rest code if_beaten if_waiting if_ahead seen =
      ⊎_elim if_beaten (λ (rest : IsUnderSome now code ⊎ Ahead code). ⊎_elim if_waiting if_ahead rest) seen

  module _ (node : Waiting) (known : Option NearCell) (before : List Waiting) where
    pub told_first : IsTold words cells point grid node known before 0 known before
    told_first = record {
      frontier = λ front. record {
        trees = front.trees;
        found = front.found;
        covers = λ code filled. sees known known before before (IsUnder node) (IsAhead node 0) code inl (λ waits. inr (inl waits)) (λ under. inr (inr (under, omega arith))) (front.covers code filled);
      };
      fewer = λ test. omega (arith, no_cost test cells (node.height - 1) node.code);
    }

    -- no cell under the child comes before the best
    told_beaten : (place : ℕ) (best : Option NearCell) (now : List Waiting) → 1 ≤ node.height
        → ((code : ℕ) → Contains (codes_of cells) code → code / 8 ^ (node.height - 1) ≡ 8 * node.code + place → IsBeaten point grid best code)
        → IsTold words cells point grid node known before place best now → IsTold words cells point grid node known before (place + 1) best now
    told_beaten place best now above beats told = record {
      frontier = λ front.
          let moved : IsFrontier words cells point grid best now (IsAhead node place) = told.frontier front in
          record {
            trees = moved.trees;
            found = moved.found;
            covers = λ code filled. sees best best now now (IsAhead node place) (IsAhead node (place + 1)) code inl (λ waits. inr (inl waits))
                (λ ahead. ⊎_elim (λ under. inl (beats code filled under)) (λ rest. inr (inr rest)) (ahead_split node place code above ahead)) (moved.covers code filled);
          };
      fewer = λ test. omega (arith, told.fewer test, first_cost_grows test cells (node.height - 1) node.code place);
    }

    skip_beats : (word place : ℕ) (best : Option NearCell) → IsOnTree words cells node word → IsNode point grid node → place < 8 → IsStep point grid node word place best Skip
        → (code : ℕ) → Contains (codes_of cells) code → code / 8 ^ (node.height - 1) ≡ 8 * node.code + place → IsBeaten point grid best code
    skip_beats word place best on is octant step code filled under =
        let tells : is_nonempty (face_leaves cells) (node.height - 1) (8 * node.code + place) ≡ has_child word place = bit_tells words cells node word place on is.above octant in
        let some : is_nonempty (face_leaves cells) (node.height - 1) (8 * node.code + place) ≡ true =
        subst (λ n. is_nonempty (face_leaves cells) (node.height - 1) n ≡ true) under (cell_above cells (node.height - 1) code filled) in
        let farther : distance_to point grid (node.height - 1) (8 * node.code + place) ≤ distance_to point grid 0 code =
        subst (λ n. distance_to point grid (node.height - 1) n ≤ distance_to point grid 0 code) under (cell_farther point grid (node.height - 1) code (omega (arith, is.within))) in
        elim step [
          | inl empty ↦ let full : has_child word place ≡ true = sym tells ∙ some in cc
          | inr (inl near) ↦ nearer_beats point grid best (distance_to point grid (node.height - 1) (8 * node.code + place)) code near farther
          | inr (inr last) ↦
              let none : node.height - 1 ≡ 0 = omega (arith, last.0) in
              let same : 8 * node.code + place ≡ code = sym under ∙ (ap (λ h. code / 8 ^ h) none ∙ omega arith) in
              not_better point grid best code (subst (λ c. improves_on (cell_at point grid c) best ≡ false) same last.1)
        ]

    pub told_past : (word place : ℕ) (best : Option NearCell) (now : List Waiting) → IsOnTree words cells node word → IsNode point grid node → place < 8 → IsStep point grid node word place best Skip
        → IsTold words cells point grid node known before place best now → IsTold words cells point grid node known before (place + 1) best now
    told_past word place best now on is octant step told = told_beaten place best now is.above (skip_beats word place best on is octant step) told

    pub told_taken : (word place : ℕ) (best : Option NearCell) (cell : NearCell) (now : List Waiting) → IsOnTree words cells node word → IsNode point grid node → place < 8 → IsStep point grid node word place best (Take cell)
        → IsTold words cells point grid node known before place best now → IsTold words cells point grid node known before (place + 1) (Some cell) now
    told_taken word place best cell now on is octant step told =
        let none : node.height - 1 ≡ 0 = omega (arith, step.1) in
        let bit : is_nonempty (face_leaves cells) (node.height - 1) (8 * node.code + place) ≡ true = bit_tells words cells node word place on is.above octant ∙ step.0 in
        let code_is : cell.code ≡ 8 * node.code + place = ap (λ c. c.code) step.2 in
        let at : cell.distance ≡ distance_to point grid 0 (8 * node.code + place) = ap (λ c. c.distance) step.2 in
        let found : IsFound point grid cells cell = record {
          filled = subst (λ c. Contains (codes_of cells) c) (sym code_is) (filled_in cells (8 * node.code + place) (subst (λ h. is_nonempty (face_leaves cells) h (8 * node.code + place) ≡ true) none bit));
          at = at ∙ ap (distance_to point grid 0) (sym code_is);
        } in
        record {
          frontier = λ front.
              let moved : IsFrontier words cells point grid best now (IsAhead node place) = told.frontier front in
              record {
                trees = moved.trees;
                found = found;
                covers = λ code filled. sees best (Some cell) now now (IsAhead node place) (IsAhead node (place + 1)) code
                    (λ beaten. inl (better_beats point grid best cell code step.3 step.4 beaten)) (λ waits. inr (inl waits))
                    (λ ahead. ⊎_elim
                    (λ under. inl (itself cell code (code_is ∙ (sym under ∙ (ap (λ h. code / 8 ^ h) none ∙ whole code))) found.at))
                    (λ rest. inr (inr rest)) (ahead_split node place code is.above ahead)) (moved.covers code filled);
              };
          fewer = λ test. omega (arith, told.fewer test, first_cost_grows test cells (node.height - 1) node.code place);
        }
      where
        whole : (code : ℕ) → code / 8 ^ 0 ≡ code
        whole code = omega arith

        itself : (cell : NearCell) (code : ℕ) → cell.code ≡ code → cell.distance ≡ distance_to point grid 0 cell.code → Leads cell.distance cell.code (distance_to point grid 0 code) code
        itself cell code same at = subst (λ c. Leads cell.distance cell.code (distance_to point grid 0 c) c) same (subst (λ d. Leads cell.distance cell.code d cell.code) at (leads_itself cell.distance cell.code))

    pub told_put : (word place : ℕ) (best : Option NearCell) (child : Waiting) (now later : List Waiting) → IsOnTree words cells node word → IsNode point grid node → place < 8 → IsStep point grid node word place best (Enter child)
        → IsPermutation (child ∷ now) later → IsTold words cells point grid node known before place best now → IsTold words cells point grid node known before (place + 1) best later
    told_put word place best child now later on is octant step moved told =
        let low : child.height ≡ node.height - 1 = omega (arith, step.2) in
        let some : is_nonempty (face_leaves cells) (node.height - 1) (8 * node.code + place) ≡ true = bit_tells words cells node word place on is.above octant ∙ step.0 in
        let leads = child_leads words cells node word place on (omega (arith, step.2, step.1.above)) octant step.0 in
        let tree : HasMasks words cells child.height child.code child.number =
        subst (λ h. HasMasks words cells h child.code child.number) (sym low) (subst (λ c. HasMasks words cells (node.height - 1) c child.number) (sym step.3)
        (subst (λ n. HasMasks words cells (node.height - 1) (8 * node.code + place) n) (sym step.4) leads.1)) in
        let pushed : (test : ℕ → ℕ → Bool) → ahead_of test cells later ≡ count_of test cells child.height child.code + ahead_of test cells now =
        λ test. sum_by_pushed (λ (other : Waiting). count_of test cells other.height other.code) child now later moved in
        let counted : (test : ℕ → ℕ → Bool) → count_of test cells child.height child.code ≡ count_of test cells (node.height - 1) (8 * node.code + place) =
        λ test. ap (λ h. count_of test cells h child.code) low ∙ ap (count_of test cells (node.height - 1)) step.3 in
        record {
          frontier = λ front.
              let old : IsFrontier words cells point grid best now (IsAhead node place) = told.frontier front in
              record {
                trees = All-permutation (λ other. HasMasks words cells other.height other.code other.number) (child ∷ now) later moved
                    (All-cons (λ other. HasMasks words cells other.height other.code other.number) child now tree old.trees);
                found = old.found;
                covers = λ code filled. sees best best now later (IsAhead node place) (IsAhead node (place + 1)) code inl
                    (λ waits. inr (inl (record { node = waits.node; waits = Contains-permutation (child ∷ now) later waits.node moved (behind waits.node waits.waits); under = waits.under })))
                    (λ ahead. ⊎_elim
                    (λ under. inr (inl (record { node = child; waits = Contains-permutation (child ∷ now) later child moved (0, omega arith, refl); under = ap (λ h. code / 8 ^ h) low ∙ (under ∙ sym step.3) })))
                    (λ rest. inr (inr rest)) (ahead_split node place code is.above ahead)) (old.covers code filled);
              };
          fewer = λ test. omega (arith, told.fewer test, pushed test, counted test, one_more test cells (node.height - 1) node.code place some);
        }
      where
        behind : (other : Waiting) → Contains now other → Contains (child ∷ now) other
        behind other has = (suc has.0, omega (arith, has.1), has.2)

    -- all children are seen to
    pub told_last : (place : ℕ) (best : Option NearCell) (now : List Waiting) → 1 ≤ node.height → place ≡ 8 → IsTold words cells point grid node known before place best now
        → IsVisited words cells point grid node known before now (Ok best)
    told_last place best now above all told =
        let up : (node.height - 1) + 1 ≡ node.height = omega (arith, above) in
        record {
          frontier = λ front.
              let old : IsFrontier words cells point grid best now (IsAhead node place) = told.frontier front in
              record {
                trees = old.trees;
                found = old.found;
                covers = λ code filled. sees best best now now (IsAhead node place) (λ c. ⊥) code inl (λ waits. inr (inl waits)) (λ ahead. absurd (omega (arith, ahead.1, all))) (old.covers code filled);
              };
          fewer = λ test.
              let count : count_of test cells node.height node.code ≡ cond (test node.height node.code) 1 0 + first_cost test cells (node.height - 1) node.code 8 =
              subst (λ h. count_of test cells h node.code ≡ cond (test h node.code) 1 0 + first_cost test cells (node.height - 1) node.code 8) up (count_by_children test cells (node.height - 1) node.code) in
              let most : ahead_of test cells now ≤ ahead_of test cells before + first_cost test cells (node.height - 1) node.code 8 =
              subst (λ p. ahead_of test cells now ≤ ahead_of test cells before + first_cost test cells (node.height - 1) node.code p) all (told.fewer test) in
              omega (arith, count, most);
          sound = tt;
        }

-- words that lead to cells refuse no child
pub not_refused : (words : List ℕ) (cells : List Cell) (node : Waiting) (word : ℕ) (fault : WalkFault) → IsOnTree words cells node word → IsRefusal node word fault → ⊥
not_refused words cells node word fault on refusal =
    let leads = child_leads words cells node word refusal.misplaced.place on refusal.above refusal.misplaced.octant refusal.misplaced.child in
    omega (arith, leads.0, refusal.misplaced.late)
