-- The children of a node one after the other, whatever the words are.
use Rattle.std.proofs.Common.{◌≡◌, ℕ, zero, suc, ◌+◌, ◌-◌, ◌*◌, ◌^◌, ◌<◌, ◌≤◌, List, ◌∷◌, ℤ, Option, Some, IfSome, arith, ap, subst, sym, ◌∙◌}
use Rattle.std.specs.Prelude.{All}
use Rattle.std.specs.List.Sorted.{IsPermutation}
use Rattle.std.proofs.Math.Nat.{pow-suc}
use Rattle.std.proofs.lemmas.List.Elements.{All-cons}
use Rattle.std.proofs.lemmas.List.Sorted.{All-permutation, sum_by_pushed}
use Rattle.svo_base.specs.GridShape.{GridShape}
use Rattle.near_query.specs.Nodes.{IsNode, IsStep}
use Rattle.near_query.specs.Queues.{weight_of}
use Rattle.near_query.specs.declared.cells.NearCell.{NearCell}
use Rattle.near_query.specs.declared.queues.Waiting.{Waiting}
use Rattle.near_query.specs.declared.steps.Step.TheVariants.{Take, Enter}
use Rattle.near_query.proofs.Codes.{child_inside}

-- those that wait are nodes of the grid, with words that are there, and weigh not too much; the best cell is one of the grid's
pub record IsUnderWay (point : List ℤ) (grid : GridShape) (node : Waiting) (before : List Waiting) (place : ℕ) (best : Option NearCell) (now : List Waiting) : Type 0 where
  pub nodes : All (IsNode point grid) now
  pub there : (records : ℕ) → node.number < records → All (λ other. other.number < records) before → All (λ other. other.number < records) now
  pub code : IfSome best (λ cell. cell.code < 8 ^ grid.depth)
  pub weight : weight_of now ≤ weight_of before + place * 9 ^ (node.height - 1)

module _ (point : List ℤ) (grid : GridShape) (node : Waiting) (before : List Waiting) where
  pub begins : (best : Option NearCell) → All (IsNode point grid) before → IfSome best (λ cell. cell.code < 8 ^ grid.depth) → IsUnderWay point grid node before 0 best before
  begins best nodes code = record { nodes = nodes; there = λ records below all. all; code = code; weight = omega arith }

  pub past : (place : ℕ) (best : Option NearCell) (now : List Waiting) → IsUnderWay point grid node before place best now → IsUnderWay point grid node before (place + 1) best now
  past place best now way = record { nodes = way.nodes; there = way.there; code = way.code; weight = omega (arith, way.weight) }

  pub taken : (word place : ℕ) (best : Option NearCell) (cell : NearCell) (now : List Waiting) → IsNode point grid node → place < 8 → IsStep point grid node word place best (Take cell)
      → IsUnderWay point grid node before place best now → IsUnderWay point grid node before (place + 1) (Some cell) now
  taken word place best cell now is octant step way =
      let level : grid.depth - (node.height - 1) ≡ grid.depth = omega (arith, step.1) in
      let inside : 8 * node.code + place < 8 ^ grid.depth = subst (λ l. 8 * node.code + place < 8 ^ l) level (child_inside point grid node place is octant) in
      record {
        nodes = way.nodes;
        there = way.there;
        code = subst (λ c. c < 8 ^ grid.depth) (sym (ap (λ c. c.code) step.2)) inside;
        weight = omega (arith, way.weight);
      }

  pub put_in : (word place : ℕ) (best : Option NearCell) (child : Waiting) (now later : List Waiting) → IsStep point grid node word place best (Enter child) → IsPermutation (child ∷ now) later
      → IsUnderWay point grid node before place best now → IsUnderWay point grid node before (place + 1) best later
  put_in word place best child now later step moved way =
      let low : child.height ≡ node.height - 1 = omega (arith, step.2) in
      let pushed : weight_of later ≡ 9 ^ child.height + weight_of now = sum_by_pushed (λ node. 9 ^ node.height) child now later moved in
      let weighs : 9 ^ child.height ≡ 9 ^ (node.height - 1) = ap (λ h. 9 ^ h) low in
      record {
        nodes = All-permutation (IsNode point grid) (child ∷ now) later moved (All-cons (IsNode point grid) child now step.1 way.nodes);
        there = λ records below all. All-permutation (λ other. other.number < records) (child ∷ now) later moved
            (All-cons (λ other. other.number < records) child now (omega (arith, step.5, below)) (way.there records below all));
        code = way.code;
        weight = omega (arith, way.weight, pushed, weighs);
      }

  -- eight children weigh less than their parent
  pub lighter : (place : ℕ) (best : Option NearCell) (now : List Waiting) → 1 ≤ node.height → place ≡ 8 → IsUnderWay point grid node before place best now → weight_of now < weight_of before + 9 ^ node.height
  lighter place best now above all way =
      let up : node.height ≡ suc (node.height - 1) = omega (arith, above) in
      let power : 9 ^ node.height ≡ 9 ^ (node.height - 1) * 9 = ap (λ h. 9 ^ h) up ∙ pow-suc 9 (node.height - 1) in
      let some : 1 ≤ 9 ^ (node.height - 1) = nine_some (node.height - 1) in
      let most : weight_of now ≤ weight_of before + 8 * 9 ^ (node.height - 1) = subst (λ p. weight_of now ≤ weight_of before + p * 9 ^ (node.height - 1)) all way.weight in
      omega (arith, most, power, some)
    where
      nine_some : (n : ℕ) → 1 ≤ 9 ^ n
      nine_some zero = omega arith
      nine_some (suc n) = omega (arith, pow-suc 9 n, nine_some n)
