-- What the checker answers.
use Rattle.std.specs.Prelude.{◌≡◌, ℕ, ◌+◌, ◌-◌, ◌*◌, ◌^◌, ◌<◌, ◌≤◌, ⊤, cond, List, length, slice_index, Option, None, Some, Result, Ok, Err}
use Rattle.octree_specs.specs.Cells.{Cell}
use Rattle.octree_specs.specs.Checking.{LeafRule, Fitted}
use Rattle.octree_specs.specs.Formats.{StandFor}
use Rattle.octree_laws.specs.Laws.{StandForMany}
use Rattle.node_file.specs.declared.records.Totals.{Totals}
use Rattle.node_check.specs.declared.checking.CheckFault.{CheckFault}
use Rattle.node_check.specs.declared.checking.CheckFault.TheVariants.{Failed, Refused}
use Rattle.node_check.specs.declared.checking.Subtree.{Subtree}

-- an answer of one node is the wanted one, unless a read failed
abbrev pub Agrees : Result Fitted ℕ → Result Subtree CheckFault → Type 0
Agrees wanted (Ok span) = wanted ≡ Ok (record { next = span.next; cells = span.cells })
Agrees wanted (Err (Refused number)) = wanted ≡ Err number
Agrees wanted (Err Failed) = ⊤

-- a leaf is placed where the words below it would be
abbrev pub leaf_fit : LeafRule → (word number at : ℕ) → Result Fitted ℕ
leaf_fit rule word number at = cond (rule.allows word) (Ok (record { next = at; cells = rule.cells word })) (Err number)

-- the same of a leaf whose word stands among those of its siblings, the first of which has the number `base`
abbrev pub leaf_among : LeafRule → List ℕ → (base number at : ℕ) → Result Fitted ℕ
leaf_among rule siblings base number at = leaf_fit rule (slice_index siblings (number - base)) number at

-- a whole file is refused by this number, or it has these numbers of words and cells, unless a read failed
abbrev pub IsVerdict : Option ℕ → Totals → Result Totals CheckFault → Type 0
IsVerdict refused totals (Ok answer) = (refused ≡ None) × (answer ≡ totals)
IsVerdict refused totals (Err (Refused number)) = refused ≡ Some number
IsVerdict refused totals (Err Failed) = ⊤

-- the words stand for so many cells with faces, and for no others
pub record HasOneMap (format depth count : ℕ) (words : List ℕ) : Type 0 where
  pub cells : List Cell
  pub stand : StandFor format depth words cells
  pub count_is : length cells ≡ count
  pub only : (others : List Cell) → StandFor format depth words others → others ≡ cells

-- a file that is taken has one map; one that is refused has none
abbrev pub IsSettled : ℕ → ℕ → ℕ → List ℕ → Result Totals CheckFault → Type 0
IsSettled format depth count words (Ok answer) = HasOneMap format depth count words
IsSettled format depth count words (Err (Refused number)) = StandForMany format depth words count → ⊥
IsSettled format depth count words (Err Failed) = ⊤

-- of a node that fits: what lies below it was read once, word for word
pub record IsBounded (records height at before after : ℕ) (span : Subtree) : Type 0 where
  pub inside : span.next < records
  pub few : span.cells ≤ 8 ^ (height + 1)
  pub once : after + at ≡ before + span.next

-- of any node: no more reads than words, and eight a level
abbrev pub ReadsFew : ℕ → ℕ → ℕ → ℕ → ℕ → Type 0
ReadsFew records height at before after = after + at + 1 ≤ before + (records + 8 * height)
