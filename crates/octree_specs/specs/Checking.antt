-- Which word of a framed file the checker refuses, where its words are those of no cells. It goes through the words as a reader of the octree does, from the root down, and for each node keeps count of the words below the nodes before it.
use Rattle.std.specs.Prelude.{ℕ, zero, suc, ◌+◌, ◌-◌, ◌/◌, ◌%◌, ◌==◌, ◌&&◌, ◌||◌, not, nat_lt, nat_le, Bool, cond, List, length, slice_index, count_ones, Option, None, Some, Result, Ok, Err}
use Rattle.octree_specs.specs.Formats.{levels_of}

-- a word's mask, the number of its bits, and its base
abbrev pub mask_in : ℕ → ℕ
mask_in word = word % 256

abbrev pub ones_in : ℕ → ℕ
ones_in word = count_ones (word % 256)

abbrev pub base_in : ℕ → ℕ
base_in word = word / 256

-- which words a leaf may have, and how many cells such a leaf has
pub record LeafRule : Type 0 where
  pub allows : ℕ → Bool
  pub cells : ℕ → ℕ

-- format 1: some cells, and the base 0
abbrev pub mask_rule : LeafRule
mask_rule = record { allows = λ word. not (mask_in word == 0) && (base_in word == 0); cells = ones_in }

-- format 2: one cell, and its face
abbrev pub face_rule : LeafRule
face_rule = record { allows = λ word. (mask_in word == 1) && nat_le (base_in word) 4294967294; cells = λ word. 1 }

abbrev pub rule_of : ℕ → LeafRule
rule_of format = cond (format == 1) mask_rule face_rule

-- of a node that fits: the number of the first word behind those below it, and how many cells it has
pub record Fitted : Type 0 where
  pub next : ℕ
  pub cells : ℕ

abbrev pub and_then : Result Fitted ℕ → (Fitted → Result Fitted ℕ) → Result Fitted ℕ
and_then (Err number) step = Err number
and_then (Ok fitted) step = step fitted

-- so many siblings from a number on, one after another
abbrev pub fit_each : (ℕ → ℕ → Result Fitted ℕ) → ℕ → ℕ → ℕ → Result Fitted ℕ
fit_each fit zero number at = Ok (record { next = at; cells = 0 })
fit_each fit (suc count) number at =
    and_then (fit number at) (λ first.
    and_then (fit_each fit count (number + 1) first.next) (λ rest. Ok (record { next = rest.next; cells = first.cells + rest.cells })))

-- a node whose children fit has its base just behind what lies below them, and its children from there on
abbrev pub fit_parent : ℕ → ℕ → Fitted → Result Fitted ℕ
fit_parent number word below =
    cond (below.next == base_in word) (Ok (record { next = base_in word + ones_in word; cells = below.cells })) (Err number)

-- the node with the word of this number, at this height, where the words below it are placed from `at` on; or the number that is refused: that of the node, or of the first below it that does not fit
unfoldable pub fit : LeafRule → List ℕ → ℕ → ℕ → ℕ → Result Fitted ℕ
fit rule words zero number at =
    let word = slice_index words number in
    cond (rule.allows word) (Ok (record { next = at; cells = rule.cells word })) (Err number)
fit rule words (suc height) number at =
    let word = slice_index words number in
    cond ((mask_in word == 0) || nat_lt number (base_in word + ones_in word)) (Err number)
    (and_then (fit_each (fit rule words height) (ones_in word) (base_in word) at) (fit_parent number word))

-- no cells: the one word 0
abbrev pub is_empty_tree : List ℕ → Bool
is_empty_tree words = (length words == 1) && (slice_index words 0 == 0)

-- the root has all other words below it, and as many cells as the trailer says; else it is refused, or the trailer
abbrev pub refused_by : ℕ → ℕ → Result Fitted ℕ → Option ℕ
refused_by records cells (Err number) = Some number
refused_by records cells (Ok root) = cond (root.next == records - 1) (cond (root.cells == cells) None (Some records)) (Some (records - 1))

-- the number that is refused where these are a framed file's words, and this its number of cells
unfoldable pub refused_in : ℕ → ℕ → List ℕ → ℕ → Option ℕ
refused_in format depth words cells =
    cond (is_empty_tree words) (cond (cells == 0) None (Some 1))
    (refused_by (length words) cells (fit (rule_of format) words (levels_of format depth) (length words - 1) 0))
