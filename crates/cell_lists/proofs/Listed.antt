-- The lines of the cells so far, in a sink and in a block.
use Rattle.std.proofs.Common.{◌≡◌, ℕ, ◌+◌, ◌^◌, ◌<◌, ◌≤◌, List, [], ◌∷◌, ◌++◌, take, Option, None, Some, Result, Ok, Err, refl, sym, ap, subst, ◌∙◌, arith, append-nil, lit<, lit≤}
use Rattle.std.proofs.Math.Nat.{pow-le-pow_right}
use Rattle.std.specs.Prelude.{IfSome}
use Rattle.std.specs.Io.KnownBytes.{append_known}
use Rattle.std.proofs.lemmas.List.Concat.{flat_map-append}
use Rattle.svo_base.specs.declared.grids.TheConstants.{MAX_DEPTH}
use Rattle.octree_specs.specs.Cells.{Cell, codes_of}
use Rattle.octree_specs.specs.Formats.{StandFor}
use Rattle.octree_laws.proofs.Rising.{Ascends, ascends}
use Rattle.node_file.specs.FileView.{FileView, IsFileView}
use Rattle.node_file.specs.Waiting.{given_by, GrewByFront}
use Rattle.node_file.proofs.Fronts.{front_of_none, front_within, front_onward, append_twice}
use Rattle.node_check.specs.Stops.{PutsFront}
use Rattle.node_check.specs.Walks.{GivesNext}
use Rattle.node_check.specs.declared.stops.AnswerStop.{AnswerStop}
use Rattle.node_check.specs.declared.stops.AnswerStop.TheVariants.{WriteFault, Walk}
use Rattle.node_check.specs.declared.walking.WalkFault.{WalkFault}
use Rattle.node_check.specs.declared.walking.WalkFault.TheVariants.{Failed, Refused}
use Rattle.cell_lists.specs.Lists.{cell_line, cells_text, Waits}
use Rattle.cell_lists.proofs.Befores.{cells_before, cells_from, before_none, IsStep, next_step, none_next, both_parts}

pub stand_ascends : (format depth : ℕ) (words : List ℕ) (cells : List Cell) → StandFor format depth words cells → Ascends 0 (codes_of cells)
stand_ascends format depth words cells stand = ascends 0 (codes_of cells) stand.cells_are.map.ascending (λ some. omega arith)

text_none : cells_text [] ≡ []
unfolding cells_text
text_none = refl

text_more : (cells : List Cell) (cell : Cell) → cells_text (cells ++ cell ∷ []) ≡ cells_text cells ++ cell_line cell.code
unfolding cells_text
text_more cells cell = flat_map-append (λ (c : Cell). cell_line c.code) cells (cell ∷ []) ∙ ap (λ l. cells_text cells ++ l) (append-nil (cell_line cell.code))

text_parts : (from : ℕ) (cells : List Cell) → cells_text (cells_before from cells) ++ cells_text (cells_from from cells) ≡ cells_text cells
unfolding cells_text
text_parts from cells = sym (flat_map-append (λ (c : Cell). cell_line c.code) (cells_before from cells) (cells_from from cells)) ∙ ap cells_text (both_parts from cells)

-- the lines of the cells below a code were given, and a front of all lines was put
pub record AreListed (before now : Option (List ℕ)) (block : List ℕ) (used from : ℕ) (cells : List Cell) : Type 0 where
  pub given : given_by now block used ≡ append_known before (cells_text (cells_before from cells))
  pub front : PutsFront before now (cells_text cells)

-- the same of any cells for which told words stand
abbrev pub IsListed : Option (List ℕ) → (format depth : ℕ) → Option (List ℕ) → Option (List ℕ) → List ℕ → (used from : ℕ) → Type 0
IsListed told format depth before now block used from = IfSome told (λ words. (cells : List Cell) → StandFor format depth words cells → AreListed before now block used from cells)

abbrev pub Nexts : Option (List ℕ) → (format depth from : ℕ) → Result (Option ℕ) WalkFault → Type 0
Nexts told format depth from result = IfSome told (λ words. (cells : List Cell) → StandFor format depth words cells → GivesNext cells from result)

abbrev pub Waiting : Option (List ℕ) → (format depth : ℕ) → Option (List ℕ) → Option (List ℕ) → List ℕ → Result ℕ AnswerStop → Type 0
Waiting told format depth before after block result = IfSome told (λ words. (cells : List Cell) → StandFor format depth words cells → Waits before after block (cells_text cells) result)

module _ (format depth : ℕ) (before now : Option (List ℕ)) (block : List ℕ) where
  pub listed_first : (told : Option (List ℕ)) (from : ℕ) → from ≡ 0 → now ≡ before → IsListed told format depth before now block 0 from
  listed_first None from zero same = tt
  listed_first (Some words) from zero same = λ cells stand.
      let none : cells_text (cells_before from cells) ≡ [] = ap cells_text (before_none from 0 cells (stand_ascends format depth words cells stand) (omega (arith, zero))) ∙ text_none in
      record {
        given = ap (λ o. append_known o []) same ∙ ap (append_known before) (sym none);
        front = subst (λ o. PutsFront before o (cells_text cells)) (sym same) (front_of_none before (cells_text cells));
      }

  front_on : (used from : ℕ) (after : Option (List ℕ)) (cells : List Cell) → AreListed before now block used from cells → GrewByFront now after (take used block) → PutsFront before after (cells_text cells)
  front_on used from after cells are grew =
      front_within before now after (cells_text cells) (cells_text (cells_before from cells)) (cells_text (cells_from from cells)) (take used block) (text_parts from cells) are.front are.given grew

  pub listed_line : (told : Option (List ℕ)) (used waiting from code more : ℕ) (after : Option (List ℕ)) (later line : List ℕ) → Nexts told format depth from (Ok (Some code)) → more ≡ code + 1 → line ≡ cell_line code
      → given_by after later waiting ≡ append_known (given_by now block used) line → GrewByFront now after (take used block)
      → IsListed told format depth before now block used from → IsListed told format depth before after later waiting more
  listed_line None used waiting from code more after later line next is line_is given grew listed = tt
  listed_line (Some words) used waiting from code more after later line next is line_is given grew listed = λ cells stand.
      let are : AreListed before now block used from cells = listed cells stand in
      let step : IsStep from code cells = next_step from code 0 cells (stand_ascends format depth words cells stand) (next cells stand) in
      let text : cells_text (cells_before from cells) ++ line ≡ cells_text (cells_before more cells) =
      ap (λ l. cells_text (cells_before from cells) ++ l) (line_is ∙ ap cell_line (sym step.code_is))
      ∙ (sym (text_more (cells_before from cells) step.cell) ∙ (ap cells_text (sym step.more) ∙ ap (λ n. cells_text (cells_before n cells)) (sym is))) in
      record {
        given = given ∙ (ap (λ o. append_known o line) are.given ∙ (append_twice before (cells_text (cells_before from cells)) line ∙ ap (append_known before) text));
        front = front_on used from after cells are grew;
      }

  pub listed_cut : (told : Option (List ℕ)) (used from : ℕ) (after : Option (List ℕ)) (later : List ℕ) → GrewByFront now after (take used block)
      → IsListed told format depth before now block used from → Waiting told format depth before after later (Err WriteFault)
  listed_cut None used from after later grew listed = tt
  listed_cut (Some words) used from after later grew listed = λ cells stand. front_on used from after cells (listed cells stand) grew

  pub listed_end : (told : Option (List ℕ)) (used from : ℕ) → Nexts told format depth from (Ok None) → IsListed told format depth before now block used from → Waiting told format depth before now block (Ok used)
  listed_end None used from none listed = tt
  listed_end (Some words) used from none listed = λ cells stand.
      let are : AreListed before now block used from cells = listed cells stand in
      (are.given ∙ ap (λ l. append_known before (cells_text l)) (none_next from cells (none cells stand)), are.front)

  pub listed_stop : (told : Option (List ℕ)) (used from : ℕ) (fault : WalkFault) → Nexts told format depth from (Err fault) → IsListed told format depth before now block used from
      → Waiting told format depth before now block (Err (Walk fault))
  listed_stop None used from fault next listed = tt
  listed_stop (Some words) used from Failed next listed = λ cells stand. (listed cells stand).front
  listed_stop (Some words) used from (Refused number word) next listed = λ cells stand. next cells stand

-- what waits is put, or a front of it
pub put_cut : (told : Option (List ℕ)) (format depth : ℕ) (before now after : Option (List ℕ)) (block : List ℕ) (used : ℕ) → Waiting told format depth before now block (Ok used) → GrewByFront now after (take used block)
    → IfSome told (λ words. (cells : List Cell) → StandFor format depth words cells → PutsFront before after (cells_text cells))
put_cut None format depth before now after block used waits grew = tt
put_cut (Some words) format depth before now after block used waits grew = λ cells stand.
    let all : Waits before now block (cells_text cells) (Ok used) = waits cells stand in
    front_onward before now after (cells_text cells) (take used block) all.1 all.0 grew

-- codes of a grid are small
pub code_few : (file : FileView) → IsFileView file → (code : ℕ) → code < 8 ^ file.grid.depth → code < 2 ^ 60
code_few file framed code inside =
    let shallow : file.grid.depth ≤ MAX_DEPTH = omega (arith, framed.limits.shallow) in
    let bound : 8 ^ file.grid.depth ≤ 8 ^ MAX_DEPTH = pow-le-pow_right {n = 8} (lit< tt) {i = file.grid.depth} {j = MAX_DEPTH} shallow in
    let whole : 8 ^ MAX_DEPTH ≤ 2 ^ 40 = lit≤ tt in
    omega (arith, inside, bound, whole)
