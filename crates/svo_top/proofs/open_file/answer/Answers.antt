-- Each question's answer.
use Rattle.std.proofs.Common.{ℕ, ◌^◌, ◌<◌, ◌≤◌, List, None, false, ◌≡◌, ◌∙◌, unsigned_abs, sym, subst, rules, arith, lit<}
use Rattle.std.proofs.Math.Nat.{pow-le-pow_right}
use Rattle.std.specs.Prelude.{is_some}
use Rattle.dev_traits.specs.Change.{change_of}
use Rattle.node_check.specs.Walks.{face_at}
use Rattle.node_check.specs.Stops.{Puts}
use Rattle.svo_top.specs.FileAnswers.{bar, has_line}
use Rattle.octree_specs.specs.OctreeFile.{image_of}
use Rattle.cell_lists.specs.Lists.{cells_text}
use Rattle.svo_top.specs.InputLines.{AnswersInput}
use Rattle.svo_top.specs.FileQuestion.{Works, Answers, Ends, takes_memory}
use Rattle.svo_top.specs.Loaded.{status_of_answer}
use Rattle.svo_top.specs.declared.file_question.Question.{Question}
use Rattle.svo_top.specs.declared.file_question.Question.TheVariants as question
use Rattle.svo_top.specs.declared.outcome.Status.{Status}
use Rattle.slice_view.specs.Slices.{slice_picture}
use Rattle.svo_top.specs.Picturing.{Views}
use Rattle.node_merge.specs.Combined.{coarse, coarse_grid}
use Rattle.svo_top.proofs.OpenFileAnswers.{layer_below, levels_within, views_of, sure_of_view, answers_of, sure_of, kept_told, answers_input, sure_lines, lines_end, no_memory, unbarred_lines}
use Rattle.svo_top.proofs.open_file.answer.Goals as goal

pub returns-in-Check-clause-works : goal.returns-in-Check-clause-works
returns-in-Check-clause-works g c = λ cells keeps.
    let file = g.R.Records.file c.args.nodes.now in
    let input = change_of g.I.ByteSource.rest g.I.ByteSource.faults c.args.input.now c.args.input.now in
    let out = change_of g.O.ByteSink.written g.O.ByteSink.faults c.args.out.now c.tell_numbers.new.out in
    let faults = g.R.Records.faults c.args.nodes.now in
    subst (λ (q : Question). Works q file.format file.grid cells input out faults faults c.status_of_answer.result) (sym c.in-Check.is)
    (subst (λ (s : Status). Works question.Check file.format file.grid cells input out faults faults s) (sym c.status_of_answer.ensures)
    (answers_of _ out faults faults c.tell_numbers.result (c.tell_numbers.ensures.told cells keeps) c.tell_numbers.ensures.cause))

pub returns-in-Check-clause-sure : goal.returns-in-Check-clause-sure
returns-in-Check-clause-sure g c = λ cells keeps refusal e.
    let out = change_of g.O.ByteSink.written g.O.ByteSink.faults c.args.out.now c.tell_numbers.new.out in
    sure_of _ out c.tell_numbers.result (c.tell_numbers.ensures.told cells keeps) refusal (sym c.status_of_answer.ensures ∙ e)

pub returns-in-Has-clause-works : goal.returns-in-Has-clause-works
returns-in-Has-clause-works g c = λ cells keeps.
    let file = g.R.Records.file c.args.nodes.now in
    let input = change_of g.I.ByteSource.rest g.I.ByteSource.faults c.args.input.now c.args.input.now in
    let out = change_of g.O.ByteSink.written g.O.ByteSink.faults c.args.out.now c.tell_membership.new.out in
    let before = g.R.Records.faults c.args.nodes.now in
    let after = g.R.Records.faults c.tell_membership.new.nodes in
    subst (λ (q : Question). Works q file.format file.grid cells input out before after c.status_of_answer-in-Has.result) (sym c.in-Has.is)
    (subst (λ (s : Status). Answers (has_line (is_some (face_at cells (unsigned_abs c.in-Has.code)))) out before after s) (sym c.status_of_answer-in-Has.ensures)
    (subst (λ (code : ℕ). Answers (has_line (is_some (face_at cells code))) out before after (status_of_answer c.tell_membership.result)) c.magnitude.ensures
    (answers_of _ out before after c.tell_membership.result (c.tell_membership.ensures.told cells keeps) c.tell_membership.ensures.cause)))

pub returns-in-Has-clause-sure : goal.returns-in-Has-clause-sure
returns-in-Has-clause-sure g c = λ cells keeps refusal e.
    let out = change_of g.O.ByteSink.written g.O.ByteSink.faults c.args.out.now c.tell_membership.new.out in
    sure_of _ out c.tell_membership.result (c.tell_membership.ensures.told cells keeps) refusal (sym c.status_of_answer-in-Has.ensures ∙ e)

pub returns-in-Cells-clause-works : goal.returns-in-Cells-clause-works
returns-in-Cells-clause-works g c = λ cells keeps.
    let file = g.R.Records.file c.args.nodes.now in
    let input = change_of g.I.ByteSource.rest g.I.ByteSource.faults c.args.input.now c.args.input.now in
    let out = change_of g.O.ByteSink.written g.O.ByteSink.faults c.args.out.now c.list_cells.new.out in
    let before = g.R.Records.faults c.args.nodes.now in
    let after = g.R.Records.faults c.list_cells.new.nodes in
    let puts = kept_told file (λ cells. Puts out.before out.after (cells_text cells) c.list_cells.result) c.list_cells.ensures.told cells keeps in
    subst (λ (q : Question). Works q file.format file.grid cells input out before after c.status_of_answer-in-Cells.result) (sym c.in-Cells.is)
    (subst (λ (s : Status). Answers (cells_text cells) out before after s) (sym c.status_of_answer-in-Cells.ensures)
    (answers_of (cells_text cells) out before after c.list_cells.result puts c.list_cells.ensures.cause))

pub returns-in-Cells-clause-sure : goal.returns-in-Cells-clause-sure
returns-in-Cells-clause-sure g c = λ cells keeps refusal e.
    let file = g.R.Records.file c.args.nodes.now in
    let out = change_of g.O.ByteSink.written g.O.ByteSink.faults c.args.out.now c.list_cells.new.out in
    sure_of (cells_text cells) out c.list_cells.result (kept_told file (λ cells. Puts out.before out.after (cells_text cells) c.list_cells.result) c.list_cells.ensures.told cells keeps) refusal (sym c.status_of_answer-in-Cells.ensures ∙ e)

pub returns-in-Lift-clause-works : goal.returns-in-Lift-clause-works
returns-in-Lift-clause-works g c = λ cells keeps.
    let file = g.R.Records.file c.args.nodes.now in
    let input = change_of g.I.ByteSource.rest g.I.ByteSource.faults c.args.input.now c.args.input.now in
    let out = change_of g.O.ByteSink.written g.O.ByteSink.faults c.args.out.now c.put_lifted.new.out in
    let before = g.R.Records.faults c.args.nodes.now in
    let after = g.R.Records.faults c.put_lifted.new.nodes in
    let puts = kept_told file (λ cells. Puts out.before out.after (image_of 2 (g.R.Records.file c.args.nodes.now).grid cells) c.put_lifted.result) c.put_lifted.ensures.told cells keeps in
    subst (λ (q : Question). Works q file.format file.grid cells input out before after c.status_of_answer-in-Lift.result) (sym c.in-Lift.is)
    (subst (λ (s : Status). Answers (image_of 2 (g.R.Records.file c.args.nodes.now).grid cells) out before after s) (sym c.status_of_answer-in-Lift.ensures)
    (answers_of (image_of 2 (g.R.Records.file c.args.nodes.now).grid cells) out before after c.put_lifted.result puts c.put_lifted.ensures.cause))

pub returns-in-Lift-clause-sure : goal.returns-in-Lift-clause-sure
returns-in-Lift-clause-sure g c = λ cells keeps refusal e.
    let file = g.R.Records.file c.args.nodes.now in
    let out = change_of g.O.ByteSink.written g.O.ByteSink.faults c.args.out.now c.put_lifted.new.out in
    sure_of (image_of 2 (g.R.Records.file c.args.nodes.now).grid cells) out c.put_lifted.result (kept_told file (λ cells. Puts out.before out.after (image_of 2 (g.R.Records.file c.args.nodes.now).grid cells) c.put_lifted.result) c.put_lifted.ensures.told cells keeps) refusal (sym c.status_of_answer-in-Lift.ensures ∙ e)

pub returns-in-Lines-clause-works : goal.returns-in-Lines-clause-works
returns-in-Lines-clause-works g c = λ cells keeps.
    let file = g.R.Records.file c.args.nodes.now in
    let input = change_of g.I.ByteSource.rest g.I.ByteSource.faults c.args.input.now c.answer_text.new.input in
    let out = change_of g.O.ByteSink.written g.O.ByteSink.faults c.args.out.now c.answer_text.new.out in
    let before = g.R.Records.faults c.args.nodes.now in
    let after = g.R.Records.faults c.answer_text.new.nodes in
    let kind = c.in-Lines.kind in
    subst (λ (q : Question). Works q file.format file.grid cells input out before after c.status_of_lines.result) (sym c.in-Lines.is)
    (subst (λ (s : Status). AnswersInput kind file.grid cells input out before after s) (sym c.status_of_lines.ensures)
    (answers_input kind file input out before after c.answer_text.result c.answer_text.ensures.stops c.answer_text.ensures.answered c.answer_text.ensures.complete cells keeps))

pub returns-in-Lines-clause-sure : goal.returns-in-Lines-clause-sure
returns-in-Lines-clause-sure g c = λ cells keeps refusal e.
    sure_lines c.answer_text.result (c.answer_text.ensures.sound cells (record { words = keeps.words; told = keeps.told; stand = keeps.stand })) refusal (sym c.status_of_lines.ensures ∙ e)

pub returns-in-Lines-clause-ends : goal.returns-in-Lines-clause-ends
returns-in-Lines-clause-ends g c =
    let input = change_of g.I.ByteSource.rest g.I.ByteSource.faults c.args.input.now c.answer_text.new.input in
    let out = change_of g.O.ByteSink.written g.O.ByteSink.faults c.args.out.now c.answer_text.new.out in
    let before = g.R.Records.faults c.args.nodes.now in
    let after = g.R.Records.faults c.answer_text.new.nodes in
    let kind = c.in-Lines.kind in
    subst (λ (q : Question). Ends q input out before after c.status_of_lines.result) (sym c.in-Lines.is)
    (subst (λ (s : Status). Ends (question.Lines kind) input out before after s) (sym c.status_of_lines.ensures)
    (lines_end kind input out before after c.answer_text.result c.answer_text.ensures.stops c.answer_text.ensures.ends c.answer_text.ensures.read c.answer_text.ensures.cause))

pub returns-in-Lines-clause-remembered : goal.returns-in-Lines-clause-remembered
returns-in-Lines-clause-remembered g c = λ kept e.
    no_memory c.in-Lines.kind c.answer_text.result c.answer_text.ensures.stops (subst (λ (q : Question). takes_memory q ≡ false) c.in-Lines.is kept) (sym c.status_of_lines.ensures ∙ e)

pub returns-in-Lines-clause-unbarred : goal.returns-in-Lines-clause-unbarred
returns-in-Lines-clause-unbarred g c = λ fault needs e. unbarred_lines c.answer_text.result fault needs (sym c.status_of_lines.ensures ∙ e)

pub returns-in-Slice-clause-works : goal.returns-in-Slice-clause-works
returns-in-Slice-clause-works g c = λ cells keeps.
    let file = g.R.Records.file c.args.nodes.now in
    let input = change_of g.I.ByteSource.rest g.I.ByteSource.faults c.args.input.now c.args.input.now in
    let out = change_of g.O.ByteSink.written g.O.ByteSink.faults c.args.out.now c.slice.new.out in
    let before = g.R.Records.faults c.args.nodes.now in
    let after = g.R.Records.faults c.slice.new.nodes in
    let puts = kept_told file (λ cells. Puts out.before out.after (slice_picture (g.R.Records.file c.args.nodes.now).grid.depth c.in-Slice.axis c.place.result cells) c.slice.result) c.slice.ensures.told cells keeps in
    subst (λ (q : Question). Works q file.format file.grid cells input out before after c.status_of_answer-in-Slice.result) (sym c.in-Slice.is)
    (subst (λ (s : Status). Answers (slice_picture (g.R.Records.file c.args.nodes.now).grid.depth c.in-Slice.axis (unsigned_abs c.in-Slice.at) cells) out before after s) (sym c.status_of_answer-in-Slice.ensures)
    (subst (λ (at : ℕ). Answers (slice_picture (g.R.Records.file c.args.nodes.now).grid.depth c.in-Slice.axis at cells) out before after (status_of_answer c.slice.result)) c.place.ensures
    (answers_of _ out before after c.slice.result puts c.slice.ensures.cause)))

pub returns-in-Slice-clause-sure : goal.returns-in-Slice-clause-sure
returns-in-Slice-clause-sure g c = λ cells keeps refusal e.
    let file = g.R.Records.file c.args.nodes.now in
    let out = change_of g.O.ByteSink.written g.O.ByteSink.faults c.args.out.now c.slice.new.out in
    let puts = kept_told file (λ cells. Puts out.before out.after (slice_picture (g.R.Records.file c.args.nodes.now).grid.depth c.in-Slice.axis c.place.result cells) c.slice.result) c.slice.ensures.told cells keeps in
    sure_of _ out c.slice.result puts refusal (sym c.status_of_answer-in-Slice.ensures ∙ e)

pub returns-in-View-clause-works : goal.returns-in-View-clause-works
returns-in-View-clause-works g c = λ cells keeps.
    let file = g.R.Records.file c.args.nodes.now in
    let input = change_of g.I.ByteSource.rest g.I.ByteSource.faults c.args.input.now c.args.input.now in
    let out = change_of g.O.ByteSink.written g.O.ByteSink.faults c.args.out.now c.view.new.out in
    let before = g.R.Records.faults c.args.nodes.now in
    let after = g.R.Records.faults c.view.new.nodes in
    subst (λ (q : Question). Works q file.format file.grid cells input out before after c.status_of_answer-in-View.result) (sym c.in-View.is)
    (subst (λ (s : Status). Views c.in-View.camera (g.R.Records.file c.args.nodes.now).grid cells out before after s) (sym c.status_of_answer-in-View.ensures)
    (views_of _ _ cells out before after c.view.result (c.view.ensures.told cells (record { words = keeps.words; told = keeps.told; stand = keeps.stand })) c.view.ensures.cause))

pub returns-in-View-clause-sure : goal.returns-in-View-clause-sure
returns-in-View-clause-sure g c = λ cells keeps refusal e.
    let out = change_of g.O.ByteSink.written g.O.ByteSink.faults c.args.out.now c.view.new.out in
    sure_of_view _ _ cells out c.view.result (c.view.ensures.told cells (record { words = keeps.words; told = keeps.told; stand = keeps.stand })) refusal (sym c.status_of_answer-in-View.ensures ∙ e)

-- a layer's place is below 2^12
pub place-requires : goal.place-requires
place-requires g c =
    let depth = (g.R.Records.file c.args.nodes.now).grid.depth in
    let most : 2 ^ (g.R.Records.file c.args.nodes.now).grid.depth ≤ 2 ^ 12 = pow-le-pow_right {n = 2} (lit< tt) {i = depth} {j = 12} c.requires.shallow in
    let below : unsigned_abs c.in-Slice.at < 2 ^ (g.R.Records.file c.args.nodes.now).grid.depth =
    layer_below c.in-Slice.axis c.in-Slice.at depth (subst (λ (q : Question). bar q (g.R.Records.file c.args.nodes.now).grid.depth ≡ None) c.in-Slice.is c.requires.unbarred) in
    omega (arith, most, below)

-- a number of levels is below the depth
pub put_coarse-requires : goal.put_coarse-requires
put_coarse-requires g c =
    let depth = (g.R.Records.file c.args.nodes.now).grid.depth in
    let within = levels_within c.in-Coarse.levels depth (subst (λ (q : Question). bar q (g.R.Records.file c.args.nodes.now).grid.depth ≡ None) c.in-Coarse.is c.requires.unbarred) in
    record { levels = subst (λ (levels : ℕ). (1 ≤ levels) × (levels < depth)) (sym c.place-in-Coarse.ensures) within }

pub returns-in-Coarse-clause-works : goal.returns-in-Coarse-clause-works
returns-in-Coarse-clause-works g c = λ cells keeps.
    let file = g.R.Records.file c.args.nodes.now in
    let input = change_of g.I.ByteSource.rest g.I.ByteSource.faults c.args.input.now c.args.input.now in
    let out = change_of g.O.ByteSink.written g.O.ByteSink.faults c.args.out.now c.put_coarse.new.out in
    let before = g.R.Records.faults c.args.nodes.now in
    let after = g.R.Records.faults c.put_coarse.new.nodes in
    let puts = kept_told file (λ cells. Puts out.before out.after (image_of 2 (coarse_grid c.place-in-Coarse.result (g.R.Records.file c.args.nodes.now).grid) (coarse c.place-in-Coarse.result (g.R.Records.file c.args.nodes.now).grid.depth cells)) c.put_coarse.result) c.put_coarse.ensures.told cells keeps in
    subst (λ (q : Question). Works q file.format file.grid cells input out before after c.status_of_answer-in-Coarse.result) (sym c.in-Coarse.is)
    (subst (λ (s : Status). Answers (image_of 2 (coarse_grid (unsigned_abs c.in-Coarse.levels) (g.R.Records.file c.args.nodes.now).grid) (coarse (unsigned_abs c.in-Coarse.levels) (g.R.Records.file c.args.nodes.now).grid.depth cells)) out before after s) (sym c.status_of_answer-in-Coarse.ensures)
    (subst (λ (levels : ℕ). Answers (image_of 2 (coarse_grid levels (g.R.Records.file c.args.nodes.now).grid) (coarse levels (g.R.Records.file c.args.nodes.now).grid.depth cells)) out before after (status_of_answer c.put_coarse.result)) c.place-in-Coarse.ensures
    (answers_of _ out before after c.put_coarse.result puts c.put_coarse.ensures.cause)))

pub returns-in-Coarse-clause-sure : goal.returns-in-Coarse-clause-sure
returns-in-Coarse-clause-sure g c = λ cells keeps refusal e.
    let file = g.R.Records.file c.args.nodes.now in
    let out = change_of g.O.ByteSink.written g.O.ByteSink.faults c.args.out.now c.put_coarse.new.out in
    let puts = kept_told file (λ cells. Puts out.before out.after (image_of 2 (coarse_grid c.place-in-Coarse.result (g.R.Records.file c.args.nodes.now).grid) (coarse c.place-in-Coarse.result (g.R.Records.file c.args.nodes.now).grid.depth cells)) c.put_coarse.result) c.put_coarse.ensures.told cells keeps in
    sure_of _ out c.put_coarse.result puts refusal (sym c.status_of_answer-in-Coarse.ensures ∙ e)
