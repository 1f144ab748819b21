-- The word of the node just above, and in format 2 the cell's own.
use Rattle.std.proofs.Common.{◌≡◌, ◌-◌, Ok, inr, sym, subst, ◌∙◌}
use Rattle.std.specs.Prelude.{IfSome}
use Rattle.node_file.specs.FileView.{FileView}
use Rattle.node_check.specs.Walks.{IsWordOf, IfWalked, led_to}
use Rattle.node_check.proofs.Walks.{Walked, face_no_bit, face_zero, face_found, face_refused, slot_led, format_two}
use Rattle.node_check.proofs.queries.face_of.Goals as goal

pub returns-then-not-has_bit-clause-told : goal.returns-then-not-has_bit-clause-told
returns-then-not-has_bit-clause-told g c =
    face_no_bit (g.R.Records.file c.args.nodes.now).format (g.R.Records.file c.args.nodes.now).grid.depth c.args.code (g.R.Records.file c.args.nodes.now).totals.records (g.R.Records.file c.args.nodes.now).words c.in-Some.node
    (subst (λ o. IfWalked (Ok o) (λ node. IsWordOf (g.R.Records.file c.args.nodes.now).words (g.R.Records.file c.args.nodes.now).totals.records node.number node.word)) c.in-Some.is c.in_ok-node.ensures.word)
    (sym c.if-not-has_bit.ensures)
    (subst (λ o. Walked (g.R.Records.file c.args.nodes.now).words (g.R.Records.file c.args.nodes.now).format (g.R.Records.file c.args.nodes.now).grid.depth c.args.code (Ok o)) c.in-Some.is c.in_ok-node.ensures.told)

pub returns-then-format-eq1-clause-told : goal.returns-then-format-eq1-clause-told
returns-then-format-eq1-clause-told g c =
    face_zero (g.R.Records.file c.args.nodes.now).format (g.R.Records.file c.args.nodes.now).grid.depth c.args.code (g.R.Records.file c.args.nodes.now).totals.records (g.R.Records.file c.args.nodes.now).words c.in-Some.node
    (sym c.format-format.ensures.value ∙ c.if-format-eq1.true)
    (subst (λ o. IfWalked (Ok o) (λ node. IsWordOf (g.R.Records.file c.args.nodes.now).words (g.R.Records.file c.args.nodes.now).totals.records node.number node.word)) c.in-Some.is c.in_ok-node.ensures.word)
    (sym c.if-not-has_bit.ensures)
    (subst (λ o. Walked (g.R.Records.file c.args.nodes.now).words (g.R.Records.file c.args.nodes.now).format (g.R.Records.file c.args.nodes.now).grid.depth c.args.code (Ok o)) c.in-Some.is c.in_ok-node.ensures.told)

pub returns-in-Some-face_in-clause-told : goal.returns-in-Some-face_in-clause-told
returns-in-Some-face_in-clause-told g c =
    face_found (g.R.Records.file c.args.nodes.now).format (g.R.Records.file c.args.nodes.now).grid.depth c.args.code (g.R.Records.file c.args.nodes.now).totals.records (g.R.Records.file c.args.nodes.now).words c.in-Some.node
    c.in_ok-cell.cell c.in-Some-face_in.face
    (format_two (g.R.Records.file c.args.nodes.now).format c.format-format.result c.format-format.ensures.framed.known c.format-format.ensures.value c.if-format-eq1.false)
    (subst (λ o. IfWalked (Ok o) (λ node. IsWordOf (g.R.Records.file c.args.nodes.now).words (g.R.Records.file c.args.nodes.now).totals.records node.number node.word)) c.in-Some.is c.in_ok-node.ensures.word)
    (sym c.if-not-has_bit.ensures)
    (subst (λ (f : FileView). IsWordOf f.words f.totals.records c.in_ok-cell.cell.number c.in_ok-cell.cell.word) c.in_ok-node.ensures.same c.in_ok-cell.ensures.word)
    c.in_ok-cell.ensures.number c.in-Some-face_in.ensures.found.0
    (subst (λ o. Walked (g.R.Records.file c.args.nodes.now).words (g.R.Records.file c.args.nodes.now).format (g.R.Records.file c.args.nodes.now).grid.depth c.args.code (Ok o)) c.in-Some.is c.in_ok-node.ensures.told)

pub returns-in-None-clause-told : goal.returns-in-None-clause-told
returns-in-None-clause-told g c =
    face_refused (g.R.Records.file c.args.nodes.now).format (g.R.Records.file c.args.nodes.now).grid.depth c.args.code (g.R.Records.file c.args.nodes.now).totals.records (g.R.Records.file c.args.nodes.now).words c.in-Some.node
    c.in_ok-cell.cell
    (format_two (g.R.Records.file c.args.nodes.now).format c.format-format.result c.format-format.ensures.framed.known c.format-format.ensures.value c.if-format-eq1.false)
    (subst (λ o. IfWalked (Ok o) (λ node. IsWordOf (g.R.Records.file c.args.nodes.now).words (g.R.Records.file c.args.nodes.now).totals.records node.number node.word)) c.in-Some.is c.in_ok-node.ensures.word)
    (sym c.if-not-has_bit.ensures)
    (subst (λ (f : FileView). IsWordOf f.words f.totals.records c.in_ok-cell.cell.number c.in_ok-cell.cell.word) c.in_ok-node.ensures.same c.in_ok-cell.ensures.word)
    c.in_ok-cell.ensures.number c.in-None.ensures.missing
    (subst (λ o. Walked (g.R.Records.file c.args.nodes.now).words (g.R.Records.file c.args.nodes.now).format (g.R.Records.file c.args.nodes.now).grid.depth c.args.code (Ok o)) c.in-Some.is c.in_ok-node.ensures.told)

pub returns-in-None-clause-refused : goal.returns-in-None-clause-refused
returns-in-None-clause-refused g c = inr (record {
  word_is = subst (λ (f : FileView). IsWordOf f.words f.totals.records c.in_ok-cell.cell.number c.in_ok-cell.cell.word) c.in_ok-node.ensures.same c.in_ok-cell.ensures.word;
  faceless = c.in-None.ensures.missing;
  led = slot_led (g.R.Records.file c.args.nodes.now).format (g.R.Records.file c.args.nodes.now).grid.depth c.args.code (g.R.Records.file c.args.nodes.now).totals.records (g.R.Records.file c.args.nodes.now).words c.in-Some.node
      c.in_ok-cell.cell.number ((g.R.Records.file c.args.nodes.now).totals.records - 1)
      (subst (λ o. IfWalked (Ok o) (λ node. IsWordOf (g.R.Records.file c.args.nodes.now).words (g.R.Records.file c.args.nodes.now).totals.records node.number node.word)) c.in-Some.is c.in_ok-node.ensures.word)
      (sym c.if-not-has_bit.ensures) c.in_ok-cell.ensures.number
      (subst
      (λ o. IfSome (g.R.Records.file c.args.nodes.now).words
      (λ words. IfWalked (Ok o) (λ node. led_to words (g.R.Records.file c.args.nodes.now).grid.depth c.args.code ((g.R.Records.file c.args.nodes.now).totals.records - 1) ≡ led_to words 1 c.args.code node.number)))
      c.in-Some.is c.in_ok-node.ensures.led);
})
