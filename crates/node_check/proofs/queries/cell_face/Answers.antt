-- In format 2 the face stands in the cell's own word.
use Rattle.std.proofs.Common.{◌-◌, inr, sym, ◌∙◌}
use Rattle.node_check.proofs.FoundCells.{given_face, refused_face}
use Rattle.node_check.proofs.Walks.{face_zero, face_found, face_refused, slot_led, format_two}
use Rattle.node_check.specs.declared.walking.WalkFault.TheVariants.{Refused}
use Rattle.node_check.proofs.queries.cell_face.Goals as goal

pub returns-then-format-eq1-clause-told : goal.returns-then-format-eq1-clause-told
returns-then-format-eq1-clause-told g c =
    given_face (g.R.Records.file c.args.nodes.now).words (g.R.Records.file c.args.nodes.now).format (g.R.Records.file c.args.nodes.now).grid.depth c.args.code 0
    (face_zero (g.R.Records.file c.args.nodes.now).format (g.R.Records.file c.args.nodes.now).grid.depth c.args.code (g.R.Records.file c.args.nodes.now).totals.records (g.R.Records.file c.args.nodes.now).words c.args.node.now
    (sym c.format.ensures.value ∙ c.if-format-eq1.true) c.requires.own c.requires.bit c.requires.leads)

pub returns-in-Some-clause-told : goal.returns-in-Some-clause-told
returns-in-Some-clause-told g c =
    given_face (g.R.Records.file c.args.nodes.now).words (g.R.Records.file c.args.nodes.now).format (g.R.Records.file c.args.nodes.now).grid.depth c.args.code c.in-Some.face
    (face_found (g.R.Records.file c.args.nodes.now).format (g.R.Records.file c.args.nodes.now).grid.depth c.args.code (g.R.Records.file c.args.nodes.now).totals.records (g.R.Records.file c.args.nodes.now).words c.args.node.now
    c.in_ok-cell.cell c.in-Some.face
    (format_two (g.R.Records.file c.args.nodes.now).format c.format.result c.format.ensures.framed.known c.format.ensures.value c.if-format-eq1.false)
    c.requires.own c.requires.bit c.in_ok-cell.ensures.word c.in_ok-cell.ensures.number c.in-Some.ensures.found.0 c.requires.leads)

pub returns-in-None-clause-told : goal.returns-in-None-clause-told
returns-in-None-clause-told g c =
    refused_face (g.R.Records.file c.args.nodes.now).words (g.R.Records.file c.args.nodes.now).format (g.R.Records.file c.args.nodes.now).grid.depth c.args.code (Refused c.in_ok-cell.cell.number c.in_ok-cell.cell.word)
    (face_refused (g.R.Records.file c.args.nodes.now).format (g.R.Records.file c.args.nodes.now).grid.depth c.args.code (g.R.Records.file c.args.nodes.now).totals.records (g.R.Records.file c.args.nodes.now).words c.args.node.now
    c.in_ok-cell.cell
    (format_two (g.R.Records.file c.args.nodes.now).format c.format.result c.format.ensures.framed.known c.format.ensures.value c.if-format-eq1.false)
    c.requires.own c.requires.bit c.in_ok-cell.ensures.word c.in_ok-cell.ensures.number c.in-None.ensures.missing c.requires.leads)

pub returns-in-None-clause-refused : goal.returns-in-None-clause-refused
returns-in-None-clause-refused g c = inr (record {
  word_is = c.in_ok-cell.ensures.word;
  faceless = c.in-None.ensures.missing;
  led = slot_led (g.R.Records.file c.args.nodes.now).format (g.R.Records.file c.args.nodes.now).grid.depth c.args.code (g.R.Records.file c.args.nodes.now).totals.records (g.R.Records.file c.args.nodes.now).words c.args.node.now
      c.in_ok-cell.cell.number ((g.R.Records.file c.args.nodes.now).totals.records - 1) c.requires.own c.requires.bit c.in_ok-cell.ensures.number c.requires.led;
})
