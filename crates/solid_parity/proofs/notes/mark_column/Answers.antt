use Rattle.std.proofs.Common.{arith}
use Rattle.solid_parity.proofs.Counts.{kept_marked}
use Rattle.solid_parity.proofs.notes.mark_column.Goals as goal

pub returns-then-note_column-clause-kept : goal.returns-then-note_column-clause-kept
returns-then-note_column-clause-kept c =
    kept_marked c.args.columns.now c.args.x c.args.y _ c.args.slots.now c.note_column.new.slots c.args.marks.now c.set.new.words c.args.blocks.now c.note_column.new.blocks c.requires.kept
    c.requires.x c.requires.y c.note_column.auto.slots c.set.auto.words c.note_column.ensures.touched (omega (arith, c.from.ensures, c.from-then-note_column.ensures))
    c.set.ensures.this c.set.ensures.others c.note_column.ensures.others
