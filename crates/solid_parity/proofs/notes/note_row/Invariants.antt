-- The triangle was noted in the columns before this one.
use Rattle.std.proofs.Common.{◌-◌, ◌≤◌}
use Rattle.std.specs.Prelude.{◌==◌, ◌&&◌, nat_lt}
use Rattle.solid_parity.specs.Counts.{AddsCounts, AreKept}
use Rattle.solid_parity.specs.Notes.{is_highest}
use Rattle.solid_parity.specs.Parity.{one}
use Rattle.solid_parity.specs.PartCells.{part_side}
use Rattle.solid_parity.proofs.notes.note_row.Given as goal

abbrev pub invariant-loop-x : goal.invariant-loop-x
invariant-loop-x l =
    (l.xs.from ≤ l.x)
    × (l.x - l.xs.from ≤ l.xs.to - l.xs.from)
    × AddsCounts (part_side l.columns.grid l.columns.split) (λ a b z. one (nat_lt a l.x && ((b == l.y) && is_highest l.columns l.shape a b z))) l.fn.slots l.slots
    × AreKept l.columns l.slots l.blocks l.marks
