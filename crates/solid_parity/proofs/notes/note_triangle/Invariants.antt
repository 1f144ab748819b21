-- The triangle was noted in the rows before this one.
use Rattle.std.proofs.Common.{◌-◌, ◌≤◌}
use Rattle.std.specs.Prelude.{◌&&◌, nat_lt}
use Rattle.solid_parity.specs.Counts.{AddsCounts, AreKept}
use Rattle.solid_parity.specs.Notes.{is_highest}
use Rattle.solid_parity.specs.Parity.{one}
use Rattle.solid_parity.specs.PartCells.{part_side}
use Rattle.solid_parity.proofs.notes.note_triangle.Given as goal

abbrev pub invariant-loop-y : goal.invariant-loop-y
invariant-loop-y l =
    (l.initial.y ≤ l.y)
    × (l.y - l.initial.y ≤ l.y-end - l.initial.y)
    × AddsCounts (part_side l.columns.grid l.columns.split) (λ a b z. one (nat_lt b l.y && is_highest l.columns l.triangle a b z)) l.fn.slots l.slots
    × AreKept l.columns l.slots l.blocks l.marks
