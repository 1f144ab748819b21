-- The parts before the next one are pushed, and the slots are empty.
use Rattle.std.proofs.Common.{◌≡◌, ℕ, ◌+◌, ◌*◌, ◌≤◌, Bool, List, [], length, slice_index}
use Rattle.std.specs.Prelude.{Option}
use Rattle.octree_specs.specs.FacedTriangles.{Faced}
use Rattle.morton_scan.specs.FilledParts.{TestEachParcel}
use Rattle.morton_scan.specs.Putting.{first_of_part}
use Rattle.level_queues.specs.PushedFiles.{HasPushed}
use Rattle.build_core.specs.Pushing.{PushesOn}
use Rattle.build_core.specs.ScratchParts.{HasPartsOf, tests_of_parts}
use Rattle.build_core.proofs.parts.write_parts.Given as goal

abbrev pub invariant-loop-part : goal.invariant-loop-part
invariant-loop-part g l = record {
  pushed : (start : Option (List ℕ)) → HasPushed l.grid start 0 [] l.initial.queues l.initial.writer
      → PushesOn l.grid start 0 (first_of_part l.grid l.split l.part) [] (HasPartsOf l.grid l.split (g.S.Scratch.told l.initial.scratch)) l.queues l.writer l.initial.moves l.moves;
  tests : (test : Faced → ℕ → ℕ → Bool) → TestEachParcel l.grid test → (faced : List Faced) → HasPartsOf l.grid l.split (g.S.Scratch.told l.initial.scratch) faced
      → l.tests ≤ l.initial.tests + tests_of_parts l.grid l.split l.part test faced;
  empty : (place : ℕ) → slice_index l.slots place ≡ 0;
  length_is : length l.slots ≡ length l.initial.slots;
  sink : l.writer.sink.ghost_name ≡ l.initial.writer.sink.ghost_name;
  told : g.S.Scratch.told l.scratch ≡ g.S.Scratch.told l.initial.scratch;
  started : g.S.Scratch.started l.scratch ≡ g.S.Scratch.started l.initial.scratch;
  asked : g.S.Scratch.asked l.scratch ≡ g.S.Scratch.asked l.initial.scratch;
  read_later : g.S.Scratch.faults l.initial.scratch ≤ g.S.Scratch.faults l.scratch;
  put_later : g.O.ByteSink.faults l.initial.writer.sink.now ≤ g.O.ByteSink.faults l.writer.sink.now;
}
