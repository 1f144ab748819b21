use Rattle.std.proofs.Common.{◌≡◌, ◌-◌, ◌≤◌, ◌++◌, length, take}
use Rattle.mesh_maker.proofs.made_mesh.MadeMeshByteSource.read.Given as goal

abbrev pub invariant-loop-done : goal.invariant-loop-done
invariant-loop-done l = (l.done ≤ length l.into) × (length l.into ≡ length l.initial.into) × (l.initial.self ≡ take l.done l.into ++ l.self)

abbrev pub decreases-loop-done : goal.decreases-loop-done
decreases-loop-done l = length l.into - l.done
