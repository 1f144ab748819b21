use Rattle.std.proofs.Common.{◌≡◌}
use Rattle.dev_traits.proofs.StoredFiles.{found_from}
use Rattle.dev_traits.proofs.stored_files.place_of.Given as goal

abbrev pub invariant-loop-at : goal.invariant-loop-at
invariant-loop-at l = found_from l.files 0 l.name ≡ found_from l.files l.at l.name
