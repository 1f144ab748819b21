use Rattle.std.proofs.Common.{refl}
use Rattle.octree_specs.proofs.Filled.{one_filled_list}
use Rattle.octree_specs.proofs.FillingByCandidates.{filled_codes, computed}
use Rattle.morton_code.proofs.laws.filled_cells_are_one_list.Goals as goal

pub returns : goal.returns
returns c = record {
  some = λ grid triangles. (filled_codes grid triangles, computed grid triangles (filled_codes grid triangles) refl);
  one = one_filled_list;
}
