use Rattle.morton_scan.proofs.FilledParts.{grows_by_triangles}
use Rattle.morton_scan.proofs.laws.slots_grow_by_triangles.Goals as goal

pub returns : goal.returns
returns c = grows_by_triangles
