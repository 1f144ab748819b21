-- What is left behind a header.
use Rattle.std.proofs.Common.{◌≡◌, refl}
use Rattle.ply_reader.specs.Declarations.{Declared}
use Rattle.ply_reader.specs.Layout.{before_vertices}
use Rattle.ply_reader.specs.Cursors.{Cursor, Step, onward, done}
use Rattle.ply_reader.specs.Rows.{elements_passed}
use Rattle.ply_reader.specs.HeaderSteps.{whole_header}
use Rattle.ply_reader.specs.PlyMeaning.{vertices_reached}

abbrev pub behind_header : Declared → Step Declared
behind_header d c = onward (elements_passed d (before_vertices d) c) (λ _. done d)

pub reached_steps : (c : Cursor) → vertices_reached c ≡ onward (whole_header c) behind_header
unfolding vertices_reached
reached_steps c = refl
