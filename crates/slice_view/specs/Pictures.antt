-- A picture of gray samples as a binary PGM: a header, and then a byte for each sample, row by row from the top, each row from the left.
use Rattle.std.specs.Prelude.{ℕ, List, ◌++◌, codes}
use Rattle.std.specs.Fmt.{decimal}

unfoldable pub pgm_header : (width height : ℕ) → List ℕ
pgm_header width height = codes "P5\n" ++ decimal width ++ codes " " ++ decimal height ++ codes "\n255\n"
