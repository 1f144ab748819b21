-- A file of masks or of faces is of a known format.
use Rattle.std.proofs.Common.{Bool, true, false, cond, refl, inl, inr}
use Rattle.octree_specs.specs.Formats.{IsFormat}

pub known_format : (masks : Bool) → IsFormat (cond masks 1 2)
known_format true = inl refl
known_format false = inr refl
