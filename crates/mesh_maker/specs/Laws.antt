-- Laws of made texts.
use Rattle.std.specs.Prelude.{◌≡◌, ◌≤◌, ℕ, ◌+◌, ◌*◌, Bool, length, Ok}
use Rattle.ply_reader.specs.PlyMeaning.{ply_meaning}
use Rattle.mesh_maker.specs.MadeText.{made_text}
use Rattle.mesh_maker.specs.MadeMeaning.{made_mesh}

-- a made text is accepted, with no decimals and whether or not they are cut, and means its mesh
abbrev pub MeanMadeMeshes : Type 0
MeanMadeMeshes = (number side : ℕ) (cut : Bool) → 1 ≤ side → side ≤ 1024
    → ply_meaning (record { decimals = 0; cut = cut }) (made_text number side) ≡ Ok (made_mesh number side)

-- so many points and triangles
abbrev pub CountMadeMeshes : Type 0
CountMadeMeshes = (number side : ℕ)
    → (length (made_mesh number side).points ≡ (side + 1) * (side + 1)) × (length (made_mesh number side).triangles ≡ 2 * (side * side))
