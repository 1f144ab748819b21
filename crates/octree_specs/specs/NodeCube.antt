-- The cubes of an octree's nodes. A node of level l is numbered by a Morton code of l octal digits; its child i is numbered `8 * code + i`, and bits 0, 1, 2 of i say whether the child is the upper one on x, y, z (Baert, Lagae, Dutré 2013, for the order of Morton codes).
use Rattle.std.specs.Prelude.{ℕ, ◌+◌, ◌-◌, ◌*◌, ◌/◌, ◌%◌, ◌^◌, zero, suc, ℤ, pos, ◌+ℤ◌, [], ◌∷◌}
use Rattle.std.specs.List.{slice_index_or}
use Rattle.svo_base.specs.GridShape.{GridShape}
use Rattle.svo_base.specs.declared.shapes.Cube.{Cube}

-- the code of so many octal digits whose digits have the bits of x, y and z
unfoldable pub code_of : ℕ → ℕ → ℕ → ℕ → ℕ
code_of zero x y z = 0
code_of (suc digits) x y z = (x % 2 + 2 * (y % 2) + 4 * (z % 2)) + 8 * code_of digits (x / 2) (y / 2) (z / 2)

-- how many nodes of its level are below it along an axis: the number made of that axis's bit of each of its digits
unfoldable pub coordinate_of : ℕ → ℕ → ℕ → ℕ
coordinate_of axis zero code = 0
coordinate_of axis (suc digits) code = code / 2 ^ axis % 2 + 2 * coordinate_of axis digits (code / 8)

-- the side of a cube of this level
abbrev pub side_of : GridShape → ℕ → ℕ
side_of grid level = grid.cell * 2 ^ (grid.depth - level)

-- the lower plane of a node's cube across an axis
abbrev pub low_plane : GridShape → ℕ → ℕ → ℕ → ℤ
low_plane grid level code axis = slice_index_or grid.origin axis (pos 0) +ℤ pos (side_of grid level * coordinate_of axis level code)

-- the closed cube of a node
unfoldable pub node_cube : GridShape → ℕ → ℕ → Cube
node_cube grid level code =
    let low : ℕ → ℤ = low_plane grid level code in
    let high : ℕ → ℤ = λ axis. low axis +ℤ pos (side_of grid level) in
    record { lo = low 0 ∷ low 1 ∷ low 2 ∷ []; hi = high 0 ∷ high 1 ∷ high 2 ∷ [] }
