-- Which numbers make a grid, and which limit the others break first.
use Rattle.std.specs.Prelude.{ℕ, ◌*◌, ◌^◌, Bool, ◌&&◌, not, nat_le, if◌then◌else◌, List, ℤ, pos, unsigned_abs, int_le, Result, Ok, Err}
use Rattle.std.specs.List.{list_all}
use Rattle.svo_base.specs.GridShape.{GridShape}
use Rattle.svo_base.specs.declared.grids.TheConstants.{MAX_DEPTH}
use Rattle.svo_base.specs.declared.grids.GridFault.{GridFault}
use Rattle.svo_base.specs.declared.grids.GridFault.TheVariants.{Depth, Origin, Cell, TooWide}

-- a size of at most the limit
abbrev pub is_within : ℕ → ℤ → Bool
is_within limit z = nat_le (unsigned_abs z) limit

-- from 1 on
abbrev pub is_positive : ℤ → Bool
is_positive z = int_le (pos 1) z

-- the grid of these numbers, or the first limit that they break
unfoldable pub grid_from : ℤ → List ℤ → ℤ → Result GridShape GridFault
grid_from depth origin cell =
    if not (is_positive depth && is_within MAX_DEPTH depth) then Err Depth
    else (if not (list_all (is_within (2 ^ 30)) origin) then Err Origin
    else (if not (is_positive cell) then Err Cell
    else (if not (nat_le (unsigned_abs cell * 2 ^ unsigned_abs depth) (2 ^ 32)) then Err TooWide
    else Ok (record { depth = unsigned_abs depth; origin = origin; cell = unsigned_abs cell }))))
