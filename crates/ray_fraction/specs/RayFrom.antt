-- Which numbers make a ray, and which limit the others break first.
use Rattle.std.specs.Prelude.{◌^◌, not, if◌then◌else◌, List, ℤ, Result, Ok, Err}
use Rattle.std.specs.List.{list_all}
use Rattle.ray_fraction.specs.RayLimits.{is_within, is_zero}
use Rattle.ray_fraction.specs.RayShape.{RayShape}
use Rattle.ray_fraction.specs.declared.rays.RayFault.{RayFault}
use Rattle.ray_fraction.specs.declared.rays.RayFault.TheVariants.{Origin, Direction, Zero}

-- the ray of these numbers, or the first limit that they break
unfoldable pub ray_from : List ℤ → List ℤ → Result RayShape RayFault
ray_from origin direction =
    if not (list_all (is_within (2 ^ 40)) origin) then Err Origin
    else (if not (list_all (is_within (2 ^ 30)) direction) then Err Direction
    else (if list_all is_zero direction then Err Zero
    else Ok (record { origin = origin; direction = direction })))
