-- What a line of a text of rays or points means.
use Rattle.std.specs.Prelude.{ℕ, ◌^◌, ◌==◌, if◌then◌else◌, List, length, ℤ, Option, None, Some, Result, Ok, Err}
use Rattle.std.specs.List.{list_all}
use Rattle.near_query.specs.declared.cells.NearFault.{NearFault}
use Rattle.near_query.specs.declared.cells.NearFault.TheVariants as near
use Rattle.ply_text.specs.declared.fault.TextFault.{TextFault}
use Rattle.ply_text.specs.declared.fault.TextFault.TheVariants as texts
use Rattle.ray_answers.specs.declared.queries.Query.{Query}
use Rattle.ray_answers.specs.declared.queries.Query.TheVariants.{Ray, Point}
use Rattle.ray_answers.specs.declared.queries.QueryKind.{QueryKind}
use Rattle.ray_answers.specs.declared.queries.QueryKind.TheVariants.{Rays, Points}
use Rattle.ray_answers.specs.declared.stops.LineFault.{LineFault}
use Rattle.ray_answers.specs.declared.stops.LineFault.TheVariants.{BadRay, BadPoint, LineTooLong, TooLong, RayRange, PointRange}
use Rattle.ray_answers.specs.declared.stops.LineStop.{LineStop}
use Rattle.ray_answers.specs.declared.stops.LineStop.TheVariants.{AtLine, ReadFault, Walk, Memory}
use Rattle.ray_fraction.specs.RayFrom.{ray_from}
use Rattle.ray_fraction.specs.RayLimits.{is_within}
use Rattle.ray_fraction.specs.RayShape.{RayShape}
use Rattle.ray_fraction.specs.declared.rays.RayFault.{RayFault}
use Rattle.text_words.specs.Numbers.{three_from}

-- a ray that is refused is out of range
abbrev pub ray_in_range : ℕ → Result RayShape RayFault → Result Query LineFault
ray_in_range place (Ok ray) = Ok (Ray ray)
ray_in_range place (Err fault) = Err (RayRange place)

-- the ray of an origin and a direction, where both are numbers
abbrev pub ray_between : ℕ → Option (List ℤ) → Option (List ℤ) → Result Query LineFault
ray_between place None direction = Err (BadRay place)
ray_between place (Some origin) None = Err (BadRay place)
ray_between place (Some origin) (Some direction) = ray_in_range place (ray_from origin direction)

-- the ray of these words, on a line with that place
unfoldable pub ray_of : ℕ → List (List ℕ) → Result Query LineFault
ray_of place words = if length words == 6 then ray_between place (three_from words 0) (three_from words 3) else Err (BadRay place)

-- the point at these coordinates, where they are numbers; a size above 2^40 is out of range
abbrev pub point_at : ℕ → Option (List ℤ) → Result Query LineFault
point_at place None = Err (BadPoint place)
point_at place (Some at) = if list_all (is_within (2 ^ 40)) at then Ok (Point at) else Err (PointRange place)

-- the point of these words, on a line with that place
unfoldable pub point_of : ℕ → List (List ℕ) → Result Query LineFault
point_of place words = if length words == 3 then point_at place (three_from words 0) else Err (BadPoint place)

abbrev pub query_of : QueryKind → ℕ → List (List ℕ) → Result Query LineFault
query_of Rays place words = ray_of place words
query_of Points place words = point_of place words

-- there is a query
abbrev pub asked : Result Query LineFault → Result (Option Query) LineFault
asked (Ok query) = Ok (Some query)
asked (Err fault) = Err fault

-- what a line of these words asks, which has that place; nothing where it has no words
unfoldable pub line_meaning : QueryKind → ℕ → List (List ℕ) → Result (Option Query) LineFault
line_meaning kind place words = if length words == 0 then Ok None else asked (query_of kind place words)

-- why a text is not read on
abbrev pub stop_of : TextFault → LineStop
stop_of (texts.LineTooLong place) = AtLine (LineTooLong place)
stop_of (texts.TokenTooLong place) = AtLine (LineTooLong place)
stop_of texts.TooLong = AtLine (TooLong (2 ^ 62))
stop_of texts.ReadFault = ReadFault

-- how the answers end where a query is not answered so
abbrev pub stop_of_fault : NearFault → LineStop
stop_of_fault (near.Walk fault) = Walk fault
stop_of_fault near.Memory = Memory
