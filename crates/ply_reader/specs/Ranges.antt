-- Where the properties of elements stand.
use Rattle.std.specs.Prelude.{ℕ, ◌≢◌, ◌+◌, ◌^◌, ◌<◌, ◌≤◌, List}
use Rattle.std.specs.List.{All}
use Rattle.ply_reader.specs.declared.elements.Element.{Element}
use Rattle.ply_reader.specs.declared.elements.Role.TheVariants.{Other}

-- the properties of each element are among those that were declared, so many
abbrev pub AreWithin : ℕ → List Element → Type 0
AreWithin count elements = All (λ element. element.first + element.properties ≤ count) elements

-- there are at most 4,294,967,295 vertices, and as many faces
abbrev pub IsFew : Element → Type 0
IsFew element = element.role ≢ Other → element.count < 2 ^ 32

abbrev pub AreFew : List Element → Type 0
AreFew elements = All IsFew elements
