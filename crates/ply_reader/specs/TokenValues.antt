-- What single tokens say.
use Rattle.std.specs.Prelude.{ℕ, ◌-◌, ◌^◌, ◌&&◌, nat_le, nat_lt, if◌then◌else◌, ℤ, Option, None, Some, Result, Ok, Err, ⊤}
use Rattle.ply_text.specs.Pieces.{Piece}
use Rattle.ply_text.specs.Wholes.{whole_of}
use Rattle.ply_text.specs.Fixed.{fixed_of}
use Rattle.ply_text.specs.declared.numbers.NumberFault.{NumberFault}
use Rattle.ply_text.specs.declared.numbers.NumberFault.TheVariants as numbers
use Rattle.ply_reader.specs.declared.fault.PlyFault.{PlyFault}
use Rattle.ply_reader.specs.declared.fault.PlyFault.TheVariants.{Refused}
use Rattle.ply_reader.specs.declared.fault.PlyKind.{PlyKind}
use Rattle.ply_reader.specs.declared.fault.PlyKind.TheVariants.{BadNumber, NotWhole, OutOfRange}
use Rattle.ply_reader.specs.declared.scales.Scale.{Scale}

-- a token that is passed unread
abbrev pub unread : Piece → Result ⊤ PlyFault
unread token = Ok tt

-- a whole number from `least` on and below `bound`, or a refusal of this kind
abbrev pub within_bounds : PlyKind → ℕ → ℕ → ℕ → Option ℕ → Result ℕ PlyFault
within_bounds kind least bound place None = Err (Refused kind place)
within_bounds kind least bound place (Some n) = if nat_le least n && nat_lt n bound then Ok n else Err (Refused kind place)

abbrev pub whole_in : PlyKind → ℕ → ℕ → Piece → Result ℕ PlyFault
whole_in kind least bound token = within_bounds kind least bound token.place (whole_of token.bytes (2 ^ 64 - 1))

-- a coordinate at a scale
abbrev pub number_kind : NumberFault → PlyKind
number_kind numbers.BadNumber = BadNumber
number_kind numbers.NotWhole = NotWhole
number_kind numbers.OutOfRange = OutOfRange

abbrev pub placed : ℕ → Result ℤ NumberFault → Result ℤ PlyFault
placed place (Ok n) = Ok n
placed place (Err fault) = Err (Refused (number_kind fault) place)

abbrev pub coordinate : Scale → Piece → Result ℤ PlyFault
coordinate scale token = placed token.place (fixed_of scale.decimals scale.cut token.bytes)
