use Rattle.std.proofs.Common.{◌≡◌, take}
use Rattle.std.specs.Str.Parse.{digits_value_after}
use Rattle.ply_text.specs.NumeralParts.{capped}
use Rattle.ply_text.proofs.sizes.value_after.Given as goal

abbrev pub invariant-loop-byte : goal.invariant-loop-byte
invariant-loop-byte l = l.value ≡ capped (digits_value_after 10 l.fn.before (take l.byte-index l.digits))
