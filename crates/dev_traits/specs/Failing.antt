-- The calls that a device in memory is set to refuse.
use Rattle.std.specs.Prelude.{◌==◌, ℕ, min, List, find, Option, None, Some}
use Rattle.dev_traits.specs.declared.failing.PartFail.{PartFail}

-- the first entry for a call
abbrev pub planned : List PartFail → ℕ → Option PartFail
planned fails call = find (λ fail. fail.call == call) fails

-- how many bytes a call takes, of those for which there is room
abbrev pub taken_of : Option PartFail → ℕ → ℕ
taken_of None fits = fits
taken_of (Some fail) fits = min fail.taken fits
