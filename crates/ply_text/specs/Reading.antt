-- A reader between calls, seen as one value.
use Rattle.std.specs.Prelude.{◌≡◌, ℕ, ◌-◌, ◌≤◌, List, length, drop, Option, Some, slice_range}
use Rattle.dev_traits.specs.declared.device.ByteSource.{Ghosts}
use Rattle.std.specs.Io.KnownBytes.{prepend_known}
use Rattle.ply_text.specs.declared.fault.TextFault.{TextFault}
use Rattle.ply_text.specs.declared.tokens.Tokens.{Tokens}

-- the bytes not yet passed, where the source tells its bytes; the place of the first of them; how many of them were read; the fault that stopped the reader; the source's faults
pub record Reading : Type 0 where
  pub left : Option (List ℕ)
  pub place : ℕ
  pub ahead : ℕ
  pub stopped : Option TextFault
  pub faults : ℕ

-- the bytes left are all those of a text from the reader's place on
pub record StandsIn (text : List ℕ) (reader : Reading) : Type 0 where
  pub left : reader.left ≡ Some (drop reader.place text)
  pub within : reader.place ≤ length text

module _ {I : Type 0} {g : Ghosts I} where
  -- the bytes of the block that were read and not yet passed
  abbrev pub held : Tokens I g → List ℕ
  held tokens = slice_range tokens.block.now tokens.from tokens.to

  -- those, and the bytes that the source has still to give
  abbrev pub left_of : Tokens I g → Option (List ℕ)
  left_of tokens = prepend_known (held tokens) (g.rest tokens.input.now)

  -- what contracts see of a reader
  abbrev pub reading : Tokens I g → Reading
  reading tokens =
      record { left = left_of tokens; place = tokens.place; ahead = tokens.to - tokens.from; stopped = tokens.stopped; faults = g.faults tokens.input.now }
