-- What the steps within a call do to a reader.
use Rattle.std.specs.Prelude.{◌≡◌, ◌≢◌, ℕ, ◌+◌, ◌-◌, ◌<◌, ◌≤◌, ◌⊎◌, List, length, take, drop, slice_range, Some, Result, Ok, Err, IfOk, IfErr, min, nat_lt, nat_le, ◌&&◌, if◌then◌else◌, Bool}
use Rattle.std.specs.Io.KnownBytes.{IsAtEnd}
use Rattle.std.specs.List.{prefix_len}
use Rattle.dev_traits.specs.declared.device.ByteSource.{Ghosts}
use Rattle.dev_traits.specs.Faults.{Rose}
use Rattle.ply_text.specs.declared.fault.TextFault.{TextFault}
use Rattle.ply_text.specs.declared.fault.TextFault.TheVariants.{ReadFault, TooLong}
use Rattle.ply_text.specs.declared.run.Run.{Run}
use Rattle.ply_text.specs.declared.run.Run.TheVariants.{White}
use Rattle.ply_text.specs.declared.tokens.Tokens.{Tokens}
use Rattle.ply_text.specs.declared.tokens.PieceRange.{PieceRange}
use Rattle.ply_text.specs.Pieces.{Piece, belongs}
use Rattle.ply_text.specs.NextPieces.{run_size, room_at, white_size}
use Rattle.ply_text.specs.Reading.{held, left_of}
use Rattle.ply_text.specs.Calls.{fault_end}

-- the bytes of a block that a span names
abbrev pub piece_in : List ℕ → PieceRange → Piece
piece_in block span = record { place = span.place; bytes = slice_range block span.begin span.end }

-- a span of a block
abbrev pub LiesIn : List ℕ → PieceRange → Type 0
LiesIn block span = (span.begin ≤ span.end) × (span.end ≤ length block)

-- the fault of a run that is too long, or one that any run may have
abbrev pub IsOneOf : TextFault → TextFault → Type 0
IsOneOf long fault = (fault ≡ long) ⊎ ((fault ≡ TooLong) ⊎ (fault ≡ ReadFault))

-- the answer for a run of which `size` bytes are among `held` bytes at the front of a text
abbrev pub checked_size : ℕ → TextFault → ℕ → ℕ → ℕ → Result ℕ TextFault
checked_size limit fault room held size =
    if nat_lt limit (min size room) then Err fault
    else (if nat_le room size && nat_lt room held then Err TooLong else Ok size)

module _ {I : Type 0} {g : Ghosts I} where
  -- the same source with its lender, block, stop
  pub record Keeps (old new : Tokens I g) : Type 0 where
    pub input : new.input.ghost_name ≡ old.input.ghost_name
    pub block : new.block.ghost_name ≡ old.block.ghost_name
    pub lender : g.lender new.input.now ≡ g.lender old.input.now
    pub stopped : new.stopped ≡ old.stopped

  -- nothing was passed, and more bytes may be held
  pub record Holds (old new : Tokens I g) : Type 0 where
    pub keeps : Keeps old new
    pub place : new.place ≡ old.place
    pub left : left_of new ≡ left_of old
    pub front : take (length (held old)) (held new) ≡ held old

  -- the count of faults did not fall, and a read failed only where it rose
  pub record IsCaused {T : Type 0} (old new : Tokens I g) (result : Result T TextFault) : Type 0 where
    pub later : g.faults old.input.now ≤ g.faults new.input.now
    pub failed : result ≡ Err ReadFault → Rose (g.faults old.input.now) (g.faults new.input.now)

  -- bytes were held, or a read failed
  pub record ReadsOn {T : Type 0} (old new : Tokens I g) (result : Result T TextFault) : Type 0 where
    pub holds : Holds old new
    pub later : g.faults old.input.now ≤ g.faults new.input.now
    pub failed : IfErr result (λ fault. (fault ≡ ReadFault) × Rose (g.faults old.input.now) (g.faults new.input.now))

  -- all that is held belongs to the run, and is at most so many bytes
  pub record HoldsSought (run : Run) (limit : ℕ) (new : Tokens I g) : Type 0 where
    pub few : length (held new) ≤ limit
    pub inside : prefix_len (belongs run) (held new) ≡ length (held new)

  -- so many of the held bytes were passed
  pub record Passes (count : ℕ) (old new : Tokens I g) : Type 0 where
    pub keeps : Keeps old new
    pub place : new.place ≡ old.place + count
    pub input : new.input.now ≡ old.input.now
    pub bytes : new.block.now ≡ old.block.now
    pub from : new.from ≡ old.from + count
    pub to : new.to ≡ old.to

  -- a front of the text left was passed, and no fewer bytes of the text are read
  pub record Advances (old new : Tokens I g) : Type 0 where
    pub keeps : Keeps old new
    pub later : old.place ≤ new.place
    pub read : old.place + (old.to - old.from) ≤ new.place + (new.to - new.from)
    pub told : (text : List ℕ) → left_of old ≡ Some text
        → (left_of new ≡ Some (drop (new.place - old.place) text)) × (new.place - old.place ≤ length text)

  -- white space was passed
  pub record PassesWhite (old new : Tokens I g) : Type 0 where
    pub keeps : Keeps old new
    pub later : old.place ≤ new.place
    pub read : old.place + (old.to - old.from) ≤ new.place + (new.to - new.from)
    pub told : (text : List ℕ) → left_of old ≡ Some text
        → (left_of new ≡ Some (drop (new.place - old.place) text)) × (new.place - old.place ≤ prefix_len (belongs White) text)

  -- the run at the front of the held bytes has that size, and its end is among them, or more than limit bytes of it, or the end of the text behind them
  pub record HoldsRun (run : Run) (limit count : ℕ) (new : Tokens I g) : Type 0 where
    pub size : count ≡ prefix_len (belongs run) (held new)
    pub ended : (count < length (held new)) ⊎ ((limit < count) ⊎ IsAtEnd (g.rest new.input.now))

  -- the answer is the one defined, and at Ok so many bytes were passed
  pub record Finds {A : Type 0} (next : ℕ → List ℕ → Result A TextFault) (size : List ℕ → ℕ) (old new : Tokens I g) (result : Result A TextFault) : Type 0 where
    pub advances : Advances old new
    pub reached : IfErr result (λ fault. fault_end fault ≤ new.place + (new.to - new.from))
    pub answer : (text : List ℕ) → left_of old ≡ Some text → result ≢ Err ReadFault → result ≡ next old.place text
    pub passed : (text : List ℕ) → left_of old ≡ Some text → IfOk result (λ _. (left_of new ≡ Some (drop (size text) text)) × (new.place ≡ old.place + size text))

  -- the white space at the front of a text was passed
  pub record PassedWhite (text : List ℕ) (old new : Tokens I g) (found : Bool) : Type 0 where
    pub size : run_size White (room_at old.place) text ≡ Ok (white_size text)
    pub left : left_of new ≡ Some (drop (white_size text) text)
    pub place : new.place ≡ old.place + white_size text
    pub more : found ≡ nat_lt (white_size text) (length text)
