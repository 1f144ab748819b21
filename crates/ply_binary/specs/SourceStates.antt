-- What a source of rewritten text is between calls, and what a call does to it.
use Rattle.std.specs.Prelude.{◌≡◌, ℕ, ◌<◌, ◌≤◌, ◌⊎◌, List, [], ◌++◌, length, Option, None, Some, ⊤}
use Rattle.std.specs.Option.{option_map}
use Rattle.dev_traits.specs.declared.device.ByteSource.{Ghosts}
use Rattle.ply_reader.specs.Declarations.{Declared, declared}
use Rattle.ply_binary.specs.declared.body.Body.{Body}
use Rattle.ply_binary.specs.declared.source.AsciiSource.{AsciiSource}
use Rattle.ply_binary.specs.declared.source.Stage.{Stage}
use Rattle.ply_binary.specs.declared.source.Stage.TheVariants.{Head, Values, Plain, Over}
use Rattle.ply_binary.specs.HeaderTexts.{header_left}
use Rattle.ply_binary.specs.BodyStates.{body_left}
use Rattle.ply_binary.specs.HeldStates.{held}

-- the text that the bytes not yet looked at are rewritten as
abbrev pub left_by : Stage → Declared → ℕ → Body → List ℕ → List ℕ
left_by (Head found) d place body bytes = header_left found d place bytes
left_by Values d place body bytes = body_left d body bytes
left_by Plain d place body bytes = bytes
left_by Over d place body bytes = []

-- no header is read
abbrev pub IsBehindHead : Stage → Type 0
IsBehindHead (Head found) = ⊥
IsBehindHead Values = ⊤
IsBehindHead Plain = ⊤
IsBehindHead Over = ⊤

-- the first line is seen: its LF is held, or it is too long, or nothing follows what is held
abbrev pub IsSeen : ℕ → List ℕ → List ℕ → Type 0
IsSeen size bytes more = (size < length bytes) ⊎ ((1024 < size) ⊎ (more ≡ []))

-- the next value is held, or nothing follows what is held
abbrev pub IsHeld : List ℕ → List ℕ → Type 0
IsHeld bytes more = (8 ≤ length bytes) ⊎ (more ≡ [])

module _ {I : Type 0} {g : Ghosts I} where
  -- the text that is still to be given, by the bytes that the input has still to give
  abbrev pub text_behind : AsciiSource I g → List ℕ → List ℕ
  text_behind s more = s.text ++ left_by s.stage (declared s.header) s.place s.body (held s.held ++ more)

  abbrev pub source_rest : AsciiSource I g → Option (List ℕ)
  source_rest s = option_map (text_behind s) (g.rest s.held.input.now)

  -- the same input
  pub record SameLent (old new : AsciiSource I g) : Type 0 where
    pub input : new.held.input.ghost_name ≡ old.held.input.ghost_name

  -- of the input's bytes a front was read, and text was given that these bytes alone settle: whatever follows them, the text to come began with it.
  -- Where the front is all that the input has, what would follow it is not asked
  pub record Gives (old new : AsciiSource I g) (given bytes : List ℕ) : Type 0 where
    pub front : List ℕ
    pub behind : List ℕ
    pub parts : bytes ≡ front ++ behind
    pub rest : g.rest new.held.input.now ≡ Some behind
    pub text : ((more : List ℕ) → text_behind old (front ++ more) ≡ given ++ text_behind new more)
        ⊎ ((behind ≡ []) × (text_behind old front ≡ given ++ text_behind new []))

  -- a call gave text, and reads no more of the input than its own bytes
  pub record Moves (old new : AsciiSource I g) (given : List ℕ) : Type 0 where
    pub lent : SameLent old new
    pub untold : g.rest old.held.input.now ≡ None → g.rest new.held.input.now ≡ None
    pub told : (bytes : List ℕ) → g.rest old.held.input.now ≡ Some bytes → Gives old new given bytes
