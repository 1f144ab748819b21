-- How a source came to where it is.
use Rattle.std.specs.Prelude.{◌≡◌, ℕ, List, Option}
use Rattle.dev_traits.specs.declared.device.ByteSource.{Ghosts}
use Rattle.ply_binary.specs.declared.source.AsciiSource.{AsciiSource}
use Rattle.ply_binary.specs.HeaderTexts.{ascii}
use Rattle.ply_binary.specs.SourceStates.{text_behind, Moves}

module _ {I : Type 0} {g : Ghosts I} where
  -- a source whose input told this, and which had given nothing, came by its calls to be this one
  pub record ReadsSince (told : Option (List ℕ)) (s : AsciiSource I g) : Type 0 where
    pub start : AsciiSource I g
    pub given : List ℕ
    pub told_is : g.rest start.held.input.now ≡ told
    pub text : (bytes : List ℕ) → text_behind start bytes ≡ ascii bytes
    pub moves : Moves start s given
