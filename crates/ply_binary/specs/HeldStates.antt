-- The bytes that are held, and what a call does to them.
use Rattle.std.specs.Prelude.{◌≡◌, ℕ, List, ◌++◌, drop, slice_range}
use Rattle.std.specs.Io.KnownBytes.{prepend_known}
use Rattle.dev_traits.specs.declared.device.ByteSource.{Ghosts}
use Rattle.ply_binary.specs.declared.held.HeldInput.{HeldInput}

module _ {I : Type 0} {g : Ghosts I} where
  -- the bytes of the block that were read and not yet passed
  abbrev pub held : HeldInput I g → List ℕ
  held h = slice_range h.block h.from h.to

  -- the same source
  pub record Keeps (old new : HeldInput I g) : Type 0 where
    pub input : new.input.ghost_name ≡ old.input.ghost_name

  -- bytes were read, and are held behind those that were held
  pub record HoldsMore (old new : HeldInput I g) : Type 0 where
    pub keeps : Keeps old new
    pub read : List ℕ
    pub rest : g.rest old.input.now ≡ prepend_known read (g.rest new.input.now)
    pub held_is : held new ≡ held old ++ read

  -- so many of the held bytes were passed
  pub record Passes (count : ℕ) (old new : HeldInput I g) : Type 0 where
    pub keeps : Keeps old new
    pub input : new.input.now ≡ old.input.now
    pub held_is : held new ≡ drop count (held old)
