-- Bytes that are held, read after read.
use Rattle.std.proofs.Common.{◌≡◌, ℕ, ◌≤◌, List, [], ◌++◌, length, Option, None, Some, refl, sym, ap, ◌∙◌, arith, append_assoc, append-nil, length-append}
use Rattle.std.specs.Io.KnownBytes.{prepend_known}
use Rattle.dev_traits.specs.declared.device.ByteSource.{Ghosts}
use Rattle.ply_binary.specs.declared.held.HeldInput.{HeldInput}
use Rattle.ply_binary.specs.HeldStates.{held, Keeps, HoldsMore}

pub known_twice : (a b : List ℕ) (rest : Option (List ℕ)) → prepend_known a (prepend_known b rest) ≡ prepend_known (a ++ b) rest
known_twice a b None = refl
known_twice a b (Some rest) = ap Some (sym (append_assoc a b rest))

pub known_none : (rest : Option (List ℕ)) → rest ≡ prepend_known [] rest
known_none None = refl
known_none (Some rest) = refl

module _ {I : Type 0} {g : Ghosts I} where
  pub Keeps-trans : {a b c : HeldInput I g} → Keeps a b → Keeps b c → Keeps a c
  Keeps-trans first second = record { input = second.input ∙ first.input }

  pub HoldsMore-refl : (a : HeldInput I g) → HoldsMore a a
  HoldsMore-refl a = record { keeps = record { input = refl }; read = []; rest = known_none (g.rest a.input.now); held_is = sym (append-nil (held a)) }

  pub HoldsMore-trans : {a b c : HeldInput I g} → HoldsMore a b → HoldsMore b c → HoldsMore a c
  HoldsMore-trans {a} {b} {c} first second = record {
    keeps = Keeps-trans first.keeps second.keeps;
    read = first.read ++ second.read;
    rest = first.rest ∙ ap (prepend_known first.read) second.rest ∙ known_twice first.read second.read (g.rest c.input.now);
    held_is = second.held_is ∙ ap (λ l. l ++ second.read) first.held_is ∙ append_assoc (held a) first.read second.read;
  }

  pub HoldsMore-longer : {a b : HeldInput I g} → HoldsMore a b → length (held a) ≤ length (held b)
  HoldsMore-longer {a} {b} more = omega (arith, ap length more.held_is, length-append (held a) more.read)
