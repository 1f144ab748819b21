-- A text that is put out block by block.
use Rattle.std.proofs.Common.{◌≡◌, ℕ, ◌+◌, ◌<◌, List, [], ◌++◌, length, take, drop, Some, None, refl, sym, ap, subst, ◌∙◌, append_assoc, append-nil, arith}
use Rattle.std.specs.Prelude.{Option, Result, Ok, Err, IsErr}
use Rattle.dev_traits.specs.Contents.{PutsPiece}
use Rattle.node_file.proofs.Fronts.{append_twice}
use Rattle.std.specs.Io.KnownBytes.{append_known}
use Rattle.std.proofs.Math.Seq.{take-append-add, take-append_seam, take-length}
use Rattle.std.proofs.lemmas.List.{take-append-drop, length-append}

-- a front of the text was put out, and this is left
pub record IsPutting (before now : Option (List ℕ)) (whole rest : List ℕ) : Type 0 where
  pub front : List ℕ
  pub parts : front ++ rest ≡ whole
  pub put : now ≡ append_known before front

append_none : (told : Option (List ℕ)) → told ≡ append_known told []
append_none None = refl
append_none (Some x) = ap Some (sym (append-nil x))

pub none_put : (before : Option (List ℕ)) (whole : List ℕ) → IsPutting before before whole whole
none_put before whole = record { front = []; parts = refl; put = append_none before }

pub more_put : (before now after : Option (List ℕ)) (whole rest piece left : List ℕ) → IsPutting before now whole rest → rest ≡ piece ++ left → after ≡ append_known now piece → IsPutting before after whole left
more_put before now after whole rest piece left so_far parts put = record {
  front = so_far.front ++ piece;
  parts = append_assoc so_far.front piece left ∙ (ap (λ l. so_far.front ++ l) (sym parts) ∙ so_far.parts);
  put = put ∙ (ap (λ told. append_known told piece) so_far.put ∙ append_twice before so_far.front piece);
}

pub all_put : (before now : Option (List ℕ)) (whole rest : List ℕ) → IsPutting before now whole rest → rest ≡ [] → now ≡ append_known before whole
all_put before now whole rest so_far none =
    so_far.put ∙ ap (append_known before) (sym (append-nil so_far.front) ∙ (ap (λ l. so_far.front ++ l) (sym none) ∙ so_far.parts))

-- a front of a block is with the blocks before it a front of the whole
pub front_put : (before now after : Option (List ℕ)) (whole rest piece left : List ℕ) → IsPutting before now whole rest → rest ≡ piece ++ left → (count : ℕ) × (after ≡ append_known now (take count piece))
    → (count : ℕ) × (after ≡ append_known before (take count whole))
front_put before now after whole rest piece left so_far parts put =
    let some : List ℕ = take put.0 piece in
    let split : rest ≡ some ++ (drop put.0 piece ++ left) =
    parts ∙ (ap (λ l. l ++ left) (sym (take-append-drop put.0 piece)) ∙ append_assoc some (drop put.0 piece) left) in
    let seam : take (length some) rest ≡ some = ap (take (length some)) split ∙ take-append_seam some (drop put.0 piece ++ left) in
    let front : take (length so_far.front + length some) whole ≡ so_far.front ++ some =
    ap (take (length so_far.front + length some)) (sym so_far.parts) ∙ (take-append-add so_far.front rest (length some) ∙ ap (λ l. so_far.front ++ l) seam) in (
      length so_far.front + length some,
      put.1 ∙ (ap (λ told. append_known told some) so_far.put ∙ (append_twice before so_far.front some ∙ ap (append_known before) (sym front))),
    )

-- a block that is not empty leaves less
pub less_left : (rest piece left : List ℕ) → rest ≡ piece ++ left → 0 < length piece → length left < length rest
less_left rest piece left parts some = omega (arith, ap length parts, length-append piece left, some)

-- what a refused put leaves, as an answer
pub put_stops : {E : Type 0} (before after : Option (List ℕ)) (whole : List ℕ) (result : Result Unit E) → IsErr result → (count : ℕ) × (after ≡ append_known before (take count whole))
    → PutsPiece before after whole result
put_stops before after whole (Ok done) is front = absurd cc
put_stops before after whole (Err e) is front = front
