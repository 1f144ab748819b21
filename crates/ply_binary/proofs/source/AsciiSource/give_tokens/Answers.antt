use Rattle.std.proofs.Common.{◌≡◌, ◌≤◌, ◌++◌, ◌∙◌, ◌⊎◌, [], inl, inr, refl, ap, length, take, List, ℕ}
use Rattle.std.specs.Io.KnownBytes.{IsAtEnd}
use Rattle.ply_reader.specs.Declarations.{declared}
use Rattle.ply_binary.specs.HeldStates.{held}
use Rattle.ply_binary.specs.SourceStates.{left_by, text_behind, SameLent}
use Rattle.ply_binary.proofs.SourceMoves.{moves_then, match_err}
use Rattle.ply_binary.proofs.source.AsciiSource.give_tokens.Goals as goal

pub returns-in_err-hold_value-clause-moves : goal.returns-in_err-hold_value-clause-moves
returns-in_err-hold_value-clause-moves g c =
    let old = c.args.self.now in
    let holds = c.hold_value.ensures.holds in
    match_err c.from_residual.result _ _ c.from_residual.ensures.0
    (moves_then old _ c.hold_value.new.self [] holds (record { input = holds.keeps.input }) refl (inl (λ more. refl)))

pub returns-clause-moves : goal.returns-clause-moves
returns-clause-moves g c =
    let old = c.args.self.now in
    let mid = c.hold_value.new.self in
    let new = c.give_held_values.new.self in
    let given = take c.give_held_values.result c.give_held_values.new.into in
    let holds = c.hold_value.ensures.holds in
    let keeps = c.give_held_values.ensures.keeps in
    let lent : SameLent old new = record { input = keeps.input ∙ holds.keeps.input } in
    let text = c.give_held_values.ensures.text in
    let by_held : (8 ≤ length (held mid)) ⊎ IsAtEnd (g.I.ByteSource.rest mid.input.now)
    → ((more : List ℕ) → old.text ++ left_by old.stage (declared old.header) old.place old.body (held mid ++ more) ≡ given ++ text_behind new more)
    ⊎ (IsAtEnd (g.I.ByteSource.rest mid.input.now) × (old.text ++ left_by old.stage (declared old.header) old.place old.body (held mid ++ []) ≡ given ++ text_behind new []))
    = λ seen. elim seen [ inl here ↦ inl (λ more. text more (inl here)) | inr end ↦ inr (end, text [] (inr refl)) ] in
    moves_then old new mid given holds lent (ap (λ i. g.I.ByteSource.rest i) c.give_held_values.ensures.input) (by_held c.in_ok-hold_value.ensures.value)
