use Rattle.std.proofs.Common.{◌≡◌, ◌<◌, ◌++◌, ◌∙◌, ◌⊎◌, [], inl, inr, refl, ap, length, List, ℕ}
use Rattle.std.specs.Io.KnownBytes.{IsAtEnd}
use Rattle.ply_reader.specs.Declarations.{declared}
use Rattle.ply_binary.specs.HeldStates.{held}
use Rattle.ply_binary.specs.SourceStates.{left_by, text_behind, SameLent}
use Rattle.ply_binary.proofs.SourceMoves.{moves_then}
use Rattle.ply_binary.proofs.source.AsciiSource.next_line.Goals as goal

pub returns-in_err-size-clause-moves : goal.returns-in_err-size-clause-moves
returns-in_err-size-clause-moves g c =
    let old = c.args.self.now in
    let mid = c.hold_line.new.self in
    let holds = c.hold_line.ensures.holds in
    moves_then old _ mid [] holds (record { input = holds.keeps.input }) refl (inl (λ more. refl))

pub returns-clause-moves : goal.returns-clause-moves
returns-clause-moves g c =
    let old = c.args.self.now in
    let mid = c.hold_line.new.self in
    let new = c.take_line.new.self in
    let size = c.in_ok-size.size in
    let holds = c.hold_line.ensures.holds in
    let lent : SameLent old new = record { input = c.take_line.ensures.keeps.input ∙ holds.keeps.input } in
    let left = c.take_line.ensures.left in
    let by_seen : (size < length (held mid)) ⊎ ((1024 < size) ⊎ IsAtEnd (g.I.ByteSource.rest mid.input.now))
    → ((more : List ℕ) → old.text ++ left_by old.stage (declared old.header) old.place old.body (held mid ++ more) ≡ text_behind new more)
    ⊎ (IsAtEnd (g.I.ByteSource.rest mid.input.now) × (old.text ++ left_by old.stage (declared old.header) old.place old.body (held mid ++ []) ≡ text_behind new []))
    = λ seen. elim seen [ inl here ↦ inl (λ more. left more (inl here)) | inr far ↦ elim far [ inl long ↦ inl (λ more. left more (inr (inl long))) | inr end ↦ inr (end, left [] (inr (inr refl))) ] ] in
    moves_then old new mid [] holds lent (ap (λ i. g.I.ByteSource.rest i) c.take_line.ensures.input) (by_seen c.in_ok-size.ensures.line.1)
