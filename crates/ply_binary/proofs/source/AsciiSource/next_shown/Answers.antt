use Rattle.std.proofs.Common.{◌≡◌, ◌+◌, ◌∙◌, min, sym, ap, subst, refl, arith, length, take, List, ℕ, true, false}
use Rattle.std.specs.List.{prefix_len}
use Rattle.std.proofs.lemmas.List.Sums.{prefix_len-le-length}
use Rattle.ply_text.specs.declared.run.Run.TheVariants.{Line}
use Rattle.ply_text.specs.Pieces.{belongs}
use Rattle.ply_binary.specs.HeldStates.{held}
use Rattle.ply_binary.specs.LineStates.{is_line, IsShown}
use Rattle.ply_binary.specs.SourceStates.{IsSeen}
use Rattle.ply_binary.proofs.HeaderSteps.{not_shown, line_shown}
use Rattle.ply_binary.proofs.source.AsciiSource.next_shown.Goals as goal

pub returns-then-not-is_line-clause-shown : goal.returns-then-not-is_line-clause-shown
returns-then-not-is_line-clause-shown g c = λ d more seen.
    let place = c.args.self.now.place in
    let refused : false ≡ is_line (length c.bytes-bytes.result.now) c.args.size place = c.if-not-is_line.ensures in
    not_shown c.args.found d place c.args.size (held c.args.self.now.held) more c.requires seen
    (ap (λ l. is_line (length l) c.args.size place) (sym c.bytes-bytes.ensures) ∙ sym refused)

pub line_end-requires : goal.line_end-requires
line_end-requires g c = omega (arith, c.requires, ap length c.bytes-bytes.ensures, prefix_len-le-length (belongs Line) (held c.args.self.now.held))

pub returns-clause-shown : goal.returns-clause-shown
returns-clause-shown g c = λ d more seen.
    let bytes = c.bytes-bytes.result.now in
    let size = c.args.size in
    let place = c.args.self.now.place in
    let is = c.bytes-bytes.ensures in
    let taken : true ≡ is_line (length bytes) size place = c.if-not-is_line.ensures in
    let P : List ℕ → Type 0 = λ l. IsShown c.args.found d place l more (min (size + 1) (length l)) c.show_line.result in
    let Q : List ℕ → Type 0 = λ l. IsSeen size l more in
    subst P is (line_shown c.args.found d place size c.line_end.result c.whole_size-whole.result bytes (take c.whole_size-whole.result bytes) more c.show_line.result
    (c.requires ∙ ap (prefix_len (belongs Line)) (sym is)) (subst Q (sym is) seen) (sym taken) c.whole_size-whole.ensures c.line_end.ensures.bound c.line_end.ensures.bytes refl c.show_line.ensures.shown)
