use Rattle.std.proofs.Common.{[], ◌≡◌, ◌≤◌, ◌<◌, ◌-◌, length, drop, arith, ◌∙◌, sym, subst, ap, MatchBool, nat_lt, Bool, List, ℕ}
use Rattle.std.specs.List.{prefix_len}
use Rattle.std.proofs.lemmas.List.Sums.{prefix_len-le-length}
use Rattle.std.proofs.lemmas.Bool.Decides.{nat_tests}
use Rattle.ply_text.specs.declared.run.Run.TheVariants.{White, Token}
use Rattle.ply_text.specs.Pieces.{belongs}
use Rattle.ply_text.specs.NextPieces.{room_at}
use Rattle.ply_text.specs.Reading.{held}
use Rattle.ply_text.proofs.Blocks.{length-held}
use Rattle.ply_text.proofs.Readers.{held-passes}
use Rattle.ply_text.proofs.Runs.{behind_white}
use Rattle.ply_text.proofs.RunSizes.{seen_fits}
use Rattle.ply_text.proofs.tokens.Tokens.pass_held_white.Goals as goal

pub pass-requires-clause-held : goal.pass-requires-clause-held
pass-requires-clause-held g c = omega (arith, c.held_size-size.ensures, prefix_len-le-length (belongs White) (held c.args.self.now))

pub pass-requires-clause-within : goal.pass-requires-clause-within
pass-requires-clause-within g c =
    let s = c.args.self.now in
    let size = c.held_size-size.result in
    let within : size ≤ length (held s) = omega (arith, c.held_size-size.ensures, prefix_len-le-length (belongs White) (held s)) in
    let fits : (size ≤ room_at s.place) × (size < length (held s) → size < room_at s.place) = seen_fits (room_at s.place) size (length (held s)) within (sym c.is_seen.ensures ∙ c.if-not-is_seen.false) in
    omega (arith, fits.0, s.within)

pub returns-clause-more : goal.returns-clause-more
returns-clause-more g c =
    let s = c.args.self.now in
    let t = c.pass.new.self in
    let size = c.held_size-size.result in
    let long : length (held s) ≡ s.to - s.from = length-held s.block.now s.from s.to s.ordered s.inside in
    let within : size ≤ s.to - s.from = omega (arith, long, c.held_size-size.ensures, prefix_len-le-length (belongs White) (held s)) in
    let rest : held t ≡ drop (prefix_len (belongs White) (held s)) (held s) = held-passes c.pass.ensures within ∙ ap (λ n. drop n (held s)) c.held_size-size.ensures in
    let test : nat_lt (prefix_len (belongs White) (held s)) (length (held s)) ≡ nat_lt t.from t.to = grind (arith, nat_tests, long, c.held_size-size.ensures, c.pass.ensures.from, c.pass.ensures.to, s.ordered) in
    let P : List ℕ → Type 0 = λ bytes. MatchBool (nat_lt t.from t.to) (0 < prefix_len (belongs Token) bytes) (bytes ≡ []) in
    let Q : Bool → Type 0 = λ b. MatchBool b (0 < prefix_len (belongs Token) (drop (prefix_len (belongs White) (held s)) (held s))) (drop (prefix_len (belongs White) (held s)) (held s) ≡ []) in
    subst P (sym rest) (subst Q test (behind_white (held s)))
