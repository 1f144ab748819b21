-- What a caller knows once it has looked at an answer.
use Rattle.std.proofs.Common.{◌≡◌, ℕ, ◌+◌, ◌-◌, List, [], ◌∷◌, length, drop, Option, None, Some, Result, Ok, Err, IfErr, ◌≤◌, refl, sym, ap, ◌∙◌, arith, subst, length-drop}
use Rattle.std.proofs.Math.Seq.{drop-append_seam}
use Rattle.std.proofs.lemmas.List.{drop-drop}
use Rattle.dev_traits.specs.declared.device.ByteSource.{Ghosts}
use Rattle.ply_text.specs.declared.tokens.Tokens.{Tokens}
use Rattle.ply_text.specs.declared.fault.TextFault.{TextFault}
use Rattle.ply_text.specs.declared.fault.TextFault.TheVariants.{LineTooLong, TokenTooLong, TooLong, ReadFault}
use Rattle.ply_text.specs.declared.tokens.Token.{Token}
use Rattle.ply_text.specs.declared.tokens.Line.{Line}
use Rattle.ply_text.specs.Pieces.{Piece}
use Rattle.ply_text.specs.BodyTokens.{body_tokens}
use Rattle.ply_text.specs.NextPieces.{token_size}
use Rattle.ply_text.specs.Reading.{Reading, StandsIn, held, reading}
use Rattle.ply_text.proofs.Blocks.{told_parts, length-held}
use Rattle.ply_text.specs.Calls.{Call, fault_place, fault_end, LineCall, TokenCall, answered, line_piece, token_piece}

-- an option that is no Some
pub None-from_default : {A : Type 0} (o : Option A) → ((x : A) → o ≡ Some x → ⊥) → o ≡ None
None-from_default None other = refl
None-from_default (Some x) other = absurd (other x refl)

-- a call gave this
pub TokenCall-given : (a b : Reading) (result : Result (Option Token) TextFault) (found : Option Token) → (o : Option Token) → result ≡ Ok found → found ≡ o
    → TokenCall a b (answered token_piece result) → TokenCall a b (answered token_piece (Ok o))
TokenCall-given a b result found o was is call = subst (λ r. TokenCall a b (answered token_piece r)) (was ∙ ap Ok is) call

pub LineCall-given : (a b : Reading) (result : Result (Option Line) TextFault) (found : Option Line) → (o : Option Line) → result ≡ Ok found → found ≡ o
    → LineCall a b (answered line_piece result) → LineCall a b (answered line_piece (Ok o))
LineCall-given a b result found o was is call = subst (λ r. LineCall a b (answered line_piece r)) (was ∙ ap Ok is) call

-- no token is left
pub no_token : (a b : Reading) (text : List ℕ) → a.left ≡ Some text → TokenCall a b (Ok None) → body_tokens a.place text ≡ []
no_token a b text told call = (call.whole text told).0

-- a token was the last
pub last_token : (a b c : Reading) (first : Piece) (text : List ℕ) → a.left ≡ Some text → TokenCall a b (Ok (Some first)) → TokenCall b c (Ok None) → body_tokens a.place text ≡ first ∷ []
last_token a b c first text told one none = one.whole text told ∙ ap (λ rest. first ∷ rest) (no_token b c (drop (token_size text) text) (one.call.passed text told).0 none)

-- two tokens one after the other are the first two
pub two_tokens : (a b c : Reading) (first second : Piece) (text : List ℕ) → a.left ≡ Some text → TokenCall a b (Ok (Some first)) → TokenCall b c (Ok (Some second))
    → (rest : List Piece) × (body_tokens a.place text ≡ first ∷ second ∷ rest)
two_tokens a b c first second text told one two =
    let behind = drop (token_size text) text in
    (body_tokens c.place (drop (token_size behind) behind), one.whole text told ∙ ap (λ rest. first ∷ rest) (two.whole behind (one.call.passed text told).0))

-- a reader goes on in the same text
pub stands_after : {A : Type 0} (next : ℕ → List ℕ → Result (Option A) TextFault) (size : List ℕ → ℕ) (a b : Reading) (result : Result (Option A) TextFault) (text : List ℕ)
    → Call next size a b result → StandsIn text a → StandsIn text b
stands_after next size a b result text call at =
    let front = call.front (drop a.place text) at.left in
    let sum : a.place + (b.place - a.place) ≡ b.place = omega (arith, call.onward.0) in
    record {
      left = front.0 ∙ ap Some (drop-drop (b.place - a.place) a.place text ∙ ap (λ n. drop n text) sum);
      within = omega (arith, at.within, sum, front.1, length-drop a.place text);
    }

module _ {I : Type 0} {g : Ghosts I} where
  -- what the source has still to give stands behind the bytes that were read
  pub source_behind : (t : Tokens I g) (text : List ℕ) → StandsIn text (reading t) → g.rest t.input.now ≡ Some (drop (t.place + (t.to - t.from)) text)
  source_behind t text at =
      let parts = told_parts (held t) (g.rest t.input.now) (drop t.place text) at.left in
      let ahead : length (held t) ≡ t.to - t.from = length-held t.block.now t.from t.to t.ordered t.inside in
      parts.1 ∙ ap Some (sym (drop-append_seam (held t) parts.0) ∙ ap (drop (length (held t))) (sym parts.2) ∙ drop-drop (length (held t)) t.place text ∙ ap (λ n. drop (t.place + n) text) ahead)

  -- at a fault the source has still to give what stands behind some place, and that is not before the fault's
  pub read_at_fault : {A : Type 0} (t : Tokens I g) (text : List ℕ) (source : Option (List ℕ)) (result : Result A TextFault) (fault : TextFault) → result ≡ Err fault
      → StandsIn text (reading t) → fault_place fault ≤ t.place + (t.to - t.from) → source ≡ g.rest t.input.now
      → IfErr result (λ why. (count : ℕ) × (fault_place why ≤ count) × (source ≡ Some (drop count text)))
  read_at_fault {A} t text source result fault is at reached same =
      let P : Result A TextFault → Type 0 = λ r. IfErr r (λ why. (count : ℕ) × (fault_place why ≤ count) × (source ≡ Some (drop count text))) in
      subst P (sym is) (t.place + (t.to - t.from), reached, same ∙ source_behind t text at)

  -- a reader at the start of a text
  pub starts : (t : Tokens I g) (text : List ℕ) {left : Option (List ℕ)} {faults : ℕ}
      → reading t ≡ record { left = left; place = 0; ahead = 0; stopped = None; faults = faults } → left ≡ Some text → StandsIn text (reading t)
  starts t text start told =
      let place : t.place ≡ 0 = ap (λ r. r.place) start in
      record { left = ap (λ r. r.left) start ∙ told ∙ ap (λ n. Some (drop n text)) (sym place); within = omega (arith, place) }

-- at a fault all bytes that show it were read
pub seen_by : {A B : Type 0} (next : ℕ → List ℕ → Result (Option B) TextFault) (size : List ℕ → ℕ) (piece : A → B) (a b : Reading) (result : Result (Option A) TextFault) (fault : TextFault)
    → result ≡ Err fault → a.stopped ≡ None → Call next size a b (answered piece result) → fault_end fault ≤ b.place + b.ahead
seen_by {A} {B} next size piece a b result fault is free call =
    let P : Result (Option A) TextFault → Type 0 = λ r. IfErr (answered piece r) (λ why. fault_end why ≤ b.place + b.ahead) in subst P is (call.reached free)

-- among them all bytes before its place
place_before_end : (fault : TextFault) → fault_place fault ≤ fault_end fault
place_before_end (LineTooLong place) = omega arith
place_before_end (TokenTooLong place) = omega arith
place_before_end TooLong = omega arith
place_before_end ReadFault = omega arith

pub reached_by : {A B : Type 0} (next : ℕ → List ℕ → Result (Option B) TextFault) (size : List ℕ → ℕ) (piece : A → B) (a b : Reading) (result : Result (Option A) TextFault) (fault : TextFault)
    → result ≡ Err fault → a.stopped ≡ None → Call next size a b (answered piece result) → fault_place fault ≤ b.place + b.ahead
reached_by next size piece a b result fault is free call = omega (arith, place_before_end fault, seen_by next size piece a b result fault is free call)
