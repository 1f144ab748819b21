-- A call for a token is a step over it.
use Rattle.std.proofs.Common.{◌≡◌, ◌≢◌, ℕ, ◌+◌, ◌≤◌, Bool, true, false, ◌&&◌, nat_le, nat_lt, List, [], length, drop, refl, sym, ap, ◌∙◌, subst, arith, Option, None, Some, Result, Ok, Err, IfOk, IfErr, ℤ, length-drop, if◌then◌else◌}
use Rattle.ply_text.specs.Pieces.{Piece}
use Rattle.ply_text.specs.NextPieces.{next_token_of, token_size}
use Rattle.ply_text.specs.Reading.{Reading}
use Rattle.ply_text.specs.Calls.{TokenCall, answered, token_piece, fault_end}
use Rattle.ply_text.specs.declared.fault.TextFault.{TextFault}
use Rattle.ply_text.specs.declared.fault.TextFault.TheVariants as texts
use Rattle.ply_text.specs.declared.tokens.Token.{Token}
use Rattle.ply_text.specs.declared.numbers.NumberFault.{NumberFault}
use Rattle.ply_text.proofs.Callers.{stands_after}
use Rattle.ply_reader.specs.declared.fault.PlyFault.{PlyFault}
use Rattle.ply_reader.specs.declared.fault.PlyFault.TheVariants.{Refused, ReadFault}
use Rattle.ply_reader.specs.declared.fault.PlyKind.{PlyKind}
use Rattle.ply_reader.specs.declared.fault.PlyKind.TheVariants.{Truncated}
use Rattle.ply_reader.specs.Cursors.{Cursor, at, taken, token_read, with_cursor, ply_fault}
use Rattle.ply_reader.specs.TokenValues.{within_bounds, placed, number_kind}
use Rattle.ply_reader.specs.Runs.{Gives, Runs, refused_place}

-- what a call gave
pub token_given : (a b : Reading) (result : Result (Option Token) TextFault) (found : Option Token) (token : Token) → result ≡ Ok found → found ≡ Some token
    → TokenCall a b (answered token_piece result) → TokenCall a b (Ok (Some (token_piece token)))
token_given a b result found token was is call = subst (λ r. TokenCall a b (answered token_piece r)) (was ∙ ap Ok is) call

pub none_given : (a b : Reading) (result : Result (Option Token) TextFault) (found : Option Token) → result ≡ Ok found → found ≡ None
    → TokenCall a b (answered token_piece result) → TokenCall a b (Ok None)
none_given a b result found was is call = subst (λ r. TokenCall a b (answered token_piece r)) (was ∙ ap Ok is) call

pub fault_given : (a b : Reading) (result : Result (Option Token) TextFault) (fault : TextFault) → result ≡ Err fault
    → TokenCall a b (answered token_piece result) → TokenCall a b (Err fault)
fault_given a b result fault was call = subst (λ r. TokenCall a b (answered token_piece r)) was call

-- a refusal at this place
abbrev pub IsPlaced : {A : Type 0} → ℕ → Result A PlyFault → Type 0
IsPlaced place result = IfErr result (λ fault. (kind : PlyKind) × (fault ≡ Refused kind place))

pub whole_placed : (kind : PlyKind) (least bound place : ℕ) (found : Option ℕ) → IsPlaced place (within_bounds kind least bound place found)
whole_placed kind least bound place None = (kind, refl)
whole_placed kind least bound place (Some n) = of (nat_le least n && nat_lt n bound)
  where
    of : (b : Bool) → IsPlaced place (if b then Ok n else Err (Refused kind place))
    of true = tt
    of false = (kind, refl)

pub coordinate_placed : (place : ℕ) (number : Result ℤ NumberFault) → IsPlaced place (placed place number)
coordinate_placed place (Ok n) = tt
coordinate_placed place (Err fault) = (number_kind fault, refl)

placed_is_no_fault : {A : Type 0} (place : ℕ) (result : Result A PlyFault) → IsPlaced place result → result ≢ Err ReadFault
placed_is_no_fault place (Ok x) is e = cc e
placed_is_no_fault place (Err fault) is e = let same : fault ≡ ReadFault = cc e in cc (is.1, same)

placed_is_reached : {A : Type 0} (place end : ℕ) (result : Result A PlyFault) → IsPlaced place result → place ≤ end → IfErr result (λ fault. refused_place fault ≤ end)
placed_is_reached place end (Ok x) is le = tt
placed_is_reached place end (Err fault) is le = subst (λ f. refused_place f ≤ end) (sym is.1) le

gives_read : {A : Type 0} (c : Cursor) (new : Reading) (result : Result A PlyFault) → new.left ≡ Some c.text → new.place ≡ c.place → Gives (with_cursor c result) new result
gives_read c new (Ok x) left place = (c.text, left, ap (λ p. Ok (x, at p c.text)) (sym place))
gives_read c new (Err fault) left place = refl

-- where all bytes of a token's size were passed, its size is the text's
all_passed : (text : List ℕ) → token_size text ≤ length text → drop (token_size text) text ≡ [] → length text ≡ token_size text
all_passed text le nothing = omega (arith, le, ap length nothing, length-drop (token_size text) text)

-- a read fault of the text is one of the mesh, and its place is that of the refusal
pub read_fault : (why : TextFault) → ply_fault why ≡ ReadFault → why ≡ texts.ReadFault
read_fault (texts.LineTooLong place) e = absurd (cc e)
read_fault (texts.TokenTooLong place) e = absurd (cc e)
read_fault texts.TooLong e = absurd (cc e)
read_fault texts.ReadFault e = refl

pub place_reached : (why : TextFault) {end : ℕ} → fault_end why ≤ end → refused_place (ply_fault why) ≤ end
place_reached (texts.LineTooLong place) le = omega (arith, le)
place_reached (texts.TokenTooLong place) le = omega (arith, le)
place_reached texts.TooLong le = omega (arith, le)
place_reached texts.ReadFault le = omega arith

-- a token was there
pub taken_token : {A : Type 0} (read : Piece → Result A PlyFault) (a b : Reading) (token : Piece) (result : Result A PlyFault)
    → a.stopped ≡ None → TokenCall a b (Ok (Some token)) → result ≡ read token → IsPlaced token.place result → Runs (taken read) a b result
unfolding taken
taken_token {A} read a b token result free call is at_token = record {
  later = call.call.later;
  failed = λ bad. absurd (placed_is_no_fault token.place result at_token bad);
  free = stays_free result;
  reached = placed_is_reached token.place (b.place + b.ahead) result at_token (omega (arith, call.bounds.1));
  stands = λ text stands. stands_after next_token_of token_size a b (Ok (Some token)) text call.call stands;
  told = λ text told _.
      let next : Ok (Some token) ≡ next_token_of a.place text = call.call.answer text told free (λ e. cc e) in
      let passed = call.call.passed text told in
      let behind : Cursor = at (a.place + token_size text) (drop (token_size text) text) in
      let step : token_read read (at a.place text) (next_token_of a.place text) ≡ with_cursor behind result =
      ap (token_read read (at a.place text)) (sym next) ∙ ap (with_cursor behind) (sym is) in
      subst (λ s. Gives s b result) (sym step) (gives_read behind b result passed.0 passed.1);
}
  where
    stays_free : (r : Result A PlyFault) → IfOk r (λ _. b.stopped ≡ None)
    stays_free (Ok x) = call.call.stops
    stays_free (Err fault) = tt

-- no token is left
pub taken_end : {A : Type 0} (read : Piece → Result A PlyFault) (a b : Reading) (place : ℕ) (fault : PlyFault)
    → a.stopped ≡ None → TokenCall a b (Ok None) → place ≡ b.place → fault ≡ Refused Truncated place → Runs (taken read) a b (Err fault)
unfolding taken
taken_end {A} read a b place fault free call here is = record {
  later = call.call.later;
  failed = λ bad. let same : fault ≡ ReadFault = cc bad in absurd (cc (is, same));
  free = tt;
  reached = subst (λ f. refused_place f ≤ b.place + b.ahead) (sym is) (omega (arith, here));
  stands = λ text stands. stands_after next_token_of token_size a b (Ok None) text call.call stands;
  told = λ text told _.
      let next : Ok None ≡ next_token_of a.place text = call.call.answer text told free (λ e. cc e) in
      let passed = call.call.passed text told in
      let empty : Some (drop (token_size text) text) ≡ Some [] = sym passed.0 ∙ (call.whole text told).1 in
      let nothing : drop (token_size text) text ≡ [] = cc empty in
      let size : length text ≡ token_size text = all_passed text (omega (arith, (call.call.front text told).1, passed.1)) nothing in
      let ends : a.place + length text ≡ place = omega (arith, size, passed.1, here) in
      ap (token_read read (at a.place text)) (sym next) ∙ ap (λ p. Err (Refused Truncated p)) ends ∙ ap Err (sym is);
}

-- a fault
pub taken_fault : {A : Type 0} (read : Piece → Result A PlyFault) (a b : Reading) (why : TextFault) (fault : PlyFault)
    → a.stopped ≡ None → TokenCall a b (Err why) → fault ≡ ply_fault why → Runs (taken read) a b (Err fault)
unfolding taken
taken_fault {A} read a b why fault free call is = record {
  later = call.call.later;
  failed = λ bad. let same : ply_fault why ≡ ReadFault = cc (bad, is) in call.call.failed free (ap Err (read_fault why same));
  free = tt;
  reached = subst (λ f. refused_place f ≤ b.place + b.ahead) (sym is) (place_reached why (call.call.reached free));
  stands = λ text stands. stands_after next_token_of token_size a b (Err why) text call.call stands;
  told = λ text told ok.
      let next : Err why ≡ next_token_of a.place text = call.call.answer text told free (λ e. let same : why ≡ texts.ReadFault = cc e in ok (ap Err (is ∙ ap ply_fault same))) in
      ap (token_read read (at a.place text)) (sym next) ∙ ap Err (sym is);
}
