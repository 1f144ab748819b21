-- From what a call found to what it answers, and to the lines and tokens of the whole text.
use Rattle.std.proofs.Common.{◌≡◌, ◌≢◌, ℕ, ◌+◌, ◌-◌, ◌<◌, ◌≤◌, ◌==◌, List, [], ◌∷◌, length, take, drop, Option, None, Some, Result, Ok, Err, IfOk, IfErr, IfNone, MatchOption, MatchBool, Bool, true, false, nat_lt, if◌then◌else◌, refl, sym, ap, ◌∙◌, arith, subst}
use Rattle.std.specs.Bool.{⊤}
use Rattle.std.specs.List.{prefix_len}
use Rattle.std.specs.Result.{result_err}
use Rattle.std.proofs.lemmas.List.{drop_all, drop-drop, take_all}
use Rattle.std.proofs.lemmas.List.Sums.{prefix_len-le-length}
use Rattle.std.proofs.lemmas.Bool.Decides.{nat_tests}
use Rattle.dev_traits.specs.declared.device.ByteSource.{Ghosts}
use Rattle.ply_text.specs.declared.fault.TextFault.{TextFault}
use Rattle.ply_text.specs.declared.fault.TextFault.TheVariants.{ReadFault, LineTooLong, TokenTooLong}
use Rattle.ply_text.specs.declared.run.Run.{Run}
use Rattle.ply_text.specs.declared.run.Run.TheVariants.{Line, Token, White}
use Rattle.ply_text.specs.declared.tokens.Tokens.{Tokens}
use Rattle.ply_text.specs.Pieces.{Piece, belongs}
use Rattle.ply_text.specs.HeaderLines.{header_lines}
use Rattle.ply_text.specs.BodyTokens.{body_tokens}
use Rattle.ply_text.specs.NextPieces.{run_size, short_run_size, sized, room_at, next_line_of, next_place_of, next_token_of, front_token_of, line_size, line_of, without_return, white_size, token_size}
use Rattle.ply_text.specs.Reading.{held, left_of, reading}
use Rattle.ply_text.specs.Holding.{Finds, HoldsSought, IsCaused}
use Rattle.ply_text.specs.Calls.{answered, Call, IsSought}
use Rattle.ply_text.proofs.Blocks.{length-held, told_parts}
use Rattle.ply_text.proofs.Runs.{behind_white, run-append-le}
use Rattle.ply_text.proofs.RunSizes.{short_run_size-ok}
use Rattle.ply_text.proofs.Lines.{header_lines-feed, header_lines-last}
use Rattle.ply_text.proofs.BodyWords.{body_tokens-white, body_tokens-front}

-- a value was made of a size
sized-ok : {A : Type 0} (r : Result ℕ TextFault) (next : ℕ → Result A TextFault) (x : A) → Ok x ≡ sized r next → (n : ℕ) × (r ≡ Ok n) × (Ok x ≡ next n)
sized-ok (Ok n) next x h = (n, refl, h)
sized-ok (Err e) next x h = absurd (cc)

run_size-ok : (run : Run) (room : ℕ) (text : List ℕ) (n : ℕ) → run_size run room text ≡ Ok n → n ≡ prefix_len (belongs run) text
unfolding run_size
run_size-ok run room text n h = grind (arith, nat_tests)

-- the line that is given is the first
abbrev IsFirstLine : ℕ → List ℕ → Option Piece → Type 0
IsFirstLine place text found = MatchOption found (text ≡ []) (λ line. header_lines place text ≡ line ∷ header_lines (place + line_size text) (drop (line_size text) text))

first_line : (place n x : ℕ) (xs : List ℕ) → n ≡ prefix_len (belongs Line) (x ∷ xs) → (ended : Bool) → nat_lt n (length (x ∷ xs)) ≡ ended
    → header_lines place (x ∷ xs) ≡ record { place = place; bytes = if ended then without_return (take n (x ∷ xs)) else take n (x ∷ xs) } ∷ header_lines (place + line_size (x ∷ xs)) (drop (line_size (x ∷ xs)) (x ∷ xs))
first_line place n x xs is true test =
    let text = x ∷ xs in
    let p = prefix_len (belongs Line) text in
    let within : n < length text = grind (arith, nat_tests, test) in
    let size : p + 1 ≡ line_size text = omega (arith, is, within) in
    header_lines-feed place text (omega (arith, is, within))
    ∙ ap (λ m. record { place = place; bytes = without_return (take m text) } ∷ header_lines (place + (p + 1)) (drop (p + 1) text)) (sym is)
    ∙ ap (λ m. record { place = place; bytes = without_return (take n text) } ∷ header_lines (place + m) (drop m text)) size
first_line place n x xs is false test =
    let text = x ∷ xs in
    let all : length text ≤ n = grind (arith, nat_tests, test) in
    let short : prefix_len (belongs Line) text ≤ length text = prefix_len-le-length (belongs Line) text in
    let whole : prefix_len (belongs Line) text ≡ length text = omega (arith, is, all, short) in
    let size : length text ≤ line_size text = omega (arith, whole) in
    header_lines-last place x xs whole
    ∙ ap (λ bytes. record { place = place; bytes = bytes } ∷ []) (sym (take_all n text all))
    ∙ ap (λ rest. record { place = place; bytes = take n text } ∷ header_lines (place + line_size text) rest) (sym (drop_all (line_size text) text size))

line_found : (place : ℕ) (text : List ℕ) (found : Option Piece) → Ok found ≡ next_line_of place text → IsFirstLine place text found
unfolding next_line_of
line_found place [] found h =
    let size = sized-ok (short_run_size Line 1024 (LineTooLong place) (room_at place) []) _ found h in
    let none : None ≡ found = cc in
    subst (IsFirstLine place []) none refl
line_found place (x ∷ xs) found h =
    let size = sized-ok (short_run_size Line 1024 (LineTooLong place) (room_at place) (x ∷ xs)) _ found h in
    let n = size.0 in
    let is = short_run_size-ok Line 1024 (LineTooLong place) (room_at place) (x ∷ xs) n size.1 in
    let some : (length (x ∷ xs) == 0) ≡ false = grind (arith, nat_tests) in
    let made : Ok (Some (record { place = place; bytes = line_of (x ∷ xs) n })) ≡ Ok found =
    sym (size.2 ∙ ap (λ b. Ok (if b then None else Some (record { place = place; bytes = line_of (x ∷ xs) n }))) some) in
    let is_found : Some (record { place = place; bytes = line_of (x ∷ xs) n }) ≡ found = cc in
    subst (IsFirstLine place (x ∷ xs)) is_found (first_line place n x xs is (nat_lt n (length (x ∷ xs))) refl)

pub line_whole : (place place' : ℕ) (text : List ℕ) (left : Option (List ℕ)) (result : Result (Option Piece) TextFault) → (result ≢ Err ReadFault → result ≡ next_line_of place text)
    → IfOk result (λ _. (left ≡ Some (drop (line_size text) text)) × (place' ≡ place + line_size text))
    → IfOk result (λ found. MatchOption found (text ≡ []) (λ line. header_lines place text ≡ line ∷ header_lines place' (drop (line_size text) text)))
line_whole place place' text left (Err fault) answer passed = tt
line_whole place place' text left (Ok found) answer passed =
    subst (λ p. MatchOption found (text ≡ []) (λ line. header_lines place text ≡ line ∷ header_lines p (drop (line_size text) text))) (sym passed.1) (line_found place text found (answer (λ e. cc)))

-- the token that is given is the first
abbrev IsFirstToken : ℕ → List ℕ → Option Piece → Type 0
IsFirstToken place text found = MatchOption found ((body_tokens place text ≡ []) × (drop (token_size text) text ≡ [])) (λ token. body_tokens place text ≡ token ∷ body_tokens (place + token_size text) (drop (token_size text) text))

no_token : (more : Bool) (n : ℕ) (behind : List ℕ) → n ≡ 0 → n ≡ prefix_len (belongs Token) behind → MatchBool more (0 < prefix_len (belongs Token) behind) (behind ≡ []) → behind ≡ []
no_token true n behind none is h = absurd (omega (arith, none, is, h))
no_token false n behind none is h = h

first_token : (place : ℕ) (text : List ℕ) (none : Bool) → let behind = drop (white_size text) text in
    let n = prefix_len (belongs Token) behind in
    (n == 0) ≡ none → IsFirstToken place text (if none then None else Some (record { place = place + white_size text; bytes = take n behind }))
first_token place text true test =
    let w = white_size text in
    let n = prefix_len (belongs Token) (drop w text) in
    let zero_size : n ≡ 0 = grind (arith, nat_tests, test) in
    let none = no_token (nat_lt w (length text)) n (drop w text) zero_size refl (behind_white text) in
    let size : w ≡ token_size text = omega (arith, zero_size) in
    (body_tokens-white w place text (omega arith) ∙ ap (body_tokens (place + w)) none, ap (λ m. drop m text) (sym size) ∙ none)
first_token place text false test =
    let w = white_size text in
    let behind = drop w text in
    let n = prefix_len (belongs Token) behind in
    let some : 0 < n = grind (arith, nat_tests, test) in
    let place_behind : place + w + n ≡ place + token_size text = omega arith in
    body_tokens-white w place text (omega arith) ∙ body_tokens-front (place + w) behind some
    ∙ ap (λ p. record { place = place + w; bytes = take n behind } ∷ body_tokens p (drop n behind)) place_behind
    ∙ ap (λ rest. record { place = place + w; bytes = take n behind } ∷ body_tokens (place + token_size text) rest) (drop-drop n w text)

token_found : (place : ℕ) (text : List ℕ) (found : Option Piece) → Ok found ≡ next_token_of place text → IsFirstToken place text found
unfolding next_token_of front_token_of
token_found place text found h =
    let white = sized-ok (run_size White (room_at place) text) _ found h in
    let w = white.0 in
    let is_white : w ≡ white_size text = run_size-ok White (room_at place) text w white.1 in
    let token = sized-ok (short_run_size Token 255 (TokenTooLong (place + w)) (room_at (place + w)) (drop w text)) _ found white.2 in
    let n = token.0 in
    let is_token = short_run_size-ok Token 255 (TokenTooLong (place + w)) (room_at (place + w)) (drop w text) n token.1 in
    let m = prefix_len (belongs Token) (drop (white_size text) text) in
    let made : Ok found ≡ Ok (if m == 0 then None else Some (record { place = place + white_size text; bytes = take m (drop (white_size text) text) })) =
    token.2 ∙ ap (λ k. Ok (if k == 0 then None else Some (record { place = place + w; bytes = take k (drop w text) }))) is_token
    ∙ ap (λ v. Ok (if prefix_len (belongs Token) (drop v text) == 0 then None else Some (record { place = place + v; bytes = take (prefix_len (belongs Token) (drop v text)) (drop v text) }))) is_white in
    let is_found : (if m == 0 then None else Some (record { place = place + white_size text; bytes = take m (drop (white_size text) text) })) ≡ found = cc in
    subst (IsFirstToken place text) is_found (first_token place text (m == 0) refl)

pub token_whole : (place place' : ℕ) (text : List ℕ) (left : Option (List ℕ)) (result : Result (Option Piece) TextFault) → (result ≢ Err ReadFault → result ≡ next_token_of place text)
    → IfOk result (λ _. (left ≡ Some (drop (token_size text) text)) × (place' ≡ place + token_size text))
    → IfOk result (λ found. MatchOption found ((body_tokens place text ≡ []) × (left ≡ Some [])) (λ token. body_tokens place text ≡ token ∷ body_tokens place' (drop (token_size text) text)))
token_whole place place' text left (Err fault) answer passed = tt
token_whole place place' text left (Ok None) answer passed = let h = token_found place text None (answer (λ e. cc)) in (h.0, passed.0 ∙ ap Some h.1)
token_whole place place' text left (Ok (Some token)) answer passed =
    token_found place text (Some token) (answer (λ e. cc)) ∙ ap (λ p. token ∷ body_tokens p (drop (token_size text) text)) (sym passed.1)

-- no place was found
abbrev no_place_found : Result (Option ℕ) TextFault
no_place_found = Ok None

no_place : (all : Bool) (n long place : ℕ) → (n == long) ≡ all → no_place_found ≡ Ok (if all then None else Some place) → n ≡ long
no_place true n long place test h = grind (arith, nat_tests, test)
no_place false n long place test h = absurd (cc)

place_found : (place : ℕ) (text : List ℕ) → no_place_found ≡ next_place_of place text → drop (white_size text) text ≡ []
unfolding next_place_of
place_found place text h =
    let white = sized-ok (run_size White (room_at place) text) _ None h in
    let is = run_size-ok White (room_at place) text white.0 white.1 in
    let all : white.0 ≡ length text = no_place (white.0 == length text) white.0 (length text) (place + white.0) refl white.2 in
    drop_all (white_size text) text (omega (arith, is, all))

pub place_whole : (place place' : ℕ) (text : List ℕ) (left : Option (List ℕ)) (result : Result (Option ℕ) TextFault) → (result ≢ Err ReadFault → result ≡ next_place_of place text)
    → IfOk result (λ _. (left ≡ Some (drop (white_size text) text)) × (place' ≡ place + white_size text))
    → IfOk result (λ found. (body_tokens place text ≡ body_tokens place' (drop (white_size text) text)) × MatchOption found (left ≡ Some []) (λ _. ⊤))
place_whole place place' text left (Err fault) answer passed = tt
place_whole place place' text left (Ok None) answer passed =
    (body_tokens-white (white_size text) place text (omega arith) ∙ ap (λ p. body_tokens p (drop (white_size text) text)) (sym passed.1), passed.0 ∙ ap Some (place_found place text (answer (λ e. cc))))
place_whole place place' text left (Ok (Some p)) answer passed =
    (body_tokens-white (white_size text) place text (omega arith) ∙ ap (λ p. body_tokens p (drop (white_size text) text)) (sym passed.1), tt)

answered-err : {A B : Type 0} (f : A → B) (raw : Result (Option A) TextFault) → result_err raw ≡ result_err (answered f raw)
answered-err f (Ok x) = refl
answered-err f (Err e) = refl

-- what holds where nothing is given holds of the answer too
answered-ended : {A B : Type 0} (f : A → B) (P : Type 0) (raw : Result (Option A) TextFault) → IfOk raw (λ found. IfNone found P) → IfOk (answered f raw) (λ found. IfNone found P)
answered-ended f P (Ok None) h = h
answered-ended f P (Ok (Some x)) h = tt
answered-ended f P (Err e) h = tt

-- the faults stay as they are
pub answered-refused : {A B : Type 0} (f : A → B) (P : TextFault → Type 0) (raw : Result (Option A) TextFault) → IfErr raw P → IfErr (answered f raw) P
answered-refused f P (Ok x) h = tt
answered-refused f P (Err e) h = h

answered-fault : {A B : Type 0} (f : A → B) (raw : Result (Option A) TextFault) → answered f raw ≡ Err ReadFault → raw ≡ Err ReadFault
answered-fault f (Ok x) h = absurd (cc)
answered-fault f (Err e) h = let same : e ≡ ReadFault = cc in ap Err same

module _ {I : Type 0} {g : Ghosts I} where
  -- a call of a reader that was not stopped
  pub Call-from_finds : {A : Type 0} (next : ℕ → List ℕ → Result (Option A) TextFault) (size : List ℕ → ℕ) (a b : Tokens I g) (stopped : Option TextFault) (result : Result (Option A) TextFault)
      → ((fault : TextFault) → a.stopped ≡ Some fault → ⊥) → stopped ≡ result_err result → Finds next size a b result → IsCaused a b result → IfOk result (λ found. IfNone found (b.to - b.from ≡ 0))
      → Call next size (reading a) (record { left = left_of b; place = b.place; ahead = b.to - b.from; stopped = stopped; faults = g.faults b.input.now }) result
  Call-from_finds next size a b stopped result free stops finds cause ended = record {
    ended = ended;
    stays = λ fault was. absurd (free fault was);
    stops = stops;
    later = cause.later;
    failed = λ _ is. cause.failed is;
    onward = (finds.advances.later, finds.advances.read);
    reached = λ _. finds.reached;
    front = finds.advances.told;
    answer = λ text told _ ok. finds.answer text told ok;
    passed = finds.passed;
  }

  -- the same for an answer that was made of what was found
  pub Call-from_made : {A B : Type 0} (f : A → B) (next : ℕ → List ℕ → Result (Option B) TextFault) (size : List ℕ → ℕ) (a b : Tokens I g) (stopped : Option TextFault) (raw : Result (Option A) TextFault)
      → ((fault : TextFault) → a.stopped ≡ Some fault → ⊥) → stopped ≡ result_err raw → Finds next size a b (answered f raw) → IsCaused a b raw → IfOk raw (λ found. IfNone found (b.to - b.from ≡ 0))
      → Call next size (reading a) (record { left = left_of b; place = b.place; ahead = b.to - b.from; stopped = stopped; faults = g.faults b.input.now }) (answered f raw)
  Call-from_made f next size a b stopped raw free stops finds cause ended =
      Call-from_finds next size a b stopped (answered f raw) free (stops ∙ answered-err f raw) finds (record { later = cause.later; failed = λ is. cause.failed (answered-fault f raw is) })
      (answered-ended f (b.to - b.from ≡ 0) raw ended)

-- what was made of a fault is that fault
answered_err : {A B : Type 0} (piece : A → B) (raw : Result (Option A) TextFault) (fault : TextFault) → answered piece raw ≡ Err fault → raw ≡ Err fault
answered_err piece (Ok found) fault is = absurd (cc)
answered_err piece (Err why) fault is = let same : why ≡ fault = cc in ap Err same

module _ {I : Type 0} {g : Ghosts I} where
  -- what is held of a run is what is read of it
  pub sought_by : {A B : Type 0} (piece : A → B) (run : Run) (limit : ℕ) (t : Tokens I g) (raw : Result (Option A) TextFault)
      → (raw ≡ Err ReadFault → HoldsSought run limit t) → answered piece raw ≡ Err ReadFault → IsSought run limit (t.to - t.from) (left_of t)
  sought_by piece run limit t raw sought is =
      let holds = sought (answered_err piece raw ReadFault is) in
      let long = length-held t.block.now t.from t.to t.ordered t.inside in
      record {
        few = omega (arith, long, holds.few);
        inside = λ text told.
            let parts = told_parts (held t) (g.rest t.input.now) text told in
            subst (λ bytes. t.to - t.from ≤ prefix_len (belongs run) bytes) (sym parts.2)
            (omega (arith, long, holds.inside, run-append-le (belongs run) (held t) parts.0));
      }

  pub none_held : (t : Tokens I g) → held t ≡ [] → t.to - t.from ≡ 0
  none_held t none = sym (length-held t.block.now t.from t.to t.ordered t.inside) ∙ ap length none
