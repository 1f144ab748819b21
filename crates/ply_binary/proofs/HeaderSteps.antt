-- The lines of a header, one after the other.
use Rattle.std.proofs.Common.{◌≡◌, ℕ, zero, suc, ◌+◌, ◌<◌, ◌≤◌, ◌⊎◌, inl, inr, min, nat_lt, nat_le, ◌==◌, ◌&&◌, Bool, true, false, if◌then◌else◌, List, [], ◌∷◌, ◌++◌, length, take, drop, Option, None, Some, Result, Ok, Err, OnOk, refl, sym, ap, ◌∙◌, subst, arith, append-nil, ◌^◌, length-append, length-drop}
use Rattle.std.specs.Bool.{⊤}
use Rattle.std.specs.List.{prefix_len}
use Rattle.std.proofs.lemmas.List.Sums.{prefix_len-le-length}
use Rattle.std.proofs.lemmas.Bool.Decides.{nat_tests}
use Rattle.std.proofs.lemmas.List.{drop-append-le, take-append-le, take-take}
use Rattle.ply_text.specs.declared.fault.TextFault.{TextFault}
use Rattle.ply_text.specs.declared.fault.TextFault.TheVariants.{LineTooLong, TooLong}
use Rattle.ply_text.specs.declared.run.Run.TheVariants.{Line}
use Rattle.ply_text.specs.Pieces.{Piece, belongs}
use Rattle.ply_text.specs.NextPieces.{next_line_of, short_run_size, line_size, line_of, without_return, room_at, sized}
use Rattle.ply_text.specs.Holding.{checked_size}
use Rattle.ply_text.proofs.RunSizes.{short_run_size-held, short_run_size-none}
use Rattle.ply_text.proofs.Runs.{run-append}
use Rattle.ply_reader.specs.declared.fault.PlyKind.{PlyKind}
use Rattle.ply_reader.specs.Declarations.{Declared}
use Rattle.ply_reader.specs.HeaderRules.{TakesLine, answer_of, first_broken, rules_of, is_end, after}
use Rattle.ply_reader.specs.LineWords.{line_words}
use Rattle.ply_binary.specs.Bodies.{body_text}
use Rattle.ply_binary.specs.HeaderTexts.{Shown, shown_line, shown_then, behind_line, taken_line, line_then, lines_then, header_left}
use Rattle.ply_binary.specs.declared.body.Body.{Body}
use Rattle.ply_binary.specs.declared.lines.ShownLine.{ShownLine}
use Rattle.ply_binary.specs.BodyStates.{body_left}
use Rattle.ply_binary.specs.LineStates.{is_line, IsShown, shown_of, stage_behind}
use Rattle.ply_binary.specs.SourceStates.{IsSeen, left_by}

-- what follows a line counts only for the bytes that follow it
abbrev Next : Type 0
Next = Bool → Declared → List ℕ → List ℕ

behind_same : (next other : Declared → List ℕ → List ℕ) (d : Declared) (words : List (List ℕ)) (broken : Option PlyKind) (behind : List ℕ)
    → ((d : Declared) → next d behind ≡ other d behind) → behind_line next d words broken behind ≡ behind_line other d words broken behind
behind_same next other d words (Some kind) behind same = refl
behind_same next other d words None behind same =
    ap (λ l. if is_end d words then body_text (after d words) behind else l) (same (after d words))

shown_same : (next other : Next) (d : Declared) (text : List ℕ) (size : ℕ) (shown : Option Shown)
    → ((found : Bool) (d : Declared) → next found d (drop size text) ≡ other found d (drop size text)) → shown_then next d text size shown ≡ shown_then other d text size shown
shown_same next other d text size None same = refl
shown_same next other d text size (Some shown) same =
    ap (λ l. shown.text ++ l) (behind_same (next shown.found) (other shown.found) d (line_words shown.line) (first_broken (rules_of d (line_words shown.line))) (drop size text) (same shown.found))

line_same : (next other : Next) (found : Bool) (d : Declared) (text : List ℕ) (size : ℕ) (line : Result (Option Piece) TextFault)
    → ((found : Bool) (d : Declared) → next found d (drop size text) ≡ other found d (drop size text)) → line_then next found d text size line ≡ line_then other found d text size line
line_same next other found d text size (Err fault) same = refl
line_same next other found d text size (Ok None) same = refl
line_same next other found d text size (Ok (Some line)) same = shown_same next other d text size (shown_line found line.bytes (take size text)) same

none_next : (place : ℕ) → next_line_of place [] ≡ Ok None
unfolding next_line_of
none_next place = ap (λ r. sized r (λ size. Ok (if length {A = ℕ} [] == 0 then None else Some (record { place = place; bytes = line_of [] size })))) (short_run_size-none Line 1024 (LineTooLong place) (room_at place))

-- so many lines are enough
enough : (n m : ℕ) (found : Bool) (d : Declared) (place : ℕ) (text : List ℕ) → length text < n → length text < m → lines_then n found d place text ≡ lines_then m found d place text
unfolding lines_then
enough zero m found d place text few more = absurd (omega (arith, few))
enough (suc n) zero found d place text few more = absurd (omega (arith, more))
enough (suc n) (suc m) found d place [] few more =
    ap (line_then (λ found d behind. lines_then n found d (place + line_size []) behind) found d [] (line_size [])) (none_next place)
    ∙ sym (ap (line_then (λ found d behind. lines_then m found d (place + line_size []) behind) found d [] (line_size [])) (none_next place))
enough (suc n) (suc m) found d place (x ∷ xs) few more =
    let text : List ℕ = x ∷ xs in
    let size : length (drop (line_size text) text) < length text = omega (arith, length-drop (line_size text) text) in
    line_same (λ found d behind. lines_then n found d (place + line_size text) behind) (λ found d behind. lines_then m found d (place + line_size text) behind) found d text (line_size text) (next_line_of place text)
    (λ found d. enough n m found d (place + line_size text) (drop (line_size text) text) (omega (arith, size, few)) (omega (arith, size, more)))

one_line : (n m : ℕ) (found : Bool) (d : Declared) (place : ℕ) (text : List ℕ) → n ≡ suc m
    → lines_then n found d place text ≡ line_then (λ found d behind. lines_then m found d (place + line_size text) behind) found d text (line_size text) (next_line_of place text)
unfolding lines_then
one_line n m found d place text more = ap (λ k. lines_then k found d place text) more

-- the next line, and the header behind it
pub header_step : (found : Bool) (d : Declared) (place : ℕ) (text : List ℕ) (line : Result (Option Piece) TextFault) → next_line_of place text ≡ line
    → header_left found d place text ≡ line_then (λ found d behind. header_left found d (place + line_size text) behind) found d text (line_size text) line
header_step found d place [] line is =
    one_line 1 0 found d place [] refl
    ∙ ap (line_then (λ found d behind. lines_then 0 found d (place + line_size []) behind) found d [] (line_size [])) (none_next place)
    ∙ ap (line_then (λ found d behind. header_left found d (place + line_size []) behind) found d [] (line_size [])) (sym (none_next place) ∙ is)
header_step found d place (x ∷ xs) line is =
    let text : List ℕ = x ∷ xs in
    let size : length (drop (line_size text) text) < length text = omega (arith, length-drop (line_size text) text) in
    one_line (length text + 1) (length text) found d place text (omega arith)
    ∙ line_same (λ found d behind. lines_then (length text) found d (place + line_size text) behind) (λ found d behind. header_left found d (place + line_size text) behind) found d text (line_size text) (next_line_of place text)
    (λ found d. enough (length text) (length (drop (line_size text) text) + 1) found d (place + line_size text) (drop (line_size text) text) size (omega arith))
    ∙ ap (line_then (λ found d behind. header_left found d (place + line_size text) behind) found d text (line_size text)) is

-- no line
abbrev NoLine : Result (Option Piece) TextFault → Type 0
NoLine (Err fault) = ⊤
NoLine (Ok None) = ⊤
NoLine (Ok (Some line)) = ⊥

no_line_then : (next : Next) (found : Bool) (d : Declared) (text : List ℕ) (size : ℕ) (line : Result (Option Piece) TextFault) → NoLine line → line_then next found d text size line ≡ text
no_line_then next found d text size (Err fault) none = refl
no_line_then next found d text size (Ok None) none = refl
no_line_then next found d text size (Ok (Some line)) none = absurd none

-- what the held bytes say of the next line
seen_size : (place size : ℕ) (bytes more : List ℕ) → size ≡ prefix_len (belongs Line) bytes → IsSeen size bytes more
    → short_run_size Line 1024 (LineTooLong place) (room_at place) (bytes ++ more) ≡ checked_size 1024 (LineTooLong place) (room_at place) (length bytes) size
seen_size place size bytes more is seen =
    let P : ℕ → Type 0 = λ n. (n < length bytes) ⊎ ((1024 < n) ⊎ (more ≡ [])) in
    short_run_size-held Line 1024 (LineTooLong place) (room_at place) bytes more (subst P is seen) ∙ ap (checked_size 1024 (LineTooLong place) (room_at place) (length bytes)) (sym is)

checked_yes : (held size place : ℕ) → is_line held size place ≡ true → checked_size 1024 (LineTooLong place) (room_at place) held size ≡ Ok size
checked_yes held size place taken = grind (arith, nat_tests)

checked_no : (held size place : ℕ) → 0 < held → is_line held size place ≡ false → (fault : TextFault) × (checked_size 1024 (LineTooLong place) (room_at place) held size ≡ Err fault)
checked_no held size place some refused = by_tests (nat_lt 1024 (min size (room_at place))) (nat_le (room_at place) size && nat_lt (room_at place) held) refl refl
  where
    by_tests : (a b : Bool) → nat_lt 1024 (min size (room_at place)) ≡ a → (nat_le (room_at place) size && nat_lt (room_at place) held) ≡ b
        → (fault : TextFault) × (checked_size 1024 (LineTooLong place) (room_at place) held size ≡ Err fault)
    by_tests true b long late = (LineTooLong place, grind (arith, nat_tests))
    by_tests false true long late = (TooLong, grind (arith, nat_tests))
    by_tests false false long late = absurd (grind (arith, nat_tests))

none_seen : (size : ℕ) (more : List ℕ) → size ≡ prefix_len (belongs Line) [] → IsSeen size [] more → more ≡ []
none_seen size more is (inl seen) = absurd (omega (arith, seen))
none_seen size more is (inr (inl seen)) = absurd (omega (arith, seen, is))
none_seen size more is (inr (inr none)) = none

seen_none : (place size : ℕ) (bytes more : List ℕ) → size ≡ prefix_len (belongs Line) bytes → IsSeen size bytes more → is_line (length bytes) size place ≡ false → NoLine (next_line_of place (bytes ++ more))
unfolding next_line_of
seen_none place size [] more is seen refused =
    let end : more ≡ [] = none_seen size more is seen in
    subst NoLine (sym (ap (next_line_of place) end ∙ none_next place)) tt
seen_none place size (x ∷ xs) more is seen refused =
    let bytes : List ℕ = x ∷ xs in
    let fault = checked_no (length bytes) size place (omega arith) refused in
    let K : ℕ → Result (Option Piece) TextFault = λ size. Ok (if length (bytes ++ more) == 0 then None else Some (record { place = place; bytes = line_of (bytes ++ more) size })) in
    let stops : next_line_of place (bytes ++ more) ≡ Err fault.0 = ap (λ r. sized r K) (seen_size place size bytes more is seen ∙ fault.1) in
    subst NoLine (sym stops) tt

-- where no line is, all stays as it is
pub not_shown : (found : Bool) (d : Declared) (place size : ℕ) (bytes more : List ℕ) → size ≡ prefix_len (belongs Line) bytes → IsSeen size bytes more → is_line (length bytes) size place ≡ false
    → header_left found d place (bytes ++ more) ≡ bytes ++ more
not_shown found d place size bytes more is seen refused =
    let text : List ℕ = bytes ++ more in
    header_step found d place text (next_line_of place text) refl
    ∙ no_line_then (λ found d behind. header_left found d (place + line_size text) behind) found d text (line_size text) (next_line_of place text) (seen_none place size bytes more is seen refused)

-- a line that may be taken is seen to its end
pub line_fits : (held size place : ℕ) → size ≤ held → is_line held size place ≡ true → (0 < held) × (size ≤ 1024) × (place ≤ 2 ^ 62 → place + min (size + 1) held ≤ 2 ^ 62)
line_fits held size place within taken = (grind (arith, nat_tests), grind (arith, nat_tests), λ fits. grind (arith, nat_tests))

abbrev SeenEnd : ℕ → List ℕ → List ℕ → Type 0
SeenEnd size bytes more = (size < length bytes) ⊎ (more ≡ [])

seen_end : (place size : ℕ) (bytes more : List ℕ) → size ≡ prefix_len (belongs Line) bytes → IsSeen size bytes more → is_line (length bytes) size place ≡ true → SeenEnd size bytes more
seen_end place size bytes more is (inl seen) taken = inl seen
seen_end place size bytes more is (inr (inr none)) taken = inr none
seen_end place size bytes more is (inr (inl long)) taken =
    absurd (let short = line_fits (length bytes) size place (omega (arith, is, prefix_len-le-length (belongs Line) bytes)) taken in omega (arith, short.1, long))

held_line : (size : ℕ) (bytes more : List ℕ) → SeenEnd size bytes more → line_of (bytes ++ more) size ≡ line_of bytes size
held_line size bytes more (inr none) = ap (λ l. line_of l size) (ap (λ l. bytes ++ l) none ∙ append-nil bytes)
held_line size bytes more (inl seen) =
    let long : length (bytes ++ more) ≡ length bytes + length more = length-append bytes more in
    let all : nat_lt size (length (bytes ++ more)) ≡ true = grind (arith, nat_tests, long, seen) in
    let part : nat_lt size (length bytes) ≡ true = grind (arith, nat_tests, seen) in
    let front : take size (bytes ++ more) ≡ take size bytes = take-append-le size bytes more (omega (arith, seen)) in
    ap (λ b. if b then without_return (take size (bytes ++ more)) else take size (bytes ++ more)) all ∙ ap without_return front
    ∙ sym (ap (λ b. if b then without_return (take size bytes) else take size bytes) part)

held_size : (size : ℕ) (bytes more : List ℕ) → size ≡ prefix_len (belongs Line) bytes → SeenEnd size bytes more → line_size (bytes ++ more) ≡ min (size + 1) (length bytes)
held_size size bytes more is (inr none) = ap line_size (ap (λ l. bytes ++ l) none ∙ append-nil bytes) ∙ ap (λ n. min (n + 1) (length bytes)) (sym is)
held_size size bytes more is (inl seen) =
    let whole : prefix_len (belongs Line) (bytes ++ more) ≡ prefix_len (belongs Line) bytes = run-append (belongs Line) bytes more (omega (arith, seen, is)) in
    omega (arith, whole, is, seen, length-append bytes more)

seen_line : (place size : ℕ) (bytes more : List ℕ) → size ≡ prefix_len (belongs Line) bytes → IsSeen size bytes more → is_line (length bytes) size place ≡ true
    → next_line_of place (bytes ++ more) ≡ Ok (Some (record { place = place; bytes = line_of bytes size }))
unfolding next_line_of
seen_line place size bytes more is seen taken =
    let text : List ℕ = bytes ++ more in
    let K : ℕ → Result (Option Piece) TextFault = λ size. Ok (if length text == 0 then None else Some (record { place = place; bytes = line_of text size })) in
    let fits = line_fits (length bytes) size place (omega (arith, is, prefix_len-le-length (belongs Line) bytes)) taken in
    let some : (length text == 0) ≡ false = grind (arith, nat_tests, length-append bytes more, fits.0) in
    ap (λ r. sized r K) (seen_size place size bytes more is seen ∙ checked_yes (length bytes) size place taken)
    ∙ ap (λ b. Ok (if b then None else Some (record { place = place; bytes = line_of text size }))) some
    ∙ ap (λ line. Ok (Some (record { place = place; bytes = line }))) (held_line size bytes more (seen_end place size bytes more is seen taken))

-- a line whose LF is held, and the header behind it
pub held_step : (found : Bool) (d : Declared) (place size : ℕ) (bytes more : List ℕ) → size ≡ prefix_len (belongs Line) bytes → size < length bytes → is_line (length bytes) size place ≡ true
    → header_left found d place (bytes ++ more) ≡ shown_then (λ found d behind. header_left found d (place + (size + 1)) behind) d (bytes ++ more) (size + 1) (shown_line found (line_of bytes size) (take (size + 1) bytes))
held_step found d place size bytes more is seen taken =
    let text : List ℕ = bytes ++ more in
    let size-is : line_size text ≡ size + 1 = held_size size bytes more is (inl seen) ∙ (let one : min (size + 1) (length bytes) ≡ size + 1 = omega (arith, seen) in one) in
    header_step found d place text (Ok (Some (record { place = place; bytes = line_of bytes size }))) (seen_line place size bytes more is (inl seen) taken)
    ∙ ap (λ n. shown_then (λ found d behind. header_left found d (place + n) behind) d text n (shown_line found (line_of bytes size) (take n text))) size-is
    ∙ ap (λ front. shown_then (λ found d behind. header_left found d (place + (size + 1)) behind) d text (size + 1) (shown_line found (line_of bytes size) front)) (take-append-le (size + 1) bytes more (omega (arith, seen)))

by_shown : (found : Bool) (d : Declared) (place : ℕ) (bytes more : List ℕ) (whole : ℕ) (result : Option ShownLine)
    → header_left found d place (bytes ++ more) ≡ shown_then (λ found d behind. header_left found d (place + whole) behind) d (bytes ++ more) whole (shown_of result)
    → drop whole (bytes ++ more) ≡ drop whole bytes ++ more → IsShown found d place bytes more whole result
by_shown found d place bytes more whole None is rest = is
by_shown found d place bytes more whole (Some shown) is rest =
    is ∙ ap (λ behind. shown.text ++ taken_line (λ d behind. header_left shown.found d (place + whole) behind) d (take shown.size shown.text) behind) rest

-- a line as it is shown
pub line_shown : (found : Bool) (d : Declared) (place size end whole : ℕ) (bytes front more : List ℕ) (result : Option ShownLine) → size ≡ prefix_len (belongs Line) bytes → IsSeen size bytes more
    → is_line (length bytes) size place ≡ true → whole ≡ min (size + 1) (length bytes) → end ≤ size → take end bytes ≡ line_of bytes size → front ≡ take whole bytes → shown_of result ≡ shown_line found (take end front) front
    → IsShown found d place bytes more (min (size + 1) (length bytes)) result
line_shown found d place size end whole bytes front more result is seen taken count within line first shown =
    let text : List ℕ = bytes ++ more in
    let w : ℕ = min (size + 1) (length bytes) in
    let long : size ≤ length bytes = omega (arith, is, prefix_len-le-length (belongs Line) bytes) in
    let size-is : line_size text ≡ w = held_size size bytes more is (seen_end place size bytes more is seen taken) in
    let front-is : front ≡ take w text = first ∙ ap (λ n. take n bytes) count ∙ sym (take-append-le w bytes more (omega arith)) in
    let line-is : take end front ≡ line_of bytes size = ap (take end) first ∙ take-take end whole bytes (omega (arith, count, within, long)) ∙ line in
    by_shown found d place bytes more w result
    (header_step found d place text (Ok (Some (record { place = place; bytes = line_of bytes size }))) (seen_line place size bytes more is seen taken)
    ∙ ap (λ n. shown_then (λ found d behind. header_left found d (place + n) behind) d text n (shown_line found (line_of bytes size) (take n text))) size-is
    ∙ ap (shown_then (λ found d behind. header_left found d (place + w) behind) d text w) (sym (shown ∙ ap (λ l. shown_line found l front) line-is ∙ ap (shown_line found (line_of bytes size)) front-is)))
    (drop-append-le w bytes more (omega arith))

-- a line is taken
behind_taken : (found : Bool) (d next : Declared) (place : ℕ) (body : Body) (words : List (List ℕ)) (behind : List ℕ) (broken : Option PlyKind) (taken : Result Bool PlyKind)
    → taken ≡ answer_of broken (is_end d words) → OnOk taken (next ≡ after d words) → body_left next body ≡ body_text next
    → behind_line (λ d behind. header_left found d place behind) d words broken behind ≡ left_by (stage_behind found taken) next place body behind
behind_taken found d next place body words behind None (Ok true) answer taken start =
    let end : true ≡ is_end d words = cc answer in
    ap (λ b. if b then body_text (after d words) behind else header_left found (after d words) place behind) (sym end)
    ∙ ap (λ d. body_text d behind) (sym taken) ∙ ap (λ f. f behind) (sym start)
behind_taken found d next place body words behind None (Ok false) answer taken start =
    let end : false ≡ is_end d words = cc answer in
    ap (λ b. if b then body_text (after d words) behind else header_left found (after d words) place behind) (sym end)
    ∙ ap (λ d. header_left found d place behind) (sym taken)
behind_taken found d next place body words behind None (Err kind) answer taken start = absurd (cc answer)
behind_taken found d next place body words behind (Some broken) (Ok ended) answer taken start = absurd (cc answer)
behind_taken found d next place body words behind (Some broken) (Err kind) answer taken start = refl

pub line_taken : (found : Bool) (d next : Declared) (place : ℕ) (body : Body) (line behind : List ℕ) (taken : Result Bool PlyKind) → TakesLine (line_words line) d next taken → body_left next body ≡ body_text next
    → taken_line (λ d behind. header_left found d place behind) d line behind ≡ left_by (stage_behind found taken) next place body behind
line_taken found d next place body line behind taken takes start =
    behind_taken found d next place body (line_words line) behind (first_broken (rules_of d (line_words line))) taken takes.answer takes.taken start
