-- What the held bytes say of a run of the text.
use Rattle.std.proofs.Common.{◌≡◌, ◌≢◌, ℕ, ◌+◌, ◌<◌, ◌≤◌, min, Bool, true, false, ◌&&◌, nat_lt, nat_le, if◌then◌else◌, ◌⊎◌, inl, inr, List, [], ◌++◌, length, Result, Ok, Err, IfOk, refl, sym, ap, ◌∙◌, arith, subst, append-nil, length-append, Option, None, Some, not, IsErr, IsErrAnd, OnErr, IfErr, ◌^◌}
use Rattle.std.specs.Io.KnownBytes.{prepend_known, IsAtEnd}
use Rattle.std.specs.List.{prefix_len}
use Rattle.std.proofs.lemmas.List.Sums.{prefix_len-le-length}
use Rattle.std.proofs.lemmas.Bool.{ltb-false}
use Rattle.std.proofs.lemmas.Bool.Decides.{nat_tests}
use Rattle.ply_text.specs.declared.fault.TextFault.{TextFault}
use Rattle.ply_text.specs.declared.fault.TextFault.TheVariants.{TooLong, ReadFault}
use Rattle.ply_text.specs.declared.run.Run.{Run}
use Rattle.ply_text.specs.Pieces.{belongs}
use Rattle.ply_text.specs.NextPieces.{run_size, short_run_size, room_at}
use Rattle.ply_text.specs.Calls.{fault_end}
use Rattle.ply_text.specs.Holding.{checked_size}
use Rattle.ply_text.proofs.Runs.{run-append, run-append-le}

-- a run that goes on to the end of the room
pub run_size-far : (run : Run) (room : ℕ) (text : List ℕ) → room ≤ prefix_len (belongs run) text → room < length text → run_size run room text ≡ Err TooLong
unfolding run_size
run_size-far run room text far more = grind (arith, nat_tests)

-- a run that ends within the room
pub run_size-near : (run : Run) (room : ℕ) (text : List ℕ) → (prefix_len (belongs run) text < room) ⊎ (length text ≤ room) → run_size run room text ≡ Ok (prefix_len (belongs run) text)
unfolding run_size
run_size-near run room text (inl near) = grind (arith, nat_tests)
run_size-near run room text (inr near) = grind (arith, nat_tests)

same_test : (room n a b : ℕ) → n < a → a ≤ b → (nat_le room n && nat_lt room b) ≡ (nat_le room n && nat_lt room a)
same_test room n a b h k = grind (arith, nat_tests)

pub run_size-held : (run : Run) (room : ℕ) (bytes behind : List ℕ) → (prefix_len (belongs run) bytes < length bytes) ⊎ (behind ≡ [])
    → run_size run room (bytes ++ behind) ≡ (if nat_le room (prefix_len (belongs run) bytes) && nat_lt room (length bytes) then Err TooLong else Ok (prefix_len (belongs run) bytes))
unfolding run_size
run_size-held run room bytes behind (inl ended) =
    let p = belongs run in
    rw (run-append p bytes behind ended, same_test room (prefix_len p bytes) (length bytes) (length (bytes ++ behind)) ended (omega (arith, length-append bytes behind))) refl
run_size-held run room bytes behind (inr none) = rw (none, append-nil bytes) refl

past_limit : (wide : Bool) (limit room n m held whole : ℕ) (fault : TextFault) (r : Result ℕ TextFault) → nat_lt limit room ≡ wide → limit < n → n ≤ m → n ≤ held → held ≤ whole
    → (room ≤ limit → r ≡ Err TooLong) → (if nat_lt limit (min m room) then Err fault else r) ≡ checked_size limit fault room held n
past_limit true limit room n m held whole fault r wide long longer within more far = grind (arith, nat_tests)
past_limit false limit room n m held whole fault r wide long longer within more far = let e = far (ltb-false limit room wide) in grind (arith, nat_tests)

-- a run of which enough bytes are held is answered from these
pub short_run_size-held : (run : Run) (limit : ℕ) (fault : TextFault) (room : ℕ) (bytes behind : List ℕ)
    → (prefix_len (belongs run) bytes < length bytes) ⊎ ((limit < prefix_len (belongs run) bytes) ⊎ (behind ≡ []))
    → short_run_size run limit fault room (bytes ++ behind) ≡ checked_size limit fault room (length bytes) (prefix_len (belongs run) bytes)
unfolding short_run_size
short_run_size-held run limit fault room bytes behind (inl ended) =
    rw (run_size-held run room bytes behind (inl ended), run-append (belongs run) bytes behind ended) refl
short_run_size-held run limit fault room bytes behind (inr (inr none)) =
    rw (run_size-held run room bytes behind (inr none), none, append-nil bytes) refl
short_run_size-held run limit fault room bytes behind (inr (inl long)) =
    let n = prefix_len (belongs run) bytes in
    let longer : n ≤ prefix_len (belongs run) (bytes ++ behind) = run-append-le (belongs run) bytes behind in
    let within : n ≤ length bytes = prefix_len-le-length (belongs run) bytes in
    let more : length (bytes ++ behind) ≡ length bytes + length behind = length-append bytes behind in
    past_limit (nat_lt limit room) limit room n (prefix_len (belongs run) (bytes ++ behind)) (length bytes) (length (bytes ++ behind)) fault (run_size run room (bytes ++ behind)) refl long longer within (omega (arith, more))
    (λ far. run_size-far run room (bytes ++ behind) (omega (arith, far, longer)) (omega (arith, far, more, long, within)))

-- what an answer says of the run
pub checked_size-ok : (limit : ℕ) (fault : TextFault) (room held size n : ℕ) → size ≤ held → checked_size limit fault room held size ≡ Ok n
    → (n ≡ size) × (n ≤ limit) × (n ≤ room) × (n < held → n < room)
checked_size-ok limit fault room held size n h e = (grind (arith, nat_tests), grind (arith, nat_tests), grind (arith, nat_tests), λ k. grind (arith, nat_tests))

pub checked_size-fault : (limit : ℕ) (fault : TextFault) (room held size : ℕ) → fault ≢ ReadFault → checked_size limit fault room held size ≢ Err ReadFault
checked_size-fault limit fault room held size h e = grind (arith, nat_tests)

-- an answered size is the run's
pub short_run_size-ok : (run : Run) (limit : ℕ) (fault : TextFault) (room : ℕ) (text : List ℕ) (n : ℕ) → short_run_size run limit fault room text ≡ Ok n → n ≡ prefix_len (belongs run) text
unfolding short_run_size run_size
short_run_size-ok run limit fault room text n h = grind (arith, nat_tests)

-- no byte is left
pub short_run_size-none : (run : Run) (limit : ℕ) (fault : TextFault) (room : ℕ) → short_run_size run limit fault room [] ≡ Ok 0
unfolding short_run_size run_size
short_run_size-none run limit fault room = grind (arith, nat_tests)

-- what is true of each value that a result can have is true of it
pub IfOk-from : {A E : Type 0} (r : Result A E) (P : A → Type 0) → ((x : A) → r ≡ Ok x → P x) → IfOk r P
IfOk-from (Ok x) P h = h x refl
IfOk-from (Err e) P h = tt

-- a run of which enough is held is answered as its text says
pub run_answer : (run : Run) (limit : ℕ) (fault : TextFault) (place place' : ℕ) (bytes : List ℕ) (rest : Option (List ℕ)) (text : List ℕ) (size : ℕ) (result : Result ℕ TextFault)
    → place' ≡ place → size ≡ prefix_len (belongs run) bytes → (size < length bytes) ⊎ ((limit < size) ⊎ IsAtEnd rest) → prepend_known bytes rest ≡ Some text
    → result ≡ checked_size limit fault (room_at place') (length bytes) size → result ≡ short_run_size run limit fault (room_at place) text
run_answer run limit fault place place' bytes None text size result same is ended told e = absurd (cc)
run_answer run limit fault place place' bytes (Some behind) text size result same is ended told e =
    let whole : text ≡ bytes ++ behind = cc in
    let P : ℕ → Type 0 = λ n. (n < length bytes) ⊎ ((limit < n) ⊎ (behind ≡ [])) in
    e ∙ ap (λ p. checked_size limit fault (room_at p) (length bytes) size) same ∙ ap (checked_size limit fault (room_at place) (length bytes)) is
    ∙ sym (short_run_size-held run limit fault (room_at place) bytes behind (subst P is ended)) ∙ ap (short_run_size run limit fault (room_at place)) (sym whole)

-- a run whose end is seen ends within the room
pub seen_fits : (room size held : ℕ) → size ≤ held → not (nat_le room size && nat_lt room held) ≡ true → (size ≤ room) × (size < held → size < room)
seen_fits room size held h e = (grind (arith, nat_tests), λ k. grind (arith, nat_tests))

-- what `?` returns
pub err_is : {A : Type 0} (r : Result A TextFault) (fault : TextFault) → IsErr r × IsErrAnd r (λ e. e ≡ fault) → r ≡ Err fault
err_is (Ok x) fault h = absurd (let e = h.0 in cc)
err_is (Err e) fault h = ap Err h.1

-- what no answer but a fault says
pub on_err_from : {T E P : Type 0} (r : Result T E) → P → OnErr r P
on_err_from (Ok x) holds = tt
on_err_from (Err e) holds = holds

-- the bytes that show a fault of a run are held
fault_held : (fault : TextFault) (size end : ℕ) (long late : Bool) → (long ≡ true → fault_end fault ≤ end) → (late ≡ true → 2 ^ 62 + 1 ≤ end)
    → IfErr (if long then Err fault else (if late then Err TooLong else Ok size)) (λ f. fault_end f ≤ end)
fault_held fault size end true late is_long is_late = is_long refl
fault_held fault size end false true is_long is_late = is_late refl
fault_held fault size end false false is_long is_late = tt

both_true : (p q : Bool) → (p && q) ≡ true → q ≡ true
both_true true q is = is
both_true false q is = absurd (cc)

pub checked_reached : (limit : ℕ) (fault : TextFault) (place held size : ℕ) → fault_end fault ≡ place + limit + 1 → place ≤ 2 ^ 62 → size ≤ held
    → IfErr (checked_size limit fault (room_at place) held size) (λ f. fault_end f ≤ place + held)
checked_reached limit fault place held size end within fits =
    fault_held fault size (place + held) (nat_lt limit (min size (room_at place))) (nat_le (room_at place) size && nat_lt (room_at place) held)
    (λ long. let more : limit < min size (room_at place) = grind (arith, nat_tests, long) in omega (arith, more, end, fits))
    (λ late. let behind : room_at place < held = grind (arith, nat_tests, both_true (nat_le (room_at place) size) (nat_lt (room_at place) held) late) in omega (arith, behind, within))
