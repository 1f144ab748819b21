-- Calls that take the lines of a header.
use Rattle.std.proofs.Common.{◌≡◌, ◌≢◌, ℕ, suc, ◌+◌, ◌-◌, ◌<◌, ◌≤◌, ◌++◌, Bool, true, false, if◌then◌else◌, List, length, drop, replicate, refl, sym, ap, ◌∙◌, subst, arith, Option, None, Some, Result, Ok, Err, OnOk, IfOk, IfErr, le_trans, le_refl, length-append, length-drop}
use Rattle.std.proofs.lemmas.List.{drop_at, length-replicate}
use Rattle.ply_text.specs.Pieces.{Piece}
use Rattle.ply_text.specs.NextPieces.{next_line_of, line_size}
use Rattle.ply_text.specs.Reading.{Reading, StandsIn}
use Rattle.ply_text.specs.Calls.{LineCall, answered, line_piece}
use Rattle.ply_text.specs.declared.fault.TextFault.{TextFault}
use Rattle.ply_text.specs.declared.fault.TextFault.TheVariants as texts
use Rattle.ply_text.specs.declared.tokens.Line.{Line}
use Rattle.ply_text.proofs.Callers.{stands_after}
use Rattle.ply_reader.specs.declared.fault.PlyFault.{PlyFault}
use Rattle.ply_reader.specs.declared.fault.PlyFault.TheVariants.{Refused, ReadFault}
use Rattle.ply_reader.specs.declared.fault.PlyKind.{PlyKind}
use Rattle.ply_reader.specs.LineWords.{line_words}
use Rattle.ply_reader.specs.Declarations.{Declared, nothing_declared}
use Rattle.ply_reader.specs.HeaderRules.{TakesLine, answer_of, first_broken, rules_of, is_end, after}
use Rattle.ply_reader.specs.Cursors.{Cursor, Step, at, onward, done, mapped, ply_fault}
use Rattle.ply_reader.specs.HeaderSteps.{Taken, taken_from, refused_at, cut_off, line_taken, line_read, header_line, header_of, whole_header}
use Rattle.ply_reader.specs.Runs.{Gives, Runs, refused_place}
use Rattle.ply_reader.proofs.Steps.{rose_later}
use Rattle.ply_reader.proofs.TokenRuns.{read_fault, place_reached}

-- of a text's header so much was taken that `d` is declared, and no more lines are left than bytes
pub record ComesInHeader (d : Declared) (old new : Reading) : Type 0 where
  pub later : old.faults ≤ new.faults
  pub free : new.stopped ≡ None
  pub stands : (text : List ℕ) → StandsIn text old → StandsIn text new
  pub told : (text : List ℕ) → old.left ≡ Some text
      → (rest : List ℕ) × (n : ℕ) × (new.left ≡ Some rest) × (length rest < n) × (whole_header (at old.place text) ≡ header_of n d (at new.place rest))

-- where a reader goes on in each text, what it passes is what is missing
pub stands_sizes : (a b : Reading) → ((text : List ℕ) → StandsIn text a → StandsIn text b) → (t u : List ℕ) → a.left ≡ Some t → b.left ≡ Some u → length u + b.place ≡ length t + a.place
stands_sizes a b stands t u left-a left-b =
    let text : List ℕ = replicate a.place 0 ++ t in
    let size : length text ≡ a.place + length t = length-append (replicate a.place 0) t ∙ ap (λ n. n + length t) (length-replicate a.place 0) in
    let behind : drop a.place text ≡ t = drop_at (replicate a.place 0) t a.place (length-replicate a.place 0) in
    let after = stands text (record { left = left-a ∙ ap Some (sym behind); within = omega (arith, size) }) in
    let same : Some u ≡ Some (drop b.place text) = sym left-b ∙ after.left in
    let rest : u ≡ drop b.place text = cc same in
    omega (arith, size, ap length rest, length-drop b.place text, after.within)

-- a line that is accepted, and one that is refused
line_gives : (d next : Declared) (place : ℕ) (words : List (List ℕ)) (c : Cursor) (new : Reading) (broken : Option PlyKind) (taken : Result Bool PlyKind)
    → new.left ≡ Some c.text → new.place ≡ c.place → taken ≡ answer_of broken (is_end d words) → OnOk taken (next ≡ after d words)
    → Gives (line_taken d place words c broken) new (mapped (taken_from next) (refused_at place taken))
line_gives d next place words c new None (Ok ended) left here answer taken =
    let end : ended ≡ is_end d words = cc answer in
    (c.text, left, λ i. Ok (record { ended = sym end i; declared = sym taken i }, at (sym here i) c.text))
line_gives d next place words c new None (Err kind) left here answer taken = absurd (cc answer)
line_gives d next place words c new (Some broken) (Ok ended) left here answer taken = absurd (cc answer)
line_gives d next place words c new (Some broken) (Err kind) left here answer taken =
    let same : kind ≡ broken = cc answer in ap (λ k. Err (Refused k place)) (sym same)

not_a_fault : (next : Declared) (place : ℕ) (taken : Result Bool PlyKind) → mapped (taken_from next) (refused_at place taken) ≢ Err ReadFault
not_a_fault next place (Ok ended) e = cc e
not_a_fault next place (Err kind) e = let same : Refused kind place ≡ ReadFault = cc e in cc same

-- a line was there
pub taken_line : (d next : Declared) (a b : Reading) (line : Piece) (taken : Result Bool PlyKind) → a.stopped ≡ None → LineCall a b (Ok (Some line))
    → TakesLine (line_words line.bytes) d next taken → Runs (header_line d) a b (mapped (taken_from next) (refused_at line.place taken))
unfolding header_line
taken_line d next a b line taken free call takes = record {
  later = call.call.later;
  failed = λ bad. absurd (not_a_fault next line.place taken bad);
  free = stays_free taken;
  reached = reached taken;
  stands = λ text stands. stands_after next_line_of line_size a b (Ok (Some line)) text call.call stands;
  told = λ text told _.
      let found : Ok (Some line) ≡ next_line_of a.place text = call.call.answer text told free (λ e. cc e) in
      let passed = call.call.passed text told in
      let behind : Cursor = at (a.place + line_size text) (drop (line_size text) text) in
      let words = line_words line.bytes in
      subst (λ r. Gives (line_read d (at a.place text) r) b (mapped (taken_from next) (refused_at line.place taken))) found
      (line_gives d next line.place words behind b (first_broken (rules_of d words)) taken passed.0 passed.1 takes.answer takes.taken);
}
  where
    stays_free : (r : Result Bool PlyKind) → IfOk (mapped (taken_from next) (refused_at line.place r)) (λ _. b.stopped ≡ None)
    stays_free (Ok ended) = call.call.stops
    stays_free (Err kind) = tt

    reached : (r : Result Bool PlyKind) → IfErr (mapped (taken_from next) (refused_at line.place r)) (λ fault. refused_place fault ≤ b.place + b.ahead)
    reached (Ok ended) = tt
    reached (Err kind) = omega (arith, call.bounds.0, call.bounds.1)

-- no line is left
pub taken_header_end : (d : Declared) (a b : Reading) (fault : PlyFault) (place : ℕ) → a.stopped ≡ None → LineCall a b (Ok None) → place ≡ b.place → fault ≡ cut_off d place
    → Runs (header_line d) a b (Err fault)
unfolding header_line
taken_header_end d a b fault place free call here is = record {
  later = call.call.later;
  failed = λ bad. let same : fault ≡ ReadFault = cc bad in absurd (cc (is, same));
  free = tt;
  reached = subst (λ f. refused_place f ≤ b.place + b.ahead) (sym is) (omega (arith, here));
  stands = λ text stands. stands_after next_line_of line_size a b (Ok None) text call.call stands;
  told = λ text told _.
      let found : Ok None ≡ next_line_of a.place text = call.call.answer text told free (λ e. cc e) in
      let passed = call.call.passed text told in
      let empty : length text ≡ 0 = ap length (call.whole text told) in
      let size : line_size text ≡ 0 = omega (arith, empty) in
      let same : a.place ≡ place = omega (arith, passed.1, size, here) in
      ap (line_read d (at a.place text)) (sym found) ∙ ap (λ p. Err (cut_off d p)) same ∙ ap Err (sym is);
}

-- a fault
pub taken_line_fault : (d : Declared) (a b : Reading) (why : TextFault) (fault : PlyFault) → a.stopped ≡ None → LineCall a b (Err why) → fault ≡ ply_fault why → Runs (header_line d) a b (Err fault)
unfolding header_line
taken_line_fault d a b why fault free call is = record {
  later = call.call.later;
  failed = λ bad. let same : ply_fault why ≡ ReadFault = cc (bad, is) in call.call.failed free (ap Err (read_fault why same));
  free = tt;
  reached = subst (λ f. refused_place f ≤ b.place + b.ahead) (sym is) (place_reached why (call.call.reached free));
  stands = λ text stands. stands_after next_line_of line_size a b (Err why) text call.call stands;
  told = λ text told ok.
      let found : Err why ≡ next_line_of a.place text = call.call.answer text told free (λ e. let same : why ≡ texts.ReadFault = cc e in ok (ap Err (is ∙ ap ply_fault same))) in
      ap (line_read d (at a.place text)) (sym found) ∙ ap Err (sym is);
}

-- the header at its start
pub header_starts : (a : Reading) → a.stopped ≡ None → ComesInHeader nothing_declared a a
unfolding whole_header
header_starts a free = record {
  later = le_refl a.faults;
  free = free;
  stands = λ text stands. stands;
  told = λ text told. (text, length text + 1, told, omega arith, refl);
}

-- a line more
after_line : Taken → ℕ → Step Declared
after_line taken n = if taken.ended then done taken.declared else header_of n taken.declared

one_line : (n m : ℕ) (d : Declared) (c : Cursor) → n ≡ suc m → header_of n d c ≡ onward (header_line d c) (λ taken. after_line taken m)
unfolding header_of after_line
one_line n m d c more = ap (λ k. header_of k d c) more

pub header_goes_on : (d next : Declared) (a b c : Reading) → ComesInHeader d a b → b.place < c.place → Runs (header_line d) b c (Ok (taken_from next false)) → ComesInHeader next a c
unfolding after_line
header_goes_on d next a b c comes further runs = record {
  later = le_trans comes.later runs.later;
  free = runs.free;
  stands = λ text stands. runs.stands text (comes.stands text stands);
  told = λ text told.
      let before = comes.told text told in
      let m = before.1 - 1 in
      let more : before.1 ≡ suc m = omega (arith, before.3) in
      let after = runs.told before.0 before.2 (λ e. cc e) in
      let sizes = stands_sizes b c runs.stands before.0 after.0 before.2 after.1 in
      (after.0, m, after.1, omega (arith, sizes, further, before.3, more), before.4 ∙ one_line before.1 m d (at b.place before.0) more ∙ ap (λ r. onward r (λ taken. after_line taken m)) after.2);
}

pub header_ends : (d next : Declared) (a b c : Reading) → ComesInHeader d a b → Runs (header_line d) b c (Ok (taken_from next true)) → Runs whole_header a c (Ok next)
unfolding after_line
header_ends d next a b c comes runs = record {
  later = le_trans comes.later runs.later;
  failed = λ bad. absurd (cc bad);
  free = runs.free;
  reached = tt;
  stands = λ text stands. runs.stands text (comes.stands text stands);
  told = λ text told _.
      let before = comes.told text told in
      let m = before.1 - 1 in
      let more : before.1 ≡ suc m = omega (arith, before.3) in
      let after = runs.told before.0 before.2 (λ e. cc e) in
      (after.0, after.1, before.4 ∙ one_line before.1 m d (at b.place before.0) more ∙ ap (λ r. onward r (λ taken. after_line taken m)) after.2);
}

pub header_stops : (d : Declared) (a b c : Reading) (fault : PlyFault) → ComesInHeader d a b → Runs (header_line d) b c (Err fault) → Runs whole_header a c (Err fault)
header_stops d a b c fault comes runs = record {
  later = le_trans comes.later runs.later;
  failed = λ bad. let same : fault ≡ ReadFault = cc bad in rose_later a.faults b.faults c.faults comes.later (runs.failed (ap Err same));
  free = tt;
  reached = runs.reached;
  stands = λ text stands. runs.stands text (comes.stands text stands);
  told = λ text told ok.
      let before = comes.told text told in
      let m = before.1 - 1 in
      let more : before.1 ≡ suc m = omega (arith, before.3) in
      let after = runs.told before.0 before.2 (λ is. let same : fault ≡ ReadFault = cc is in ok (ap Err same)) in
      before.4 ∙ one_line before.1 m d (at b.place before.0) more ∙ ap (λ r. onward r (λ taken. after_line taken m)) after;
}

-- what a call for a line gave
pub line_given : (a b : Reading) (result : Result (Option Line) TextFault) (found : Option Line) (line : Line) → result ≡ Ok found → found ≡ Some line
    → LineCall a b (answered line_piece result) → LineCall a b (Ok (Some (line_piece line)))
line_given a b result found line was is call = subst (λ r. LineCall a b (answered line_piece r)) (was ∙ ap Ok is) call

pub no_line_given : (a b : Reading) (result : Result (Option Line) TextFault) (found : Option Line) → result ≡ Ok found → found ≡ None
    → LineCall a b (answered line_piece result) → LineCall a b (Ok None)
no_line_given a b result found was is call = subst (λ r. LineCall a b (answered line_piece r)) (was ∙ ap Ok is) call

pub line_fault_given : (a b : Reading) (result : Result (Option Line) TextFault) (fault : TextFault) → result ≡ Err fault
    → LineCall a b (answered line_piece result) → LineCall a b (Err fault)
line_fault_given a b result fault was call = subst (λ r. LineCall a b (answered line_piece r)) was call
