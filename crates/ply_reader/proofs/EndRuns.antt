-- The call for the end of a text.
use Rattle.std.proofs.Common.{◌≡◌, ℕ, ◌+◌, ◌≤◌, List, [], length, drop, sym, ap, ◌∙◌, subst, arith, Option, None, Some, Result, Ok, Err, IfOk, length-drop}
use Rattle.ply_text.specs.NextPieces.{next_place_of, white_size}
use Rattle.ply_text.specs.Reading.{Reading}
use Rattle.ply_text.specs.Calls.{PlaceCall}
use Rattle.ply_text.specs.declared.fault.TextFault.{TextFault}
use Rattle.ply_text.specs.declared.fault.TextFault.TheVariants as texts
use Rattle.ply_text.proofs.Callers.{stands_after}
use Rattle.ply_reader.specs.declared.fault.PlyFault.{PlyFault}
use Rattle.ply_reader.specs.declared.fault.PlyFault.TheVariants.{Refused, ReadFault}
use Rattle.ply_reader.specs.declared.fault.PlyKind.TheVariants.{TrailingData}
use Rattle.ply_reader.specs.Cursors.{Step, at, ply_fault}
use Rattle.ply_reader.specs.PlyMeaning.{end_by, text_ended}
use Rattle.ply_reader.specs.Runs.{Runs, refused_place}
use Rattle.ply_reader.specs.MeshCalls.{AtEnd}
use Rattle.ply_reader.proofs.TokenRuns.{read_fault, place_reached}

-- what a call gave
pub place_given : (a b : Reading) (result : Result (Option ℕ) TextFault) (found : Option ℕ) (place : ℕ) → result ≡ Ok found → found ≡ Some place → PlaceCall a b result → PlaceCall a b (Ok (Some place))
place_given a b result found place was is call = subst (PlaceCall a b) (was ∙ ap Ok is) call

pub no_place_given : (a b : Reading) (result : Result (Option ℕ) TextFault) (found : Option ℕ) → result ≡ Ok found → found ≡ None → PlaceCall a b result → PlaceCall a b (Ok None)
no_place_given a b result found was is call = subst (PlaceCall a b) (was ∙ ap Ok is) call

pub place_fault_given : (a b : Reading) (result : Result (Option ℕ) TextFault) (fault : TextFault) → result ≡ Err fault → PlaceCall a b result → PlaceCall a b (Err fault)
place_fault_given a b result fault was call = subst (PlaceCall a b) was call

-- nothing but white space was left
pub taken_text_end : (a b : Reading) (place : ℕ) → a.stopped ≡ None → PlaceCall a b (Ok None) → place ≡ b.place → Runs text_ended a b (Ok place)
unfolding text_ended
taken_text_end a b place free call here = record {
  later = call.call.later;
  failed = λ bad. absurd (cc bad);
  free = call.call.stops;
  reached = tt;
  stands = λ text stands. stands_after next_place_of white_size a b (Ok None) text call.call stands;
  told = λ text told _.
      let next : Ok None ≡ next_place_of a.place text = call.call.answer text told free (λ e. cc e) in
      let passed = call.call.passed text told in
      let empty = (call.whole text told).1 in
      let same : Some (drop (white_size text) text) ≡ Some [] = sym passed.0 ∙ empty in
      let nothing : drop (white_size text) text ≡ [] = cc same in
      let size : length text ≡ white_size text = omega (arith, ap length nothing, length-drop (white_size text) text, (call.call.front text told).1, passed.1) in
      let end : a.place + length text ≡ b.place = omega (arith, size, passed.1) in
      let value : a.place + length text ≡ place = end ∙ sym here in
      ([], empty, ap (end_by (at a.place text)) (sym next) ∙ (λ i. Ok (value i, at (end i) [])));
}

-- something else follows
pub taken_trailing : (a b : Reading) (place : ℕ) → a.stopped ≡ None → PlaceCall a b (Ok (Some place)) → Runs text_ended a b (Err (Refused TrailingData place))
unfolding text_ended
taken_trailing a b place free call = record {
  later = call.call.later;
  failed = λ bad. absurd (cc bad);
  free = tt;
  reached = omega (arith, call.place);
  stands = λ text stands. stands_after next_place_of white_size a b (Ok (Some place)) text call.call stands;
  told = λ text told _.
      let next : Ok (Some place) ≡ next_place_of a.place text = call.call.answer text told free (λ e. cc e) in
      ap (end_by (at a.place text)) (sym next);
}

-- a fault
pub taken_end_fault : (a b : Reading) (why : TextFault) (fault : PlyFault) → a.stopped ≡ None → PlaceCall a b (Err why) → fault ≡ ply_fault why → Runs text_ended a b (Err fault)
unfolding text_ended
taken_end_fault a b why fault free call is = record {
  later = call.call.later;
  failed = λ bad. let same : ply_fault why ≡ ReadFault = cc (bad, is) in call.call.failed free (ap Err (read_fault why same));
  free = tt;
  reached = subst (λ f. refused_place f ≤ b.place + b.ahead) (sym is) (place_reached why (call.call.reached free));
  stands = λ text stands. stands_after next_place_of white_size a b (Err why) text call.call stands;
  told = λ text told ok.
      let next : Err why ≡ next_place_of a.place text = call.call.answer text told free (λ e. let same : why ≡ texts.ReadFault = cc e in ok (ap Err (is ∙ ap ply_fault same))) in
      ap (end_by (at a.place text)) (sym next) ∙ ap Err (sym is);
}

-- the end of a text behind a step
pub ends_behind : {A : Type 0} (step : Step A) (a b c : Reading) (x : A) (result : Result ℕ PlyFault) → Runs step a b (Ok x) → IfOk result (λ size. (size ≡ c.place) × (c.ahead ≡ 0))
    → ((text : List ℕ) → b.left ≡ Some text → IfOk result (λ _. c.left ≡ Some [])) → IfOk result (AtEnd a c)
ends_behind step a b c x (Ok size) runs here nothing =
    record { size_is = here.0; read = here.1; nothing = λ text told. let after = runs.told text told (λ e. cc e) in nothing after.0 after.1 }
ends_behind step a b c x (Err fault) runs here nothing = tt
