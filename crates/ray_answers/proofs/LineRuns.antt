-- The next line of a text of rays or points, read.
use Rattle.std.proofs.Common.{◌≡◌, ℕ, ◌+◌, ◌≤◌, ◌^◌, List, [], length, drop, refl, sym, ap, ◌∙◌, subst, arith, Bool, true, false, ◌==◌, if◌then◌else◌, ℤ, Option, None, Some, Result, Ok, Err, IfErr, IfOk}
use Rattle.std.specs.Prelude.{⊤}
use Rattle.std.specs.List.{list_all}
use Rattle.ply_text.specs.Pieces.{Piece}
use Rattle.ply_text.specs.NextPieces.{next_line_of, line_size}
use Rattle.ply_text.specs.Reading.{Reading}
use Rattle.ply_text.specs.Calls.{LineCall, answered, line_piece, fault_end}
use Rattle.ply_text.specs.declared.fault.TextFault.{TextFault}
use Rattle.ply_text.specs.declared.fault.TextFault.TheVariants as texts
use Rattle.ply_text.specs.declared.tokens.Line.{Line as TextLine}
use Rattle.ply_text.proofs.Callers.{stands_after}
use Rattle.ray_fraction.specs.RayShape.{RayShape}
use Rattle.ray_fraction.specs.RayFrom.{ray_from}
use Rattle.ray_fraction.specs.RayLimits.{is_within}
use Rattle.ray_fraction.specs.declared.rays.RayFault.{RayFault}
use Rattle.text_words.specs.Numbers.{three_from}
use Rattle.ray_answers.specs.LineWords.{line_words}
use Rattle.ray_answers.specs.LineMeanings.{line_meaning, asked, query_of, ray_of, ray_between, ray_in_range, point_of, point_at, stop_of}
use Rattle.ray_answers.specs.QueryTexts.{QueryText, with_line, with_meaning}
use Rattle.ray_answers.specs.Answering.{IsFaultOf, fault_place, stop_place}
use Rattle.ray_answers.specs.LineCalls.{ReadsLine, IsTextStop, IsOfKind, IsLineOf, line_of}
use Rattle.ray_answers.specs.declared.lines.Line.{Line}
use Rattle.ray_answers.specs.declared.lines.Line.TheVariants.{End}
use Rattle.ray_answers.specs.declared.queries.Query.{Query}
use Rattle.ray_answers.specs.declared.queries.Query.TheVariants.{Point}
use Rattle.ray_answers.specs.declared.queries.QueryKind.{QueryKind}
use Rattle.ray_answers.specs.declared.queries.QueryKind.TheVariants.{Rays, Points}
use Rattle.ray_answers.specs.declared.stops.LineFault.{LineFault}
use Rattle.ray_answers.specs.declared.stops.LineFault.TheVariants.{BadRay, BadPoint, PointRange}
use Rattle.ray_answers.specs.declared.stops.LineStop.{LineStop}
use Rattle.ray_answers.specs.declared.stops.LineStop.TheVariants.{ReadFault}

-- what a call for a line gave
pub line_given : (a b : Reading) (result : Result (Option TextLine) TextFault) (found : Option TextLine) (line : TextLine) → result ≡ Ok found → found ≡ Some line
    → LineCall a b (answered line_piece result) → LineCall a b (Ok (Some (line_piece line)))
line_given a b result found line was is call = subst (λ r. LineCall a b (answered line_piece r)) (was ∙ ap Ok is) call

pub no_line_given : (a b : Reading) (result : Result (Option TextLine) TextFault) (found : Option TextLine) → result ≡ Ok found → found ≡ None
    → LineCall a b (answered line_piece result) → LineCall a b (Ok None)
no_line_given a b result found was is call = subst (λ r. LineCall a b (answered line_piece r)) (was ∙ ap Ok is) call

pub line_fault_given : (a b : Reading) (result : Result (Option TextLine) TextFault) (fault : TextFault) → result ≡ Err fault
    → LineCall a b (answered line_piece result) → LineCall a b (Err fault)
line_fault_given a b result fault was call = subst (λ r. LineCall a b (answered line_piece r)) was call

-- what a line's words stop by names the line's place, and is a fault of their kind
pub record IsFaultAt (kind : QueryKind) (place : ℕ) (fault : LineFault) : Type 0 where
  pub here : fault_place fault ≡ place
  pub own : IsFaultOf kind fault

abbrev IfFaultAt : {T : Type 0} → QueryKind → ℕ → Result T LineFault → Type 0
IfFaultAt kind place result = IfErr result (IsFaultAt kind place)

-- what a line's words mean is of their kind
abbrev IfOfKind : QueryKind → Result Query LineFault → Type 0
IfOfKind kind (Ok query) = IsOfKind kind query
IfOfKind kind (Err fault) = ⊤

-- both, of the words of a query
record IsMeaning (kind : QueryKind) (place : ℕ) (result : Result Query LineFault) : Type 0 where
  fault : IfFaultAt kind place result
  query : IfOfKind kind result

bad_ray : (place : ℕ) → IsMeaning Rays place (Err (BadRay place))
bad_ray place = record { fault = record { here = refl; own = refl }; query = tt }

bad_point : (place : ℕ) → IsMeaning Points place (Err (BadPoint place))
bad_point place = record { fault = record { here = refl; own = refl }; query = tt }

ranged_ray : (place : ℕ) (result : Result RayShape RayFault) → IsMeaning Rays place (ray_in_range place result)
ranged_ray place (Ok ray) = record { fault = tt; query = refl }
ranged_ray place (Err fault) = record { fault = record { here = refl; own = refl }; query = tt }

ray_means : (place : ℕ) (origin direction : Option (List ℤ)) → IsMeaning Rays place (ray_between place origin direction)
ray_means place None direction = bad_ray place
ray_means place (Some origin) None = bad_ray place
ray_means place (Some origin) (Some direction) = ranged_ray place (ray_from origin direction)

ranged_point : (near : Bool) (place : ℕ) (at : List ℤ) → IsMeaning Points place (if near then Ok (Point at) else Err (PointRange place))
ranged_point true place at = record { fault = tt; query = refl }
ranged_point false place at = record { fault = record { here = refl; own = refl }; query = tt }

point_means : (place : ℕ) (at : Option (List ℤ)) → IsMeaning Points place (point_at place at)
point_means place None = bad_point place
point_means place (Some at) = ranged_point (list_all (is_within (2 ^ 40)) at) place at

by_count : (kind : QueryKind) (counted : Bool) (place : ℕ) (query bad : Result Query LineFault) → IsMeaning kind place query → IsMeaning kind place bad → IsMeaning kind place (if counted then query else bad)
by_count kind true place query bad means none = means
by_count kind false place query bad means none = none

query_means : (kind : QueryKind) (place : ℕ) (words : List (List ℕ)) → IsMeaning kind place (query_of kind place words)
unfolding ray_of point_of
query_means Rays place words =
    by_count Rays (length words == 6) place (ray_between place (three_from words 0) (three_from words 3)) (Err (BadRay place)) (ray_means place (three_from words 0) (three_from words 3)) (bad_ray place)
query_means Points place words = by_count Points (length words == 3) place (point_at place (three_from words 0)) (Err (BadPoint place)) (point_means place (three_from words 0)) (bad_point place)

-- what a line means
pub record IsLineMeaning (kind : QueryKind) (place : ℕ) (result : Result (Option Query) LineFault) : Type 0 where
  pub fault : IfFaultAt kind place result
  pub query : IfOk (line_of result) (IsLineOf kind)

asked_means : (kind : QueryKind) (place : ℕ) (result : Result Query LineFault) → IsMeaning kind place result → IsLineMeaning kind place (asked result)
asked_means kind place (Ok query) means = record { fault = tt; query = means.query }
asked_means kind place (Err fault) means = record { fault = means.fault; query = tt }

by_empty : (empty : Bool) (kind : QueryKind) (place : ℕ) (result : Result (Option Query) LineFault) → IsLineMeaning kind place result → IsLineMeaning kind place (if empty then Ok None else result)
by_empty true kind place result means = record { fault = tt; query = tt }
by_empty false kind place result means = means

line_means : (kind : QueryKind) (place : ℕ) (words : List (List ℕ)) → IsLineMeaning kind place (line_meaning kind place words)
unfolding line_meaning
line_means kind place words = by_empty (length words == 0) kind place (asked (query_of kind place words)) (asked_means kind place (query_of kind place words) (query_means kind place words))

-- a line was there
pub line_read : (kind : QueryKind) (a b : Reading) (line : Piece) (m : Result (Option Query) LineFault) (result : Result Line LineStop) → a.stopped ≡ None → LineCall a b (Ok (Some line))
    → m ≡ line_meaning kind line.place (line_words line.bytes) → result ≡ line_of m → ReadsLine kind a b result
line_read kind a b line m result free call is same =
    let P : Result Line LineStop → Type 0 = λ r. ReadsLine kind a b r in
    subst P (sym same) (by_meaning m is)
  where
    means : (m : Result (Option Query) LineFault) → m ≡ line_meaning kind line.place (line_words line.bytes) → IsLineMeaning kind line.place m
    means m is = subst (IsLineMeaning kind line.place) (sym is) (line_means kind line.place (line_words line.bytes))

    found : (text : List ℕ) (later : QueryText) → a.left ≡ Some text → with_line kind (next_line_of a.place text) later ≡ with_meaning (line_meaning kind line.place (line_words line.bytes)) later
    found text later told = ap (λ r. with_line kind r later) (sym (call.call.answer text told free (λ e. cc e)))

    by_meaning : (m : Result (Option Query) LineFault) → m ≡ line_meaning kind line.place (line_words line.bytes) → ReadsLine kind a b (line_of m)
    by_meaning (Ok None) is = record {
      later = call.call.later;
      failed = λ e. absurd (cc e);
      text_only = tt;
      asks = tt;
      free = call.call.stops;
      onward = λ _. call.bounds.1;
      ended = λ text told e. absurd (cc e);
      reached = tt;
      stands = λ text stands. stands_after next_line_of line_size a b (Ok (Some line)) text call.call stands;
      passed = λ text told. call.call.passed text told;
      told = λ text later told _. found text later told ∙ ap (λ r. with_meaning r later) (sym is);
    }
    by_meaning (Ok (Some query)) is = record {
      later = call.call.later;
      failed = λ e. absurd (cc e);
      text_only = tt;
      asks = (means (Ok (Some query)) is).query;
      free = call.call.stops;
      onward = λ _. call.bounds.1;
      ended = λ text told e. absurd (cc e);
      reached = tt;
      stands = λ text stands. stands_after next_line_of line_size a b (Ok (Some line)) text call.call stands;
      passed = λ text told. call.call.passed text told;
      told = λ text later told _. found text later told ∙ ap (λ r. with_meaning r later) (sym is);
    }
    by_meaning (Err fault) is = record {
      later = call.call.later;
      failed = λ e. absurd (cc e);
      text_only = (means (Err fault) is).fault.own;
      asks = tt;
      free = tt;
      onward = tt;
      ended = λ text told e. absurd (cc e);
      reached = omega (arith, (means (Err fault) is).fault.here, call.bounds.0, call.bounds.1);
      stands = λ text stands. stands_after next_line_of line_size a b (Ok (Some line)) text call.call stands;
      passed = λ text told. tt;
      told = λ text later told _. found text later told ∙ ap (λ r. with_meaning r later) (sym is);
    }

-- no line is left
pub end_read : (kind : QueryKind) (a b : Reading) → a.stopped ≡ None → LineCall a b (Ok None) → ReadsLine kind a b (Ok End)
end_read kind a b free call = record {
  later = call.call.later;
  failed = λ e. absurd (cc e);
  text_only = tt;
  asks = tt;
  free = call.call.stops;
  onward = λ other. absurd (other refl);
  ended = λ text told _.
      let empty : text ≡ [] = call.whole text told in
      let passed = call.call.passed text told in
      (passed.0 ∙ ap (λ t. Some (drop (line_size t) t)) empty, call.call.ended);
  reached = tt;
  stands = λ text stands. stands_after next_line_of line_size a b (Ok None) text call.call stands;
  passed = λ text told. call.call.passed text told;
  told = λ text later told _. ap (λ r. with_line kind r later) (sym (call.call.answer text told free (λ e. cc e)));
}

-- what stops the reading of lines
fault_is_text : (kind : QueryKind) (fault : TextFault) → IsTextStop kind (stop_of fault)
fault_is_text kind (texts.LineTooLong place) = tt
fault_is_text kind (texts.TokenTooLong place) = tt
fault_is_text kind texts.TooLong = tt
fault_is_text kind texts.ReadFault = tt

read_fault : (fault : TextFault) → stop_of fault ≡ ReadFault → fault ≡ texts.ReadFault
read_fault (texts.LineTooLong place) e = absurd (cc e)
read_fault (texts.TokenTooLong place) e = absurd (cc e)
read_fault texts.TooLong e = absurd (cc e)
read_fault texts.ReadFault e = refl

fault_reached : (fault : TextFault) (n : ℕ) → fault_end fault ≤ n → stop_place (stop_of fault) ≤ n
fault_reached (texts.LineTooLong place) n h = omega (arith, h)
fault_reached (texts.TokenTooLong place) n h = omega (arith, h)
fault_reached texts.TooLong n h = omega (arith, h)
fault_reached texts.ReadFault n h = omega arith

pub fault_read : (kind : QueryKind) (a b : Reading) (fault : TextFault) (stop : LineStop) → a.stopped ≡ None → LineCall a b (Err fault) → stop ≡ stop_of fault → ReadsLine kind a b (Err stop)
fault_read kind a b fault stop free call is = subst (λ s. ReadsLine kind a b (Err s)) (sym is) (record {
  later = call.call.later;
  failed = λ e. let same : stop_of fault ≡ ReadFault = cc e in call.call.failed free (ap Err (read_fault fault same));
  text_only = fault_is_text kind fault;
  asks = tt;
  free = tt;
  onward = tt;
  ended = λ text told e. absurd (cc e);
  reached = fault_reached fault (b.place + b.ahead) (call.call.reached free);
  stands = λ text stands. stands_after next_line_of line_size a b (Err fault) text call.call stands;
  passed = λ text told. tt;
  told = λ text later told ok. ap (λ r. with_line kind r later) (sym (call.call.answer text told free (λ e. let same : fault ≡ texts.ReadFault = cc e in ok (ap (λ f. Err (stop_of f)) same))));
})
