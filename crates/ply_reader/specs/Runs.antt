-- What a call does to a reader of text, in terms of a step.
use Rattle.std.specs.Prelude.{◌≡◌, ◌≢◌, ℕ, ◌+◌, ◌≤◌, List, None, Some, Result, Ok, Err, IfOk, IfErr, MatchResult}
use Rattle.dev_traits.specs.Faults.{Rose}
use Rattle.ply_text.specs.Reading.{Reading, StandsIn}
use Rattle.ply_reader.specs.declared.fault.PlyFault.{PlyFault}
use Rattle.ply_reader.specs.declared.fault.PlyFault.TheVariants.{Refused, ReadFault}
use Rattle.ply_reader.specs.Cursors.{Cursor, Step, at}

-- the place of a refusal: all bytes before it were read
abbrev pub refused_place : PlyFault → ℕ
refused_place (Refused kind place) = place
refused_place ReadFault = 0

-- the result is the one of a step, and the reader stands where the step goes on
abbrev pub Gives : {A : Type 0} → Result (A × Cursor) PlyFault → Reading → Result A PlyFault → Type 0
Gives {A} step new result =
    MatchResult result (λ a. (rest : List ℕ) × (new.left ≡ Some rest) × (step ≡ Ok (a, at new.place rest))) (λ fault. step ≡ Err fault)

-- a call takes a step: for told bytes its result is the step's, or the source failed in it
pub record Runs {A : Type 0} (step : Step A) (old new : Reading) (result : Result A PlyFault) : Type 0 where
  pub later : old.faults ≤ new.faults
  pub failed : result ≡ Err ReadFault → Rose old.faults new.faults
  pub free : IfOk result (λ _. new.stopped ≡ None)
  pub reached : IfErr result (λ fault. refused_place fault ≤ new.place + new.ahead)
  pub stands : (text : List ℕ) → StandsIn text old → StandsIn text new
  pub told : (text : List ℕ) → old.left ≡ Some text → result ≢ Err ReadFault → Gives (step (at old.place text)) new result

-- of a whole step the step `next` is left
pub record Comes {A : Type 0} (whole next : Step A) (old new : Reading) : Type 0 where
  pub later : old.faults ≤ new.faults
  pub free : new.stopped ≡ None
  pub stands : (text : List ℕ) → StandsIn text old → StandsIn text new
  pub told : (text : List ℕ) → old.left ≡ Some text → (rest : List ℕ) × (new.left ≡ Some rest) × (whole (at old.place text) ≡ next (at new.place rest))
