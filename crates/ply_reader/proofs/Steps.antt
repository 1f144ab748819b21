-- Calls that take one step after the other.
use Rattle.std.proofs.Common.{◌≡◌, ◌≢◌, ℕ, ◌≤◌, refl, sym, ap, ◌∙◌, subst, arith, None, Result, Ok, Err, le_refl, le_trans, ⊎_elim, inl, inr}
use Rattle.std.specs.Result.{IsErr, IsErrAnd}
use Rattle.dev_traits.specs.Faults.{Rose}
use Rattle.ply_text.specs.Reading.{Reading}
use Rattle.ply_reader.specs.declared.fault.PlyFault.{PlyFault}
use Rattle.ply_reader.specs.declared.fault.PlyFault.TheVariants.{ReadFault}
use Rattle.ply_reader.specs.Cursors.{Cursor, Step, at, onward, done}
use Rattle.ply_reader.specs.Runs.{Gives, Runs, Comes}

-- a count that rose later rose
pub rose_later : (a b c : ℕ) → a ≤ b → Rose b c → Rose a c
rose_later a b c le = ⊎_elim (λ less. inl (omega (arith, le, less))) (λ last. inr last)

abbrev no_fault : {A : Type 0} → A → Result A PlyFault
no_fault x = Ok x

ok_is_no_fault : {A : Type 0} (x : A) → no_fault x ≢ Err ReadFault
ok_is_no_fault x e = cc e

-- the same result of the same step in other words
pub gives_as : {A : Type 0} (step other : Result (A × Cursor) PlyFault) (new : Reading) (result : Result A PlyFault) → other ≡ step → Gives step new result → Gives other new result
gives_as step other new result same gives = subst (λ s. Gives s new result) (sym same) gives

pub runs_as : {A : Type 0} (step other : Step A) (a b : Reading) (result : Result A PlyFault) → ((c : Cursor) → other c ≡ step c) → Runs step a b result → Runs other a b result
runs_as step other a b result same runs = record {
  later = runs.later;
  failed = runs.failed;
  free = runs.free;
  reached = runs.reached;
  stands = runs.stands;
  told = λ text told ok. gives_as (step (at a.place text)) (other (at a.place text)) b result (same (at a.place text)) (runs.told text told ok);
}

pub runs_done : {A : Type 0} (x : A) (a : Reading) → a.stopped ≡ None → Runs (done x) a a (Ok x)
runs_done x a free = record {
  later = le_refl a.faults;
  failed = λ e. absurd (ok_is_no_fault x e);
  free = free;
  reached = tt;
  stands = λ text stands. stands;
  told = λ text told _. (text, told, refl);
}

pub comes_self : {A : Type 0} (step : Step A) (a : Reading) → a.stopped ≡ None → Comes step step a a
comes_self step a free = record { later = le_refl a.faults; free = free; stands = λ text stands. stands; told = λ text told. (text, told, refl) }

pub comes_as : {A : Type 0} (whole next other : Step A) (a b : Reading) → ((c : Cursor) → next c ≡ other c) → Comes whole next a b → Comes whole other a b
comes_as whole next other a b same comes = record {
  later = comes.later;
  free = comes.free;
  stands = comes.stands;
  told = λ text told. let c = comes.told text told in (c.0, c.1, c.2 ∙ same (at b.place c.0));
}

-- one step is taken, and the rest of the whole is left
pub comes_on : {A B : Type 0} (whole : Step B) (step : Step A) (next : A → Step B) (a b c : Reading) (x : A)
    → Comes whole (λ k. onward (step k) next) a b → Runs step b c (Ok x) → Comes whole (next x) a c
comes_on whole step next a b c x comes runs = record {
  later = le_trans comes.later runs.later;
  free = runs.free;
  stands = λ text stands. runs.stands text (comes.stands text stands);
  told = λ text told.
      let before = comes.told text told in
      let after = runs.told before.0 before.1 (ok_is_no_fault x) in
      (after.0, after.1, before.2 ∙ ap (λ r. onward r next) after.2);
}

-- what is left of the whole is taken
pub comes_ends : {A : Type 0} (whole next : Step A) (a b c : Reading) (result : Result A PlyFault) → Comes whole next a b → Runs next b c result → Runs whole a c result
comes_ends whole next a b c result comes runs = record {
  later = le_trans comes.later runs.later;
  failed = λ is. rose_later a.faults b.faults c.faults comes.later (runs.failed is);
  free = runs.free;
  reached = runs.reached;
  stands = λ text stands. runs.stands text (comes.stands text stands);
  told = λ text told ok.
      let before = comes.told text told in
      gives_as (next (at b.place before.0)) (whole (at a.place text)) c result before.2 (runs.told before.0 before.1 ok);
}

-- a step that is refused refuses the whole
pub stops : {A B : Type 0} (step : Step A) (next : A → Step B) (a b : Reading) (fault : PlyFault) → Runs step a b (Err fault) → Runs (λ k. onward (step k) next) a b (Err fault)
stops step next a b fault runs = record {
  later = runs.later;
  failed = λ is. let same : fault ≡ ReadFault = cc is in runs.failed (ap Err same);
  free = tt;
  reached = runs.reached;
  stands = runs.stands;
  told = λ text told ok. ap (λ r. onward r next) (runs.told text told (λ is. let same : fault ≡ ReadFault = cc is in ok (ap Err same)));
}

-- one step, and then another one
pub runs_then : {A B : Type 0} (step : Step A) (next : A → Step B) (a b c : Reading) (x : A) (result : Result B PlyFault)
    → Runs step a b (Ok x) → Runs (next x) b c result → Runs (λ k. onward (step k) next) a c result
runs_then step next a b c x result first second =
    let whole : Step _ = λ k. onward (step k) next in
    let start : Comes whole (next x) a b = record {
      later = first.later;
      free = first.free;
      stands = first.stands;
      told = λ text told. let after = first.told text told (ok_is_no_fault x) in (after.0, after.1, ap (λ r. onward r next) after.2);
    } in
    comes_ends whole (next x) a b c result start second

-- one step, whose value is changed
pub runs_maps : {A B : Type 0} (step : Step A) (f : A → B) (a b : Reading) (x : A) → Runs step a b (Ok x) → Runs (λ k. onward (step k) (λ y. done (f y))) a b (Ok (f x))
runs_maps step f a b x first = runs_then step (λ y. done (f y)) a b b x (Ok (f x)) first (runs_done (f x) b first.free)

-- what a call gave
pub runs_given : {A : Type 0} (step : Step A) (a b : Reading) (result other : Result A PlyFault) → result ≡ other → Runs step a b result → Runs step a b other
runs_given step a b result other is runs = subst (Runs step a b) is runs

-- what `?` answers
pub err_is : {A : Type 0} (result : Result A PlyFault) (fault : PlyFault) → IsErr result × IsErrAnd result (λ e. e ≡ fault) → result ≡ Err fault
err_is (Ok x) fault h = absurd (let e = h.0 in cc)
err_is (Err e) fault h = ap Err h.1

-- a call by `?` whose answer was a fault: the whole step is refused too
pub stops_whole : {A B : Type 0} (whole : Step B) (step : Step A) (next : A → Step B) (a b c : Reading) (result : Result A PlyFault) (fault : PlyFault) (last : Result B PlyFault)
    → Comes whole (λ k. onward (step k) next) a b → result ≡ Err fault → Runs step b c result → IsErr last × IsErrAnd last (λ e. e ≡ fault) → Runs whole a c last
stops_whole whole step next a b c result fault last comes was runs is =
    let stopped = stops step next b c fault (runs_given step b c result (Err fault) was runs) in
    runs_given whole a c (Err fault) last (sym (err_is last fault is)) (comes_ends whole (λ k. onward (step k) next) a b c (Err fault) comes stopped)
