-- Words that were given in two calls.
use Rattle.std.proofs.Common.{List, ◌++◌, ap, ◌∙◌, subst, append_assoc, append-nil, sym, []}
use Rattle.std.proofs.Common.{ℕ}
use Rattle.std.specs.Prelude.{Option}
use Rattle.level_queues.specs.GivenWords.{with_words}
use Rattle.level_queues.specs.Pushed.{GoesOn}
use Rattle.level_queues.proofs.Wording.{with-none, with-append}

pub goes_nowhere : (words : List ℕ) (told : Option (List ℕ)) (Holds : List ℕ → Type 0) → Holds words → GoesOn words told told Holds
goes_nowhere words told Holds holds = record { more = []; grown = sym (with-none told); holds = subst Holds (sym (append-nil words)) holds }

pub goes_further : (words : List ℕ) (first second third : Option (List ℕ)) (Before After : List ℕ → Type 0) → GoesOn words first second Before
    → ((all : List ℕ) → Before all → GoesOn all second third After) → GoesOn words first third After
goes_further words first second third Before After on step =
    let next : GoesOn (words ++ on.more) second third After = step (words ++ on.more) on.holds in
    record {
      more = on.more ++ next.more;
      grown = next.grown ∙ (ap (λ told. with_words told next.more) on.grown ∙ with-append first on.more next.more);
      holds = subst After (append_assoc words on.more next.more) next.holds;
    }
