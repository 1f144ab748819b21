-- Counting the settings of an option, a word at a time.
use Rattle.std.proofs.Common.{Bor, ◌≡◌, ℕ, suc, ◌+◌, ◌<◌, ◌≤◌, List, [], ◌∷◌, length, map, drop, get_or, drop-cons, Option, None, Some, option_map, arith, refl, sym, ap, ◌∙◌}
use Rattle.std.proofs.lemmas.List.{drop-map, length-map}
use Rattle.std.proofs.Math.ListN.{drop_of_length-le}
use Rattle.std.specs.List.{cons_option}
use Rattle.svo_words.specs.Choices.{Choice}
use Rattle.svo_words.specs.Settings.{Setting, count_of}
use Rattle.svo_words.specs.Steps.{Step, step_of, after_step, settings_from}
use Rattle.svo_words.specs.Names.{StepNames, names_of_step, count_done}
use Rattle.svo_words.specs.Counting.{counted_on}

count_more : (name : List ℕ) (done : Option Setting) (more : List Setting)
    → count_of name (cons_option done more) ≡ count_done name (option_map (λ setting. setting.name) done) + count_of name more
count_more name None more = omega arith
count_more name (Some setting) more = refl

pub none_whole : (name : List ℕ) (o : Option (List Setting))
    → option_map (λ settings. 0 + count_of name settings) o ≡ option_map (count_of name) o
none_whole name None = refl
none_whole name (Some settings) = ap Some (omega arith)

-- a word that spells nothing
pub word_lost : (choices : List Choice) (name word : List ℕ) (rest : List (List ℕ)) (count : ℕ) (waiting : Option (List ℕ))
    → None ≡ names_of_step (step_of choices waiting word) → None ≡ counted_on choices name count waiting (word ∷ rest)
unfolding settings_from
word_lost choices name word rest count waiting lost = go (step_of choices waiting word) lost
  where
    go : (o : Option Step) → None ≡ names_of_step o
        → None ≡ option_map (λ settings. count + count_of name settings) (after_step o (λ next. settings_from choices next rest))
    go None e = refl
    go (Some step) e = absurd cc

-- a word that is passed
pub word_counts : (choices : List Choice) (name word : List ℕ) (rest : List (List ℕ)) (count : ℕ) (waiting : Option (List ℕ)) (names : StepNames)
    → Some names ≡ names_of_step (step_of choices waiting word)
    → counted_on choices name count waiting (word ∷ rest) ≡ counted_on choices name (count + count_done name names.done) names.waiting rest
unfolding settings_from
word_counts choices name word rest count waiting names passed = go (step_of choices waiting word) passed
  where
    joined : (set : Option Setting) (o : Option (List Setting)) → option_map (λ settings. count + count_of name settings) (option_map (cons_option set) o)
        ≡ option_map (λ settings. count + count_done name (option_map (λ setting. setting.name) set) + count_of name settings) o
    joined set None = refl
    joined set (Some more) = ap Some (omega (arith, count_more name set more))

    go : (o : Option Step) → Some names ≡ names_of_step o
        → option_map (λ settings. count + count_of name settings) (after_step o (λ next. settings_from choices next rest))
        ≡ option_map (λ settings. count + count_done name names.done + count_of name settings) (settings_from choices names.waiting rest)
    go None e = absurd cc
    go (Some step) e =
        let same : names ≡ record { waiting = step.waiting; done = option_map (λ (setting : Setting). setting.name) step.done } = cc in
        rw same (joined step.done (settings_from choices step.waiting rest))

-- at the end
pub all_counted : (choices : List Choice) (name : List ℕ) (count : ℕ) → Some count ≡ counted_on choices name count None []
unfolding settings_from
all_counted choices name count = ap Some (omega arith)

pub value_missing : (choices : List Choice) (name waiting : List ℕ) (count : ℕ) → None ≡ counted_on choices name count (Some waiting) []
unfolding settings_from
value_missing choices name waiting count = refl

-- the word at a place comes next
pub word_at : {A : Type 0} (seen : A → List ℕ) (words : List A) (i : ℕ) (word : A) (text : List ℕ) → i < length words → word ≡ get_or words i word
    → text ≡ seen word → drop i (map seen words) ≡ text ∷ drop (i + 1) (map seen words)
word_at seen words i word text within at is =
    let next : i + 1 ≡ suc i = omega arith in
    drop-map seen i words ∙ ap (map seen) (drop-cons words i word within)
    ∙ ap (λ w. seen w ∷ map seen (drop (suc i) words)) (sym at) ∙ ap (λ t. t ∷ map seen (drop (suc i) words)) (sym is)
    ∙ ap (λ ts. text ∷ ts) (sym (drop-map seen (suc i) words)) ∙ ap (λ k. text ∷ drop k (map seen words)) (sym next)

pub none_left : {A : Type 0} (seen : A → List ℕ) (words : List A) (i : ℕ) → length words ≤ i → drop i (map seen words) ≡ []
none_left seen words i past = drop_of_length-le (map seen words) (omega (arith, length-map words seen))

-- the count at the end of the words
pub count_at_end : {A : Type 0} (seen : A → List ℕ) (words : List A) (i count : ℕ) (choices : List Choice) (name : List ℕ) (waiting : Option (Bor (List ℕ))) (whole : Option ℕ)
    → length words ≤ i → waiting ≡ None
    → counted_on choices name count (option_map (λ one. one.now) waiting) (drop i (map seen words)) ≡ whole → Some count ≡ whole
count_at_end seen words i count choices name waiting whole past none same =
    all_counted choices name count
    ∙ sym (ap (λ (w : Option (Bor (List ℕ))). counted_on choices name count (option_map (λ one. one.now) w) []) none)
    ∙ sym (ap (λ ws. counted_on choices name count (option_map (λ one. one.now) waiting) ws) (none_left seen words i past)) ∙ same

pub no_count_at_end : {A : Type 0} (seen : A → List ℕ) (words : List A) (i count : ℕ) (choices : List Choice) (name : List ℕ) (waiting : Option (Bor (List ℕ))) (one : Bor (List ℕ))
    (whole : Option ℕ) → length words ≤ i → waiting ≡ Some one
    → counted_on choices name count (option_map (λ one. one.now) waiting) (drop i (map seen words)) ≡ whole → None ≡ whole
no_count_at_end seen words i count choices name waiting one whole past some same =
    value_missing choices name one.now count
    ∙ sym (ap (λ (w : Option (Bor (List ℕ))). counted_on choices name count (option_map (λ one. one.now) w) []) some)
    ∙ sym (ap (λ ws. counted_on choices name count (option_map (λ one. one.now) waiting) ws) (none_left seen words i past)) ∙ same
