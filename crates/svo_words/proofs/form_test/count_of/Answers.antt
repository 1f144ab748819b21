use Rattle.std.proofs.Common.{Bor, ℕ, ◌+◌, List, map, drop, option_map, rules, sym, ap, ◌∙◌}
use Rattle.std.specs.String.{string_bytes}
use Rattle.svo_words.specs.Names.{step_seen}
use Rattle.svo_words.specs.Steps.{settings_of}
use Rattle.svo_words.specs.Counting.{counted_on}
use Rattle.svo_words.proofs.Counts.{none_whole, word_lost, word_counts, word_at, count_at_end, no_count_at_end}
use Rattle.svo_words.proofs.form_test.count_of.Goals as goal

pub loop-word-init : goal.loop-word-init
loop-word-init c = record { within = search rules; same = none_whole c.args.name.now (settings_of c.args.choices.now (map string_bytes c.args.words.now)) }

pub returns-in_err-step : goal.returns-in_err-step
returns-in_err-step c =
    let choices = c.args.choices.now in
    let name = c.args.name.now in
    let texts = map string_bytes c.args.words.now in
    let i = c.loop-word.word-index in
    let waiting = option_map (λ (one : Bor (List ℕ)). one.now) c.loop-word.waiting in
    let here = word_at string_bytes c.args.words.now i c.word-item.result c.as_str.result.now (search rules) c.word-item.is c.as_str.ensures.value in
    let lost = word_lost choices name c.as_str.result.now (drop (i + 1) texts) c.loop-word.count waiting c.in_err-step.ensures in
    c.from_residual.ensures ∙ lost ∙ sym (ap (λ ws. counted_on choices name c.loop-word.count waiting ws) here) ∙ c.loop-word.invariant.same

pub loop-word-preserved : goal.loop-word-preserved
loop-word-preserved c =
    let choices = c.args.choices.now in
    let name = c.args.name.now in
    let texts = map string_bytes c.args.words.now in
    let i = c.loop-word.word-index in
    let waiting = option_map (λ (one : Bor (List ℕ)). one.now) c.loop-word.waiting in
    let here = word_at string_bytes c.args.words.now i c.word-item.result c.as_str.result.now (search rules) c.word-item.is c.as_str.ensures.value in
    let passed = word_counts choices name c.as_str.result.now (drop (i + 1) texts) c.loop-word.count waiting (step_seen c.in_ok-step.step) c.in_ok-step.ensures in
    let done = (step_seen c.in_ok-step.step).done in
    record {
      within = search rules;
      same = ap (λ n. counted_on choices name (c.loop-word.count + n) (step_seen c.in_ok-step.step).waiting (drop (i + 1) texts)) c.count_done-count.ensures
          ∙ sym passed ∙ sym (ap (λ ws. counted_on choices name c.loop-word.count waiting ws) here) ∙ c.loop-word.invariant.same;
    }

pub returns-in-None : goal.returns-in-None
returns-in-None c = count_at_end string_bytes c.args.words.now c.loop-word.word-index c.loop-word.count c.args.choices.now c.args.name.now c.loop-word.waiting _
    c.loop-word-test.false c.in-None.is c.loop-word.invariant.same

pub returns-in-Some : goal.returns-in-Some
returns-in-Some c = no_count_at_end string_bytes c.args.words.now c.loop-word.word-index c.loop-word.count c.args.choices.now c.args.name.now c.loop-word.waiting _ _
    c.loop-word-test.false c.in-Some.is c.loop-word.invariant.same
