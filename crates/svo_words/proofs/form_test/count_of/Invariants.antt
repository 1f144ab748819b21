use Rattle.std.proofs.Common.{◌≡◌, ◌≤◌, map, drop, option_map}
use Rattle.std.specs.String.{string_bytes}
use Rattle.svo_words.specs.Settings.{count_of}
use Rattle.svo_words.specs.Steps.{settings_of}
use Rattle.svo_words.specs.Counting.{counted_on}
use Rattle.svo_words.proofs.form_test.count_of.Given as goal

abbrev pub invariant-loop-word : goal.invariant-loop-word
invariant-loop-word l = record {
  within : l.count ≤ l.word-index;
  same : counted_on l.choices l.name l.count (option_map (λ name. name.now) l.waiting) (drop l.word-index (map string_bytes l.words))
      ≡ option_map (count_of l.name) (settings_of l.choices (map string_bytes l.words));
}
