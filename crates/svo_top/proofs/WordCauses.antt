-- From what the words mean to what a run does.
use Rattle.std.proofs.Common.{◌≡◌, ◌≢◌, ◌⊎◌, ℕ, false, List, [], Option, None, Some, Result, Ok, Err, inl, inr, refl, sym, ap, ◌∙◌, subst}
use Rattle.dev_traits.specs.Change.{Change, ScratchChange, StoreChange, IsKept, IsScratchKept}
use Rattle.svo_words.specs.Forms.{form_of}
use Rattle.svo_words.specs.Meaning.{Means}
use Rattle.svo_words.specs.Reading.{IsRead}
use Rattle.svo_words.specs.declared.build.BuildWords.{BuildWords}
use Rattle.svo_words.specs.declared.why.WhyWords.{WhyWords}
use Rattle.svo_words.specs.declared.commands.Command.{Command}
use Rattle.svo_words.specs.declared.commands.Command.TheVariants.{Build, Why, Check, Has, Cells, Lift, Cast, Slice, View, Make, Sum, Near, Merge, Coarse}
use Rattle.svo_words.specs.declared.commands.WordFault.{WordFault}
use Rattle.svo_words.specs.declared.commands.WordFault.TheVariants as word
use Rattle.svo_words.proofs.Meanings.{one_meaning_is}
use Rattle.svo_top.specs.FileQuestion.{Asks}
use Rattle.svo_top.specs.Build.{BuildRun, Finished, IsUntouched}
use Rattle.svo_top.specs.Commands.{takes_memory}
use Rattle.svo_top.specs.CommandRuns.{Does, IsForgotten, QuestionRun}
use Rattle.svo_top.specs.Lines.{Says, stop_line}
use Rattle.svo_top.specs.Causes.{UsageCauses, RangeCauses, RefusalCauses, KeepsDevices}
use Rattle.svo_top.specs.Endings.{status_of, line_of, EndsBuild, EndsWhy, EndsQuietly}
use Rattle.svo_top.specs.NodeFiles.{Tells}
use Rattle.svo_top.specs.CommandEndings.{CarriesOut, CarriesOutQuestion, Stops}
use Rattle.svo_top.specs.Ranges.{range_of}
use Rattle.svo_top.specs.Sum.{EndsSum}
use Rattle.svo_top.specs.Usage.{fault_of, status_of_fault}
use Rattle.svo_top.specs.Why.{WhyRun}
use Rattle.svo_top.specs.declared.file_question.Question.{Question}
use Rattle.svo_top.specs.declared.outcome.Status.{Status}
use Rattle.svo_top.specs.declared.outcome.Status.TheVariants.{Done, Usage, Input, Range, Device, Refused, Memory}
use Rattle.svo_top.specs.declared.outcome.UsageKind.{UsageKind}
use Rattle.svo_top.specs.declared.outcome.UsageKind.TheVariants as usage_kind
use Rattle.svo_top.specs.declared.outcome.InputKind.{InputKind}
use Rattle.svo_top.specs.declared.outcome.RangeFault.{RangeFault}
use Rattle.svo_top.specs.declared.outcome.NodeRefusal.{NodeRefusal}
use Rattle.svo_top.specs.declared.reporting.Ending.{Ending}
use Rattle.svo_top.specs.declared.reporting.Ending.TheVariants.{Built as EndsBuilt, Answered, Stopped}

-- ---- the words could not be read

fault_back : (wanted : Result Command WordFault) (fault : WordFault) → IsRead wanted (Err fault) → (fault ≡ word.Memory → ⊥) → wanted ≡ Err fault
fault_back (Ok command) fault (inl e) rest = absurd cc
fault_back (Ok command) fault (inr e) rest = absurd (rest cc)
fault_back (Err word.Command) fault e rest = sym e
fault_back (Err word.Options) fault e rest = sym e
fault_back (Err word.Value) fault (inl e) rest = sym e
fault_back (Err word.Value) fault (inr e) rest = absurd (rest cc)
fault_back (Err word.Memory) fault e rest = absurd (rest cc)

module _ (words : List (List ℕ)) (fault : WordFault) (read : IsRead (form_of words) (Err fault)) where
  read_at : (wanted : Result Command WordFault) → Means words wanted → IsRead wanted (Err fault)
  read_at wanted means = let P : Result Command WordFault → Type 0 = λ r. IsRead r (Err fault) in subst P ((one_meaning_is words wanted).1 means) read

  memory_from : (command : Command) → Means words (Ok command) → fault ≡ word.Memory
  memory_from command means = go (read_at (Ok command) means)
    where
      go : IsRead {A = Command} (Ok command) (Err fault) → fault ≡ word.Memory
      go (inl e) = absurd cc
      go (inr e) = cc

  kind_back : (kind : UsageKind) → status_of_fault fault ≡ Usage kind → fault ≡ fault_of kind
  kind_back kind e = go fault refl e
    where
      go : (f : WordFault) → fault ≡ f → status_of_fault f ≡ Usage kind → fault ≡ fault_of kind
      go word.Command is s = let same : usage_kind.Command ≡ kind = cc in is ∙ ap fault_of same
      go word.Options is s = let same : usage_kind.Options ≡ kind = cc in is ∙ ap fault_of same
      go word.Value is s = let same : usage_kind.Value ≡ kind = cc in is ∙ ap fault_of same
      go word.Memory is s = absurd cc

  no_memory : (kind : UsageKind) → fault ≡ fault_of kind → fault ≡ word.Memory → ⊥
  no_memory usage_kind.Command e m = cc
  no_memory usage_kind.Options e m = cc
  no_memory usage_kind.Value e m = cc

  pub usage_of_fault : UsageCauses words (status_of_fault fault)
  usage_of_fault = record {
    command = λ means. let same : fault ≡ word.Command = (let e = read_at (Err word.Command) means in cc) in ap status_of_fault same;
    options = λ means. let same : fault ≡ word.Options = (let e = read_at (Err word.Options) means in cc) in ap status_of_fault same;
    value = λ means. go (read_at (Err word.Value) means);
    only = λ kind e.
        let same = kind_back kind e in
        (one_meaning_is words (Err (fault_of kind))).0 (fault_back (form_of words) fault read (no_memory kind same) ∙ ap Err same);
  }
    where
      go : IsRead {A = Command} (Err word.Value) (Err fault) → (status_of_fault fault ≡ Usage usage_kind.Value) ⊎ (status_of_fault fault ≡ Memory)
      go (inl e) = let same : fault ≡ word.Value = cc in inl (ap status_of_fault same)
      go (inr e) = let same : fault ≡ word.Memory = cc in inr (ap status_of_fault same)

  pub range_of_fault : RangeCauses words (status_of_fault fault)
  range_of_fault = record {
    comes = λ command f means is. inr (ap status_of_fault (memory_from command means));
    only = λ f e. absurd (go fault f e);
  }
    where
      go : (one : WordFault) (f : RangeFault) → status_of_fault one ≡ Range f → ⊥
      go word.Command f e = cc
      go word.Options f e = cc
      go word.Value f e = cc
      go word.Memory f e = cc

  pub refusal_of_fault : RefusalCauses words (status_of_fault fault)
  refusal_of_fault = record { input = λ kind place e. absurd (no_input fault kind place e); nodes = λ refusal e. absurd (no_refusal fault refusal e) }
    where
      no_input : (one : WordFault) (kind : InputKind) (place : ℕ) → status_of_fault one ≡ Input kind place → ⊥
      no_input word.Command kind place e = cc
      no_input word.Options kind place e = cc
      no_input word.Value kind place e = cc
      no_input word.Memory kind place e = cc

      no_refusal : (one : WordFault) (refusal : NodeRefusal) → status_of_fault one ≡ Refused refusal → ⊥
      no_refusal word.Command refusal e = cc
      no_refusal word.Options refusal e = cc
      no_refusal word.Value refusal e = cc
      no_refusal word.Memory refusal e = cc

  pub forgotten : (input out : Change) (scratch : ScratchChange) (nodes : StoreChange) → IsUntouched input out scratch → IsKept nodes → (command : Command) → Means words (Ok command)
      → IsForgotten input out scratch nodes (status_of_fault fault)
  forgotten input out scratch nodes untouched unlooked command means = record { memory = ap status_of_fault (memory_from command means); untouched = untouched; unlooked = unlooked }

-- ---- the words are a command

command_back : (wanted : Result Command WordFault) (command : Command) → IsRead wanted (Ok command) → wanted ≡ Ok command
command_back (Ok one) command (inl e) = sym e
command_back (Ok one) command (inr e) = absurd cc
command_back (Err word.Command) command e = absurd cc
command_back (Err word.Options) command e = absurd cc
command_back (Err word.Value) command (inl e) = absurd cc
command_back (Err word.Value) command (inr e) = absurd cc
command_back (Err word.Memory) command e = absurd cc

module _ (words : List (List ℕ)) (command : Command) (read : IsRead (form_of words) (Ok command)) where
  is_command : form_of words ≡ Ok command
  is_command = command_back (form_of words) command read

  no_fault : (fault : WordFault) → Means words (Err fault) → ⊥
  no_fault fault means =
      let other : form_of words ≡ Err fault = (one_meaning_is words (Err fault)).1 means in
      let both : ◌≡◌ {A = Result Command WordFault} (Ok command) (Err fault) = sym is_command ∙ other in
      cc

  same_command : (one : Command) → Means words (Ok one) → command ≡ one
  same_command one means =
      let other : form_of words ≡ Ok one = (one_meaning_is words (Ok one)).1 means in
      let both : ◌≡◌ {A = Result Command WordFault} (Ok command) (Ok one) = sym is_command ∙ other in
      cc

  pub carries_out_of : (input out : Change) (scratch : ScratchChange) (nodes : StoreChange) (ending : Ending) → CarriesOut command input out scratch nodes ending → (one : Command) → Means words (Ok one)
      → CarriesOut one input out scratch nodes ending
  carries_out_of input out scratch nodes ending carries_out one means = let P : Command → Type 0 = λ c. CarriesOut c input out scratch nodes ending in subst P (same_command one means) carries_out

  module _ (input out : Change) (scratch : ScratchChange) (nodes : StoreChange) (status : Status) (stops : Stops command input out scratch nodes status) where
    pub usage_of : UsageCauses words status
    usage_of = record {
      command = λ means. absurd (no_fault word.Command means);
      options = λ means. absurd (no_fault word.Options means);
      value = λ means. absurd (no_fault word.Value means);
      only = λ kind e. absurd (stops.usage kind e);
    }

    named : (one : Command) (fault : RangeFault) → Means words (Ok one) → range_of one ≡ Some fault → range_of command ≡ Some fault
    named one fault means is = ap range_of (same_command one means) ∙ is

    meant : Means words (Ok command)
    meant = (one_meaning_is words (Ok command)).0 is_command

    pub range_causes : RangeCauses words status
    range_causes = record {
      comes = λ one fault means is. inl (stops.comes fault (named one fault means is));
      only = λ fault e. (command, meant, stops.only fault e);
    }

    pub refusal_causes : RefusalCauses words status
    refusal_causes = record {
      input = λ kind place e. (command, meant, stops.reads kind place e);
      nodes = λ refusal e. (command, meant, stops.refused refusal e);
    }

    pub devices_kept : KeepsDevices words input out scratch nodes status
    devices_kept = record {
      usage = λ fault means. absurd (no_fault fault means);
      range = λ one fault means is. stops.unmoved fault (named one fault means is);
      memory = λ one means. subst (λ (c : Command). takes_memory c ≡ false → status ≡ Memory → IsUntouched input out scratch) (same_command one means) stops.memory;
      unspilled = stops.unspilled;
    }

-- ---- a whole run

finished_by : (words : BuildWords) (text out : Change) (scratch : ScratchChange) (err : Change) (ending : Ending) → EndsBuild words text out scratch ending → Says err (line_of ending)
    → status_of ending ≡ Done → Finished words text out scratch err
finished_by words text out scratch err (EndsBuilt counts) ends says e = record { counts = counts; built = ends; line = says }
finished_by words text out scratch err Answered ends says e = absurd ends
finished_by words text out scratch err (Stopped Done) ends says e = absurd ends
finished_by words text out scratch err (Stopped (Usage one)) ends says e = absurd ends
finished_by words text out scratch err (Stopped (Input one place)) ends says e = absurd cc
finished_by words text out scratch err (Stopped (Range one)) ends says e = absurd cc
finished_by words text out scratch err (Stopped (Device one)) ends says e = absurd cc
finished_by words text out scratch err (Stopped (Refused one)) ends says e = absurd cc
finished_by words text out scratch err (Stopped Memory) ends says e = absurd cc

run_of_build : (words : BuildWords) (input out : Change) (scratch : ScratchChange) (nodes : StoreChange) (err : Change) (ending : Ending)
    → CarriesOut (Build words) input out scratch nodes ending → Says err (line_of ending) → BuildRun words input out scratch err (status_of ending)
run_of_build words input out scratch nodes err ending carries_out says =
    let ends = carries_out.0 in
    record { text = ends.text; ascii = ends.ascii; finished = finished_by words ends.text out scratch err ending ends.ends says; means = ends.means }

no_line : (ending : Ending) → EndsWhy ending → status_of ending ≡ Done → line_of ending ≡ []
no_line (EndsBuilt counts) ends e = absurd ends
no_line Answered ends e = refl
no_line (Stopped Done) ends e = absurd ends
no_line (Stopped (Usage kind)) ends e = absurd ends
no_line (Stopped (Input kind place)) ends e = absurd ends
no_line (Stopped (Range fault)) ends e = absurd cc
no_line (Stopped (Device one)) ends e = absurd cc
no_line (Stopped (Refused one)) ends e = absurd cc
no_line (Stopped Memory) ends e = absurd cc

quiet_line : (ending : Ending) → EndsQuietly ending → status_of ending ≡ Done → line_of ending ≡ []
unfolding stop_line
quiet_line (EndsBuilt counts) ends e = absurd ends
quiet_line Answered ends e = refl
quiet_line (Stopped Done) ends e = refl
quiet_line (Stopped (Usage kind)) ends e = absurd cc
quiet_line (Stopped (Input kind place)) ends e = absurd cc
quiet_line (Stopped (Range fault)) ends e = absurd cc
quiet_line (Stopped (Device one)) ends e = absurd cc
quiet_line (Stopped (Refused one)) ends e = absurd cc
quiet_line (Stopped Memory) ends e = absurd cc

sum_line_none : (ending : Ending) → EndsSum ending → status_of ending ≡ Done → line_of ending ≡ []
sum_line_none (EndsBuilt counts) ends e = absurd ends
sum_line_none Answered ends e = refl
sum_line_none (Stopped Done) ends e = absurd ends
sum_line_none (Stopped (Usage kind)) ends e = absurd ends
sum_line_none (Stopped (Input kind place)) ends e = absurd ends
sum_line_none (Stopped (Range fault)) ends e = absurd cc
sum_line_none (Stopped (Device one)) ends e = absurd cc
sum_line_none (Stopped (Refused one)) ends e = absurd ends
sum_line_none (Stopped Memory) ends e = absurd cc

run_of_why : (words : WhyWords) (input out : Change) (scratch : ScratchChange) (nodes : StoreChange) (err : Change) (ending : Ending)
    → CarriesOut (Why words) input out scratch nodes ending → (line_of ending ≡ [] → IsKept err) → WhyRun words input out scratch err (status_of ending)
run_of_why words input out scratch nodes err ending carries_out silent =
    record { means = carries_out.1; unread = carries_out.2; unspilled = carries_out.3; silent = λ e. silent (no_line ending carries_out.0 e) }

run_of_question : (question : Question) (name : List ℕ) (range : Option RangeFault) (input out : Change) (scratch : ScratchChange) (nodes : StoreChange) (err : Change) (ending : Ending)
    → CarriesOutQuestion question name range input out nodes ending → IsScratchKept scratch → (line_of ending ≡ [] → IsKept err)
    → QuestionRun question name range input out scratch nodes err (status_of ending)
run_of_question question name range input out scratch nodes err ending carries_out kept silent =
    record { asks = carries_out.asks; unspilled = kept; silent = λ e. silent (quiet_line ending carries_out.quiet e) }

module _ (input out : Change) (scratch : ScratchChange) (nodes : StoreChange) (err : Change) (ending : Ending) (says : Says err (line_of ending)) (silent : line_of ending ≡ [] → IsKept err) where
  does_it : (command : Command) → CarriesOut command input out scratch nodes ending → Does command input out scratch nodes err (status_of ending)
  does_it (Build words) carries_out = (run_of_build words input out scratch nodes err ending carries_out says, carries_out.1)
  does_it (Why words) carries_out = (run_of_why words input out scratch nodes err ending carries_out silent, carries_out.4)
  does_it (Check words) carries_out = run_of_question _ words.nodes None input out scratch nodes err ending carries_out.0 carries_out.1 silent
  does_it (Has words) carries_out = run_of_question _ words.nodes None input out scratch nodes err ending carries_out.0 carries_out.1 silent
  does_it (Cells words) carries_out = run_of_question _ words.nodes _ input out scratch nodes err ending carries_out.0 carries_out.1 silent
  does_it (Lift words) carries_out = run_of_question _ words.nodes None input out scratch nodes err ending carries_out.0 carries_out.1 silent
  does_it (Cast words) carries_out = run_of_question _ words.nodes _ input out scratch nodes err ending carries_out.0 carries_out.1 silent
  does_it (Near words) carries_out = run_of_question _ words.nodes _ input out scratch nodes err ending carries_out.0 carries_out.1 silent
  does_it (Slice words) carries_out = run_of_question _ words.nodes _ input out scratch nodes err ending carries_out.0 carries_out.1 silent
  does_it (Coarse words) carries_out = run_of_question _ words.nodes None input out scratch nodes err ending carries_out.0 carries_out.1 silent
  does_it (Merge words) carries_out = record { merges = carries_out.1; unread = carries_out.2; unspilled = carries_out.3; silent = λ e. silent (quiet_line ending carries_out.0 e) }
  does_it (View words) carries_out = record { asks = carries_out.0.asks; unspilled = carries_out.1; silent = λ e. silent (quiet_line ending carries_out.0.quiet e) }
  does_it (Make words) carries_out = (record { means = carries_out.1; unread = carries_out.2; unspilled = carries_out.3; silent = λ e. silent (no_line ending carries_out.0 e) }, carries_out.4)
  does_it (Sum words) carries_out = (record { means = carries_out.1; unread = carries_out.2; silent = λ e. silent (sum_line_none ending carries_out.0 e) }, carries_out.3)

  pub does : (status : Status) → status ≡ status_of ending → (command : Command) → CarriesOut command input out scratch nodes ending → Does command input out scratch nodes err status
  does status is command carries_out = let P : Status → Type 0 = λ s. Does command input out scratch nodes err s in subst P (sym is) (does_it command carries_out)
