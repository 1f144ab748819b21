-- The build of a text in ASCII or binary.
use Rattle.std.proofs.Common.{◌≡◌, ℕ, ◌-◌, ◌++◌, List, length, take, drop, Option, None, Some, Result, Ok, Err, inl, inr, refl, sym, ap, ◌∙◌, subst, arith}
use Rattle.std.specs.Option.{option_map}
use Rattle.dev_traits.specs.Change.{Change, ScratchChange, IsKept, change_of}
use Rattle.dev_traits.specs.Faults.{Rose}
use Rattle.build_core.specs.declared.faults.BuildFault.{BuildFault}
use Rattle.build_core.specs.declared.jobs.Built.{Built}
use Rattle.build_core.specs.declared.jobs.Job.{Job}
use Rattle.svo_words.specs.declared.build.BuildWords.{BuildWords}
use Rattle.svo_top.specs.Build.{IsUntouched}
use Rattle.svo_top.specs.CoreRuns.{BuildsJob, BuildsAscii}
use Rattle.svo_top.specs.declared.outcome.RangeFault.{RangeFault}
use Rattle.svo_top.specs.declared.outcome.Status.TheVariants.{Range, Memory}
use Rattle.svo_top.specs.declared.reporting.Ending.TheVariants.{Stopped}
use Rattle.svo_top.specs.Endings.{ending_of, BuildEnds}
use Rattle.svo_top.specs.Ranges.{job_from}
use Rattle.svo_top.proofs.BuildEndings.{ends_build, means_build}
use Rattle.dev_traits.specs.declared.device.ByteSource.{Ghosts}
use Rattle.ply_binary.specs.declared.source.AsciiSource.{AsciiSource}
use Rattle.ply_binary.specs.HeaderTexts.{ascii}
use Rattle.ply_binary.specs.SourceStates.{source_rest}
use Rattle.ply_binary.specs.Since.{ReadsSince}
use Rattle.ply_binary.specs.AsciiChanges.{bytes_in, IsReadAs, IsReadAsAscii}
use Rattle.ply_binary.proofs.BodyEnds.{ascii_ends}
use Rattle.ply_binary.proofs.Readings.{read_as_ascii}

module _ {I : Type 0} {g : Ghosts I} where
  -- what calls did to an input and to its text, by the source that the text was read from
  pub ascii_change : (told : Option (List ℕ)) (s : AsciiSource I g) (input text : Change) → ∥ ReadsSince told s ∥₁ → told ≡ input.before → g.rest s.held.input.now ≡ input.after
      → text.before ≡ option_map ascii input.before → text.after ≡ source_rest s → text.faults_before ≡ input.faults_before → text.faults_after ≡ input.faults_after → IsReadAsAscii input text
  ascii_change told s input text since before after starts left faults_before faults_after =
      let known = read_as_ascii told s 0 0 since in
      record {
        before = starts;
        untold = λ none. (sym after ∙ (known.untold (before ∙ none)).0, left ∙ (known.untold (before ∙ none)).1);
        told = λ bytes is.
            let t = known.told bytes (before ∙ is) in (
              subst (λ (a : Option (List ℕ)). a ≡ Some (bytes_in a)) after t.0,
              subst (λ (a : Option (List ℕ)). a ≡ Some (bytes_in a)) (sym left) t.1,
              subst (λ (a : Option (List ℕ)). IsReadAs bytes (bytes_in a) (bytes_in text.after)) after
                  (subst (λ (a : Option (List ℕ)). IsReadAs bytes (bytes_in (g.rest s.held.input.now)) (bytes_in a)) (sym left) t.2),
            );
        faults_before = faults_before;
        faults_after = faults_after;
      }

  -- the build of the text, as one of the input
  pub text_builds : (job : Job) (place : List ℕ) (told : Option (List ℕ)) (start s : AsciiSource I g) (before after : I) (out : Change) (scratch : ScratchChange) (result : Result Built BuildFault) → ∥ ReadsSince told s ∥₁
      → told ≡ g.rest before → source_rest start ≡ option_map ascii told → start.held.input.now ≡ before → s.held.input.now ≡ after
      → BuildsJob job place (record { before = source_rest start; after = source_rest s; faults_before = g.faults start.held.input.now; faults_after = g.faults s.held.input.now }) out scratch result
      → BuildsAscii job place (change_of g.rest g.faults before after) out scratch result
  text_builds job place told start s before after out scratch result since tells starts begins is builds =
      let input : Change = change_of g.rest g.faults before after in
      let text : Change = record { before = source_rest start; after = source_rest s; faults_before = g.faults start.held.input.now; faults_after = g.faults s.held.input.now } in
      let later : g.faults s.held.input.now ≡ g.faults after = ap g.faults is in
      let faults : g.faults start.held.input.now ≡ g.faults before = ap g.faults begins in
      record {
        text = text;
        ascii = ascii_change told s input text since tells (ap g.rest is) (starts ∙ ap (option_map ascii) tells) refl faults later;
        builds = builds;
        read = λ failed. subst (λ (n : ℕ). Rose n (g.faults after)) faults (subst (λ (n : ℕ). Rose (g.faults start.held.input.now) n) later (builds.read failed));
        spilled = builds.spilled;
        written = builds.written;
      }

-- ---- how a build ends

pub ends_ascii : (words : BuildWords) (input out : Change) (scratch : ScratchChange) (job : Job) (r : Result Built BuildFault) → job_from words ≡ Ok job → BuildsAscii job words.scratch input out scratch r
    → BuildEnds words input out scratch (ending_of r)
ends_ascii words input out scratch job r named runs = record {
  text = runs.text;
  ascii = runs.ascii;
  ends = ends_build words runs.text out scratch job words.scratch r named runs.builds;
  means = means_build words input runs.text out scratch job r named runs.builds runs.ascii;
}

-- an input that was not read
abbrev pub unread : Change → Change
unread input = record { before = option_map ascii input.before; after = option_map ascii input.after; faults_before = input.faults_before; faults_after = input.faults_after }

kept_whole : (bytes : List ℕ) → IsReadAs bytes bytes (ascii bytes)
kept_whole bytes = record {
  behind_is = ap (λ n. drop n bytes) none;
  left_is = ap (λ n. drop n (ascii bytes)) all;
  settled = λ some more. ap (λ n. take n (ascii (take (length bytes - length bytes) bytes ++ more))) all ∙ sym (ap (λ n. take n (ascii bytes)) all);
  plain = λ same. omega (arith, ap length same);
  ended = λ none one. ascii_ends bytes none;
}
  where
    none : length bytes - length bytes ≡ 0
    none = omega arith

    all : length (ascii bytes) - length (ascii bytes) ≡ 0
    all = omega arith

pub kept_ascii : (input : Change) (kept : IsKept input) → IsReadAsAscii input (unread input)
kept_ascii input kept = record {
  before = refl;
  untold = λ none. (kept.0 ∙ none, ap (option_map ascii) (kept.0 ∙ none));
  told = λ bytes is.
      let after : input.after ≡ Some bytes = kept.0 ∙ is in
      let left : option_map ascii input.after ≡ Some (ascii bytes) = ap (option_map ascii) after in (
        after ∙ ap Some (sym (ap bytes_in after)),
        left ∙ ap Some (sym (ap bytes_in left)),
        subst (λ (b : List ℕ). IsReadAs bytes b (bytes_in (option_map ascii input.after))) (sym (ap bytes_in after))
            (subst (λ (l : List ℕ). IsReadAs bytes bytes l) (sym (ap bytes_in left)) (kept_whole bytes)),
      );
  faults_before = refl;
  faults_after = refl;
}

-- ---- a build that stopped before it began

pub early_range : (words : BuildWords) (input out : Change) (scratch : ScratchChange) (fault : RangeFault) → job_from words ≡ Err fault → IsUntouched input out scratch → BuildEnds words input out scratch (Stopped (Range fault))
early_range words input out scratch fault refused kept = record {
  text = unread input;
  ascii = kept_ascii input kept.0;
  ends = tt;
  means = record {
    untouched = λ one broken. kept;
    memory = λ is. kept;
    asked = inl kept.2.1;
    read = λ is. absurd cc;
    kept = λ done write spill. kept.1;
    cut_off = λ is. absurd cc;
    cut_short = λ is. absurd cc;
    refused = λ kind place is. absurd cc;
    accepts = λ bytes job mesh named told means read put spilled. absurd (no_job job named);
    rejects = λ bytes job ply place named told means read spilled. absurd (no_job job named);
  };
}
  where
    no_job : (job : Job) → job_from words ≡ Ok job → ⊥
    no_job job named = let both : Ok job ≡ Err fault = sym named ∙ refused in absurd cc

pub early_memory : (words : BuildWords) (input out : Change) (scratch : ScratchChange) → IsUntouched input out scratch → BuildEnds words input out scratch (Stopped Memory)
early_memory words input out scratch kept = record {
  text = unread input;
  ascii = kept_ascii input kept.0;
  ends = tt;
  means = record {
    untouched = λ one broken. kept;
    memory = λ is. kept;
    asked = inl kept.2.1;
    read = λ is. absurd cc;
    kept = λ done write spill. kept.1;
    cut_off = λ is. absurd cc;
    cut_short = λ is. absurd cc;
    refused = λ kind place is. absurd cc;
    accepts = λ bytes job mesh named told means read put spilled. inr refl;
    rejects = λ bytes job ply place named told means read spilled. inr refl;
  };
}
