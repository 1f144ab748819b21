-- From the build of a made mesh to the counts of its sum.
use Rattle.std.proofs.Common.{◌≡◌, ◌≢◌, ◌⊎◌, inl, inr, ℕ, zero, suc, ◌+◌, ◌*◌, ◌≤◌, Bool, true, false, List, take, refl, sym, ap, ◌∙◌, subst, ⊎_elim, length, ◌&&◌, ℤ, pos, negsuc, unsigned_abs, None, Some, Result, Ok, Err, arith}
use Rattle.std.specs.Prelude.{if◌then◌else◌, int_le}
use Rattle.std.specs.Result.{result_err}
use Rattle.std.specs.Io.KnownBytes.{append_known}
use Rattle.std.specs.List.{flat_map, range_with_len}
use Rattle.std.proofs.lemmas.Bool.{and_parts}
use Rattle.std.proofs.lemmas.Bool.Decides.{nat_tests}
use Rattle.std.proofs.lemmas.Int.{ints}
use Rattle.svo_base.specs.GridLimits.{is_positive, is_within}
use Rattle.svo_base.specs.declared.grids.GridFault.{GridFault}
use Rattle.dev_traits.specs.Change.{Change, ChangeOf, ScratchChange, IsFaulted, IsFaultless, IsKept, IsScratchKept}
use Rattle.dev_traits.specs.Faults.{Rose}
use Rattle.dev_traits.specs.declared.device.Failed.{Failed}
use Rattle.ply_reader.specs.PlyMeaning.{PlyMesh, ply_meaning}
use Rattle.mesh_maker.specs.MadeText.{made_text, face_total}
use Rattle.mesh_maker.specs.MadeMeaning.{made_mesh, triangles_at}
use Rattle.mesh_maker.proofs.MadeCounts.{counted}
use Rattle.mesh_maker.proofs.MadeTexts.{made_means}
use Rattle.room_plan.specs.declared.planning.MemPlan.{MemPlan}
use Rattle.room_plan.specs.declared.planning.PlanFault.{PlanFault}
use Rattle.room_plan.specs.declared.planning.PlanFault.TheVariants.{TooLarge, TooSmall}
use Rattle.room_plan.specs.Planning.{plan_from}
use Rattle.build_core.specs.Meshes.{depth_of, scale_of}
use Rattle.build_core.specs.Spilling.{faces_after, faces_of}
use Rattle.build_core.specs.declared.faults.BuildFault.{BuildFault}
use Rattle.build_core.specs.declared.faults.BuildFault.TheVariants as fault
use Rattle.build_core.specs.declared.jobs.Built.{Built}
use Rattle.build_core.specs.declared.jobs.GridChoice.{GridChoice}
use Rattle.build_core.specs.declared.jobs.Job.{Job}
use Rattle.svo_words.specs.declared.build.BuildWords.{BuildWords}
use Rattle.svo_words.specs.declared.made.SumWords.{SumWords}
use Rattle.svo_top.specs.CoreRuns.{BuildsJob}
use Rattle.svo_top.specs.Ranges.{build_words, is_made, range_of_sum, sum_job_from, RangeIs, choice_from, has_decimals, job_from, job_on, planned_job}
use Rattle.svo_top.specs.Sum.{BuildsMade, IsSum, SumMeans, Sums, sum_line, text_of_sum}
use Rattle.svo_top.specs.declared.outcome.Status.{Status}
use Rattle.svo_top.specs.declared.outcome.Status.TheVariants.{Done, Range, Device}
use Rattle.svo_top.specs.declared.outcome.Device.TheVariants.{Scratch, Write}
use Rattle.svo_top.specs.declared.outcome.RangeFault.{RangeFault}
use Rattle.svo_top.specs.declared.outcome.RangeFault.TheVariants.{Decimals, Made}

-- ---- what the words' numbers are

chosen : (test : Bool) (job : Result Job RangeFault) (fault : RangeFault) (found : Job) → (if test then job else Err fault) ≡ Ok found → (test ≡ true) × (job ≡ Ok found)
chosen true job fault found is = (refl, is)
chosen false job fault found is = absurd cc

in_range : (words : SumWords) (job : Job) → sum_job_from words ≡ Ok job → (is_made words.number words.side ≡ true) × (job_from (build_words words) ≡ Ok job)
unfolding sum_job_from
in_range words job named = chosen (is_made words.number words.side) (job_from (build_words words)) Made job named

pub job_is : (words : SumWords) (job : Result Job RangeFault) → is_made words.number words.side ≡ true → job ≡ job_from (build_words words) → sum_job_from words ≡ job
unfolding sum_job_from
job_is words job made is = ap (λ (test : Bool). if test then job_from (build_words words) else Err Made) made ∙ sym is

at_least_one : (z : ℤ) → int_le (pos 1) z ≡ true → 1 ≤ unsigned_abs z
at_least_one (pos n) is = omega (arith, ints, is)
at_least_one (negsuc n) is = absurd (omega (arith, ints, is))

side_within : (words : SumWords) → is_made words.number words.side ≡ true → (1 ≤ unsigned_abs words.side) × (unsigned_abs words.side ≤ 1024)
side_within words made =
    let sides = (and_parts (int_le (pos 0) words.number) (is_positive words.side && is_within 1024 words.side) made).1 in
    let both = and_parts (is_positive words.side) (is_within 1024 words.side) sides in
    (at_least_one words.side both.0, grind (arith, nat_tests, both.1))

planned_decimals : (decimals : ℕ) (cut : Bool) (grid : GridChoice) (plan : Result MemPlan PlanFault) (job : Job) → planned_job decimals cut grid plan ≡ Ok job → job.decimals ≡ decimals
planned_decimals decimals cut grid (Ok plan) job is = let same : ◌≡◌ {A = Job} (record { grid = grid; decimals = decimals; cut = cut; plan = plan }) job = cc in ap (λ (j : Job). j.decimals) (sym same)
planned_decimals decimals cut grid (Err TooLarge) job is = absurd cc
planned_decimals decimals cut grid (Err (TooSmall least)) job is = absurd cc

decimals_on : (words : BuildWords) (choice : Result GridChoice GridFault) (job : Job) → job_on words choice ≡ Ok job → job.decimals ≡ unsigned_abs words.decimals
decimals_on words (Ok grid) job is = planned_decimals (unsigned_abs words.decimals) words.cut grid (plan_from (depth_of grid) words.memory) job is
decimals_on words (Err fault) job is = absurd cc

no_decimals : (words : SumWords) (job : Job) → job_from (build_words words) ≡ Ok job → job.decimals ≡ 0
unfolding job_from
no_decimals words job named =
    let b : BuildWords = build_words words in
    decimals_on b (choice_from b.depth b.origin b.cell) job (chosen (has_decimals b.decimals) (job_on b (choice_from b.depth b.origin b.cell)) Decimals job named).1

-- ---- the mesh

abbrev mesh_of_sum : SumWords → PlyMesh
mesh_of_sum words = made_mesh (unsigned_abs words.number) (unsigned_abs words.side)

means_made : (words : SumWords) (job : Job) → sum_job_from words ≡ Ok job → ply_meaning (scale_of job) (text_of_sum words) ≡ Ok (mesh_of_sum words)
means_made words job named =
    let parts = in_range words job named in
    let side = side_within words parts.0 in
    subst (λ (decimals : ℕ). ply_meaning (record { decimals = decimals; cut = job.cut }) (text_of_sum words) ≡ Ok (mesh_of_sum words)) (sym (no_decimals words job parts.1))
    (made_means (unsigned_abs words.number) (unsigned_abs words.side) job.cut side.0 side.1)

faces_from : (side face n : ℕ) → faces_after face (flat_map (triangles_at side) (range_with_len face n)) ≡ face + n
faces_from side face zero = omega arith
faces_from side face (suc n) = omega (arith, faces_from side (face + 1) n)

faces_made : (number side : ℕ) → faces_of (made_mesh number side).triangles ≡ face_total side
unfolding made_mesh
faces_made number side = let none : 0 + face_total side ≡ face_total side = omega arith in faces_from side 0 (face_total side) ∙ none

-- ---- the counts

module _ (words : SumWords) (job : Job) (input out : Change) (scratch : ScratchChange) (named : sum_job_from words ≡ Ok job) (told : input.before ≡ Some (text_of_sum words)) where
  sums_of : (built : Built) → BuildsJob job words.scratch input out scratch (Ok built) → Sums words job scratch.streams.after built
  sums_of built runs =
      let means : ply_meaning (scale_of job) (text_of_sum words) ≡ Ok runs.builds.mesh = runs.builds.means (text_of_sum words) told in
      let both : ◌≡◌ {A = Result PlyMesh _} (Ok runs.builds.mesh) (Ok (mesh_of_sum words)) = sym means ∙ means_made words job named in
      let same : runs.builds.mesh ≡ mesh_of_sum words = cc in
      record {
        mesh = runs.builds.mesh;
        cells = runs.builds.cells;
        means = means;
        grid = runs.builds.grid;
        scratch = runs.builds.scratch;
        are = runs.builds.are;
        filled = runs.builds.filled;
        faces = runs.builds.faces ∙ (ap (λ (mesh : PlyMesh). faces_of mesh.triangles) same ∙ faces_made (unsigned_abs words.number) (unsigned_abs words.side));
        triangles = runs.builds.triangles ∙ (ap (λ (mesh : PlyMesh). length mesh.triangles) same ∙ (counted (unsigned_abs words.number) (unsigned_abs words.side)).1);
        parts = runs.builds.parts;
        cells_are = runs.builds.cells_are;
        records = runs.builds.records;
      }

  pub made_built : (built : Built) → BuildsJob job words.scratch input out scratch (Ok built) → BuildsMade words job scratch (Ok built)
  made_built built runs = record { sums = sums_of built runs; spilled = tt; asked = runs.asked }

  spilled_only : (IsFaulted input → ⊥) → (IsFaulted out → ⊥) → (fault : BuildFault) → BuildsJob job words.scratch input out scratch (Err fault) → IsFaulted scratch.streams
  spilled_only read put (fault.Input kind place) runs =
      let refused = (runs.builds.0 (text_of_sum words) told).0 in
      let both = sym (means_made words job named) ∙ refused in
      absurd cc
  spilled_only read put fault.ReadFault runs = absurd (read (runs.read refl))
  spilled_only read put fault.ScratchFault runs = runs.spilled refl
  spilled_only read put fault.WriteFault runs = absurd (put (runs.written refl))

  pub made_spilled : (IsFaulted input → ⊥) → (IsFaulted out → ⊥) → (fault : BuildFault) (failed : Failed) → BuildsJob job words.scratch input out scratch (Err fault) → BuildsMade words job scratch (Err failed)
  made_spilled read put fault failed runs = record { sums = tt; spilled = spilled_only read put fault runs; asked = runs.asked }

-- a count that stays at 0 did not rise
pub never_rose : Rose 0 0 → ⊥
never_rose rose = ⊎_elim (λ less. let none : ⊥ = omega (arith, less) in none) (λ last. let none : ⊥ = omega (arith, last) in none) rose

-- ---- ranges

pub not_made : (words : SumWords) → is_made words.number words.side ≡ false → sum_job_from words ≡ Err Made
unfolding sum_job_from
not_made words out_of_range = ap (λ (test : Bool). if test then job_from (build_words words) else Err Made) out_of_range

pub range_named : (words : SumWords) (fault : RangeFault) → sum_job_from words ≡ Err fault → range_of_sum words ≡ Some fault
range_named words fault named = ap (λ (job : Result Job RangeFault). result_err job) named

pub no_range_named : (words : SumWords) (job : Job) (fault : RangeFault) → sum_job_from words ≡ Ok job → range_of_sum words ≡ Some fault → ⊥
no_range_named words job fault named broken = let none : range_of_sum words ≡ None = ap (λ (job : Result Job RangeFault). result_err job) named in let both = sym none ∙ broken in cc

pub sum_out_of_range : (words : SumWords) (fault : RangeFault) → sum_job_from words ≡ Err fault → RangeIs (range_of_sum words) (Range fault)
sum_out_of_range words fault named = record {
  comes = λ other is. let both : Some fault ≡ Some other = sym (range_named words fault named) ∙ is in cc;
  only = λ other is. let same : fault ≡ other = cc in range_named words fault named ∙ ap Some same;
}

pub sum_in_range : (words : SumWords) (job : Job) (status : Status) → sum_job_from words ≡ Ok job → ((fault : RangeFault) → status ≢ Range fault) → RangeIs (range_of_sum words) status
sum_in_range words job status named other = record {
  comes = λ fault is. absurd (no_range_named words job fault named is);
  only = λ fault is. absurd (other fault is);
}

-- ---- what a sum means

-- a count that rose did
unfaulted : {Told : Type 0} (change : ChangeOf Told) → IsFaulted change → IsFaultless change → ⊥
unfaulted change rose none = ⊎_elim (λ less. let no : ⊥ = omega (arith, less, none.0) in no) (λ last. none.1 last) rose

module _ (words : SumWords) (out : Change) (scratch : ScratchChange) where
  pub range_means : (fault : RangeFault) → sum_job_from words ≡ Err fault → IsKept out → IsScratchKept scratch → SumMeans words out scratch (Range fault)
  range_means fault named kept untouched = record {
    done = λ is. absurd cc;
    cut_off = λ is. absurd cc;
    kept = λ not_done not_write. kept;
    unspilled = λ other is. untouched;
    memory = λ is. absurd cc;
    asked = inl untouched.1;
    sums = λ in_range put spilled. absurd (let both = sym in_range ∙ range_named words fault named in cc);
  }

  pub spilled_means : (job : Job) (failed : Failed) → sum_job_from words ≡ Ok job → IsKept out → BuildsMade words job scratch (Err failed) → SumMeans words out scratch (Device Scratch)
  spilled_means job failed named kept builds = record {
    done = λ is. absurd cc;
    cut_off = λ is. absurd cc;
    kept = λ not_done not_write. kept;
    unspilled = λ fault is. absurd (no_range_named words job fault named is);
    memory = λ is. absurd cc;
    asked = inr (record { job = job; named = named; asked = builds.asked });
    sums = λ in_range put spilled. absurd (unfaulted scratch.streams builds.spilled spilled);
  }

  module _ (job : Job) (built : Built) (named : sum_job_from words ≡ Ok job) (builds : BuildsMade words job scratch (Ok built)) (line : List ℕ) (line_is : line ≡ sum_line built.faces built.triangles built.parts built.cells built.records) where
    is_sum : IsSum words scratch.streams.after line
    is_sum = record { job = job; named = named; built = built; sums = builds.sums; answer_is = line_is }

    pub write_means : (count : ℕ) × (out.after ≡ append_known out.before (take count line)) → IsFaulted out → SumMeans words out scratch (Device Write)
    write_means front rose = record {
      done = λ is. absurd cc;
      cut_off = λ is. (line, front.0, is_sum, front.1);
      kept = λ not_done not_write. absurd (not_write refl);
      unspilled = λ fault is. absurd (no_range_named words job fault named is);
      memory = λ is. absurd cc;
      asked = inr (record { job = job; named = named; asked = builds.asked });
      sums = λ in_range put spilled. absurd (unfaulted out rose put);
    }

    pub done_means : out.after ≡ append_known out.before line → SumMeans words out scratch Done
    done_means grew = record {
      done = λ is. (line, is_sum, grew);
      cut_off = λ is. absurd cc;
      kept = λ not_done not_write. absurd (not_done refl);
      unspilled = λ fault is. absurd (no_range_named words job fault named is);
      memory = λ is. absurd cc;
      asked = inr (record { job = job; named = named; asked = builds.asked });
      sums = λ in_range put spilled. inl refl;
    }
