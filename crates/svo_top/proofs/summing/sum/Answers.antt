use Rattle.std.proofs.Common.{◌≡◌, ◌∙◌, true, false, refl, sym, Ok, Err, Some, None, rules}
use Rattle.build_core.specs.declared.jobs.Job.{Job}
use Rattle.dev_traits.specs.Change.{change_of, scratch_change_of}
use Rattle.svo_top.specs.Ranges.{is_made}
use Rattle.svo_top.specs.declared.outcome.RangeFault.TheVariants.{Made}
use Rattle.svo_top.specs.declared.outcome.Status.TheVariants.{Done, Device, Memory}
use Rattle.svo_top.specs.declared.outcome.Device.TheVariants.{Scratch, Write}
use Rattle.svo_top.proofs.MadeSums.{not_made, job_is, sum_out_of_range, sum_in_range, range_means, spilled_means, write_means, done_means}
use Rattle.svo_top.proofs.summing.sum.Goals as goal

pub returns-in-None-clause-range : goal.returns-in-None-clause-range
returns-in-None-clause-range g c =
    let out_of_range : is_made c.args.words.now.number c.args.words.now.side ≡ false = search (rules, c.mesh_of.ensures.none c.in-None.is) in
    sum_out_of_range c.args.words.now Made (not_made c.args.words.now out_of_range)

pub returns-in-None-clause-means : goal.returns-in-None-clause-means
returns-in-None-clause-means g c =
    let out_of_range : is_made c.args.words.now.number c.args.words.now.side ≡ false = search (rules, c.mesh_of.ensures.none c.in-None.is) in
    range_means c.args.words.now _ _ Made (not_made c.args.words.now out_of_range) (refl, refl) ((refl, refl), refl)

pub returns-in-Err-clause-range : goal.returns-in-Err-clause-range
returns-in-Err-clause-range g c =
    let made : is_made c.args.words.now.number c.args.words.now.side ≡ true = search (rules, c.in-Some.ensures.made.0) in
    sum_out_of_range c.args.words.now c.in-Err.fault (job_is c.args.words.now (Err c.in-Err.fault) made c.in-Err.ensures.job)

pub returns-in-Err-clause-means : goal.returns-in-Err-clause-means
returns-in-Err-clause-means g c =
    let made : is_made c.args.words.now.number c.args.words.now.side ≡ true = search (rules, c.in-Some.ensures.made.0) in
    range_means c.args.words.now _ _ c.in-Err.fault (job_is c.args.words.now (Err c.in-Err.fault) made c.in-Err.ensures.job) (refl, refl) ((refl, refl), refl)

pub returns-in-Err-make-clause-range : goal.returns-in-Err-make-clause-range
returns-in-Err-make-clause-range g c =
    let made : is_made c.args.words.now.number c.args.words.now.side ≡ true = search (rules, c.in-Some.ensures.made.0) in
    sum_in_range c.args.words.now c.in-Ok.job Memory (job_is c.args.words.now (Ok c.in-Ok.job) made c.in-Ok.ensures.job) (λ fault is. cc)

pub build_made-requires-clause-named : goal.build_made-requires-clause-named
build_made-requires-clause-named g c =
    let made : is_made c.args.words.now.number c.args.words.now.side ≡ true = search (rules, c.in-Some.ensures.made.0) in
    job_is c.args.words.now (Ok c.in-Ok.job) made c.in-Ok.ensures.job

pub returns-in-Err-build_made-clause-range : goal.returns-in-Err-build_made-clause-range
returns-in-Err-build_made-clause-range g c =
    let made : is_made c.args.words.now.number c.args.words.now.side ≡ true = search (rules, c.in-Some.ensures.made.0) in
    sum_in_range c.args.words.now c.in-Ok.job (Device Scratch) (job_is c.args.words.now (Ok c.in-Ok.job) made c.in-Ok.ensures.job) (λ fault is. cc)

pub returns-in-Err-build_made-clause-means : goal.returns-in-Err-build_made-clause-means
returns-in-Err-build_made-clause-means g c =
    let made : is_made c.args.words.now.number c.args.words.now.side ≡ true = search (rules, c.in-Some.ensures.made.0) in
    spilled_means c.args.words.now _ _ c.in-Ok.job _ (job_is c.args.words.now (Ok c.in-Ok.job) made c.in-Ok.ensures.job) (refl, refl) c.in-Err-build_made.ensures

pub returns-in-Err-put-clause-range : goal.returns-in-Err-put-clause-range
returns-in-Err-put-clause-range g c =
    let made : is_made c.args.words.now.number c.args.words.now.side ≡ true = search (rules, c.in-Some.ensures.made.0) in
    sum_in_range c.args.words.now c.in-Ok.job (Device Write) (job_is c.args.words.now (Ok c.in-Ok.job) made c.in-Ok.ensures.job) (λ fault is. cc)

pub returns-in-Err-put-clause-means : goal.returns-in-Err-put-clause-means
returns-in-Err-put-clause-means g c =
    let made : is_made c.args.words.now.number c.args.words.now.side ≡ true = search (rules, c.in-Some.ensures.made.0) in
    write_means c.args.words.now _ _ c.in-Ok.job c.in-Ok-build_made.built (job_is c.args.words.now (Ok c.in-Ok.job) made c.in-Ok.ensures.job) c.in-Ok-build_made.ensures
    c.as_bytes.result.now (c.as_bytes.ensures.value ∙ c.as_str.ensures.value ∙ c.sum_line.ensures) c.in-Err-put.ensures.bytes c.in-Err-put.ensures.cause.failed

pub returns-clause-range : goal.returns-clause-range
returns-clause-range g c =
    let made : is_made c.args.words.now.number c.args.words.now.side ≡ true = search (rules, c.in-Some.ensures.made.0) in
    sum_in_range c.args.words.now c.in-Ok.job Done (job_is c.args.words.now (Ok c.in-Ok.job) made c.in-Ok.ensures.job) (λ fault is. cc)

pub returns-clause-means : goal.returns-clause-means
returns-clause-means g c =
    let made : is_made c.args.words.now.number c.args.words.now.side ≡ true = search (rules, c.in-Some.ensures.made.0) in
    done_means c.args.words.now _ _ c.in-Ok.job c.in-Ok-build_made.built (job_is c.args.words.now (Ok c.in-Ok.job) made c.in-Ok.ensures.job) c.in-Ok-build_made.ensures
    c.as_bytes.result.now (c.as_bytes.ensures.value ∙ c.as_str.ensures.value ∙ c.sum_line.ensures) c.in-Ok-put.ensures.bytes
