-- The run of the job's build, case by case.
use Rattle.std.proofs.Common.{◌≡◌, Ok, refl, sym, subst, rules}
use Rattle.dev_traits.specs.Change.{change_of, scratch_change_of}
use Rattle.svo_top.specs.Endings.{BuildEnds}
use Rattle.svo_top.specs.Ranges.{job_from}
use Rattle.svo_top.specs.declared.reporting.Ending.{Ending}
use Rattle.svo_top.proofs.AsciiBuilds.{ends_ascii, early_range, early_memory}
use Rattle.svo_top.proofs.building.build.Goals as goal

pub returns-clause-ends : goal.returns-clause-ends
returns-clause-ends g c =
    let input = change_of g.I.ByteSource.rest g.I.ByteSource.faults c.args.input.now c.build_text.new.input in
    let out = change_of g.O.ByteSink.written g.O.ByteSink.faults c.args.out.now c.build_text.new.out in
    let scratch = scratch_change_of g.S.Scratch.told g.S.Scratch.asked g.S.Scratch.faults c.args.scratch.now c.build_text.new.scratch in
    let named : job_from c.args.words.now ≡ Ok c.in-Ok.job = search rules in
    subst (λ (ending : Ending). BuildEnds c.args.words.now input out scratch ending) (sym c.ending_of.ensures)
    (ends_ascii c.args.words.now input out scratch c.in-Ok.job c.build_text.result named c.build_text.ensures)

pub returns-in-Err-clause-ends : goal.returns-in-Err-clause-ends
returns-in-Err-clause-ends g c =
    let input = change_of g.I.ByteSource.rest g.I.ByteSource.faults c.args.input.now c.args.input.now in
    let out = change_of g.O.ByteSink.written g.O.ByteSink.faults c.args.out.now c.args.out.now in
    let scratch = scratch_change_of g.S.Scratch.told g.S.Scratch.asked g.S.Scratch.faults c.args.scratch.now c.args.scratch.now in
    early_range c.args.words.now input out scratch c.in-Err.fault (search rules) ((refl, refl), (refl, refl), ((refl, refl), refl))

pub returns-in-Err-make-clause-ends : goal.returns-in-Err-make-clause-ends
returns-in-Err-make-clause-ends g c =
    let input = change_of g.I.ByteSource.rest g.I.ByteSource.faults c.args.input.now c.args.input.now in
    let out = change_of g.O.ByteSink.written g.O.ByteSink.faults c.args.out.now c.args.out.now in
    let scratch = scratch_change_of g.S.Scratch.told g.S.Scratch.asked g.S.Scratch.faults c.args.scratch.now c.args.scratch.now in
    early_memory c.args.words.now input out scratch ((refl, refl), (refl, refl), ((refl, refl), refl))
