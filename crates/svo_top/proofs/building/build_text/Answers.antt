-- The input is found again behind the text that was read from it.
use Rattle.std.proofs.Common.{rules}
use Rattle.dev_traits.specs.Change.{change_of, scratch_change_of}
use Rattle.svo_top.proofs.AsciiBuilds.{text_builds}
use Rattle.svo_top.proofs.building.build_text.Goals as goal

pub returns : goal.returns
returns g c =
    let out = change_of g.O.ByteSink.written g.O.ByteSink.faults c.args.out.now c.build_in.new.out in
    let scratch = scratch_change_of g.S.Scratch.told g.S.Scratch.asked g.S.Scratch.faults c.args.scratch.now c.build_in.new.scratch in
    let text = c.build_in.new.input in
    text_builds c.args.job.now c.args.place.now g.T.Start.told c.new-text.result.source text.source c.args.input.now _ out scratch c.build_in.result text.since c.requires.start c.new-text.ensures.rest
    (search rules) (search rules) c.build_in.ensures.builds
