-- One height more.
use Rattle.std.proofs.Common.{◌≢◌, ◌∙◌, ◌+◌, ◌/◌, ◌^◌, sym}
use Rattle.level_queues.proofs.Digits.{below_root}
use Rattle.level_queues.proofs.codes.turning_height.Goals as goal

pub loop-height-preserved : goal.loop-height-preserved
loop-height-preserved c =
    let apart : c.args.code / 8 ^ (c.loop-height.height + 1) ≢ c.args.last / 8 ^ (c.loop-height.height + 1) = λ same. c.loop-height-test.true (c.ancestor.ensures ∙ (same ∙ sym c.ancestor-in-loop-height.ensures)) in
    record {
      within = below_root c.args.last c.args.code c.args.depth c.loop-height.height c.requires.last c.requires.code c.loop-height.invariant.within apart;
      apart = λ some. apart;
    }
