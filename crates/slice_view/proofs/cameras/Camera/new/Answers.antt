use Rattle.std.proofs.Common.{rules, sym, ◌^◌}
use Rattle.slice_view.proofs.CameraLimits.{all_within}
use Rattle.slice_view.proofs.cameras.Camera.new.Goals as goal

pub invariant_of-result : goal.invariant_of-result
invariant_of-result c = record {
  eye_axes = search rules;
  toward_axes = search rules;
  right_axes = search rules;
  up_axes = search rules;
  near = all_within (2 ^ 39) c.args.eye (sym c.if-not-are_within.ensures);
  ahead = all_within (2 ^ 16) c.args.toward (sym c.if-not-are_within-2.ensures);
  aside = all_within (2 ^ 16) c.args.right (sym c.if-not-are_within-3.ensures);
  above = all_within (2 ^ 16) c.args.up (sym c.if-not-are_within-4.ensures);
  wide = search rules;
  width = search rules;
  high = search rules;
  height = search rules;
  some = search rules;
  far = search rules;
}
