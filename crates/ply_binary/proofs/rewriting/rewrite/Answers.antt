use Rattle.std.proofs.Common.{◌+◌, ◌≤◌, ◌++◌, ◌∙◌, length, take, drop, slice_range, ap, sym, subst, arith, append_assoc}
use Rattle.ply_reader.specs.Declarations.{declared}
use Rattle.ply_binary.specs.Values.{number_of, token_of}
use Rattle.ply_binary.specs.BodyStates.{IsIn, body_left, passed, is_coordinate_kind, unless_over}
use Rattle.ply_binary.proofs.BodySteps.{passed_in, value_taken}
use Rattle.ply_binary.proofs.rewriting.rewrite.Goals as goal

pub values-preserved : goal.values-preserved
values-preserved c =
    let d = declared c.args.header.now in
    let bytes = c.args.bytes.now in
    let used = c.values.used in
    let size = c.size_of-size.result in
    let due = c.due-due.result in
    let settled = c.settle.new.self in
    let value = slice_range bytes used (used + size) in
    let fits : used + size ≤ length bytes = omega (arith, c.if-bytes-used.false, c.values.invariant.used) in
    let place = c.take_value-taken.ensures.place in
    record {
      inside = subst (IsIn d) (sym place) (passed_in d settled due.kind (number_of due.scalar value) c.settle.ensures.inside c.due-due.ensures.here);
      used = fits;
      made = omega (arith, c.take_value-taken.ensures.made, c.take_value-taken.ensures.size, c.if-into-made-lt-TOKEN_ROOM.false, c.values.invariant.made);
      grew = omega (arith, c.values.invariant.grew, c.take_value-taken.ensures.made, c.size_of-size.ensures.most);
      size = c.take_value-taken.ensures.size ∙ c.values.invariant.size;
      left = λ behind.
          let rest = drop (used + size) bytes ++ behind in
          let token = token_of (is_coordinate_kind due.kind) due.scalar value in
          let left = body_left d c.take_value-taken.new.body rest in
          c.values.invariant.left behind
          ∙ ap (λ l. take c.values.made c.values.into ++ l) (ap (λ f. f (drop used bytes ++ behind)) (sym c.settle.ensures.left)
          ∙ value_taken d settled due bytes behind used size c.take_value-taken.result.over c.due-due.ensures.due c.size_of-size.ensures.value fits c.take_value-taken.ensures.over
          ∙ ap (λ over. token ++ unless_over over (body_left d (passed due.kind (number_of due.scalar value) settled)) rest) c.if-taken.false
          ∙ ap (λ b. token ++ body_left d b rest) (sym place))
          ∙ sym (append_assoc (take c.values.made c.values.into) token left)
          ∙ ap (λ l. l ++ left) (sym c.take_value-taken.ensures.text);
    }
