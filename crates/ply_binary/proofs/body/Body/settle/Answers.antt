use Rattle.std.proofs.Common.{refl, ap, ◌∙◌, sym, subst}
use Rattle.ply_reader.specs.Declarations.{declared}
use Rattle.ply_binary.specs.BodyStates.{IsBetween, body_left}
use Rattle.ply_binary.proofs.BodySteps.{element_begun, body_ended, row_begun, element_between}
use Rattle.ply_binary.proofs.body.Body.settle.Goals as goal

pub returns-then-not-begin_element-clause-ended : goal.returns-then-not-begin_element-clause-ended
returns-then-not-begin_element-clause-ended c = λ _.
    let d = declared c.args.header.now in
    let none = c.if-not-begin_element.ensures.none refl in
    ap (body_left d) none.1 ∙ body_ended d c.loop-self.self c.loop-self.invariant.between c.loop-self-test.ensures none.0

pub loop-self-preserved : goal.loop-self-preserved
loop-self-preserved c =
    let d = declared c.args.header.now in
    let between = c.loop-self.invariant.between in
    let begun = c.if-not-begin_element.ensures.begun refl in
    record {
      inside = c.begin_element.ensures.inside;
      between = subst IsBetween (sym begun.1) (element_between d c.loop-self.self between);
      left = ap (body_left d) begun.1 ∙ element_begun d c.loop-self.self between c.loop-self-test.ensures begun.0 ∙ c.loop-self.invariant.left;
    }

pub returns-clause-left : goal.returns-clause-left
returns-clause-left c =
    let d = declared c.args.header.now in
    ap (body_left d) c.begin_row.ensures ∙ row_begun d c.loop-self.self c.loop-self.invariant.between c.loop-self-test.ensures ∙ c.loop-self.invariant.left
