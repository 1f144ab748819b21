-- Each child is one lemma for words of any kind, and one for those that lead to cells.
use Rattle.std.proofs.Common.{arith, subst}
use Rattle.near_query.specs.Nodes.{IsStep}
use Rattle.near_query.proofs.Seeing.{not_refused, told_last, told_past, told_put, told_taken}
use Rattle.near_query.proofs.UnderWay.{lighter, past, put_in, taken}
use Rattle.near_query.proofs.walking.visit.Goals as goal
use Rattle.near_query.proofs.walking.visit.Goals.{in-Skip, in-Take, in-Enter+in_ok-put-in-Enter}

pub returns-in_err-next-clause-told : goal.returns-in_err-next-clause-told
returns-in_err-next-clause-told c words cells on = absurd (not_refused words cells c.args.node.now c.args.word c.in_err-next.field-0.0 on c.in_err-next.ensures.fault)

pub loop-place-preserved : goal.loop-place-preserved
loop-place-preserved c =
    let point = c.args.measure.now.point in
    let grid = c.args.measure.now.grid in
    let node = c.args.node.now in
    let before = c.args.waiting.now in
    let place = c.loop-place.place in
    let best = c.loop-place.best in
    let now = c.loop-place.waiting in
    elim c.match-branch-2.branch [
      | in-Skip w ↦
          let step = subst (λ s. IsStep point grid node c.args.word place best s) w.in-Skip.is c.in_ok-next.ensures.step in
          rw (w.waiting-is, w.best-is) (
            past point grid node before place best now c.loop-place.invariant.0,
            λ words cells on. told_past words cells point grid node c.args.known before c.args.word place best now on c.requires.node c.loop-place-test.true step (c.loop-place.invariant.1 words cells on),
          )
      | in-Take w ↦
          let step = subst (λ s. IsStep point grid node c.args.word place best s) w.in-Take.is c.in_ok-next.ensures.step in
          rw (w.waiting-is, w.best-is) (
            taken point grid node before c.args.word place best w.in-Take.cell now c.requires.node c.loop-place-test.true step c.loop-place.invariant.0,
            λ words cells on. told_taken words cells point grid node c.args.known before c.args.word place best w.in-Take.cell now on c.requires.node c.loop-place-test.true step (c.loop-place.invariant.1 words cells on),
          )
      | in-Enter+in_ok-put-in-Enter w ↦
          let step = subst (λ s. IsStep point grid node c.args.word place best s) w.in-Enter.is c.in_ok-next.ensures.step in
          rw (w.waiting-is, w.best-is) (
            put_in point grid node before c.args.word place best w.in-Enter.child now w.put.new.self step w.in_ok-put-in-Enter.ensures c.loop-place.invariant.0,
            λ words cells on. told_put words cells point grid node c.args.known before c.args.word place best w.in-Enter.child now w.put.new.self on c.requires.node c.loop-place-test.true step w.in_ok-put-in-Enter.ensures (c.loop-place.invariant.1 words cells on),
          )
    ]

pub returns-clause-told : goal.returns-clause-told
returns-clause-told c words cells on =
    told_last words cells c.args.measure.now.point c.args.measure.now.grid c.args.node.now c.args.known c.args.waiting.now c.loop-place.place c.loop-place.best c.loop-place.waiting c.requires.node.above
    (omega (arith, c.loop-place-test.false, c.loop-place.auto.place-end)) (c.loop-place.invariant.1 words cells on)

pub returns-clause-fewer : goal.returns-clause-fewer
returns-clause-fewer c =
    lighter c.args.measure.now.point c.args.measure.now.grid c.args.node.now c.args.waiting.now c.loop-place.place c.loop-place.best c.loop-place.waiting c.requires.node.above
    (omega (arith, c.loop-place-test.false, c.loop-place.auto.place-end)) c.loop-place.invariant.0
