-- Each exit of the loop is one lemma.
use Rattle.std.proofs.Common.{arith, subst, ◌∙◌}
use Rattle.ray_walk.specs.Steps.{IsStep}
use Rattle.ray_walk.specs.declared.spots.Step.TheVariants.{Enter}
use Rattle.ray_walk.proofs.Treading.{cell_below, err_is, fails_below, fails_first, not_refused, on_file, treads_cell, treads_child, treads_first, treads_last, treads_past}
use Rattle.ray_walk.proofs.walking.+walk.Goals as goal
use Rattle.ray_walk.proofs.walking.+walk.Goals.{in-Skip, in-Take, in-Enter+in_ok-best-in-Enter}

pub returns-in_err-word-clause-walked : goal.returns-in_err-word-clause-walked
returns-in_err-word-clause-walked g t c words cells on =
    fails_first (g.R.Records.file c.args.nodes.now).words c.args.flight.now c.args.spot.now c.args.known c.args.reads.now c.read_word.new.reads c.from_residual.result c.in_err-word.field-0.0 c.requires.flight c.requires.spot
    (omega (arith, c.read_word.ensures.reads)) (err_is c.from_residual.result c.in_err-word.field-0.0 c.from_residual.ensures) c.in_err-word.ensures.cause.0 words cells on

pub loop-k-init : goal.loop-k-init
loop-k-init g t c = (
  treads_first (g.R.Records.file c.args.nodes.now).words c.args.flight.now c.args.spot.now c.args.known c.args.reads.now c.read_word.new.reads (omega (arith, c.read_word.ensures.reads)),
  c.in_ok-word.ensures.word,
  c.requires.known,
  c.read_word.ensures.later,
  omega (arith, c.read_word.ensures.reads, c.read_word.ensures.looked),
  c.read_word.ensures.same,
  c.read_word.ensures.lender,
)

pub returns-in_err-next-clause-walked : goal.returns-in_err-next-clause-walked
returns-in_err-next-clause-walked g t c words cells on =
    absurd (not_refused (g.R.Records.file c.args.nodes.now).words c.args.flight.now c.args.spot.now c.args.known c.in_ok-word.word c.in_err-next.field-0.0 words cells c.requires.spot c.loop-k.invariant.1 c.in_err-next.ensures.fault on)

pub returns-in_err-best-in-Enter-clause-walked : goal.returns-in_err-best-in-Enter-clause-walked
returns-in_err-best-in-Enter-clause-walked g t c words cells on =
    let told = (g.R.Records.file c.args.nodes.now).words in
    let flight = c.args.flight.now in
    let entered : IsStep flight c.args.spot.now c.in_ok-word.word c.loop-k.k c.loop-k.best (Enter c.in-Enter.child) = subst (λ step. IsStep flight c.args.spot.now c.in_ok-word.word c.loop-k.k c.loop-k.best step) c.in-Enter.is c.in_ok-next.ensures.step in
    fails_below told flight c.args.spot.now c.args.known c.in_ok-word.word c.loop-k.k c.args.reads.now c.loop-k.reads c.walk.new.reads c.loop-k.best c.in-Enter.child c.from_residual-in_err-best-in-Enter.result c.walk.result
    c.in_err-best-in-Enter.field-0.0 c.requires.flight c.requires.spot c.loop-k-test.true c.loop-k.invariant.1 entered c.in_err-best-in-Enter.was
    (err_is c.from_residual-in_err-best-in-Enter.result c.in_err-best-in-Enter.field-0.0 c.from_residual-in_err-best-in-Enter.ensures)
    (λ words cells below. c.walk.ensures.walked words cells (on_file (g.R.Records.file c.loop-k.nodes) (g.R.Records.file c.args.nodes.now) c.loop-k.invariant.5 flight c.in-Enter.child c.loop-k.best words cells below)) c.loop-k.invariant.0 words cells on

pub loop-k-preserved : goal.loop-k-preserved
loop-k-preserved g t c =
    let told = (g.R.Records.file c.args.nodes.now).words in
    let flight = c.args.flight.now in
    let spot = c.args.spot.now in
    let own = c.loop-k.invariant.1 in
    elim c.match-branch-3.branch [
      | in-Skip w ↦
          rw (w.nodes-is, w.reads-is, w.best-is) (
            treads_past told flight spot c.args.known c.in_ok-word.word c.loop-k.k c.args.reads.now c.loop-k.reads c.loop-k.best c.requires.flight c.requires.spot c.loop-k-test.true own (subst (λ step. IsStep flight spot c.in_ok-word.word c.loop-k.k c.loop-k.best step) w.in-Skip.is c.in_ok-next.ensures.step) c.loop-k.invariant.0,
            own,
            c.loop-k.invariant.2,
            c.loop-k.invariant.3,
            c.loop-k.invariant.4,
            c.loop-k.invariant.5,
            c.loop-k.invariant.6,
          )
      | in-Take w ↦ rw (w.nodes-is, w.reads-is, w.best-is) (
        treads_cell told flight spot c.args.known c.in_ok-word.word c.loop-k.k c.args.reads.now c.loop-k.reads c.loop-k.best w.in-Take.cell c.requires.flight c.requires.spot c.loop-k-test.true own (subst (λ step. IsStep flight spot c.in_ok-word.word c.loop-k.k c.loop-k.best step) w.in-Take.is c.in_ok-next.ensures.step) c.loop-k.invariant.0,
        own,
        cell_below flight spot c.in_ok-word.word c.loop-k.k c.loop-k.best w.in-Take.cell c.requires.flight c.requires.spot c.loop-k-test.true (subst (λ step. IsStep flight spot c.in_ok-word.word c.loop-k.k c.loop-k.best step) w.in-Take.is c.in_ok-next.ensures.step),
        c.loop-k.invariant.3,
        c.loop-k.invariant.4,
        c.loop-k.invariant.5,
        c.loop-k.invariant.6,
      )
      | in-Enter+in_ok-best-in-Enter w ↦ rw (w.nodes-is, w.reads-is, w.best-is) (
        treads_child told flight spot c.args.known c.in_ok-word.word c.loop-k.k c.args.reads.now c.loop-k.reads w.walk.new.reads c.loop-k.best w.in_ok-best-in-Enter.best w.in-Enter.child w.walk.result c.requires.flight c.requires.spot
            c.loop-k-test.true own (subst (λ step. IsStep flight spot c.in_ok-word.word c.loop-k.k c.loop-k.best step) w.in-Enter.is c.in_ok-next.ensures.step) w.in_ok-best-in-Enter.was
            (λ words cells below. w.walk.ensures.walked words cells (on_file (g.R.Records.file c.loop-k.nodes) (g.R.Records.file c.args.nodes.now) c.loop-k.invariant.5 flight w.in-Enter.child c.loop-k.best words cells below)) c.loop-k.invariant.0,
        own,
        w.in_ok-best-in-Enter.ensures.code,
        omega (arith, c.loop-k.invariant.3, w.walk.ensures.later),
        omega (arith, c.loop-k.invariant.4, w.walk.ensures.looked),
        w.walk.ensures.same ∙ c.loop-k.invariant.5,
        w.walk.ensures.lender ∙ c.loop-k.invariant.6,
      )
    ]

pub returns-clause-walked : goal.returns-clause-walked
returns-clause-walked g t c =
    treads_last (g.R.Records.file c.args.nodes.now).words c.args.flight.now c.args.spot.now c.args.known c.loop-k.k c.args.reads.now c.loop-k.reads c.loop-k.best c.requires.flight c.requires.spot
    (omega (arith, c.loop-k-test.false, c.loop-k.auto.k-end)) c.loop-k.invariant.0
