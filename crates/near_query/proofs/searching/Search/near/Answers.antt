-- A search is begun, goes on from node to node, and ends.
use Rattle.std.proofs.Common.{◌≡◌, ◌+◌, ◌-◌, ◌^◌, ◌<◌, IfSome, arith, refl, ap, subst, sym, ◌∙◌}
use Rattle.std.proofs.lemmas.List.Sorted.{sum_by_popped}
use Rattle.near_query.specs.declared.cells.NearFault.TheVariants.{Memory}
use Rattle.std.specs.Prelude.{OnOk, All, slice_index}
use Rattle.std.specs.Result.{IfErr}
use Rattle.near_query.specs.Frontiers.{IsVisited}
use Rattle.near_query.specs.Queues.{weight_of}
use Rattle.near_query.specs.declared.queues.Waiting.{Waiting}
use Rattle.near_query.proofs.Looping.{code_kept, few_alike, few_now, few_with_it, first_is, found_first, found_last, goes_on, memory_out, number_there, rest_are, starts, stops_free}
use Rattle.near_query.proofs.searching.Search.near.Goals as goal

pub loop-node-init : goal.loop-node-init
loop-node-init g c = (
  starts c.args.point (g.R.Records.file c.args.nodes.now) c.grid.result c.grid.ensures.value (record { distance = c.root.result; height = c.depth.result; code = 0; number = c.totals.result.records - 1 }) c.clear.new.self c.put.new.self c.args.reads.now
      c.grid.ensures.framed c.depth.ensures.value refl (ap (λ totals. totals.records - 1) c.totals.ensures.value) c.root.ensures c.clear.ensures c.in_ok-put.ensures,
  omega arith,
  omega arith,
  refl,
  refl,
)

pub read_word-requires : goal.read_word-requires
read_word-requires g c =
    let file = g.R.Records.file c.args.nodes.now in
    subst (λ f. c.in-Some.node.number < f.totals.records) (sym c.loop-node.invariant.3)
    (number_there c.args.point file c.grid.result c.grid.ensures.value c.loop-node.best c.in-Some.node c.loop-node.self.waiting c.take.new.self c.args.reads.now c.loop-node.reads c.in-Some.ensures.items c.loop-node.invariant.0)

pub visit-requires-clause-node : goal.visit-requires-clause-node
visit-requires-clause-node g c =
    first_is c.args.point (g.R.Records.file c.args.nodes.now) c.grid.result c.grid.ensures.value c.loop-node.best c.in-Some.node c.loop-node.self.waiting c.take.new.self c.args.reads.now c.loop-node.reads c.in-Some.ensures.items c.loop-node.invariant.0

pub visit-requires-clause-nodes : goal.visit-requires-clause-nodes
visit-requires-clause-nodes g c =
    rest_are c.args.point (g.R.Records.file c.args.nodes.now) c.grid.result c.grid.ensures.value c.loop-node.best c.in-Some.node c.loop-node.self.waiting c.take.new.self c.args.reads.now c.loop-node.reads c.in-Some.ensures.items c.loop-node.invariant.0

pub visit-requires-clause-known : goal.visit-requires-clause-known
visit-requires-clause-known g c =
    code_kept c.args.point (g.R.Records.file c.args.nodes.now) c.grid.result c.grid.ensures.value c.loop-node.best c.in-Some.node c.loop-node.self.waiting c.take.new.self c.args.reads.now c.loop-node.reads c.in-Some.ensures.items c.loop-node.invariant.0

pub returns-in_err-word-clause-reads : goal.returns-in_err-word-clause-reads
returns-in_err-word-clause-reads g c cells tells =
    few_with_it c.args.point (g.R.Records.file c.args.nodes.now) c.grid.result c.grid.ensures.value c.loop-node.best c.in-Some.node c.loop-node.self.waiting c.take.new.self c.args.reads.now c.loop-node.reads c.in-Some.ensures.items c.loop-node.invariant.0
    c.in-Some.ensures.least c.read_word.new.reads (sym c.is_nearer.ensures ∙ c.if-is_nearer.false) c.read_word.ensures.reads cells tells

pub returns-in_err-word-clause-looked : goal.returns-in_err-word-clause-looked
returns-in_err-word-clause-looked g c cells tells =
    few_alike c.args.point (g.R.Records.file c.args.nodes.now).grid cells c.args.reads.now c.read_word.new.reads (g.R.Records.looked c.args.nodes.now) (g.R.Records.looked c.read_word.new.nodes)
    (omega (arith, c.loop-node.invariant.2, c.read_word.ensures.looked, c.read_word.ensures.reads)) (returns-in_err-word-clause-reads g c cells tells)

pub returns-in_err-best-clause-reads : goal.returns-in_err-best-clause-reads
returns-in_err-best-clause-reads g c cells tells =
    few_with_it c.args.point (g.R.Records.file c.args.nodes.now) c.grid.result c.grid.ensures.value c.loop-node.best c.in-Some.node c.loop-node.self.waiting c.take.new.self c.args.reads.now c.loop-node.reads c.in-Some.ensures.items c.loop-node.invariant.0
    c.in-Some.ensures.least c.read_word.new.reads (sym c.is_nearer.ensures ∙ c.if-is_nearer.false) c.read_word.ensures.reads cells tells

pub returns-in_err-best-clause-looked : goal.returns-in_err-best-clause-looked
returns-in_err-best-clause-looked g c cells tells =
    few_alike c.args.point (g.R.Records.file c.args.nodes.now).grid cells c.args.reads.now c.read_word.new.reads (g.R.Records.looked c.args.nodes.now) (g.R.Records.looked c.read_word.new.nodes)
    (omega (arith, c.loop-node.invariant.2, c.read_word.ensures.looked, c.read_word.ensures.reads)) (returns-in_err-best-clause-reads g c cells tells)

pub returns-in_err-best-clause-sound : goal.returns-in_err-best-clause-sound
returns-in_err-best-clause-sound g c cells tells =
    let own = subst (λ f. IfSome f.words (λ words. c.in_ok-word.word ≡ slice_index words c.in-Some.node.number)) c.loop-node.invariant.3 c.in_ok-word.ensures.word in
    let free = stops_free c.args.point (g.R.Records.file c.args.nodes.now) c.grid.result c.grid.ensures.value c.loop-node.best c.in-Some.node c.loop-node.self.waiting c.take.new.self c.args.reads.now c.loop-node.reads c.in-Some.ensures.items c.loop-node.invariant.0
    c.in-Some.ensures.least c.in_ok-word.word c.visit.new.waiting c.visit.result own c.visit.ensures.told cells tells in
    memory_out c.from_residual-in_err-best.result c.in_err-best.field-0.0 c.from_residual-in_err-best.ensures (subst (λ r. IfErr r (λ fault. fault ≡ Memory)) c.in_err-best.was free)

pub loop-node-smaller : goal.loop-node-smaller
loop-node-smaller g c =
    let popped : weight_of c.take.new.self + 9 ^ c.in-Some.node.height ≡ weight_of c.loop-node.self.waiting = sum_by_popped (λ (node : Waiting). 9 ^ node.height) c.in-Some.node c.loop-node.self.waiting c.take.new.self c.in-Some.ensures.items in
    let fewer : weight_of c.visit.new.waiting < weight_of c.take.new.self + 9 ^ c.in-Some.node.height = c.in_ok-best.ensures.fewer in
    omega (arith, popped, fewer)

pub loop-node-preserved : goal.loop-node-preserved
loop-node-preserved g c =
    let own = subst (λ f. IfSome f.words (λ words. c.in_ok-word.word ≡ slice_index words c.in-Some.node.number)) c.loop-node.invariant.3 c.in_ok-word.ensures.word in (
      goes_on c.args.point (g.R.Records.file c.args.nodes.now) c.grid.result c.grid.ensures.value c.loop-node.best c.in-Some.node c.loop-node.self.waiting c.take.new.self c.args.reads.now c.loop-node.reads c.in-Some.ensures.items c.loop-node.invariant.0
          c.in-Some.ensures.least c.in_ok-word.word c.read_word.new.reads c.in_ok-best.best c.visit.new.waiting (sym c.is_nearer.ensures ∙ c.if-is_nearer.false) c.read_word.ensures.reads own
          (λ words cells on. subst (λ r. IsVisited words cells c.args.point c.grid.result c.in-Some.node c.loop-node.best c.take.new.self c.visit.new.waiting r) c.in_ok-best.was (c.visit.ensures.told words cells on))
          c.in_ok-best.ensures.nodes
          (λ records below all. subst (λ r. OnOk r (All (λ (other : Waiting). other.number < records) c.visit.new.waiting)) c.in_ok-best.was (c.visit.ensures.there records below all))
          c.in_ok-best.ensures.code,
      omega (arith, c.loop-node.invariant.1, c.read_word.ensures.later),
      omega (arith, c.loop-node.invariant.2, c.read_word.ensures.looked, c.read_word.ensures.reads),
      c.read_word.ensures.same ∙ c.loop-node.invariant.3,
      c.read_word.ensures.lender ∙ c.loop-node.invariant.4,
    )

pub returns-then-is_nearer-clause-nearest : goal.returns-then-is_nearer-clause-nearest
returns-then-is_nearer-clause-nearest g c cells tells =
    found_first c.args.point (g.R.Records.file c.args.nodes.now) c.grid.result c.grid.ensures.value c.loop-node.best c.in-Some.node c.loop-node.self.waiting c.take.new.self c.args.reads.now c.loop-node.reads c.in-Some.ensures.items c.loop-node.invariant.0
    c.in-Some.ensures.least (sym c.is_nearer.ensures ∙ c.if-is_nearer.true) cells tells

pub returns-then-is_nearer-clause-reads : goal.returns-then-is_nearer-clause-reads
returns-then-is_nearer-clause-reads g c cells tells =
    few_now c.args.point (g.R.Records.file c.args.nodes.now) c.loop-node.best c.loop-node.self.waiting c.args.reads.now c.loop-node.reads c.loop-node.invariant.0 cells tells

pub returns-then-is_nearer-clause-looked : goal.returns-then-is_nearer-clause-looked
returns-then-is_nearer-clause-looked g c cells tells =
    few_alike c.args.point (g.R.Records.file c.args.nodes.now).grid cells c.args.reads.now c.loop-node.reads (g.R.Records.looked c.args.nodes.now) (g.R.Records.looked c.loop-node.nodes) c.loop-node.invariant.2
    (returns-then-is_nearer-clause-reads g c cells tells)

pub returns-in_default-clause-nearest : goal.returns-in_default-clause-nearest
returns-in_default-clause-nearest g c cells tells =
    found_last c.args.point (g.R.Records.file c.args.nodes.now) c.loop-node.best c.loop-node.self.waiting c.args.reads.now c.loop-node.reads c.in_default.ensures.none c.loop-node.invariant.0 cells tells

pub returns-in_default-clause-reads : goal.returns-in_default-clause-reads
returns-in_default-clause-reads g c cells tells =
    few_now c.args.point (g.R.Records.file c.args.nodes.now) c.loop-node.best c.loop-node.self.waiting c.args.reads.now c.loop-node.reads c.loop-node.invariant.0 cells tells

pub returns-in_default-clause-looked : goal.returns-in_default-clause-looked
returns-in_default-clause-looked g c cells tells =
    few_alike c.args.point (g.R.Records.file c.args.nodes.now).grid cells c.args.reads.now c.loop-node.reads (g.R.Records.looked c.args.nodes.now) (g.R.Records.looked c.loop-node.nodes) c.loop-node.invariant.2
    (returns-in_default-clause-reads g c cells tells)
