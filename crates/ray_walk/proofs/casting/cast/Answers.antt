-- The walk under the root is that of all cells.
use Rattle.std.proofs.Common.{◌≡◌, ◌-◌, None, IfOk, arith, refl, ap, subst, ◌∙◌}
use Rattle.std.specs.Result.{IfErr}
use Rattle.ray_walk.specs.Hitting.{IsTimed}
use Rattle.ray_walk.specs.Walks.{MetUnder, IsBest, WithKnown}
use Rattle.node_check.specs.declared.walking.WalkFault.TheVariants.{Failed}
use Rattle.ray_walk.proofs.Roots.{best_root, entry_root, few_alike, few_from, first_from, none_hit, root_on_tree, within_root}
use Rattle.ray_walk.proofs.Treading.{err_is}
use Rattle.ray_walk.proofs.casting.cast.Goals as goal

pub returns-then-is_none-clause-hit : goal.returns-then-is_none-clause-hit
returns-then-is_none-clause-hit g c cells tells =
    let flight = c.new-flight.result in
    let file = g.R.Records.file c.args.nodes.now in
    let entry = c.entry.ensures flight.grid.depth 0 (omega arith) c.root-stay.ensures in
    none_hit file cells tells c.args.ray.now flight.scale c.entry.result c.if-is_none.ensures
    (entry_root flight c.args.ray.now file.grid c.entry.result c.new-flight.ensures.ray (c.new-flight.ensures.grid ∙ c.grid-grid.ensures.value) entry)

pub returns-in_err-best-clause-reads : goal.returns-in_err-best-clause-reads
returns-in_err-best-clause-reads g c cells tells =
    let flight = c.new-flight.result in
    let file = g.R.Records.file c.args.nodes.now in
    let is_grid = c.new-flight.ensures.grid ∙ c.grid-grid.ensures.value in
    let is_height = c.depth.ensures.value ∙ ap (λ grid. grid.depth) c.grid-grid.ensures.value in
    let entry = c.entry.ensures flight.grid.depth 0 (omega arith) c.root-stay.ensures in
    let on = root_on_tree file cells tells flight _ c.entry.result c.grid-grid.ensures.framed is_grid is_height refl (ap (λ totals. totals.records - 1) c.totals-totals.ensures.value) c.if-is_none.ensures entry in
    let walked = c.walk.ensures.walked tells.words cells on in
    few_from file cells tells c.args.ray.now flight.scale c.args.reads.now c.walk.new.reads
    (within_root flight c.args.ray.now file.grid cells c.depth.result c.args.reads.now c.walk.new.reads c.new-flight.ensures.ray is_grid is_height walked.reads)

pub returns-in_err-best-clause-looked : goal.returns-in_err-best-clause-looked
returns-in_err-best-clause-looked g c cells tells =
    few_alike c.args.ray.now (g.R.Records.file c.args.nodes.now).grid cells c.args.reads.now c.walk.new.reads (g.R.Records.looked c.args.nodes.now) (g.R.Records.looked c.walk.new.nodes) c.walk.ensures.looked
    (returns-in_err-best-clause-reads g c cells tells)

pub returns-in_err-best-clause-sound : goal.returns-in_err-best-clause-sound
returns-in_err-best-clause-sound g c cells tells =
    let flight = c.new-flight.result in
    let file = g.R.Records.file c.args.nodes.now in
    let is_grid = c.new-flight.ensures.grid ∙ c.grid-grid.ensures.value in
    let is_height = c.depth.ensures.value ∙ ap (λ grid. grid.depth) c.grid-grid.ensures.value in
    let entry = c.entry.ensures flight.grid.depth 0 (omega arith) c.root-stay.ensures in
    let on = root_on_tree file cells tells flight _ c.entry.result c.grid-grid.ensures.framed is_grid is_height refl (ap (λ totals. totals.records - 1) c.totals-totals.ensures.value) c.if-is_none.ensures entry in
    let walked = c.walk.ensures.walked tells.words cells on in
    let cause : c.in_err-best.field-0.0 ≡ Failed = subst (λ r. IfErr r (λ fault. fault ≡ Failed)) c.in_err-best.was walked.sound in
    rw (err_is c.from_residual.result c.in_err-best.field-0.0 c.from_residual.ensures) cause

pub returns-clause-hit : goal.returns-clause-hit
returns-clause-hit g c cells tells =
    let flight = c.new-flight.result in
    let file = g.R.Records.file c.args.nodes.now in
    let ray = c.args.ray.now in
    let is_grid = c.new-flight.ensures.grid ∙ c.grid-grid.ensures.value in
    let is_height = c.depth.ensures.value ∙ ap (λ grid. grid.depth) c.grid-grid.ensures.value in
    let entry = c.entry.ensures flight.grid.depth 0 (omega arith) c.root-stay.ensures in
    let on = root_on_tree file cells tells flight _ c.entry.result c.grid-grid.ensures.framed is_grid is_height refl (ap (λ totals. totals.records - 1) c.totals-totals.ensures.value) c.if-is_none.ensures entry in
    let walked = c.walk.ensures.walked tells.words cells on in
    let best : IsBest (WithKnown flight.scale None (MetUnder flight.ray flight.grid cells c.depth.result 0)) flight.scale c.in_ok-best.best =
    subst (λ r. IfOk r (IsBest (WithKnown flight.scale None (MetUnder flight.ray flight.grid cells c.depth.result 0)) flight.scale)) c.in_ok-best.was walked.best in
    first_from file cells tells ray flight.scale c.in_ok-best.best c.hit.result c.new-flight.ensures.flight.some
    (best_root flight ray file.grid cells c.depth.result c.in_ok-best.best c.new-flight.ensures.ray is_grid is_height best)
    (subst (λ grid. IsTimed ray grid c.in_ok-best.best c.hit.result) c.grid-grid.ensures.value c.hit.ensures)

pub returns-clause-reads : goal.returns-clause-reads
returns-clause-reads g c cells tells =
    let flight = c.new-flight.result in
    let file = g.R.Records.file c.args.nodes.now in
    let is_grid = c.new-flight.ensures.grid ∙ c.grid-grid.ensures.value in
    let is_height = c.depth.ensures.value ∙ ap (λ grid. grid.depth) c.grid-grid.ensures.value in
    let entry = c.entry.ensures flight.grid.depth 0 (omega arith) c.root-stay.ensures in
    let on = root_on_tree file cells tells flight _ c.entry.result c.grid-grid.ensures.framed is_grid is_height refl (ap (λ totals. totals.records - 1) c.totals-totals.ensures.value) c.if-is_none.ensures entry in
    let walked = c.walk.ensures.walked tells.words cells on in
    few_from file cells tells c.args.ray.now flight.scale c.args.reads.now c.walk.new.reads
    (within_root flight c.args.ray.now file.grid cells c.depth.result c.args.reads.now c.walk.new.reads c.new-flight.ensures.ray is_grid is_height walked.reads)

pub returns-clause-looked : goal.returns-clause-looked
returns-clause-looked g c cells tells =
    few_alike c.args.ray.now (g.R.Records.file c.args.nodes.now).grid cells c.args.reads.now c.walk.new.reads (g.R.Records.looked c.args.nodes.now) (g.R.Records.looked c.walk.new.nodes) c.walk.ensures.looked
    (returns-clause-reads g c cells tells)
