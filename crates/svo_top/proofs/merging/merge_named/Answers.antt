-- Two files that are not loaded, or not admitted; or the file of both.
use Rattle.std.proofs.Common.{List, ℕ, Ok, Err, ◌≤◌, ◌≡◌, refl, sym, ap, ◌∙◌, subst, rules, arith}
use Rattle.std.specs.Prelude.{IfSome}
use Rattle.dev_traits.specs.Change.{change_of}
use Rattle.dev_traits.specs.Files.{file_named}
use Rattle.node_merge.specs.PairFrames.{FindsFrames}
use Rattle.node_merge.specs.Sides.{turn_view}
use Rattle.node_merge.specs.declared.pairs.Turn.TheVariants.{First, Second}
use Rattle.node_merge.proofs.Turns.{turn_framed}
use Rattle.svo_top.specs.Merging.{EndsMerge, Merges, MergesBytes, merge_kind_from}
use Rattle.svo_top.specs.declared.outcome.Status.{Status}
use Rattle.svo_top.proofs.MergedPairs.{not_loaded, loaded_pair, first_loaded, second_loaded, stopped_pair, stop_ends, put_as, merged_pair, merge_ends}
use Rattle.svo_top.proofs.merging.merge_named.Goals as goal

pub returns-in-Err : goal.returns-in-Err
returns-in-Err g c =
    let asked = c.args.words.now in
    let telling = g.N.NodeStore.files c.args.store.now in
    let out = change_of g.O.ByteSink.written g.O.ByteSink.faults c.args.out.now c.args.out.now in
    let nodes = change_of g.N.NodeStore.files g.N.NodeStore.faults c.args.store.now c.read_frames.new.store in
    let found =
    subst (λ (name : List ℕ). IfSome telling (λ files. FindsFrames (file_named files asked.nodes) (file_named files name) (Err c.in-Err.fault))) c.as_str-2.ensures
    (subst (λ (name : List ℕ). IfSome telling (λ files. FindsFrames (file_named files name) (file_named files c.as_str-2.result.now) (Err c.in-Err.fault))) c.as_str.ensures c.in-Err.ensures.found) in
    subst (λ (s : Status). Merges asked out nodes s) (sym c.status_of_pair.ensures) (not_loaded asked out nodes (refl, refl) c.in-Err.fault found c.in-Err.ensures.cause)

pub returns-in-Err-admit_pair : goal.returns-in-Err-admit_pair
returns-in-Err-admit_pair g c =
    let asked = c.args.words.now in
    let telling = g.N.NodeStore.files c.args.store.now in
    let found =
    subst (λ (name : List ℕ). IfSome telling (λ files. FindsFrames (file_named files asked.nodes) (file_named files name) (Ok c.in-Ok.frames))) c.as_str-2.ensures
    (subst (λ (name : List ℕ). IfSome telling (λ files. FindsFrames (file_named files name) (file_named files c.as_str-2.result.now) (Ok c.in-Ok.frames))) c.as_str.ensures c.in-Ok.ensures.found) in
    let pair = c.new-pair.result in
    let one = turn_view First pair in
    let other = turn_view Second pair in
    let before = g.N.NodeStore.faults c.args.store.now in
    let loaded = g.N.NodeStore.faults pair.store.now in
    let checked = g.N.NodeStore.faults c.admit_pair.new.pair.store.now in
    let early : before ≤ loaded = subst (λ store. before ≤ g.N.NodeStore.faults store) (sym c.new-pair.ensures.now) c.in-Ok.ensures.cause.later in
    let same : g.N.NodeStore.files pair.store.now ≡ telling = ap g.N.NodeStore.files c.new-pair.ensures.now ∙ c.in-Ok.ensures.files in
    let one_loaded = first_loaded pair c.in-Ok.frames asked.nodes asked.with telling same found c.new-pair.ensures.frames.0 (c.new-pair.ensures.names.0 ∙ c.as_str-3.ensures) c.in-Ok.ensures.first.some in
    let other_loaded = second_loaded pair c.in-Ok.frames asked.nodes asked.with telling same found c.new-pair.ensures.frames.1 (c.new-pair.ensures.names.1 ∙ c.as_str-4.ensures) c.in-Ok.ensures.second.some in
    let out = change_of g.O.ByteSink.written g.O.ByteSink.faults c.args.out.now c.args.out.now in
    loaded_pair asked out _ one other checked c.in-Err-admit_pair.status (search rules) (turn_framed First pair) (turn_framed Second pair) one_loaded other_loaded
    (λ first second one_shown other_shown. stopped_pair (merge_kind_from asked.kind) one other first second one_shown other_shown out before loaded checked early (refl, refl) c.in-Err-admit_pair.status c.in-Err-admit_pair.ensures.admits)
    (stop_ends out before loaded checked early one other (refl, refl) c.in-Err-admit_pair.status c.in-Err-admit_pair.ensures.admits)

pub returns : goal.returns
returns g c =
    let asked = c.args.words.now in
    let telling = g.N.NodeStore.files c.args.store.now in
    let found =
    subst (λ (name : List ℕ). IfSome telling (λ files. FindsFrames (file_named files asked.nodes) (file_named files name) (Ok c.in-Ok.frames))) c.as_str-2.ensures
    (subst (λ (name : List ℕ). IfSome telling (λ files. FindsFrames (file_named files name) (file_named files c.as_str-2.result.now) (Ok c.in-Ok.frames))) c.as_str.ensures c.in-Ok.ensures.found) in
    let pair = c.new-pair.result in
    let one = turn_view First pair in
    let other = turn_view Second pair in
    let before = g.N.NodeStore.faults c.args.store.now in
    let loaded = g.N.NodeStore.faults pair.store.now in
    let checked = g.N.NodeStore.faults c.admit_pair.new.pair.store.now in
    let early : before ≤ loaded = subst (λ store. before ≤ g.N.NodeStore.faults store) (sym c.new-pair.ensures.now) c.in-Ok.ensures.cause.later in
    let same : g.N.NodeStore.files pair.store.now ≡ telling = ap g.N.NodeStore.files c.new-pair.ensures.now ∙ c.in-Ok.ensures.files in
    let one_loaded = first_loaded pair c.in-Ok.frames asked.nodes asked.with telling same found c.new-pair.ensures.frames.0 (c.new-pair.ensures.names.0 ∙ c.as_str-3.ensures) c.in-Ok.ensures.first.some in
    let other_loaded = second_loaded pair c.in-Ok.frames asked.nodes asked.with telling same found c.new-pair.ensures.frames.1 (c.new-pair.ensures.names.1 ∙ c.as_str-4.ensures) c.in-Ok.ensures.second.some in
    let out = change_of g.O.ByteSink.written g.O.ByteSink.faults c.args.out.now c.put_merged.new.out in
    let after = g.N.NodeStore.faults c.put_merged.new.pair.store.now in
    let whole : before ≤ checked = omega (arith, early, c.in_default.ensures.later) in
    let put = put_as c.merge_kind_from.result (merge_kind_from asked.kind) _ _ one other out.before out.after c.put_merged.result c.merge_kind_from.ensures c.in_default.ensures.first c.in_default.ensures.second c.put_merged.ensures.told in
    loaded_pair asked out _ one other after c.status_of_answer.result (search rules) (turn_framed First pair) (turn_framed Second pair) one_loaded other_loaded
    (λ first second one_shown other_shown.
    subst (λ (s : Status). MergesBytes (merge_kind_from asked.kind) first second out before after s) (sym c.status_of_answer.ensures)
    (merged_pair (merge_kind_from asked.kind) one other first second one_shown other_shown out before checked after whole c.put_merged.result put c.put_merged.ensures.cause.nodes_later c.in_default.ensures.admits.0 c.in_default.ensures.admits.1 c.in_default.ensures.admits.2 c.put_merged.ensures.cause))
    (subst (λ (s : Status). EndsMerge out before after s) (sym c.status_of_answer.ensures) (merge_ends out before checked after whole c.put_merged.result c.put_merged.ensures.cause))
