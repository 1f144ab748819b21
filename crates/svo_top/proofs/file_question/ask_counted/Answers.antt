-- A file that is not loaded, or not admitted; or the question's answer over its words, read as they are or by kept blocks.
use Rattle.std.proofs.Common.{ℕ, List, Ok, ◌≤◌, ◌≡◌, None, refl, sym, ◌∙◌, subst, rules, arith}
use Rattle.std.specs.Prelude.{IfSome}
use Rattle.dev_traits.specs.Change.{change_of}
use Rattle.dev_traits.specs.Files.{file_named, current_bytes}
use Rattle.node_file.specs.FileView.{FileView, IsFileView}
use Rattle.node_file.specs.Loading.{IsLoaded}
use Rattle.node_file.specs.Stored.{words_in}
use Rattle.node_file.specs.Viewing.{bytes_of, file_of}
use Rattle.node_file.proofs.Frames.{file_view}
use Rattle.node_file.proofs.Loads.{is_loaded}
use Rattle.svo_top.specs.FileAnswers.{bar}
use Rattle.svo_top.specs.FileQuestion.{Asks, AsksFile}
use Rattle.svo_top.specs.Loaded.{status_of_load}
use Rattle.svo_top.specs.declared.outcome.Status.{Status}
use Rattle.svo_top.specs.declared.outcome.Status.TheVariants.{Memory}
use Rattle.svo_top.specs.NodeFiles.{refused_of}
use Rattle.svo_top.proofs.OpenFileAnswers.{not_admitted, admitted, works_memory}
use Rattle.svo_top.proofs.NamedFileAnswers.{not_loaded, load_ends, stop_ends, memory_ends, ends_later, asked}
use Rattle.svo_top.proofs.file_question.ask_counted.Goals as goal

pub returns-in-Err : goal.returns-in-Err
returns-in-Err g c =
    let input = change_of g.I.ByteSource.rest g.I.ByteSource.faults c.args.input.now c.args.input.now in
    let out = change_of g.O.ByteSink.written g.O.ByteSink.faults c.args.out.now c.args.out.now in
    let nodes = change_of g.N.NodeStore.files g.N.NodeStore.faults c.args.store.now c.read.new.store in
    subst (λ (name : List ℕ). Asks c.args.question.now name input out nodes c.status_of_load.result) c.as_str.ensures
    (subst (λ (s : Status). Asks c.args.question.now c.as_str.result.now input out nodes s) (sym c.status_of_load.ensures) (record {
      told = not_loaded c.args.question.now c.as_str.result.now input out nodes (refl, refl) (refl, refl) c.in-Err.fault c.in-Err.ensures.found c.in-Err.ensures.cause;
      ends = load_ends c.args.question.now input out nodes.faults_before nodes.faults_after (refl, refl) c.in-Err.fault c.in-Err.ensures.cause;
    }))

pub returns-in-Err-admit : goal.returns-in-Err-admit
returns-in-Err-admit g c =
    let input = change_of g.I.ByteSource.rest g.I.ByteSource.faults c.args.input.now c.args.input.now in
    let out = change_of g.O.ByteSink.written g.O.ByteSink.faults c.args.out.now c.args.out.now in
    let question = c.args.question.now in
    let nodes = c.new-nodes.result in
    let file = file_of nodes in
    let before = g.N.NodeStore.faults c.args.store.now in
    let loaded = g.N.NodeStore.faults nodes.store.now in
    let checked = g.N.NodeStore.faults c.admit.new.nodes.store.now in
    let early : before ≤ loaded = subst (λ store. before ≤ g.N.NodeStore.faults store) (sym c.new-nodes.ensures.now) c.in-Ok.ensures.cause.later in
    let framed = file_view (bytes_of nodes) nodes.frame nodes.format nodes.limits nodes.some in
    let shown =
    subst (λ (name : List ℕ). IfSome (g.N.NodeStore.files c.args.store.now) (λ files. IsLoaded file_of (file_named files name) (Ok nodes))) c.as_str.ensures
    (is_loaded file_of c.as_str.result.now nodes c.in-Ok.frame (g.N.NodeStore.files c.args.store.now) (g.N.NodeStore.files c.read.new.store) (g.N.NodeStore.current c.read.new.store)
    c.in-Ok.ensures.found c.in-Ok.ensures.files c.in-Ok.ensures.current
    (λ i. record {
      format = (c.new-nodes.ensures.frame i).format;
      grid = (c.new-nodes.ensures.frame i).grid;
      totals = (c.new-nodes.ensures.frame i).totals;
      words = words_in (current_bytes (g.N.NodeStore.files (c.new-nodes.ensures.now i)) (g.N.NodeStore.current (c.new-nodes.ensures.now i))) (c.new-nodes.ensures.frame i).totals.records;
    })
    c.in-Ok.ensures.some) in
    asked file_of nodes question c.args.name.now input out _ loaded checked c.in-Err-admit.status framed shown early c.in-Err-admit.ensures.later
    (search rules)
    (not_admitted question file framed input out loaded checked (refl, refl) (refl, refl) c.in-Err-admit.status c.in-Err-admit.ensures.admits)
    (stop_ends question file input out loaded checked (refl, refl) (refl, refl) c.in-Err-admit.status c.in-Err-admit.ensures.admits)

pub returns-in-Err-make : goal.returns-in-Err-make
returns-in-Err-make g c =
    let input = change_of g.I.ByteSource.rest g.I.ByteSource.faults c.args.input.now c.args.input.now in
    let out = change_of g.O.ByteSink.written g.O.ByteSink.faults c.args.out.now c.args.out.now in
    let question = c.args.question.now in
    let nodes = c.new-nodes.result in
    let file = file_of nodes in
    let before = g.N.NodeStore.faults c.args.store.now in
    let loaded = g.N.NodeStore.faults nodes.store.now in
    let checked = g.N.NodeStore.faults c.admit.new.nodes.store.now in
    let early : before ≤ loaded = subst (λ store. before ≤ g.N.NodeStore.faults store) (sym c.new-nodes.ensures.now) c.in-Ok.ensures.cause.later in
    let framed = file_view (bytes_of nodes) nodes.frame nodes.format nodes.limits nodes.some in
    let shown =
    subst (λ (name : List ℕ). IfSome (g.N.NodeStore.files c.args.store.now) (λ files. IsLoaded file_of (file_named files name) (Ok nodes))) c.as_str.ensures
    (is_loaded file_of c.as_str.result.now nodes c.in-Ok.frame (g.N.NodeStore.files c.args.store.now) (g.N.NodeStore.files c.read.new.store) (g.N.NodeStore.current c.read.new.store)
    c.in-Ok.ensures.found c.in-Ok.ensures.files c.in-Ok.ensures.current
    (λ i. record {
      format = (c.new-nodes.ensures.frame i).format;
      grid = (c.new-nodes.ensures.frame i).grid;
      totals = (c.new-nodes.ensures.frame i).totals;
      words = words_in (current_bytes (g.N.NodeStore.files (c.new-nodes.ensures.now i)) (g.N.NodeStore.current (c.new-nodes.ensures.now i))) (c.new-nodes.ensures.frame i).totals.records;
    })
    c.in-Ok.ensures.some) in
    asked file_of nodes question c.args.name.now input out _ loaded checked Memory framed shown early c.in_default.ensures.later
    (search rules)
    (admitted question file framed input out loaded checked checked Memory c.in_default.ensures.later (search rules) c.in_default.ensures.admits.0 c.in_default.ensures.admits.1
    (λ cells keeps. works_memory out checked checked (refl, refl) question file.format file.grid cells input (refl, refl)) (λ cells keeps refusal e. cc) (λ fault needs e. cc))
    (memory_ends question input out loaded checked (sym c.keeps_blocks.ensures ∙ c.if-not-keeps_blocks.false) (refl, refl) (refl, refl))

pub returns-then-not-keeps_blocks : goal.returns-then-not-keeps_blocks
returns-then-not-keeps_blocks g c =
    let input = change_of g.I.ByteSource.rest g.I.ByteSource.faults c.args.input.now c.answer.new.input in
    let out = change_of g.O.ByteSink.written g.O.ByteSink.faults c.args.out.now c.answer.new.out in
    let question = c.args.question.now in
    let nodes = c.new-nodes.result in
    let file = file_of nodes in
    let before = g.N.NodeStore.faults c.args.store.now in
    let loaded = g.N.NodeStore.faults nodes.store.now in
    let checked = g.N.NodeStore.faults c.admit.new.nodes.store.now in
    let early : before ≤ loaded = subst (λ store. before ≤ g.N.NodeStore.faults store) (sym c.new-nodes.ensures.now) c.in-Ok.ensures.cause.later in
    let framed = file_view (bytes_of nodes) nodes.frame nodes.format nodes.limits nodes.some in
    let shown =
    subst (λ (name : List ℕ). IfSome (g.N.NodeStore.files c.args.store.now) (λ files. IsLoaded file_of (file_named files name) (Ok nodes))) c.as_str.ensures
    (is_loaded file_of c.as_str.result.now nodes c.in-Ok.frame (g.N.NodeStore.files c.args.store.now) (g.N.NodeStore.files c.read.new.store) (g.N.NodeStore.current c.read.new.store)
    c.in-Ok.ensures.found c.in-Ok.ensures.files c.in-Ok.ensures.current
    (λ i. record {
      format = (c.new-nodes.ensures.frame i).format;
      grid = (c.new-nodes.ensures.frame i).grid;
      totals = (c.new-nodes.ensures.frame i).totals;
      words = words_in (current_bytes (g.N.NodeStore.files (c.new-nodes.ensures.now i)) (g.N.NodeStore.current (c.new-nodes.ensures.now i))) (c.new-nodes.ensures.frame i).totals.records;
    })
    c.in-Ok.ensures.some) in
    let answered = checked in
    let after = g.N.NodeStore.faults c.answer.new.nodes.store.now in
    let same : file_of c.admit.new.nodes ≡ file = c.in_default.ensures.same in
    let one : loaded ≤ answered = c.in_default.ensures.later in
    let asks = subst (λ (f : FileView). AsksFile question f input out loaded after c.answer.result) same
    (admitted question (file_of c.admit.new.nodes) (subst (λ (f : FileView). IsFileView f) (sym same) framed) input out loaded answered after c.answer.result one c.answer.ensures.later
    (subst (λ (f : FileView). IfSome f.words (λ words. refused_of f words ≡ None)) (sym same) c.in_default.ensures.admits.0)
    (subst (λ (f : FileView). bar question f.grid.depth ≡ None) (sym same) c.in_default.ensures.admits.1)
    c.answer.ensures.works c.answer.ensures.sure c.answer.ensures.unbarred) in
    let both : loaded ≤ after = omega (arith, one, c.answer.ensures.later) in
    asked file_of nodes question c.args.name.now input out _ loaded after c.answer.result framed shown early both
    (search rules)
    (asks)
    (ends_later question input out loaded answered after c.answer.result one c.answer.ensures.ends)

pub returns : goal.returns
returns g c =
    let input = change_of g.I.ByteSource.rest g.I.ByteSource.faults c.args.input.now c.answer-2.new.input in
    let out = change_of g.O.ByteSink.written g.O.ByteSink.faults c.args.out.now c.answer-2.new.out in
    let question = c.args.question.now in
    let nodes = c.new-nodes.result in
    let file = file_of nodes in
    let before = g.N.NodeStore.faults c.args.store.now in
    let loaded = g.N.NodeStore.faults nodes.store.now in
    let checked = g.N.NodeStore.faults c.admit.new.nodes.store.now in
    let early : before ≤ loaded = subst (λ store. before ≤ g.N.NodeStore.faults store) (sym c.new-nodes.ensures.now) c.in-Ok.ensures.cause.later in
    let framed = file_view (bytes_of nodes) nodes.frame nodes.format nodes.limits nodes.some in
    let shown =
    subst (λ (name : List ℕ). IfSome (g.N.NodeStore.files c.args.store.now) (λ files. IsLoaded file_of (file_named files name) (Ok nodes))) c.as_str.ensures
    (is_loaded file_of c.as_str.result.now nodes c.in-Ok.frame (g.N.NodeStore.files c.args.store.now) (g.N.NodeStore.files c.read.new.store) (g.N.NodeStore.current c.read.new.store)
    c.in-Ok.ensures.found c.in-Ok.ensures.files c.in-Ok.ensures.current
    (λ i. record {
      format = (c.new-nodes.ensures.frame i).format;
      grid = (c.new-nodes.ensures.frame i).grid;
      totals = (c.new-nodes.ensures.frame i).totals;
      words = words_in (current_bytes (g.N.NodeStore.files (c.new-nodes.ensures.now i)) (g.N.NodeStore.current (c.new-nodes.ensures.now i))) (c.new-nodes.ensures.frame i).totals.records;
    })
    c.in-Ok.ensures.some) in
    let answered = g.N.NodeStore.faults c.new-blocks.result.nodes.store.now in
    let after = g.N.NodeStore.faults c.answer-2.new.nodes.nodes.store.now in
    let same : file_of c.new-blocks.result.nodes ≡ file = (c.new-blocks.ensures.file ∙ c.in_default.ensures.same) in
    let one : loaded ≤ answered = (subst (λ store. loaded ≤ g.N.NodeStore.faults store) (sym c.new-blocks.ensures.now) c.in_default.ensures.later) in
    let asks = subst (λ (f : FileView). AsksFile question f input out loaded after c.answer-2.result) same
    (admitted question (file_of c.new-blocks.result.nodes) (subst (λ (f : FileView). IsFileView f) (sym same) framed) input out loaded answered after c.answer-2.result one c.answer-2.ensures.later
    (subst (λ (f : FileView). IfSome f.words (λ words. refused_of f words ≡ None)) (sym same) c.in_default.ensures.admits.0)
    (subst (λ (f : FileView). bar question f.grid.depth ≡ None) (sym same) c.in_default.ensures.admits.1)
    c.answer-2.ensures.works c.answer-2.ensures.sure c.answer-2.ensures.unbarred) in
    let both : loaded ≤ after = omega (arith, one, c.answer-2.ensures.later) in
    asked file_of nodes question c.args.name.now input out _ loaded after c.answer-2.result framed shown early both
    (search rules)
    (asks)
    (ends_later question input out loaded answered after c.answer-2.result one c.answer-2.ensures.ends)
