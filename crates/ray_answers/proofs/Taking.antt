-- Lines of a text that are taken one after another, and the answers to their queries.
use Rattle.std.proofs.Common.{◌≡◌, ◌≢◌, ℕ, suc, ◌+◌, ◌-◌, ◌<◌, Bool, true, false, List, [], ◌∷◌, ◌++◌, length, drop, refl, sym, ap, ◌∙◌, subst, arith, Option, None, Some, Result, Ok, Err, length-drop, append_assoc, append-nil}
use Rattle.std.specs.Io.KnownBytes.{append_known}
use Rattle.octree_specs.specs.Cells.{Cell}
use Rattle.node_check.specs.Stops.{PutsFront}
use Rattle.node_check.specs.declared.walking.WalkFault.TheVariants.{Failed, Refused}
use Rattle.node_file.specs.FileView.{FileView}
use Rattle.ply_text.specs.NextPieces.{next_line_of, line_size}
use Rattle.ply_text.specs.Reading.{Reading, StandsIn}
use Rattle.ray_answers.specs.declared.queries.Query.{Query}
use Rattle.ray_answers.specs.declared.queries.QueryKind.{QueryKind}
use Rattle.ray_walk.specs.Answers.{TellsCells}
use Rattle.ray_answers.specs.QueryTexts.{QueryText, behind, ends, with_line, queries_in}
use Rattle.ray_answers.specs.LineCalls.{ReadsLine, with_read}
use Rattle.ray_answers.specs.Runs.{GivesAnswer, KeepsGiven, IsLeft, IsUnderWay, IsOver}
use Rattle.ray_answers.specs.declared.lines.Line.{Line}
use Rattle.ray_answers.specs.declared.lines.Line.TheVariants.{End, Blank, Asks}
use Rattle.ray_answers.specs.declared.stops.LineStop.{LineStop}
use Rattle.ray_answers.specs.declared.stops.LineStop.TheVariants.{AtLine, ReadFault, WriteFault, Walk, Memory}
use Rattle.ray_answers.proofs.AnswerTexts.{given_more, given_still, given_cut}

-- ---- the queries of a text

-- one line of those that are left
one_line : (kind : QueryKind) (n m place : ℕ) (text : List ℕ) → n ≡ suc m → queries_in kind n place text ≡ with_line kind (next_line_of place text) (queries_in kind m (place + line_size text) (drop (line_size text) text))
unfolding queries_in
one_line kind n m place text more = ap (λ k. queries_in kind k place text) more

-- queries, then others, then what follows
behind_twice : (xs ys : List Query) (later : QueryText) → behind xs (behind ys later) ≡ behind (xs ++ ys) later
behind_twice xs ys later = λ i. record { queries = sym (append_assoc xs ys later.queries) i; end = later.end }

-- a line more was taken
left_more : (kind : QueryKind) (text : List ℕ) (queries more : List Query) (a b c : Reading) (line : Line) → IsLeft kind text queries a b → ReadsLine kind b c (Ok line) → b.place < c.place
    → ((later : QueryText) → with_read (Ok line) later ≡ behind more later) → IsLeft kind text (queries ++ more) a c
left_more kind text queries more a b c line is read further adds =
    let m : ℕ = is.lines - 1 in
    let step : is.lines ≡ suc m = omega (arith, is.few) in
    let passed = read.passed is.rest is.left in
    let size : ℕ = line_size is.rest in
    let rest : List ℕ = drop size is.rest in
    let later : QueryText = queries_in kind m (b.place + size) rest in
    let here : later ≡ queries_in kind m c.place rest = ap (λ p. queries_in kind m p rest) (sym passed.1) in
    let taken : queries_in kind is.lines b.place is.rest ≡ behind more later =
    one_line kind is.lines m b.place is.rest step ∙ (read.told is.rest later is.left (λ e. cc e) ∙ adds later) in
    record {
      rest = rest;
      lines = m;
      left = passed.0;
      few = omega (arith, is.few, step, further, passed.1, length-drop size is.rest);
      whole = is.whole ∙ (ap (behind queries) taken ∙ (behind_twice queries more later ∙ ap (behind (queries ++ more)) here));
    }

-- the queries end at a line
left_ends : (kind : QueryKind) (text : List ℕ) (queries : List Query) (a b c : Reading) (result : Result Line LineStop) (end : Option LineStop) → IsLeft kind text queries a b → ReadsLine kind b c result → result ≢ Err ReadFault
    → ((later : QueryText) → with_read result later ≡ ends end) → queries_in kind (length text + 1) a.place text ≡ record { queries = queries; end = end }
left_ends kind text queries a b c result end is read ok stops =
    let m : ℕ = is.lines - 1 in
    let step : is.lines ≡ suc m = omega (arith, is.few) in
    let size : ℕ = line_size is.rest in
    let later : QueryText = queries_in kind m (b.place + size) (drop size is.rest) in
    let taken : queries_in kind is.lines b.place is.rest ≡ ends end = one_line kind is.lines m b.place is.rest step ∙ (read.told is.rest later is.left ok ∙ stops later) in
    is.whole ∙ (ap (behind queries) taken ∙ (λ i. record { queries = append-nil queries i; end = end }))

-- the queries so far are the first ones
left_later : (kind : QueryKind) (text : List ℕ) (queries : List Query) (a b : Reading) → IsLeft kind text queries a b → (later : List Query) × ((queries_in kind (length text + 1) a.place text).queries ≡ queries ++ later)
left_later kind text queries a b is = ((queries_in kind is.lines b.place is.rest).queries, ap (λ t. t.queries) is.whole)

-- ---- what is under way

module _ (kind : QueryKind) (file : FileView) (a b c : Reading) (start written : Option (List ℕ)) (waiting : List ℕ) (way : IsUnderWay kind file a b start written waiting) where
  stands_on : (result : Result Line LineStop) → ReadsLine kind b c result → (text : List ℕ) → StandsIn text a → StandsIn text c
  stands_on result read text stands = read.stands text (way.stands text stands)

  -- a line without words
  pub blank_taken : ReadsLine kind b c (Ok Blank) → IsUnderWay kind file a c start written waiting
  blank_taken read = record {
    queries = way.queries;
    free = read.free;
    stands = stands_on (Ok Blank) read;
    told = λ text told. subst (λ queries. IsLeft kind text queries a c) (append-nil way.queries)
        (left_more kind text way.queries [] a b c Blank (way.told text told) read (read.onward (λ e. cc e)) (λ later. refl));
    given = way.given;
  }

  -- no line is left
  pub end_taken : ReadsLine kind b c (Ok End) → IsOver {T = Bool} kind file a c start written waiting (Ok false)
  end_taken read = record {
    queries = way.queries;
    stands = stands_on (Ok End) read;
    passed = λ text told. let is = way.told text told in read.ended is.rest is.left refl;
    told = λ text told. left_ends kind text way.queries a b c (Ok End) None (way.told text told) read (λ e. cc e) (λ later. refl);
    given = way.given;
  }

  -- a query that was answered
  pub query_taken : (query : Query) (after : Option (List ℕ)) (left : List ℕ) → ReadsLine kind b c (Ok (Asks query))
      → ((cells : List Cell) → TellsCells file cells → GivesAnswer {T = Bool} file.grid cells query (append_known written waiting) (append_known after left) (Ok true))
      → PutsFront written after waiting → IsUnderWay kind file a c start after left
  query_taken query after left read gives more = record {
    queries = way.queries ++ query ∷ [];
    free = read.free;
    stands = stands_on (Ok (Asks query)) read;
    told = λ text told. left_more kind text way.queries (query ∷ []) a b c (Asks query) (way.told text told) read (read.onward (λ e. cc e)) (λ later. refl);
    given = λ cells tells.
        let given = gives cells tells in
        given_more file.grid cells way.queries query given.0 start written after waiting left (way.given cells tells) given.1 given.2 more;
  }

  -- the line stops the queries, or the source failed
  pub line_stopped : (stop : LineStop) → ReadsLine kind b c (Err stop) → IsOver {T = Bool} kind file a c start written waiting (Err stop)
  line_stopped (AtLine fault) read = record {
    queries = way.queries;
    stands = stands_on (Err (AtLine fault)) read;
    passed = read.reached;
    told = λ text told. left_ends kind text way.queries a b c (Err (AtLine fault)) (Some (AtLine fault)) (way.told text told) read (λ e. cc e) (λ later. refl);
    given = way.given;
  }
  line_stopped ReadFault read = record {
    queries = way.queries;
    stands = stands_on (Err ReadFault) read;
    passed = read.reached;
    told = λ text told. left_later kind text way.queries a b (way.told text told);
    given = way.given;
  }
  line_stopped WriteFault read = absurd read.text_only
  line_stopped (Walk fault) read = absurd read.text_only
  line_stopped Memory read = absurd read.text_only

  -- the query's walk stopped, or the output failed
  pub query_stopped : (T : Type 0) (query : Query) (after : Option (List ℕ)) (left : List ℕ) (stop : LineStop) → ReadsLine kind b c (Ok (Asks query))
      → ((cells : List Cell) → TellsCells file cells → GivesAnswer {T = T} file.grid cells query (append_known written waiting) (append_known after left) (Err stop))
      → KeepsGiven {T = T} (append_known written waiting) (append_known after left) (Err stop) → PutsFront written after waiting
      → IsOver {T = Bool} kind file a c start after left (Err stop)
  query_stopped T query after left (AtLine fault) read gives kept more = absurd kept
  query_stopped T query after left ReadFault read gives kept more = absurd kept
  query_stopped T query after left WriteFault read gives kept more = record {
    queries = way.queries;
    stands = stands_on (Ok (Asks query)) read;
    passed = omega arith;
    told = λ text told. left_later kind text way.queries a b (way.told text told);
    given = λ cells tells. given_cut file.grid cells way.queries start written after waiting (way.given cells tells) more;
  }
  query_stopped T query after left (Walk Failed) read gives kept more = record {
    queries = way.queries;
    stands = stands_on (Ok (Asks query)) read;
    passed = omega arith;
    told = λ text told. left_later kind text way.queries a b (way.told text told);
    given = λ cells tells. given_still file.grid cells way.queries start written after waiting left (way.given cells tells) kept more;
  }
  query_stopped T query after left Memory read gives kept more = record {
    queries = way.queries;
    stands = stands_on (Ok (Asks query)) read;
    passed = omega arith;
    told = λ text told. left_later kind text way.queries a b (way.told text told);
    given = λ cells tells. given_still file.grid cells way.queries start written after waiting left (way.given cells tells) kept more;
  }
  query_stopped T query after left (Walk (Refused number word)) read gives kept more = record {
    queries = way.queries;
    stands = stands_on (Ok (Asks query)) read;
    passed = omega arith;
    told = λ text told. left_later kind text way.queries a b (way.told text told);
    given = gives;
  }

  pub query_over : {T : Type 0} (query : Query) (after : Option (List ℕ)) (left : List ℕ) (answered : Result T LineStop) (stop : LineStop) → answered ≡ Err stop → ReadsLine kind b c (Ok (Asks query))
      → ((cells : List Cell) → TellsCells file cells → GivesAnswer file.grid cells query (append_known written waiting) (append_known after left) answered)
      → KeepsGiven (append_known written waiting) (append_known after left) answered → PutsFront written after waiting
      → IsOver {T = Bool} kind file a c start after left (Err stop)
  query_over {T} query after left answered stop is read gives kept more =
      query_stopped T query after left stop read
      (λ cells tells. subst (λ r. GivesAnswer file.grid cells query (append_known written waiting) (append_known after left) r) is (gives cells tells))
      (subst (λ r. KeepsGiven (append_known written waiting) (append_known after left) r) is kept) more
