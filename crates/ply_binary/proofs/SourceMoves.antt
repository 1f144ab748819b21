-- Calls that give text, one after another.
use Rattle.std.proofs.Common.{◌≡◌, Bool, true, false, ◌==◌, ℕ, ◌⊎◌, inl, inr, List, [], ◌∷◌, ◌++◌, length, Option, None, Some, refl, sym, ap, ◌∙◌, subst, arith, Result, Ok, Err, IsErr, IfOk, MatchResult, append_assoc, append-nil, ◌≤◌, ◌<◌, take, drop, slice_set}
use Rattle.std.proofs.lemmas.Bool.Decides.{nat_tests}
use Rattle.std.specs.Option.{option_map}
use Rattle.std.specs.Io.KnownBytes.{prepend_known, IsAtEnd}
use Rattle.dev_traits.specs.declared.device.ByteSource.{Ghosts}
use Rattle.ply_reader.specs.Declarations.{Declared, declared}
use Rattle.ply_binary.specs.Bodies.{end_text}
use Rattle.ply_binary.specs.declared.body.Body.{Body}
use Rattle.ply_binary.specs.declared.held.HeldInput.{HeldInput}
use Rattle.ply_binary.specs.declared.rewriting.Halt.{Halt}
use Rattle.ply_binary.specs.declared.rewriting.Halt.TheVariants.{Ended}
use Rattle.ply_binary.specs.BodyStates.{body_left, left_behind, Halts}
use Rattle.ply_binary.specs.declared.source.AsciiSource.{AsciiSource}
use Rattle.ply_binary.specs.declared.source.Stage.TheVariants.{Head, Over}
use Rattle.dev_traits.specs.Contents.{TakesFront}
use Rattle.ply_binary.proofs.HeldBytes.{known_none}
use Rattle.ply_binary.specs.HeldStates.{held, HoldsMore}
use Rattle.ply_binary.specs.SourceStates.{left_by, text_behind, source_rest, IsBehindHead, SameLent, Moves}

pub empty_parts : (xs ys : List ℕ) → [] ≡ xs ++ ys → (xs ≡ []) × (ys ≡ [])
empty_parts [] ys is = (refl, sym is)
empty_parts (x ∷ xs) ys is = absurd (cc is)

-- what `?` returns
pub match_err : {T E : Type 0} (r : Result T E) (P : T → Type 0) (Q : Type 0) → IsErr r → Q → MatchResult r P (λ _. Q)
match_err (Ok x) P Q bad holds = absurd (cc bad)
match_err (Err e) P Q bad holds = holds

-- what a test of a length tells
pub none_of : (xs : List ℕ) → true ≡ (length xs == 0) → xs ≡ []
none_of [] is = refl
none_of (x ∷ xs) is = absurd (let some : (length (x ∷ xs) == 0) ≡ false = grind (arith, nat_tests) in let bad : true ≡ false = is ∙ some in cc bad)

pub some_of : (xs : List ℕ) → false ≡ (length xs == 0) → xs ≡ [] → ⊥
some_of xs is none = let bad : false ≡ true = is ∙ ap (λ l. length l == 0) none in cc bad

at_end : (text : List ℕ → List ℕ) (rest : Option (List ℕ)) → ((more : List ℕ) → text more ≡ []) → IsAtEnd (option_map text rest)
at_end text None none = tt
at_end text (Some bytes) none = none bytes

-- the end's mark
pub marked : (bytes more : List ℕ) → 0 < length bytes → end_text (bytes ++ more) ≡ 120 ∷ []
marked [] more some = absurd (omega (arith, some))
marked (x ∷ xs) more some = refl

-- where no value is left and none was rewritten, a byte that follows is the mark
pub mark_left : (halt : Halt) (d : Declared) (body after : Body) (bytes into more : List ℕ) (used made : ℕ) → halt ≡ Ended → made ≤ 0
    → body_left d body (bytes ++ more) ≡ take made into ++ left_behind halt d after (drop used bytes ++ more) → Halts halt (body_left d after) (drop used bytes) → 0 < length (drop used bytes)
    → body_left d body (bytes ++ more) ≡ 120 ∷ []
mark_left halt d body after bytes into more used made is none left halts some =
    let zero : made ≡ 0 = omega (arith, none) in
    let P : Halt → Type 0 = λ h. Halts h (body_left d after) (drop used bytes) in
    let ends : body_left d after ≡ end_text = subst P is halts in
    left ∙ ap (λ n. take n into ++ left_behind halt d after (drop used bytes ++ more)) zero ∙ ap (λ h. left_behind h d after (drop used bytes ++ more)) is
    ∙ ap (λ f. f (drop used bytes ++ more)) ends ∙ marked (drop used bytes) more some

pub mark_put : (into : List ℕ) → 0 < length into → take 1 (slice_set into 0 120) ≡ 120 ∷ []
mark_put [] some = absurd (omega (arith, some))
mark_put (x ∷ xs) some = refl

module _ {I : Type 0} {g : Ghosts I} where
  -- a front was read, and text was given
  pub moves_by : (old new : AsciiSource I g) (front given : List ℕ) → SameLent old new → g.rest old.held.input.now ≡ prepend_known front (g.rest new.held.input.now)
      → ((more : List ℕ) → text_behind old (front ++ more) ≡ given ++ text_behind new more) ⊎ (IsAtEnd (g.rest new.held.input.now) × (text_behind old front ≡ given ++ text_behind new []))
      → Moves old new given
  moves_by old new front given lent rest text = by_rest (g.rest new.held.input.now) refl
    where
      settled : (behind : List ℕ) → g.rest new.held.input.now ≡ Some behind
          → ((more : List ℕ) → text_behind old (front ++ more) ≡ given ++ text_behind new more) ⊎ (IsAtEnd (g.rest new.held.input.now) × (text_behind old front ≡ given ++ text_behind new []))
          → ((more : List ℕ) → text_behind old (front ++ more) ≡ given ++ text_behind new more) ⊎ ((behind ≡ []) × (text_behind old front ≡ given ++ text_behind new []))
      settled behind e (inl always) = inl always
      settled behind e (inr end) = inr (subst IsAtEnd e end.0, end.1)

      by_rest : (after : Option (List ℕ)) → g.rest new.held.input.now ≡ after → Moves old new given
      by_rest None e = record {
        lent = lent;
        untold = λ _. e;
        told = λ bytes is. absurd (let none : Some bytes ≡ None = sym is ∙ rest ∙ ap (prepend_known front) e in cc none);
      }
      by_rest (Some behind) e = record {
        lent = lent;
        untold = λ none. absurd (let some : None ≡ Some (front ++ behind) = sym none ∙ rest ∙ ap (prepend_known front) e in cc some);
        told = λ bytes is. record {
          front = front;
          behind = behind;
          parts = let same : Some bytes ≡ Some (front ++ behind) = sym is ∙ rest ∙ ap (prepend_known front) e in cc same;
          rest = e;
          text = settled behind e text;
        };
      }

  -- more bytes were held, and then text was given
  pub moves_then : (old new : AsciiSource I g) (mid : HeldInput I g) (given : List ℕ) → HoldsMore old.held mid → SameLent old new → g.rest new.held.input.now ≡ g.rest mid.input.now
      → ((more : List ℕ) → old.text ++ left_by old.stage (declared old.header) old.place old.body (held mid ++ more) ≡ given ++ text_behind new more)
      ⊎ (IsAtEnd (g.rest mid.input.now) × (old.text ++ left_by old.stage (declared old.header) old.place old.body (held mid ++ []) ≡ given ++ text_behind new []))
      → Moves old new given
  moves_then old new mid given holds lent same text =
      moves_by old new holds.read given lent (holds.rest ∙ ap (prepend_known holds.read) (sym same)) (settled text)
    where
      front_held : (more : List ℕ) → text_behind old (holds.read ++ more) ≡ old.text ++ left_by old.stage (declared old.header) old.place old.body (held mid ++ more)
      front_held more = ap (λ l. old.text ++ left_by old.stage (declared old.header) old.place old.body l)
          (sym (append_assoc (held old.held) holds.read more) ∙ ap (λ l. l ++ more) (sym holds.held_is))

      settled : ((more : List ℕ) → old.text ++ left_by old.stage (declared old.header) old.place old.body (held mid ++ more) ≡ given ++ text_behind new more)
          ⊎ (IsAtEnd (g.rest mid.input.now) × (old.text ++ left_by old.stage (declared old.header) old.place old.body (held mid ++ []) ≡ given ++ text_behind new []))
          → ((more : List ℕ) → text_behind old (holds.read ++ more) ≡ given ++ text_behind new more) ⊎ (IsAtEnd (g.rest new.held.input.now) × (text_behind old holds.read ≡ given ++ text_behind new []))
      settled (inl always) = inl (λ more. front_held more ∙ always more)
      settled (inr end) = inr (subst IsAtEnd (sym same) end.0, ap (text_behind old) (sym (append-nil holds.read)) ∙ front_held [] ∙ end.1)

  -- one call after another
  pub moves_on : {a b c : AsciiSource I g} {xs ys : List ℕ} → Moves a b xs → Moves b c ys → Moves a c (xs ++ ys)
  moves_on {a} {b} {c} {xs} {ys} first second = record {
    lent = record { input = second.lent.input ∙ first.lent.input };
    untold = λ none. second.untold (first.untold none);
    told = λ bytes is.
        let f = first.told bytes is in
        let s = second.told f.behind f.rest in
        record {
          front = f.front ++ s.front;
          behind = s.behind;
          parts = f.parts ∙ ap (λ l. f.front ++ l) s.parts ∙ sym (append_assoc f.front s.front s.behind);
          rest = s.rest;
          text = joined f.front s.front f.behind s.behind s.parts f.text s.text;
        };
  }
    where
      after : (behind : List ℕ) → (front : List ℕ) → front ≡ [] → ((more : List ℕ) → text_behind b (front ++ more) ≡ ys ++ text_behind c more) ⊎ ((behind ≡ []) × (text_behind b front ≡ ys ++ text_behind c []))
          → text_behind b [] ≡ ys ++ text_behind c []
      after behind front none (inl always) = ap (λ l. text_behind b (l ++ [])) (sym none) ∙ always []
      after behind front none (inr end) = ap (text_behind b) (sym none) ∙ end.1

      joined : (front next behind last : List ℕ) → behind ≡ next ++ last
          → ((more : List ℕ) → text_behind a (front ++ more) ≡ xs ++ text_behind b more) ⊎ ((behind ≡ []) × (text_behind a front ≡ xs ++ text_behind b []))
          → ((more : List ℕ) → text_behind b (next ++ more) ≡ ys ++ text_behind c more) ⊎ ((last ≡ []) × (text_behind b next ≡ ys ++ text_behind c []))
          → ((more : List ℕ) → text_behind a ((front ++ next) ++ more) ≡ (xs ++ ys) ++ text_behind c more) ⊎ ((last ≡ []) × (text_behind a (front ++ next) ≡ (xs ++ ys) ++ text_behind c []))
      joined front next behind last parts (inl p) (inl q) =
          inl (λ more. ap (text_behind a) (append_assoc front next more) ∙ p (next ++ more) ∙ ap (λ l. xs ++ l) (q more) ∙ sym (append_assoc xs ys (text_behind c more)))
      joined front next behind last parts (inl p) (inr q) =
          inr (q.0, p next ∙ ap (λ l. xs ++ l) q.1 ∙ sym (append_assoc xs ys (text_behind c [])))
      joined front next behind last parts (inr p) q =
          let none = empty_parts next last (sym p.0 ∙ parts) in
          inr (none.1, ap (λ l. text_behind a (front ++ l)) none.0 ∙ ap (text_behind a) (append-nil front) ∙ p.1 ∙ ap (λ l. xs ++ l) (after last next none.0 q) ∙ sym (append_assoc xs ys (text_behind c [])))

  -- text that was made and waits in part
  pub moves_wait : (old mid new : AsciiSource I g) (made given : List ℕ) → Moves old mid made → made ≡ given ++ new.text → new.held ≡ mid.held
      → ((more : List ℕ) → text_behind new more ≡ new.text ++ text_behind mid more) → Moves old new given
  moves_wait old mid new made given moves parts held_is behind = record {
    lent = record { input = ap (λ h. h.input.ghost_name) held_is ∙ moves.lent.input };
    untold = λ none. ap (λ h. g.rest h.input.now) held_is ∙ moves.untold none;
    told = λ bytes is.
        let f = moves.told bytes is in
        record { front = f.front; behind = f.behind; parts = f.parts; rest = ap (λ h. g.rest h.input.now) held_is ∙ f.rest; text = waits f.front f.behind f.text };
  }
    where
      step : (more : List ℕ) → made ++ text_behind mid more ≡ given ++ text_behind new more
      step more = ap (λ l. l ++ text_behind mid more) parts ∙ append_assoc given new.text (text_behind mid more) ∙ ap (λ l. given ++ l) (sym (behind more))

      waits : (front behind : List ℕ)
          → ((more : List ℕ) → text_behind old (front ++ more) ≡ made ++ text_behind mid more) ⊎ ((behind ≡ []) × (text_behind old front ≡ made ++ text_behind mid []))
          → ((more : List ℕ) → text_behind old (front ++ more) ≡ given ++ text_behind new more) ⊎ ((behind ≡ []) × (text_behind old front ≡ given ++ text_behind new []))
      waits front behind (inl p) = inl (λ more. p more ∙ step more)
      waits front behind (inr p) = inr (p.0, p.1 ∙ step [])

  -- text that waited is given
  pub moves_given : (old new : AsciiSource I g) (given : List ℕ) → SameLent old new → g.rest new.held.input.now ≡ g.rest old.held.input.now
      → ((more : List ℕ) → text_behind old more ≡ given ++ text_behind new more) → Moves old new given
  moves_given old new given lent same text = moves_by old new [] given lent (known_none (g.rest old.held.input.now) ∙ ap (prepend_known []) (sym same)) (inl text)

  -- a call whose text is counted, behind one that gave none
  pub moves_after : {E : Type 0} (a b c : AsciiSource I g) (result : Result ℕ E) (into : List ℕ) → Moves a b [] → MatchResult result (λ n. Moves b c (take n into)) (λ _. Moves b c [])
      → MatchResult result (λ n. Moves a c (take n into)) (λ _. Moves a c [])
  moves_after a b c (Ok n) into first second = moves_on first second
  moves_after a b c (Err e) into first second = moves_on first second

  -- what a call gives is the front of the text to come
  pub moves_front : {a b : AsciiSource I g} {given : List ℕ} → Moves a b given → source_rest a ≡ prepend_known given (source_rest b)
  moves_front {a} {b} {given} moves = by_rest (g.rest a.held.input.now) refl
    where
      whole : (bytes front behind : List ℕ) → bytes ≡ front ++ behind
          → ((more : List ℕ) → text_behind a (front ++ more) ≡ given ++ text_behind b more) ⊎ ((behind ≡ []) × (text_behind a front ≡ given ++ text_behind b []))
          → text_behind a bytes ≡ given ++ text_behind b behind
      whole bytes front behind parts (inl always) = ap (text_behind a) parts ∙ always behind
      whole bytes front behind parts (inr end) =
          ap (text_behind a) (parts ∙ ap (λ l. front ++ l) end.0 ∙ append-nil front) ∙ end.1 ∙ ap (λ l. given ++ text_behind b l) (sym end.0)

      by_rest : (before : Option (List ℕ)) → g.rest a.held.input.now ≡ before → source_rest a ≡ prepend_known given (source_rest b)
      by_rest None e = ap (option_map (text_behind a)) e ∙ sym (ap (λ r. prepend_known given (option_map (text_behind b) r)) (moves.untold e))
      by_rest (Some bytes) e =
          let t = moves.told bytes e in
          ap (option_map (text_behind a)) e ∙ ap Some (whole bytes t.front t.behind t.parts t.text) ∙ sym (ap (λ r. prepend_known given (option_map (text_behind b) r)) t.rest)

  pub same_rest : {a b : AsciiSource I g} → Moves a b [] → source_rest b ≡ source_rest a
  same_rest {a} {b} moves = known_none (source_rest b) ∙ sym (moves_front moves)

  pub takes : {E : Type 0} (a c : AsciiSource I g) (result : Result ℕ E) (into : List ℕ) → MatchResult result (λ n. Moves a c (take n into)) (λ _. Moves a c [])
      → IfOk result (λ n. n ≡ 0 → IsAtEnd (source_rest c)) → TakesFront (source_rest a) (source_rest c) into result
  takes a c (Ok n) into moves end = (moves_front moves, end)
  takes a c (Err e) into moves end = same_rest moves

  pub over_end : (s : AsciiSource I g) → s.text ≡ [] → IsBehindHead s.stage → ((found : Bool) × (s.stage ≡ Head found)) ⊎ (s.stage ≡ Over) → IsAtEnd (source_rest s)
  over_end s none ready (inl head) = absurd (subst IsBehindHead head.1 ready)
  over_end s none ready (inr over) = at_end (text_behind s) (g.rest s.held.input.now) (λ more. λ i. none i ++ left_by (over i) (declared s.header) s.place s.body (held s.held ++ more))
