-- How much of an input was read for the text that was given.
use Rattle.std.proofs.Common.{◌≡◌, ℕ, ◌-◌, ◌<◌, ◌≤◌, ◌⊎◌, inl, inr, List, [], ◌∷◌, ◌++◌, length, take, drop, Option, None, Some, Result, Ok, Err, MatchResult, refl, sym, ap, ◌∙◌, subst, arith, append-nil, append_assoc, length-append, take_at, drop_at}
use Rattle.std.specs.Prelude.{◌≢◌, codes}
use Rattle.std.specs.Option.{option_map}
use Rattle.std.proofs.Props.{props}
use Rattle.std.proofs.Math.Logic.{∥∥₁_elim}
use Rattle.dev_traits.specs.declared.device.ByteSource.{Ghosts}
use Rattle.ply_binary.specs.declared.source.AsciiSource.{AsciiSource}
use Rattle.ply_binary.specs.HeaderTexts.{ascii}
use Rattle.ply_binary.specs.SourceStates.{left_by, text_behind, source_rest, Moves}
use Rattle.ply_binary.specs.Since.{ReadsSince}
use Rattle.ply_reader.specs.Declarations.{declared}
use Rattle.ply_binary.specs.HeldStates.{held}
use Rattle.ply_binary.specs.AsciiChanges.{bytes_in, EndsWhole, IsReadAs, IsReadAsAscii}
use Rattle.ply_binary.proofs.SourceMoves.{empty_parts, moves_given, moves_on}
use Rattle.ply_binary.proofs.BodyEnds.{Ends, stage_ends}
use Rattle.ply_binary.proofs.PlainTexts.{no_further}

-- the cases of what was settled
settled_by : (bytes front behind given left : List ℕ) (next : List ℕ → List ℕ) → bytes ≡ front ++ behind → left ≡ next behind
    → ((more : List ℕ) → ascii (front ++ more) ≡ given ++ next more) ⊎ ((behind ≡ []) × (ascii front ≡ given ++ next [])) → Ends next → IsReadAs bytes behind left
settled_by bytes front behind given left next parts left-is text ends = record {
  behind_is = ap (λ n. drop n bytes) count ∙ ap (drop (length front)) parts ∙ drop_at front behind (length front) refl;
  left_is = ap (λ n. drop n (ascii bytes)) made ∙ ap (drop (length given)) whole ∙ drop_at given left (length given) refl;
  settled = λ some more.
      ap (λ n. take (length (ascii bytes) - length left) (ascii (take n bytes ++ more))) count
      ∙ ap (λ l. take (length (ascii bytes) - length left) (ascii (l ++ more))) (ap (take (length front)) parts ∙ take_at front behind (length front) refl)
      ∙ ap (take (length (ascii bytes) - length left)) (always some more) ∙ ap (λ n. take n (given ++ next more)) made ∙ take_at given (next more) (length given) refl
      ∙ sym (ap (λ n. take n (ascii bytes)) made ∙ ap (take (length given)) whole ∙ take_at given left (length given) refl);
  plain = λ same. plain_by behind refl same;
  ended = λ none one. ended_by behind refl none one;
}
  where
    whole_by : ((more : List ℕ) → ascii (front ++ more) ≡ given ++ next more) ⊎ ((behind ≡ []) × (ascii front ≡ given ++ next [])) → ascii bytes ≡ given ++ next behind
    whole_by (inl always) = ap ascii parts ∙ always behind
    whole_by (inr end) = ap ascii (parts ∙ ap (λ l. front ++ l) end.0 ∙ append-nil front) ∙ end.1 ∙ ap (λ l. given ++ next l) (sym end.0)

    whole : ascii bytes ≡ given ++ left
    whole = whole_by text ∙ ap (λ l. given ++ l) (sym left-is)

    count : length bytes - length behind ≡ length front
    count = omega (arith, ap length parts, length-append front behind)

    made : length (ascii bytes) - length left ≡ length given
    made = omega (arith, ap length whole, length-append given left)

    always_by : ((more : List ℕ) → ascii (front ++ more) ≡ given ++ next more) ⊎ ((behind ≡ []) × (ascii front ≡ given ++ next [])) → 0 < length behind → (more : List ℕ) → ascii (front ++ more) ≡ given ++ next more
    always_by (inl always) some more = always more
    always_by (inr end) some more = absurd (omega (arith, some, ap length end.0))

    always : 0 < length behind → (more : List ℕ) → ascii (front ++ more) ≡ given ++ next more
    always some more = always_by text some more

    plain_by : (l : List ℕ) → behind ≡ l → ascii bytes ≡ bytes → length behind ≤ length left
    plain_by [] is same = omega (arith, ap length is)
    plain_by (b ∷ bs) is same =
        let some : 0 < length behind = omega (arith, ap length is) in
        let few : length given ≤ length front = no_further bytes front given left b bs same (parts ∙ ap (λ l. front ++ l) is) (sym same ∙ whole) (λ more. (next more, always some more)) in
        omega (arith, few, ap length parts, length-append front behind, ap length same, ap length whole, length-append given left)

    marked_by : (mark : ℕ) → mark ≢ 10 → 0 < length behind → left ≡ [] → ascii (bytes ++ codes " ") ≡ ascii bytes ++ mark ∷ [] → behind ≡ []
    marked_by mark other some none one =
        let more : List ℕ = behind ++ codes " " in
        let longer : ascii (bytes ++ codes " ") ≡ given ++ next more = ap (λ l. ascii (l ++ codes " ")) parts ∙ ap ascii (append_assoc front behind (codes " ")) ∙ always some more in
        let short : ascii bytes ≡ given = whole ∙ ap (λ l. given ++ l) none ∙ append-nil given in
        let joined : given ++ next more ≡ given ++ mark ∷ [] = sym longer ∙ one ∙ ap (λ l. l ++ mark ∷ []) short in
        let last : next more ≡ mark ∷ [] = sym (drop_at given (next more) (length given) refl) ∙ ap (drop (length given)) joined ∙ drop_at given (mark ∷ []) (length given) refl in
        ends behind 32 mark other (sym left-is ∙ none) last

    ended_by : (l : List ℕ) → behind ≡ l → left ≡ [] → EndsWhole bytes → behind ≡ []
    ended_by [] is none whole = is
    ended_by (b ∷ bs) is none (inl space) = marked_by 32 (λ e. omega (arith, e)) (omega (arith, ap length is)) none space
    ended_by (b ∷ bs) is none (inr mark) = marked_by 120 (λ e. omega (arith, e)) (omega (arith, ap length is)) none mark

rest_by : (text : List ℕ → List ℕ) (told : Option (List ℕ)) → ((bytes : List ℕ) → text bytes ≡ ascii bytes) → option_map text told ≡ option_map ascii told
rest_by text None same = refl
rest_by text (Some bytes) same = ap Some (same bytes)

module _ {I : Type 0} {g : Ghosts I} where
  -- a source that was made now
  pub since_now : (told : Option (List ℕ)) (s : AsciiSource I g) → told ≡ g.rest s.held.input.now → ((bytes : List ℕ) → text_behind s bytes ≡ ascii bytes) → ReadsSince told s
  since_now told s is text = record {
    start = s;
    given = [];
    told_is = sym is;
    text = text;
    moves = moves_given s s [] (record { input = refl }) refl (λ more. refl);
  }

  pub rest_now : (told : Option (List ℕ)) (s : AsciiSource I g) → told ≡ g.rest s.held.input.now → ((bytes : List ℕ) → text_behind s bytes ≡ ascii bytes) → source_rest s ≡ option_map ascii told
  rest_now told s is text = ap (option_map (text_behind s)) (sym is) ∙ rest_by (text_behind s) told text

  -- and one that was read on
  pub since_read : {E : Type 0} (told : Option (List ℕ)) (old new : AsciiSource I g) (result : Result ℕ E) (into : List ℕ) → ReadsSince told old
      → MatchResult result (λ n. Moves old new (take n into)) (λ _. Moves old new []) → ReadsSince told new
  since_read told old new (Ok n) into since moves =
      record { start = since.start; given = since.given ++ take n into; told_is = since.told_is; text = since.text; moves = moves_on since.moves moves }
  since_read told old new (Err e) into since moves =
      record { start = since.start; given = since.given ++ []; told_is = since.told_is; text = since.text; moves = moves_on since.moves moves }

  pub lent_read : {E : Type 0} (old new : AsciiSource I g) (result : Result ℕ E) (into : List ℕ)
      → MatchResult result (λ n. Moves old new (take n into)) (λ _. Moves old new []) → new.held.input.ghost_name ≡ old.held.input.ghost_name
  lent_read old new (Ok n) into moves = moves.lent.input
  lent_read old new (Err e) into moves = moves.lent.input

  -- where all text was given, and a further byte would be given as one byte, nothing is behind
  source_ends : (s : AsciiSource I g) → Ends (text_behind s)
  source_ends s more byte mark other none one =
      let left : List ℕ → List ℕ = left_by s.stage (declared s.header) s.place s.body in
      let parts = empty_parts s.text (left (held s.held ++ more)) (sym none) in
      let behind : List ℕ = (held s.held ++ more) ++ byte ∷ [] in
      let joined : text_behind s (more ++ byte ∷ []) ≡ s.text ++ left behind = ap (λ l. s.text ++ left l) (sym (append_assoc (held s.held) more (byte ∷ []))) in
      let last : left behind ≡ mark ∷ [] = ap (λ l. l ++ left behind) (sym parts.0) ∙ sym joined ∙ one in
      let empty : held s.held ++ more ≡ [] = stage_ends s.stage (declared s.header) s.place s.body (held s.held ++ more) byte mark other parts.1 last in
      (empty_parts (held s.held) more (sym empty)).1

  -- the input is told still, and so is the text
  after_read : (told : Option (List ℕ)) (s : AsciiSource I g) → ReadsSince told s → (bytes : List ℕ) → told ≡ Some bytes
      → (g.rest s.held.input.now ≡ Some (bytes_in (g.rest s.held.input.now))) × (source_rest s ≡ Some (bytes_in (source_rest s))) × IsReadAs bytes (bytes_in (g.rest s.held.input.now)) (bytes_in (source_rest s))
  after_read told s since bytes is =
      let gives = since.moves.told bytes (since.told_is ∙ is) in
      let rest : g.rest s.held.input.now ≡ Some gives.behind = gives.rest in
      let left : source_rest s ≡ Some (text_behind s gives.behind) = ap (option_map (text_behind s)) rest in (
        rest ∙ ap Some (sym (ap bytes_in rest)),
        left ∙ ap Some (sym (ap bytes_in left)),
        subst (λ b. IsReadAs bytes b (bytes_in (source_rest s))) (sym (ap bytes_in rest))
            (subst (λ l. IsReadAs bytes gives.behind l) (sym (ap bytes_in left)) (settled_by bytes gives.front gives.behind since.given (text_behind s gives.behind) (text_behind s) gives.parts refl (settled gives.front gives.behind gives.text) (source_ends s))),
      )
    where
      settled : (front behind : List ℕ)
          → ((more : List ℕ) → text_behind since.start (front ++ more) ≡ since.given ++ text_behind s more) ⊎ ((behind ≡ []) × (text_behind since.start front ≡ since.given ++ text_behind s []))
          → ((more : List ℕ) → ascii (front ++ more) ≡ since.given ++ text_behind s more) ⊎ ((behind ≡ []) × (ascii front ≡ since.given ++ text_behind s []))
      settled front behind (inl always) = inl (λ more. sym (since.text (front ++ more)) ∙ always more)
      settled front behind (inr end) = inr (end.0, sym (since.text front) ∙ end.1)

  -- what is known of an input, once its text was read in part
  pub read_as_ascii : (told : Option (List ℕ)) (s : AsciiSource I g) (before after : ℕ) → ∥ ReadsSince told s ∥₁
      → IsReadAsAscii (record { before = told; after = g.rest s.held.input.now; faults_before = before; faults_after = after })
      (record { before = option_map ascii told; after = source_rest s; faults_before = before; faults_after = after })
  read_as_ascii told s before after since = record {
    before = refl;
    untold = λ none. (untold none, ap (option_map (text_behind s)) (untold none));
    told = λ bytes is. (
      ∥∥₁_elim since (same_told _ _) (λ w. (after_read told s w bytes is).0),
      ∥∥₁_elim since (same_told _ _) (λ w. (after_read told s w bytes is).1),
      record {
        behind_is = ∥∥₁_elim since (same_bytes _ _) (λ w. (after_read told s w bytes is).2.behind_is);
        left_is = ∥∥₁_elim since (same_bytes _ _) (λ w. (after_read told s w bytes is).2.left_is);
        settled = λ some more. ∥∥₁_elim since (same_bytes _ _) (λ w. (after_read told s w bytes is).2.settled some more);
        plain = λ same. ∥∥₁_elim since (fewer _ _) (λ w. (after_read told s w bytes is).2.plain same);
        ended = λ none whole. ∥∥₁_elim since (same_bytes _ _) (λ w. (after_read told s w bytes is).2.ended none whole);
      },
    );
    faults_before = refl;
    faults_after = refl;
  }
    where
      same_told : (a b : Option (List ℕ)) → IsProp (a ≡ b)
      same_told a b = hlevel props

      same_bytes : (a b : List ℕ) → IsProp (a ≡ b)
      same_bytes a b = hlevel props

      fewer : (a b : ℕ) → IsProp (a ≤ b)
      fewer a b = hlevel props

      untold : told ≡ None → g.rest s.held.input.now ≡ None
      untold none = ∥∥₁_elim since (same_told _ _) (λ w. w.moves.untold (w.told_is ∙ none))
