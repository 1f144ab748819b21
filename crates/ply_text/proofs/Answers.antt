-- What the calls answer, from what their steps found.
use Rattle.std.proofs.Common.{◌≡◌, ◌≢◌, ℕ, ◌+◌, ◌-◌, ◌<◌, ◌≤◌, ◌==◌, min, List, [], ◌++◌, length, take, drop, Option, None, Some, Result, Ok, Err, IfOk, IfErr, Bool, true, false, nat_lt, if◌then◌else◌, sym, ap, ◌∙◌, arith, subst, slice_range, ◌⊎◌, inl, inr, append-nil, length-append}
use Rattle.std.specs.List.{prefix_len}
use Rattle.std.specs.Bool.{then_some}
use Rattle.std.specs.Io.KnownBytes.{IsAtEnd}
use Rattle.std.proofs.lemmas.List.Sums.{prefix_len-le-length}
use Rattle.std.proofs.lemmas.Bool.{ltb-false}
use Rattle.std.proofs.lemmas.List.{drop_all, drop-drop, take-append-le}
use Rattle.ply_text.proofs.Blocks.{told_parts, length-held, take-held}
use Rattle.ply_text.proofs.Readers.{Advances-holds, Advances-passes, Advances-trans, left-passes}
use Rattle.ply_text.proofs.RunSizes.{short_run_size-none, short_run_size-ok}
use Rattle.std.proofs.lemmas.Bool.Decides.{nat_tests}
use Rattle.dev_traits.specs.declared.device.ByteSource.{Ghosts}
use Rattle.ply_text.specs.declared.fault.TextFault.{TextFault}
use Rattle.ply_text.specs.declared.fault.TextFault.TheVariants.{ReadFault, TokenTooLong, LineTooLong}
use Rattle.ply_text.specs.declared.run.Run.TheVariants.{White, Token, Line}
use Rattle.ply_text.specs.declared.tokens.Tokens.{Tokens}
use Rattle.ply_text.specs.Pieces.{Piece, belongs}
use Rattle.ply_text.specs.NextPieces.{run_size, short_run_size, room_at, sized, next_place_of, next_token_of, next_line_of, front_token_of, white_size, token_size, line_size, line_of, without_return}
use Rattle.ply_text.specs.Reading.{held, left_of}
use Rattle.ply_text.specs.Calls.{fault_end}
use Rattle.ply_text.specs.Holding.{Advances, Holds, Passes, PassedWhite, Finds, HoldsRun}

-- a fault within the white space
pub next_place_of-fault : (place : ℕ) (text : List ℕ) (fault : TextFault) → run_size White (room_at place) text ≡ Err fault → next_place_of place text ≡ Err fault
unfolding next_place_of
next_place_of-fault place text fault h = ap (λ r. sized r (λ size. Ok (if size == length text then None else Some (place + size)))) h

pub next_token_of-fault : (place : ℕ) (text : List ℕ) (fault : TextFault) → run_size White (room_at place) text ≡ Err fault → next_token_of place text ≡ Err fault
unfolding next_token_of
next_token_of-fault place text fault h = ap (λ r. sized r (λ size. front_token_of (place + size) (drop size text))) h

place_behind : (found : Bool) (white all place place' : ℕ) → found ≡ nat_lt white all → white ≤ all → place' ≡ place + white
    → then_some found place' ≡ (if white == all then None else Some (place + white))
place_behind true white all place place' h within e = grind (arith, nat_tests)
place_behind false white all place place' h within e = grind (arith, nat_tests)

-- a fault within a token
pub front_token_of-fault : (place : ℕ) (text : List ℕ) (fault : TextFault) → short_run_size Token 255 (TokenTooLong place) (room_at place) text ≡ Err fault → front_token_of place text ≡ Err fault
unfolding front_token_of
front_token_of-fault place text fault h = ap (λ r. sized r (λ size. Ok (if size == 0 then None else Some (record { place = place; bytes = take size text })))) h

pub front_token_of-size : (place : ℕ) (text : List ℕ) (n : ℕ) → 0 < n → short_run_size Token 255 (TokenTooLong place) (room_at place) text ≡ Ok n
    → front_token_of place text ≡ Ok (Some (record { place = place; bytes = take n text }))
unfolding front_token_of
front_token_of-size place text n some h =
    let test : (n == 0) ≡ false = grind (arith, nat_tests, some) in
    ap (λ r. sized r (λ size. Ok (if size == 0 then None else Some (record { place = place; bytes = take size text })))) h
    ∙ ap (λ b. Ok (if b then None else Some (record { place = place; bytes = take n text }))) test

front_token_of-none : (place : ℕ) → front_token_of place [] ≡ Ok None
unfolding front_token_of
front_token_of-none place = ap (λ r. sized r (λ size. Ok (if size == 0 then None else Some (record { place = place; bytes = take size [] })))) (short_run_size-none Token 255 (TokenTooLong place) (room_at place))

pub next_line_of-fault : (place : ℕ) (text : List ℕ) (fault : TextFault) → short_run_size Line 1024 (LineTooLong place) (room_at place) text ≡ Err fault → next_line_of place text ≡ Err fault
unfolding next_line_of
next_line_of-fault place text fault h = ap (λ r. sized r (λ size. Ok (if length text == 0 then None else Some (record { place = place; bytes = line_of text size })))) h

pub next_line_of-size : (place : ℕ) (text : List ℕ) (n : ℕ) (none : Bool) → (length text == 0) ≡ none → short_run_size Line 1024 (LineTooLong place) (room_at place) text ≡ Ok n
    → next_line_of place text ≡ Ok (if none then None else Some (record { place = place; bytes = line_of text n }))
unfolding next_line_of
next_line_of-size place text n none test h =
    ap (λ r. sized r (λ size. Ok (if length text == 0 then None else Some (record { place = place; bytes = line_of text size })))) h
    ∙ ap (λ b. Ok (if b then None else Some (record { place = place; bytes = line_of text n }))) test

-- a run within its limit ends among the held bytes or with the text
ended_short : (n long limit : ℕ) (rest : Option (List ℕ)) (behind : List ℕ) → n ≤ limit → rest ≡ Some behind → (n < long) ⊎ ((limit < n) ⊎ IsAtEnd rest) → (n < long) ⊎ (behind ≡ [])
ended_short n long limit rest behind short is (inl ended) = inl ended
ended_short n long limit rest behind short is (inr (inl over)) = absurd (omega (arith, short, over))
ended_short n long limit rest behind short is (inr (inr end)) = inr (subst IsAtEnd is end)

-- a line that is held
line_parts : (n : ℕ) (bytes behind : List ℕ) → n ≡ prefix_len (belongs Line) (bytes ++ behind) → n ≤ length bytes → (n < length bytes) ⊎ (behind ≡ [])
    → (line_of bytes n ≡ line_of (bytes ++ behind) n) × (min (n + 1) (length bytes) ≡ line_size (bytes ++ behind))
line_parts n bytes behind is within (inl ended) =
    let more : length (bytes ++ behind) ≡ length bytes + length behind = length-append bytes behind in
    let here : nat_lt n (length bytes) ≡ true = grind (arith, nat_tests, ended) in
    let there : nat_lt n (length (bytes ++ behind)) ≡ true = grind (arith, nat_tests, ended, more) in (
      ap (λ b. if b then without_return (take n bytes) else take n bytes) here
          ∙ ap without_return (sym (take-append-le n bytes behind within))
          ∙ sym (ap (λ b. if b then without_return (take n (bytes ++ behind)) else take n (bytes ++ behind)) there),
      omega (arith, is, ended, more),
    )
line_parts n bytes behind is within (inr none) =
    let same : bytes ++ behind ≡ bytes = ap (λ t. bytes ++ t) none ∙ append-nil bytes in
    (ap (λ t. line_of t n) (sym same), omega (arith, is, ap length same))

nothing : (n long : ℕ) (behind : List ℕ) → long ≡ 0 → (n < long) ⊎ (behind ≡ []) → behind ≡ []
nothing n long behind none (inl some) = absurd (omega (arith, none, some))
nothing n long behind none (inr end) = end

module _ {I : Type 0} {g : Ghosts I} where
  -- a fault that is the defined answer
  pub Finds-fault : {A : Type 0} (next : ℕ → List ℕ → Result A TextFault) (size : List ℕ → ℕ) (a b : Tokens I g) (result : Result A TextFault) (fault : TextFault)
      → Advances a b → fault_end fault ≤ b.place + (b.to - b.from) → result ≡ Err fault → ((text : List ℕ) → left_of a ≡ Some text → fault ≢ ReadFault → next a.place text ≡ Err fault) → Finds next size a b result
  Finds-fault {A} next size a b result fault advances reached is why = record {
    advances = advances;
    reached = let P : Result A TextFault → Type 0 = λ r. IfErr r (λ f. fault_end f ≤ b.place + (b.to - b.from)) in subst P (sym is) reached;
    answer = λ text told ok. is ∙ sym (why text told (λ read. ok (is ∙ ap Err read)));
    passed = λ text told. let P : Result A TextFault → Type 0 = λ r. IfOk r (λ _. (left_of b ≡ Some (drop (size text) text)) × (b.place ≡ a.place + size text)) in subst P (sym is) tt;
  }

  pub Finds-place : (a b : Tokens I g) (found : Bool) → Advances a b → ((text : List ℕ) → left_of a ≡ Some text → PassedWhite text a b found)
      → Finds next_place_of white_size a b (Ok (then_some found b.place))
  unfolding next_place_of
  Finds-place a b found advances passed = record {
    advances = advances;
    reached = tt;
    answer = λ text told ok.
        let p = passed text told in
        ap Ok (place_behind found (white_size text) (length text) a.place b.place p.more (prefix_len-le-length (belongs White) text) p.place)
        ∙ sym (ap (λ r. sized r (λ size. Ok (if size == length text then None else Some (a.place + size)))) p.size);
    passed = λ text told. let p = passed text told in (p.left, p.place);
  }

  -- a token is answered behind the white space
  next_token_of-behind : (text : List ℕ) (a b : Tokens I g) (found : Bool) → PassedWhite text a b found → next_token_of a.place text ≡ front_token_of b.place (drop (white_size text) text)
  unfolding next_token_of
  next_token_of-behind text a b found p =
      ap (λ r. sized r (λ size. front_token_of (a.place + size) (drop size text))) p.size ∙ ap (λ place. front_token_of place (drop (white_size text) text)) (sym p.place)

  pub Finds-no_token : (a b : Tokens I g) → Advances a b → ((text : List ℕ) → left_of a ≡ Some text → PassedWhite text a b false) → Finds next_token_of token_size a b (Ok None)
  Finds-no_token a b advances passed = record {
    advances = advances;
    reached = tt;
    answer = λ text told ok.
        let p = passed text told in
        let none : drop (white_size text) text ≡ [] = drop_all (white_size text) text (ltb-false (white_size text) (length text) (sym p.more)) in
        sym (next_token_of-behind text a b false p ∙ ap (front_token_of b.place) none ∙ front_token_of-none b.place);
    passed = λ text told.
        let p = passed text told in
        let none : drop (white_size text) text ≡ [] = drop_all (white_size text) text (ltb-false (white_size text) (length text) (sym p.more)) in
        let size : white_size text ≡ token_size text = omega (arith, ap (prefix_len (belongs Token)) none) in
        (p.left ∙ ap (λ n. Some (drop n text)) size, p.place ∙ ap (λ n. a.place + n) size);
  }

  pub Finds-token_fault : (a b c : Tokens I g) (result : Result (Option Piece) TextFault) (fault : TextFault) → Advances a b → Holds b c → fault_end fault ≤ c.place + (c.to - c.from) → ((text : List ℕ) → left_of a ≡ Some text → PassedWhite text a b true)
      → ((text : List ℕ) → left_of b ≡ Some text → fault ≢ ReadFault → short_run_size Token 255 (TokenTooLong b.place) (room_at b.place) text ≡ Err fault)
      → result ≡ Err fault → Finds next_token_of token_size a c result
  Finds-token_fault a b c result fault advances holds reached passed why is =
      Finds-fault next_token_of token_size a c result fault (Advances-trans advances (Advances-holds holds)) reached is (λ text told ok.
      let p = passed text told in
      next_token_of-behind text a b true p ∙ front_token_of-fault b.place (drop (white_size text) text) fault (why (drop (white_size text) text) p.left ok))

  pub Finds-token : (n : ℕ) (a b c d : Tokens I g) → Advances a b → Holds b c → Passes n c d → 0 < n → n ≤ length (held c) → ((text : List ℕ) → left_of a ≡ Some text → PassedWhite text a b true)
      → ((text : List ℕ) → left_of b ≡ Some text → Ok n ≡ short_run_size Token 255 (TokenTooLong b.place) (room_at b.place) text)
      → Finds next_token_of token_size a d (Ok (Some (record { place = b.place; bytes = slice_range d.block.now c.from (c.from + n) })))
  Finds-token n a b c d advances holds passes some within passed sizes = record {
    advances = Advances-trans (Advances-trans advances (Advances-holds holds)) (Advances-passes passes within);
    reached = tt;
    answer = λ text told ok.
        let p = passed text told in
        let behind = drop (white_size text) text in
        let left = holds.left ∙ p.left in
        let parts = told_parts (held c) (g.rest c.input.now) behind left in
        let fits : n ≤ c.to - c.from = omega (arith, within, length-held c.block.now c.from c.to c.ordered c.inside) in
        let bytes : slice_range d.block.now c.from (c.from + n) ≡ take n behind =
        ap (λ block. slice_range block c.from (c.from + n)) passes.bytes ∙ sym (take-held c.block.now c.from c.to n fits)
        ∙ sym (take-append-le n (held c) parts.0 within) ∙ ap (take n) (sym parts.2) in
        ap (λ bytes. Ok (Some (record { place = b.place; bytes = bytes }))) bytes
        ∙ sym (next_token_of-behind text a b true p ∙ front_token_of-size b.place behind n some (sym (sizes behind p.left)));
    passed = λ text told.
        let p = passed text told in
        let behind = drop (white_size text) text in
        let size : n ≡ prefix_len (belongs Token) behind = short_run_size-ok Token 255 (TokenTooLong b.place) (room_at b.place) behind n (sym (sizes behind p.left)) in
        let all : white_size text + n ≡ token_size text = ap (λ m. white_size text + m) size in (
          left-passes passes within behind (holds.left ∙ p.left) ∙ ap Some (drop-drop n (white_size text) text ∙ ap (λ m. drop m text) all),
          omega (arith, passes.place, holds.place, p.place, all),
        );
  }

  pub Finds-line_fault : (a b : Tokens I g) (result : Result (Option Piece) TextFault) (fault : TextFault) → Holds a b → fault_end fault ≤ b.place + (b.to - b.from)
      → ((text : List ℕ) → left_of a ≡ Some text → fault ≢ ReadFault → short_run_size Line 1024 (LineTooLong a.place) (room_at a.place) text ≡ Err fault)
      → result ≡ Err fault → Finds next_line_of line_size a b result
  Finds-line_fault a b result fault holds reached why is =
      Finds-fault next_line_of line_size a b result fault (Advances-holds holds) reached is (λ text told ok. next_line_of-fault a.place text fault (why text told ok))

  pub Finds-no_line : (n : ℕ) (a b : Tokens I g) → Holds a b → held b ≡ [] → HoldsRun Line 1024 n b
      → ((text : List ℕ) → left_of a ≡ Some text → Ok n ≡ short_run_size Line 1024 (LineTooLong a.place) (room_at a.place) text) → Finds next_line_of line_size a b (Ok None)
  Finds-no_line n a b holds empty run sizes =
      let none : (text : List ℕ) → left_of a ≡ Some text → text ≡ [] = λ text told.
      let parts = told_parts (held b) (g.rest b.input.now) text (holds.left ∙ told) in
      let size : n ≡ 0 = run.size ∙ ap (prefix_len (belongs Line)) empty in
      let end = ended_short n (length (held b)) 1024 (g.rest b.input.now) parts.0 (omega (arith, size)) parts.1 run.ended in
      parts.2 ∙ ap (λ t. t ++ parts.0) empty ∙ nothing n (length (held b)) parts.0 (ap length empty) end in
      record {
        advances = Advances-holds holds;
        reached = tt;
        answer = λ text told ok. sym (next_line_of-size a.place text n true (ap (λ t. length t == 0) (none text told)) (sym (sizes text told)));
        passed = λ text told.
            let size : line_size text ≡ 0 = omega (arith, ap length (none text told)) in
            (holds.left ∙ told ∙ ap (λ m. Some (drop m text)) {x = 0} {y = line_size text} (sym size), omega (arith, holds.place, size));
      }

  pub Finds-line : (n end : ℕ) (a b d : Tokens I g) → Holds a b → Passes (min (n + 1) (length (held b))) b d → HoldsRun Line 1024 n b → n ≤ 1024 → 0 < length (held b)
      → slice_range b.block.now b.from end ≡ line_of (held b) n
      → ((text : List ℕ) → left_of a ≡ Some text → Ok n ≡ short_run_size Line 1024 (LineTooLong a.place) (room_at a.place) text)
      → Finds next_line_of line_size a d (Ok (Some (record { place = a.place; bytes = slice_range d.block.now b.from end })))
  Finds-line n end a b d holds passes run short some bytes sizes =
      let known : (text : List ℕ) → left_of a ≡ Some text → (line_of (held b) n ≡ line_of text n) × (min (n + 1) (length (held b)) ≡ line_size text) × (0 < length text) = λ text told.
      let parts = told_parts (held b) (g.rest b.input.now) text (holds.left ∙ told) in
      let within : n ≤ length (held b) = omega (arith, run.size, prefix_len-le-length (belongs Line) (held b)) in
      let ended = ended_short n (length (held b)) 1024 (g.rest b.input.now) parts.0 short parts.1 run.ended in
      let size : n ≡ prefix_len (belongs Line) (held b ++ parts.0) =
      short_run_size-ok Line 1024 (LineTooLong a.place) (room_at a.place) text n (sym (sizes text told)) ∙ ap (prefix_len (belongs Line)) parts.2 in
      let line = line_parts n (held b) parts.0 size within ended in
      (line.0 ∙ ap (λ t. line_of t n) (sym parts.2), line.1 ∙ ap line_size (sym parts.2), omega (arith, some, ap length parts.2, length-append (held b) parts.0)) in
      record {
        advances = Advances-trans (Advances-holds holds) (Advances-passes passes (omega arith));
        reached = tt;
        answer = λ text told ok.
            let k = known text told in
            let more : (length text == 0) ≡ false = grind (arith, nat_tests, k.2) in
            ap (λ bytes. Ok (Some (record { place = a.place; bytes = bytes }))) (ap (λ block. slice_range block b.from end) passes.bytes ∙ bytes ∙ k.0)
            ∙ sym (next_line_of-size a.place text n false more (sym (sizes text told)));
        passed = λ text told.
            let k = known text told in
            (left-passes passes (omega arith) text (holds.left ∙ told) ∙ ap (λ m. Some (drop m text)) k.1, omega (arith, passes.place, holds.place, k.1));
      }
