-- The steps within a call, one after another.
use Rattle.std.proofs.Common.{◌≡◌, ℕ, ◌+◌, ◌-◌, ◌<◌, ◌≤◌, List, [], ◌++◌, length, take, drop, Some, Bool, MatchBool, refl, sym, ap, ◌∙◌, arith, subst, ◌^◌, slice_range, inl, inr, Err, true, false, length-drop, length-append}
use Rattle.std.proofs.lemmas.List.{take-take, length-take, drop-drop}
use Rattle.dev_traits.specs.declared.device.ByteSource.{Ghosts}
use Rattle.ply_text.specs.declared.tokens.Tokens.{Tokens}
use Rattle.ply_text.proofs.Blocks.{drop-held, length-held, told_parts, left_passed}
use Rattle.ply_text.proofs.Runs.{run-append-le, run-drop, run-front, no_white}
use Rattle.std.specs.List.{prefix_len}
use Rattle.std.specs.Io.KnownBytes.{prepend_known, IsAtEnd}
use Rattle.std.proofs.lemmas.List.Sums.{prefix_len-le-length}
use Rattle.ply_text.specs.declared.run.Run.TheVariants.{White, Token}
use Rattle.ply_text.specs.declared.fault.TextFault.TheVariants.{TooLong}
use Rattle.ply_text.specs.NextPieces.{run_size, room_at, white_size}
use Rattle.ply_text.proofs.RunSizes.{run_size-far, run_size-near}
use Rattle.std.proofs.lemmas.Bool.Decides.{nat_tests}
use Rattle.ply_text.specs.Pieces.{belongs}
use Rattle.ply_text.specs.Reading.{held, left_of}
use Rattle.ply_text.specs.Holding.{Keeps, Holds, Passes, Advances, PassesWhite, PassedWhite}

module _ {I : Type 0} {g : Ghosts I} where
  pub Keeps-trans : {a b c : Tokens I g} → Keeps a b → Keeps b c → Keeps a c
  Keeps-trans first second = record { input = second.input ∙ first.input; block = second.block ∙ first.block; lender = second.lender ∙ first.lender; stopped = second.stopped ∙ first.stopped }

  pub Holds-trans : {a b c : Tokens I g} → Holds a b → Holds b c → Holds a c
  Holds-trans {a} {b} {c} first second = record {
    keeps = Keeps-trans first.keeps second.keeps;
    place = second.place ∙ first.place;
    left = second.left ∙ first.left;
    front =
        let within : length (held a) ≤ length (held b) = omega (arith, length-take (length (held a)) (held b), ap length first.front) in
        sym (take-take (length (held a)) (length (held b)) (held c) within) ∙ ap (take (length (held a))) second.front ∙ first.front;
  }

  -- what was held is a front of what is held
  pub Holds-longer : {a b : Tokens I g} → Holds a b → length (held a) ≤ length (held b)
  Holds-longer {a} {b} h = omega (arith, length-take (length (held a)) (held b), ap length h.front)

  -- what is held once n bytes were passed
  pub held-passes : {n : ℕ} {a b : Tokens I g} → Passes n a b → n ≤ a.to - a.from → held b ≡ drop n (held a)
  held-passes {n} {a} {b} p h =
      ap (λ block. slice_range block b.from b.to) p.bytes ∙ ap (λ from. slice_range a.block.now from b.to) p.from ∙ ap (slice_range a.block.now (a.from + n)) p.to
      ∙ sym (drop-held a.block.now a.from a.to n h)

  -- the text left once n of the held bytes were passed
  pub left-passes : {n : ℕ} {a b : Tokens I g} → Passes n a b → n ≤ length (held a) → (text : List ℕ) → left_of a ≡ Some text → left_of b ≡ Some (drop n text)
  left-passes {n} {a} {b} p h text told =
      let within : n ≤ a.to - a.from = omega (arith, h, length-held a.block.now a.from a.to a.ordered a.inside) in
      ap (λ bytes. prepend_known bytes (g.rest b.input.now)) (held-passes p within) ∙ ap (λ i. prepend_known (drop n (held a)) (g.rest i)) p.input
      ∙ left_passed (held a) (g.rest a.input.now) n text h told

  Holds-ahead : {a b : Tokens I g} → Holds a b → a.to - a.from ≤ b.to - b.from
  Holds-ahead {a} {b} h =
      omega (arith, Holds-longer h, length-held a.block.now a.from a.to a.ordered a.inside, length-held b.block.now b.from b.to b.ordered b.inside)

  -- bytes that are passed stay read
  Passes-read : {n : ℕ} {a b : Tokens I g} → Passes n a b → n ≤ length (held a) → b.place + (b.to - b.from) ≡ a.place + (a.to - a.from)
  Passes-read {n} {a} {b} p h =
      omega (arith, h, length-held a.block.now a.from a.to a.ordered a.inside, p.place, p.from, p.to)

  -- a token that begins among the held bytes is not empty
  pub Holds-token : {a b : Tokens I g} (found : Bool) (n : ℕ) → Holds a b → MatchBool found (0 < prefix_len (belongs Token) (held a)) (held a ≡ []) → found ≡ true
      → n ≡ prefix_len (belongs Token) (held b) → 0 < n
  Holds-token {a} {b} found n h begins is size =
      let first : 0 < prefix_len (belongs Token) (held a) = subst (λ f. MatchBool f (0 < prefix_len (belongs Token) (held a)) (held a ≡ [])) is begins in
      omega (arith, first, size, run-front (belongs Token) (length (held a)) (held a) (held b) h.front)

  pub Advances-holds : {a b : Tokens I g} → Holds a b → Advances a b
  Advances-holds {a} {b} h = record {
    keeps = h.keeps;
    later = omega (arith, h.place);
    read = omega (arith, h.place, Holds-ahead h);
    told = λ text told. (h.left ∙ told ∙ ap (λ n. Some (drop n text)) {x = 0} {y = b.place - a.place} (omega (arith, h.place)), omega (arith, h.place));
  }

  pub Advances-passes : {n : ℕ} {a b : Tokens I g} → Passes n a b → n ≤ length (held a) → Advances a b
  Advances-passes {n} {a} {b} p h = record {
    keeps = p.keeps;
    later = omega (arith, p.place);
    read = omega (arith, Passes-read p h);
    told = λ text told.
        let parts = told_parts (held a) (g.rest a.input.now) text told in
        let count : n ≡ b.place - a.place = omega (arith, p.place) in
        (left-passes p h text told ∙ ap (λ m. Some (drop m text)) count, omega (arith, count, h, ap length parts.2, length-append (held a) parts.0));
  }

  pub Advances-white : {a b : Tokens I g} → PassesWhite a b → Advances a b
  Advances-white {a} {b} p = record {
    keeps = p.keeps;
    later = p.later;
    read = p.read;
    told = λ text told. let known = p.told text told in (known.0, omega (arith, known.1, prefix_len-le-length (belongs White) text));
  }

  pub Advances-trans : {a b c : Tokens I g} → Advances a b → Advances b c → Advances a c
  Advances-trans {a} {b} {c} first second = record {
    keeps = Keeps-trans first.keeps second.keeps;
    later = omega (arith, first.later, second.later);
    read = omega (arith, first.read, second.read);
    told = λ text told.
        let one = first.told text told in
        let k = b.place - a.place in
        let two = second.told (drop k text) one.0 in
        let sum : k + (c.place - b.place) ≡ c.place - a.place = omega (arith, first.later, second.later) in
        (two.0 ∙ ap Some (drop-drop (c.place - b.place) k text ∙ ap (λ m. drop m text) sum), omega (arith, sum, one.1, two.1, length-drop k text));
  }

  pub PassesWhite-refl : (a : Tokens I g) → PassesWhite a a
  PassesWhite-refl a = record {
    keeps = record { input = refl; block = refl; lender = refl; stopped = refl };
    later = omega arith;
    read = omega arith;
    told = λ text told. (told ∙ ap (λ n. Some (drop n text)) {x = 0} {y = a.place - a.place} (omega arith), omega arith);
  }

  pub PassesWhite-holds : {a b c : Tokens I g} → PassesWhite a b → Holds b c → PassesWhite a c
  PassesWhite-holds {a} {b} {c} first second = record {
    keeps = Keeps-trans first.keeps second.keeps;
    later = omega (arith, first.later, second.place);
    read = omega (arith, first.read, second.place, Holds-ahead second);
    told = λ text told.
        let known = first.told text told in
        let same : c.place - a.place ≡ b.place - a.place = ap (λ p. p - a.place) second.place in
        (second.left ∙ known.0 ∙ ap (λ n. Some (drop n text)) (sym same), omega (arith, same, known.1));
  }

  -- and n more bytes of white space that are held
  pub PassesWhite-passes : {n : ℕ} {a b c : Tokens I g} → PassesWhite a b → Passes n b c → n ≤ prefix_len (belongs White) (held b) → PassesWhite a c
  PassesWhite-passes {n} {a} {b} {c} first second white = record {
    keeps = Keeps-trans first.keeps second.keeps;
    later = omega (arith, first.later, second.place);
    read =
        let bytes : n ≤ length (held b) = omega (arith, white, prefix_len-le-length (belongs White) (held b)) in
        omega (arith, first.read, Passes-read second bytes);
    told = λ text told.
        let known = first.told text told in
        let k = b.place - a.place in
        let parts = told_parts (held b) (g.rest b.input.now) (drop k text) known.0 in
        let bytes : n ≤ length (held b) = omega (arith, white, prefix_len-le-length (belongs White) (held b)) in
        let within : n ≤ b.to - b.from = omega (arith, bytes, length-held b.block.now b.from b.to b.ordered b.inside) in
        let sum : k + n ≡ c.place - a.place = omega (arith, first.later, second.place) in
        let left = ap (λ bytes. prepend_known bytes (g.rest c.input.now)) (held-passes second within) ∙ ap (λ i. prepend_known (drop n (held b)) (g.rest i)) second.input
        ∙ left_passed (held b) (g.rest b.input.now) n (drop k text) bytes known.0 in
        let longer : prefix_len (belongs White) (held b) ≤ prefix_len (belongs White) (drop k text) =
        subst (λ t. prefix_len (belongs White) (held b) ≤ prefix_len (belongs White) t) (sym parts.2) (run-append-le (belongs White) (held b) parts.0) in
        (left ∙ ap Some (drop-drop n k text ∙ ap (λ m. drop m text) sum), omega (arith, sum, white, longer, run-drop (belongs White) k text known.1));
  }

  -- what stands behind the white space that was passed, of a told text
  pub BehindPassed : {a b : Tokens I g} → PassesWhite a b → (text : List ℕ) → left_of a ≡ Some text
      → (behind : List ℕ) × (g.rest b.input.now ≡ Some behind) × (drop (b.place - a.place) text ≡ held b ++ behind)
      × (white_size text ≡ b.place - a.place + white_size (drop (b.place - a.place) text)) × (length text ≡ b.place - a.place + length (drop (b.place - a.place) text))
  BehindPassed {a} {b} passes text told =
      let k = b.place - a.place in
      let known = passes.told text told in
      let parts = told_parts (held b) (g.rest b.input.now) (drop k text) known.0 in
      let short : k ≤ length text = omega (arith, known.1, prefix_len-le-length (belongs White) text) in
      (parts.0, parts.1, parts.2, run-drop (belongs White) k text known.1, omega (arith, short, length-drop k text))

  pub white_too_long : {a b : Tokens I g} → PassesWhite a b → room_at b.place ≤ white_size (held b) → room_at b.place < length (held b) → (text : List ℕ) → left_of a ≡ Some text
      → run_size White (room_at a.place) text ≡ Err TooLong
  white_too_long {a} {b} passes far more text told =
      let k = b.place - a.place in
      let parts = BehindPassed passes text told in
      let white : white_size (held b) ≤ white_size (drop k text) = subst (λ t. white_size (held b) ≤ white_size t) (sym parts.2) (run-append-le (belongs White) (held b) parts.0) in
      let long : length (held b) ≤ length (drop k text) = omega (arith, ap length parts.2, length-append (held b) parts.0) in
      let later : a.place ≤ b.place = passes.later in
      let room : room_at a.place ≡ k + room_at b.place = omega (arith, later, b.within) in
      let size : white_size text ≡ k + white_size (drop k text) = parts.3 in
      let all : length text ≡ k + length (drop k text) = parts.4 in
      run_size-far White (room_at a.place) text (omega (arith, room, far, white, size)) (omega (arith, room, more, long, all))

  pub white_found : {a b : Tokens I g} → PassesWhite a b → 0 < prefix_len (belongs Token) (held b) → b.place < 2 ^ 62 → (text : List ℕ) → left_of a ≡ Some text → PassedWhite text a b true
  white_found {a} {b} passes token near text told =
      let k = b.place - a.place in
      let parts = BehindPassed passes text told in
      let later : a.place ≤ b.place = passes.later in
      let front : 0 < prefix_len (belongs Token) (drop k text) =
      subst (λ t. 0 < prefix_len (belongs Token) t) (sym parts.2) (omega (arith, token, run-append-le (belongs Token) (held b) parts.0)) in
      let none : white_size (drop k text) ≡ 0 = no_white (drop k text) front in
      let size : white_size text ≡ k = omega (arith, parts.3, none) in
      let some : 0 < length (drop k text) = omega (arith, front, prefix_len-le-length (belongs Token) (drop k text)) in
      let within : white_size text < length text = omega (arith, size, parts.4, some) in
      record {
        size = run_size-near White (room_at a.place) text (inl (omega (arith, size, later, near)));
        left = (passes.told text told).0 ∙ ap (λ n. Some (drop n text)) (sym size);
        place = omega (arith, size, later);
        more = grind (arith, nat_tests, within);
      }

  pub white_end : {a b : Tokens I g} → PassesWhite a b → held b ≡ [] → IsAtEnd (g.rest b.input.now) → (text : List ℕ) → left_of a ≡ Some text → PassedWhite text a b false
  white_end {a} {b} passes empty end text told =
      let k = b.place - a.place in
      let parts = BehindPassed passes text told in
      let later : a.place ≤ b.place = passes.later in
      let none : parts.0 ≡ [] = subst IsAtEnd parts.1 end in
      let nothing : length (drop k text) ≡ 0 = ap length parts.2 ∙ length-append (held b) parts.0 ∙ omega (arith, ap length empty, ap length none) in
      let white : white_size (drop k text) ≤ length (drop k text) = prefix_len-le-length (belongs White) (drop k text) in
      let size : white_size text ≡ k = omega (arith, parts.3, white, nothing) in
      let all : length text ≡ k = omega (arith, parts.4, nothing) in
      record {
        size = run_size-near White (room_at a.place) text (inr (omega (arith, all, later, b.within)));
        left = (passes.told text told).0 ∙ ap (λ n. Some (drop n text)) (sym size);
        place = omega (arith, size, later);
        more = grind (arith, nat_tests, size, all);
      }
