-- A plain line of a header, and what is declared behind it.
use Rattle.std.proofs.Common.{◌≡◌, ℕ, suc, ◌+◌, ◌-◌, ◌^◌, ◌<◌, ◌≤◌, Bool, true, false, cond, ◌&&◌, not, min, nat_lt, List, [], ◌∷◌, ◌++◌, length, take, drop, Option, None, Some, Result, Ok, Err, inr, refl, sym, ap, ◌∙◌, arith, length-append}
use Rattle.std.specs.Prelude.{◌==◌, if◌then◌else◌}
use Rattle.std.specs.List.{list_all, prefix_len}
use Rattle.std.proofs.Math.Seq.{take-append_seam, drop-append_seam, drop-append-add}
use Rattle.std.proofs.lemmas.Bool.{and_parts, and_from}
use Rattle.std.proofs.lemmas.Bool.Decides.{nat_tests}
use Rattle.ply_text.specs.declared.fault.TextFault.{TextFault}
use Rattle.ply_text.specs.declared.fault.TextFault.TheVariants.{LineTooLong}
use Rattle.ply_text.specs.declared.run.Run.TheVariants.{Line}
use Rattle.ply_text.specs.Pieces.{Piece, belongs}
use Rattle.ply_text.specs.NextPieces.{short_run_size, room_at, next_line_of, line_of, line_size, without_return}
use Rattle.ply_text.proofs.Answers.{next_line_of-size}
use Rattle.ply_text.proofs.RunSizes.{run_size-near}
use Rattle.ply_reader.specs.declared.fault.PlyFault.{PlyFault}
use Rattle.ply_reader.specs.Cursors.{Cursor, at, onward, done}
use Rattle.ply_reader.specs.Declarations.{Declared}
use Rattle.ply_reader.specs.HeaderRules.{first_broken, rules_of, is_end, after}
use Rattle.ply_reader.specs.HeaderSteps.{Taken, header_line, header_of, line_read, line_taken}
use Rattle.ply_reader.specs.LineWords.{line_words}
use Rattle.mesh_laws.proofs.NextTokens.{run_all}

-- neither LF nor CR
abbrev pub is_plain_byte : ℕ → Bool
is_plain_byte byte = not (byte == 10) && not (byte == 13)

pub record IsPlainLine (line : List ℕ) : Type 0 where
  pub bytes : list_all is_plain_byte line ≡ true
  pub short : length line ≤ 1024

line_bytes : (line : List ℕ) → list_all is_plain_byte line ≡ true → list_all (belongs Line) line ≡ true
unfolding belongs
line_bytes [] all = refl
line_bytes (b ∷ rest) all =
    let parts = and_parts (is_plain_byte b) (list_all is_plain_byte rest) all in
    and_from (not (b == 10)) (list_all (belongs Line) rest) (and_parts (not (b == 10)) (not (b == 13)) parts.0).0 (line_bytes rest parts.1)

no_return : (line : List ℕ) → list_all is_plain_byte line ≡ true → without_return line ≡ line
no_return [] all = refl
no_return (b ∷ rest) all =
    let parts = and_parts (is_plain_byte b) (list_all is_plain_byte rest) all in
    let other : (b == 13) ≡ false = grind (arith, nat_tests, (and_parts (not (b == 10)) (not (b == 13)) parts.0).1) in
    rw other (ap (λ bytes. b ∷ bytes) (no_return rest parts.1))

module _ (place : ℕ) (line rest : List ℕ) (plain : IsPlainLine line) (room : place + length (line ++ (10 ∷ rest)) ≤ 2 ^ 62) where
  line_run : prefix_len (belongs Line) (line ++ (10 ∷ rest)) ≡ length line
  unfolding belongs
  line_run = omega (arith, run_all (belongs Line) line (10 ∷ rest) (line_bytes line plain.bytes))

  long : length (line ++ (10 ∷ rest)) ≡ length line + suc (length rest)
  long = length-append line (10 ∷ rest)

  short : short_run_size Line 1024 (LineTooLong place) (room_at place) (line ++ (10 ∷ rest)) ≡ Ok (length line)
  unfolding short_run_size
  short =
      let near : nat_lt 1024 (min (prefix_len (belongs Line) (line ++ (10 ∷ rest))) (room_at place)) ≡ false = grind (arith, nat_tests, line_run, plain.short) in
      rw near (run_size-near Line (room_at place) (line ++ (10 ∷ rest)) (inr (omega (arith, room))) ∙ ap (λ (n : ℕ). Ok n) line_run)

  bytes_are : line_of (line ++ (10 ∷ rest)) (length line) ≡ line
  bytes_are =
      let more : nat_lt (length line) (length (line ++ (10 ∷ rest))) ≡ true = grind (arith, nat_tests, long) in
      rw more (ap without_return (take-append_seam line (10 ∷ rest)) ∙ no_return line plain.bytes)

  next_line : next_line_of place (line ++ (10 ∷ rest)) ≡ Ok (Some (record { place = place; bytes = line }))
  next_line =
      let some : (length (line ++ (10 ∷ rest)) == 0) ≡ false = grind (arith, nat_tests, long) in
      next_line_of-size place (line ++ (10 ∷ rest)) (length line) false some short
      ∙ ap (λ (bytes : List ℕ). Ok (Some (record { place = place; bytes = bytes }))) bytes_are

  size : line_size (line ++ (10 ∷ rest)) ≡ length line + 1
  size = grind (arith, line_run, long)

  behind : drop (length line + 1) (line ++ (10 ∷ rest)) ≡ rest
  behind = drop-append-add line (10 ∷ rest) 1

  taken_is : (d : Declared) → header_line d (at place (line ++ (10 ∷ rest)))
      ≡ line_taken d place (line_words line) (at (place + (length line + 1)) rest) (first_broken (rules_of d (line_words line)))
  unfolding header_line
  taken_is d =
      let cursor : Cursor = at place (line ++ (10 ∷ rest)) in
      let answer : Cursor → Result (Taken × Cursor) PlyFault = λ c. line_taken d place (line_words line) c (first_broken (rules_of d (line_words line))) in
      ap (line_read d cursor) next_line
      ∙ ap (λ n. answer (at (place + n) (drop n (line ++ (10 ∷ rest))))) size
      ∙ ap (λ text. answer (at (place + (length line + 1)) text)) behind

  -- a line that is taken, and goes on or ends the header
  pub goes_on : (n : ℕ) (d next : Declared) → first_broken (rules_of d (line_words line)) ≡ None → is_end d (line_words line) ≡ false → after d (line_words line) ≡ next
      → header_of (suc n) d (at place (line ++ (10 ∷ rest))) ≡ header_of n next (at (place + (length line + 1)) rest)
  unfolding header_of
  goes_on n d next kept more declares =
      let go : Taken → Cursor → Result (Declared × Cursor) PlyFault = λ taken. if taken.ended then done taken.declared else header_of n taken.declared in
      ap (λ (r : Result (Taken × Cursor) PlyFault). onward r go) (taken_is d)
      ∙ ap (λ (o : Option _). onward (line_taken d place (line_words line) (at (place + (length line + 1)) rest) o) go) kept
      ∙ (rw more refl ∙ ap (λ (e : Declared). header_of n e (at (place + (length line + 1)) rest)) declares)

  pub ends : (n : ℕ) (d next : Declared) → first_broken (rules_of d (line_words line)) ≡ None → is_end d (line_words line) ≡ true → after d (line_words line) ≡ next
      → header_of (suc n) d (at place (line ++ (10 ∷ rest))) ≡ Ok (next, at (place + (length line + 1)) rest)
  unfolding header_of
  ends n d next kept last declares =
      let go : Taken → Cursor → Result (Declared × Cursor) PlyFault = λ taken. if taken.ended then done taken.declared else header_of n taken.declared in
      ap (λ (r : Result (Taken × Cursor) PlyFault). onward r go) (taken_is d)
      ∙ ap (λ (o : Option _). onward (line_taken d place (line_words line) (at (place + (length line + 1)) rest) o) go) kept
      ∙ (rw last refl ∙ ap (λ (e : Declared). Ok (e, at (place + (length line + 1)) rest)) declares)
