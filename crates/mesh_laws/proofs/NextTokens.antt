-- A token behind white space is the next one, and a step takes it.
use Rattle.std.proofs.Common.{◌≡◌, ℕ, zero, suc, ◌+◌, ◌-◌, ◌^◌, ◌<◌, ◌≤◌, Bool, true, false, cond, ◌&&◌, min, nat_lt, List, [], ◌∷◌, ◌++◌, length, take, drop, Option, None, Some, Result, Ok, Err, inl, inr, refl, sym, ap, subst, ◌∙◌, arith, length-append}
use Rattle.std.specs.List.{list_all, prefix_len}
use Rattle.std.proofs.Math.Seq.{take-append_seam, drop-append_seam}
use Rattle.std.proofs.lemmas.Bool.{and_parts}
use Rattle.std.proofs.lemmas.Bool.Decides.{nat_tests}
use Rattle.std.proofs.lemmas.List.{append_assoc}
use Rattle.ply_text.specs.declared.fault.TextFault.{TextFault}
use Rattle.ply_text.specs.declared.fault.TextFault.TheVariants.{TokenTooLong}
use Rattle.ply_text.specs.declared.run.Run.TheVariants.{Token, White}
use Rattle.ply_text.specs.Pieces.{Piece, belongs}
use Rattle.ply_text.specs.NextPieces.{sized, short_run_size, run_size, room_at, next_token_of, front_token_of, token_size, white_size}
use Rattle.ply_text.proofs.Answers.{front_token_of-size}
use Rattle.ply_text.proofs.Runs.{no_white}
use Rattle.ply_text.proofs.RunSizes.{run_size-near}
use Rattle.ply_reader.specs.declared.fault.PlyFault.{PlyFault}
use Rattle.ply_reader.specs.Cursors.{Cursor, at, taken, token_read, with_cursor, behind_token}

-- a run that all of a front belongs to goes on behind it
pub run_all : (p : ℕ → Bool) (xs ys : List ℕ) → list_all p xs ≡ true → prefix_len p (xs ++ ys) ≡ length xs + prefix_len p ys
run_all p [] ys all = omega arith
run_all p (x ∷ xs) ys all =
    let parts = and_parts (p x) (list_all p xs) all in
    rw parts.0 (omega (arith, run_all p xs ys parts.1))

-- 1 to 255 bytes, none of them white
pub record IsPlainToken (t : List ℕ) : Type 0 where
  pub some : 0 < length t
  pub few : length t ≤ 255
  pub whole : list_all (belongs Token) t ≡ true

-- white space, a token, and what does not go on with it, within the places of a text
pub record Stands (place : ℕ) (white t rest : List ℕ) : Type 0 where
  pub blank : list_all (belongs White) white ≡ true
  pub token : IsPlainToken t
  pub ends : prefix_len (belongs Token) rest ≡ 0
  pub room : place + length (white ++ (t ++ rest)) ≤ 2 ^ 62

module _ (place : ℕ) (white t rest : List ℕ) (stands : Stands place white t rest) where
  token_run : prefix_len (belongs Token) (t ++ rest) ≡ length t
  token_run = omega (arith, run_all (belongs Token) t rest stands.token.whole, stands.ends)

  white_run : prefix_len (belongs White) (white ++ (t ++ rest)) ≡ length white
  white_run =
      let none : prefix_len (belongs White) (t ++ rest) ≡ 0 = no_white (t ++ rest) (omega (arith, token_run, stands.token.some)) in
      omega (arith, run_all (belongs White) white (t ++ rest) stands.blank, none)

  behind : drop (length white) (white ++ (t ++ rest)) ≡ t ++ rest
  behind = drop-append_seam white (t ++ rest)

  short : short_run_size Token 255 (TokenTooLong (place + length white)) (room_at (place + length white)) (t ++ rest) ≡ Ok (length t)
  unfolding short_run_size
  short =
      let room : ℕ = room_at (place + length white) in
      let near : nat_lt 255 (min (prefix_len (belongs Token) (t ++ rest)) room) ≡ false = grind (arith, nat_tests, token_run, stands.token.few) in
      let long : length (t ++ rest) ≤ room = omega (arith, stands.room, length-append white (t ++ rest)) in
      rw near (run_size-near Token room (t ++ rest) (inr long) ∙ ap (λ (n : ℕ). Ok n) token_run)

  pub next_token : next_token_of place (white ++ (t ++ rest)) ≡ Ok (Some (record { place = place + length white; bytes = t }))
  unfolding next_token_of
  next_token =
      let go : ℕ → Result (Option Piece) TextFault = λ size. front_token_of (place + size) (drop size (white ++ (t ++ rest))) in
      let long : length (white ++ (t ++ rest)) ≤ room_at place = omega (arith, stands.room) in
      ap (λ (r : Result ℕ TextFault). sized r go) (run_size-near White (room_at place) (white ++ (t ++ rest)) (inr long) ∙ ap (λ (n : ℕ). Ok n) white_run)
      ∙ ap (front_token_of (place + length white)) behind
      ∙ (front_token_of-size (place + length white) (t ++ rest) (length t) stands.token.some short
      ∙ ap (λ (bytes : List ℕ). Ok (Some (record { place = place + length white; bytes = bytes }))) (take-append_seam t rest))

  size : token_size (white ++ (t ++ rest)) ≡ length white + length t
  size = rw (white_run, behind, token_run) refl

  rest_is : drop (length white + length t) (white ++ (t ++ rest)) ≡ rest
  rest_is =
      sym (ap (λ n. drop n (white ++ (t ++ rest))) (length-append white t))
      ∙ (ap (drop (length (white ++ t))) (sym (append_assoc white t rest)) ∙ drop-append_seam (white ++ t) rest)

  pub token_taken : {A : Type 0} (read : Piece → Result A PlyFault)
      → taken read (at place (white ++ (t ++ rest))) ≡ with_cursor (at (place + (length white + length t)) rest) (read (record { place = place + length white; bytes = t }))
  unfolding taken
  token_taken read =
      let cursor : Cursor = at place (white ++ (t ++ rest)) in
      ap (token_read read cursor) next_token
      ∙ ap (λ n. with_cursor (at (place + n) (drop n (white ++ (t ++ rest)))) (read (record { place = place + length white; bytes = t }))) size
      ∙ ap (λ text. with_cursor (at (place + (length white + length t)) text) (read (record { place = place + length white; bytes = t }))) rest_is
