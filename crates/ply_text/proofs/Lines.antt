-- The next line of a text is the first of its lines.
use Rattle.std.proofs.Common.{◌≡◌, ℕ, suc, ◌+◌, ◌<◌, Bool, true, false, not, ◌&&◌, ◌==◌, cond, if◌then◌else◌, List, [], ◌∷◌, ◌++◌, length, take, drop, refl, sym, ap, ◌∙◌, arith, subst, length-append}
use Rattle.std.specs.List.{prefix_len}
use Rattle.std.proofs.lemmas.Bool.Decides.{nat_tests}
use Rattle.ply_text.specs.declared.run.Run.TheVariants.{Line}
use Rattle.ply_text.specs.Pieces.{Piece, belongs}
use Rattle.ply_text.specs.HeaderLines.{header_lines, with_first, begins_with_feed}
use Rattle.ply_text.specs.NextPieces.{without_return}

-- what a first byte adds to a line before LF
joined : (b : Bool) (byte c : ℕ) (t : List ℕ) → (c == 10) ≡ b → let front = take (cond (not b) (1 + prefix_len (belongs Line) t) 0) (c ∷ t) in
    (if (byte == 13) && (c == 10) then without_return front else byte ∷ without_return front) ≡ without_return (byte ∷ front)
unfolding belongs
joined true byte c t feed = ap (λ b. if (byte == 13) && b then [] else byte ∷ []) feed
joined false byte c t feed =
    let m = prefix_len (belongs Line) t in
    let front = take (1 + m) (c ∷ t) in
    let next : suc m ≡ 1 + m = omega arith in
    let P : ℕ → Type 0 = λ n. (length (take n (c ∷ t)) == 0) ≡ false in
    let some : (length front == 0) ≡ false = subst P next (grind (arith, nat_tests)) in
    let no : (b : Bool) → (b && (c == 10)) ≡ (b && (length front == 0)) = λ b. ap (λ d. b && d) (feed ∙ sym some) in
    let none : (b : Bool) → (b && (length front == 0)) ≡ false = λ b. ap (λ d. b && d) some ∙ elim b as (λ d. (d && false) ≡ false) [ true ↦ refl | false ↦ refl ] in
    ap (λ b. if b then without_return front else byte ∷ without_return front) (no (byte == 13) ∙ none (byte == 13))
    ∙ sym (ap (λ b. if b then [] else byte ∷ without_return front) (none (byte == 13)))

-- a line before LF
abbrev BeforeFeed : ℕ → ℕ → List ℕ → Type 0
BeforeFeed n place text = header_lines place text ≡ record { place = place; bytes = without_return (take n text) } ∷ header_lines (place + (n + 1)) (drop (n + 1) text)

first-joined : (byte : ℕ) (behind : List ℕ) → prefix_len (belongs Line) behind < length behind
    → (if (byte == 13) && begins_with_feed behind then without_return (take (prefix_len (belongs Line) behind) behind)
    else byte ∷ without_return (take (prefix_len (belongs Line) behind) behind))
    ≡ without_return (byte ∷ take (prefix_len (belongs Line) behind) behind)
unfolding belongs
first-joined byte [] = λ h. absurd (omega (arith, h))
first-joined byte (c ∷ t) = λ h. joined (c == 10) byte c t refl

pub header_lines-feed : (place : ℕ) (text : List ℕ) → prefix_len (belongs Line) text < length text → BeforeFeed (prefix_len (belongs Line) text) place text
unfolding belongs
header_lines-feed place [] = λ h. absurd (omega (arith, h))
header_lines-feed place (byte ∷ behind) =
    let m = prefix_len (belongs Line) behind in
    elim (byte == 10) as (λ b. cond (not b) (1 + m) 0 < suc (length behind)
    → cond b (record { place = place; bytes = [] } ∷ header_lines (place + 1) behind) (with_first place byte behind (header_lines (place + 1) behind))
    ≡ record { place = place; bytes = without_return (take (cond (not b) (1 + m) 0) (byte ∷ behind)) } ∷ header_lines (place + (cond (not b) (1 + m) 0 + 1)) (drop (cond (not b) (1 + m) 0 + 1) (byte ∷ behind))) [
      | true ↦ λ h. refl
      | false ↦ λ h.
          let within : m < length behind = omega (arith, h) in
          let size : suc m ≡ 1 + m = omega arith in
          let past : suc (m + 1) ≡ 1 + m + 1 = omega arith in
          let behind_place : place + 1 + (m + 1) ≡ place + (1 + m + 1) = omega arith in
          ap (with_first place byte behind) (header_lines-feed (place + 1) behind within)
          ∙ ap (λ bytes. record { place = place; bytes = bytes } ∷ header_lines (place + 1 + (m + 1)) (drop (m + 1) behind)) (first-joined byte behind within)
          ∙ ap (λ n. record { place = place; bytes = without_return (take n (byte ∷ behind)) } ∷ header_lines (place + 1 + (m + 1)) (drop (m + 1) behind)) size
          ∙ ap (λ n. record { place = place; bytes = without_return (take (1 + m) (byte ∷ behind)) } ∷ header_lines (place + 1 + (m + 1)) (drop n (byte ∷ behind))) past
          ∙ ap (λ p. record { place = place; bytes = without_return (take (1 + m) (byte ∷ behind)) } ∷ header_lines p (drop (1 + m + 1) (byte ∷ behind))) behind_place
    ]

not_feed : (b : Bool) (m n : ℕ) → cond (not b) (1 + m) 0 ≡ suc n → b ≡ false
not_feed true m n = λ h. absurd (omega (arith, h))
not_feed false m n = λ h. refl

and-false : (b d : Bool) → d ≡ false → (b && d) ≡ false
and-false true d h = h
and-false false d h = refl

-- a last line, without LF
pub header_lines-last : (place byte : ℕ) (behind : List ℕ) → prefix_len (belongs Line) (byte ∷ behind) ≡ length (byte ∷ behind)
    → header_lines place (byte ∷ behind) ≡ record { place = place; bytes = byte ∷ behind } ∷ []
unfolding belongs
header_lines-last place byte [] =
    elim (byte == 10) as (λ b. cond (not b) (1 + 0) 0 ≡ suc 0 → cond {A = List Piece} b (record { place = place; bytes = [] } ∷ []) (record { place = place; bytes = byte ∷ [] } ∷ []) ≡ record { place = place; bytes = byte ∷ [] } ∷ [])
    [ true ↦ λ h. absurd (omega (arith, h)) | false ↦ λ h. refl ]
header_lines-last place byte (c ∷ t) =
    elim (byte == 10) as (λ b. cond (not b) (1 + prefix_len (belongs Line) (c ∷ t)) 0 ≡ suc (suc (length t))
    → cond b (record { place = place; bytes = [] } ∷ header_lines (place + 1) (c ∷ t)) (with_first place byte (c ∷ t) (header_lines (place + 1) (c ∷ t)))
    ≡ record { place = place; bytes = byte ∷ c ∷ t } ∷ []) [
      | true ↦ λ h. absurd (omega (arith, h))
      | false ↦ λ h.
          let size : prefix_len (belongs Line) (c ∷ t) ≡ suc (length t) = omega (arith, h) in
          let feed : (c == 10) ≡ false = not_feed (c == 10) (prefix_len (belongs Line) t) (length t) size in
          ap (with_first place byte (c ∷ t)) (header_lines-last (place + 1) c t size)
          ∙ ap (λ b. record { place = place; bytes = if b then c ∷ t else byte ∷ c ∷ t } ∷ []) (and-false (byte == 13) (c == 10) feed)
    ]

-- a CR at the end is left out, and another byte is not
pub without_return-return : (front : List ℕ) → without_return (front ++ 13 ∷ []) ≡ front
without_return-return [] = refl
without_return-return (x ∷ front) =
    let test : (length (front ++ 13 ∷ []) == 0) ≡ false = grind (arith, nat_tests, length-append front (13 ∷ [])) in
    ap (λ b. if b then [] else x ∷ without_return (front ++ 13 ∷ [])) (and-false (x == 13) (length (front ++ 13 ∷ []) == 0) test) ∙ ap (λ t. x ∷ t) (without_return-return front)

pub without_return-other : (front : List ℕ) (last : ℕ) → (last == 13) ≡ false → without_return (front ++ last ∷ []) ≡ front ++ last ∷ []
without_return-other [] last h = ap (λ b. if b && true then [] else last ∷ []) h
without_return-other (x ∷ front) last h =
    let test : (length (front ++ last ∷ []) == 0) ≡ false = grind (arith, nat_tests, length-append front (last ∷ [])) in
    ap (λ b. if b then [] else x ∷ without_return (front ++ last ∷ [])) (and-false (x == 13) (length (front ++ last ∷ []) == 0) test) ∙ ap (λ t. x ∷ t) (without_return-other front last h)
