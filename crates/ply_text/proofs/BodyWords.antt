-- The next token of a text is the first of its tokens.
use Rattle.std.proofs.Common.{◌≡◌, ℕ, zero, suc, ◌+◌, ◌<◌, ◌≤◌, Bool, true, false, not, ◌==◌, cond, List, [], ◌∷◌, take, drop, refl, sym, ap, ◌∙◌, arith, subst}
use Rattle.std.specs.Bool.{⊤}
use Rattle.std.specs.List.{prefix_len}
use Rattle.std.proofs.lemmas.Bool.Decides.{nat_tests}
use Rattle.ply_text.specs.declared.run.Run.TheVariants.{White, Token}
use Rattle.ply_text.specs.Pieces.{Piece, is_white, belongs}
use Rattle.ply_text.specs.BodyTokens.{body_tokens, with_byte}

-- white space has no tokens
pub body_tokens-white : (n place : ℕ) (text : List ℕ) → n ≤ prefix_len (belongs White) text → body_tokens place text ≡ body_tokens (place + n) (drop n text)
unfolding belongs
body_tokens-white zero place text = λ h. ap (λ p. body_tokens p text) (omega arith)
body_tokens-white (suc n) place [] = λ h. absurd (omega (arith, h))
body_tokens-white (suc n) place (x ∷ xs) =
    elim (is_white x) as (λ b. suc n ≤ cond b (1 + prefix_len (belongs White) xs) 0
    → cond b (body_tokens (place + 1) xs) (with_byte place x (body_tokens (place + 1) xs)) ≡ body_tokens (place + suc n) (drop n xs)) [
      | true ↦ λ h. body_tokens-white n (place + 1) xs (omega (arith, h)) ∙ ap (λ p. body_tokens p (drop n xs)) (omega arith)
      | false ↦ λ h. absurd (omega (arith, h))
    ]

-- the first of these tokens, if there is one, has no smaller place
abbrev FirstFrom : ℕ → List Piece → Type 0
FirstFrom place [] = ⊤
FirstFrom place (token ∷ tokens) = place ≤ token.place

FirstFrom-with_byte : (place x : ℕ) (tokens : List Piece) → FirstFrom place (with_byte place x tokens)
FirstFrom-with_byte place x [] = omega arith
FirstFrom-with_byte place x (token ∷ tokens) =
    elim (token.place == place + 1) as (λ b. FirstFrom place (cond b (record { place = place; bytes = x ∷ token.bytes } ∷ tokens) (record { place = place; bytes = x ∷ [] } ∷ token ∷ tokens)))
    [ true ↦ omega arith | false ↦ omega arith ]

FirstFrom-less : (place : ℕ) (tokens : List Piece) → FirstFrom (place + 1) tokens → FirstFrom place tokens
FirstFrom-less place [] h = h
FirstFrom-less place (token ∷ tokens) h = omega (arith, h)

FirstFrom-tokens : (place : ℕ) (text : List ℕ) → FirstFrom place (body_tokens place text)
FirstFrom-tokens place [] = tt
FirstFrom-tokens place (x ∷ xs) =
    elim (is_white x) as (λ b. FirstFrom place (cond b (body_tokens (place + 1) xs) (with_byte place x (body_tokens (place + 1) xs))))
    [ true ↦ FirstFrom-less place (body_tokens (place + 1) xs) (FirstFrom-tokens (place + 1) xs) | false ↦ FirstFrom-with_byte place x (body_tokens (place + 1) xs) ]

-- a byte before a token that begins further on is a token of its own
apart : (place x : ℕ) (tokens : List Piece) → FirstFrom (place + 1 + 1) tokens → with_byte place x tokens ≡ record { place = place; bytes = x ∷ [] } ∷ tokens
apart place x [] h = refl
apart place x (token ∷ tokens) h =
    let test : (token.place == place + 1) ≡ false = grind (arith, nat_tests, h) in
    ap (λ b. cond b (record { place = place; bytes = x ∷ token.bytes } ∷ tokens) (record { place = place; bytes = x ∷ [] } ∷ token ∷ tokens)) test

-- a byte before a token that begins directly behind it joins it
joined : (place x : ℕ) (bytes : List ℕ) (tokens : List Piece) → with_byte place x (record { place = place + 1; bytes = bytes } ∷ tokens) ≡ record { place = place; bytes = x ∷ bytes } ∷ tokens
joined place x bytes tokens =
    let test : (place + 1 == place + 1) ≡ true = grind (arith, nat_tests) in
    ap (λ b. cond b (record { place = place; bytes = x ∷ bytes } ∷ tokens) (record { place = place; bytes = x ∷ [] } ∷ record { place = place + 1; bytes = bytes } ∷ tokens)) test

abbrev Front : ℕ → ℕ → List ℕ → Type 0
Front n place text = body_tokens place text ≡ record { place = place; bytes = take n text } ∷ body_tokens (place + n) (drop n text)

-- a byte before white space
front-white : (b : Bool) (place x y : ℕ) (ys : List ℕ) → is_white y ≡ b → cond (not b) (1 + prefix_len (belongs Token) ys) 0 ≡ 0
    → with_byte place x (body_tokens (place + 1) (y ∷ ys)) ≡ record { place = place; bytes = x ∷ [] } ∷ body_tokens (place + 1 + 0) (y ∷ ys)
front-white true place x y ys white none =
    let later : body_tokens (place + 1) (y ∷ ys) ≡ body_tokens (place + 1 + 1) ys =
    ap (λ b. cond b (body_tokens (place + 1 + 1) ys) (with_byte (place + 1) y (body_tokens (place + 1 + 1) ys))) white in
    let first : FirstFrom (place + 1 + 1) (body_tokens (place + 1) (y ∷ ys)) = subst (FirstFrom (place + 1 + 1)) (sym later) (FirstFrom-tokens (place + 1 + 1) ys) in
    apart place x (body_tokens (place + 1) (y ∷ ys)) first ∙ ap (λ p. record { place = place; bytes = x ∷ [] } ∷ body_tokens p (y ∷ ys)) {x = place + 1} {y = place + 1 + 0} (omega arith)
front-white false place x y ys white none = absurd (omega (arith, none))

-- a byte that belongs to a token, before a text
front-joined : (m place x : ℕ) (xs : List ℕ) → prefix_len (belongs Token) xs ≡ m → (0 < m → Front m (place + 1) xs)
    → with_byte place x (body_tokens (place + 1) xs) ≡ record { place = place; bytes = x ∷ take m xs } ∷ body_tokens (place + 1 + m) (drop m xs)
unfolding belongs
front-joined (suc m) place x xs is next = ap (with_byte place x) (next (omega arith)) ∙ joined place x (take (suc m) xs) (body_tokens (place + 1 + suc m) (drop (suc m) xs))
front-joined zero place x [] is next = ap (λ p. record { place = place; bytes = x ∷ [] } ∷ body_tokens p []) {x = place + 1} {y = place + 1 + 0} (omega arith)
front-joined zero place x (y ∷ ys) is next = front-white (is_white y) place x y ys refl is

pub body_tokens-front : (place : ℕ) (text : List ℕ) → 0 < prefix_len (belongs Token) text → Front (prefix_len (belongs Token) text) place text
unfolding belongs
body_tokens-front place [] = λ h. absurd (omega (arith, h))
body_tokens-front place (x ∷ xs) =
    elim (is_white x) as (λ b. 0 < cond (not b) (1 + prefix_len (belongs Token) xs) 0
    → cond b (body_tokens (place + 1) xs) (with_byte place x (body_tokens (place + 1) xs))
    ≡ record { place = place; bytes = take (cond (not b) (1 + prefix_len (belongs Token) xs) 0) (x ∷ xs) }
    ∷ body_tokens (place + cond (not b) (1 + prefix_len (belongs Token) xs) 0) (drop (cond (not b) (1 + prefix_len (belongs Token) xs) 0) (x ∷ xs))) [
      | true ↦ λ h. absurd (omega (arith, h))
      | false ↦ λ h.
          let m = prefix_len (belongs Token) xs in
          let P : ℕ → Type 0 = λ n. with_byte place x (body_tokens (place + 1) xs) ≡ record { place = place; bytes = take n (x ∷ xs) } ∷ body_tokens (place + n) (drop n (x ∷ xs)) in
          let next : suc m ≡ 1 + m = omega arith in
          let behind : place + 1 + m ≡ place + suc m = omega arith in
          subst P next (front-joined m place x xs refl (λ some. body_tokens-front (place + 1) xs some)
          ∙ ap (λ p. record { place = place; bytes = x ∷ take m xs } ∷ body_tokens p (drop m xs)) behind)
    ]
