-- Pieces that were moved one after another.
use Rattle.std.proofs.Common.{◌≡◌, ℕ, ◌+◌, ◌≤◌, List, [], ◌++◌, length, take, drop, Option, None, Some, refl, sym, ap, subst, ◌∙◌, arith, append_assoc, append-nil, length-take-le, take-take, take_at, drop_at}
use Rattle.std.specs.Io.KnownBytes.{Appends, Consumes, Keeps}
use Rattle.std.proofs.Math.Seq.{take-add}
use Rattle.std.proofs.lemmas.Slice.{take-put_mid}
use borrow.Rule.Slice.PartMut.{put_mid}

pub appends_none : (a : Option (List ℕ)) → Appends a a []
appends_none None = tt
appends_none (Some xs) = sym (append-nil xs)

appends_twice : (a b c : Option (List ℕ)) (xs ys : List ℕ) → Appends a b xs → Appends b c ys → Appends a c (xs ++ ys)
appends_twice None b c xs ys first second = tt
appends_twice (Some us) None c xs ys first second = absurd first
appends_twice (Some us) (Some vs) None xs ys first second = absurd second
appends_twice (Some us) (Some vs) (Some ws) xs ys first second = second ∙ (ap (λ l. l ++ ys) first ∙ append_assoc us xs ys)

-- a write takes some of what is left of the piece
pub appends_on : (a b c : Option (List ℕ)) (piece : List ℕ) (done left n : ℕ) → n ≤ left → Appends a b (take done piece) → Appends b c (take n (take left (drop done piece))) → Appends a c (take (done + n) piece)
appends_on a b c piece done left n few first second =
    let P : List ℕ → Type 0 = λ bytes. Appends a c bytes in
    let Q : List ℕ → Type 0 = λ bytes. Appends b c bytes in
    let next : Appends b c (take n (drop done piece)) = subst Q (take-take n left (drop done piece) few) second in
    subst P (sym (take-add done n piece)) (appends_twice a b c (take done piece) (take n (drop done piece)) first next)

pub consumes_none : (a : Option (List ℕ)) → Consumes a a []
consumes_none None = tt
consumes_none (Some xs) = refl

consumes_twice : (a b c : Option (List ℕ)) (xs ys : List ℕ) → Consumes a b xs → Consumes b c ys → Consumes a c (xs ++ ys)
consumes_twice None b c xs ys first second = tt
consumes_twice (Some us) None c xs ys first second = absurd first
consumes_twice (Some us) (Some vs) None xs ys first second = absurd second
consumes_twice (Some us) (Some vs) (Some ws) xs ys first second = first ∙ (ap (λ l. xs ++ l) second ∙ sym (append_assoc xs ys ws))

-- what a part of a block was given stands behind what the block held
given_on : (into ys : List ℕ) (done k n : ℕ) → done ≤ length into → n ≤ length ys → take (done + n) (put_mid done k into ys) ≡ take done into ++ take n ys
given_on into ys done k n within few =
    let whole : take (done + length ys) (put_mid done k into ys) ≡ take done into ++ ys = take-put_mid done k into ys (done + length ys) refl within in
    let front : length (take done into) ≡ done = length-take-le done into within in
    sym (take-take (done + n) (done + length ys) (put_mid done k into ys) (omega (arith, few)))
    ∙ (ap (take (done + n)) whole
    ∙ (take-add done n (take done into ++ ys) ∙ (λ i. take_at (take done into) ys done front i ++ take n (drop_at (take done into) ys done front i))))

-- a read gives some of what is wanted
pub consumes_on : (a b c : Option (List ℕ)) (into ys : List ℕ) (done k n : ℕ) → done ≤ length into → n ≤ length ys → Consumes a b (take done into) → Consumes b c (take n ys)
    → Consumes a c (take (done + n) (put_mid done k into ys))
consumes_on a b c into ys done k n within few first second =
    let P : List ℕ → Type 0 = λ bytes. Consumes a c bytes in
    subst P (sym (given_on into ys done k n within few)) (consumes_twice a b c (take done into) (take n ys) first second)

-- what keeps the bytes keeps what was appended
pub appends_kept : (a b c : Option (List ℕ)) (xs : List ℕ) → Appends a b xs → Keeps b c → Appends a c xs
appends_kept None b c xs first kept = tt
appends_kept (Some us) None c xs first kept = absurd first
appends_kept (Some us) (Some vs) None xs first kept = absurd kept
appends_kept (Some us) (Some vs) (Some ws) xs first kept = kept ∙ first
