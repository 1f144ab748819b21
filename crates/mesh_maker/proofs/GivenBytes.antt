-- Bytes that were given, and those that are left.
use Rattle.std.proofs.Common.{◌≡◌, ℕ, ◌+◌, ◌-◌, ◌≤◌, List, ◌++◌, length, take, drop, refl, sym, ap, ◌∙◌, arith, append_assoc, length-append, length-take-le, take-take, take_at, drop_at}
use Rattle.std.proofs.Math.Seq.{take-add}
use Rattle.std.proofs.lemmas.Slice.{take-put_mid}
use Rattle.dev_traits.proofs.Pieces.{copied_front}
use borrow.Rule.Slice.PartMut.{put_mid}

-- a part of a line is copied, and the rest of it is left
pub given_front : (line into copied body all : List ℕ) (at n : ℕ) → all ≡ drop at line ++ body → at + n ≤ length line → copied ≡ take (at + n - at) (drop at line)
    → all ≡ take n (copied ++ drop n into) ++ (drop (at + n) line ++ body)
given_front line into copied body all at n is fits same =
    is ∙ (ap (λ l. l ++ body) (copied_front line into at n fits)
    ∙ (append_assoc (take n (take (at + n - at) (drop at line) ++ drop n into)) (drop (at + n) line) body
    ∙ ap (λ l. take n (l ++ drop n into) ++ (drop (at + n) line ++ body)) (sym same)))

-- a front of what a part of a block was given stands behind what the block held
pub given_on : (into ys : List ℕ) (done k n : ℕ) → done ≤ length into → n ≤ length ys → take (done + n) (put_mid done k into ys) ≡ take done into ++ take n ys
given_on into ys done k n within few =
    let whole : take (done + length ys) (put_mid done k into ys) ≡ take done into ++ ys = take-put_mid done k into ys (done + length ys) refl within in
    let front : length (take done into) ≡ done = length-take-le done into within in
    sym (take-take (done + n) (done + length ys) (put_mid done k into ys) (omega (arith, few)))
    ∙ (ap (take (done + n)) whole
    ∙ (take-add done n (take done into ++ ys)
    ∙ (λ i. take_at (take done into) ys done front i ++ take n (drop_at (take done into) ys done front i))))

pub gave_on : (into ys old rest rest' : List ℕ) (done k n : ℕ) → done ≤ length into → n ≤ length ys → old ≡ take done into ++ rest → rest ≡ take n ys ++ rest'
    → old ≡ take (done + n) (put_mid done k into ys) ++ rest'
gave_on into ys old rest rest' done k n within few before now =
    before ∙ (ap (λ l. take done into ++ l) now
    ∙ (sym (append_assoc (take done into) (take n ys) rest') ∙ ap (λ l. l ++ rest') (sym (given_on into ys done k n within few))))

-- how many bytes were given: all that there was room for, or all that there were
pub gave_all : (old into rest : List ℕ) (done : ℕ) → done ≤ length into → old ≡ take done into ++ rest → length old ≡ done + length rest
gave_all old into rest done within is = ap length is ∙ (length-append (take done into) rest ∙ ap (λ n. n + length rest) (length-take-le done into within))
