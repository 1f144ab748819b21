-- The held bytes of a block, and what stands behind them.
use Rattle.std.proofs.Common.{◌≡◌, ℕ, ◌+◌, ◌-◌, ◌≤◌, List, ◌++◌, length, take, drop, Option, None, Some, refl, sym, ap, ◌∙◌, arith, append_assoc, slice_range}
use Rattle.std.specs.Io.KnownBytes.{prepend_known}
use Rattle.std.proofs.lemmas.List.{take-take, drop-drop, drop-take, drop-append-le}
use Rattle.std.proofs.Math.Seq.{take-add}
use Rattle.std.proofs.lemmas.Grind.{common_steps}

-- how many bytes are held
pub length-held : (block : List ℕ) (from to : ℕ) → from ≤ to → to ≤ length block → length (slice_range block from to) ≡ to - from
length-held block from to ordered inside = grind (arith, common_steps)

-- the held bytes without the first n
pub drop-held : (block : List ℕ) (from to n : ℕ) → n ≤ to - from → drop n (slice_range block from to) ≡ slice_range block (from + n) to
drop-held block from to n h =
    let split : to - from ≡ n + (to - (from + n)) = omega (arith, h) in
    ap (λ m. drop n (take m (drop from block))) split ∙ drop-take n (to - (from + n)) (drop from block) ∙ ap (take (to - (from + n))) (drop-drop n from block)

-- the first n of the held bytes
pub take-held : (block : List ℕ) (from to n : ℕ) → n ≤ to - from → take n (slice_range block from to) ≡ slice_range block from (from + n)
take-held block from to n h = take-take n (to - from) (drop from block) h ∙ ap (λ m. take m (drop from block)) {y = from + n - from} (omega arith)

-- bytes that were read behind those held are held with them
pub held_more : (bytes before after : List ℕ) (to n : ℕ) → slice_range before 0 to ≡ bytes → take to after ≡ take to before
    → slice_range after 0 (to + n) ≡ bytes ++ take n (drop to after)
held_more bytes before after to n was kept =
    let front : take to after ≡ bytes = kept ∙ ap (λ m. take m before) {y = to - 0} (omega arith) ∙ was in
    ap (λ m. take m after) {y = to + n} (omega arith) ∙ take-add to n after ∙ ap (λ front. front ++ take n (drop to after)) front

-- the text left stays as it is when bytes move from the source to those held
pub left_same : (bytes more : List ℕ) (rest before : Option (List ℕ)) → before ≡ prepend_known more rest
    → prepend_known (bytes ++ more) rest ≡ prepend_known bytes before
left_same bytes more None before h = ap (prepend_known bytes) (sym h)
left_same bytes more (Some rest) before h = ap Some (append_assoc bytes more rest) ∙ ap (prepend_known bytes) (sym h)

-- a told text is what is held and what the source has still to give
pub told_parts : (bytes : List ℕ) (rest : Option (List ℕ)) (text : List ℕ) → prepend_known bytes rest ≡ Some text
    → (behind : List ℕ) × (rest ≡ Some behind) × (text ≡ bytes ++ behind)
told_parts bytes None text h = absurd (cc)
told_parts bytes (Some behind) text h = (behind, refl, cc)

-- so many of the held bytes were passed
pub left_passed : (bytes : List ℕ) (rest : Option (List ℕ)) (n : ℕ) (text : List ℕ) → n ≤ length bytes → prepend_known bytes rest ≡ Some text
    → prepend_known (drop n bytes) rest ≡ Some (drop n text)
left_passed bytes None n text within h = absurd (cc)
left_passed bytes (Some behind) n text within h =
    let whole : text ≡ bytes ++ behind = cc in
    ap Some (sym (drop-append-le n bytes behind within) ∙ ap (drop n) (sym whole))
