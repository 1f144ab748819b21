-- A text that stays as it is: its front, with a long line behind it, stays as it is too. So what follows a front is not settled by the front.
use Rattle.std.proofs.Common.{◌≡◌, ℕ, zero, suc, ◌+◌, ◌-◌, ◌<◌, ◌≤◌, inl, inr, Bool, true, false, not, if◌then◌else◌, ◌||◌, ◌&&◌, ◌==◌, nat_lt, List, [], ◌∷◌, ◌++◌, length, take, drop, Option, None, Some, refl, sym, ap, ◌∙◌, arith, append_assoc, append-nil, length-append, length-drop, codes, replicate, take_at, drop_at}
use Rattle.std.specs.List.{prefix_len}
use Rattle.std.specs.Str.{bytes_eq}
use Rattle.std.proofs.lemmas.Bool.Decides.{nat_tests}
use Rattle.std.proofs.lemmas.List.{append_cancel_left, drop-append-le, take-append-drop, take-append-le, length-replicate, drop-take}
use Rattle.std.proofs.lemmas.List.Folds.{prefix_len-append, prefix_len-replicate}
use Rattle.std.proofs.lemmas.List.Sums.{prefix_len-le-length}
use Rattle.std.proofs.lemmas.Slice.Eq.{bytes_eq-Decides}
use Rattle.ply_text.specs.declared.run.Run.TheVariants.{Line}
use Rattle.ply_text.specs.Pieces.{belongs}
use Rattle.ply_text.specs.NextPieces.{line_of, without_return}
use Rattle.text_words.specs.LineWords.{is_blank, word_size, cut_word, next_word, with_word, words_of}
use Rattle.ply_reader.specs.declared.fault.PlyKind.{PlyKind}
use Rattle.ply_reader.specs.Declarations.{Declared, nothing_declared}
use Rattle.ply_reader.specs.HeaderRules.{first_broken, rules_of, is_end, after}
use Rattle.ply_reader.proofs.FormatLines.{says_format, not_ended, format_kept}
use Rattle.ply_reader.specs.LineWords.{line_words}
use Rattle.ply_binary.specs.Bodies.{body_text}
use Rattle.ply_binary.specs.HeaderTexts.{ascii, ascii_line, ascii_with, behind_word, is_format, is_binary, shown_line, shown_then, behind_line, taken_line, header_left, Shown}
use Rattle.ply_binary.specs.LineStates.{is_line}
use Rattle.ply_binary.proofs.HeaderSteps.{held_step, not_shown}

-- ---- the format is said by no other line

same_format : (words : List (List ℕ)) → is_format words ≡ says_format words
same_format [] = refl
same_format (word ∷ rest) = refl

-- ---- a rewritten line is another one

cut_parts : (xs : List ℕ) (f t : List ℕ) → cut_word xs ≡ Some (f, t) → xs ≡ f ++ t
cut_parts [] f t is = absurd (cc is)
cut_parts (x ∷ xs) f t is =
    let n : ℕ = word_size (x ∷ xs) in
    let cut : List ℕ × List ℕ = (take n (x ∷ xs), drop n (x ∷ xs)) in
    let found : List ℕ × List ℕ = (f, t) in
    let same : cut ≡ found = cc is in
    let first : take n (x ∷ xs) ≡ f = ap (λ p. p.0) same in
    let second : drop n (x ∷ xs) ≡ t = ap (λ p. p.1) same in
    sym (take-append-drop n (x ∷ xs)) ∙ ap (λ l. l ++ drop n (x ∷ xs)) first ∙ ap (λ l. f ++ l) second

-- a word stands behind some bytes
word_parts : (text f t : List ℕ) → next_word text ≡ Some (f, t) → (front : List ℕ) × (text ≡ front ++ (f ++ t))
word_parts text f t is =
    let n : ℕ = prefix_len is_blank text in
    (take n text, sym (take-append-drop n text) ∙ ap (λ l. take n text ++ l) (cut_parts (drop n text) f t is))

-- the word of the format and what stands behind it
record Marked (line : List ℕ) : Type 0 where
  front : List ℕ
  tail : List ℕ
  parts : line ≡ front ++ (codes "binary_little_endian" ++ tail)
  tail_is : behind_word (next_word (behind_word (next_word line))) ≡ tail

marked_by : (line first t : List ℕ) → next_word line ≡ Some (first, t) → (found : Option (List ℕ × List ℕ)) → next_word t ≡ found → is_binary (first ∷ with_word found (words_of 4)) ≡ true → Marked line
marked_by line first t is None second binary = absurd (cc binary)
marked_by line first t is (Some (format, tail)) second binary =
    let a = word_parts line first t is in
    let b = word_parts t format tail second in
    let name : format ≡ codes "binary_little_endian" = named (words_of 4 tail) binary in
    record {
      front = (a.0 ++ first) ++ b.0;
      tail = tail;
      parts = joined a.0 b.0 t format tail a.1 b.1 name;
      tail_is = ap (λ r. behind_word (next_word (behind_word r))) is ∙ ap behind_word second;
    }
  where
    joined : (u v t format tail : List ℕ) → line ≡ u ++ (first ++ t) → t ≡ v ++ (format ++ tail) → format ≡ codes "binary_little_endian"
        → line ≡ ((u ++ first) ++ v) ++ (codes "binary_little_endian" ++ tail)
    joined u v t format tail one two name =
        one ∙ sym (append_assoc u first t) ∙ ap (λ l. (u ++ first) ++ l) two ∙ sym (append_assoc (u ++ first) v (format ++ tail)) ∙ ap (λ l. ((u ++ first) ++ v) ++ (l ++ tail)) name

    both : (x y : Bool) → (x && y) ≡ true → x ≡ true
    both true y is = refl
    both false y is = absurd (cc is)

    named : (words : List (List ℕ)) → is_binary (first ∷ format ∷ words) ≡ true → format ≡ codes "binary_little_endian"
    named [] is = absurd (cc is)
    named (version ∷ []) is = (bytes_eq-Decides format (codes "binary_little_endian")).0 (both (bytes_eq format (codes "binary_little_endian")) (bytes_eq version (codes "1.0")) is)
    named (_ ∷ _ ∷ _) is = absurd (cc is)

marked_first : (line : List ℕ) (found : Option (List ℕ × List ℕ)) → next_word line ≡ found → is_binary (with_word found (words_of 5)) ≡ true → Marked line
marked_first line None is binary = absurd (cc binary)
marked_first line (Some (first, t)) is binary = marked_by line first t is (next_word t) refl binary

marked : (line : List ℕ) → is_binary (line_words line) ≡ true → Marked line
unfolding line_words
marked line binary = marked_first line (next_word line) refl binary

-- behind the same front, `ascii` stands in the place of the binary format's word
differs_at : (line front tail u v : List ℕ) → line ≡ front ++ (codes "binary_little_endian" ++ tail) → ascii_line line ≡ ascii_with line tail → ascii_line line ++ u ≡ line ++ v → ⊥
differs_at line front tail u v parts is same =
    let mark : List ℕ = codes "binary_little_endian" ++ tail in
    let behind : List ℕ = codes "ascii" ++ (tail ++ replicate 15 32) in
    let size : length line ≡ length front + (20 + length tail) = ap length parts ∙ length-append front mark ∙ ap (λ n. length front + n) (length-append (codes "binary_little_endian") tail) in
    let cut : length line - (length tail + 20) ≡ length front = omega (arith, size) in
    let start : take (length line - (length tail + 20)) line ≡ front = ap (λ n. take n line) cut ∙ ap (take (length front)) parts ∙ take_at front mark (length front) refl in
    let cut_line : List ℕ = take (length line - (length tail + 20)) line in
    let left : ascii_line line ≡ front ++ behind = is ∙ append_assoc (cut_line ++ codes "ascii") tail (replicate 15 32) ∙ append_assoc cut_line (codes "ascii") (tail ++ replicate 15 32) ∙ ap (λ (l : List ℕ). l ++ behind) {x = cut_line} {y = front} start in
    let one : front ++ (behind ++ u) ≡ front ++ (mark ++ v) = sym (append_assoc front behind u) ∙ ap (λ l. l ++ u) (sym left) ∙ same ∙ ap (λ l. l ++ v) parts ∙ append_assoc front mark v in
    let other : behind ++ u ≡ mark ++ v = append_cancel_left front (behind ++ u) (mark ++ v) one in
    let first : take 1 (behind ++ u) ≡ take 1 (mark ++ v) = ap (take 1) other in
    let a : ℕ = 97 in
    let b : ℕ = 98 in
    let bad : a ∷ [] ≡ b ∷ [] = first in
    absurd (let no : a ≡ b = cc bad in omega (arith, no))

rewritten_differs : (line u v : List ℕ) → is_binary (line_words line) ≡ true → ascii_line line ++ u ≡ line ++ v → ⊥
unfolding ascii_line
rewritten_differs line u v binary same =
    let m = marked line binary in
    differs_at line m.front m.tail u v m.parts (ap (ascii_with line) m.tail_is) same

-- ---- a long line behind a front

all_line : (front tail : List ℕ) → prefix_len (belongs Line) front ≡ length front → prefix_len (belongs Line) tail ≡ length tail → prefix_len (belongs Line) (front ++ tail) ≡ length (front ++ tail)
all_line front tail first second = grind (arith, nat_tests, prefix_len-append (belongs Line) front tail, first, second, length-append front tail)

long_line : (size place : ℕ) → 1024 < size → is_line size size place ≡ false
long_line size place long = grind (arith, nat_tests)

front_return_by : (x : ℕ) (xs : List ℕ) (k : ℕ) (last : Bool) → ((x == 13) && (length xs == 0)) ≡ last → without_return xs ≡ take k xs → (n : ℕ) × (without_return (x ∷ xs) ≡ take n (x ∷ xs))
front_return_by x xs k true is rest = (0, ap (λ b. if b then [] else x ∷ without_return xs) is)
front_return_by x xs k false is rest = (suc k, ap (λ b. if b then [] else x ∷ without_return xs) is ∙ ap (λ l. x ∷ l) rest)

front_return : (xs : List ℕ) → (k : ℕ) × (without_return xs ≡ take k xs)
front_return [] = (0, refl)
front_return (x ∷ xs) = front_return_by x xs (front_return xs).0 ((x == 13) && (length xs == 0)) refl (front_return xs).1

-- a line is a front of the text
line_front : (front : List ℕ) (size : ℕ) → size < length front → (rest : List ℕ) × (front ≡ line_of front size ++ rest)
line_front front size seen =
    let r = front_return (take size front) in
    let inside : nat_lt size (length front) ≡ true = grind (arith, nat_tests, seen) in
    let line : line_of front size ≡ take r.0 (take size front) = ap (λ b. if b then without_return (take size front) else take size front) inside ∙ r.1 in
    let behind : List ℕ = drop r.0 (take size front) in
    (behind ++ drop size front, parts size r.0 ∙ ap (λ l. l ++ (behind ++ drop size front)) (sym line))
  where
    parts : (n k : ℕ) → front ≡ take k (take n front) ++ (drop k (take n front) ++ drop n front)
    parts n k =
        sym (take-append-drop n front) ∙ ap (λ l. l ++ drop n front) (sym (take-append-drop k (take n front))) ∙ append_assoc (take k (take n front)) (drop k (take n front)) (drop n front)

-- a header of which no line is rewritten stays as it is behind this front, whatever stood behind the front where it stayed so
abbrev Stays : ℕ → List ℕ → List ℕ → Type 0
Stays n other t = (d : Declared) (place : ℕ) (front : List ℕ) → length front < n → d.format ≡ false → header_left false d place (front ++ other) ≡ front ++ other → header_left false d place (front ++ t) ≡ front ++ t

stays_step : (n : ℕ) (other t : List ℕ) → Stays n other t → (d : Declared) (place : ℕ) (front : List ℕ) → length front < suc n → d.format ≡ false → prefix_len (belongs Line) front < length front
    → is_line (length front) (prefix_len (belongs Line) front) place ≡ true → header_left false d place (front ++ other) ≡ front ++ other → header_left false d place (front ++ t) ≡ front ++ t
stays_step n other t before d place front few unsaid seen taken same = by_format (is_format words) (is_binary words) refl refl
  where
    size : ℕ
    size = prefix_len (belongs Line) front

    w : ℕ
    w = size + 1

    line : List ℕ
    line = line_of front size

    words : List (List ℕ)
    words = line_words line

    whole : List ℕ
    whole = take w front

    next : Bool → Declared → List ℕ → List ℕ
    next = λ found d behind. header_left found d (place + w) behind

    step : (x : List ℕ) → header_left false d place (front ++ x) ≡ shown_then next d (front ++ x) w (shown_line false line whole)
    step x = held_step false d place size front x refl seen taken

    joined : (x : List ℕ) → whole ++ (drop w front ++ x) ≡ front ++ x
    joined x = sym (append_assoc whole (drop w front) x) ∙ ap (λ l. l ++ x) (take-append-drop w front)

    shown_is : (f b : Bool) → is_format words ≡ f → is_binary words ≡ b
        → shown_line false line whole ≡ (if false || not f then Some (record { text = whole; line = line; found = false }) else
        if b then Some (record { text = ascii_line line ++ drop (length line) whole; line = ascii_line line; found = true }) else None)
    shown_is f b f-is b-is =
        ap (λ f. if false || not f then Some (record { text = whole; line = line; found = false }) else
        if is_binary words then Some (record { text = ascii_line line ++ drop (length line) whole; line = ascii_line line; found = true }) else None) f-is
        ∙ ap (λ b. if false || not f then Some (record { text = whole; line = line; found = false }) else
        if b then Some (record { text = ascii_line line ++ drop (length line) whole; line = ascii_line line; found = true }) else None) b-is

    plain : (x : List ℕ) → shown_line false line whole ≡ Some (record { text = whole; line = line; found = false })
        → header_left false d place (front ++ x) ≡ whole ++ behind_line (next false) d words (first_broken (rules_of d words)) (drop w front ++ x)
    plain x is = step x ∙ ap (shown_then next d (front ++ x) w) is ∙ ap (λ l. whole ++ behind_line (next false) d words (first_broken (rules_of d words)) l) (drop-append-le w front x (omega (arith, seen)))

    goes_on : (x : List ℕ) → shown_line false line whole ≡ Some (record { text = whole; line = line; found = false }) → first_broken (rules_of d words) ≡ None → is_end d words ≡ false
        → header_left false d place (front ++ x) ≡ whole ++ header_left false (after d words) (place + w) (drop w front ++ x)
    goes_on x is none on =
        plain x is ∙ ap (λ b. whole ++ behind_line (next false) d words b (drop w front ++ x)) none
        ∙ ap (λ e. whole ++ (if e then body_text (after d words) (drop w front ++ x) else header_left false (after d words) (place + w) (drop w front ++ x))) on

    by_broken : (broken : Option PlyKind) (end : Bool) → first_broken (rules_of d words) ≡ broken → is_end d words ≡ end → is_format words ≡ false
        → shown_line false line whole ≡ Some (record { text = whole; line = line; found = false }) → header_left false d place (front ++ t) ≡ front ++ t
    by_broken (Some kind) end broken end-is f-is is = plain t is ∙ ap (λ b. whole ++ behind_line (next false) d words b (drop w front ++ t)) broken ∙ joined t
    by_broken None true broken end-is f-is is = absurd (not_ended d words unsaid end-is broken)
    by_broken None false broken end-is f-is is =
        let first : header_left false (after d words) (place + w) (drop w front ++ other) ≡ drop w front ++ other =
        append_cancel_left whole _ _ (sym (goes_on other is broken end-is) ∙ same ∙ sym (joined other)) in
        goes_on t is broken end-is
        ∙ ap (λ l. whole ++ l) (before (after d words) (place + w) (drop w front) (omega (arith, few, seen, length-drop w front)) (format_kept d words unsaid (sym (same_format words) ∙ f-is)) first) ∙ joined t

    by_format : (f b : Bool) → is_format words ≡ f → is_binary words ≡ b → header_left false d place (front ++ t) ≡ front ++ t
    by_format false b f-is b-is = by_broken (first_broken (rules_of d words)) (is_end d words) refl refl f-is (shown_is false b f-is b-is)
    by_format true false f-is b-is = step t ∙ ap (shown_then next d (front ++ t) w) (shown_is true false f-is b-is)
    by_format true true f-is b-is =
        let shown : Shown = record { text = ascii_line line ++ drop (length line) whole; line = ascii_line line; found = true } in
        let behind : List ℕ = taken_line (next true) d shown.line (drop w (front ++ other)) in
        let rest = line_front front size seen in
        let rewritten : (ascii_line line ++ drop (length line) whole) ++ behind ≡ front ++ other = sym (step other ∙ ap (shown_then next d (front ++ other) w) (shown_is true true f-is b-is)) ∙ same in
        absurd (rewritten_differs line (drop (length line) whole ++ behind) (rest.0 ++ other) b-is
        (sym (append_assoc (ascii_line line) (drop (length line) whole) behind) ∙ rewritten ∙ ap (λ l. l ++ other) rest.1 ∙ append_assoc line rest.0 other))

stays : (n : ℕ) (other t : List ℕ) → prefix_len (belongs Line) t ≡ length t → 1024 < length t → Stays n other t
stays zero other t all long d place front few unsaid same = absurd (omega (arith, few))
stays (suc n) other t all long d place front few unsaid same = by_size (stays n other t all long) (nat_lt size (length front)) refl
  where
    size : ℕ
    size = prefix_len (belongs Line) front

    by_taken : Stays n other t → (taken : Bool) → is_line (length front) size place ≡ taken → size < length front → header_left false d place (front ++ t) ≡ front ++ t
    by_taken before false refused seen = not_shown false d place size front t refl (inl seen) refused
    by_taken before true taken seen = stays_step n other t before d place front few unsaid seen taken same

    by_size : Stays n other t → (seen : Bool) → nat_lt size (length front) ≡ seen → header_left false d place (front ++ t) ≡ front ++ t
    by_size before true is = by_taken before (is_line (length front) size place) refl (grind (arith, nat_tests, is))
    by_size before false is =
        let whole : size ≡ length front = grind (arith, nat_tests, is, prefix_len-le-length (belongs Line) front) in
        let bytes : List ℕ = front ++ t in
        ap (header_left false d place) (sym (append-nil bytes))
        ∙ not_shown false d place (prefix_len (belongs Line) bytes) bytes [] refl (inr (inr refl))
        (ap (λ k. is_line (length bytes) k place) (all_line front t whole all) ∙ long_line (length bytes) place (omega (arith, long, length-append front t)))
        ∙ append-nil bytes

-- ---- what is read of a text that stays as it is

-- a byte other than this one, and no LF
abbrev other_byte : ℕ → ℕ
other_byte zero = 1
other_byte (suc b) = 0

differs : (b : ℕ) → other_byte b ≡ b → ⊥
differs zero is = absurd (omega (arith, is))
differs (suc b) is = absurd (omega (arith, is))

no_feed : (b : ℕ) → belongs Line (other_byte b) ≡ true
unfolding belongs
no_feed zero = refl
no_feed (suc b) = refl

front_of : (xs ys : List ℕ) (n : ℕ) → n ≤ length xs → take n (xs ++ ys) ≡ take n xs
front_of xs ys n few = take-append-le n xs ys few

take_behind : (xs ys : List ℕ) → drop (length xs) (take (length xs + 1) (xs ++ ys)) ≡ take 1 ys
take_behind xs ys = drop-take (length xs) 1 (xs ++ ys) ∙ ap (take 1) (drop_at xs ys (length xs) refl)

-- where what is given is settled by a front of the bytes, it is no longer than the front
pub no_further : (bytes front given left : List ℕ) (b : ℕ) (bs : List ℕ) → ascii bytes ≡ bytes → bytes ≡ front ++ b ∷ bs → bytes ≡ given ++ left
    → ((more : List ℕ) → (behind : List ℕ) × (ascii (front ++ more) ≡ given ++ behind)) → length given ≤ length front
unfolding ascii
no_further bytes front given left b bs plain parts whole settled = by_size (nat_lt (length front) (length given)) refl
  where
    c : ℕ
    c = other_byte b

    n : ℕ
    n = length front

    t : List ℕ
    t = replicate 1025 c

    by_size : (far : Bool) → nat_lt (length front) (length given) ≡ far → length given ≤ length front
    by_size false is = grind (arith, nat_tests, is)
    by_size true is = absurd (differs b same)
      where
        far : n < length given
        far = grind (arith, nat_tests, is)

        stayed : ascii (front ++ t) ≡ front ++ t
        stayed = stays (suc n) (b ∷ bs) t (prefix_len-replicate (belongs Line) 1025 c (no_feed b) ∙ sym (length-replicate 1025 c)) (omega (arith, length-replicate 1025 c)) nothing_declared 0 front (omega arith) refl
            (ap ascii (sym parts) ∙ plain ∙ parts)

        next : (x y : List ℕ) → given ++ x ≡ front ++ y → drop n (take (n + 1) given) ≡ take 1 y
        next x y e =
            let one : take (n + 1) given ≡ take (n + 1) (front ++ y) = sym (front_of given x (n + 1) (omega (arith, far))) ∙ ap (take (n + 1)) e in
            ap (drop n) one ∙ take_behind front y

        same : other_byte b ≡ b
        same =
            let s = settled t in
            let first : c ∷ [] ≡ b ∷ [] = sym (next s.0 t (sym s.1 ∙ stayed)) ∙ next left (b ∷ bs) (sym whole ∙ parts) in
            cc first
