-- The words given so far are a front of those of the file, whatever cells still come.
use Rattle.std.proofs.Common.{◌≡◌, ◌≢◌, ℕ, zero, suc, ◌+◌, ◌-◌, ◌*◌, ◌/◌, ◌^◌, ◌<◌, ◌≤◌, ◌==◌, cond, List, [], ◌∷◌, ◌++◌, length, refl, sym, ap, ◌∙◌, subst, inl, inr, arith, append-nil, append_assoc}
use Rattle.std.proofs.Math.Nat.{div-eq_of_lt}
use Rattle.std.proofs.lemmas.Bool.{cases_eq, eq-eqb, ne_eqb}
use Rattle.octree_specs.specs.Octree.{Leaf, words_of}
use Rattle.room_plan.specs.declared.queues.QueueEntry.{QueueEntry}
use Rattle.level_queues.specs.GivenWords.{words_in}
use Rattle.level_queues.specs.Queued.{AreQueued, bits_of}
use Rattle.level_queues.proofs.Closing.{close_queue, root_words}
use Rattle.level_queues.proofs.Leaving.{none_beyond, none_after}
use Rattle.level_queues.proofs.Pushing.{push_leaf}

-- the first list begins the second
pub record IsFrontOf (front whole : List ℕ) : Type 0 where
  pub rest : List ℕ
  pub whole_is : front ++ rest ≡ whole

pub front_same : (words : List ℕ) → IsFrontOf words words
front_same words = record { rest = []; whole_is = append-nil words }

pub front_shorter : (front more whole : List ℕ) → IsFrontOf (front ++ more) whole → IsFrontOf front whole
front_shorter front more whole is = record { rest = more ++ is.rest; whole_is = sym (append_assoc front more is.rest) ∙ is.whole_is }

pub front_further : (front middle whole : List ℕ) → IsFrontOf front middle → IsFrontOf middle whole → IsFrontOf front whole
front_further front middle whole first next =
    front_shorter front first.rest whole (subst (λ l. IsFrontOf l whole) (sym first.whole_is) next)

-- queues of which one is emptied and the next has one entry more
closed_of : (ℕ → List QueueEntry) → ℕ → QueueEntry → ℕ → List QueueEntry
closed_of queues height entry k = cond (k == height) [] (cond (k == suc height) (queues (suc height) ++ entry ∷ []) (queues k))

-- and of which the lowest has one more
pushed_of : (ℕ → List QueueEntry) → QueueEntry → ℕ → List QueueEntry
pushed_of queues entry k = cond (k == 0) (queues 0 ++ entry ∷ []) (queues k)

-- what waits and what was given at some later time
pub record HasRisen (leaves : List Leaf) (above height last : ℕ) (front : List ℕ) : Type 0 where
  pub queues : ℕ → List QueueEntry
  pub words : List ℕ
  pub are : AreQueued leaves above height last queues words
  pub front_is : IsFrontOf front words

module _ (leaves : List Leaf) (last : ℕ) where
  pub closed_at : (above height : ℕ) (queues : ℕ → List QueueEntry) (words : List ℕ) → AreQueued leaves (suc above) height last queues words → HasRisen leaves above (suc height) last (words ++ words_in (queues height))
  unfolding closed_of
  closed_at above height queues words are =
      let entry : QueueEntry = record { word = bits_of (queues height) + 256 * length words; state = last / 8 ^ suc height } in
      record {
        queues = closed_of queues height entry;
        words = words ++ words_in (queues height);
        are =
            close_queue leaves above height last queues (closed_of queues height entry) words entry are refl refl (record {
              emptied = rw (eq-eqb height height refl) refl;
              put = rw (ne_eqb (suc height) height (λ e. omega (arith, e)), eq-eqb (suc height) (suc height) refl) refl;
              kept = λ k other another. rw (ne_eqb k height other, ne_eqb k (suc height) another) refl;
            });
        front_is = front_same (words ++ words_in (queues height));
      }

  -- so many levels are closed
  pub risen_by : (n over above height top : ℕ) (queues : ℕ → List QueueEntry) (words : List ℕ) → over ≡ n + above → top ≡ n + height → AreQueued leaves over height last queues words → HasRisen leaves above top last words
  risen_by zero over above height top queues words less more are =
      let a : over ≡ above = omega (arith, less) in
      let b : height ≡ top = omega (arith, more) in
      record {
        queues = queues;
        words = words;
        are = subst (λ h. AreQueued leaves above h last queues words) b (subst (λ n. AreQueued leaves n height last queues words) a are);
        front_is = front_same words;
      }
  risen_by (suc n) over above height top queues words less more are =
      let a : over ≡ suc (n + above) = omega (arith, less) in
      let b : top ≡ n + suc height = omega (arith, more) in
      let on : HasRisen leaves (n + above) (suc height) last (words ++ words_in (queues height)) = closed_at (n + above) height queues words (subst (λ m. AreQueued leaves m height last queues words) a are) in
      let next : HasRisen leaves above top last on.words = risen_by n (n + above) above (suc height) top on.queues on.words refl b on.are in
      record {
        queues = next.queues;
        words = next.words;
        are = next.are;
        front_is = front_shorter words (words_in (queues height)) next.words (front_further (words ++ words_in (queues height)) on.words next.words on.front_is next.front_is);
      }

  -- all levels are closed, and the root is given
  pub front_of_root : (above height top : ℕ) (queues : ℕ → List QueueEntry) (words : List ℕ) → top ≡ suc (above + height) → last / 8 ^ top ≡ 0 → AreQueued leaves above height last queues words
      → IsFrontOf (words ++ words_in (queues height)) (words_of leaves top)
  front_of_root zero height top queues words high over are =
      let e : suc height ≡ top = omega (arith, high) in
      record {
        rest = (bits_of (queues height) + 256 * length words) ∷ [];
        whole_is = root_words leaves height last queues words are (ap (λ h. last / 8 ^ h) e ∙ over) ∙ ap (words_of leaves) e;
      }
  front_of_root (suc above) height top queues words high over are =
      let on : HasRisen leaves above (suc height) last (words ++ words_in (queues height)) = closed_at above height queues words are in
      let e : top ≡ suc (above + suc height) = omega (arith, high) in
      let whole : IsFrontOf (on.words ++ words_in (on.queues (suc height))) (words_of leaves top) = front_of_root above (suc height) top on.queues on.words e over on.are in
      front_further (words ++ words_in (queues height)) on.words (words_of leaves top) on.front_is (front_shorter on.words (words_in (on.queues (suc height))) (words_of leaves top) whole)

-- ---- later leaves

-- the least height from which on a code lies under the same nodes as the last
pub record LeavesAt (last code height : ℕ) : Type 0 where
  pub same : code / 8 ^ suc height ≡ last / 8 ^ suc height
  pub apart : 0 < height → code / 8 ^ height ≢ last / 8 ^ height

leaves_at : (last code n : ℕ) → code / 8 ^ suc n ≡ last / 8 ^ suc n → (height : ℕ) × (height ≤ n) × LeavesAt last code height
leaves_at last code zero same = (0, (let e : 0 ≤ 0 = omega arith in e), record { same = same; apart = λ some. absurd (omega (arith, some)) })
leaves_at last code (suc n) same = elim (cases_eq (code / 8 ^ suc n) (last / 8 ^ suc n)) [
  | inl lower ↦
      let at : (height : ℕ) × (height ≤ n) × LeavesAt last code height = leaves_at last code n lower in
      ((at).0, (let low : (at).0 ≤ suc n = omega (arith, (at).1) in low), (at).2)
  | inr other ↦ (suc n, (let e : suc n ≤ suc n = omega arith in e), record { same = same; apart = λ some. other })
]

module _ (leaves : List Leaf) (leaf : Leaf) (last : ℕ) (behind : 0 < length leaves → last < leaf.node) where
  -- the leaf is put once all below the height is closed at which it leaves the last one
  pushed_at : (above height : ℕ) (queues : ℕ → List QueueEntry) (words : List ℕ) → (leaf.node / 8 ^ suc height ≡ last / 8 ^ suc height) → (0 < length leaves → 0 < height → leaf.node / 8 ^ height ≢ last / 8 ^ height)
      → AreQueued leaves above height last queues words → HasRisen (leaves ++ leaf ∷ []) (above + height) 0 leaf.node words
  unfolding pushed_of
  pushed_at above height queues words same apart are =
      let entry : QueueEntry = record { word = leaf.word; state = leaf.node } in
      record {
        queues = pushed_of queues entry;
        words = words;
        are =
            push_leaf leaves leaf above height last queues (pushed_of queues entry) words are same
            (none_beyond leaves (length leaves) last leaf.node refl behind are.none height apart) (none_after leaves (length leaves) last leaf.node refl behind are.none)
            refl (λ k other. rw (ne_eqb k 0 other) refl);
        front_is = front_same words;
      }

-- leaves in ascending order behind the last, all below a limit
unfoldable pub Follow : ℕ → ℕ → List Leaf → Type 0
Follow last limit [] = Unit {0}
Follow last limit (leaf ∷ rest) = (last < leaf.node) × (leaf.node < limit) × Follow leaf.node limit rest

pub front_of_all : (later leaves : List Leaf) (above last : ℕ) (queues : ℕ → List QueueEntry) (words : List ℕ) → last < 8 ^ suc above → Follow last (8 ^ suc above) later
    → AreQueued leaves above 0 last queues words → IsFrontOf words (words_of (leaves ++ later) (suc above))
unfolding Follow
front_of_all [] leaves above last queues words inside follow are =
    let e : suc above ≡ suc (above + 0) = omega arith in
    subst (λ l. IsFrontOf words (words_of l (suc above))) (sym (append-nil leaves))
    (front_shorter words (words_in (queues 0)) (words_of leaves (suc above)) (front_of_root leaves last above 0 (suc above) queues words e (div-eq_of_lt inside) are))
front_of_all (leaf ∷ rest) leaves above last queues words inside follow are =
    let root : leaf.node / 8 ^ suc above ≡ last / 8 ^ suc above = div-eq_of_lt follow.1 ∙ sym (div-eq_of_lt inside) in
    let found : (height : ℕ) × (height ≤ above) × LeavesAt last leaf.node height = leaves_at last leaf.node above root in
    let height : ℕ = found.0 in
    let e : above ≡ height + (above - height) = omega (arith, found.1) in
    let f : height ≡ height + 0 = omega arith in
    let b : (above - height) + height ≡ above = omega (arith, found.1) in
    let on : HasRisen leaves (above - height) height last words = risen_by leaves last height above (above - height) 0 height queues words e f are in
    let put : HasRisen (leaves ++ leaf ∷ []) ((above - height) + height) 0 leaf.node on.words = pushed_at leaves leaf last (λ some. follow.0) (above - height) height on.queues on.words found.2.same (λ some. found.2.apart) on.are in
    let next : IsFrontOf put.words (words_of ((leaves ++ leaf ∷ []) ++ rest) (suc above)) =
    front_of_all rest (leaves ++ leaf ∷ []) above leaf.node put.queues put.words follow.1 follow.2 (subst (λ n. AreQueued (leaves ++ leaf ∷ []) n 0 leaf.node put.queues put.words) b put.are) in
    subst (λ l. IsFrontOf words (words_of l (suc above))) (append_assoc leaves (leaf ∷ []) rest)
    (front_further words on.words (words_of ((leaves ++ leaf ∷ []) ++ rest) (suc above)) on.front_is
    (front_further on.words put.words (words_of ((leaves ++ leaf ∷ []) ++ rest) (suc above)) put.front_is next))

-- a leaf that is put, and those that follow it
pub front_of_pushed : (leaves : List Leaf) (leaf : Leaf) (rest : List Leaf) (above height last : ℕ) (queues : ℕ → List QueueEntry) (words : List ℕ) → AreQueued leaves above height last queues words
    → leaf.node / 8 ^ suc height ≡ last / 8 ^ suc height → (0 < length leaves → last < leaf.node) → (0 < length leaves → 0 < height → leaf.node / 8 ^ height ≢ last / 8 ^ height)
    → leaf.node < 8 ^ suc (above + height) → Follow leaf.node (8 ^ suc (above + height)) rest → IsFrontOf words (words_of (leaves ++ leaf ∷ rest) (suc (above + height)))
front_of_pushed leaves leaf rest above height last queues words are same behind apart inside follow =
    let put : HasRisen (leaves ++ leaf ∷ []) (above + height) 0 leaf.node words = pushed_at leaves leaf last behind above height queues words same apart are in
    let next : IsFrontOf put.words (words_of ((leaves ++ leaf ∷ []) ++ rest) (suc (above + height))) =
    front_of_all rest (leaves ++ leaf ∷ []) (above + height) leaf.node put.queues put.words inside follow put.are in
    subst (λ l. IsFrontOf words (words_of l (suc (above + height)))) (append_assoc leaves (leaf ∷ []) rest)
    (front_further words put.words (words_of ((leaves ++ leaf ∷ []) ++ rest) (suc (above + height))) put.front_is next)
