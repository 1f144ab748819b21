-- Fronts of bytes that were written one after another.
use Rattle.std.proofs.Common.{◌≡◌, ℕ, ◌+◌, List, [], ◌++◌, length, take, drop, Some, None, refl, sym, ap, subst, ◌∙◌, append_assoc, append-nil}
use Rattle.std.specs.Prelude.{Option}
use Rattle.std.specs.Io.KnownBytes.{append_known}
use Rattle.std.proofs.Math.Seq.{take-append-add, take-append_seam, take-length}
use Rattle.std.proofs.lemmas.List.{append_cancel_left, take-append-drop}
use Rattle.node_file.specs.Waiting.{GrewByFront}

-- nothing was written
pub front_of_none : (a : Option (List ℕ)) (w : List ℕ) → GrewByFront a a w
front_of_none None w = (0, refl)
front_of_none (Some x) w = (0, ap Some (sym (append-nil x)))

-- all of them
pub front_of_all : (a b : Option (List ℕ)) (used : ℕ) (block : List ℕ) → b ≡ append_known a (take used block) → GrewByFront a b (take used block)
front_of_all a b used block same = (length (take used block), same ∙ ap (append_known a) (sym (take-length (take used block))))

-- a front, and then a front of the rest and of more
pub front_of_more : (a b c : Option (List ℕ)) (w p t : List ℕ) → GrewByFront a b w → append_known b p ≡ append_known (append_known a w) t → GrewByFront b c p → GrewByFront a c (w ++ t)
front_of_more None b c w p t first whole last = (0, last.1 ∙ ap (λ o. append_known o (take last.0 p)) first.1)
front_of_more (Some x) b c w p t first whole last =
    let k : ℕ = first.0 in
    let j : ℕ = last.0 in
    let joined : Some ((x ++ take k w) ++ p) ≡ Some ((x ++ w) ++ t) = ap (λ o. append_known o p) (sym first.1) ∙ whole in
    let lists : (x ++ take k w) ++ p ≡ (x ++ w) ++ t = cc in
    let rest : take k w ++ p ≡ w ++ t = append_cancel_left x (take k w ++ p) (w ++ t) (sym (append_assoc x (take k w) p) ∙ (lists ∙ append_assoc x w t)) in
    let front : take (length (take k w) + j) (w ++ t) ≡ take k w ++ take j p =
    ap (take (length (take k w) + j)) (sym rest) ∙ take-append-add (take k w) p j in (
      length (take k w) + j,
      last.1 ∙ (ap (λ o. append_known o (take j p)) first.1 ∙ ap Some (append_assoc x (take k w) (take j p) ∙ ap (λ l. x ++ l) (sym front))),
    )

-- a front of some bytes is one of these and more
pub front_of_longer : (a b : Option (List ℕ)) (w t : List ℕ) → GrewByFront a b w → GrewByFront a b (w ++ t)
front_of_longer a b w t grew =
    let k : ℕ = grew.0 in
    let parts : w ++ t ≡ take k w ++ (drop k w ++ t) = ap (λ l. l ++ t) (sym (take-append-drop k w)) ∙ append_assoc (take k w) (drop k w) t in
    let front : take (length (take k w)) (w ++ t) ≡ take k w = ap (take (length (take k w))) parts ∙ take-append_seam (take k w) (drop k w ++ t) in
    (length (take k w), grew.1 ∙ ap (append_known a) (sym front))

append_none : (told : Option (List ℕ)) → append_known told [] ≡ told
append_none None = refl
append_none (Some x) = ap Some (append-nil x)

pub append_twice : (told : Option (List ℕ)) (xs ys : List ℕ) → append_known (append_known told xs) ys ≡ append_known told (xs ++ ys)
append_twice None xs ys = refl
append_twice (Some x) xs ys = ap Some (append_assoc x xs ys)

-- a front of all that is to come, and then one of what was still to come
pub front_onward : (a b c : Option (List ℕ)) (w p : List ℕ) → GrewByFront a b w → append_known b p ≡ append_known a w → GrewByFront b c p → GrewByFront a c w
front_onward a b c w p first whole last =
    subst (λ l. GrewByFront a c l) (append-nil w) (front_of_more a b c w p [] first (whole ∙ sym (append_none (append_known a w))) last)

-- and then one of what waited, where more was to come behind it
pub front_within : (a b c : Option (List ℕ)) (whole given rest p : List ℕ) → given ++ rest ≡ whole → GrewByFront a b whole → append_known b p ≡ append_known a given → GrewByFront b c p → GrewByFront a c whole
front_within a b c whole given rest p parts first same last =
    front_onward a b c whole (p ++ rest) first
    (sym (append_twice b p rest) ∙ (ap (λ o. append_known o rest) same ∙ (append_twice a given rest ∙ ap (append_known a) parts)))
    (front_of_longer b c p rest last)
