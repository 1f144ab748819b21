-- Where a leaf comes behind those before, nothing stands at its ancestors or beyond, up to the height at which it leaves the last one's.
use Rattle.std.proofs.Common.{◌≡◌, ◌≢◌, ℕ, zero, suc, ◌+◌, ◌-◌, ◌/◌, ◌^◌, ◌<◌, ◌≤◌, false, List, [], ◌∷◌, length, refl, sym, ap, ◌∙◌, inl, inr, ◌⊎◌, arith}
use Rattle.std.proofs.lemmas.Bool.{cases_lt}
use Rattle.octree_specs.specs.Octree.{Leaf, is_nonempty}
use Rattle.octree_laws.proofs.Under.{div-up, div-leaf}
use Rattle.level_queues.proofs.Pushing.{ancestors_rise}

same_above : (m n height more : ℕ) → m / 8 ^ height ≡ n / 8 ^ height → m / 8 ^ (height + more) ≡ n / 8 ^ (height + more)
same_above m n height zero same =
    let e : height + zero ≡ height = omega arith in
    ap (λ h. m / 8 ^ h) e ∙ (same ∙ ap (λ h. n / 8 ^ h) (sym e))
same_above m n height (suc more) same =
    let e : height + suc more ≡ suc (height + more) = omega arith in
    ap (λ h. m / 8 ^ h) e
    ∙ (div-up m (height + more) ∙ (ap (λ k. k / 8) (same_above m n height more same) ∙ (sym (div-up n (height + more)) ∙ ap (λ h. n / 8 ^ h) (sym e))))

parts_below : (last code target height : ℕ) → last < code → (0 < target → code / 8 ^ target ≢ last / 8 ^ target) → height ≤ target → last / 8 ^ height < code / 8 ^ height
parts_below last code target height later apart low = elim (cases_lt (last / 8 ^ height) (code / 8 ^ height)) [
  | inl less ↦ less
  | inr not_less ↦ absurd (never (omega (arith, not_less, ancestors_rise last code height (omega (arith, later)))) (cases_lt 0 target))
]
  where
    never : code / 8 ^ height ≡ last / 8 ^ height → (0 < target) ⊎ (target ≤ 0) → ⊥
    never same (inl some) =
        let e : height + (target - height) ≡ target = omega (arith, low) in
        apart some (ap (λ h. code / 8 ^ h) (sym e) ∙ (same_above code last height (target - height) same ∙ ap (λ h. last / 8 ^ h) e))
    never same (inr none) =
        let e : height ≡ 0 = omega (arith, low, none) in
        omega (arith, later, same, ap (λ h. code / 8 ^ h) e, ap (λ h. last / 8 ^ h) e, div-leaf code, div-leaf last)

no_leaf : (leaves : List Leaf) (h k : ℕ) → length leaves ≤ 0 → is_nonempty leaves h k ≡ false
no_leaf [] h k none = refl
no_leaf (x ∷ rest) h k none = absurd (omega (arith, none))

module _ (leaves : List Leaf) (count last code : ℕ) (counted : count ≡ length leaves) (later : 0 < count → last < code) (none : (h k : ℕ) → last / 8 ^ h < k → is_nonempty leaves h k ≡ false) where
  pub none_beyond : (target : ℕ) → (0 < count → 0 < target → code / 8 ^ target ≢ last / 8 ^ target) → (h k : ℕ) → h ≤ target → code / 8 ^ h ≤ k → is_nonempty leaves h k ≡ false
  none_beyond target apart h k low far = elim (cases_lt 0 count) [
    | inl some ↦ none h k (omega (arith, far, parts_below last code target h (later some) (apart some) low))
    | inr nothing ↦ no_leaf leaves h k (omega (arith, nothing, counted))
  ]

  pub none_after : (h k : ℕ) → code / 8 ^ h < k → is_nonempty leaves h k ≡ false
  none_after h k far = elim (cases_lt 0 count) [
    | inl some ↦ none h k (omega (arith, far, ancestors_rise last code h (omega (arith, later some))))
    | inr nothing ↦ no_leaf leaves h k (omega (arith, nothing, counted))
  ]
