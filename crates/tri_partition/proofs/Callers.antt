-- What a caller keeps who adds triangles one after another and then flushes: what has been spilled since the partition was made.
use Rattle.std.proofs.Common.{◌≡◌, ℕ, List, [], ◌∷◌, ◌++◌, Some, None, sym, ap, subst, ◌∙◌, append-nil}
use Rattle.std.specs.Prelude.{Option, IfSome}
use Rattle.std.specs.List.{flat_map}
use Rattle.std.proofs.lemmas.Grind.{flat_map-append}
use Rattle.std.proofs.lemmas.List.Concat.{flat_map-cons}
use Rattle.svo_base.specs.GridShape.{GridShape}
use Rattle.octree_specs.specs.FacedTriangles.{Faced}
use Rattle.room_plan.specs.declared.elements.Parcel.{Parcel}
use Rattle.tri_partition.specs.Partitioning.{Spills, parcels_of}
use Rattle.tri_partition.specs.Laws.{IsPartitioned}
use Rattle.tri_partition.proofs.SpilledParts.{parts_spilled}
use Rattle.tri_partition.proofs.SpilledRuns.{none_spilled, spills_more}

module _ (parcels : Faced → List Parcel) where
  -- a triangle more
  pub one_more : (first between last : Option (List (List ℕ))) (faced : List Faced) (x : Faced) (then_wait wait : List Parcel)
      → Spills first between [] (flat_map parcels faced) then_wait → Spills between last then_wait (parcels x) wait → Spills first last [] (flat_map parcels (faced ++ x ∷ [])) wait
  one_more first between last faced x then_wait wait before next =
      let all : flat_map parcels (faced ++ x ∷ []) ≡ flat_map parcels faced ++ parcels x =
      flat_map-append parcels faced (x ∷ []) ∙ ap (λ l. flat_map parcels faced ++ l) (flat_map-cons parcels x [] ∙ append-nil (parcels x)) in
      subst (λ l. Spills first last [] l wait) (sym all) (spills_more first between last [] (flat_map parcels faced) then_wait (parcels x) wait before next)

  -- all that waited was appended
  pub none_waits : (first between last : Option (List (List ℕ))) (faced : List Faced) (then_wait : List Parcel)
      → Spills first between [] (flat_map parcels faced) then_wait → Spills between last then_wait [] [] → Spills first last [] (flat_map parcels faced) []
  none_waits first between last faced then_wait before last_ones =
      subst (λ l. Spills first last [] l []) (append-nil (flat_map parcels faced)) (spills_more first between last [] (flat_map parcels faced) then_wait [] [] before last_ones)

-- ---- the parts of a grid

-- before the first triangle
pub nothing_added : (grid : GridShape) (split : ℕ) (told : Option (List (List ℕ))) → Spills told told [] (flat_map (parcels_of grid split) []) []
nothing_added grid split told = none_spilled told []

pub added_next : (grid : GridShape) (split : ℕ) (first between last : Option (List (List ℕ))) (faced : List Faced) (x : Faced) (then_wait wait : List Parcel)
    → Spills first between [] (flat_map (parcels_of grid split) faced) then_wait → Spills between last then_wait (parcels_of grid split x) wait
    → Spills first last [] (flat_map (parcels_of grid split) (faced ++ x ∷ [])) wait
added_next grid split = one_more (parcels_of grid split)

pub flushed : (grid : GridShape) (split : ℕ) (first between last : Option (List (List ℕ))) (faced : List Faced) (then_wait : List Parcel)
    → Spills first between [] (flat_map (parcels_of grid split) faced) then_wait → Spills between last then_wait [] [] → Spills first last [] (flat_map (parcels_of grid split) faced) []
flushed grid split = none_waits (parcels_of grid split)

-- where the scratch tells its streams
pub parts_told : (grid : GridShape) (split : ℕ) (faced : List Faced) (told now : Option (List (List ℕ))) → Spills told now [] (flat_map (parcels_of grid split) faced) []
    → IfSome told (λ first. IfSome now (λ last. IsPartitioned grid split faced first last))
parts_told grid split faced None now spills = tt
parts_told grid split faced (Some first) None spills = tt
parts_told grid split faced (Some first) (Some last) spills = parts_spilled grid split faced first last spills
