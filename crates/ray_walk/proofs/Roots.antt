-- From the walk under the root to the answer.
use Rattle.std.proofs.Common.{◌≡◌, ℕ, suc, ◌+◌, ◌-◌, ◌^◌, ◌<◌, ◌≤◌, true, false, List, length, Option, None, Some, IfSome, arith, sym, ap, subst, ◌∙◌, inl, inr, ⊎_elim}
use Rattle.std.specs.Prelude.{is_some, All}
use Rattle.std.specs.List.{Contains}
use Rattle.std.proofs.Math.Nat.{div-eq_of_lt}
use Rattle.std.proofs.lemmas.List.Elements.{All-contains, All-map}
use Rattle.svo_base.specs.GridShape.{GridShape}
use Rattle.octree_specs.specs.Cells.{Cell, codes_of}
use Rattle.octree_specs.specs.Formats.{StandFor}
use Rattle.octree_specs.specs.NodeCube.{node_cube}
use Rattle.octree_specs.specs.Walking.{HasMasks}
use Rattle.octree_laws.proofs.Images.{at_depth}
use Rattle.octree_laws.proofs.Maps.{map_has_masks}
use Rattle.node_file.specs.FileView.{FileView, IsFileView}
use Rattle.ray_fraction.specs.Crossings.{AreFew}
use Rattle.ray_fraction.specs.Hits.{IsHit, Precedes, IsFirstHit, HitsNone}
use Rattle.ray_fraction.specs.InCube.{InAt}
use Rattle.ray_fraction.specs.RayShape.{RayShape}
use Rattle.ray_walk.specs.Answers.{TellsCells, IsFirst}
use Rattle.ray_walk.specs.Hitting.{IsTimed}
use Rattle.ray_walk.specs.Stays.{InBox, IsEntry}
use Rattle.ray_walk.specs.Steps.{IsOnTree}
use Rattle.ray_walk.specs.Walks.{MetUnder, IsBest, IsKnown, WithKnown, AreWithin, IsEntered}
use Rattle.ray_walk.specs.declared.flights.Flight.{Flight}
use Rattle.ray_walk.specs.declared.hits.Candidate.{Candidate}
use Rattle.ray_walk.specs.declared.hits.Hit.{Hit}
use Rattle.ray_walk.specs.declared.spots.Spot.{Spot}
use Rattle.ray_walk.proofs.FirstHits.{precedes_trans}
use Rattle.ray_walk.proofs.MetCells.{met_in}

-- ---- the root

told_length : (file : FileView) (words : List ℕ) → file.words ≡ Some words → IsFileView file → length words ≡ file.totals.records
told_length file words is view = subst (λ told. IfSome told (λ words. length words ≡ file.totals.records)) is view.told

pub root_has_masks : (file : FileView) (cells : List Cell) (tells : TellsCells file cells) (height number : ℕ) → IsFileView file → height ≡ file.grid.depth → number ≡ file.totals.records - 1 → HasMasks tells.words cells height 0 number
root_has_masks file cells tells height number view is_height is_number =
    let deep : (levels : ℕ) × (file.grid.depth ≡ suc levels) = at_depth file.grid.depth view.limits.halved in
    let many : length tells.words ≡ file.totals.records = told_length file tells.words tells.told view in
    let long : length tells.words ≡ number + 1 = omega (arith, many, is_number, view.some) in
    let masks : HasMasks tells.words cells (suc deep.0) 0 number = map_has_masks file.format deep.0 number tells.words cells (subst (λ d. StandFor file.format d tells.words cells) deep.1 tells.stand) long in
    subst (λ h. HasMasks tells.words cells h 0 number) (sym (is_height ∙ deep.1)) masks

pub entered_from : (ray : RayShape) (grid : GridShape) (scale height node : ℕ) (entry : Option ℕ) → is_some entry ≡ true → IsEntry (InBox ray grid height node) scale entry → IsEntered ray grid scale None height node
entered_from ray grid scale height node None some entry = cc
entered_from ray grid scale height node (Some ticks) some entry = record { ticks = ticks; at = entry.0; in_time = tt }

pub root_on_tree : (file : FileView) (cells : List Cell) (tells : TellsCells file cells) (flight : Flight) (spot : Spot) (entry : Option ℕ) → IsFileView file → flight.grid ≡ file.grid → spot.height ≡ file.grid.depth → spot.code ≡ 0
    → spot.number ≡ file.totals.records - 1 → is_some entry ≡ true → IsEntry (InBox flight.ray flight.grid flight.grid.depth 0) flight.scale entry → IsOnTree file.words flight spot None tells.words cells
root_on_tree file cells tells flight spot entry view is_grid is_height is_code is_number some entered = record {
  words_are = tells.told;
  tree = subst (λ c. HasMasks tells.words cells spot.height c spot.number) (sym is_code) (root_has_masks file cells tells spot.height spot.number view is_height is_number);
  entered = subst (λ c. IsEntered flight.ray flight.grid flight.scale None spot.height c) (sym is_code)
      (subst (λ h. IsEntered flight.ray flight.grid flight.scale None h 0) (ap (λ g. g.depth) is_grid ∙ sym is_height) (entered_from flight.ray flight.grid flight.scale flight.grid.depth 0 entry some entered));
}

-- what a walk under the root says of the ray and the grid themselves
pub within_root : (flight : Flight) (ray : RayShape) (grid : GridShape) (cells : List Cell) (height before after : ℕ) → flight.ray ≡ ray → flight.grid ≡ grid → height ≡ grid.depth
    → AreWithin flight.ray flight.grid cells flight.scale None height 0 before after → AreWithin ray grid cells flight.scale None grid.depth 0 before after
within_root flight ray grid cells height before after is_ray is_grid is_height within =
    subst (λ h. AreWithin ray grid cells flight.scale None h 0 before after) is_height
    (subst (λ g. AreWithin ray g cells flight.scale None height 0 before after) is_grid (subst (λ r. AreWithin r flight.grid cells flight.scale None height 0 before after) is_ray within))

pub best_root : (flight : Flight) (ray : RayShape) (grid : GridShape) (cells : List Cell) (height : ℕ) (best : Option Candidate) → flight.ray ≡ ray → flight.grid ≡ grid → height ≡ grid.depth
    → IsBest (WithKnown flight.scale None (MetUnder flight.ray flight.grid cells height 0)) flight.scale best → IsBest (WithKnown flight.scale None (MetUnder ray grid cells grid.depth 0)) flight.scale best
best_root flight ray grid cells height best is_ray is_grid is_height first =
    subst (λ h. IsBest (WithKnown flight.scale None (MetUnder ray grid cells h 0)) flight.scale best) is_height
    (subst (λ g. IsBest (WithKnown flight.scale None (MetUnder ray g cells height 0)) flight.scale best) is_grid
    (subst (λ r. IsBest (WithKnown flight.scale None (MetUnder r flight.grid cells height 0)) flight.scale best) is_ray first))

pub entry_root : (flight : Flight) (ray : RayShape) (grid : GridShape) (entry : Option ℕ) → flight.ray ≡ ray → flight.grid ≡ grid
    → IsEntry (InBox flight.ray flight.grid flight.grid.depth 0) flight.scale entry → IsEntry (InBox ray grid grid.depth 0) flight.scale entry
entry_root flight ray grid entry is_ray is_grid entered =
    subst (λ g. IsEntry (InBox ray g g.depth 0) flight.scale entry) is_grid (subst (λ r. IsEntry (InBox r flight.grid flight.grid.depth 0) flight.scale entry) is_ray entered)

-- ---- hits under the root

contained_below : (cells : List Cell) (bound code : ℕ) → All (λ cell. cell.code < bound) cells → Contains (codes_of cells) code → code < bound
contained_below cells bound code inside filled = All-contains (λ c. c < bound) (codes_of cells) code (All-map (λ c. c < bound) (λ cell. cell.code) cells inside) filled

code_inside : (file : FileView) (cells : List Cell) (tells : TellsCells file cells) (code : ℕ) → Contains (codes_of cells) code → code < 8 ^ file.grid.depth
code_inside file cells tells code filled = contained_below cells (8 ^ file.grid.depth) code tells.stand.cells_are.map.inside filled

module _ (file : FileView) (cells : List Cell) (tells : TellsCells file cells) (ray : RayShape) where
  hit_under : (code n m : ℕ) → IsHit ray file.grid cells code n m → MetUnder ray file.grid cells file.grid.depth 0 code n m
  hit_under code n m hit =
      let level : file.grid.depth ≡ file.grid.depth - 0 = omega arith in
      record {
        filled = hit.filled;
        under = div-eq_of_lt (code_inside file cells tells code hit.filled);
        at = subst (λ l. InAt ray (node_cube file.grid l code) n m) level hit.at;
      }

  under_hit : (code n m : ℕ) → MetUnder ray file.grid cells file.grid.depth 0 code n m → IsHit ray file.grid cells code n m
  under_hit code n m met =
      let level : file.grid.depth - 0 ≡ file.grid.depth = omega arith in
      record { filled = met.filled; at = subst (λ l. InAt ray (node_cube file.grid l code) n m) level met.at }

  -- the ray misses the whole grid
  pub none_hit : (scale : ℕ) (entry : Option ℕ) → is_some entry ≡ false → IsEntry (InBox ray file.grid file.grid.depth 0) scale entry → HitsNone ray file.grid cells
  none_hit scale None none never code n m hit = never n m (met_in ray file.grid cells file.grid.depth 0 code n m (omega arith) (hit_under code n m hit))
  none_hit scale (Some ticks) none entry code n m hit = cc

  best_at : (scale : ℕ) (best : Candidate) → WithKnown scale None (MetUnder ray file.grid cells file.grid.depth 0) best.code best.ticks scale → IsHit ray file.grid cells best.code best.ticks scale
  best_at scale best met = ⊎_elim (λ (never : IsKnown scale None best.code best.ticks scale). absurd never) (λ (there : MetUnder ray file.grid cells file.grid.depth 0 best.code best.ticks scale). under_hit best.code best.ticks scale there) met

  pub first_from : (scale : ℕ) (best : Option Candidate) (hit : Option Hit) → 1 ≤ scale → IsBest (WithKnown scale None (MetUnder ray file.grid cells file.grid.depth 0)) scale best → IsTimed ray file.grid best hit → IsFirst ray file.grid cells hit
  first_from scale None None some none timed = λ code n m hit. none code n m (inr (hit_under code n m hit))
  first_from scale None (Some hit) some none timed = cc
  first_from scale (Some best) None some first never = absurd (never best.ticks scale (best_at scale best first.met).at)
  first_from scale (Some best) (Some hit) some first timed =
      let met : IsHit ray file.grid cells best.code best.ticks scale = best_at scale best first.met in
      let sooner : Precedes hit.time.n hit.time.m best.code best.ticks scale best.code = record { sooner = timed.1.1 best.ticks scale met.at; tie = λ late. omega arith } in
      let at : IsFirstHit ray file.grid cells best.code hit.time.n hit.time.m = record {
        met = record { filled = met.filled; at = timed.1.0 };
        first = λ other k l there.
            precedes_trans hit.time.n hit.time.m best.code best.ticks scale best.code k l other hit.time.some some there.at.some sooner (first.first other k l (inr (hit_under other k l there)));
      } in
      subst (λ code. IsFirstHit ray file.grid cells code hit.time.n hit.time.m) (sym timed.0) at

  -- ---- reads

  pub few_from : (scale before after : ℕ) → AreWithin ray file.grid cells scale None file.grid.depth 0 before after → AreFew ray file.grid cells before after
  few_from scale before after within = record {
    crossed = λ test pass. within test None (record { pass = λ height node n m at in_time. pass height node n m at; off = tt; known_in = tt; ahead = λ none. tt });
    early = λ off test code k l hit pass. within test (Some (record { code = code; n = k; m = l })) (record {
      pass = λ height node n m at in_time. pass height node n m at in_time;
      off = off;
      known_in = tt;
      ahead = λ none. inl (hit_under code k l hit);
    });
  }

-- a count that rose no more than another
pub few_alike : (ray : RayShape) (grid : GridShape) (cells : List Cell) (before after first last : ℕ) → last + before ≤ first + after → AreFew ray grid cells before after → AreFew ray grid cells first last
few_alike ray grid cells before after first last less few = record {
  crossed = λ test pass. omega (arith, less, few.crossed test pass);
  early = λ off test code k l hit pass. omega (arith, less, few.early off test code k l hit pass);
}

pub no_reads : (ray : RayShape) (grid : GridShape) (cells : List Cell) (before : ℕ) → AreFew ray grid cells before before
no_reads ray grid cells before = record { crossed = λ test pass. omega arith; early = λ off test code k l hit pass. omega arith }
