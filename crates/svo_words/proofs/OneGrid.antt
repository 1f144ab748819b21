-- A build has a corner and a cell exactly where its grid is not fitted.
use Rattle.std.proofs.Common.{◌≡◌, ℕ, Bool, true, false, List, [], ◌∷◌, Option, None, Some, option_map, Ok, inl, inr, refl, sym, subst}
use Rattle.std.specs.Prelude.{ℤ, not, is_some, pos, codes, ⊤}
use Rattle.svo_words.specs.Build.{build_numbers, build_from, unless, with_scratch, HasOneGrid}
use Rattle.svo_words.specs.Forms.{CommandForm, commands, cast_form, check_form, cells_form, has_form, why_form, slice_form, view_form, lift_form, make_form, sum_form, near_form, merge_form, coarse_form}
use Rattle.svo_words.specs.Lookups.{Lookup}
use Rattle.svo_words.specs.Meaning.{IsAmong, Means}
use Rattle.text_words.specs.Numbers.{◌>>=◌}
use Rattle.svo_words.specs.Settings.{value_of}
use Rattle.svo_words.specs.Values.{is_set, number_in, number_or, numbers_in, text_or}
use Rattle.svo_words.specs.Nodes.{check_from, has_from, cells_from, lift_from, cast_from, near_from}
use Rattle.svo_words.specs.Combining.{merge_from, coarse_from}
use Rattle.svo_words.specs.Made.{make_from, sum_from}
use Rattle.svo_words.specs.Pictures.{slice_from, view_from}
use Rattle.svo_words.specs.Why.{why_from}
use Rattle.svo_words.specs.declared.build.BuildNumbers.{BuildNumbers}
use Rattle.svo_words.specs.declared.build.BuildWords.{BuildWords}
use Rattle.svo_words.specs.declared.commands.Command.{Command}
use Rattle.svo_words.specs.declared.commands.Command.TheVariants.{Build, Cast, Check, Cells, Has, Why, Slice, View, Lift, Make, Sum, Near, Merge, Coarse}

-- a value that is wanted without a flag is there exactly where the flag is not
there : {A : Type 0} (flag : Bool) (wanted : Option A) (value : Option A) → unless flag wanted ≡ Some value → is_some value ≡ not flag
there true wanted None e = refl
there true wanted (Some a) e = absurd cc
there false None value e = absurd cc
there false (Some a) None e = absurd cc
there false (Some a) (Some b) e = refl

abbrev HasOne : BuildNumbers → Type 0
HasOne numbers = (is_some numbers.origin ≡ not numbers.fit) × (is_some numbers.cell ≡ not numbers.fit)

abbrev numbers_with : Bool → Bool → Option ℤ → Option ℤ → Option ℤ → Option (Option (List ℤ)) → Option (Option ℤ) → Option BuildNumbers
numbers_with cut fit depths memories decimal_counts origins cells = do
  depth ← depths
  memory ← memories
  decimals ← decimal_counts
  origin ← origins
  cell ← cells
  Some (record { depth = depth; memory = memory; decimals = decimals; cut = cut; fit = fit; origin = origin; cell = cell })

one_with : (cut fit : Bool) (depths memories decimal_counts : Option ℤ) (origins : Option (Option (List ℤ))) (cells : Option (Option ℤ)) (numbers : BuildNumbers)
    → ((origin : Option (List ℤ)) → origins ≡ Some origin → is_some origin ≡ not fit) → ((cell : Option ℤ) → cells ≡ Some cell → is_some cell ≡ not fit)
    → numbers_with cut fit depths memories decimal_counts origins cells ≡ Some numbers → HasOne numbers
one_with cut fit None memories decimal_counts origins cells numbers o c e = absurd cc
one_with cut fit (Some d) None decimal_counts origins cells numbers o c e = absurd cc
one_with cut fit (Some d) (Some m) None origins cells numbers o c e = absurd cc
one_with cut fit (Some d) (Some m) (Some k) None cells numbers o c e = absurd cc
one_with cut fit (Some d) (Some m) (Some k) (Some origin) None numbers o c e = absurd cc
one_with cut fit (Some d) (Some m) (Some k) (Some origin) (Some cell) numbers o c e =
    let found : BuildNumbers = record { depth = d; memory = m; decimals = k; cut = cut; fit = fit; origin = origin; cell = cell } in
    let same : found ≡ numbers = cc in
    subst HasOne same (o origin refl, c cell refl)

numbers_have_one : (values : Lookup) (numbers : BuildNumbers) → build_numbers values ≡ Some numbers → HasOne numbers
unfolding build_numbers
numbers_have_one values numbers e =
    let fit = is_set values (codes "fit") in
    one_with (is_set values (codes "cut")) fit (number_in values (codes "depth")) (number_or (pos 268435456) values (codes "memory")) (number_or (pos 0) values (codes "decimals"))
    (unless fit (numbers_in 3 values (codes "origin"))) (unless fit (number_in values (codes "cell"))) numbers
    (there fit (numbers_in 3 values (codes "origin"))) (there fit (number_in values (codes "cell"))) e

build_has_one : (values : Lookup) (job : BuildWords) → build_from values ≡ Some job → HasOneGrid job
unfolding build_from
build_has_one values job e = go (build_numbers values) refl (text_or (codes "svo_scratch") values (codes "scratch")) e
  where
    go : (o : Option BuildNumbers) → build_numbers values ≡ o → (text : Option (List ℕ))
        → (o >>= λ numbers. text >>= λ scratch. Some (with_scratch numbers scratch)) ≡ Some job → HasOneGrid job
    go None is text f = absurd cc
    go (Some numbers) is None f = absurd cc
    go (Some numbers) is (Some scratch) f =
        let same : with_scratch numbers scratch ≡ job = cc in
        subst HasOneGrid same (numbers_have_one values numbers is)

read_as_build : (o : Option BuildWords) (job : BuildWords) → option_map Build o ≡ Some (Build job) → o ≡ Some job
read_as_build None job e = absurd cc
read_as_build (Some found) job e = let same : found ≡ job = cc in rw same refl

-- ---- no other command reads a build

abbrev IsBuild : Command → Type 0
IsBuild (Build job) = ⊤
IsBuild other = ⊥

abbrev IsOther : CommandForm → Type 0
IsOther form = (values : Lookup) (job : BuildWords) → form.reads values ≡ Some (Build job) → ⊥

abbrev AreOthers : List CommandForm → Type 0
AreOthers [] = ⊤
AreOthers (form ∷ rest) = IsOther form × AreOthers rest

no_build_of : {A : Type 0} (variant : A → Command) (o : Option A) (job : BuildWords) → ((a : A) → IsBuild (variant a) → ⊥) → option_map variant o ≡ Some (Build job) → ⊥
no_build_of variant None job other e = absurd cc
no_build_of variant (Some a) job other e =
    let same : variant a ≡ Build job = cc in
    other a (subst IsBuild (sym same) tt)

other_among : (forms : List CommandForm) (form : CommandForm) → AreOthers forms → IsAmong forms form → IsOther form
other_among [] form others none = absurd none
other_among (one ∷ rest) form others (inl same) = subst IsOther same others.0
other_among (one ∷ rest) form others (inr later) = other_among rest form others.1 later

no_build : {A : Type 0} (variant : A → Command) (reads : Lookup → Option A) → ((a : A) → IsBuild (variant a) → ⊥) → (values : Lookup) (job : BuildWords) → option_map variant (reads values) ≡ Some (Build job) → ⊥
no_build variant reads other values job e = no_build_of variant (reads values) job other e

abbrev other_forms : List CommandForm
other_forms = cast_form ∷ check_form ∷ cells_form ∷ has_form ∷ why_form ∷ slice_form ∷ view_form ∷ lift_form ∷ make_form ∷ sum_form ∷ near_form ∷ merge_form ∷ coarse_form ∷ []

all_others : AreOthers other_forms
all_others = (no_build Cast cast_from (λ a none. none), (no_build Check check_from (λ a none. none), (no_build Cells cells_from (λ a none. none), (no_build Has has_from (λ a none. none), (no_build Why why_from (λ a none. none), (no_build Slice slice_from (λ a none. none), (no_build View view_from (λ a none. none), (no_build Lift lift_from (λ a none. none), (no_build Make make_from (λ a none. none), (no_build Sum sum_from (λ a none. none), (no_build Near near_from (λ a none. none), (no_build Merge merge_from (λ a none. none), (no_build Coarse coarse_from (λ a none. none), tt)))))))))))))

by_command : (values : Lookup) (job : BuildWords) (form : CommandForm) → IsAmong commands form → form.reads values ≡ Some (Build job) → HasOneGrid job
unfolding commands
by_command values job form (inl same) reads =
    let P : CommandForm → Type 0 = λ (f : CommandForm). f.reads values ≡ Some (Build job) in
    build_has_one values job (read_as_build (build_from values) job (subst P (sym same) reads))
by_command values job form (inr later) reads = absurd (other_among other_forms form all_others later values job reads)

pub one_grid_is : (words : List (List ℕ)) (job : BuildWords) → Means words (Ok (Build job)) → HasOneGrid job
one_grid_is words job (form, settings, sets, is) = by_command (value_of settings) job form sets.begins.known is
