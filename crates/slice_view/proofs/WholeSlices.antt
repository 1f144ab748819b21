-- A slice whose words are told: the header, and then the samples.
use Rattle.std.proofs.Common.{◌≡◌, ℕ, ◌*◌, ◌/◌, ◌^◌, List, [], ◌++◌, map, Option, None, Some, Err, refl, sym, ap, subst, ◌∙◌, append-nil}
use Rattle.std.specs.Prelude.{⊤, Result, IfSome}
use Rattle.std.specs.Io.KnownBytes.{append_known}
use Rattle.std.specs.List.{range_with_len}
use Rattle.std.proofs.Math.Nat.{zero-div}
use Rattle.octree_specs.specs.Cells.{Cell}
use Rattle.octree_specs.specs.Formats.{StandFor}
use Rattle.node_check.specs.Stops.{Puts}
use Rattle.node_check.specs.Walks.{LeadsOn}
use Rattle.node_check.specs.declared.stops.AnswerStop.{AnswerStop}
use Rattle.node_check.specs.declared.stops.AnswerStop.TheVariants.{Walk}
use Rattle.node_check.specs.declared.walking.WalkFault.{WalkFault}
use Rattle.node_check.specs.declared.walking.WalkFault.TheVariants.{Failed}
use Rattle.node_check.proofs.Walks.{Leads}
use Rattle.slice_view.specs.Pictures.{pgm_header}
use Rattle.slice_view.specs.Slices.{slice_picture, slice_sample}
use Rattle.slice_view.specs.declared.axes.Axis.{Axis}
use Rattle.slice_view.proofs.PutBands.{PutAll}
use Rattle.slice_view.proofs.Rows.{Stopped, puts_behind, stops_within}

abbrev pub PutSlice : Option (List ℕ) → (format depth : ℕ) → Axis → (at : ℕ) → (before after : Option (List ℕ)) → Result ⊤ AnswerStop → Type 0
PutSlice told format depth axis at before after result =
    IfSome told (λ words. (cells : List Cell) → StandFor format depth words cells → Puts before after (slice_picture depth axis at cells) result)

parts : (depth : ℕ) (axis : Axis) (at : ℕ) (cells : List Cell) → slice_picture depth axis at cells ≡ pgm_header (2 ^ depth) (2 ^ depth) ++ map (slice_sample depth axis at cells) (range_with_len 0 (2 ^ depth * 2 ^ depth))
unfolding slice_picture
parts depth axis at cells = refl

append_none : (told : Option (List ℕ)) → told ≡ append_known told []
append_none None = refl
append_none (Some x) = ap Some (sym (append-nil x))

module _ (format depth : ℕ) (axis : Axis) (at width : ℕ) (wide : width ≡ 2 ^ depth) where
  pub header_stops : (told before after : Option (List ℕ)) (stop : AnswerStop) → Stopped before after (pgm_header width width) stop → PutSlice told format depth axis at before after (Err stop)
  header_stops None before after stop puts = tt
  header_stops (Some words) before after stop puts = λ cells stand.
      subst (λ w. Stopped before after w stop) (sym (parts depth axis at cells))
      (stops_within before after (pgm_header (2 ^ depth) (2 ^ depth)) (map (slice_sample depth axis at cells) (range_with_len 0 (2 ^ depth * 2 ^ depth))) stop
      (subst (λ n. Stopped before after (pgm_header n n) stop) wide puts))

  pub root_stops : (told before after : Option (List ℕ)) (fault : WalkFault) (result : Result ⊤ AnswerStop) → result ≡ Err (Walk fault) → fault ≡ Failed → after ≡ append_known before (pgm_header width width)
      → PutSlice told format depth axis at before after result
  root_stops None before after fault result is failed puts = tt
  root_stops (Some words) before after fault result is failed puts = λ cells stand.
      subst (Puts before after (slice_picture depth axis at cells)) (sym (is ∙ ap (λ f. Err (Walk f)) failed))
      (subst (λ w. Stopped before after w (Walk Failed)) (sym (parts depth axis at cells))
      (puts_behind before after after (pgm_header (2 ^ depth) (2 ^ depth)) (map (slice_sample depth axis at cells) (range_with_len 0 (2 ^ depth * 2 ^ depth))) (Err (Walk Failed))
      (subst (λ n. after ≡ append_known before (pgm_header n n)) wide puts) (0, append_none after)))

  pub samples_put : (told before mid after : Option (List ℕ)) (root : ℕ) (result : Result ⊤ AnswerStop) → Leads told format depth depth 0 root → mid ≡ append_known before (pgm_header width width)
      → PutAll told format depth axis at root mid after result → PutSlice told format depth axis at before after result
  samples_put None before mid after root result leads header puts = tt
  samples_put (Some words) before mid after root result leads header puts = λ cells stand.
      let top : 0 / 8 ^ depth ≡ 0 = zero-div (8 ^ depth) in
      let led : LeadsOn words format cells depth 0 root = subst (λ n. LeadsOn words format cells depth n root) top (leads cells stand) in
      subst (λ w. Puts before after w result) (sym (parts depth axis at cells))
      (puts_behind before mid after (pgm_header (2 ^ depth) (2 ^ depth)) (map (slice_sample depth axis at cells) (range_with_len 0 (2 ^ depth * 2 ^ depth))) result
      (subst (λ n. mid ≡ append_known before (pgm_header n n)) wide header) (puts cells led))
