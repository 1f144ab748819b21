-- Band after band of told words is put out.
use Rattle.std.proofs.Common.{◌≡◌, ℕ, ◌+◌, ◌-◌, ◌*◌, ◌^◌, ◌<◌, List, [], map, Option, None, Some, Ok, Err, refl, sym, ap, subst, ◌∙◌, append-nil, arith}
use Rattle.std.specs.Prelude.{⊤, min, Result, IfSome}
use Rattle.std.specs.Io.KnownBytes.{append_known}
use Rattle.std.specs.List.{range_with_len}
use Rattle.slice_view.specs.declared.bands.TheConstants.{BAND_EXPONENT}
use Rattle.octree_specs.specs.Cells.{Cell}
use Rattle.node_file.proofs.Fronts.{append_twice}
use Rattle.node_check.specs.Stops.{Puts}
use Rattle.node_check.specs.Walks.{LeadsOn}
use Rattle.node_check.specs.declared.stops.AnswerStop.{AnswerStop}
use Rattle.slice_view.specs.Bands.{IsBandOf, band_samples, rows_of}
use Rattle.slice_view.specs.Slices.{slice_sample}
use Rattle.slice_view.specs.declared.axes.Axis.{Axis}
use Rattle.slice_view.specs.declared.bands.Band.{Band}
use Rattle.slice_view.proofs.BandRows.{bands_whole}
use Rattle.slice_view.proofs.Rows.{Stopped, band_of_picture, samples_more, band_stops}

-- the samples of the bands so far were put out
abbrev pub PutSoFar : Option (List ℕ) → (format depth : ℕ) → Axis → (at root : ℕ) → (before after : Option (List ℕ)) → (number : ℕ) → Type 0
PutSoFar told format depth axis at root before after number =
    IfSome told (λ words. (cells : List Cell) → LeadsOn words format cells depth 0 root → after ≡ append_known before (map (slice_sample depth axis at cells) (range_with_len 0 (number * (rows_of depth * 2 ^ depth)))))

-- one band was, or it was stopped
abbrev pub PutBand : Option (List ℕ) → (format : ℕ) → Band → (root : ℕ) → (before after : Option (List ℕ)) → Result ⊤ AnswerStop → Type 0
PutBand told format band root before after result = IfSome told (λ words. (cells : List Cell) → LeadsOn words format cells band.depth 0 root → Puts before after (band_samples band cells) result)

-- all were, or that was stopped
abbrev pub PutAll : Option (List ℕ) → (format depth : ℕ) → Axis → (at root : ℕ) → (before after : Option (List ℕ)) → Result ⊤ AnswerStop → Type 0
PutAll told format depth axis at root before after result =
    IfSome told (λ words. (cells : List Cell) → LeadsOn words format cells depth 0 root → Puts before after (map (slice_sample depth axis at cells) (range_with_len 0 (2 ^ depth * 2 ^ depth))) result)

append_none : (told : Option (List ℕ)) → told ≡ append_known told []
append_none None = refl
append_none (Some x) = ap Some (sym (append-nil x))

all_samples : (depth : ℕ) → 2 ^ depth * 2 ^ depth ≡ 2 ^ (depth - min depth (BAND_EXPONENT - depth)) * (rows_of depth * 2 ^ depth)
all_samples depth = ap (λ n. n * 2 ^ depth) (sym (bands_whole depth)) ∙ omega arith

module _ (format depth : ℕ) (axis : Axis) (at root : ℕ) where
  pub put_first : (told : Option (List ℕ)) (before : Option (List ℕ)) → PutSoFar told format depth axis at root before before 0
  put_first None before = tt
  put_first (Some words) before = λ cells leads.
      let none : 0 * (rows_of depth * 2 ^ depth) ≡ 0 = omega arith in
      append_none before ∙ ap (λ n. append_known before (map (slice_sample depth axis at cells) (range_with_len 0 n))) (sym none)

  pub put_more : (told : Option (List ℕ)) (before mid after : Option (List ℕ)) (number : ℕ) (band : Band) → IsBandOf band depth axis at number → PutSoFar told format depth axis at root before mid number
      → PutBand told format band root mid after (Ok tt) → PutSoFar told format depth axis at root before after (number + 1)
  put_more None before mid after number band is so_far puts = tt
  put_more (Some words) before mid after number band is so_far puts = λ cells leads.
      let own : after ≡ append_known mid (band_samples band cells) = puts cells (subst (λ d. LeadsOn words format cells d 0 root) (sym is.depth_is) leads) in
      own ∙ (ap (append_known mid) (band_of_picture band depth axis at number cells is)
      ∙ (ap (λ o. append_known o (map (slice_sample depth axis at cells) (range_with_len (number * (rows_of depth * 2 ^ depth)) (rows_of depth * 2 ^ depth)))) (so_far cells leads)
      ∙ (append_twice before (map (slice_sample depth axis at cells) (range_with_len 0 (number * (rows_of depth * 2 ^ depth)))) (map (slice_sample depth axis at cells) (range_with_len (number * (rows_of depth * 2 ^ depth)) (rows_of depth * 2 ^ depth)))
      ∙ ap (append_known before) (sym (samples_more (slice_sample depth axis at cells) number (rows_of depth * 2 ^ depth))))))

  pub put_stops : (told : Option (List ℕ)) (before mid after : Option (List ℕ)) (number : ℕ) (band : Band) (stop : AnswerStop) → IsBandOf band depth axis at number → number < 2 ^ (depth - min depth (BAND_EXPONENT - depth))
      → PutSoFar told format depth axis at root before mid number → PutBand told format band root mid after (Err stop) → PutAll told format depth axis at root before after (Err stop)
  put_stops None before mid after number band stop is within so_far puts = tt
  put_stops (Some words) before mid after number band stop is within so_far puts = λ cells leads.
      band_stops before mid after (slice_sample depth axis at cells) number (2 ^ (depth - min depth (BAND_EXPONENT - depth))) (rows_of depth * 2 ^ depth) (2 ^ depth * 2 ^ depth) stop within (all_samples depth) (so_far cells leads)
      (subst (λ w. Stopped mid after w stop) (band_of_picture band depth axis at number cells is) (puts cells (subst (λ d. LeadsOn words format cells d 0 root) (sym is.depth_is) leads)))

  pub put_last : (told : Option (List ℕ)) (before after : Option (List ℕ)) (number : ℕ) → number ≡ 2 ^ (depth - min depth (BAND_EXPONENT - depth)) → PutSoFar told format depth axis at root before after number
      → PutAll told format depth axis at root before after (Ok tt)
  put_last None before after number is so_far = tt
  put_last (Some words) before after number is so_far = λ cells leads.
      so_far cells leads ∙ ap (λ n. append_known before (map (slice_sample depth axis at cells) (range_with_len 0 n))) (ap (λ n. n * (rows_of depth * 2 ^ depth)) is ∙ sym (all_samples depth))

pub all_bands : (number end depth height : ℕ) → end ≡ 2 ^ (depth - height) → height ≡ min depth (BAND_EXPONENT - depth) → number ≡ end → number ≡ 2 ^ (depth - min depth (BAND_EXPONENT - depth))
all_bands number end depth height is low same = same ∙ (is ∙ ap (λ n. 2 ^ (depth - n)) low)
