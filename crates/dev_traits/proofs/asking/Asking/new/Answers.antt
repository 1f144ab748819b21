use Rattle.std.proofs.Common.{◌≡◌, ◌∙◌, ◌++◌, ℕ, List, take, ap}
use Rattle.dev_traits.proofs.Pieces.{front_kept}
use Rattle.dev_traits.proofs.asking.Asking.new.Goals as goal

-- src/asking.rt:30:5
pub returns : goal.returns
returns c =
    let extended = rw c.unwrap.ensures at c.try_extend_from_slice.ensures.ok in
    let kept : c.new-kept.result.items ++ take c.min.result c.as_bytes-bytes.result.now ≡ take 201 c.args.place.now =
    rw (c.new-kept.ensures, c.min.ensures, c.as_bytes-bytes.ensures.value) (front_kept 201 c.args.place.now)
    in
    ap (λ (place : List ℕ). record { streams = c.args.streams; place = place }) (extended ∙ kept)
