-- One band of told words is painted and put out.
use Rattle.std.proofs.Common.{◌≡◌, ℕ, ◌+◌, List, length, take, Option, None, Some, Ok, sym, subst}
use Rattle.std.specs.Prelude.{⊤, replicate, Result}
use Rattle.octree_specs.specs.Cells.{Cell}
use Rattle.node_check.specs.Stops.{Puts}
use Rattle.node_check.specs.Walks.{LeadsOn}
use Rattle.node_check.specs.declared.stops.AnswerStop.{AnswerStop}
use Rattle.slice_view.specs.Bands.{IsBand, ArePainted, band_size}
use Rattle.slice_view.specs.declared.bands.Band.{Band}
use Rattle.slice_view.specs.declared.squares.Square.{Square}
use Rattle.slice_view.proofs.PutBands.{PutBand}
use Rattle.slice_view.proofs.Rows.{band_is_painted}
use Rattle.slice_view.proofs.Walked.{Under}

-- the square of the root is the octree's
at_root : (words : List ℕ) (format : ℕ) (band : Band) (cells : List Cell) (whole : Square) (root : ℕ) → whole.height ≡ band.depth → whole.code ≡ 0 → LeadsOn words format cells band.depth 0 root → LeadsOn words format cells whole.height whole.code root
at_root words format band cells whole root top first leads =
    subst (λ h. LeadsOn words format cells h whole.code root) (sym top) (subst (λ c. LeadsOn words format cells band.depth c root) (sym first) leads)

-- the painted block is put out
pub band_puts : (told : Option (List ℕ)) (format : ℕ) (band : Band) (whole : Square) (root : ℕ) (block : List ℕ) (before after : Option (List ℕ)) (result : Result ⊤ AnswerStop) → IsBand band
    → whole.height ≡ band.depth → whole.code ≡ 0 → length block ≡ 4096 → Under told band format whole.height whole.code root (replicate 4096 0) block (Ok tt)
    → Puts before after (take (band_size band) block) result → PutBand told format band root before after result
band_puts None format band whole root block before after result is top first long under puts = tt
band_puts (Some words) format band whole root block before after result is top first long under puts = λ cells leads.
    let painted : ArePainted band cells whole.height whole.code (whole.code + 1) (replicate 4096 0) block = under cells (at_root words format band cells whole root top first leads) in
    let whole_band : ArePainted band cells band.depth 0 1 (replicate 4096 0) block =
    subst (λ h. ArePainted band cells h 0 1 (replicate 4096 0) block) top (subst (λ c. ArePainted band cells whole.height c (c + 1) (replicate 4096 0) block) first painted) in
    subst (λ w. Puts before after w result) (band_is_painted band cells block is long whole_band) puts
