use Rattle.morton_scan.proofs.FilledParts.{fills_from_parcels}
use Rattle.morton_scan.proofs.laws.parcels_fill_their_slots.Goals as goal

pub returns : goal.returns
returns c = fills_from_parcels
