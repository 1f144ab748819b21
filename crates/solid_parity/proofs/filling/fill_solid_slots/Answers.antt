use Rattle.std.proofs.Common.{refl}
use Rattle.solid_parity.proofs.TakenNotes.{kept_empty, parities_taken}
use Rattle.solid_parity.proofs.filling.fill_solid_slots.Goals as goal

pub note_parcels-requires-clause-kept : goal.note_parcels-requires-clause-kept
note_parcels-requires-clause-kept g c = rw c.new-columns.ensures (kept_empty _ _ _ _ c.requires.side c.requires.slots c.requires.touched c.requires.empty refl)

pub returns-clause-filled : goal.returns-clause-filled
returns-clause-filled g c =
    parities_taken c.args.grid.now c.args.split c.args.part (g.S.Scratch.told c.args.scratch.now) _ _ c.args.slots.now c.note_parcels.new.slots c.settle.new.slots c.new-columns.result
    c.requires.split c.requires.side c.requires.empty c.new-columns.ensures c.in_ok-note_parcels.was c.note_parcels.ensures.noted c.settle.ensures.settled
