use Rattle.morton_scan.proofs.TakenParcels.{taken_alone}
use Rattle.morton_scan.proofs.parts.fill_part.Goals as goal

pub returns-clause-filled : goal.returns-clause-filled
returns-clause-filled g c =
    taken_alone c.args.grid.now c.args.split c.args.part (g.S.Scratch.told c.args.scratch.now) c.clear_slots.new.slots c.fill_parcels.new.slots c.args.tests.now c.fill_parcels.new.tests c.fill_parcels.result
    c.clear_slots.ensures c.fill_parcels.ensures.filled
