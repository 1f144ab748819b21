use Rattle.std.proofs.Common.{◌∙◌, drop, ap, sym}
use Rattle.std.proofs.lemmas.List.{drop-drop}
use Rattle.ply_reader.proofs.slices.all_behind.Goals as goal

pub returns-in-Some : goal.returns-in-Some
returns-in-Some g c = ap (drop 1) (sym c.in-Some.ensures.cases.0 ∙ c.all_from.ensures) ∙ drop-drop 1 c.args.at c.args.items.now
