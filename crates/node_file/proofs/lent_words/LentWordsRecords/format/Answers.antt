-- The file is framed.
use Rattle.std.proofs.Common.{refl}
use Rattle.node_file.proofs.KnownFormats.{known_format}
use Rattle.node_file.proofs.lent_words.LentWordsRecords.format.Goals as goal

pub returns-clause-framed : goal.returns-clause-framed
returns-clause-framed c = record { known = known_format c.args.self.now.masks; limits = c.args.self.now.limits; some = c.args.self.now.some; told = refl }
