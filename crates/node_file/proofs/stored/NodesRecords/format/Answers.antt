-- The file is framed.
use Rattle.node_file.specs.Viewing.{bytes_of}
use Rattle.node_file.proofs.Frames.{file_view}
use Rattle.node_file.proofs.stored.NodesRecords.format.Goals as goal

pub returns-clause-framed : goal.returns-clause-framed
returns-clause-framed g c = file_view (bytes_of c.args.self.now) c.args.self.now.frame c.args.self.now.format c.args.self.now.limits c.args.self.now.some
