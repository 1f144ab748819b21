-- Header and trailer are those of two formats, or of a file with another number of words.
use Rattle.node_file.proofs.Frames.{no_frame_of}
use Rattle.node_file.proofs.loading.frame_from.Goals as goal

pub returns-then-end-format-clause-missing : goal.returns-then-end-format-clause-missing
returns-then-end-format-clause-missing c =
    no_frame_of c.args.records c.in_ok-end.end c.in_ok-format.format c.in_ok-format.grid c.in_ok-end.totals c.args.header.now c.args.trailer.now c.in_ok-format.ensures.found c.in_ok-end.ensures.found
    c.then-end-format.either
