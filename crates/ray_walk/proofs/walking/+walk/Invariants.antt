-- The height falls. On a tree the children so far were walked; and whatever the words are, the best hit is one of the grid's cells, the file and its lender are the same, and no count fell.
use Rattle.std.proofs.Common.{◌≡◌, ◌+◌, ◌^◌, ◌<◌, ◌≤◌, IfSome}
use Rattle.ray_walk.proofs.Treading.{IsTreading, IsOwnWord}
use Rattle.ray_walk.proofs.walking.+walk.Given as goal

abbrev pub decreases-walk : goal.decreases-walk
decreases-walk g l = l.spot.now.height

abbrev pub invariant-loop-k : goal.invariant-loop-k
invariant-loop-k g l =
    IsTreading (g.R.Records.file l.fn.nodes).words l.flight l.spot l.fn.known l.k l.best l.fn.reads l.reads
    × IsOwnWord (g.R.Records.file l.fn.nodes).words l.spot l.word
    × IfSome l.best (λ best. best.code < 8 ^ l.flight.grid.depth)
    × (g.R.Records.faults l.fn.nodes ≤ g.R.Records.faults l.nodes)
    × (g.R.Records.looked l.nodes + l.fn.reads ≤ g.R.Records.looked l.fn.nodes + l.reads)
    × (g.R.Records.file l.nodes ≡ g.R.Records.file l.fn.nodes)
    × (g.R.Records.lender l.nodes ≡ g.R.Records.lender l.fn.nodes)
