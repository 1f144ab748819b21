-- The nodes that wait weigh less each time. The file and its lender stay, no count of faults fell, and the file was asked no more often than `reads` says.
use Rattle.std.proofs.Common.{◌≡◌, ◌+◌, ◌≤◌}
use Rattle.near_query.specs.Queues.{weight_of}
use Rattle.near_query.proofs.Looping.{IsLooping}
use Rattle.near_query.proofs.searching.Search.near.Given as goal

abbrev pub invariant-loop-node : goal.invariant-loop-node
invariant-loop-node g l =
    IsLooping l.fn.point (g.R.Records.file l.fn.nodes) l.best l.self.waiting l.fn.reads l.reads
    × (g.R.Records.faults l.fn.nodes ≤ g.R.Records.faults l.nodes)
    × (g.R.Records.looked l.nodes + l.fn.reads ≤ g.R.Records.looked l.fn.nodes + l.reads)
    × (g.R.Records.file l.nodes ≡ g.R.Records.file l.fn.nodes)
    × (g.R.Records.lender l.nodes ≡ g.R.Records.lender l.fn.nodes)

abbrev pub decreases-loop-node : goal.decreases-loop-node
decreases-loop-node g l = weight_of l.self.waiting
