-- Queries that have no line.
use Rattle.std.proofs.Common.{◌≡◌, ℕ, List, refl, Option, Result, Ok, Err, IfErr}
use Rattle.svo_base.specs.GridShape.{GridShape}
use Rattle.octree_specs.specs.Cells.{Cell}
use Rattle.near_query.specs.declared.cells.NearFault.{NearFault}
use Rattle.near_query.specs.declared.cells.NearFault.TheVariants as near
use Rattle.node_check.specs.declared.walking.WalkFault.TheVariants.{Failed, Refused}
use Rattle.ray_answers.specs.Answering.{MayStop, RefusesNoWord}
use Rattle.ray_answers.specs.LineMeanings.{stop_of_fault}
use Rattle.ray_answers.specs.Runs.{FindsLine, GivesAnswer, IsQueryStop}
use Rattle.ray_answers.specs.declared.queries.Query.{Query}
use Rattle.ray_answers.specs.declared.queries.QueryKind.{QueryKind}
use Rattle.ray_answers.specs.declared.queries.QueryKind.TheVariants.{Points}
use Rattle.ray_answers.specs.declared.stops.LineStop.{LineStop}
use Rattle.ray_answers.specs.declared.stops.LineStop.TheVariants.{AtLine, ReadFault, WriteFault, Walk, Memory}

-- no answer is given, and nothing is said of what was
pub unfound : (T : Type 0) (grid : GridShape) (cells : List Cell) (query : Query) (before : Option (List ℕ)) (fault : NearFault) → FindsLine grid cells query (Err fault)
    → GivesAnswer {T = T} grid cells query before before (Err (stop_of_fault fault))
unfound T grid cells query before (near.Walk Failed) found = tt
unfound T grid cells query before (near.Walk (Refused number word)) found = found
unfound T grid cells query before near.Memory found = tt

pub unrefused : (T : Type 0) (grid : GridShape) (cells : List Cell) (query : Query) (fault : NearFault) → FindsLine grid cells query (Err fault) → RefusesNoWord {T = T} (Err (stop_of_fault fault))
unrefused T grid cells query (near.Walk Failed) found = tt
unrefused T grid cells query (near.Walk (Refused number word)) found = found
unrefused T grid cells query near.Memory found = tt

pub query_stops : (kind : QueryKind) (fault : NearFault) → (fault ≡ near.Memory → kind ≡ Points) → IsQueryStop kind (stop_of_fault fault)
query_stops kind (near.Walk fault) forgot = tt
query_stops kind near.Memory forgot = forgot refl

-- the stops of queries are among those that may come
pub may_stop : {T : Type 0} (kind : QueryKind) (result : Result T LineStop) → IfErr result (IsQueryStop kind) → IfErr result (MayStop kind)
may_stop kind (Ok answered) stops = tt
may_stop kind (Err (AtLine fault)) stops = absurd stops
may_stop kind (Err ReadFault) stops = absurd stops
may_stop kind (Err WriteFault) stops = tt
may_stop kind (Err (Walk fault)) stops = tt
may_stop kind (Err Memory) stops = stops
