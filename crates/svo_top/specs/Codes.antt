-- The exit status of each way to end.
use Rattle.std.specs.Prelude.{ℕ}
use Rattle.svo_top.specs.declared.outcome.Status.{Status}
use Rattle.svo_top.specs.declared.outcome.Status.TheVariants.{Done, Usage, Input, Range, Device, Refused, Memory}

abbrev pub code_of_status : Status → ℕ
code_of_status Done = 0
code_of_status (Usage kind) = 2
code_of_status (Input kind place) = 3
code_of_status (Range fault) = 4
code_of_status (Device device) = 5
code_of_status (Refused refusal) = 6
code_of_status Memory = 7
