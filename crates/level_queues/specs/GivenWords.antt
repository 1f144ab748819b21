-- Words that a writer is given, behind those before.
use Rattle.std.specs.Prelude.{ℕ, List, map, Option}
use Rattle.std.specs.List.{flat_map}
use Rattle.std.specs.Int.{w64, to_le_bytes}
use Rattle.std.specs.Io.KnownBytes.{append_known}
use Rattle.room_plan.specs.declared.queues.QueueEntry.{QueueEntry}

-- the bytes of these words behind the bytes before, where those are told
unfoldable pub with_words : Option (List ℕ) → List ℕ → Option (List ℕ)
with_words told words = append_known told (flat_map (to_le_bytes w64) words)

abbrev pub words_in : List QueueEntry → List ℕ
words_in queue = map (λ (entry : QueueEntry). entry.word) queue
