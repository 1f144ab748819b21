-- What a table of words says of a file.
use Rattle.std.specs.Prelude.{◌≡◌, ℕ, ◌<◌, slice_index}
use Rattle.std.specs.Option.{ForSome}
use Rattle.node_file.specs.FileView.{FileView}
use Rattle.recent_words.specs.declared.table.Table.{Table}

-- each word that is remembered is the file's, where its words are told
abbrev pub AreWords : FileView → Table → Type 0
AreWords file table =
    (at : ℕ) → at < 1024 → slice_index table.numbers at < file.totals.records → ForSome file.words (λ words. slice_index table.words at ≡ slice_index words (slice_index table.numbers at))
