-- A table in which no word is remembered.
use Rattle.std.proofs.Common.{◌≡◌, ◌<◌, ◌^◌, ap, ◌∙◌, arith, replicate}
use Rattle.std.specs.Prelude.{slice_index}
use Rattle.std.proofs.lemmas.List.{get_or-replicate}
use Rattle.node_file.specs.FileView.{FileView}
use Rattle.recent_words.specs.Tables.{AreWords}
use Rattle.recent_words.specs.declared.table.Table.{Table}

-- no file has a word of the number that empty places have
pub none_yet : (file : FileView) (table : Table) → file.totals.records < 2 ^ 64 → table.numbers ≡ replicate 1024 18446744073709551615 → AreWords file table
none_yet file table few empty at within there =
    let none : slice_index table.numbers at ≡ 18446744073709551615 = ap (λ xs. slice_index xs at) empty ∙ get_or-replicate 1024 at 18446744073709551615 0 within in
    absurd (omega (arith, few, none, there))
