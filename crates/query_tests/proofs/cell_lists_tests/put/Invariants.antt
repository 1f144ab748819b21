-- A ledger of its own for each count.
use Rattle.query_tests.proofs.cell_lists_tests.put.Given as goal

abbrev pub ghosts-put_in-L-Ledger : goal.ghosts-put_in-L-Ledger
ghosts-put_in-L-Ledger a = record { name = a.blank.name; parts = a.blank.parts }

abbrev pub ghosts-put_in-M-Ledger : goal.ghosts-put_in-M-Ledger
ghosts-put_in-M-Ledger a = record { name = a.other.name; parts = a.other.parts }
