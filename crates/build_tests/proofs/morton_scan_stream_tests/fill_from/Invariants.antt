-- A ledger of its own for each call.
use Rattle.build_tests.proofs.morton_scan_stream_tests.fill_from.Given as goal

abbrev pub ghosts-fill_counted : goal.ghosts-fill_counted
ghosts-fill_counted g a = record { name = a.blank.name; parts = a.blank.parts }
