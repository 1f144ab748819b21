-- The input is read as ASCII from what it tells at the start.
use Rattle.svo_top.proofs.building.build.Given as goal

abbrev pub ghosts-build_text : goal.ghosts-build_text
ghosts-build_text g a = record { told = g.I.ByteSource.rest a.input.now }
