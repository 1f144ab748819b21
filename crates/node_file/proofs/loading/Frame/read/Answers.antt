-- The file's length, its header and its trailer say whether it is framed.
use Rattle.std.proofs.Common.{◌-◌, take, drop, ◌≡◌, ◌∙◌}
use Rattle.node_file.proofs.Loads.{no_length, piece_read, frame_found, no_frame_found}
use Rattle.node_file.proofs.loading.Frame.read.Goals as goal

pub returns-in_default-clause-found : goal.returns-in_default-clause-found
returns-in_default-clause-found g c = no_length (g.N.NodeStore.files c.args.store.now) c.args.name.now c.in_ok-length.length c.in_ok-length.ensures.found c.in_default.ensures.missing

pub returns-in-Some-frame_from-clause-found : goal.returns-in-Some-frame_from-clause-found
returns-in-Some-frame_from-clause-found g c =
    frame_found c.args.name.now c.in_ok-length.length c.in-Some.records c.in_ok-header.header c.in_ok-trailer.trailer c.in-Some.ensures.found.1 (g.N.NodeStore.files c.args.store.now) c.in-Some-frame_from.frame
    c.in_ok-length.ensures.found
    (piece_read (g.N.NodeStore.files c.args.store.now) (g.N.NodeStore.files c.open.new.store) (g.N.NodeStore.current c.open.new.store) c.args.name.now (λ bytes. c.in_ok-header.header ≡ take 48 (drop 0 bytes))
    c.in_ok-length.ensures.files c.in_ok-length.ensures.current c.in_ok-header.ensures.bytes)
    (piece_read (g.N.NodeStore.files c.args.store.now) (g.N.NodeStore.files c.read_piece.new.store) (g.N.NodeStore.current c.read_piece.new.store) c.args.name.now (λ bytes. c.in_ok-trailer.trailer ≡ take 32 (drop (c.in_ok-length.length - 32) bytes))
    (c.in_ok-header.ensures.files ∙ c.in_ok-length.ensures.files) (c.in_ok-header.ensures.current ∙ c.in_ok-length.ensures.current) c.in_ok-trailer.ensures.bytes)
    c.in-Some-frame_from.ensures.found

pub returns-in-None-clause-found : goal.returns-in-None-clause-found
returns-in-None-clause-found g c =
    no_frame_found c.args.name.now c.in_ok-length.length c.in-Some.records c.in_ok-header.header c.in_ok-trailer.trailer c.in-Some.ensures.found.1 (g.N.NodeStore.files c.args.store.now)
    c.in_ok-length.ensures.found
    (piece_read (g.N.NodeStore.files c.args.store.now) (g.N.NodeStore.files c.open.new.store) (g.N.NodeStore.current c.open.new.store) c.args.name.now (λ bytes. c.in_ok-header.header ≡ take 48 (drop 0 bytes))
    c.in_ok-length.ensures.files c.in_ok-length.ensures.current c.in_ok-header.ensures.bytes)
    (piece_read (g.N.NodeStore.files c.args.store.now) (g.N.NodeStore.files c.read_piece.new.store) (g.N.NodeStore.current c.read_piece.new.store) c.args.name.now (λ bytes. c.in_ok-trailer.trailer ≡ take 32 (drop (c.in_ok-length.length - 32) bytes))
    (c.in_ok-header.ensures.files ∙ c.in_ok-length.ensures.files) (c.in_ok-header.ensures.current ∙ c.in_ok-length.ensures.current) c.in_ok-trailer.ensures.bytes)
    c.in-None.ensures.missing
