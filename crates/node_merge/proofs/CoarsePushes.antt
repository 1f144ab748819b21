-- Nodes are pushed one after another toward a coarser map.
use Rattle.std.proofs.Common.{◌≡◌, ℕ, ◌+◌, ◌-◌, ◌*◌, ◌^◌, ◌≤◌, List, [], Option, None, Some, subst, arith}
use Rattle.dev_traits.specs.declared.device.ByteSink.{Ghosts}
use Rattle.svo_base.specs.GridShape.{GridShape}
use Rattle.node_file.specs.FileView.{FileView}
use Rattle.node_file.specs.declared.writer.NodeWriter.{NodeWriter}
use Rattle.node_check.specs.declared.cursor.FacedCell.{FacedCell}
use Rattle.level_queues.specs.PushedFiles.{HasPushed}
use Rattle.level_queues.specs.declared.levels.LevelQueues.{LevelQueues}
use Rattle.level_queues.proofs.PushedFiles.{PushesFront, PushesCell}
use Rattle.node_merge.specs.Combined.{coarse_grid}
use Rattle.node_merge.specs.Gathered.{GathersNext}
use Rattle.node_merge.specs.Maps.{IsCoarse, AreCoarseFaces}
use Rattle.node_merge.specs.Pushing.{IsFront, PushesTo, PushesAll, HoldsFirst}
use Rattle.node_merge.specs.declared.fronts.Front.{Front}
use Rattle.node_merge.proofs.CoarseNodes.{covers_coarse}
use Rattle.node_merge.proofs.ToMaps.{to_none, to_next, holds_first, holds_next, pushes_all}

module _ {O : Type 0} {g : Ghosts O} where
  -- the nodes below one were pushed, and the walk stands at the first cell from there on
  pub record IsPushing (file : FileView) (levels : ℕ) (front : Front) (given : LevelQueues) (begun : NodeWriter O g) (queues : LevelQueues) (writer : NodeWriter O g) : Type 0 where
    pub from : ℕ
    pub stands : IsFront file (from * 8 ^ levels) front
    pub inside : from ≤ 8 ^ (file.grid.depth - levels)
    pub pushed : (start : Option (List ℕ)) → HasPushed (coarse_grid levels file.grid) start 0 [] given begun → PushesTo (coarse_grid levels file.grid) start (AreCoarseFaces file levels) from queues writer

  module _ (file : FileView) (levels : ℕ) (given : LevelQueues) (begun : NodeWriter O g) where
    pub pushing_none : (front : Front) → IsFront file 0 front → IsPushing file levels front given begun given begun
    pushing_none front stands = record {
      from = 0;
      stands = subst (λ n. IsFront file n front) (omega arith) stands;
      inside = omega arith;
      pushed = λ start has. to_none (coarse_grid levels file.grid) start (AreCoarseFaces file levels) given begun has;
    }

    module _ (front : Front) (queues : LevelQueues) (writer : NodeWriter O g) (on : IsPushing file levels front given begun queues writer) where
      pub pushing_first : (start : Option (List ℕ)) → HasPushed (coarse_grid levels file.grid) start 0 [] given begun → HoldsFirst (coarse_grid levels file.grid) start (IsCoarse file levels) (g.written writer.sink.now)
      pushing_first start has =
          holds_first (coarse_grid levels file.grid) start (AreCoarseFaces file levels) (IsCoarse file levels) (covers_coarse file levels) on.from queues writer on.inside (on.pushed start has)

      pub pushing_all : (now : Front) → ((from : ℕ) → IsFront file (from * 8 ^ levels) front → GathersNext file levels from now None)
          → (start : Option (List ℕ)) → HasPushed (coarse_grid levels file.grid) start 0 [] given begun → PushesAll (coarse_grid levels file.grid) start (IsCoarse file levels) queues writer
      pushing_all now gathers start has =
          pushes_all (coarse_grid levels file.grid) start (AreCoarseFaces file levels) (IsCoarse file levels) (covers_coarse file levels) on.from queues writer on.inside
          (gathers on.from on.stands) (on.pushed start has)

      module _ (now : Front) (node : FacedCell) (gathers : (from : ℕ) → IsFront file (from * 8 ^ levels) front → GathersNext file levels from now (Some node)) where
        pub pushing_refused : (after : Option (List ℕ)) → PushesFront node.code node.face queues writer after
            → (start : Option (List ℕ)) → HasPushed (coarse_grid levels file.grid) start 0 [] given begun → HoldsFirst (coarse_grid levels file.grid) start (IsCoarse file levels) after
        pushing_refused after push start has =
            let next = gathers on.from on.stands in
            holds_next (coarse_grid levels file.grid) start (AreCoarseFaces file levels) (IsCoarse file levels) (covers_coarse file levels) on.from node.code node.face queues writer after
            next.0 next.1 next.2 push (on.pushed start has)

        pub pushing_next : (new : LevelQueues) (after : NodeWriter O g) → node.face ≤ 4294967294 → PushesCell node.code node.face queues new writer after → IsPushing file levels now given begun new after
        pushing_next new after small push =
            let next = gathers on.from on.stands in
            record {
              from = node.code + 1;
              stands = next.3;
              inside = omega (arith, next.1);
              pushed = λ start has. to_next (coarse_grid levels file.grid) start (AreCoarseFaces file levels) on.from node.code node.face queues new writer after
                  next.0 (omega (arith, small)) next.2 push (on.pushed start has);
            }

  -- the queues and the writer of the coarser grid
  pub begun_coarse : (file : FileView) (levels : ℕ) (grid : GridShape) (start : Option (List ℕ)) (queues : LevelQueues) (writer : NodeWriter O g) → grid ≡ coarse_grid levels file.grid
      → HasPushed grid start 0 [] queues writer → HasPushed (coarse_grid levels file.grid) start 0 [] queues writer
  begun_coarse file levels grid start queues writer same has = subst (λ (shape : GridShape). HasPushed shape start 0 [] queues writer) same has
