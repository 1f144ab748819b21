-- A node that is not met changes nothing; a cell that is met is put; a node above it is its children. All is said of the smaller node, and carried over to the whole one.
use Rattle.std.proofs.Common.{◌≡◌, suc, ◌+◌, ◌-◌, ◌*◌, ◌≤◌, length, arith, refl, sym, subst, ◌∙◌}
use Rattle.octree_specs.specs.Meeting.{Meets}
use Rattle.octree_specs.specs.Parts.{passing}
use Rattle.morton_scan.proofs.Counting.{child_tests, tests_within}
use Rattle.morton_scan.specs.Nodes.{HasSlots}
use Rattle.morton_scan.proofs.Levels.{child_slots}
use Rattle.morton_scan.proofs.NodesBelow.{leaf_place, not_met, put_unmet, put_leaf}
use Rattle.morton_scan.proofs.Putting.{put_child, put_children}
use Rattle.morton_scan.proofs.SmallerNodes.{put_narrowed, put_unmet_octant}
use Rattle.morton_scan.proofs.filling.+fill_node.Goals as goal
use Rattle.morton_scan.proofs.filling.+fill_node.Goals.{then-has, else-has}

pub returns-then-not-overlaps-clause-slots : goal.returns-then-not-overlaps-clause-slots
returns-then-not-overlaps-clause-slots g t c =
    let narrow = c.narrowed-node.ensures.narrow c.args.put.now.triangle c.requires.bounds in
    put_narrowed c.args.grid.now c.args.put.now.triangle c.args.whole.now c.narrowed-node.result c.args.put.now.first c.args.put.now.face c.args.slots.now c.args.slots.now narrow
    (put_unmet c.args.grid.now c.args.put.now.triangle c.narrowed-node.result.height c.narrowed-node.result.code c.args.put.now.first c.args.put.now.face c.args.slots.now c.narrowed-node.ensures.node.within
    (λ met. not_met c.overlaps.result c.overlaps.ensures.meets c.if-not-overlaps.true (subst (λ cube. Meets c.args.put.now.triangle cube) (sym c.narrowed-node.ensures.node.is_cube) met)))

pub overflow_sub-node : goal.overflow_sub-node
overflow_sub-node g t c =
    let narrow = c.narrowed-node.ensures.narrow c.args.put.now.triangle c.requires.bounds in
    (leaf_place c.args.put.now.first (length c.args.slots.now) c.narrowed-node.result.height c.narrowed-node.result.code c.if-node-eq0.true (narrow.slots c.args.put.now.first (length c.args.slots.now) c.requires.slots)).0

pub put_touched-requires-clause-place : goal.put_touched-requires-clause-place
put_touched-requires-clause-place g t c =
    let narrow = c.narrowed-node.ensures.narrow c.args.put.now.triangle c.requires.bounds in
    (leaf_place c.args.put.now.first (length c.args.slots.now) c.narrowed-node.result.height c.narrowed-node.result.code c.if-node-eq0.true (narrow.slots c.args.put.now.first (length c.args.slots.now) c.requires.slots)).1

pub returns-then-node-eq0-clause-slots : goal.returns-then-node-eq0-clause-slots
returns-then-node-eq0-clause-slots g t c =
    let narrow = c.narrowed-node.ensures.narrow c.args.put.now.triangle c.requires.bounds in
    put_narrowed c.args.grid.now c.args.put.now.triangle c.args.whole.now c.narrowed-node.result c.args.put.now.first c.args.put.now.face c.args.slots.now c.put_touched.new.slots narrow
    (put_leaf c.args.grid.now c.args.put.now.triangle c.narrowed-node.result.height c.narrowed-node.result.code c.args.put.now.first c.args.put.now.face c.args.slots.now c.put_touched.new.slots
    c.if-node-eq0.true (narrow.slots c.args.put.now.first (length c.args.slots.now) c.requires.slots)
    (subst (λ cube. Meets c.args.put.now.triangle cube) c.narrowed-node.ensures.node.is_cube (c.overlaps.ensures.meets.0 c.if-not-overlaps.false)) c.put_touched.ensures.slot)

pub fill_node-requires : goal.fill_node-requires
fill_node-requires g t c κs within =
    let narrow = c.narrowed-node.ensures.narrow c.args.put.now.triangle c.requires.bounds in
    let lower : c.child.result.height + 1 ≡ c.narrowed-node.result.height = c.child.ensures.height in
    let up : c.narrowed-node.result.height ≡ suc c.child.result.height = omega (arith, lower) in
    let child : HasSlots c.args.put.now.first (length c.args.slots.now) c.child.result.height c.child.result.code =
    rw c.child.ensures.code (child_slots c.args.put.now.first (length c.args.slots.now) c.narrowed-node.result.height c.child.result.height c.narrowed-node.result.code c.loop-octant.octant up c.loop-octant-test.true
    (narrow.slots c.args.put.now.first (length c.args.slots.now) c.requires.slots)) in
    let has : HasSlots c.args.put.now.first (length c.loop-octant.slots) c.child.result.height c.child.result.code =
    subst (λ n. HasSlots c.args.put.now.first n c.child.result.height c.child.result.code) (sym c.loop-octant.auto.slots) child in
    (omega (arith, c.decreases, lower, narrow.lower), (within, (c.child.ensures.node, (c.requires.face, (c.requires.bounds, (has, c.loop-octant.invariant.1))))))

pub loop-octant-preserved : goal.loop-octant-preserved
loop-octant-preserved g t c =
    elim c.if-has.branch [
      | then-has w ↦
          let same : w.child.result.height ≡ c.narrowed-node.result.height - 1 = omega (arith, w.child.ensures.height) in
          rw (w.slots-is, w.blocks-is, w.tests-is) (
            put_child c.args.grid.now c.args.put.now.triangle (c.narrowed-node.result.height - 1) (8 * c.narrowed-node.result.code) c.loop-octant.octant w.child.result.height w.child.result.code
                c.args.put.now.first c.args.put.now.face c.args.slots.now c.loop-octant.slots w.fill_node.new.slots same w.child.ensures.code c.loop-octant.invariant.0 w.fill_node.ensures.slots,
            w.fill_node.ensures.touched,
            λ test pass. child_tests test c.args.tests.now c.loop-octant.tests w.fill_node.new.tests (c.narrowed-node.result.height - 1) c.narrowed-node.result.code c.loop-octant.octant w.child.result.height w.child.result.code
                same w.child.ensures.code (c.loop-octant.invariant.2 test pass) (w.fill_node.ensures.tests test pass),
          )
      | else-has w ↦ rw (w.slots-is, w.blocks-is, w.tests-is) (
        put_unmet_octant c.args.grid.now c.args.put.now.triangle c.narrowed-node.result c.loop-octant.octant c.args.put.now.first c.args.put.now.face c.args.slots.now c.loop-octant.slots
            c.narrowed-node.ensures.node (c.reached_octants-octants.ensures.unmet c.args.put.now.triangle c.requires.bounds c.loop-octant.octant c.loop-octant-test.true (sym c.has.ensures ∙ w.if-has.false)) c.loop-octant.invariant.0,
        c.loop-octant.invariant.1,
        λ test pass. child_tests test c.args.tests.now c.loop-octant.tests c.loop-octant.tests (c.narrowed-node.result.height - 1) c.narrowed-node.result.code c.loop-octant.octant (c.narrowed-node.result.height - 1) (8 * c.narrowed-node.result.code + c.loop-octant.octant)
            refl refl (c.loop-octant.invariant.2 test pass) (omega arith),
      )
    ]

pub returns-clause-slots : goal.returns-clause-slots
returns-clause-slots g t c =
    let narrow = c.narrowed-node.ensures.narrow c.args.put.now.triangle c.requires.bounds in
    let last : c.loop-octant.octant ≡ 8 = omega (arith, c.loop-octant-test.false, c.loop-octant.auto.octant-end) in
    put_narrowed c.args.grid.now c.args.put.now.triangle c.args.whole.now c.narrowed-node.result c.args.put.now.first c.args.put.now.face c.args.slots.now c.loop-octant.slots narrow
    (put_children c.args.grid.now c.args.put.now.triangle (c.narrowed-node.result.height - 1) c.narrowed-node.result.height c.narrowed-node.result.code c.args.put.now.first c.args.put.now.face c.args.slots.now c.loop-octant.slots
    (omega (arith, c.if-node-eq0.false)) (rw last at c.loop-octant.invariant.0))

pub returns-clause-tests : goal.returns-clause-tests
returns-clause-tests g t c test pass =
    let narrow = c.narrowed-node.ensures.narrow c.args.put.now.triangle c.requires.bounds in
    let last : c.loop-octant.octant ≡ 8 = omega (arith, c.loop-octant-test.false, c.loop-octant.auto.octant-end) in
    let counted : c.loop-octant.tests ≤ c.args.tests.now + 1 + 8 * passing test c.narrowed-node.result.height c.narrowed-node.result.code =
    tests_within c.args.grid.now c.args.put.now.triangle test c.args.tests.now c.loop-octant.tests c.narrowed-node.result.height c.narrowed-node.result.code c.loop-octant.octant
    c.if-node-eq0.false last pass (subst (λ cube. Meets c.args.put.now.triangle cube) c.narrowed-node.ensures.node.is_cube (c.overlaps.ensures.meets.0 c.if-not-overlaps.false))
    (c.loop-octant.invariant.2 test pass) in
    omega (arith, counted, narrow.fewer test)
