use Rattle.morton_scan.proofs.ReachedOctants.{one_octant}
use Rattle.std.proofs.Common.{◌≡◌, ◌<◌, ℕ, true}
use Rattle.morton_scan.specs.Reaching.{has_octant, HasOther}
use Rattle.morton_scan.proofs.OtherOctants.{if_none, beside_x, beside_y, beside_z}
use Rattle.morton_scan.proofs.octants.Octants.only.Goals as goal

pub returns-clause-only : goal.returns-clause-only
returns-clause-only c other below apart =
    one_octant c.args.self.now c.in_ok-x.x c.in_ok-y.y c.in_ok-z.z other below apart c.in_ok-x.ensures.only c.in_ok-y.ensures.only c.in_ok-z.ensures.only

pub returns-in_err-x-clause-others : goal.returns-in_err-x-clause-others
returns-in_err-x-clause-others c =
    let octants = c.args.self.now in
    if_none c.from_residual.result ((octant : ℕ) → octant < 8 → has_octant octants octant ≡ true → HasOther octants octant)
    (λ octant below reached. beside_x octants octant below reached c.in_err-x.ensures.both.0 c.in_err-x.ensures.both.1)

pub returns-in_err-y-clause-others : goal.returns-in_err-y-clause-others
returns-in_err-y-clause-others c =
    let octants = c.args.self.now in
    if_none c.from_residual-in_err-y.result ((octant : ℕ) → octant < 8 → has_octant octants octant ≡ true → HasOther octants octant)
    (λ octant below reached. beside_y octants octant below reached c.in_err-y.ensures.both.0 c.in_err-y.ensures.both.1)

pub returns-in_err-z-clause-others : goal.returns-in_err-z-clause-others
returns-in_err-z-clause-others c =
    let octants = c.args.self.now in
    if_none c.from_residual-in_err-z.result ((octant : ℕ) → octant < 8 → has_octant octants octant ≡ true → HasOther octants octant)
    (λ octant below reached. beside_z octants octant below reached c.in_err-z.ensures.both.0 c.in_err-z.ensures.both.1)
