use Rattle.std.proofs.Common.{◌≡◌, ℕ, List, ◌-◌, ◌∙◌, length, take, drop, arith, length-take-le, length-drop}
use Rattle.host_files.proofs.MovedBytes.{consumes_on}
use borrow.Rule.Slice.PartMut.{put_mid, same_len_mid}
use Rattle.host_files.proofs.transfers.read_whole.Goals as goal

pub loop-done-preserved : goal.loop-done-preserved
loop-done-preserved g c =
    let done : ℕ = c.loop-done.done in
    let into : List ℕ = c.loop-done.into in
    let ys : List ℕ = c.read.new.buf in
    let k : ℕ = length into - done in
    let size : length (put_mid done k into ys) ≡ length into = same_len_mid done k into ys c.read.auto.buf in
    let room : length (take k (drop done into)) ≡ k = length-take-le k (drop done into) (omega (arith, length-drop done into)) in (
      omega (arith, size, room, c.read.auto.buf, c.in_ok-count.ensures.bound.0, c.loop-done.invariant.0),
      size ∙ c.loop-done.invariant.1,
      consumes_on (g.F.Read.remaining c.args.file.now) (g.F.Read.remaining c.loop-done.file) (g.F.Read.remaining c.read.new.self) into ys done k c.in_ok-count.count c.loop-done.invariant.0 (c.in_ok-count.ensures.bound.0) c.loop-done.invariant.2 c.in_ok-count.ensures.bytes.0,
    )
