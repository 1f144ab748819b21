-- Numbers read are those that were written.
use Rattle.std.proofs.Common.{ap, ◌∙◌, pos}
use Rattle.std.specs.Result.{result_ok}
use Rattle.node_file.proofs.Fields.{grid_read}
use Rattle.node_file.proofs.framing.grid_at.Goals as goal

pub returns : goal.returns
returns c = λ format grid is.
    c.ok.ensures.value
    ∙ ap result_ok
    (c.new.ensures
    ∙ grid_read format grid c.args.bytes.now is c.from.result c.signed_at.result c.signed_at-2.result c.signed_at-3.result c.signed_at-4.result (record {
      depth_is = c.from.ensures ∙ ap pos c.depth_at.ensures;
      x_is = c.signed_at.ensures;
      y_is = c.signed_at-2.ensures;
      z_is = c.signed_at-3.ensures;
      cell_is = c.signed_at-4.ensures;
    }))
