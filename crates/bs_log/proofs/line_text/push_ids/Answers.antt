use Rattle.std.proofs.Common.{take}
use Rattle.std.specs.List.{flat_map}
use Rattle.bs_log.specs.LineText.{id_text}
use Rattle.bs_log.proofs.Keeping.{on_err, keeps_after}
use Rattle.bs_log.proofs.line_text.push_ids.Goals as goal

pub returns-in_err-push_id-clause-err : goal.returns-in_err-push_id-clause-err
returns-in_err-push_id-clause-err c =
    on_err c.from_residual.result _
    (keeps_after c.args.text.now.items c.loop-id.text.items c.push_id.new.text.items
    (flat_map id_text (take c.loop-id.id-index c.args.ids.now)) c.loop-id.invariant c.in_err-push_id.ensures.err)
