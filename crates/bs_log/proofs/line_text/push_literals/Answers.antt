use Rattle.std.proofs.Common.{take}
use Rattle.std.specs.List.{flat_map}
use Rattle.bs_log.specs.LineText.{literal_text}
use Rattle.bs_log.proofs.Keeping.{on_err, keeps_after}
use Rattle.bs_log.proofs.line_text.push_literals.Goals as goal

pub returns-in_err-push_literal-clause-err : goal.returns-in_err-push_literal-clause-err
returns-in_err-push_literal-clause-err c =
    on_err c.from_residual.result _
    (keeps_after c.args.text.now.items c.loop-literal.text.items c.push_literal.new.text.items
    (flat_map literal_text (take c.loop-literal.literal-index c.args.literals.now)) c.loop-literal.invariant c.in_err-push_literal.ensures.err)
