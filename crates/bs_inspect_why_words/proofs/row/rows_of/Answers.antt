use Rattle.std.proofs.Common.{◌∙◌, ap, sym, arith}
use Rattle.bs_inspect_view.specs.declared.signal.Signal.{Signal as CodeSignal}
use Rattle.bs_inspect_why_words.proofs.RowLemmas.{rows_more}
use Rattle.bs_inspect_why_words.proofs.row.rows_of.Goals as goal

pub signals-preserved : goal.signals-preserved
signals-preserved c =
    c.in_ok-push.ensures.items
    ∙ rows_more c.args.ages.now c.args.signals.now c.signals.i c.index-signals-i.result c.slice.result.now c.latest.result c.signals.rows.items
    (omega (arith, c.signals-test.true)) c.index-signals-i.is
    (c.slice.ensures ∙ sym (ap (λ (s : CodeSignal). s.places) c.index-signals-i.is)) c.latest.ensures c.signals.invariant
