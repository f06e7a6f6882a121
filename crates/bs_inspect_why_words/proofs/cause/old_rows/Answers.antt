use Rattle.std.proofs.Common.{map, ap, ◌∙◌, arith}
use Rattle.std.proofs.lemmas.List.{take_all}
use Rattle.bs_inspect_view.specs.Signals.{signal_in}
use Rattle.bs_inspect_why_words.specs.Causes.{old_row, old_rows}
use Rattle.bs_inspect_why_words.proofs.StepLemmas.{flat_more}
use Rattle.bs_inspect_why_words.proofs.cause.old_rows.Goals as goal

pub rows-init : goal.rows-init
rows-init c = c.new-olds.ensures.items

pub put_old-requires : goal.put_old-requires
put_old-requires c = c.requires c.rows.i _ (omega (arith, c.rows-test.true))

pub rows-preserved : goal.rows-preserved
rows-preserved c =
    flat_more
    (old_row c.args.causes.now.shares c.args.causes.now.cycle c.args.causes.now.bits.now (map signal_in c.args.causes.now.signals.now) c.args.bit)
    c.args.rows.now c.rows.i _ c.rows.olds.items c.put_old.new.olds.items (omega (arith, c.rows-test.true)) c.rows.invariant
    c.in_ok-put_old.ensures

pub returns : goal.returns
returns c = record {
  are =
      c.rows.invariant
      ∙ ap
      (old_rows c.args.causes.now.shares c.args.causes.now.cycle c.args.causes.now.bits.now (map signal_in c.args.causes.now.signals.now) c.args.bit)
      (take_all c.rows.i c.args.rows.now (omega (arith, c.rows-test.false)));
}
