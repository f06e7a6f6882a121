use Rattle.std.proofs.Common.{List, ◌++◌, map, ap, sym, ◌∙◌, arith}
use Rattle.std.specs.List.{flat_map}
use Rattle.std.proofs.lemmas.List.{append-nil, take_all}
use Rattle.bs_inspect_view.specs.Signals.{signal_in}
use Rattle.bs_inspect_why_words.specs.declared.row.Row.{Row}
use Rattle.bs_inspect_why_words.specs.Causes.{row_line}
use Rattle.bs_inspect_why_words.proofs.StepLemmas.{step_more}
use Rattle.bs_inspect_why_words.proofs.cause.push_rows.Goals as goal

pub rows-init : goal.rows-init
rows-init c = sym (append-nil c.args.text.now.items)

pub push_row-requires-clause-placed : goal.push_row-requires-clause-placed
push_row-requires-clause-placed c = c.requires.placed c.rows.i _ (omega (arith, c.rows-test.true))

pub rows-preserved : goal.rows-preserved
rows-preserved c =
    step_more
    (row_line c.args.causes.now.shares c.args.causes.now.cycle c.args.causes.now.bits.now (map signal_in c.args.causes.now.signals.now))
    c.args.rows.now c.rows.i _ c.args.text.now.items c.rows.text.items c.push_row.new.text.items (omega (arith, c.rows-test.true))
    c.rows.invariant c.in_ok-push_row.ensures

pub returns : goal.returns
returns c =
    c.rows.invariant
    ∙ ap
    (λ (rs : List Row).
    c.args.text.now.items
    ++ flat_map
    (row_line c.args.causes.now.shares c.args.causes.now.cycle c.args.causes.now.bits.now (map signal_in c.args.causes.now.signals.now)) rs)
    (take_all c.rows.i c.args.rows.now (omega (arith, c.rows-test.false)))
