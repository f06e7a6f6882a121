use Rattle.std.proofs.Common.{List, ◌++◌, map, ap, sym, ◌∙◌, arith}
use Rattle.std.proofs.lemmas.List.{append-nil, take_all}
use Rattle.bs_inspect_view.specs.Signals.{signal_in}
use Rattle.bs_inspect_why_words.specs.declared.row.Row.{Row}
use Rattle.bs_inspect_why_words.specs.Causes.{row_names}
use Rattle.bs_inspect_why_words.proofs.CauseLemmas.{names_more}
use Rattle.bs_inspect_why_words.proofs.cause.push_names.Goals as goal

pub rows-init : goal.rows-init
rows-init c = sym (append-nil c.args.text.now.items)

pub push_name-requires : goal.push_name-requires
push_name-requires c = c.requires c.rows.i _ (omega (arith, c.rows-test.true))

pub rows-preserved : goal.rows-preserved
rows-preserved c =
    names_more (map signal_in c.args.signals.now) c.args.rows.now c.rows.i _ c.args.text.now.items c.rows.text.items c.push_comma.new.text.items
    c.push_name.new.text.items (omega (arith, c.rows-test.true)) c.rows.invariant c.in_ok-push_comma.ensures c.in_ok-push_name.ensures

pub returns : goal.returns
returns c =
    c.rows.invariant
    ∙ ap (λ (rs : List Row). c.args.text.now.items ++ row_names (map signal_in c.args.signals.now) rs)
    (take_all c.rows.i c.args.rows.now (omega (arith, c.rows-test.false)))
