use Rattle.std.proofs.Common.{◌≡◌, ◌∷◌, ◌++◌, ℕ, List, [], map, ap, subst, ◌∙◌, decimal, slice_get, None}
use Rattle.std.specs.Prelude.{OnOk}
use Rattle.bs_inspect_view.specs.declared.signal.Signal.{Signal as CodeSignal}
use Rattle.bs_inspect_view.specs.Signals.{signal_in}
use Rattle.bs_inspect_report.specs.Table.{origin_cells, value_cells}
use Rattle.bs_inspect_report.specs.Trace.{free_at}
use Rattle.bs_inspect_report.proofs.TableLemmas.{row_told}
use Rattle.bs_inspect_report.proofs.table.push_state_row.Goals as goal

pub returns : goal.returns
returns c =
    let flops : List CodeSignal → List ℕ =
    λ signals. value_cells (free_at c.args.report.now c.args.i) (slice_get c.args.report.now.states c.args.i) (map signal_in signals) in
    let inputs : List ℕ = value_cells None (slice_get c.args.report.now.inputs c.args.i) (map signal_in c.args.signals.now.inputs.items) in
    let flops_told : c.push_flop_cells.new.text.items ≡ c.push_origin_cells.new.text.items ++ flops c.args.signals.now.flops.items =
    c.in_ok-push_flop_cells.ensures
    ∙ ap (λ (signals : List CodeSignal). c.push_origin_cells.new.text.items ++ flops signals) c.as_slice.ensures.value in
    let inputs_told : c.push_value_cells.new.text.items ≡ c.push_flop_cells.new.text.items ++ inputs =
    c.in_ok-push_value_cells.ensures
    ∙ (λ k. c.push_flop_cells.new.text.items ++ value_cells None (c.member.ensures k) (map signal_in (c.as_slice-2.ensures.value k))) in
    subst (λ (t : List ℕ). OnOk c.end_line.result (c.end_line.new.text.items ≡ t))
    (row_told c.args.text.now.items (decimal c.args.i) (origin_cells c.args.report.now c.args.i) (flops c.args.signals.now.flops.items) inputs (10 ∷ [])
    c.push_number.new.text.items c.push_origin_cells.new.text.items c.push_flop_cells.new.text.items c.push_value_cells.new.text.items
    c.in_ok-push_number.ensures.ok c.in_ok-push_origin_cells.ensures flops_told inputs_told)
    c.end_line.ensures.ok
