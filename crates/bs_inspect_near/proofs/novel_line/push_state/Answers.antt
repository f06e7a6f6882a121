use Rattle.std.proofs.Common.{ℕ, List, ◌++◌, ap, ◌∙◌}
use Rattle.std.specs.Prelude.{codes, decimal}
use Rattle.bs_inspect_view.specs.Rtl.{rtl_text}
use Rattle.bs_inspect_view.specs.Signals.{signal_in}
use Rattle.bs_inspect_view.specs.Values.{value_text}
use Rattle.bs_inspect_report.specs.Signal.{signal_bits}
use Rattle.bs_inspect_near.proofs.NovelTextLemmas.{state_told}
use Rattle.bs_inspect_near.proofs.novel_line.push_state.Goals as goal

pub returns : goal.returns
returns c =
    state_told c.args.text.now.items (decimal c.args.cycle) (codes " ") (rtl_text (signal_in c.args.signal.now)) (codes " = ")
    (value_text (signal_bits c.args.state.now c.args.signal.now.places)) (codes ", others ") (decimal c.args.count) c.push_number.new.text.items
    c.push_piece.new.text.items c.push_rtl_name.new.text.items c.push_piece-2.new.text.items c.push_signal_value.new.text.items
    c.push_piece-3.new.text.items c.push_number-2.new.text.items c.end_line.new.text.items c.in_ok-push_number.ensures.ok
    c.in_ok-push_piece.ensures.ok c.in_ok-push_rtl_name.ensures c.in_ok-push_piece-2.ensures.ok
    (c.in_ok-push_signal_value.ensures
    ∙ ap (λ (ps : List ℕ). c.push_piece-2.new.text.items ++ value_text (signal_bits c.args.state.now ps)) c.slice.ensures)
    c.in_ok-push_piece-3.ensures.ok c.in_ok-push_number-2.ensures.ok c.in_ok-end_line.ensures.ok
