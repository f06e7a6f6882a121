use Rattle.std.proofs.Common.{[], ◌∷◌, ◌++◌, ◌∙◌, ℕ, ap}
use Rattle.std.specs.Prelude.{codes, decimal}
use Rattle.bs_net.specs.Netlist.{parts_of}
use Rattle.bs_net.specs.Parts.{key_at}
use Rattle.bs_net_names.specs.Rtl.{rtl_name}
use Rattle.bs_inspect_view.specs.Values.{value_text}
use Rattle.bs_inspect_report.specs.Table.{field}
use Rattle.bs_inspect_why_words.proofs.HeadLemmas.{steps_told}
use Rattle.bs_inspect_why.proofs.table.push_cells.Goals as goal

pub returns : goal.returns
returns c =
    steps_told c.args.text.now.items (decimal c.args.fact.cycle) (codes ",") (field (rtl_name (key_at (parts_of c.args.raw.now) c.args.fact.net.0)))
    (codes ",") (value_text (c.args.fact.bit ∷ [])) c.push_number.new.text.items c.push_piece.new.text.items c.push_net.new.text.items
    c.push_piece-2.new.text.items c.push_value.new.text.items (c.in_ok-push_number.ensures.ok ∙ ap (λ (n : ℕ). c.args.text.now.items ++ decimal n) c.from.ensures) c.in_ok-push_piece.ensures.ok c.in_ok-push_net.ensures
    c.in_ok-push_piece-2.ensures.ok c.in_ok-push_value.ensures
