use Rattle.std.proofs.Common.{◌++◌, List, ℕ, ap, ◌∙◌}
use Rattle.std.specs.Prelude.{codes}
use Rattle.bs_gen.specs.Names.{drawn_net}
use Rattle.bs_gen.specs.Gates.{kind_word, terminal}
use Rattle.bs_gen.proofs.LineLemmas.{behind}
use Rattle.bs_gen.proofs.gates.push_gate.Goals as goal

pub returns : goal.returns
returns c =
    let last = c.push_line.result in
    let new = c.push_line.new.text.items in
    let closed = codes ");" in
    let second = terminal c.args.second ++ closed in
    let first = terminal c.args.first ++ second in
    let output = drawn_net c.args.j ++ first in
    behind last c.args.text.now.items c.push_piece.new.text.items new (kind_word c.args.kind) (codes " (" ++ output)
    (c.in_ok-push_piece.ensures.ok ∙ ap (λ (t : List ℕ). c.args.text.now.items ++ t) c.kind_word.ensures)
    (behind last c.push_piece.new.text.items c.push_piece-2.new.text.items new (codes " (") output c.in_ok-push_piece-2.ensures.ok
    (behind last c.push_piece-2.new.text.items c.push_drawn_net.new.text.items new (drawn_net c.args.j) first c.in_ok-push_drawn_net.ensures
    (behind last c.push_drawn_net.new.text.items c.push_terminal.new.text.items new (terminal c.args.first) second c.in_ok-push_terminal.ensures
    (behind last c.push_terminal.new.text.items c.push_terminal-2.new.text.items new (terminal c.args.second) closed c.in_ok-push_terminal-2.ensures
    c.push_line.ensures.ok))))
