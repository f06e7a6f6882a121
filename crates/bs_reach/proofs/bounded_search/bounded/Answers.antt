use Rattle.std.proofs.Common.{◌≡◌, sym, ◌∙◌}
use Rattle.std.proofs.lemmas.Bool.{false≢true}
use Rattle.bs_net.specs.Circuit.{reset_state}
use Rattle.bs_net.specs.Netlist.{circuit}
use Rattle.bs_scan.specs.Seen.{is_shown, Shows}
use Rattle.bs_scan.proofs.SeenLemmas.{shows_where, shown_where}
use Rattle.bs_reach.proofs.bounded_search.bounded.Goals as goal

pub at_reset-requires : goal.at_reset-requires
at_reset-requires c =
    shows_where c.args.state.now (reset_state (circuit c.args.net.now)) (rw c.reset.ensures at (sym c.in_ok-shown.ensures ∙ c.if-shown.true))

pub never-requires : goal.never-requires
never-requires c shows =
    false≢true
    (sym c.if-shown.false
    ∙ ((rw c.reset.ensures at c.in_ok-shown.ensures) ∙ shown_where c.args.state.now (reset_state (circuit c.args.net.now)) shows))

pub look-requires-clause-other : goal.look-requires-clause-other
look-requires-clause-other c shows =
    false≢true
    (sym c.if-shown.false
    ∙ ((rw c.reset.ensures at c.in_ok-shown.ensures) ∙ shown_where c.args.state.now (reset_state (circuit c.args.net.now)) shows))
