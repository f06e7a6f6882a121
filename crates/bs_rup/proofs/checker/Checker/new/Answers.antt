use Rattle.std.proofs.Common.{◌≡◌, not, length, sym, ap, ◌∙◌, false}
use Rattle.std.specs.List.{filter}
use Rattle.bs_log.specs.declared.phase.Phase.TheVariants.{BetweenSteps}
use Rattle.bs_log.specs.History.{axioms_from}
use Rattle.bs_rup.specs.LiveClauses.{live_from}
use Rattle.bs_rup.proofs.Stores.{all_live}
use Rattle.bs_rup.proofs.checker.Checker.new.Goals as goal

pub returns : goal.returns
returns c =
    let live : live_from 1 c.in_ok-stored.stored.items ≡ filter (λ e. not false) (axioms_from 1 c.args.problem.now.clauses.now) =
    c.in_ok-stored.ensures.live ∙ ap (axioms_from 1) c.slice.ensures ∙ sym (all_live (axioms_from 1 c.args.problem.now.clauses.now)) in
    let last : length c.in_ok-stored.stored.items ≡ length c.args.problem.now.clauses.now = c.in_ok-stored.ensures.length ∙ ap length c.slice.ensures in
    λ i. record { phase = BetweenSteps; step = 1; last_id = last i; live = live i }
