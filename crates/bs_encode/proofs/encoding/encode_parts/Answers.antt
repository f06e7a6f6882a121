use Rattle.std.proofs.Common.{◌∙◌, ℕ, List, ◌++◌, ap}
use Rattle.std.specs.List.{flat_map, range_with_len}
use Rattle.bs_clause.specs.Literal.{Clause}
use Rattle.bs_net.specs.Netlist.{circuit}
use Rattle.bs_encode.specs.Transition.{first_helper, first_next, first_item, state_vars, gates_clauses, unit_clauses, next_clauses, items_clauses}
use Rattle.bs_encode.specs.Transition.{cycle_clauses}
use Rattle.bs_encode.proofs.UnitLemmas.{part_joined}
use Rattle.bs_encode.proofs.encoding.encode_parts.Goals as goal

pub returns-clause-clauses : goal.returns-clause-clauses
returns-clause-clauses c =
    part_joined
    (gates_clauses (first_helper (circuit c.args.net.now)) (circuit c.args.net.now).gates)
    (flat_map (unit_clauses (circuit c.args.net.now)) (range_with_len 0 (circuit c.args.net.now).nets))
    (next_clauses (first_next (circuit c.args.net.now)) (circuit c.args.net.now).flops)
    (items_clauses (state_vars (circuit c.args.net.now)) (first_item (circuit c.args.net.now)) c.args.choice.now.items)
    _
    (c.in_ok-end.ensures.clauses
    ∙ (ap (λ (l : List Clause). l ++ items_clauses c.args.states.now c.in_ok-partial.partial.end c.args.choice.now.items) c.in_ok-partial.ensures.clauses
    ∙ (ap (λ n. cycle_clauses (circuit c.args.net.now) ++ items_clauses c.args.states.now n c.args.choice.now.items) c.in_ok-partial.ensures.end
    ∙ ap (λ (vs : List ℕ). cycle_clauses (circuit c.args.net.now) ++
    items_clauses vs (first_item (circuit c.args.net.now)) c.args.choice.now.items) c.requires.states)))
