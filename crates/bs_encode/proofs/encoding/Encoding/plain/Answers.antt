use Rattle.std.proofs.Common.{◌≡◌, ◌-◌, ◌<◌, ◌^◌, ◌∙◌, ℕ, List, [], ap, arith}
use Rattle.bs_clause.specs.Literal.{Clause}
use Rattle.bs_net.specs.Circuit.{Circuit}
use Rattle.bs_net.specs.Netlist.{circuit}
use Rattle.bs_encode.specs.Transition.{variables, transition_clauses}
use Rattle.bs_encode.specs.Encoded.{joined}
use Rattle.bs_encode.proofs.RoomLemmas.{few_variables}
use Rattle.bs_encode.proofs.UnitLemmas.{plain_tables}
use Rattle.bs_encode.proofs.encoding.Encoding.plain.Goals as goal

pub encode_cycle-requires : goal.encode_cycle-requires
encode_cycle-requires c =
    let few : variables (circuit c.args.net.now) [] < 2 ^ 30 =
    few_variables (circuit c.args.net.now) [] c.raw-raw.ensures.checked c.raw-raw.ensures.bounded (omega arith) (omega arith) in
    omega (arith, few)

pub join-requires-clause-room : goal.join-requires-clause-room
join-requires-clause-room c =
    let few : variables (circuit c.args.net.now) [] < 2 ^ 30 =
    few_variables (circuit c.args.net.now) [] c.raw-raw.ensures.checked c.raw-raw.ensures.bounded (omega arith) (omega arith) in
    omega (arith, few)

pub returns : goal.returns
returns c =
    let k : Circuit = circuit c.args.net.now in
    let count : c.in_ok-partial.partial.end - 1 ≡ variables k [] = omega (arith, c.in_ok-partial.ensures.end) in
    c.in_ok-encoding.ensures
    ∙ (ap (λ (cs : List Clause). joined k cs (c.in_ok-partial.partial.end - 1) []) (plain_tables k c.in_ok-partial.partial.clauses c.in_ok-partial.ensures.clauses)
    ∙ ap (λ (n : ℕ). joined k (transition_clauses k []) n []) count)
