use Rattle.std.proofs.Common.{◌++◌, ◌+◌, List, drop, nat_eq, false, ap, sym, ◌∙◌}
use Rattle.std.specs.HashSet.{contains}
use Rattle.bs_flat_connect.specs.declared.matching.Matched.{Matched}
use Rattle.bs_flat_connect.specs.Matching.{pins_from}
use Rattle.bs_flat_connect.proofs.MatchLemmas.{pins_more, pins_end}
use Rattle.bs_flat_connect.proofs.matching.by_pins.Goals as goal

pub connections-preserved : goal.connections-preserved
connections-preserved c =
    let ids = c.args.ports.now.ids.keys in
    let ports = c.args.ports.now.ports in
    let cs = c.args.connections.now in
    let i = c.connections.connection-index in
    pins_more ids ports (λ id. false) (λ id. contains nat_eq c.connections.given id) (λ id. contains nat_eq c.add_pin.new.given id) c.connections.all cs i
    c.get.result c.connection-item.result c.connections-test.true (c.get.ensures ∙ c.connection-item.is) c.in_ok-add_pin.ensures.given c.connections.invariant
    ∙ ap (λ (l : List Matched). l ++ pins_from ids ports (λ id. contains nat_eq c.add_pin.new.given id) (drop (i + 1) cs)) (sym c.in_ok-add_pin.ensures.adds)

pub returns : goal.returns
returns c =
    pins_end c.args.ports.now.ids.keys c.args.ports.now.ports (λ id. false) (λ id. contains nat_eq c.connections.given id) c.connections.all
    c.args.connections.now c.connections.connection-index c.connections-test.false c.connections.invariant
