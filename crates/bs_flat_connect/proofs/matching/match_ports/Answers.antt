use Rattle.std.proofs.Common.{sym, ◌∙◌}
use Rattle.bs_flat_connect.proofs.MatchLemmas.{places_answer, pins_answer}
use Rattle.bs_flat_connect.proofs.matching.match_ports.Goals as goal

pub returns-then-has_pins : goal.returns-then-has_pins
returns-then-has_pins c =
    pins_answer c.args.ports.now c.args.connections.now c.by_pins.result (sym c.has_pins.ensures ∙ c.if-has_pins.true) c.by_pins.ensures

pub returns-else-has_pins : goal.returns-else-has_pins
returns-else-has_pins c =
    places_answer c.args.ports.now c.args.connections.now c.by_places.result (sym c.has_pins.ensures ∙ c.if-has_pins.false) c.by_places.ensures
