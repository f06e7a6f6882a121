use Rattle.std.proofs.Common.{ap, ◌∙◌, map}
use Rattle.bs_verilog_scope.specs.Checking.{looked}
use Rattle.bs_verilog_scope.specs.Declaring.{said}
use Rattle.bs_flat_connect.specs.Ports.{ports_in}
use Rattle.bs_flat_connect.proofs.PortLemmas.{are_ports_of}
use Rattle.bs_flat_connect.proofs.ports.ports_of.Goals as goal

pub returns : goal.returns
returns c =
    are_ports_of c.args.own.now (looked c.in_ok-scope.scope) c.in_ok-ports.ports (c.in_ok-scope.ensures ∙ ap said c.slice.ensures)
    (c.in_ok-ports.ensures.ids ∙ ap (map (λ n. n.id)) c.slice-2.ensures)
    (c.in_ok-ports.ensures.ports ∙ ap (ports_in (looked c.in_ok-scope.scope) 0) c.slice-2.ensures)
