use Rattle.std.proofs.Common.{refl}
use Rattle.bs_lex.specs.declared.lexeme.Name.{Name}
use Rattle.bs_verilog_scope.specs.Checking.{looked}
use Rattle.bs_flat_connect.proofs.PortLemmas.{ids_more, ports_more, ports_all}
use Rattle.bs_flat_connect.proofs.ports.header_ports.Goals as goal

abbrev nothing : Name
nothing = record { at = 0; id = 0 }

pub names-preserved : goal.names-preserved
names-preserved c = (
  ids_more c.names.ports.ids.keys c.add.new.self.ids.keys c.args.header.now c.names.name-index nothing c.names-test.true c.in_ok-add.ensures.ids
      c.names.invariant.0,
  ports_more (looked c.args.scope.now) c.names.ports.ports c.add.new.self.ports _ c.args.header.now c.names.name-index c.names.first _ nothing c.in_ok-port.port
      c.names-test.true c.in_ok-port.ensures.port c.in_ok-add.ensures.ports refl c.names.invariant.1,
)

pub returns-clause-ports : goal.returns-clause-ports
returns-clause-ports c =
    ports_all (looked c.args.scope.now) c.names.ports.ports _ c.args.header.now c.names.name-index c.names.first c.names-test.false c.names.invariant.1
