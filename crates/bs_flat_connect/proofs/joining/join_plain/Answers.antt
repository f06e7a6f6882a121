use Rattle.std.proofs.Common.{Option, None, sym, subst, Ok}
use Rattle.bs_verilog_syntax.specs.declared.tree.Term.{Term}
use Rattle.bs_flat_connect.specs.Joining.{JoinsPlain}
use Rattle.bs_flat_connect.proofs.JoinLemmas.{no_term}
use Rattle.bs_flat_connect.proofs.joining.join_plain.Goals as goal

pub returns-in-None : goal.returns-in-None
returns-in-None c =
    subst (λ (t : Option Term). JoinsPlain c.args.table.now c.args.wiring.now c.args.port t (Ok None)) (sym c.in-None.is)
    (no_term c.args.table.now c.args.wiring.now c.args.port)
