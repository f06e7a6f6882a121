use Rattle.std.proofs.Common.{subst, sym}
use Rattle.bs_clause.specs.Literal.{Clause}
use Rattle.bs_preimage.specs.Turn.{MayTurn, TurnsTo}
use Rattle.bs_preimage.proofs.probe.probe_turn.Goals as goal

pub take_turn-requires-clause-may : goal.take_turn-requires-clause-may
take_turn-requires-clause-may c =
    subst (λ (a : Clause). MayTurn c.args.encoding.now c.args.solver.now a) (sym c.in_ok-assumptions.ensures) c.requires.may

pub returns : goal.returns
returns c =
    record {
      ok =
          subst (λ (a : Clause). TurnsTo c.args.encoding.now a c.args.asked.now.b c.args.solver.now c.take_turn.new.solver c.in_ok-end.end)
          c.in_ok-assumptions.ensures c.in_ok-end.ensures.ok;
    }
