use Rattle.std.proofs.Common.{arith, subst, sym}
use Rattle.bs_break.specs.Bank.{Banked}
use Rattle.bs_chip.specs.Lockstep.{NoneBefore}
use Rattle.bs_chip.proofs.IndexLemmas.{none_sooner, none_started}
use Rattle.bs_chip.proofs.first_hit.Chip.moment_of.Goals as goal

pub first_moment-requires-clause-none : goal.first_moment-requires-clause-none
first_moment-requires-clause-none g c =
    let p = c.self.inside.pass in
    subst (λ (b : Banked). NoneBefore p.circuit p.runs b.states c.min-from.result) (sym c.in_ok-bank.ensures)
    (none_sooner p.circuit p.runs _ c.start.result c.min-from.result (omega (arith, c.min-from.ensures))
    (none_started g.S.HasState.shown p.circuit p.runs c.grow.new.index.first c.args.list.now c.grow.new.index.cycles c.start.result
    c.start.ensures.within c.in_ok-grow.ensures.notes c.start.ensures.before))
