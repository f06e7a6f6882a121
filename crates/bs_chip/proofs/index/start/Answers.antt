use Rattle.std.proofs.Common.{arith}
use Rattle.bs_chip.specs.Hashes.{hash_of}
use Rattle.bs_chip.proofs.IndexLemmas.{noted_all}
use Rattle.bs_chip.proofs.index.start.Goals as goal

pub returns-clause-noted : goal.returns-clause-noted
returns-clause-noted g c =
    noted_all c.args.index.now.first (λ listed. hash_of (g.S.HasState.shown listed)) c.args.list.now c.states.i c.args.index.now.cycles c.states.from
    (omega (arith, c.states-test.false)) c.states.invariant.noted
