use Rattle.std.proofs.Common.{true, [], length}
use Rattle.std.specs.Prelude.{option_map}
use Rattle.bs_preimage.specs.Finding.{HasEndedSearch}
use Rattle.bs_preimage.specs.Step.{HasSought}
use Rattle.bs_preimage.proofs.TurnLemmas.{extends_then}
use Rattle.bs_preimage.proofs.AskingLemmas.{asked_so}
use Rattle.bs_preimage.proofs.SeekLemmas.{sought_with, may_seek, begun_extends, sought_extends, ended_extends, failed_extends}
use Rattle.bs_preimage.proofs.step.seek.Goals as goal

-- src/step.rt:66:15
pub find-requires-clause-may : goal.find-requires-clause-may
find-requires-clause-may g c =
    may_seek c.args.encoding.now c.args.solver.now c.begin_step.new.self c.args.asked.now.present.now c.args.asked.now.stored.now (option_map
    (λ bits. bits.now) c.args.asked.now.older)
    c.in_ok-activation.activation c.in_ok-assumptions.assumptions
    c.requires.readable c.requires.vars c.requires.clauses c.requires.rest c.in_ok-activation.ensures.ok c.in_ok-activation.ensures.activation c.in_ok-assumptions.ensures

-- src/step.rt:75:5
pub returns-in_err-assumptions-clause-lines : goal.returns-in_err-assumptions-clause-lines
returns-in_err-assumptions-clause-lines g c =
    begun_extends c.args.encoding.now c.args.solver.now c.begin_step.new.self c.args.asked.now.present.now c.args.asked.now.stored.now (option_map
    (λ bits. bits.now) c.args.asked.now.older) c.in_ok-activation.ensures.ok

pub returns-in_err-end-clause-lines : goal.returns-in_err-end-clause-lines
returns-in_err-end-clause-lines g c =
    sought_extends c.args.encoding.now c.args.solver.now c.begin_step.new.self c.find.new.solver c.args.asked.now.present.now
    c.args.asked.now.stored.now (option_map (λ bits. bits.now) c.args.asked.now.older) c.in_ok-activation.activation
    c.in_ok-assumptions.assumptions c.requires.rest c.in_ok-activation.ensures.ok c.in_ok-activation.ensures.activation c.in_ok-assumptions.ensures c.find.ensures.lines

pub returns-in_err-end_step-clause-lines : goal.returns-in_err-end_step-clause-lines
returns-in_err-end_step-clause-lines g c =
    extends_then true c.args.solver.now.proof c.find.new.solver.proof c.end_step.new.self.proof _ []
    (sought_extends c.args.encoding.now c.args.solver.now c.begin_step.new.self c.find.new.solver c.args.asked.now.present.now
    c.args.asked.now.stored.now (option_map (λ bits. bits.now) c.args.asked.now.older) c.in_ok-activation.activation
    c.in_ok-assumptions.assumptions c.requires.rest c.in_ok-activation.ensures.ok c.in_ok-activation.ensures.activation c.in_ok-assumptions.ensures c.find.ensures.lines)
    (failed_extends c.find.new.solver.proof c.end_step.new.self.proof c.ending.result c.in_err-end_step.ensures.lines)

-- src/step.rt:44:1
pub returns-clause-lines : goal.returns-clause-lines
returns-clause-lines g c =
    extends_then true c.args.solver.now.proof c.find.new.solver.proof c.end_step.new.self.proof _ []
    (sought_extends c.args.encoding.now c.args.solver.now c.begin_step.new.self c.find.new.solver c.args.asked.now.present.now
    c.args.asked.now.stored.now (option_map (λ bits. bits.now) c.args.asked.now.older) c.in_ok-activation.activation
    c.in_ok-assumptions.assumptions c.requires.rest c.in_ok-activation.ensures.ok c.in_ok-activation.ensures.activation c.in_ok-assumptions.ensures c.find.ensures.lines)
    (ended_extends c.find.new.solver c.end_step.new.self c.ending.result c.in_ok-end_step.ensures.ok)

pub returns-clause-ok : goal.returns-clause-ok
returns-clause-ok g c =
    asked_so g.S.Source.knows c.args.source.now c.find.new.source
    (λ known. HasEndedSearch c.args.encoding.now c.in_ok-assumptions.assumptions known c.args.asked.now.k c.args.asked.now.b c.begin_step.new.self
    c.find.new.solver c.find.new.found.items c.in_ok-end.end)
    (λ known. HasSought c.args.encoding.now c.args.solver.now c.end_step.new.self c.args.asked.now.present.now c.args.asked.now.stored.now
    (option_map (λ bits. bits.now) c.args.asked.now.older) known c.args.asked.now.k c.args.asked.now.b c.find.new.found.items c.in_ok-end.end)
    c.args.asked.now.k (length c.find.new.found.items) c.in_ok-end.end
    (λ known found.
    sought_with c.args.encoding.now c.args.solver.now c.begin_step.new.self c.find.new.solver c.end_step.new.self c.args.asked.now.present.now
    c.args.asked.now.stored.now (option_map (λ bits. bits.now) c.args.asked.now.older) c.in_ok-activation.activation c.in_ok-assumptions.assumptions known
    c.args.asked.now.k c.args.asked.now.b c.find.new.found.items c.in_ok-end.end c.ending.result c.requires.rest c.in_ok-activation.ensures.ok
    c.in_ok-activation.ensures.activation c.in_ok-assumptions.ensures c.ending.ensures c.in_ok-end_step.ensures.ok found)
    c.in_ok-end.ensures.ok
