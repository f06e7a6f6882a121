use Rattle.std.proofs.Common.{None, subst}
use Rattle.bs_preimage.specs.Finding.{HasComeTo}
use Rattle.bs_preimage.proofs.OrderLemmas.{if_ok}
use Rattle.bs_preimage.proofs.FindingLemmas.{may_turn_again, extends_on, found_asking}
use Rattle.bs_preimage.proofs.enumeration.find.Goals as goal

pub fill_asking-requires-clause-may : goal.fill_asking-requires-clause-may
fill_asking-requires-clause-may g c =
    let come : HasComeTo c.args.encoding.now c.args.assumptions.now c.args.k c.args.b c.args.solver.now c.find_most.new.solver
    c.find_most.new.found.items None =
    subst (HasComeTo c.args.encoding.now c.args.assumptions.now c.args.k c.args.b c.args.solver.now c.find_most.new.solver
    c.find_most.new.found.items) c.in-None.is c.in_ok-end.ensures.ok in
    may_turn_again _ _ _ c.args.solver.now _ _ c.requires.begun c.requires.may come.search.way

pub returns-in-None-clause-ok : goal.returns-in-None-clause-ok
returns-in-None-clause-ok g c =
    let come : HasComeTo c.args.encoding.now c.args.assumptions.now c.args.k c.args.b c.args.solver.now c.find_most.new.solver
    c.find_most.new.found.items None =
    subst (HasComeTo c.args.encoding.now c.args.assumptions.now c.args.k c.args.b c.args.solver.now c.find_most.new.solver
    c.find_most.new.found.items) c.in-None.is c.in_ok-end.ensures.ok in
    if_ok c.fill_asking.result _ _
    (λ end asked.
    found_asking g.S.Source.knows c.args.source.now c.fill_asking.new.source c.args.encoding.now c.args.assumptions.now c.args.k c.args.b
    c.args.solver.now c.find_most.new.solver c.fill_asking.new.solver c.find_most.new.found.items c.fill_asking.new.found.items end c.requires.begun
    come asked)
    c.fill_asking.ensures.ok

pub returns-in-None-clause-lines : goal.returns-in-None-clause-lines
returns-in-None-clause-lines g c =
    let come : HasComeTo c.args.encoding.now c.args.assumptions.now c.args.k c.args.b c.args.solver.now c.find_most.new.solver
    c.find_most.new.found.items None =
    subst (HasComeTo c.args.encoding.now c.args.assumptions.now c.args.k c.args.b c.args.solver.now c.find_most.new.solver
    c.find_most.new.found.items) c.in-None.is c.in_ok-end.ensures.ok in
    extends_on _ _ _ _ c.find_most.new.solver _ _ c.requires.begun come.search.way c.fill_asking.ensures.lines
