use Rattle.std.proofs.Common.{◌∙◌, ap, sym, Some, get_or}
use Rattle.bs_flat_nets.specs.declared.blocks.JoinedNets.{JoinedNets}
use Rattle.bs_flat_nets.proofs.RunLemmas.{covered, runs_here, runs_past, runs_none}
use Rattle.bs_flat_nets.proofs.joined.outer_of.Goals as goal

pub outer_net-requires : goal.outer_net-requires
outer_net-requires c =
    let none : JoinedNets = record { inner = 0; outer = 0; width = 0 } in
    let k = covered (get_or c.args.runs.now c.each.run-index none) c.args.net (sym c.covers.ensures ∙ c.if-covers.true) in
    record { low = k.low; high = k.high }

pub returns-then-covers : goal.returns-then-covers
returns-then-covers c =
    let none : JoinedNets = record { inner = 0; outer = 0; width = 0 } in
    ap Some c.outer_net.ensures
    ∙ (sym (runs_here c.args.runs.now c.each.run-index c.args.net none c.each-test.true (sym c.covers.ensures ∙ c.if-covers.true)) ∙ c.each.invariant)

pub each-preserved : goal.each-preserved
each-preserved c =
    let none : JoinedNets = record { inner = 0; outer = 0; width = 0 } in
    sym (runs_past c.args.runs.now c.each.run-index c.args.net none c.each-test.true (sym c.covers.ensures ∙ c.if-covers.false)) ∙ c.each.invariant

pub returns : goal.returns
returns c = sym (runs_none c.args.runs.now c.each.run-index c.args.net c.each-test.false) ∙ c.each.invariant
