use Rattle.std.proofs.Common.{rules}
use Rattle.bs_net.specs.Netlist.{circuit}
use Rattle.bs_inspect_report_texts.proofs.ListedLemmas.{stray_found, stray_none}
use Rattle.bs_inspect_report_texts.proofs.listed.stray_among.Goals as goal

pub returns-then-not-branch : goal.returns-then-not-branch
returns-then-not-branch c =
    stray_found (circuit c.args.net.now) c.args.present.now c.args.cands.now c.cands.i c.get.result.now c.in_ok-leads_into.field-0 (search rules)
    c.get.ensures.value c.in_ok-leads_into.ensures.leads (search rules) c.cands.invariant.so_far

pub returns : goal.returns
returns c = stray_none (circuit c.args.net.now) c.args.present.now c.args.cands.now c.cands.i (search rules) c.cands.invariant.so_far
