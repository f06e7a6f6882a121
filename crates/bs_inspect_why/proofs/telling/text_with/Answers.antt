use Rattle.bs_net.specs.Netlist.{parts_of}
use Rattle.bs_inspect_why.proofs.TellingLemmas.{blocks_with}
use Rattle.bs_inspect_why.proofs.telling.text_with.Goals as goal

pub returns : goal.returns
returns c =
    blocks_with c.args.telling.now.moments.now c.args.telling.now.report.now c.args.telling.now.few c.args.telling.now.stills.now
    c.args.telling.now.accounts.now c.net.result.now (parts_of c.raw.result.now) c.in_ok-kept.kept c.slice.result.now c.in_ok-text.text.items
    c.push_stills.new.text.items c.in_ok-text.ensures c.in_ok-kept.ensures c.slice.ensures c.net.ensures c.raw.ensures.parts
    c.in_ok-push_stills.ensures
