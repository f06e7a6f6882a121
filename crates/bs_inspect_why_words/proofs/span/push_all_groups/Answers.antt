use Rattle.std.proofs.Common.{arith}
use Rattle.bs_inspect_why_words.specs.Groups.{group_line}
use Rattle.bs_inspect_why_words.proofs.StepLemmas.{step_item}
use Rattle.bs_inspect_why_words.proofs.span.push_all_groups.Goals as goal

pub groups-preserved : goal.groups-preserved
groups-preserved c =
    step_item (group_line c.args.lead.now c.args.spans) c.args.groups.now c.groups.group-index c.group-item.result c.args.text.now.items
    c.groups.text.items c.push_group.new.text.items (omega (arith, c.groups-test.true)) c.group-item.is c.groups.invariant c.in_ok-push_group.ensures
