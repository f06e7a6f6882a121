use Rattle.std.proofs.Common.{ℕ, Vec}
use Rattle.std.specs.declared.alloc.Global.{Global}
use Rattle.bs_inspect_netlist.specs.declared.fault.OrderFault.{OrderFault}
use Rattle.bs_inspect_netlist.specs.declared.fault.OrderFault.TheVariants.{NoMemory}
use Rattle.bs_outside.specs.Plan.{Reason}
use Rattle.bs_top_files.specs.Causes.{Case, CheckSays, NoteSays}
use Rattle.bs_inspect_values.proofs.ReadLemmas.{fault_reads, has_note}
use Rattle.bs_inspect_files.specs.Readings.{order_reason}
use Rattle.bs_inspect_files.proofs.OrderLemmas.{order_worded}
use Rattle.bs_inspect_files.proofs.order.order_or_diagnostic.Goals as goal

pub returns-in-Err-clause-words : goal.returns-in-Err-clause-words
returns-in-Err-clause-words c =
    let reason : OrderFault → Reason Case = order_reason c.args.net.now.raw c.args.path.now c.args.text.now in
    fault_reads CheckSays (λ (order : Vec ℕ Global). order.items) reason _ NoMemory _ _ c.in-Err.ensures
    (order_worded c.args.net.now.raw c.args.path.now c.args.text.now c.in-Err.fault _ c.order_diagnostic.ensures.words) c.order_diagnostic.ensures.want

pub returns-in-Err-clause-note : goal.returns-in-Err-clause-note
returns-in-Err-clause-note c =
    let reason : OrderFault → Reason Case = order_reason c.args.net.now.raw c.args.path.now c.args.text.now in
    fault_reads NoteSays (λ (order : Vec ℕ Global). order.items) reason _ NoMemory _ _ c.in-Err.ensures
    (has_note (reason c.in-Err.fault) _ c.order_diagnostic.ensures.note) c.order_diagnostic.ensures.none
