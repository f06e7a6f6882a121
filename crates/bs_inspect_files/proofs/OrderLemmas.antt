-- The words of a text that is no order of a scan chain.
use Rattle.std.proofs.Common.{◌≡◌, ℕ, List}
use Rattle.bs_net.specs.Parts.{Parts}
use Rattle.bs_inspect_netlist.specs.declared.fault.OrderFault.{OrderFault}
use Rattle.bs_inspect_netlist.specs.declared.fault.OrderFault.TheVariants as chain
use Rattle.bs_outside.specs.declared.file_fetch.Refusal.{Refusal}
use Rattle.bs_top_files.specs.Causes.{CheckSays}
use Rattle.bs_top_files.specs.Refusals.{HasWords}
use Rattle.bs_inspect_values.proofs.ReadLemmas.{Has, has_words}
use Rattle.bs_inspect_files.specs.FlopWords.{order_words}
use Rattle.bs_inspect_files.specs.Readings.{order_case, order_reason}

order_told : (words : List ℕ) (r : Parts) (path text why : List ℕ) (fault : OrderFault) → why ≡ words → CheckSays (order_case words r path text fault) why
order_told words r path text why (chain.Line number) e = e
order_told words r path text why (chain.Unknown number) e = e
order_told words r path text why (chain.Twice number) e = e
order_told words r path text why chain.NoMemory e = e

-- the words of a fault of the order go with its reason
pub order_worded : (r : Parts) (path text : List ℕ) (fault : OrderFault) (q : Refusal) → HasWords (order_words fault) q →
    Has CheckSays (order_reason r path text fault) q
order_worded r path text fault q h =
    let words : List ℕ = order_words fault in
    has_words (order_case words r path text fault) words (λ why e. order_told words r path text why fault e) q h
