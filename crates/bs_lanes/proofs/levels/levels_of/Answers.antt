use Rattle.std.proofs.Common.{◌≡◌, ◌≤◌, ◌<◌, ◌*◌, ◌∙◌, ℕ, List, ap, arith, sym, subst, length, replicate}
use Rattle.std.specs.List.{All}
use Rattle.std.proofs.lemmas.List.{length-replicate}
use Rattle.bs_net.specs.declared.limits.TheConstants.{MAX_NETS}
use Rattle.bs_net.specs.declared.net.Gate.{Gate}
use Rattle.bs_net.specs.Netlist.{circuit}
use Rattle.bs_net.specs.Order.{gates_in}
use Rattle.bs_net.proofs.NetlistLemmas.{order_below}
use Rattle.bs_lanes.specs.Levels.{raised, AreRaised}
use Rattle.bs_lanes.proofs.LevelLemmas.{checked_raised, few_gates, length-order, low_end, written}
use Rattle.bs_lanes.proofs.levels.levels_of.Goals as goal

pub raise-requires-clause-numbered : goal.raise-requires-clause-numbered
raise-requires-clause-numbered c =
    let gates : c.slice.result.now ≡ (circuit c.args.net.now).gates = c.slice.ensures ∙ ap (λ r. r.gates) c.raw-raw.ensures.parts in
    let order : c.slice-2.result.now ≡ c.args.net.now.order = c.slice-2.ensures ∙ c.order-order.ensures.order in
    let P : List ℕ → Type 0 = λ is. All (λ i. i < length c.slice.result.now) is in
    let Q : List Gate → Type 0 = λ gs. All (λ i. i < length gs) c.args.net.now.order in
    subst P (sym order) (subst Q (sym gates) (order_below _ _ c.order-order.ensures.ordered))

pub raise-requires-clause-few : goal.raise-requires-clause-few
raise-requires-clause-few c =
    let order : c.slice-2.result.now ≡ c.args.net.now.order = c.slice-2.ensures ∙ c.order-order.ensures.order in
    let it = circuit c.args.net.now in
    omega (
      arith,
      ap length order,
      length-order _ _ c.order-order.ensures.ordered,
      few_gates it c.order-order.ensures.checked,
      c.raw-raw.ensures.bounded.few_nets,
    )

pub returns-clause-raised : goal.returns-clause-raised
returns-clause-raised c =
    let it = circuit c.args.net.now in
    let gates : c.slice.result.now ≡ it.gates = c.slice.ensures ∙ ap (λ r. r.gates) c.raw-raw.ensures.parts in
    let order : c.slice-2.result.now ≡ c.args.net.now.order = c.slice-2.ensures ∙ c.order-order.ensures.order in
    let zeros : List ℕ = c.as_mut_slice.result.now in
    let names : c.len.result ≡ it.nets = c.len.ensures ∙ ap (λ r. length r.names) c.raw-raw.ensures.parts in
    let items : zeros ≡ c.in_ok-levels.levels.items = c.as_mut_slice.ensures.value in
    let zeroed : c.in_ok-levels.levels.items ≡ replicate c.len.result 0 = c.in_ok-levels.ensures in
    let size : length zeros ≡ it.nets = ap length items ∙ (ap length zeroed ∙ (length-replicate {A = ℕ} c.len.result 0 ∙ names)) in
    let new : c.raise.new.levels ≡ raised (gates_in c.args.net.now.order it.gates) zeros =
    c.raise.ensures.levels ∙ (ap (λ gs. raised (gates_in c.slice-2.result.now gs) zeros) gates ∙ ap (λ is. raised (gates_in is it.gates) zeros) order) in
    let P : List ℕ → Type 0 = λ levels. AreRaised levels it.gates in
    subst P (sym (written c.raise.new.levels c.in_ok-levels.levels.items c.in_ok-levels.levels.len (sym (c.raise.auto.levels ∙ c.as_mut_slice.ensures.len))
    (omega (arith, ap length items, c.raise.auto.levels))))
    (subst P (sym new) (checked_raised it c.args.net.now.order zeros c.order-order.ensures.checked c.order-order.ensures.ordered size))

pub returns-clause-low : goal.returns-clause-low
returns-clause-low c =
    let it = circuit c.args.net.now in
    let items : c.as_mut_slice.result.now ≡ c.in_ok-levels.levels.items = c.as_mut_slice.ensures.value in
    let order : c.slice-2.result.now ≡ c.args.net.now.order = c.slice-2.ensures ∙ c.order-order.ensures.order in
    let few : length c.slice-2.result.now ≤ MAX_NETS =
    omega (
      arith,
      ap length order,
      length-order _ _ c.order-order.ensures.ordered,
      few_gates it c.order-order.ensures.checked,
      c.raw-raw.ensures.bounded.few_nets,
    ) in
    let P : List ℕ → Type 0 = λ levels. All (λ level. level ≤ MAX_NETS * 32) levels in
    subst P (sym (written c.raise.new.levels c.in_ok-levels.levels.items c.in_ok-levels.levels.len (sym (c.raise.auto.levels ∙ c.as_mut_slice.ensures.len))
    (omega (arith, ap length items, c.raise.auto.levels))))
    (low_end c.raise.new.levels (length c.slice-2.result.now * 32) (MAX_NETS * 32) (omega (arith, few)) c.raise.ensures.low)
