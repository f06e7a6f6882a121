use Rattle.std.proofs.Common.{◌≡◌, ◌∙◌, ◌*◌, ℕ, List, ap, length, subst, sym}
use Rattle.std.proofs.lemmas.List.{length-replicate}
use Rattle.bs_net.specs.declared.net.Flop.{Flop}
use Rattle.bs_net.specs.Netlist.{circuit}
use Rattle.bs_lanes.specs.Settling.{ResetsAll}
use Rattle.bs_lanes.proofs.LayoutLemmas.{AreZeroed, has_layout, table_reset, zeros_zeroed}
use Rattle.bs_lanes.proofs.lanes.Lanes.started.Goals as goal

pub reset_all-requires-clause-placed : goal.reset_all-requires-clause-placed
reset_all-requires-clause-placed c =
    let l = c.args.layout in
    has_layout (circuit c.args.net.now) l c.args.wide c.args.nets.items c.requires.layout
    (ap length c.requires.nets ∙ length-replicate {A = ℕ} (l.planes * c.args.wide) 0)

pub invariant_of-result : goal.invariant_of-result
invariant_of-result c =
    let it = circuit c.args.net.now in
    let l = c.args.layout in
    let wide = c.args.wide in
    let flops : c.slice.result.now ≡ it.flops = c.slice.ensures ∙ ap (λ r. r.flops) c.raw.ensures.parts in
    let size : length c.args.nets.items ≡ l.planes * wide = ap length c.requires.nets ∙ length-replicate {A = ℕ} (l.planes * wide) 0 in
    let Z : List ℕ → Type 0 = λ ws. AreZeroed it l wide ws in
    let P : List Flop → Type 0 = λ fs. ResetsAll wide fs c.args.flops.items c.reset_all.new.flops.items in
    let both = table_reset c.args.net.now l wide c.args.flops.items c.as_slice.result.now c.args.nets.items c.reset_all.new.flops.items
    c.reset_all.new.nets.items c.requires.layout c.requires.wide c.requires.flops
    (subst Z (sym c.requires.nets) (zeros_zeroed it l wide c.requires.layout)) size (c.as_slice.ensures.value ∙ c.requires.zeros) c.reset_all.ensures.settled
    (subst P flops c.reset_all.ensures.reset) in
    (both.0, c.requires.zeros, c.requires.layout, c.reset_all.ensures.settled.size ∙ size)

pub returns-clause-reset : goal.returns-clause-reset
returns-clause-reset c =
    let it = circuit c.args.net.now in
    let l = c.args.layout in
    let wide = c.args.wide in
    let flops : c.slice.result.now ≡ it.flops = c.slice.ensures ∙ ap (λ r. r.flops) c.raw.ensures.parts in
    let size : length c.args.nets.items ≡ l.planes * wide = ap length c.requires.nets ∙ length-replicate {A = ℕ} (l.planes * wide) 0 in
    let Z : List ℕ → Type 0 = λ ws. AreZeroed it l wide ws in
    let P : List Flop → Type 0 = λ fs. ResetsAll wide fs c.args.flops.items c.reset_all.new.flops.items in
    let both = table_reset c.args.net.now l wide c.args.flops.items c.as_slice.result.now c.args.nets.items c.reset_all.new.flops.items
    c.reset_all.new.nets.items c.requires.layout c.requires.wide c.requires.flops
    (subst Z (sym c.requires.nets) (zeros_zeroed it l wide c.requires.layout)) size (c.as_slice.ensures.value ∙ c.requires.zeros) c.reset_all.ensures.settled
    (subst P flops c.reset_all.ensures.reset) in
    both.1
