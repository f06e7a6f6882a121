use Rattle.std.proofs.Common.{◌≡◌, ◌<◌, ◌==◌, ◌&&◌, ◌∙◌, ℕ, Bool, List, not, true, false, ap, sym, subst, arith, length, set}
use Rattle.std.specs.Prelude.{slice_index_or}
use Rattle.std.specs.List.{list_any}
use Rattle.std.proofs.lemmas.List.{length-replicate, get_or-replicate}
use Rattle.bs_net.specs.Circuit.{drivers}
use Rattle.bs_net.specs.Netlist.{circuit}
use Rattle.bs_encode.specs.Units.{AreZeros}
use Rattle.bs_encode.proofs.UnitLemmas.{zero_after}
use Rattle.bs_encode.proofs.units.zero_nets.Goals as goal

pub returns : goal.returns
returns c =
    let count : c.len.result ≡ (circuit c.args.net.now).nets = c.len.ensures ∙ ap (λ r. length r.names) c.raw.ensures.parts in
    let size : length c.in_ok-table.table.items ≡ c.len.result = ap length c.in_ok-table.ensures ∙ length-replicate c.len.result true in
    let wide : length c.clear.new.table.items ≡ (circuit c.args.net.now).nets = c.clear.ensures.wide ∙ (size ∙ count) in
    let driven : c.slice.result.now ≡ drivers (circuit c.args.net.now) = c.slice.ensures ∙ c.in_ok-driven.ensures in
    let values : (k : ℕ) → k < length c.clear.new.table.items →
    slice_index_or c.clear.new.table.items k false ≡ not (list_any (λ m. k == m) (drivers (circuit c.args.net.now))) =
    λ k lt.
    let within : k < length c.in_ok-table.table.items = omega (arith, c.clear.ensures.wide, lt) in
    let below : k < c.len.result = omega (arith, size, within) in
    let one : slice_index_or c.in_ok-table.table.items k false ≡ true =
    ap (λ (t : List Bool). slice_index_or t k false) c.in_ok-table.ensures ∙ get_or-replicate c.len.result k true false below in
    c.clear.ensures.cleared k within
    ∙ (ap (λ b. b && not (list_any (λ m. k == m) c.slice.result.now)) one ∙ ap (λ (ns : List ℕ). not (list_any (λ m. k == m) ns)) driven) in
    let P : List Bool → Type 0 = λ t. AreZeros (circuit c.args.net.now) t in
    let same : c.mark.new.table.items ≡ set c.clear.new.table.items (circuit c.args.net.now).clock.0 true =
    c.mark.ensures ∙ ap (λ n. set c.clear.new.table.items n.0 true) c.clock.ensures in
    subst P (sym same) (zero_after (circuit c.args.net.now) c.clear.new.table.items wide values)
