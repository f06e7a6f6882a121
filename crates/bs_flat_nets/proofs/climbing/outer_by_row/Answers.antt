use Rattle.std.proofs.Common.{◌≡◌, ◌∙◌, ◌+◌, ◌-◌, ℕ, ap, sym, subst, arith, Option, Some}
use Rattle.bs_flat_nets.specs.Climbing.{CountsTo, IsOuter}
use Rattle.bs_flat_nets.proofs.RowLemmas.{outer_none, outer_past, outer_here}
use Rattle.bs_flat_nets.proofs.climbing.outer_by_row.Goals as goal

pub returns-then-count-eq0 : goal.returns-then-count-eq0
returns-then-count-eq0 c =
    outer_none c.args.row.now c.args.net (subst (λ (k : ℕ). CountsTo c.args.row.now c.args.net k) c.if-count-eq0.true c.count_to-count.ensures)

pub returns-then-covers : goal.returns-then-covers
returns-then-covers c =
    let i = c.count_to-count.result - 1 in
    let some = c.if-count-eq0.false in
    let next : c.count_to-count.result ≡ i + 1 = omega (arith, some) in
    subst (λ (o : Option ℕ). IsOuter c.args.row.now c.args.net o) (ap Some (sym c.outer_net.ensures))
    (outer_here c.args.row.now c.args.net i (subst (λ (k : ℕ). CountsTo c.args.row.now c.args.net k) next c.count_to-count.ensures)
    (sym c.covers.ensures ∙ c.if-covers.true))

pub returns-else-covers : goal.returns-else-covers
returns-else-covers c =
    let i = c.count_to-count.result - 1 in
    let some = c.if-count-eq0.false in
    let next : c.count_to-count.result ≡ i + 1 = omega (arith, some) in
    outer_past c.args.row.now c.args.net i (subst (λ (k : ℕ). CountsTo c.args.row.now c.args.net k) next c.count_to-count.ensures)
    (sym c.covers.ensures ∙ c.if-covers.false)
