use Rattle.std.proofs.Common.{◌∙◌, ap, sym, List, ◌++◌, append_assoc}
use Rattle.std.specs.List.{flat_map, range_with_len}
use Rattle.bs_clause.specs.Literal.{Clause}
use Rattle.bs_encode.specs.Units.{table_units}
use Rattle.bs_encode.proofs.UnitLemmas.{flat_map_more}
use Rattle.bs_encode.proofs.units.add_units.Goals as goal

pub loop-n-preserved : goal.loop-n-preserved
loop-n-preserved c =
    c.in_ok-add_net_units.ensures
    ∙ (ap (λ (l : List Clause). l ++ table_units c.args.zero.now c.args.values.now c.loop-n.n) c.loop-n.invariant
    ∙ (append_assoc c.args.into.now (flat_map (table_units c.args.zero.now c.args.values.now) (range_with_len 0 c.loop-n.n))
    (table_units c.args.zero.now c.args.values.now c.loop-n.n)
    ∙ ap (λ (l : List Clause). c.args.into.now ++ l) (sym (flat_map_more (table_units c.args.zero.now c.args.values.now) c.loop-n.n))))
