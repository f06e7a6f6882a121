use Rattle.std.proofs.Common.{◌≡◌, true, sym, subst}
use Rattle.std.specs.Prelude.{All}
use Rattle.bs_log.specs.Refusal.{has_distinct_variables}
use Rattle.bs_reach_unrolled.proofs.RowLemmas.{rows_distinct}
use Rattle.bs_reach_unrolled.proofs.failure.tried.Goals as goal

pub literal_of_chain-found-requires : goal.literal_of_chain-found-requires
literal_of_chain-found-requires c =
    subst (All (λ d. has_distinct_variables d ≡ true)) (sym c.as_slice-2.ensures.value)
    (rows_distinct c.args.encoding.now c.args.reset.now c.args.k c.requires.unrollable c.args.cone.now.ids.items c.args.cone.now.clauses.items c.requires.rows)
