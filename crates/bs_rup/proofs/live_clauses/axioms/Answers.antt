use Rattle.std.proofs.Common.{◌≡◌, ℕ, ◌+◌, ◌++◌, ◌∷◌, [], length, take, get_or, sym, ap, ◌∙◌}
use Rattle.bs_clause.specs.Literal.{Clause}
use Rattle.bs_log.specs.declared.origin.Origin.TheVariants.{Axiom}
use Rattle.bs_log.specs.History.{Entry, axioms_from}
use Rattle.bs_rup.proofs.Stores.{axioms_more}
use Rattle.bs_rup.proofs.live_clauses.axioms.Goals as goal

pub loop-c-preserved : goal.loop-c-preserved
loop-c-preserved c =
    let clause : c.slice.result.now ≡ get_or c.args.clauses.now c.loop-c.c-index c.c-item.result = c.slice.ensures ∙ c.c-item.is in
    let entry : ℕ → Clause → Entry = λ n x. record { id = n + 1; origin = Axiom; literals = x } in
    record {
      live = c.in_ok-add.ensures.live ∙ ap (λ r. r ++ entry (length c.loop-c.stored.items) c.slice.result.now ∷ []) c.loop-c.invariant.live ∙
          ap (λ n. axioms_from 1 (take c.loop-c.c-index c.args.clauses.now) ++ entry n c.slice.result.now ∷ []) c.loop-c.invariant.same_length ∙
          ap (λ x. axioms_from 1 (take c.loop-c.c-index c.args.clauses.now) ++ entry c.loop-c.c-index x ∷ []) clause ∙
          sym (axioms_more c.args.clauses.now c.loop-c.c-index c.c-item.result c.loop-c-test.true);
      same_length = c.in_ok-add.ensures.length ∙ ap (λ n. n + 1) c.loop-c.invariant.same_length;
    }
