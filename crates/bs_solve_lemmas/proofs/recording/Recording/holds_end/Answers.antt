use Rattle.std.proofs.Common.{◌≡◌, ◌∷◌, ◌++◌, [], sym, subst, refl, ◌∙◌}
use Rattle.bs_clause.specs.Literal.{negation}
use Rattle.bs_log.specs.declared.origin.Origin.TheVariants.{Retired}
use Rattle.bs_log.specs.History.{live}
use Rattle.bs_solve_lemmas.specs.ProofLog.{ProofLog, IsKept, next_id}
use Rattle.bs_solve_lemmas.proofs.ProofLogs.{retired_stands}
use Rattle.bs_solve_lemmas.proofs.recording.Recording.holds_end.Goals as goal

pub returns : goal.returns
returns c =
    let b : ProofLog = c.args.self.now in
    retired_stands b (next_id b) (subst IsKept c.self.view_is c.self.invariant.kept) refl ∙
    (λ i. live b.problem b.history ++ record { id = next_id b; origin = Retired; literals = negation (sym c.requires i) ∷ [] } ∷ [])
