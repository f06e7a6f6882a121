use Rattle.std.proofs.Common.{◌≡◌, ◌+◌, ◌∷◌, [], ◌++◌, rules}
use Rattle.bs_log.specs.Clauses.{clause_text, off}
use Rattle.bs_log.proofs.ClosedLemmas.{closed_texts_more}
use Rattle.bs_log.proofs.clauses.push_closed.Goals as goal

pub steps-preserved : goal.steps-preserved
steps-preserved c =
    let grown : c.push_unit.new.text.items ≡ c.steps.text.items ++ clause_text (off c.args.vars (c.args.first + c.steps.i) ∷ []) = search rules in
    closed_texts_more c.args.vars c.args.first c.steps.i c.args.text.now.items c.steps.text.items c.push_unit.new.text.items c.steps.invariant grown
