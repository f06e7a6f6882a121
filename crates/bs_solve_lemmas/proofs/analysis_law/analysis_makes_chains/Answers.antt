use Rattle.bs_solve_lemmas.proofs.Derivations.{derives_at_conflict, derives_backwards, derives_lemma}
use Rattle.bs_solve_lemmas.proofs.analysis_law.analysis_makes_chains.Goals as goal

pub returns-clause-start : goal.returns-clause-start
returns-clause-start c = derives_at_conflict

pub returns-clause-step : goal.returns-clause-step
returns-clause-step c = derives_backwards

pub returns-clause-end : goal.returns-clause-end
returns-clause-end c = derives_lemma
