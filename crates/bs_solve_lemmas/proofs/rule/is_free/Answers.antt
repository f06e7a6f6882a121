use Rattle.std.proofs.Common.{◌≡◌, ◌&&◌, not, map, sym, ap, ◌∙◌}
use Rattle.bs_clause.specs.Literal.{Clause}
use Rattle.bs_arena.specs.Arena.{literal_of, literals_at}
use Rattle.bs_log.specs.Kept.{has_retired_activation}
use Rattle.bs_watch.proofs.Codes.{literals_back}
use Rattle.bs_solve_lemmas.specs.Keeping.{over}
use Rattle.bs_solve_lemmas.proofs.Rules.{lemma_back}
use Rattle.bs_solve_lemmas.proofs.rule.is_free.Goals as goal

pub returns : goal.returns
returns c =
    let clause = literals_at c.args.arena.now.clauses c.args.row.clause in
    let back : map literal_of c.lits-codes.result.now ≡ clause = ap (map literal_of) c.lits-codes.ensures.literals ∙ literals_back clause in
    c.is_free_clause.ensures ∙
    ap (λ (cs : Clause). c.args.row.is_lemma && not (has_retired_activation (over c.args.activations.own) c.args.activations.steps cs)) back ∙
    ap (λ b. b && not (has_retired_activation (over c.args.activations.own) c.args.activations.steps clause)) (sym (lemma_back c.args.arena.now.clauses c.args.row))
