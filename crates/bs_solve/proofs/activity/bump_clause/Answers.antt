use Rattle.std.proofs.Common.{◌≡◌, map, ap, sym, subst, ◌∙◌}
use Rattle.bs_clause.specs.Range.{HasVariables}
use Rattle.bs_arena.specs.Arena.{literal_of, literals_at}
use Rattle.bs_watch.proofs.Codes.{literals_back}
use Rattle.bs_solve.proofs.activity.bump_clause.Goals as goal

pub bump_codes-requires-clause-range : goal.bump_codes-requires-clause-range
bump_codes-requires-clause-range c =
    let back : map literal_of c.lits.result.now ≡ literals_at c.args.arena.now.clauses c.args.r =
    ap (map literal_of) c.lits.ensures.literals ∙ literals_back (literals_at c.args.arena.now.clauses c.args.r) in
    subst (HasVariables c.args.watch.now.trail.vars) (sym back) c.requires.range
