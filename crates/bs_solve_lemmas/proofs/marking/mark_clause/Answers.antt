use Rattle.std.proofs.Common.{◌≡◌, ◌⊎◌, map, true, ap, sym, subst, ◌∙◌}
use Rattle.std.specs.Prelude.{All}
use Rattle.bs_arena.specs.Arena.{literal_of, literals_at}
use Rattle.bs_watch.specs.Trail.{IsFalseOn}
use Rattle.bs_watch.specs.Places.{literals_of}
use Rattle.bs_watch.proofs.Codes.{literals_back}
use Rattle.bs_solve_lemmas.specs.Marks.{is_marked, AreWithin, HasMarked}
use Rattle.bs_solve_lemmas.proofs.marking.mark_clause.Goals as goal

pub mark_codes-requires-clause-range : goal.mark_codes-requires-clause-range
mark_codes-requires-clause-range c =
    let back : map literal_of c.lits.result.now ≡ literals_at c.args.arena.now.clauses c.args.r =
    ap (map literal_of) c.lits.ensures.literals ∙ literals_back (literals_at c.args.arena.now.clauses c.args.r) in
    subst (AreWithin c.args.marks.now) (sym back) c.requires.range

pub mark_codes-requires-clause-known : goal.mark_codes-requires-clause-known
mark_codes-requires-clause-known c =
    let back : map literal_of c.lits.result.now ≡ literals_at c.args.arena.now.clauses c.args.r =
    ap (map literal_of) c.lits.ensures.literals ∙ literals_back (literals_at c.args.arena.now.clauses c.args.r) in
    subst (All (λ m. (is_marked c.args.marks.now m ≡ true) ⊎ IsFalseOn (literals_of c.args.watch.now.trail.places) m)) (sym back) c.requires.known

pub returns-clause-marked : goal.returns-clause-marked
returns-clause-marked c =
    let back : map literal_of c.lits.result.now ≡ literals_at c.args.arena.now.clauses c.args.r =
    ap (map literal_of) c.lits.ensures.literals ∙ literals_back (literals_at c.args.arena.now.clauses c.args.r) in
    subst (HasMarked c.args.marks.now c.mark_codes.new.marks) back c.in_ok-more.ensures.marked
