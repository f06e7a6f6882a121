use Rattle.std.proofs.Common.{◌≡◌, map, length, ap, sym, subst, ◌∙◌}
use Rattle.std.proofs.lemmas.List.{length-map}
use Rattle.bs_clause.specs.Literal.{code_of}
use Rattle.bs_clause.specs.Range.{HasVariables}
use Rattle.std.specs.Prelude.{option_map}
use Rattle.bs_arena.specs.Arena.{Held, held_at, literal_of, literals_at}
use Rattle.bs_watch.specs.Choice.{IsHighestOf}
use Rattle.bs_watch.proofs.Choices.{id_swapped}
use Rattle.bs_watch.proofs.Codes.{literals_back}
use Rattle.bs_watch.proofs.Steps.{literals_swapped}
use Rattle.bs_watch.proofs.choice.lift.Goals as goal

pub highest-best-requires-clause-range : goal.highest-best-requires-clause-range
highest-best-requires-clause-range c =
    subst (HasVariables c.args.trail.now.vars)
    (sym (ap (map literal_of) c.lits.ensures.literals ∙ literals_back (literals_at c.args.arena.now.clauses c.args.r))) c.requires.range

pub returns-clause-lifted : goal.returns-clause-lifted
returns-clause-lifted c =
    let clause = literals_at c.args.arena.now.clauses c.args.r in
    let back : map literal_of c.lits.result.now ≡ literals_at c.args.arena.now.clauses c.args.r =
    ap (map literal_of) c.lits.ensures.literals ∙ literals_back (literals_at c.args.arena.now.clauses c.args.r) in
    let long : length c.lits.result.now ≡ length (literals_at c.args.arena.now.clauses c.args.r) =
    ap length c.lits.ensures.literals ∙ length-map (literals_at c.args.arena.now.clauses c.args.r) code_of in
    record {
      best = c.highest-best.result;
      highest = subst (λ n. IsHighestOf c.args.trail.now.places (literals_at c.args.arena.now.clauses c.args.r) c.args.to n c.highest-best.result) long
          (subst (λ x. IsHighestOf c.args.trail.now.places x c.args.to (length c.lits.result.now) c.highest-best.result) back c.highest-best.ensures);
      exchanged = literals_swapped c.args.arena.now.clauses c.swap.new.self.clauses c.args.r c.args.to c.highest-best.result
          (record { clauses = c.swap.ensures.clauses; found = c.swap.ensures.found; others = c.swap.ensures.others }) c.requires.live;
    }

pub returns-clause-id : goal.returns-clause-id
returns-clause-id c =
    ap (option_map (λ (h : Held). h.id)) c.swap.ensures.found ∙
    id_swapped c.args.to c.highest-best.result (held_at c.args.arena.now.clauses c.args.r)
