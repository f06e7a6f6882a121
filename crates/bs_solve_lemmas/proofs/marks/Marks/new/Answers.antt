use Rattle.std.proofs.Common.{List, ◌+◌, false, replicate, sym, subst}
use Rattle.std.specs.Prelude.{Bool}
use Rattle.bs_clause.specs.Literal.{Literal}
use Rattle.bs_solve_lemmas.specs.Marks.{IsClear}
use Rattle.bs_solve_lemmas.proofs.Moving.{clear_at_first}
use Rattle.bs_solve_lemmas.proofs.marks.Marks.new.Goals as goal

pub returns : goal.returns
returns c =
    subst (λ (fs : List Bool). IsClear (c.args.vars + 1) (record { flags = fs; touched = c.new.result.items })) (sym c.in_ok-flags.ensures)
    (subst (λ (ls : List Literal). IsClear (c.args.vars + 1) (record { flags = replicate (c.args.vars + 1) false; touched = ls }))
    (sym c.new.ensures.items) (clear_at_first (c.args.vars + 1)))
