use Rattle.std.proofs.Common.{Bor, sym, ◌∙◌, ap, arith}
use Rattle.std.specs.Prelude.{option_map}
use Rattle.bs_clause.specs.Literal.{Clause}
use Rattle.bs_log.proofs.Walking.{lemma_back, lemma_there, lemma_nowhere}
use Rattle.bs_log.proofs.finish.lemma_of.Goals as goal

pub returns-in-Some : goal.returns-in-Some
returns-in-Some c =
    lemma_there c.args.lines.now c.lines.i c.args.id c.index-lines-i.result c.in-Some.lits.now c.lines-test.true c.lines.invariant.within c.index-lines-i.is
    (sym c.lemma_named.ensures ∙ ap (option_map (λ (s : Bor Clause). s.now)) c.in-Some.is) c.lines.invariant.rest

pub lines-preserved : goal.lines-preserved
lines-preserved c =
    record {
      rest =
          lemma_back c.args.lines.now c.lines.i c.args.id c.index-lines-i.result c.lines-test.true c.lines.invariant.within c.index-lines-i.is
          (sym c.lemma_named.ensures ∙ ap (option_map (λ (s : Bor Clause). s.now)) c.in-None.is) c.lines.invariant.rest;
      within = omega (arith, c.lines.invariant.within);
    }

pub returns : goal.returns
returns c = lemma_nowhere c.args.lines.now c.lines.i c.args.id c.lines-test.false c.lines.invariant.rest
