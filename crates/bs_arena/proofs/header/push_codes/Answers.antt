use Rattle.std.proofs.Common.{subst, arith}
use Rattle.std.proofs.lemmas.Grind.{common_steps}
use Rattle.std.proofs.lemmas.List.Elements.{All-more}
use Rattle.bs_clause.specs.Literal.{Literal, code_of, IsCode}
use Rattle.bs_arena.proofs.header.push_codes.Goals as goal

pub loop-l-preserved : goal.loop-l-preserved
loop-l-preserved c = record {
  items = grind (arith, common_steps);
  len = grind (arith, common_steps);
  codes = All-more (λ x. IsCode (code_of x)) c.args.literals.now c.loop-l.l-index c.l-item.result c.loop-l-test.true c.loop-l.invariant.codes
      (subst (λ (x : Literal). IsCode (code_of x)) c.l-item.is (subst IsCode c.code.ensures.code c.code.ensures.range));
  capacity = omega arith;
}
