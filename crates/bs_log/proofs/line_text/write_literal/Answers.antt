use Rattle.std.proofs.Common.{refl, arith, rules}
use Rattle.std.proofs.lemmas.List.{drop-set, drop_all}
use Rattle.bs_log.proofs.Keeping.{few_digits}
use Rattle.bs_log.proofs.line_text.write_literal.Goals as goal

pub write_digits-start-requires : goal.write_digits-start-requires
write_digits-start-requires c =
    let few = few_digits c.from.result (omega (arith, c.from.ensures, c.var.ensures.variable, c.var.ensures.range.1)) in
    (omega (arith, few), search rules)

pub put_sign-requires-clause-low : goal.put_sign-requires-clause-low
put_sign-requires-clause-low c =
    let few = few_digits c.from.result (omega (arith, c.from.ensures, c.var.ensures.variable, c.var.ensures.range.1)) in
    omega (arith, few, c.write_digits-start.ensures.start)

pub returns-clause-written : goal.returns-clause-written
returns-clause-written c =
    rw (
      c.put_sign.ensures.signed,
      c.write_digits-start.ensures.written,
      drop-set c.args.bytes.now 11 32 (omega arith),
      drop_all 12 c.args.bytes.now (omega arith),
      c.from.ensures,
      c.var.ensures.variable,
      c.positive.ensures,
    ) refl
