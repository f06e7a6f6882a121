use Rattle.std.proofs.Common.{length, ap, arith}
use Rattle.std.proofs.lemmas.List.{length-map}
use Rattle.bs_clause.specs.Literal.{code_of}
use Rattle.bs_arena.specs.Arena.{literals_at}
use Rattle.bs_solve.proofs.reading.clause_len.Goals as goal

pub returns : goal.returns
returns c =
    let e = ap length c.lits.ensures.literals in
    let n = length-map (literals_at c.args.arena.now.clauses c.args.r) code_of in
    omega (arith, e, n)
