use Rattle.std.proofs.Common.{subst, sym, ◌∙◌}
use Rattle.std.specs.Prelude.{IfSome}
use Rattle.bs_clause.specs.Literal.{Clause}
use Rattle.bs_scan.specs.Seen.{kept}
use Rattle.bs_scan.proofs.KeptLemmas.{kept_there}
use Rattle.bs_encode.specs.Assuming.{signed}
use Rattle.bs_encode.proofs.SeenSigns.{kept_signed}
use Rattle.bs_reach_unrolled.specs.Unrolled.{next_at, unrolled}
use Rattle.bs_reach_unrolled.specs.Rows.{Refutes}
use Rattle.bs_reach_unrolled.proofs.FailedAssumptionLemmas.{refutes_found}
use Rattle.bs_reach_unrolled.proofs.failure.failed_assumption.Goals as goal

pub returns : goal.returns
returns c =
    let all = unrolled c.args.encoding.now c.args.reset.now c.args.k in
    let p = c.args.state.now in
    let next : Clause = next_at c.args.encoding.now c.args.c in
    let there = kept_there p.free (signed next p.bits) c.number_at-f.result c.wanted_of-wanted.result c.wanted_of-wanted.ensures
    (sym c.is_free.ensures ∙ c.if-is_free.false) in
    subst (λ (a : Clause). IfSome c.in_ok-lemma.lemma (Refutes all a)) (sym (kept_signed p.free next p.bits))
    (refutes_found all (kept p.free (signed next p.bits)) c.wanted_of-wanted.result there.place c.in_ok-lemma.lemma there.is c.in_ok-lemma.ensures)
