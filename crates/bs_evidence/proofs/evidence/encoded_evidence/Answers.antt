use Rattle.std.proofs.Common.{◌∙◌, sym, map, length, arith, ap, subst}
use Rattle.std.specs.Prelude.{IfSome}
use Rattle.std.proofs.lemmas.List.{length-map}
use Rattle.bs_log.specs.Walk.{IsOneOf}
use Rattle.bs_net.specs.Netlist.{circuit}
use Rattle.bs_encode.proofs.AssumingLemmas.{length_steps_from}
use Rattle.bs_report.specs.Chain.{present_of}
use Rattle.bs_evidence.specs.Evidence.{problem_for}
use Rattle.bs_evidence.proofs.FitLemmas.{fits_suit}
use Rattle.bs_evidence.proofs.ProblemLemmas.{problem_over, same_problem, evidence_of}
use Rattle.bs_evidence.proofs.evidence.encoded_evidence.Goals as goal

pub assumptions-requires : goal.assumptions-requires
assumptions-requires c =
    record {
      fit =
          rw c.slice.ensures (fits_suit
          (circuit c.args.net.now) c.args.choice.now c.args.encoding.now c.args.report.now.steps c.depth-depth.ensures.sound.kept
          c.requires.tidy c.requires.fits.fit);
      room = omega (arith, c.requires.tidy.room, c.requires.few, c.requires.fits.few, ap length c.slice.ensures);
    }

pub log_evidence-evidence-requires : goal.log_evidence-evidence-requires
log_evidence-evidence-requires c =
    let many =
    ap length (rw c.slice.ensures at c.in-Ok.ensures)
    ∙ (length_steps_from c.args.encoding.now 1 (map present_of c.args.report.now.steps) ∙ length-map c.args.report.now.steps present_of) in
    record {
      there = subst (λ n. IfSome c.args.asked (IsOneOf n)) (sym many) c.requires.there;
      room = omega (arith, many, c.vars.ensures, c.requires.tidy.room, c.requires.few, c.requires.fits.few);
    }

pub returns-in-Ok : goal.returns-in-Ok
returns-in-Ok c =
    evidence_of c.args.kind (problem_over c.vars.result c.clauses.result.now c.in-Ok.assumptions)
    (problem_for (circuit c.args.net.now) c.args.choice.now c.args.report.now) c.args.report.now.log c.args.asked c.log_evidence-evidence.result
    (same_problem (circuit c.args.net.now) c.args.choice.now
    (map present_of c.args.report.now.steps) c.args.encoding.now c.vars.result c.clauses.result.now c.in-Ok.assumptions c.requires.value
    c.vars.ensures c.clauses.ensures (rw c.slice.ensures at c.in-Ok.ensures)) c.log_evidence-evidence.ensures
