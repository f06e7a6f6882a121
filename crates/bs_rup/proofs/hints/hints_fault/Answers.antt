use Rattle.std.proofs.Common.{◌≡◌, ◌+◌, ◌<◌, length, drop, ap, ◌∙◌, sym, arith, Some, None, ◌∷◌, cond}
use Rattle.std.specs.Prelude.{option_and_then, is_some}
use Rattle.bs_log.specs.Propagation.{after_hints, ends_false_after}
use Rattle.bs_log.specs.Refusal.{clauses_of}
use Rattle.bs_log.specs.declared.why.Why.TheVariants.{NotUnit, NotFalse}
use Rattle.bs_rup.specs.LiveClauses.{live_from}
use Rattle.bs_rup.proofs.HintSteps.{after_step, ends_step}
use Rattle.bs_rup.proofs.hints.hints_fault.Goals as goal

pub returns-in-None : goal.returns-in-None
returns-in-None c =
    let live = live_from 1 c.args.stored.now in
    let within : c.loop-i.i + 1 < length c.args.hints.now = omega arith in
    let lost : after_hints c.args.trail.now (clauses_of live c.args.hints.now) ≡ None =
    c.loop-i.invariant.after ∙ after_step c.loop-i.trail live c.args.hints.now c.loop-i.i c.lits_at.result.now c.requires within c.lits_at.ensures ∙
    ap (option_and_then (λ l. after_hints (l ∷ c.loop-i.trail) (clauses_of live (drop (c.loop-i.i + 1) c.args.hints.now)))) (sym c.in-None.ensures) in
    sym (ap (λ o. cond (is_some o)
    (cond (ends_false_after (clauses_of live c.args.hints.now) (after_hints c.args.trail.now (clauses_of live c.args.hints.now))) None
    (Some NotFalse)) (Some NotUnit)) lost)

pub loop-i-preserved : goal.loop-i-preserved
loop-i-preserved c =
    let live = live_from 1 c.args.stored.now in
    let within : c.loop-i.i + 1 < length c.args.hints.now = omega arith in
    record {
      after = c.loop-i.invariant.after ∙ after_step c.loop-i.trail live c.args.hints.now c.loop-i.i c.lits_at.result.now c.requires within c.lits_at.ensures ∙
          ap (option_and_then (λ l. after_hints (l ∷ c.loop-i.trail) (clauses_of live (drop (c.loop-i.i + 1) c.args.hints.now)))) (sym c.in-Some.ensures) ∙
          ap (λ t. after_hints t (clauses_of live (drop (c.loop-i.i + 1) c.args.hints.now))) (sym c.in_ok-set-in-Some.ensures.ok);
      ends = λ trues. c.loop-i.invariant.ends trues ∙ ends_step trues live c.args.hints.now c.loop-i.i c.lits_at.result.now c.requires within c.lits_at.ensures;
    }
