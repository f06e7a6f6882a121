use Rattle.std.proofs.Common.{◌≡◌, ◌+◌, ◌∷◌, List, length, take, arith, sym, ap, subst, ◌∙◌}
use Rattle.bs_log.specs.declared.line.Line.{Line}
use Rattle.bs_log.specs.History.{Problem, History, State, state_of}
use Rattle.bs_rup.specs.Problem.{meaning}
use Rattle.bs_log.specs.Refusal.{history_of, NoneRefused, IsFirstRefused}
use Rattle.bs_log.proofs.Histories.{in_range, IsInRange}
use Rattle.bs_rup.proofs.Steps.{Goes, goes, first_refused, state_follows, history_more}
use Rattle.bs_rup.specs.Retired.{retired_units}
use Rattle.bs_rup.proofs.Units.{unit_of_step}
use Rattle.bs_rup.proofs.verdict.verdict_from.Goals as goal

pub refusal-requires : goal.refusal-requires
refusal-requires c =
    let p : Problem = meaning c.args.problem.now in
    let h : History = history_of (take c.loop-i.i c.args.lines.now) in
    let r : IsInRange p h = in_range p h c.loop-i.invariant.right in
    omega (arith, r.next, ap (λ (s : State). s.step) c.loop-i.invariant.state, c.requires.room)

pub returns-in-Some : goal.returns-in-Some
returns-in-Some c =
    let p : Problem = meaning c.args.problem.now in
    let lines : List Line = c.args.lines.now in
    let h : History = history_of (take c.loop-i.i lines) in
    first_refused p lines c.loop-i.i c.index-lines-i.result c.loop-i.state c.in-Some.why c.loop-i-test.true c.index-lines-i.is c.loop-i.invariant.state
    c.loop-i.invariant.right (sym c.in_ok-why.ensures ∙ c.in-Some.is)

pub add-requires-clause-activation : goal.add-requires-clause-activation
add-requires-clause-activation c =
    let p : Problem = meaning c.args.problem.now in
    let lines : List Line = c.args.lines.now in
    let h : History = history_of (take c.loop-i.i lines) in
    let g : Goes p h c.index-lines-i.result c.loop-i.state =
    goes p h c.index-lines-i.result c.loop-i.state c.loop-i.invariant.state c.loop-i.invariant.right (sym c.in_ok-why.ensures ∙ c.in-None.is) in
    (g.started, omega (arith, g.in_range, c.requires.room))

pub add-requires-clause-retire : goal.add-requires-clause-retire
add-requires-clause-retire c =
    let p : Problem = meaning c.args.problem.now in
    let lines : List Line = c.args.lines.now in
    let h : History = history_of (take c.loop-i.i lines) in
    let g : Goes p h c.index-lines-i.result c.loop-i.state =
    goes p h c.index-lines-i.result c.loop-i.state c.loop-i.invariant.state c.loop-i.invariant.right (sym c.in_ok-why.ensures ∙ c.in-None.is) in
    λ r. unit_of_step c.args.problem.now.vars (length c.args.problem.now.steps.now) c.loop-i.state.step c.args.retired.now
    c.requires.retired g.started (g.retire r)

pub add-requires-clause-ids : goal.add-requires-clause-ids
add-requires-clause-ids c =
    let p : Problem = meaning c.args.problem.now in
    let lines : List Line = c.args.lines.now in
    let h : History = history_of (take c.loop-i.i lines) in
    let g : Goes p h c.index-lines-i.result c.loop-i.state =
    goes p h c.index-lines-i.result c.loop-i.state c.loop-i.invariant.state c.loop-i.invariant.right (sym c.in_ok-why.ensures ∙ c.in-None.is) in
    g.ids

pub loop-i-preserved : goal.loop-i-preserved
loop-i-preserved c =
    let p : Problem = meaning c.args.problem.now in
    let lines : List Line = c.args.lines.now in
    let h : History = history_of (take c.loop-i.i lines) in
    let g : Goes p h c.index-lines-i.result c.loop-i.state =
    goes p h c.index-lines-i.result c.loop-i.state c.loop-i.invariant.state c.loop-i.invariant.right (sym c.in_ok-why.ensures ∙ c.in-None.is) in
    let more : history_of (take (c.loop-i.i + 1) lines) ≡ c.index-lines-i.result ∷ h =
    history_more lines c.loop-i.i c.index-lines-i.result c.loop-i-test.true ∙ ap (λ x. x ∷ h) (sym c.index-lines-i.is) in
    record {
      state =
          state_follows p h c.index-lines-i.result c.loop-i.state c.add.new.self c.loop-i.invariant.state g.right c.in_ok-add-in-None.ensures
          ∙ ap (state_of p) (sym more);
      right = subst (NoneRefused p) (sym more) g.right;
    }
