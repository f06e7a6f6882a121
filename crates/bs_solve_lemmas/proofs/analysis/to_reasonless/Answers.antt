use Rattle.std.proofs.Common.{◌-◌, ◌++◌, ◌∷◌, [], length, sym, ap, ◌∙◌, inl, inr}
use Rattle.std.proofs.lemmas.List.{length-map}
use Rattle.bs_watch.specs.Places.{Place}
use Rattle.bs_solve_lemmas.specs.ImplicationPoint.{IsReasonIn}
use Rattle.bs_solve_lemmas.proofs.Steps.{clause_within, may_trade, at_first, past_free, traded_free, done}
use Rattle.bs_solve_lemmas.proofs.analysis.to_reasonless.Goals as goal

pub mark_clause-requires-clause-range : goal.mark_clause-requires-clause-range
mark_clause-requires-clause-range c =
    clause_within c.args.arena.now.clauses c.args.conflict c.args.watch.now.trail.vars c.args.marks.now c.requires.conflict.live c.requires.range
    c.requires.clear.length_is

pub walk-init : goal.walk-init
walk-init c =
    at_first c.args.arena.now.clauses c.args.watch.now.levels c.args.watch.now.trail.places c.args.watch.now.trail.vars c.args.conflict
    c.args.marks.now c.mark_clause.new.marks c.push.new.self.items (length c.trail-down.result.now)
    c.holds_levels.ensures.apart c.requires.reasoned c.requires.range c.requires.distinct c.requires.conflict c.requires.spared c.requires.clear
    c.in_ok-mark_clause.ensures.marked
    (ap length c.trail-down.ensures ∙ length-map c.args.watch.now.trail.places (λ (p : Place). p.literal))
    (c.in_ok-push.ensures.items ∙ ap (λ xs. xs ++ c.args.conflict ∷ []) c.new-hints.ensures.items)

pub walk-preserved : goal.walk-preserved
walk-preserved c =
    past_free c.args.arena.now.clauses c.args.watch.now.levels c.args.watch.now.trail.places c.walk.down c.args.watch.now.trail.vars c.walk.marks
    c.walk.hints.items
    c.literal_at-pivot.result (c.goes_on.ensures.some c.walk-test.true) c.literal_at-pivot.ensures.literal (inl
    (sym c.has.ensures ∙ c.if-has.false)) c.walk.invariant

pub walk-preserved-in-None : goal.walk-preserved-in-None
walk-preserved-in-None c =
    let is : IsReasonIn c.args.watch.now.trail.places (c.walk.down - 1) c.reason_at.result = c.reason_at.ensures in
    past_free c.args.arena.now.clauses c.args.watch.now.levels c.args.watch.now.trail.places c.walk.down c.args.watch.now.trail.vars c.walk.marks
    c.walk.hints.items
    c.literal_at-pivot.result (c.goes_on.ensures.some c.walk-test.true) c.literal_at-pivot.ensures.literal (inr
    (is.0, is.1, is.2 ∙ c.in-None.is)) c.walk.invariant

pub trade-requires-clause-live : goal.trade-requires-clause-live
trade-requires-clause-live c =
    let is : IsReasonIn c.args.watch.now.trail.places (c.walk.down - 1) c.reason_at.result = c.reason_at.ensures in
    (may_trade c.args.arena.now.clauses c.args.watch.now.trail.places (c.walk.down - 1) c.args.watch.now.trail.vars c.walk.marks c.literal_at-pivot.result
    c.in-Some.reason c.holds_levels.ensures.apart c.requires.reasoned c.requires.range c.walk.invariant.flags c.literal_at-pivot.ensures.literal
    (is.0, is.1, is.2 ∙ c.in-Some.is) (sym c.has.ensures ∙ c.if-has.true)).live

pub trade-requires-clause-range : goal.trade-requires-clause-range
trade-requires-clause-range c =
    let is : IsReasonIn c.args.watch.now.trail.places (c.walk.down - 1) c.reason_at.result = c.reason_at.ensures in
    (may_trade c.args.arena.now.clauses c.args.watch.now.trail.places (c.walk.down - 1) c.args.watch.now.trail.vars c.walk.marks c.literal_at-pivot.result
    c.in-Some.reason c.holds_levels.ensures.apart c.requires.reasoned c.requires.range c.walk.invariant.flags c.literal_at-pivot.ensures.literal
    (is.0, is.1, is.2 ∙ c.in-Some.is) (sym c.has.ensures ∙ c.if-has.true)).range

pub trade-requires-clause-known : goal.trade-requires-clause-known
trade-requires-clause-known c =
    let is : IsReasonIn c.args.watch.now.trail.places (c.walk.down - 1) c.reason_at.result = c.reason_at.ensures in
    (may_trade c.args.arena.now.clauses c.args.watch.now.trail.places (c.walk.down - 1) c.args.watch.now.trail.vars c.walk.marks c.literal_at-pivot.result
    c.in-Some.reason c.holds_levels.ensures.apart c.requires.reasoned c.requires.range c.walk.invariant.flags c.literal_at-pivot.ensures.literal
    (is.0, is.1, is.2 ∙ c.in-Some.is) (sym c.has.ensures ∙ c.if-has.true)).known

pub walk-preserved-in_ok-trade-in-Some : goal.walk-preserved-in_ok-trade-in-Some
walk-preserved-in_ok-trade-in-Some c =
    let is : IsReasonIn c.args.watch.now.trail.places (c.walk.down - 1) c.reason_at.result = c.reason_at.ensures in
    traded_free c.args.arena.now.clauses c.args.watch.now.levels c.args.watch.now.trail.places c.walk.down c.args.watch.now.trail.vars c.walk.marks
    c.trade.new.marks
    c.walk.hints.items c.trade.new.hints.items c.literal_at-pivot.result c.in-Some.reason
    (c.goes_on.ensures.some c.walk-test.true) c.holds_levels.ensures.apart c.requires.reasoned
    c.requires.range c.requires.distinct c.requires.spared c.literal_at-pivot.ensures.literal (is.0, is.1, is.2 ∙ c.in-Some.is)
    (sym c.has.ensures ∙ c.if-has.true)
    c.in_ok-trade-in-Some.ensures.marks c.in_ok-trade-in-Some.ensures.hints c.walk.invariant

pub returns-clause-learnt : goal.returns-clause-learnt
returns-clause-learnt c =
    (done c.args.arena.now.clauses c.args.watch.now.levels c.args.watch.now.trail.places c.walk.down c.args.watch.now.trail.vars c.walk.marks
    c.marked_lits.new.marks
    c.walk.hints.items c.in_ok-lits.lits (c.goes_on.ensures.none c.walk-test.false) c.requires.spared c.holds_levels.ensures.apart
    c.requires.reasoned c.in_ok-lits.ensures c.walk.invariant).learnt

pub returns-clause-reasonless : goal.returns-clause-reasonless
returns-clause-reasonless c =
    (done c.args.arena.now.clauses c.args.watch.now.levels c.args.watch.now.trail.places c.walk.down c.args.watch.now.trail.vars c.walk.marks
    c.marked_lits.new.marks
    c.walk.hints.items c.in_ok-lits.lits (c.goes_on.ensures.none c.walk-test.false) c.requires.spared c.holds_levels.ensures.apart
    c.requires.reasoned c.in_ok-lits.ensures c.walk.invariant).reasonless
