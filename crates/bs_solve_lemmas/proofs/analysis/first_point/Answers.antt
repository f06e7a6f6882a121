use Rattle.std.proofs.Common.{◌≡◌, ◌-◌, ◌<◌, ◌≤◌, ◌++◌, ◌∷◌, [], length, drop, sym, ap, ◌∙◌, arith}
use Rattle.std.proofs.lemmas.List.{length-map, length-drop}
use Rattle.std.proofs.lemmas.List.Sums.{count_by-le-length}
use Rattle.bs_watch.specs.Places.{Place}
use Rattle.bs_solve_lemmas.specs.Reasons.{last_start}
use Rattle.bs_solve_lemmas.specs.Marks.{is_marked, marks_in}
use Rattle.bs_solve_lemmas.specs.ImplicationPoint.{IsReasonIn}
use Rattle.bs_solve_lemmas.proofs.Steps.{clause_within, may_trade, at_start, walk_above, past_point, traded_point, never_free, found}
use Rattle.bs_solve_lemmas.proofs.analysis.first_point.Goals as goal

pub mark_clause-requires-clause-range : goal.mark_clause-requires-clause-range
mark_clause-requires-clause-range c =
    clause_within c.args.arena.now.clauses c.args.conflict c.args.watch.now.trail.vars c.args.marks.now c.requires.conflict.live c.requires.range
    c.requires.clear.length_is

pub walk-init : goal.walk-init
walk-init c =
    at_start c.args.arena.now.clauses c.args.watch.now.trail.places (last_start c.args.watch.now.levels) c.args.watch.now.trail.vars c.args.conflict
    c.args.marks.now c.mark_clause.new.marks c.push.new.self.items c.in_ok-ahead.ahead (length c.trail-down.result.now)
    c.holds_levels.ensures.apart c.requires.reasoned c.requires.range c.requires.distinct c.requires.conflict c.requires.quiet c.requires.clear
    c.in_ok-ahead.ensures.marked c.in_ok-ahead.ensures.count
    (ap length c.trail-down.ensures ∙ length-map c.args.watch.now.trail.places (λ (p : Place). p.literal))
    (c.in_ok-push.ensures.items ∙ ap (λ xs. xs ++ c.args.conflict ∷ []) c.new-hints.ensures.items)

pub overflow_sub-down : goal.overflow_sub-down
overflow_sub-down c =
    let above : last_start c.args.watch.now.levels < c.walk.down =
    walk_above c.args.arena.now.clauses c.args.watch.now.trail.places c.args.conflict (last_start c.args.watch.now.levels) c.walk.down
    c.args.watch.now.trail.vars c.walk.marks c.walk.hints.items c.walk.ahead c.holds_levels.ensures.apart c.requires.reasoned c.walk.invariant in
    omega (arith, above)

pub walk-smaller : goal.walk-smaller
walk-smaller c =
    let above : last_start c.args.watch.now.levels < c.walk.down =
    walk_above c.args.arena.now.clauses c.args.watch.now.trail.places c.args.conflict (last_start c.args.watch.now.levels) c.walk.down
    c.args.watch.now.trail.vars c.walk.marks c.walk.hints.items c.walk.ahead c.holds_levels.ensures.apart c.requires.reasoned c.walk.invariant in
    omega (arith, above)

pub walk-smaller-in-Some : goal.walk-smaller-in-Some
walk-smaller-in-Some c =
    let above : last_start c.args.watch.now.levels < c.walk.down =
    walk_above c.args.arena.now.clauses c.args.watch.now.trail.places c.args.conflict (last_start c.args.watch.now.levels) c.walk.down
    c.args.watch.now.trail.vars c.walk.marks c.walk.hints.items c.walk.ahead c.holds_levels.ensures.apart c.requires.reasoned c.walk.invariant in
    omega (arith, above)

pub walk-smaller-in-None : goal.walk-smaller-in-None
walk-smaller-in-None c =
    let above : last_start c.args.watch.now.levels < c.walk.down =
    walk_above c.args.arena.now.clauses c.args.watch.now.trail.places c.args.conflict (last_start c.args.watch.now.levels) c.walk.down
    c.args.watch.now.trail.vars c.walk.marks c.walk.hints.items c.walk.ahead c.holds_levels.ensures.apart c.requires.reasoned c.walk.invariant in
    omega (arith, above)

pub walk-preserved : goal.walk-preserved
walk-preserved c =
    past_point c.args.arena.now.clauses c.args.watch.now.trail.places c.args.conflict (last_start c.args.watch.now.levels) c.walk.down
    c.args.watch.now.trail.vars c.walk.marks c.walk.hints.items c.walk.ahead c.literal_at-pivot.result c.holds_levels.ensures.apart c.requires.reasoned
    c.requires.start c.requires.quiet c.literal_at-pivot.ensures.literal (sym c.has.ensures ∙ c.if-has.false) c.walk.invariant

pub trade-requires-clause-live : goal.trade-requires-clause-live
trade-requires-clause-live c =
    let is : IsReasonIn c.args.watch.now.trail.places (c.walk.down - 1) c.reason_at.result = c.reason_at.ensures in
    (may_trade c.args.arena.now.clauses c.args.watch.now.trail.places (c.walk.down - 1) c.args.watch.now.trail.vars c.walk.marks c.literal_at-pivot.result
    c.in-Some.reason c.holds_levels.ensures.apart c.requires.reasoned c.requires.range c.walk.invariant.flags c.literal_at-pivot.ensures.literal
    (is.0, is.1, is.2 ∙ c.in-Some.is) (sym c.has.ensures ∙ c.if-has.true)).live

pub trade-requires-clause-range : goal.trade-requires-clause-range
trade-requires-clause-range c =
    let is : IsReasonIn c.args.watch.now.trail.places (c.walk.down - 1) c.reason_at.result = c.reason_at.ensures in
    (may_trade c.args.arena.now.clauses c.args.watch.now.trail.places (c.walk.down - 1) c.args.watch.now.trail.vars c.walk.marks c.literal_at-pivot.result
    c.in-Some.reason c.holds_levels.ensures.apart c.requires.reasoned c.requires.range c.walk.invariant.flags c.literal_at-pivot.ensures.literal
    (is.0, is.1, is.2 ∙ c.in-Some.is) (sym c.has.ensures ∙ c.if-has.true)).range

pub trade-requires-clause-known : goal.trade-requires-clause-known
trade-requires-clause-known c =
    let is : IsReasonIn c.args.watch.now.trail.places (c.walk.down - 1) c.reason_at.result = c.reason_at.ensures in
    (may_trade c.args.arena.now.clauses c.args.watch.now.trail.places (c.walk.down - 1) c.args.watch.now.trail.vars c.walk.marks c.literal_at-pivot.result
    c.in-Some.reason c.holds_levels.ensures.apart c.requires.reasoned c.requires.range c.walk.invariant.flags c.literal_at-pivot.ensures.literal
    (is.0, is.1, is.2 ∙ c.in-Some.is) (sym c.has.ensures ∙ c.if-has.true)).known

pub walk-preserved-in-Some : goal.walk-preserved-in-Some
walk-preserved-in-Some c =
    let is : IsReasonIn c.args.watch.now.trail.places (c.walk.down - 1) c.reason_at.result = c.reason_at.ensures in
    traded_point c.args.arena.now.clauses c.args.watch.now.trail.places c.args.conflict (last_start c.args.watch.now.levels) c.walk.down
    c.args.watch.now.trail.vars c.walk.marks c.trade.new.marks c.walk.hints.items c.trade.new.hints.items c.walk.ahead c.in_ok-more-in-Some.more
    c.literal_at-pivot.result c.in-Some.reason c.holds_levels.ensures.apart c.requires.reasoned c.requires.start c.requires.quiet c.requires.range
    c.requires.distinct c.literal_at-pivot.ensures.literal (is.0, is.1, is.2 ∙ c.in-Some.is) (sym c.has.ensures ∙ c.if-has.true) c.if-only.false
    c.in_ok-more-in-Some.ensures.marks c.in_ok-more-in-Some.ensures.count c.in_ok-more-in-Some.ensures.hints c.walk.invariant

pub overflow_add-ahead : goal.overflow_add-ahead
overflow_add-ahead c =
    let is : IsReasonIn c.args.watch.now.trail.places (c.walk.down - 1) c.reason_at.result = c.reason_at.ensures in
    let places = c.args.watch.now.trail.places in
    let start = last_start c.args.watch.now.levels in
    let after = traded_point c.args.arena.now.clauses places c.args.conflict start c.walk.down
    c.args.watch.now.trail.vars c.walk.marks c.trade.new.marks c.walk.hints.items c.trade.new.hints.items c.walk.ahead c.in_ok-more-in-Some.more
    c.literal_at-pivot.result c.in-Some.reason c.holds_levels.ensures.apart c.requires.reasoned c.requires.start c.requires.quiet c.requires.range
    c.requires.distinct c.literal_at-pivot.ensures.literal (is.0, is.1, is.2 ∙ c.in-Some.is) (sym c.has.ensures ∙ c.if-has.true) c.if-only.false
    c.in_ok-more-in-Some.ensures.marks c.in_ok-more-in-Some.ensures.count c.in_ok-more-in-Some.ensures.hints c.walk.invariant in
    let most : marks_in c.trade.new.marks (drop start places) ≤ length (drop start places) =
    count_by-le-length (λ (x : Place). is_marked c.trade.new.marks x.literal) (drop start places) in
    let shown : length c.trail-down.result.now ≡ length places = ap length c.trail-down.ensures ∙ length-map places (λ (p : Place). p.literal) in
    omega (arith, most, length-drop start places, after.counted, shown, c.trail-down.type_inv)

pub walk-preserved-in-None : goal.walk-preserved-in-None
walk-preserved-in-None c =
    let is : IsReasonIn c.args.watch.now.trail.places (c.walk.down - 1) c.reason_at.result = c.reason_at.ensures in
    absurd (never_free c.args.arena.now.clauses c.args.watch.now.trail.places c.args.conflict (last_start c.args.watch.now.levels) c.walk.down
    c.args.watch.now.trail.vars c.walk.marks c.walk.hints.items c.walk.ahead c.literal_at-pivot.result c.holds_levels.ensures.apart c.requires.reasoned
    c.requires.start c.literal_at-pivot.ensures.literal (is.0, is.1, is.2 ∙ c.in-None.is) c.if-only.false c.walk.invariant)

pub returns-then-only-clause-learnt : goal.returns-then-only-clause-learnt
returns-then-only-clause-learnt c =
    (found c.args.arena.now.clauses c.args.watch.now.trail.places c.args.conflict (last_start c.args.watch.now.levels) c.walk.down
    c.args.watch.now.trail.vars c.walk.marks c.lemma_of.new.marks c.walk.hints.items c.walk.ahead c.literal_at-pivot.result c.in_ok-lits.lits
    c.holds_levels.ensures.apart c.requires.reasoned c.literal_at-pivot.ensures.literal c.literal_at-pivot.ensures.range
    (sym c.has.ensures ∙ c.if-has.true) c.if-only.true c.in_ok-lits.ensures c.walk.invariant).learnt

pub returns-then-only-clause-first : goal.returns-then-only-clause-first
returns-then-only-clause-first c =
    (found c.args.arena.now.clauses c.args.watch.now.trail.places c.args.conflict (last_start c.args.watch.now.levels) c.walk.down
    c.args.watch.now.trail.vars c.walk.marks c.lemma_of.new.marks c.walk.hints.items c.walk.ahead c.literal_at-pivot.result c.in_ok-lits.lits
    c.holds_levels.ensures.apart c.requires.reasoned c.literal_at-pivot.ensures.literal c.literal_at-pivot.ensures.range
    (sym c.has.ensures ∙ c.if-has.true) c.if-only.true c.in_ok-lits.ensures c.walk.invariant).first
