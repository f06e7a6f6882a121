use Rattle.std.proofs.Common.{◌≡◌, map, refl, sym, ap, subst, ◌∙◌, length, ◌<◌, ◌≤◌, ◌+◌, set, swap_remove, Some}
use Rattle.std.specs.Prelude.{slice_get, Contains}
use Rattle.bs_clause.specs.Literal.{code_of}
use Rattle.bs_clause.specs.Range.{HasVariables}
use Rattle.bs_arena.specs.Arena.{literal_of, literals_at}
use Rattle.bs_watch.specs.Trail.{IsConflict, Implies}
use Rattle.bs_watch.specs.Places.{literals_of}
use Rattle.bs_watch.specs.Look.{IsFirstTwo, IsFree}
use Rattle.bs_watch.specs.Lists.{row}
use Rattle.bs_watch.specs.Scene.{IsWatcher, Advances, AreMet}
use Rattle.std.proofs.lemmas.List.{length-map}
use Rattle.bs_watch.proofs.Gets.{get_within}
use Rattle.bs_watch.proofs.Codes.{literals_back, range_at, code_within}
use Rattle.bs_watch.proofs.Visits.{in_range, met_here, met_blocked, met_implied, conflict_of}
use Rattle.bs_watch.proofs.Advancing.{advances_refl, met_still}
use Rattle.bs_watch.proofs.Steps.{blocked, implied_one}
use Rattle.bs_watch.proofs.Moved.{Move, moved, moved_front, moved_length}
use Rattle.bs_watch.proofs.visit.visit_at.Goals as goal

pub is_true-requires : goal.is_true-requires
is_true-requires c =
    let w = c.requires.listed.listed c.args.falsified c.args.at c.get-watcher.result c.get-watcher.ensures in
    in_range c.args.trail.now.vars (literals_at c.args.arena.now.clauses c.get-watcher.result.clause) c.get-watcher.result.blocker w.watchable.range w.blocker

pub returns-then-is_true-clause-advances : goal.returns-then-is_true-clause-advances
returns-then-is_true-clause-advances c =
    advances_refl c.args.level (record { trail = c.args.trail.now; lists = c.args.lists.now; clauses = c.args.arena.now.clauses }) c.requires.listed

pub returns-then-is_true-clause-ok : goal.returns-then-is_true-clause-ok
returns-then-is_true-clause-ok c =
    let w = c.requires.listed.listed c.args.falsified c.args.at c.get-watcher.result c.get-watcher.ensures in (
      met_here (record { trail = c.args.trail.now; lists = c.args.lists.now; clauses = c.args.arena.now.clauses }) c.args.falsified c.args.at
          c.get-watcher.result c.get-watcher.result.blocker c.requires.met c.get-watcher.ensures w.blocker (c.is_true.ensures.0 c.if-is_true.true),
      refl,
    )

pub look_at-requires-clause-two : goal.look_at-requires-clause-two
look_at-requires-clause-two c =
    let w : IsWatcher c.args.trail.now.vars c.args.arena.now.clauses c.args.falsified c.get-watcher.result =
    c.requires.listed.listed c.args.falsified c.args.at c.get-watcher.result c.get-watcher.ensures in
    let back : map literal_of c.lits.result.now ≡ literals_at c.args.arena.now.clauses c.get-watcher.result.clause =
    ap (map literal_of) c.lits.ensures.literals ∙ literals_back (literals_at c.args.arena.now.clauses c.get-watcher.result.clause) in
    subst (λ n. 2 ≤ n) (ap length (sym back) ∙ length-map c.lits.result.now literal_of) w.watchable.long

pub look_at-requires-clause-range : goal.look_at-requires-clause-range
look_at-requires-clause-range c =
    let w : IsWatcher c.args.trail.now.vars c.args.arena.now.clauses c.args.falsified c.get-watcher.result =
    c.requires.listed.listed c.args.falsified c.args.at c.get-watcher.result c.get-watcher.ensures in
    let back : map literal_of c.lits.result.now ≡ literals_at c.args.arena.now.clauses c.get-watcher.result.clause =
    ap (map literal_of) c.lits.ensures.literals ∙ literals_back (literals_at c.args.arena.now.clauses c.get-watcher.result.clause) in
    subst (HasVariables c.args.trail.now.vars) (sym back) w.watchable.range

pub look_at-requires-clause-watched : goal.look_at-requires-clause-watched
look_at-requires-clause-watched c =
    let w : IsWatcher c.args.trail.now.vars c.args.arena.now.clauses c.args.falsified c.get-watcher.result =
    c.requires.listed.listed c.args.falsified c.args.at c.get-watcher.result c.get-watcher.ensures in
    let back : map literal_of c.lits.result.now ≡ literals_at c.args.arena.now.clauses c.get-watcher.result.clause =
    ap (map literal_of) c.lits.ensures.literals ∙ literals_back (literals_at c.args.arena.now.clauses c.get-watcher.result.clause) in
    subst (λ d. IsFirstTwo d c.args.falsified) (sym back) w.watched

pub push-requires : goal.push-requires
push-requires c =
    let w : IsWatcher c.args.trail.now.vars c.args.arena.now.clauses c.args.falsified c.get-watcher.result =
    c.requires.listed.listed c.args.falsified c.args.at c.get-watcher.result c.get-watcher.ensures in
    let back : map literal_of c.lits.result.now ≡ literals_at c.args.arena.now.clauses c.get-watcher.result.clause =
    ap (map literal_of) c.lits.ensures.literals ∙ literals_back (literals_at c.args.arena.now.clauses c.get-watcher.result.clause) in
    let free : IsFree (literals_of c.args.trail.now.places) (literals_at c.args.arena.now.clauses c.get-watcher.result.clause) c.args.falsified
    c.in-Free.side c.in-Free.place c.in-Free.literal =
    subst (λ d. IsFree (literals_of c.args.trail.now.places) d c.args.falsified c.in-Free.side c.in-Free.place c.in-Free.literal) back c.in-Free.ensures in
    code_within c.args.trail.now.vars (length c.args.lists.now) c.in-Free.literal
    (range_at c.args.trail.now.vars (literals_at c.args.arena.now.clauses c.get-watcher.result.clause) c.in-Free.place
    c.in-Free.literal w.watchable.range free.there).1 c.requires.listed.rows

pub returns-in_err-push-in-Free-clause-advances : goal.returns-in_err-push-in-Free-clause-advances
returns-in_err-push-in-Free-clause-advances c =
    subst (λ ls. Advances c.args.level (record { trail = c.args.trail.now; lists = c.args.lists.now; clauses = c.args.arena.now.clauses })
    (record { trail = c.args.trail.now; lists = ls; clauses = c.args.arena.now.clauses })) (sym c.in_err-push-in-Free.ensures.err)
    (advances_refl c.args.level (record { trail = c.args.trail.now; lists = c.args.lists.now; clauses = c.args.arena.now.clauses }) c.requires.listed)

pub swap-requires-clause-first : goal.swap-requires-clause-first
swap-requires-clause-first c =
    let back : map literal_of c.lits.result.now ≡ literals_at c.args.arena.now.clauses c.get-watcher.result.clause =
    ap (map literal_of) c.lits.ensures.literals ∙ literals_back (literals_at c.args.arena.now.clauses c.get-watcher.result.clause) in
    get_within (literals_at c.args.arena.now.clauses c.get-watcher.result.clause) c.in-Free.side c.args.falsified
    (ap (λ d. slice_get d c.in-Free.side) (sym back) ∙ c.in-Free.ensures.lost)

pub swap-requires-clause-second : goal.swap-requires-clause-second
swap-requires-clause-second c =
    let back : map literal_of c.lits.result.now ≡ literals_at c.args.arena.now.clauses c.get-watcher.result.clause =
    ap (map literal_of) c.lits.ensures.literals ∙ literals_back (literals_at c.args.arena.now.clauses c.get-watcher.result.clause) in
    get_within (literals_at c.args.arena.now.clauses c.get-watcher.result.clause) c.in-Free.place c.in-Free.literal
    (ap (λ d. slice_get d c.in-Free.place) (sym back) ∙ c.in-Free.ensures.there)

pub assign-requires : goal.assign-requires
assign-requires c =
    let w : IsWatcher c.args.trail.now.vars c.args.arena.now.clauses c.args.falsified c.get-watcher.result =
    c.requires.listed.listed c.args.falsified c.args.at c.get-watcher.result c.get-watcher.ensures in
    let back : map literal_of c.lits.result.now ≡ literals_at c.args.arena.now.clauses c.get-watcher.result.clause =
    ap (map literal_of) c.lits.ensures.literals ∙ literals_back (literals_at c.args.arena.now.clauses c.get-watcher.result.clause) in
    let implies : Implies (literals_of c.args.trail.now.places) (literals_at c.args.arena.now.clauses c.get-watcher.result.clause) c.in-Unit.literal =
    subst (λ d. Implies (literals_of c.args.trail.now.places) d c.in-Unit.literal) back c.in-Unit.ensures in
    record {
      in_range = in_range c.args.trail.now.vars
          (literals_at c.args.arena.now.clauses c.get-watcher.result.clause) c.in-Unit.literal w.watchable.range implies.stands;
      unassigned = implies.unassigned;
    }

pub returns-in-True-clause-advances : goal.returns-in-True-clause-advances
returns-in-True-clause-advances c =
    let back : map literal_of c.lits.result.now ≡ literals_at c.args.arena.now.clauses c.get-watcher.result.clause =
    ap (map literal_of) c.lits.ensures.literals ∙ literals_back (literals_at c.args.arena.now.clauses c.get-watcher.result.clause) in
    let f_in : code_of c.args.falsified < length c.args.lists.now =
    code_within c.args.trail.now.vars (length c.args.lists.now) c.args.falsified c.requires.range c.requires.listed.rows in
    let stands : Contains (literals_at c.args.arena.now.clauses c.get-watcher.result.clause) c.in-True.literal =
    subst (λ d. Contains d c.in-True.literal) back c.in-True.ensures.0 in
    blocked c.args.level c.args.trail.now c.args.lists.now c.set.new.self c.args.arena.now.clauses c.args.falsified c.args.at c.get-watcher.result
    (record { clause = c.get-watcher.result.clause; blocker = c.in-True.literal })
    c.requires.listed f_in c.get-watcher.ensures refl stands c.set.ensures

pub returns-in-True-clause-ok : goal.returns-in-True-clause-ok
returns-in-True-clause-ok c =
    let back : map literal_of c.lits.result.now ≡ literals_at c.args.arena.now.clauses c.get-watcher.result.clause =
    ap (map literal_of) c.lits.ensures.literals ∙ literals_back (literals_at c.args.arena.now.clauses c.get-watcher.result.clause) in
    let f_in : code_of c.args.falsified < length c.args.lists.now =
    code_within c.args.trail.now.vars (length c.args.lists.now) c.args.falsified c.requires.range c.requires.listed.rows in
    let stands : Contains (literals_at c.args.arena.now.clauses c.get-watcher.result.clause) c.in-True.literal =
    subst (λ d. Contains d c.in-True.literal) back c.in-True.ensures.0 in
    met_blocked c.args.level c.args.trail.now c.args.lists.now c.set.new.self c.args.arena.now.clauses c.args.falsified c.args.at c.get-watcher.result
    (record { clause = c.get-watcher.result.clause; blocker = c.in-True.literal })
    c.requires.listed f_in c.get-watcher.ensures refl stands c.in-True.ensures.1 c.set.ensures c.requires.met

pub returns-in_ok-push-in-Free-clause-advances : goal.returns-in_ok-push-in-Free-clause-advances
returns-in_ok-push-in-Free-clause-advances c =
    let w : IsWatcher c.args.trail.now.vars c.args.arena.now.clauses c.args.falsified c.get-watcher.result =
    c.requires.listed.listed c.args.falsified c.args.at c.get-watcher.result c.get-watcher.ensures in
    let back : map literal_of c.lits.result.now ≡ literals_at c.args.arena.now.clauses c.get-watcher.result.clause =
    ap (map literal_of) c.lits.ensures.literals ∙ literals_back (literals_at c.args.arena.now.clauses c.get-watcher.result.clause) in
    let f_in : code_of c.args.falsified < length c.args.lists.now =
    code_within c.args.trail.now.vars (length c.args.lists.now) c.args.falsified c.requires.range c.requires.listed.rows in
    let free : IsFree (literals_of c.args.trail.now.places) (literals_at c.args.arena.now.clauses c.get-watcher.result.clause) c.args.falsified
    c.in-Free.side c.in-Free.place c.in-Free.literal =
    subst (λ d. IsFree (literals_of c.args.trail.now.places) d c.args.falsified c.in-Free.side c.in-Free.place c.in-Free.literal) back c.in-Free.ensures in
    let q_in : code_of c.in-Free.literal < length c.args.lists.now =
    code_within c.args.trail.now.vars (length c.args.lists.now) c.in-Free.literal
    (range_at c.args.trail.now.vars (literals_at c.args.arena.now.clauses c.get-watcher.result.clause) c.in-Free.place
    c.in-Free.literal w.watchable.range free.there).1 c.requires.listed.rows in
    let move : Move c.args.trail.now c.args.lists.now c.remove.new.self c.args.arena.now.clauses c.swap.new.self.clauses c.args.falsified
    c.in-Free.literal c.in-Free.side c.in-Free.place c.args.at c.get-watcher.result
    (record { clause = c.get-watcher.result.clause; blocker = c.get-watcher.result.blocker }) c.remove.result =
    record {
      listed = c.requires.listed;
      f_in = f_in;
      q_in = q_in;
      there = c.get-watcher.ensures;
      free = free;
      same = refl;
      stands = w.blocker;
      swaps = record { clauses = c.swap.ensures.clauses; found = c.swap.ensures.found; others = c.swap.ensures.others };
      is =
          c.remove.ensures ∙ ap (λ ls. set ls (code_of c.args.falsified) (swap_remove (row ls c.args.falsified) c.args.at c.remove.result))
          c.in_ok-push-in-Free.ensures.ok;
    } in
    moved c.args.level c.args.trail.now c.args.lists.now c.remove.new.self c.args.arena.now.clauses c.swap.new.self.clauses c.args.falsified
    c.in-Free.literal c.in-Free.side c.in-Free.place c.args.at c.get-watcher.result
    (record { clause = c.get-watcher.result.clause; blocker = c.get-watcher.result.blocker }) c.remove.result move

pub returns-in_ok-push-in-Free-clause-ok : goal.returns-in_ok-push-in-Free-clause-ok
returns-in_ok-push-in-Free-clause-ok c =
    let w : IsWatcher c.args.trail.now.vars c.args.arena.now.clauses c.args.falsified c.get-watcher.result =
    c.requires.listed.listed c.args.falsified c.args.at c.get-watcher.result c.get-watcher.ensures in
    let back : map literal_of c.lits.result.now ≡ literals_at c.args.arena.now.clauses c.get-watcher.result.clause =
    ap (map literal_of) c.lits.ensures.literals ∙ literals_back (literals_at c.args.arena.now.clauses c.get-watcher.result.clause) in
    let f_in : code_of c.args.falsified < length c.args.lists.now =
    code_within c.args.trail.now.vars (length c.args.lists.now) c.args.falsified c.requires.range c.requires.listed.rows in
    let free : IsFree (literals_of c.args.trail.now.places) (literals_at c.args.arena.now.clauses c.get-watcher.result.clause) c.args.falsified
    c.in-Free.side c.in-Free.place c.in-Free.literal =
    subst (λ d. IsFree (literals_of c.args.trail.now.places) d c.args.falsified c.in-Free.side c.in-Free.place c.in-Free.literal) back c.in-Free.ensures in
    let q_in : code_of c.in-Free.literal < length c.args.lists.now =
    code_within c.args.trail.now.vars (length c.args.lists.now) c.in-Free.literal
    (range_at c.args.trail.now.vars (literals_at c.args.arena.now.clauses c.get-watcher.result.clause) c.in-Free.place
    c.in-Free.literal w.watchable.range free.there).1 c.requires.listed.rows in
    let move : Move c.args.trail.now c.args.lists.now c.remove.new.self c.args.arena.now.clauses c.swap.new.self.clauses c.args.falsified
    c.in-Free.literal c.in-Free.side c.in-Free.place c.args.at c.get-watcher.result
    (record { clause = c.get-watcher.result.clause; blocker = c.get-watcher.result.blocker }) c.remove.result =
    record {
      listed = c.requires.listed;
      f_in = f_in;
      q_in = q_in;
      there = c.get-watcher.ensures;
      free = free;
      same = refl;
      stands = w.blocker;
      swaps = record { clauses = c.swap.ensures.clauses; found = c.swap.ensures.found; others = c.swap.ensures.others };
      is =
          c.remove.ensures ∙ ap (λ ls. set ls (code_of c.args.falsified) (swap_remove (row ls c.args.falsified) c.args.at c.remove.result))
          c.in_ok-push-in-Free.ensures.ok;
    } in (
      met_still c.args.level (record { trail = c.args.trail.now; lists = c.args.lists.now; clauses = c.args.arena.now.clauses })
          (record { trail = c.args.trail.now; lists = c.remove.new.self; clauses = c.swap.new.self.clauses }) c.args.falsified c.args.at
          (moved c.args.level c.args.trail.now c.args.lists.now c.remove.new.self c.args.arena.now.clauses c.swap.new.self.clauses c.args.falsified
          c.in-Free.literal c.in-Free.side c.in-Free.place c.args.at c.get-watcher.result
          (record { clause = c.get-watcher.result.clause; blocker = c.get-watcher.result.blocker }) c.remove.result move)
          (moved_front c.args.trail.now c.args.lists.now c.remove.new.self c.args.arena.now.clauses c.swap.new.self.clauses c.args.falsified
          c.in-Free.literal c.in-Free.side c.in-Free.place c.args.at c.get-watcher.result
          (record { clause = c.get-watcher.result.clause; blocker = c.get-watcher.result.blocker }) c.remove.result move) c.requires.met,
      moved_length c.args.trail.now c.args.lists.now c.remove.new.self c.args.arena.now.clauses c.swap.new.self.clauses c.args.falsified
          c.in-Free.literal c.in-Free.side c.in-Free.place c.args.at c.get-watcher.result
          (record { clause = c.get-watcher.result.clause; blocker = c.get-watcher.result.blocker }) c.remove.result move,
    )

pub returns-in-Unit-clause-advances : goal.returns-in-Unit-clause-advances
returns-in-Unit-clause-advances c =
    let w : IsWatcher c.args.trail.now.vars c.args.arena.now.clauses c.args.falsified c.get-watcher.result =
    c.requires.listed.listed c.args.falsified c.args.at c.get-watcher.result c.get-watcher.ensures in
    let back : map literal_of c.lits.result.now ≡ literals_at c.args.arena.now.clauses c.get-watcher.result.clause =
    ap (map literal_of) c.lits.ensures.literals ∙ literals_back (literals_at c.args.arena.now.clauses c.get-watcher.result.clause) in
    let implies : Implies (literals_of c.args.trail.now.places) (literals_at c.args.arena.now.clauses c.get-watcher.result.clause) c.in-Unit.literal =
    subst (λ d. Implies (literals_of c.args.trail.now.places) d c.in-Unit.literal) back c.in-Unit.ensures in
    subst (λ t. Advances c.args.level (record { trail = c.args.trail.now; lists = c.args.lists.now; clauses = c.args.arena.now.clauses })
    (record { trail = t; lists = c.args.lists.now; clauses = c.args.arena.now.clauses })) (sym c.assign.ensures)
    (implied_one c.args.level c.args.trail.now c.args.lists.now c.args.arena.now.clauses c.get-watcher.result.clause
    (record { literal = c.in-Unit.literal; reason = Some c.get-watcher.result.clause; level = c.args.level }) c.requires.listed refl refl w.live implies)

pub returns-in-Unit-clause-ok : goal.returns-in-Unit-clause-ok
returns-in-Unit-clause-ok c =
    let w : IsWatcher c.args.trail.now.vars c.args.arena.now.clauses c.args.falsified c.get-watcher.result =
    c.requires.listed.listed c.args.falsified c.args.at c.get-watcher.result c.get-watcher.ensures in
    let back : map literal_of c.lits.result.now ≡ literals_at c.args.arena.now.clauses c.get-watcher.result.clause =
    ap (map literal_of) c.lits.ensures.literals ∙ literals_back (literals_at c.args.arena.now.clauses c.get-watcher.result.clause) in
    let implies : Implies (literals_of c.args.trail.now.places) (literals_at c.args.arena.now.clauses c.get-watcher.result.clause) c.in-Unit.literal =
    subst (λ d. Implies (literals_of c.args.trail.now.places) d c.in-Unit.literal) back c.in-Unit.ensures in (
      subst (λ t. AreMet (record { trail = t; lists = c.args.lists.now; clauses = c.args.arena.now.clauses }) c.args.falsified (c.args.at + 1))
          (sym c.assign.ensures)
          (met_implied c.args.level c.args.trail.now c.args.lists.now c.args.arena.now.clauses c.args.falsified c.args.at c.get-watcher.result
          (record { literal = c.in-Unit.literal; reason = Some c.get-watcher.result.clause; level = c.args.level })
          c.requires.listed refl refl w.live implies c.get-watcher.ensures c.requires.met),
      refl,
    )

pub returns-in-False-clause-advances : goal.returns-in-False-clause-advances
returns-in-False-clause-advances c =
    advances_refl c.args.level (record { trail = c.args.trail.now; lists = c.args.lists.now; clauses = c.args.arena.now.clauses }) c.requires.listed

pub returns-in-False-clause-ok : goal.returns-in-False-clause-ok
returns-in-False-clause-ok c =
    let back : map literal_of c.lits.result.now ≡ literals_at c.args.arena.now.clauses c.get-watcher.result.clause =
    ap (map literal_of) c.lits.ensures.literals ∙ literals_back (literals_at c.args.arena.now.clauses c.get-watcher.result.clause) in
    conflict_of (record { trail = c.args.trail.now; lists = c.args.lists.now; clauses = c.args.arena.now.clauses }) c.args.falsified c.args.at
    c.get-watcher.result c.requires.listed c.get-watcher.ensures (subst (IsConflict (literals_of c.args.trail.now.places)) back c.in-False.ensures)
