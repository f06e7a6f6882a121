use Rattle.std.proofs.Common.{◌≡◌, ◌≤◌, ◌++◌, ◌∷◌, [], length, take, sym, subst}
use Rattle.std.specs.List.{filter}
use Rattle.bs_solve_lemmas.specs.Keeping.{Ascends, AreKnown, goes}
use Rattle.bs_solve_lemmas.specs.Notes.{IsNoted}
use Rattle.bs_solve.specs.Database.{entries, HoldsEntries}
use Rattle.bs_solve.specs.Ending.{unit_of}
use Rattle.bs_watch.specs.Places.{IsUnassigned}
use Rattle.bs_solve.proofs.Grounds.{ground_low}
use Rattle.bs_solve.proofs.Endings.{unit_held, unit_stands, prepared_ascends, prepared_known, prepared}
use Rattle.bs_solve.proofs.ending.prepare.Goals as goal

pub find_leaving-requires-clause-ascends : goal.find_leaving-requires-clause-ascends
find_leaving-requires-clause-ascends c =
    let s : HoldsEntries c.retire.new.watch.lists c.retire.new.arena.clauses c.retire.new.database
    (entries c.args.proof.now ++ unit_of c.args.proof.now c.args.activation ∷ []) =
    unit_held c.args.proof.now c.args.watch.now c.retire.new.watch c.args.arena.now.clauses c.retire.new.arena.clauses c.args.database.now
    c.retire.new.database c.in_ok-next.next c.args.activation c.negate.result c.requires.rest c.in_ok-retire.ensures.retired c.in_ok-next.ensures.id
    c.in_ok-next.ensures.fresh c.negate.ensures in
    subst Ascends (sym c.as_slice.ensures.value)
    (prepared_ascends c.args.proof.now c.retire.new.watch c.retire.new.arena.clauses c.retire.new.database c.args.activation s c.holds_ids.ensures)

pub find_leaving-requires-clause-known : goal.find_leaving-requires-clause-known
find_leaving-requires-clause-known c =
    let s : HoldsEntries c.retire.new.watch.lists c.retire.new.arena.clauses c.retire.new.database
    (entries c.args.proof.now ++ unit_of c.args.proof.now c.args.activation ∷ []) =
    unit_held c.args.proof.now c.args.watch.now c.retire.new.watch c.args.arena.now.clauses c.retire.new.arena.clauses c.args.database.now
    c.retire.new.database c.in_ok-next.next c.args.activation c.negate.result c.requires.rest c.in_ok-retire.ensures.retired c.in_ok-next.ensures.id
    c.in_ok-next.ensures.fresh c.negate.ensures in
    subst (λ rows. AreKnown c.args.activations.own c.args.activations.steps c.retire.new.arena.clauses rows c.args.known.rows c.args.known.long)
    (sym c.as_slice.ensures.value)
    (prepared_known c.args.proof.now c.retire.new.watch c.retire.new.arena.clauses c.retire.new.database c.args.activation c.args.activations.own
    c.args.activations.steps c.args.known.rows c.args.known.long s c.requires.known)

pub returns : goal.returns
returns c =
    let s : HoldsEntries c.retire.new.watch.lists c.retire.new.arena.clauses c.retire.new.database
    (entries c.args.proof.now ++ unit_of c.args.proof.now c.args.activation ∷ []) =
    unit_held c.args.proof.now c.args.watch.now c.retire.new.watch c.args.arena.now.clauses c.retire.new.arena.clauses c.args.database.now
    c.retire.new.database c.in_ok-next.next c.args.activation c.negate.result c.requires.rest c.in_ok-retire.ensures.retired c.in_ok-next.ensures.id
    c.in_ok-next.ensures.fresh c.negate.ensures in
    let own = c.args.activations.own in
    let steps = c.args.activations.steps in
    let clauses = c.retire.new.arena.clauses in
    let value = c.as_slice.ensures.value in
    prepared c.args.proof.now own steps c.reserve.new.self.spare c.args.watch.now c.retire.new.watch clauses c.retire.new.database c.args.activation
    c.in_ok-leaving.leaving c.requires.own s c.in_ok-retire.ensures.retired.serves c.in_ok-retire.ensures.retired.vars
    (unit_stands c.args.proof.now c.args.watch.now c.retire.new.watch c.args.arena.now.clauses c.retire.new.arena.clauses c.args.database.now
    c.retire.new.database c.in_ok-next.next c.args.activation c.negate.result c.requires.rest c.in_ok-retire.ensures.retired c.in_ok-next.ensures.id
    c.in_ok-next.ensures.fresh c.negate.ensures) c.in_ok-retire.ensures.retired.levels
    c.holds_ids.ensures
    (subst (λ rows. IsNoted clauses (filter (goes own steps clauses rows) rows) c.in_ok-leaving.leaving.ids c.in_ok-leaving.leaving.clauses.items
    c.in_ok-leaving.leaving.watched.items) value c.in_ok-leaving.ensures.noted)
    (subst (λ rows. c.in_ok-leaving.leaving.start ≤ length rows) value c.in_ok-leaving.ensures.low)
    (subst (λ rows. filter (goes own steps clauses rows) (take c.in_ok-leaving.leaving.start rows) ≡ []) value c.in_ok-leaving.ensures.none)
    (subst (λ n. n ≤ c.reserve.new.self.spare) c.count.ensures c.in_ok-reserve.ensures.room)

pub retire-requires-clause-serves : goal.retire-requires-clause-serves
retire-requires-clause-serves c = c.requires.rest.serves

pub retire-requires-clause-low : goal.retire-requires-clause-low
retire-requires-clause-low c =
    ground_low (entries c.args.proof.now) c.args.database.now.shorts.items c.args.arena.now.clauses c.args.watch.now.trail.places c.requires.rest.ground

pub retire-requires-clause-free : goal.retire-requires-clause-free
retire-requires-clause-free c = subst (IsUnassigned c.args.watch.now.trail) (sym c.negate.ensures) c.requires.free
