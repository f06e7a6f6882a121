use Rattle.std.proofs.Common.{◌≡◌, ◌≤◌, ◌-◌, map, get_or, Some, sym, subst, arith}
use Rattle.std.specs.Prelude.{slice_get}
use Rattle.std.proofs.lemmas.Bool.{both_ways}
use Rattle.bs_clause.specs.Literal.{Literal}
use Rattle.bs_arena.specs.Arena.{literal_of}
use Rattle.bs_watch.specs.Trail.{IsFalseOn, IsTrueOn}
use Rattle.bs_watch.specs.Places.{literals_of}
use Rattle.bs_watch.proofs.Codes.{read_code, range_at, literal_from_code}
use Rattle.bs_watch.proofs.Gets.{Contains_from_get}
use Rattle.bs_watch.proofs.Looks.{all_false, implies_other}
use Rattle.bs_watch.proofs.clause_look.look_at.Goals as goal

pub is_true-requires : goal.is_true-requires
is_true-requires c =
    let there : slice_get (map literal_of c.args.codes.now) (1 - c.side_of-side.result) ≡ Some c.from_code-other.result =
    read_code c.args.codes.now (1 - c.side_of-side.result) c.from_code-other.result (omega arith) c.from_code-other.ensures in
    (range_at c.args.trail.now.vars (map literal_of c.args.codes.now) (1 - c.side_of-side.result) c.from_code-other.result c.requires.range there).1

pub returns-then-is_true : goal.returns-then-is_true
returns-then-is_true c =
    let there : slice_get (map literal_of c.args.codes.now) (1 - c.side_of-side.result) ≡ Some c.from_code-other.result =
    read_code c.args.codes.now (1 - c.side_of-side.result) c.from_code-other.result (omega arith) c.from_code-other.ensures in
    (Contains_from_get (map literal_of c.args.codes.now) (1 - c.side_of-side.result) c.from_code-other.result there, c.is_true.ensures.0 c.if-is_true.true)

pub is_true-requires-in-None : goal.is_true-requires-in-None
is_true-requires-in-None c =
    let there : slice_get (map literal_of c.args.codes.now) (1 - c.side_of-side.result) ≡ Some c.from_code-other.result =
    read_code c.args.codes.now (1 - c.side_of-side.result) c.from_code-other.result (omega arith) c.from_code-other.ensures in
    subst (λ (l : Literal). l.variable ≤ c.args.trail.now.vars) (sym c.negate.ensures)
    (range_at c.args.trail.now.vars (map literal_of c.args.codes.now) (1 - c.side_of-side.result) c.from_code-other.result c.requires.range there).1

pub returns-in-Some : goal.returns-in-Some
returns-in-Some c =
    let there : slice_get (map literal_of c.args.codes.now) c.in-Some.place ≡ Some c.from_code.result =
    read_code c.args.codes.now c.in-Some.place c.from_code.result c.in-Some.ensures.found.1 c.from_code.ensures in
    record {
      low = c.side_of-side.ensures.low;
      lost = c.side_of-side.ensures.there;
      far = c.in-Some.ensures.found.0;
      there = there;
      free =
          subst (λ (l : Literal). ¬ IsFalseOn (literals_of c.args.trail.now.places) l)
          (literal_from_code c.from_code.result (get_or c.args.codes.now c.in-Some.place 0) c.from_code.ensures) c.in-Some.ensures.free;
    }

pub returns-then-is_true-2 : goal.returns-then-is_true-2
returns-then-is_true-2 c =
    let there : slice_get (map literal_of c.args.codes.now) (1 - c.side_of-side.result) ≡ Some c.from_code-other.result =
    read_code c.args.codes.now (1 - c.side_of-side.result) c.from_code-other.result (omega arith) c.from_code-other.ensures in
    all_false (literals_of c.args.trail.now.places) (map literal_of c.args.codes.now) c.side_of-side.result c.args.falsified c.from_code-other.result
    c.side_of-side.ensures.low c.side_of-side.ensures.there there
    c.requires.lost (subst (IsTrueOn (literals_of c.args.trail.now.places)) c.negate.ensures (c.is_true-in-None.ensures.0 c.if-is_true-2.true))
    c.in-None.ensures.none

pub returns-else-is_true-2 : goal.returns-else-is_true-2
returns-else-is_true-2 c =
    let there : slice_get (map literal_of c.args.codes.now) (1 - c.side_of-side.result) ≡ Some c.from_code-other.result =
    read_code c.args.codes.now (1 - c.side_of-side.result) c.from_code-other.result (omega arith) c.from_code-other.ensures in
    implies_other (literals_of c.args.trail.now.places) (map literal_of c.args.codes.now) c.side_of-side.result c.args.falsified
    c.from_code-other.result c.side_of-side.ensures.low c.side_of-side.ensures.there there
    c.requires.lost (λ t. both_ways c.is_true.result c.if-is_true.false (c.is_true.ensures.1 t))
    (λ f. both_ways c.is_true-in-None.result c.if-is_true-2.false
    (c.is_true-in-None.ensures.1 (subst (IsTrueOn (literals_of c.args.trail.now.places)) (sym c.negate.ensures) f)))
    c.in-None.ensures.none
