use Rattle.std.proofs.Common.{◌≡◌, map, length, subst, arith}
use Rattle.std.proofs.lemmas.List.{length-map}
use Rattle.bs_arena.specs.Arena.{literal_of}
use Rattle.bs_watch.specs.Choice.{IsHighestOf}
use Rattle.bs_watch.proofs.Choices.{highest_one, higher_more}
use Rattle.bs_watch.proofs.choice.highest.Goals as goal

pub literals-init : goal.literals-init
literals-init c = record {
  past = omega arith;
  inside = omega (arith, c.requires.some);
  best = highest_one c.args.trail.now.places (map literal_of c.args.codes.now) c.args.start c.requires.apart;
}

pub literals-preserved : goal.literals-preserved
literals-preserved c = record {
  past = omega (arith, c.literals.invariant.past);
  inside = omega (arith, c.literals-test.true);
  best =
      higher_more c.args.trail.now.places (map literal_of c.args.codes.now) c.args.start c.literals.at c.literals.best c.higher-best.result
      c.requires.apart c.literals.invariant.past
      (omega (arith, c.literals.invariant.inside, length-map c.args.codes.now literal_of)) c.literals.invariant.best c.higher-best.ensures;
}

pub returns : goal.returns
returns c =
    let all : c.literals.at ≡ length c.args.codes.now = omega (arith, c.literals.invariant.inside, c.literals-test.false) in
    subst (λ n. IsHighestOf c.args.trail.now.places (map literal_of c.args.codes.now) c.args.start n c.literals.best) all c.literals.invariant.best
