use Rattle.std.proofs.Common.{refl}
use Rattle.bs_evidence.proofs.LogLemmas.{place_within, is_provable}
use Rattle.bs_evidence.specs.Logged.{problem_of}
use Rattle.bs_evidence.proofs.logged.asked.Goals as goal

pub front-requires : goal.front-requires
front-requires c = rw c.slice.ensures (place_within c.args.logged.now.log.now c.args.step c.args.place c.args.id c.requires.finish)

pub returns-clause-provable : goal.returns-clause-provable
returns-clause-provable c =
    is_provable
    (record {
      vars = c.args.logged.now.vars;
      clauses = c.args.logged.now.clauses;
      steps = c.args.logged.now.steps;
      lines = c.front.result;
      step = c.args.step;
      id = c.args.id;
    })
    (problem_of c.args.logged.now) c.args.logged.now.log.now c.args.step c.args.place c.args.id refl (rw c.slice.ensures at c.front.ensures) refl refl
    c.requires.step c.requires.room c.requires.accepted c.requires.short c.requires.finish
