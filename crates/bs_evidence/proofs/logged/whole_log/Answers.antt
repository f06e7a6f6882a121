use Rattle.std.proofs.Common.{refl}
use Rattle.bs_evidence.proofs.LogLemmas.{is_writable}
use Rattle.bs_evidence.specs.Logged.{problem_of}
use Rattle.bs_evidence.proofs.logged.whole_log.Goals as goal

pub returns-clause-writable : goal.returns-clause-writable
returns-clause-writable c =
    is_writable
    (record {
      vars = c.args.logged.now.vars;
      clauses = c.args.logged.now.clauses;
      steps = c.args.logged.now.steps;
      lines = c.slice.result;
    })
    (problem_of c.args.logged.now) c.args.logged.now.log.now refl c.slice.ensures c.requires.room c.requires.accepted c.requires.short
