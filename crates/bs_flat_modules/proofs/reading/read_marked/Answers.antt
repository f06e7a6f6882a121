use Rattle.bs_verilog_scope.specs.Checking.{marked}
use Rattle.bs_flat_modules.proofs.ReadLemmas.{read_found, read_fault}
use Rattle.bs_flat_modules.proofs.CountLemmas.{apart_all}
use Rattle.bs_flat_modules.proofs.reading.read_marked.Goals as goal

pub returns-in-Ok-clause-read : goal.returns-in-Ok-clause-read
returns-in-Ok-clause-read c =
    read_found c.args.table.now c.args.ts.now c.args.dealt.now (marked c.args.marks.now) c.in-Ok.read _ c.requires.dealt c.requires.marks c.requires.apart
    c.in-Ok.ensures c.with_names_apart.ensures

pub returns-in-Ok-clause-all : goal.returns-in-Ok-clause-all
returns-in-Ok-clause-all c =
    apart_all c.args.table.now c.args.ts.now c.args.dealt.now (marked c.args.marks.now) c.in-Ok.read _ c.requires.dealt c.in-Ok.ensures
    c.with_names_apart.ensures

pub returns-in-Err-clause-read : goal.returns-in-Err-clause-read
returns-in-Err-clause-read c =
    read_fault c.args.table.now c.args.ts.now c.args.dealt.now (marked c.args.marks.now) c.in-Err.fault c.requires.dealt c.requires.marks
    c.requires.apart c.in-Err.ensures
