-- Jobs of the code as the definitions see them.
use Rattle.bs_top_words.specs.declared.job.RunJob.{RunJob as CodeRunJob}
use Rattle.bs_top_words.specs.declared.job.AuditJob.{AuditJob as CodeAuditJob}
use Rattle.bs_top_words.specs.declared.job.DumpJob.{DumpJob as CodeDumpJob}
use Rattle.bs_top_words.specs.declared.job.ReachJob.{ReachJob as CodeReachJob}
use Rattle.bs_top_words.specs.Job.{RunJob, AuditJob, DumpJob, ReachJob}

abbrev pub run_job : CodeRunJob → RunJob
run_job r = record {
  netlist = r.netlist.now;
  signature = r.signature.now;
  stimulus = r.stimulus.now;
  dump = r.dump.now;
  steps = r.steps;
  candidates =
      r.candidates;
  conflicts = r.conflicts;
}

abbrev pub audit_job : CodeAuditJob → AuditJob
audit_job a = record { netlist = a.netlist.now; signature = a.signature.now; stimulus = a.stimulus.now; dump = a.dump.now; report = a.report.now }

abbrev pub dump_job : CodeDumpJob → DumpJob
dump_job d = record { netlist = d.netlist.now; signature = d.signature.now; stimulus = d.stimulus.now; run = d.run; cycle = d.cycle }

abbrev pub reach_job : CodeReachJob → ReachJob
reach_job r = record { netlist = r.netlist.now; state = r.state.now; cycles = r.cycles; conflicts = r.conflicts }
