-- Lines and jobs of the code as the definitions see them.
use Rattle.std.specs.Prelude.{◌≡◌, Bool, true, false, map, Option, Some, None}
use Rattle.bs_top_words.specs.declared.line.CommandLine.{CommandLine as CodeCommandLine}
use Rattle.bs_top_words.specs.declared.job.Job.{Job as CodeJob}
use Rattle.bs_top_words.specs.declared.job.Job.TheVariants as J
use Rattle.bs_top_words.specs.CommandLine.{CommandLine}
use Rattle.bs_top_words.specs.Job.{Job, Run, Audit, Dump, Demo, Wave, Reach}

abbrev pub line_in : CodeCommandLine → CommandLine
line_in l = record { positions = map (λ s. s.now) l.positions.items; steps = l.steps; candidates = l.candidates; conflicts = l.conflicts }

abbrev pub shown : Option CodeCommandLine → Option CommandLine
shown None = None
shown (Some l) = Some (line_in l)

abbrev pub job_in : CodeJob → Job
job_in (J.Run r) =
    Run record {
      netlist = r.netlist.now;
      signature = r.signature.now;
      stimulus = r.stimulus.now;
      dump = r.dump.now;
      steps = r.steps;
      candidates =
          r.candidates;
      conflicts = r.conflicts;
    }
job_in (J.Audit a) = Audit record { netlist = a.netlist.now; signature = a.signature.now; stimulus = a.stimulus.now; dump = a.dump.now; report = a.report.now }
job_in (J.Dump d) = Dump record { netlist = d.netlist.now; signature = d.signature.now; stimulus = d.stimulus.now; run = d.run; cycle = d.cycle }
job_in (J.Demo number) = Demo number
job_in (J.Wave a) = Wave record { netlist = a.netlist.now; signature = a.signature.now; stimulus = a.stimulus.now; dump = a.dump.now; report = a.report.now }
job_in (J.Reach r) = Reach record { netlist = r.netlist.now; state = r.state.now; cycles = r.cycles; conflicts = r.conflicts }

abbrev pub shown_job : Option CodeJob → Option Job
shown_job None = None
shown_job (Some job) = Some (job_in job)

-- the word was taken exactly where it may stand there
abbrev pub Takes : {S : Type 0} → Bool → S → Option S → Type 0
Takes true new wanted = wanted ≡ Some new
Takes false new wanted = wanted ≡ None
