-- The generated job: three texts in place of files, walked as the files of a job are.
use Rattle.std.specs.Prelude.{ℕ, List, Some, None, codes, if◌then◌else◌}
use Rattle.std.specs.Str.{bytes_eq}
use Rattle.bs_gen.specs.Job.{netlist_for, signature_text, stimulus_for}
use Rattle.bs_outside.specs.Plan.{Tells, Plan, with_texts}
use Rattle.bs_top.specs.declared.budgets.TheConstants.{DEMO_RUN, DEMO_CYCLE}
use Rattle.bs_top_files.specs.Entry.{FileNames, MomentFiles, moment_files_of}
use Rattle.bs_top_files.specs.Causes.{Case}

abbrev pub demo_names : FileNames
demo_names = record { netlist = codes "netlist"; signature = codes "signature"; stimulus = codes "stimulus" }

-- three texts under these names
abbrev pub told_of : (netlist signature stimulus : List ℕ) → Tells
told_of netlist signature stimulus name =
    if bytes_eq (codes "netlist") name then Some netlist
    else (if bytes_eq (codes "signature") name then Some signature
    else (if bytes_eq (codes "stimulus") name then Some stimulus else None))

-- the texts of the job with a number
abbrev pub demo_told : ℕ → Tells
demo_told number = told_of (netlist_for number) signature_text (stimulus_for number)

-- they make a setup ready, and the moment of DEMO_RUN at DEMO_CYCLE
abbrev pub demo_of : ℕ → Plan Case MomentFiles
demo_of number = with_texts (demo_told number) (moment_files_of demo_names DEMO_RUN DEMO_CYCLE)
