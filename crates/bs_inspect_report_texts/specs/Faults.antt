-- Why there is no test bench, as a line (docs/FORMATS.md, "Texts of `backspace_inspect`").
use Rattle.std.specs.Prelude.{ℕ, List, ◌++◌, codes, decimal}
use Rattle.bs_bits.specs.Lines.{line}
use Rattle.bs_inspect_report_texts.specs.declared.fault.BenchFault.{BenchFault}
use Rattle.bs_inspect_report_texts.specs.declared.fault.BenchFault.TheVariants.{Moment, State}

abbrev pub bench_fault_words : BenchFault → List ℕ
bench_fault_words Moment = codes "moment"
bench_fault_words (State i) = codes "state " ++ decimal i

abbrev pub bench_fault_text : BenchFault → List ℕ
bench_fault_text fault = line (codes "rejected " ++ bench_fault_words fault)
