-- The words for files are short.
use Rattle.std.proofs.Common.{◌≡◌, ◌≤◌, ℕ, List, length, subst, sym, ap, arith}
use Rattle.bs_outside.specs.declared.file.File.{File}
use Rattle.bs_outside.specs.declared.file.File.TheVariants as files
use Rattle.bs_outside.specs.PlanFiles.{file_word}

short : (file : File) → length (file_word file) ≤ 16
short files.Netlist = omega arith
short files.Signature = omega arith
short files.Stimulus = omega arith
short files.Dump = omega arith
short files.Report = omega arith
short files.State = omega arith
short files.Vcd = omega arith
short files.Map = omega arith
short files.Name = omega arith

-- a text that is the word for a file
pub file_words_are_short : (file : File) (word : List ℕ) → word ≡ file_word file → length word ≤ 16
file_words_are_short file word is = subst (λ (w : List ℕ). length w ≤ 16) (sym is) (short file)
