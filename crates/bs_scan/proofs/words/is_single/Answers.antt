use Rattle.std.proofs.Common.{ℕ, List, ap, Bor}
use Rattle.std.specs.Prelude.{option_map}
use Rattle.bs_bits.specs.Lines.{words_of}
use Rattle.bs_scan.proofs.WordLemmas.{several}
use Rattle.bs_scan.proofs.words.is_single.Goals as goal

pub returns-in-Some : goal.returns-in-Some
returns-in-Some c =
    several (words_of c.args.line.now) c.split_word.result.0.now (option_map (λ (rest : Bor (List ℕ)). rest.now) c.split_word.result.1) c.in-Some.field-0.now
    c.split_word.ensures (ap (option_map (λ (rest : Bor (List ℕ)). rest.now)) c.in-Some.is)
