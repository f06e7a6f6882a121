use Rattle.std.proofs.Common.{◌≡◌, drop, map, string_bytes}
use Rattle.bs_top_words.specs.Asked.{progress_in}
use Rattle.bs_top_words.specs.Given.{read_all, start}
use Rattle.bs_top_words.proofs.given.read_given.Given as goal

abbrev pub invariant-loop-word : goal.invariant-loop-word
invariant-loop-word l =
    read_all l.flags (map string_bytes (drop l.word-index l.words)) (progress_in l.progress) ≡ read_all l.flags (map string_bytes l.words) start
