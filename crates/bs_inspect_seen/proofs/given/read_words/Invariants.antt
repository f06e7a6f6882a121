use Rattle.std.proofs.Common.{◌≡◌, [], map, drop}
use Rattle.bs_net_names.specs.Keys.{parts_in}
use Rattle.bs_inspect_seen.specs.Given.{given_in, givens_from}
use Rattle.bs_inspect_seen.proofs.given.read_words.Given as goal

abbrev pub invariant-words : goal.invariant-words
invariant-words l =
    givens_from (map parts_in l.nets) (map parts_in l.flops) [] (map (λ s. s.now) l.words)
    ≡ givens_from (map parts_in l.nets) (map parts_in l.flops) (map given_in l.givens.items) (map (λ s. s.now) (drop l.word-index l.words))
