-- How many lemmas the solves of a log have.
use Rattle.std.specs.Prelude.{ℕ, ◌+◌, ◌<◌, ◌≤◌, [], ◌∷◌}
use Rattle.bs_log.specs.declared.line.Line.TheVariants.{Lemma, Block}
use Rattle.bs_log.specs.History.{History}

-- how many lemmas the last lines of a history are
abbrev pub last_lemmas : History → ℕ
last_lemmas [] = 0
last_lemmas (Lemma id lits hints ∷ earlier) = last_lemmas earlier + 1
last_lemmas (line ∷ earlier) = 0

-- Each solve has at most so many lemmas, and fewer than so many where a block follows.
abbrev pub HasFewLemmas : ℕ → History → Type 0
HasFewLemmas limit [] = Unit {0}
HasFewLemmas limit (Lemma id lits hints ∷ earlier) = (last_lemmas earlier < limit) × HasFewLemmas limit earlier
HasFewLemmas limit (Block id lits ∷ earlier) = (last_lemmas earlier < limit) × HasFewLemmas limit earlier
HasFewLemmas limit (line ∷ earlier) = HasFewLemmas limit earlier
