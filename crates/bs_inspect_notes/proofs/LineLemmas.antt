-- The lines of a text by their numbers, and the first word of a line.
use Rattle.std.proofs.Common.{◌≡◌, ◌==◌, ℕ, zero, suc, ◌-◌, arith, true, false, List, [], ◌∷◌, ap, sym, ◌∙◌}
use Rattle.std.proofs.lemmas.Bool.{eqb-true}
use Rattle.std.specs.Prelude.{slice_index_or}
use Rattle.bs_bits.specs.Lines.{lines_of, words_of}
use Rattle.bs_inspect_notes.specs.Names.{first_word, numbered}

abbrev line_at : List (List ℕ) → ℕ → List ℕ
line_at lines k = slice_index_or lines k []

-- it is the first of those that are left
pub line_here : (text : List ℕ) (number left : ℕ) (rest line behind : List ℕ) → numbered text number ≡ slice_index_or (lines_of rest) left [] →
    lines_of rest ≡ line ∷ lines_of behind → (left == 0) ≡ true → line ≡ numbered text number
line_here text number left rest line behind e is none = sym (e ∙ (λ i. line_at (is i) (eqb-true left 0 none i)))

behind_one : (lines : List (List ℕ)) (line : List ℕ) (left : ℕ) → (left == 0) ≡ false → line_at (line ∷ lines) left ≡ line_at lines (left - 1)
behind_one lines line zero some = absurd cc
behind_one lines line (suc n) some = let same : n ≡ suc n - 1 = omega arith in ap (line_at lines) same

-- it is one behind that
pub line_later : (text : List ℕ) (number left : ℕ) (rest line behind : List ℕ) → numbered text number ≡ slice_index_or (lines_of rest) left [] →
    lines_of rest ≡ line ∷ lines_of behind → (left == 0) ≡ false → numbered text number ≡ slice_index_or (lines_of behind) (left - 1) []
line_later text number left rest line behind e is some =
    e ∙ (ap (λ (ls : List (List ℕ)). line_at ls left) is ∙ behind_one (lines_of behind) line left some)

-- there is none left
pub line_none : (text : List ℕ) (number left : ℕ) (rest : List ℕ) → numbered text number ≡ slice_index_or (lines_of rest) left [] →
    lines_of rest ≡ [] → [] ≡ numbered text number
line_none text number left rest e is = sym (e ∙ ap (λ (ls : List (List ℕ)). line_at ls left) is)

-- ---- words

pub word_alone : (line word : List ℕ) → words_of line ≡ word ∷ [] → word ≡ first_word line
word_alone line word e = sym (ap (λ (ws : List (List ℕ)). line_at ws 0) e)

pub word_before : (line word rest : List ℕ) → words_of line ≡ word ∷ words_of rest → word ≡ first_word line
word_before line word rest e = sym (ap (λ (ws : List (List ℕ)). line_at ws 0) e)
