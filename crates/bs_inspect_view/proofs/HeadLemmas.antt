-- The lines before the first moment, one after another.
use Rattle.std.proofs.Common.{◌≡◌, ℕ, List, ◌++◌, ap, ◌∙◌, append_assoc}
use Rattle.std.specs.Prelude.{codes}
use Rattle.bs_bits.specs.Lines.{line}
use Rattle.bs_inspect_view.specs.Signals.{Signal}
use Rattle.bs_inspect_view.specs.Recorded.{opening_lines}
use Rattle.bs_inspect_view.specs.View.{declarations, variables}

-- six pieces behind one another
pub six : (old a b c d e f one two three four five last : List ℕ) → a ≡ old ++ one → b ≡ a ++ two → c ≡ b ++ three → d ≡ c ++ four → e ≡ d ++ five →
    f ≡ e ++ last → f ≡ old ++ (one ++ (two ++ (three ++ (four ++ (five ++ last)))))
six old a b c d e f one two three four five last g h i j k l =
    l ∙ (ap (λ (t : List ℕ). t ++ last) k
    ∙ (append_assoc d five last
    ∙ (ap (λ (t : List ℕ). t ++ (five ++ last)) j
    ∙ (append_assoc c four (five ++ last)
    ∙ (ap (λ (t : List ℕ). t ++ (four ++ (five ++ last))) i
    ∙ (append_assoc b three (four ++ (five ++ last))
    ∙ (ap (λ (t : List ℕ). t ++ (three ++ (four ++ (five ++ last)))) h
    ∙ (append_assoc a two (three ++ (four ++ (five ++ last)))
    ∙ (ap (λ (t : List ℕ). t ++ (two ++ (three ++ (four ++ (five ++ last))))) g
    ∙ append_assoc old one (two ++ (three ++ (four ++ (five ++ last)))))))))))))

pub head_whole : (remarks : List ℕ) (signals : List Signal) (old a b c d e f : List ℕ) → a ≡ old ++ line (codes "$timescale 1ns $end") →
    b ≡ a ++ remarks → c ≡ b ++ opening_lines → d ≡ c ++ variables signals → e ≡ d ++ line (codes "$upscope $end") →
    f ≡ e ++ line (codes "$enddefinitions $end") → f ≡ old ++ declarations remarks signals
head_whole remarks signals old a b c d e f g h i j k l =
    six old a b c d e f (line (codes "$timescale 1ns $end")) remarks opening_lines (variables signals)
    (line (codes "$upscope $end")) (line (codes "$enddefinitions $end")) g h i j k l
