-- A line that is appended piece by piece.
use Rattle.std.proofs.Common.{◌≡◌, ℕ, List, [], ◌∷◌, ◌++◌, ap, sym, ◌∙◌, append_assoc}
use Rattle.std.specs.Prelude.{Result, Ok, Err, OnOk}
use Rattle.bs_bits.specs.Lines.{line}

-- a piece, and behind it the rest of its line, which may fail
pub behind : {A E : Type 0} (x : Result A E) (old mid new piece rest : List ℕ) → mid ≡ old ++ piece → OnOk x (new ≡ mid ++ line rest) →
    OnOk x (new ≡ old ++ line (piece ++ rest))
behind (Ok u) old mid new piece rest e h =
    h ∙ (ap (λ (t : List ℕ). t ++ line rest) e
    ∙ (append_assoc old piece (line rest) ∙ ap (λ (t : List ℕ). old ++ t) (sym (append_assoc piece rest (10 ∷ [])))))
behind (Err u) old mid new piece rest e h = h
