-- Pieces that are appended one after another.
use Rattle.std.proofs.Common.{◌≡◌, ℕ, List, ◌++◌, ap, ◌∙◌, append_assoc}
use Rattle.std.specs.Prelude.{Result, Ok, Err, OnOk}

three : (old a b new p q r : List ℕ) → a ≡ old ++ p → b ≡ a ++ q → new ≡ b ++ r → new ≡ old ++ (p ++ (q ++ r))
three old a b new p q r e f g =
    g ∙ (ap (λ (t : List ℕ). t ++ r) (f ∙ ap (λ (t : List ℕ). t ++ q) e) ∙ (append_assoc (old ++ p) q r ∙ append_assoc old p (q ++ r)))

-- three pieces, of which the last may fail
pub three_ok : {A E : Type 0} (x : Result A E) (old a b new p q r : List ℕ) → a ≡ old ++ p → b ≡ a ++ q → OnOk x (new ≡ b ++ r) →
    OnOk x (new ≡ old ++ (p ++ (q ++ r)))
three_ok (Ok u) old a b new p q r e f g = three old a b new p q r e f g
three_ok (Err u) old a b new p q r e f g = g
