-- Pieces that are appended one after another.
use Rattle.std.proofs.Common.{◌≡◌, ℕ, List, ◌++◌, ap, ◌∙◌, append_assoc}
use Rattle.std.specs.Prelude.{decimal}

pub two_put : (old x y a b : List ℕ) → a ≡ old ++ x → b ≡ a ++ y → b ≡ old ++ (x ++ y)
two_put old x y a b e f = f ∙ (ap (λ (t : List ℕ). t ++ y) e ∙ append_assoc old x y)

pub three_put : (old x y z a b c : List ℕ) → a ≡ old ++ x → b ≡ a ++ y → c ≡ b ++ z → c ≡ old ++ (x ++ (y ++ z))
three_put old x y z a b c e f g = two_put old x (y ++ z) a c e (two_put a y z b c f g)

pub four_put : (old x y z w a b c d : List ℕ) → a ≡ old ++ x → b ≡ a ++ y → c ≡ b ++ z → d ≡ c ++ w → d ≡ old ++ (x ++ (y ++ (z ++ w)))
four_put old x y z w a b c d e f g h = two_put old x (y ++ (z ++ w)) a d e (three_put a y z w b c d f g h)

pub five_put : (old x y z w v a b c d e : List ℕ) → a ≡ old ++ x → b ≡ a ++ y → c ≡ b ++ z → d ≡ c ++ w → e ≡ d ++ v →
    e ≡ old ++ (x ++ (y ++ (z ++ (w ++ v))))
five_put old x y z w v a b c d e f g h i j = two_put old x (y ++ (z ++ (w ++ v))) a e f (four_put a y z w v b c d e g h i j)

-- a number that is appended
pub number_put : (old : List ℕ) (n m : ℕ) (a : List ℕ) → n ≡ m → a ≡ old ++ decimal n → a ≡ old ++ decimal m
number_put old n m a same e = e ∙ ap (λ (k : ℕ). old ++ decimal k) same
