-- What readers of any text share: one thing after another is read, or the first fault comes; and a reader's answer is what its definition says.
use Rattle.std.specs.Prelude.{◌≡◌, ◌⊎◌, Result, Ok, Err, MatchResult}

-- the second reading goes on from the value of the first, where that has one
infixl 10 ◌>>=◌
abbrev pub ◌>>=◌ : {A B F : Type 0} → Result A F → (A → Result B F) → Result B F
(Ok x) >>= f = f x
(Err fault) >>= f = Err fault

-- What a reader answers, seen by view, is what its definition says, value or fault, unless memory ran out, which is the fault want.
abbrev pub Answers : {A B F : Type 0} → (want : F) → (view : A → B) → Result A F → Result B F → Type 0
Answers want view result expected =
    MatchResult result (λ value. expected ≡ Ok (view value)) (λ fault. (fault ≡ want) ⊎ (expected ≡ Err fault))
