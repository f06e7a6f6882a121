-- The tokens of a text, piece by piece.
use Rattle.std.proofs.Common.{◌≡◌, ℕ, zero, suc, ◌+◌, ◌-◌, ◌<◌, ◌≤◌, List, [], ◌∷◌, length, drop, Ok, Err, refl, ap, ◌∙◌, arith, length-drop}
use Rattle.std.proofs.lemmas.List.{drop_all, drop-drop}
use Rattle.bs_lex.specs.declared.token.TokenKind.{TokenKind}
use Rattle.bs_lex.specs.declared.token.Piece.TheVariants.{Passed, Made, Bad}
use Rattle.bs_lex.specs.Tokens.{piece_at, tokens_from, with_token}
use Rattle.bs_lex.specs.Placing.{tokens_after}

skipped : (at n : ℕ) (text : List ℕ) → n ≤ length text → tokens_from at n text ≡ tokens_from (at + n) 0 (drop n text)
unfolding tokens_from
skipped at zero text h = let e : at + 0 ≡ at = omega arith in rw e refl
skipped at (suc n) [] h = absurd (omega arith)
skipped at (suc n) (c ∷ text) h =
    let e : at + 1 + n ≡ at + suc n = omega arith in
    skipped (at + 1) n text (omega arith) ∙ ap (λ p. tokens_from p 0 (drop n text)) e

-- after a piece of this size
beyond : (at size c : ℕ) (text : List ℕ) → 1 ≤ size → size ≤ length (c ∷ text)
    → tokens_from (at + 1) (size - 1) text ≡ tokens_from (at + size) 0 (drop size (c ∷ text))
beyond at zero c text low high = absurd (omega arith)
beyond at (suc n) c text low high =
    let less : suc n - 1 ≡ n = omega arith in
    let e : at + 1 + n ≡ at + suc n = omega arith in
    rw less (skipped (at + 1) n text (omega arith) ∙ ap (λ p. tokens_from p 0 (drop n text)) e)

pub passed : (at size : ℕ) (text : List ℕ) → 1 ≤ length text → Passed size ≡ piece_at text → 1 ≤ size → size ≤ length text
    → tokens_from at 0 text ≡ tokens_from (at + size) 0 (drop size text)
unfolding tokens_from
passed at size [] some e low high = absurd (omega arith)
passed at size (c ∷ text) some e low high = rw (tokens_from, ← e) (beyond at size c text low high)

pub made : (at size : ℕ) (kind : TokenKind) (text : List ℕ) → 1 ≤ length text → Made kind size ≡ piece_at text → 1 ≤ size → size ≤ length text
    → tokens_from at 0 text ≡ with_token (record { kind = kind; start = at; stop = at + size }) (tokens_from (at + size) 0 (drop size text))
unfolding tokens_from
made at size kind [] some e low high = absurd (omega arith)
made at size kind (c ∷ text) some e low high = rw (tokens_from, ← e) (ap (with_token _) (beyond at size c text low high))

pub bad : (at ahead : ℕ) (text : List ℕ) → 1 ≤ length text → Bad ahead ≡ piece_at text → tokens_from at 0 text ≡ Err (at + ahead)
unfolding tokens_from
bad at ahead [] some e = absurd (omega arith)
bad at ahead (c ∷ text) some e = rw (tokens_from, ← e) refl

moved : (at size : ℕ) (source : List ℕ) → tokens_from (at + size) 0 (drop size (drop at source)) ≡ tokens_after source (at + size)
moved at size source = ap (tokens_from (at + size) 0) (drop-drop size at source)

pub on_passed : (source : List ℕ) (from at size : ℕ) → at < length source → Passed size ≡ piece_at (drop at source)
    → (1 ≤ size) × (size ≤ length source - at) → tokens_after source from ≡ tokens_after source at
    → tokens_after source from ≡ tokens_after source (at + size)
on_passed source from at size h e within so_far =
    let room : length (drop at source) ≡ length source - at = length-drop at source in
    so_far ∙ (passed at size (drop at source) (omega (arith, room, h)) e within.0 (omega (arith, room, within.1)) ∙ moved at size source)

pub on_made : (source : List ℕ) (from at size : ℕ) (kind : TokenKind) → at < length source → Made kind size ≡ piece_at (drop at source)
    → (1 ≤ size) × (size ≤ length source - at) → tokens_after source from ≡ tokens_after source at
    → tokens_after source from ≡ with_token (record { kind = kind; start = at; stop = at + size }) (tokens_after source (at + size))
on_made source from at size kind h e within so_far =
    let room : length (drop at source) ≡ length source - at = length-drop at source in
    so_far
    ∙ (made at size kind (drop at source) (omega (arith, room, h)) e within.0 (omega (arith, room, within.1)) ∙ ap (with_token _) (moved at size source))

pub on_bad : (source : List ℕ) (from at ahead : ℕ) → at < length source → Bad ahead ≡ piece_at (drop at source)
    → tokens_after source from ≡ tokens_after source at → tokens_after source from ≡ Err (at + ahead)
on_bad source from at ahead h e so_far =
    let room : length (drop at source) ≡ length source - at = length-drop at source in
    so_far ∙ bad at ahead (drop at source) (omega (arith, room, h)) e

pub at_end : (source : List ℕ) (from at : ℕ) → length source ≤ at → tokens_after source from ≡ tokens_after source at → tokens_after source from ≡ Ok []
unfolding tokens_from
at_end source from at h so_far = so_far ∙ ap (tokens_from at 0) (drop_all at source h)
