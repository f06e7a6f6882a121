-- A text has at most a lexeme for each byte, and its end, and no more modules than lexemes.
use Rattle.std.proofs.Common.{◌≡◌, ℕ, zero, suc, ◌+◌, ◌-◌, ◌<◌, ◌≤◌, Bool, true, false, cond, List, [], ◌∷◌, ◌++◌, map, length, Result, Ok, Err, Option}
use Rattle.std.proofs.Common.{refl, sym, ap, ◌∙◌, arith}
use Rattle.std.specs.Prelude.{filter}
use Rattle.std.proofs.lemmas.Bool.{false≢true}
use Rattle.std.proofs.lemmas.List.{length-append, length-map}
use Rattle.bs_lex.specs.declared.limits.TheConstants.{MAX_BYTES}
use Rattle.bs_lex.specs.declared.token.Token.{Token}
use Rattle.bs_lex.specs.declared.token.Piece as token_piece
use Rattle.bs_lex.specs.declared.token.Piece.TheVariants.{Passed, Made, Bad}
use Rattle.bs_lex.specs.Tokens.{piece_at, tokens_from, tokens_of, with_token}
use Rattle.bs_lex.specs.Packed.{Lexeme}
use Rattle.bs_lex.specs.Lexemes.{end_of, lexeme_of, lexemes_of, names_of}
use Rattle.bs_verilog_syntax.specs.Reading.{Rest}
use Rattle.bs_flat_meaning.specs.Pieces.{Piece, first_piece, is_design, pieces, pieces_from, modules_of, name_id}
use Rattle.bs_top_files.specs.Modules.{AreOfText}

abbrev value_or : List Token → Result (List Token) ℕ → List Token
value_or d (Ok ts) = ts
value_or d (Err at) = d

abbrev is_ok : Result (List Token) ℕ → Bool
is_ok (Ok ts) = true
is_ok (Err at) = false

tokens_few : (at skip : ℕ) (text : List ℕ) (ts : List Token) → tokens_from at skip text ≡ Ok ts → length ts ≤ length text
unfolding tokens_from
tokens_few at skip [] ts e = let none : 0 ≡ length ts = ap (λ r. length (value_or ts r)) e in omega (arith, none)
tokens_few at (suc skip) (c ∷ text) ts e = let few = tokens_few (at + 1) skip text ts e in omega (arith, few)
tokens_few at zero (c ∷ text) ts e = by (piece_at (c ∷ text)) e (λ skip us q. tokens_few (at + 1) skip text us q)
  where
    more : (t : Token) (r : Result (List Token) ℕ) → with_token t r ≡ Ok ts → ((us : List Token) → r ≡ Ok us → length us ≤ length text)
        → length ts ≤ suc (length text)
    more t (Ok us) e few =
        let all : suc (length us) ≡ length ts = ap (λ r. length (value_or ts r)) e in let rest = few us refl in omega (arith, all, rest)
    more t (Err place) e few = absurd (false≢true (ap is_ok e))

    by : (p : token_piece.Piece) → elim p as (λ _. Result (List Token) ℕ) [
      | Passed size ↦ tokens_from (at + 1) (size - 1) text
      | Made kind size ↦ with_token (record { kind = kind; start = at; stop = at + size }) (tokens_from (at + 1) (size - 1) text)
      | Bad ahead ↦ Err (at + ahead)
    ] ≡ Ok ts → ((skip : ℕ) (us : List Token) → tokens_from (at + 1) skip text ≡ Ok us → length us ≤ length text) → length ts ≤ suc (length text)
    by (Passed size) e few = let rest = few (size - 1) ts e in omega (arith, rest)
    by (Made kind size) e few =
        more (record { kind = kind; start = at; stop = at + size }) (tokens_from (at + 1) (size - 1) text) e (λ us q. few (size - 1) us q)
    by (Bad ahead) e few = absurd (false≢true (ap is_ok e))

lexeme_count : (source : List ℕ) (tokens : List Token) → length (lexemes_of source tokens) ≡ length tokens + 1
unfolding lexemes_of
lexeme_count source tokens =
    length-append (map (lexeme_of (names_of source tokens) source) tokens) (end_of source ∷ [])
    ∙ ap (λ n. n + 1) (length-map tokens (lexeme_of (names_of source tokens) source))

pub lexemes_few : (table : List (List ℕ)) (ts : Rest) → AreOfText table ts → length ts ≤ MAX_BYTES + 1
lexemes_few table ts t =
    let few = tokens_few 0 0 t.source t.has.tokens t.has.are in
    let count = lexeme_count t.source t.has.tokens in
    let same = ap (λ (l : Rest). length l) t.has.lexemes in
    let short = t.short in
    omega (arith, few, count, same, short)

pieces_few : (n : ℕ) (ts : Rest) → length (pieces_from n ts) ≤ n
unfolding pieces_from
pieces_few zero ts = omega arith
pieces_few (suc n) [] = omega arith
pieces_few (suc n) (t ∷ ts) = let few = pieces_few n (first_piece t ts).1 in omega (arith, few)

filter_few : (p : Piece → Bool) (xs : List Piece) → length (filter p xs) ≤ length xs
filter_few p [] = omega arith
filter_few p (x ∷ xs) = by (p x) (filter_few p xs)
  where
    by : (b : Bool) → length (filter p xs) ≤ length xs → length (cond b (x ∷ filter p xs) (filter p xs)) ≤ length (x ∷ xs)
    by true h = omega (arith, h)
    by false h = omega (arith, h)

-- a text has fewer modules than have a number
pub modules_few : (table : List (List ℕ)) (ts : Rest) (ids : List (Option ℕ)) → AreOfText table ts → ids ≡ map name_id (modules_of ts) → length ids < 4294967296
modules_few table ts ids t e =
    let lexemes = lexemes_few table ts t in
    let all = pieces_few (length ts) ts in
    let some = filter_few is_design (pieces ts) in
    let same = ap (λ (l : List (Option ℕ)). length l) e ∙ length-map (modules_of ts) name_id in
    omega (arith, lexemes, all, some, same)
