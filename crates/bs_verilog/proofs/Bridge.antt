-- The lexemes of a text show the symbols of its tokens.
use Rattle.std.proofs.Common.{◌≡◌, ℕ, suc, ◌+◌, ◌-◌, ◌<◌, Bool, true, false, cond, List, [], ◌∷◌, ◌++◌, map, get_or, Option, Some}
use Rattle.std.proofs.Common.{None, refl, sym, ap, ◌∙◌, arith, inl, inr}
use Rattle.std.specs.Prelude.{slice_get, slice_index_or, min, unwrap_or, slice_index}
use Rattle.std.specs.List.{list_all}
use Rattle.std.specs.Str.{bytes_eq}
use Rattle.std.proofs.lemmas.List.{map-append}
use Rattle.std.specs.Cmp.Lexicographic.{bytes_decides}
use Rattle.std.proofs.lemmas.Bool.{le-ltb, lt-ltb}
use Rattle.std.proofs.lemmas.List.Quantifiers.{position-Some}
use Rattle.bs_net.specs.Names.{number_of}
use Rattle.bs_lex.specs.Bytes.{◌∈◌, is_digit}
use Rattle.bs_lex.specs.declared.token.Token.{Token}
use Rattle.bs_lex.specs.declared.token.TokenKind.{TokenKind}
use Rattle.bs_lex.specs.declared.token.TokenKind.TheVariants as kinds
use Rattle.bs_lex.specs.declared.lexeme.Sort.{Sort}
use Rattle.bs_lex.specs.declared.lexeme.Sort.TheVariants as sorts
use Rattle.bs_lex.specs.declared.lexeme.Word as code
use Rattle.bs_lex.specs.declared.lexeme.Cell.{Cell}
use Rattle.bs_lex.specs.Lexemes
use Rattle.bs_lex.specs.Lexemes.{sort_of, sort_of_name, sort_of_number, word_of, is_one_bit, spelling, token_sort, is_name, is_great, name_text}
use Rattle.bs_lex.specs.Lexemes.{without_zeros, decimal_from, names_of, number_in, numbered_sort, numbered_lexeme, lexeme_of, lexemes_of, end_of}
use Rattle.bs_lex.specs.Apart.{IsDigits, value}
use Rattle.bs_lex.proofs.ApartLemmas.{le_or, sees, same_value, is_small, is_greater, placed, place}
use Rattle.bs_verilog.specs.Symbols.{Symbol, Text, digits, finish, symbol_seen, symbol_of, symbols_of}
use Rattle.bs_verilog.specs.Symbols as symbols
use Rattle.bs_verilog.proofs.Shown.{seen_as, seen, shown}
use Rattle.bs_verilog.proofs.Extends.{is_finish, EndsOnce, at_end, before_end}

text_at : (names : List (List ℕ)) (key : List ℕ) (k : ℕ) → number_of names key ≡ Some k → slice_index_or names k [] ≡ key
text_at names key k e = sym ((bytes_decides key (get_or names k [])).0 (position-Some (bytes_eq key) names k [] e).1)

-- what is seen as digits is a number of digits alone
only_digits : (kind : TokenKind) (text : List ℕ) (n : ℕ) → sort_of kind text ≡ sorts.Digits n → (kind ≡ kinds.Number) × (list_all is_digit text ≡ true)
unfolding sort_of
only_digits kinds.Name text n e = by (word_of text) e
  where
    by : (o : Option code.Word) → elim o [ Some w ↦ sorts.Word w | None ↦ sorts.Name (Rattle.bs_lex.specs.Lexemes.cell_of text) ] ≡ sorts.Digits n
        → (kinds.Name ≡ kinds.Number) × (list_all is_digit text ≡ true)
    by (Some w) e = absurd cc
    by None e = absurd cc
only_digits kinds.Number text n e = by (list_all is_digit text) (is_one_bit text) refl e
  where
    by : (a b : Bool) → list_all is_digit text ≡ a
        → cond a (sorts.Digits (min (decimal_from 0 text) 65536)) (cond b (sorts.Bit (slice_index text 3 ∈ "1")) sorts.Number) ≡ sorts.Digits n
        → (kinds.Number ≡ kinds.Number) × (list_all is_digit text ≡ true)
    by true b h e = (refl, h)
    by false true h e = absurd cc
    by false false h e = absurd cc
only_digits _ text n e = absurd cc

module _ (source : List ℕ) (tokens : List Token) where
  name_is : (t : Token) (cell : Option Cell) → token_sort source t ≡ sorts.Name cell → name_text source t ≡ Some (spelling source t)
  unfolding name_text
  name_is t cell e = rw e refl

  token_shown : (i : ℕ) (t : Token) → slice_get tokens i ≡ Some t
      → seen (names_of source tokens) (lexeme_of (names_of source tokens) source t) ≡ symbol_of source t
  token_shown i t at = by (token_sort source t) refl
    where
      names : List (List ℕ)
      names = names_of source tokens

      k : ℕ
      k = number_in names (name_text source t)

      by : (s : Sort) → token_sort source t ≡ s → seen_as names (numbered_sort k s) k ≡ symbol_seen (spelling source t) s
      by (sorts.Name cell) e =
          let is = name_is t cell e in
          let there = sees [] source tokens i t (spelling source t) at is in
          let number : k ≡ there.0 = ap (number_in names) is ∙ ap (λ o. unwrap_or o 0) there.1 in
          ap (λ text. symbols.name cell text) (ap (λ n. slice_index_or names n []) number ∙ text_at names (spelling source t) there.0 there.1)
      by (sorts.Digits n) e =
          let o = only_digits t.kind (spelling source t) n e in
          let d : IsDigits source t = record { number = o.0; digits = o.1 } in
          elim (le_or (value source t) 65535) [
            | inl small ↦
                ap (λ s. seen_as names (numbered_sort k s) k) (sym e) ∙ (ap (λ s. seen_as names s k) (is_small source tokens t d small)
                ∙ ap (λ b. digits (cond b (decimal_from 0 (slice_index_or names (value source t - 65536) [])) (value source t)))
                (le-ltb 65535 (value source t) small))
            | inr great ↦
                let p = place source tokens t in
                let less : 65535 < 65536 + p = omega arith in
                let back : 65536 + p - 65536 ≡ p = omega arith in
                ap (λ s. seen_as names (numbered_sort k s) k) (sym e) ∙ (ap (λ s. seen_as names s k) (is_greater source tokens t d great)
                ∙ (ap (λ b. digits (cond b (decimal_from 0 (slice_index_or names (65536 + p - 65536) [])) (65536 + p))) (lt-ltb 65535 (65536 + p) less)
                ∙ (ap (λ n. digits (decimal_from 0 (slice_index_or names n []))) back
                ∙ (ap (λ text. digits (decimal_from 0 text)) (text_at names (without_zeros (spelling source t)) p (placed source tokens i t at d great))
                ∙ ap (λ n. digits n) (same_value (spelling source t))))))
          ]
      by (sorts.Word w) e = refl
      by (sorts.Bit b) e = refl
      by (sorts.Symbol c) e = refl
      by _ e = refl

all_shown : (source : List ℕ) (names : List (List ℕ)) (ts : List Token)
    → ((i : ℕ) (t : Token) → slice_get ts i ≡ Some t → seen names (lexeme_of names source t) ≡ symbol_of source t)
    → map (seen names) (map (lexeme_of names source) ts) ≡ map (symbol_of source) ts
all_shown source names [] h = refl
all_shown source names (t ∷ ts) h =
    ap (λ s. s ∷ map (seen names) (map (lexeme_of names source) ts)) (h 0 t refl)
    ∙ ap (λ us. symbol_of source t ∷ us) (all_shown source names ts (λ i u e. h (suc i) u e))

pub lexemes_show : (source : List ℕ) (tokens : List Token) → shown (names_of source tokens) (lexemes_of source tokens) ≡ symbols_of source tokens
unfolding lexemes_of
lexemes_show source tokens =
    map-append (seen (names_of source tokens)) (map (lexeme_of (names_of source tokens) source) tokens) (end_of source ∷ [])
    ∙ ap (λ us. us ++ finish ∷ []) (all_shown source (names_of source tokens) tokens (token_shown source tokens))

-- ---- the end stands once

no_finish : (kind : TokenKind) (text : List ℕ) → is_finish (symbol_seen text (sort_of kind text)) ≡ false
unfolding sort_of
no_finish kinds.Name text = by (word_of text)
  where
    by : (o : Option code.Word)
        → is_finish (symbol_seen text (elim o [ Some w ↦ sorts.Word w | None ↦ sorts.Name (Rattle.bs_lex.specs.Lexemes.cell_of text) ])) ≡ false
    by (Some w) = refl
    by None = refl
no_finish kinds.Number text = by (list_all is_digit text) (is_one_bit text)
  where
    by : (a b : Bool)
        → is_finish (symbol_seen text (cond a (sorts.Digits (min (decimal_from 0 text) 65536))
        (cond b (sorts.Bit (slice_index text 3 ∈ "1")) sorts.Number))) ≡ false
    by true b = refl
    by false true = refl
    by false false = refl
no_finish _ text = refl

ends : (source : List ℕ) (ts : List Token) → EndsOnce (map (symbol_of source) ts ++ finish ∷ [])
ends source [] = at_end
ends source (t ∷ ts) = before_end (no_finish t.kind (spelling source t)) (ends source ts)

pub symbols_end : (source : List ℕ) (tokens : List Token) → EndsOnce (symbols_of source tokens)
symbols_end source tokens = ends source tokens
