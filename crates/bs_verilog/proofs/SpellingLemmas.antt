-- The names of a text are bytes 33 to 126.
use Rattle.std.proofs.Common.{◌≡◌, ℕ, zero, suc, ◌+◌, ◌-◌, ◌≤◌, Bool, true, false, cond, ◌&&◌, ◌||◌, ◌==◌, List, [], ◌∷◌, ◌++◌, length, take, drop}
use Rattle.std.proofs.Common.{Option, Some, None, Result, Ok, Err, ◌⊎◌, inl, inr, refl, sym, ap, ◌∙◌, arith}
use Rattle.std.specs.Prelude.{⊤, nat_le, nat_lt, min, slice_index, IfOk, IfSome}
use Rattle.std.specs.List.{prefix_len, list_all, list_any, All}
use Rattle.std.specs.Str.{bytes_eq}
use Rattle.std.specs.Char.{is_ascii_alphanumeric}
use Rattle.std.specs.Int.{is_in_range}
use Rattle.std.proofs.lemmas.Bool.{leb-true, le-leb, eqb-true, and_parts, and_from, or_cases, cond_both}
use Rattle.std.proofs.lemmas.List.{drop-drop}
use Rattle.std.proofs.lemmas.List.Elements.{All-nil, All-cons, All-head, All-tail, All-push}
use Rattle.bs_bits.specs.Lines.{is_visible}
use Rattle.bs_lex.specs.declared.token.Token.{Token}
use Rattle.bs_lex.specs.declared.token.TokenKind.{TokenKind}
use Rattle.bs_lex.specs.declared.token.TokenKind.TheVariants.{Name, Escaped, System, Number, Text, Directive, AttrOpen, AttrClose, Sym}
use Rattle.bs_lex.specs.declared.token.Piece.{Piece}
use Rattle.bs_lex.specs.declared.token.Piece.TheVariants.{Passed, Made, Bad}
use Rattle.bs_lex.specs.Bytes.{◌∈◌, is_space, is_digit, begins_name, is_of_name, is_graphic, is_symbol}
use Rattle.bs_lex.specs.Placing.{token_text}
use Rattle.bs_lex.specs.Tokens.{first, comment_size, quoted_size, slash, quoted, escaped, system, directive, is_passed_over, number_size, number, mark}
use Rattle.bs_lex.specs.Tokens.{piece_at, tokens_from, tokens_of, with_token}
use Rattle.bs_lex.specs.declared.lexeme.Sort.{Sort}
use Rattle.bs_lex.specs.declared.lexeme.Sort.TheVariants as sorts
use Rattle.bs_lex.specs.declared.number_limits.TheConstants.{GREAT}
use Rattle.bs_lex.specs.Lexemes.{decimal_from, is_escaped, is_great, is_name, is_one_bit, name_text, names_from, names_of, sort_of, with_name, without_zeros}

-- ---- bytes

abbrev pub IsVisible : List ℕ → Type 0
IsVisible text = is_visible text ≡ true

pub seen : (c : ℕ) → 33 ≤ c → c ≤ 126 → is_graphic c ≡ true
seen c low high = and_from (nat_le 33 c) (nat_le c 126) (le-leb 33 c low) (le-leb c 126 high)

in_range : (lo hi c : ℕ) → 33 ≤ lo → hi ≤ 126 → is_in_range lo hi c ≡ true → is_graphic c ≡ true
in_range lo hi c low high e =
    let p = and_parts (nat_le lo c) (nat_le c hi) e in
    seen c (omega (arith, low, leb-true lo c p.0)) (omega (arith, high, leb-true c hi p.1))

is_this : (d c : ℕ) → 33 ≤ d → d ≤ 126 → (c == d) ≡ true → is_graphic c ≡ true
is_this d c low high e = seen c (omega (arith, low, eqb-true c d e)) (omega (arith, high, eqb-true c d e))

either : (x y : Bool) (c : ℕ) → (x ≡ true → is_graphic c ≡ true) → (y ≡ true → is_graphic c ≡ true) → (x || y) ≡ true → is_graphic c ≡ true
either x y c f g e = by (or_cases x y e)
  where
    by : (x ≡ true) ⊎ (y ≡ true) → is_graphic c ≡ true
    by (inl h) = f h
    by (inr h) = g h

name_byte : (c : ℕ) → is_of_name c ≡ true → is_graphic c ≡ true
name_byte c =
    either (is_ascii_alphanumeric c) (c ∈ "_$") c
    (either (is_in_range 48 57 c || is_in_range 65 90 c) (is_in_range 97 122 c) c
    (either (is_in_range 48 57 c) (is_in_range 65 90 c) c (in_range 48 57 c (omega arith) (omega arith)) (in_range 65 90 c (omega arith) (omega arith)))
    (in_range 97 122 c (omega arith) (omega arith)))
    (either (c == 95) (c == 36) c (is_this 95 c (omega arith) (omega arith)) (is_this 36 c (omega arith) (omega arith)))

digit_byte : (c : ℕ) → is_digit c ≡ true → is_graphic c ≡ true
digit_byte c e = in_range 48 57 c (omega arith) (omega arith) e

-- a run of such bytes
run_is_visible : (p : ℕ → Bool) → ((c : ℕ) → p c ≡ true → is_graphic c ≡ true) → (text : List ℕ) → IsVisible (take (prefix_len p text) text)
run_is_visible p low [] = refl
run_is_visible p low (c ∷ text) =
    let more : 1 + prefix_len p text ≡ suc (prefix_len p text) = omega arith in
    cond_both (p c) (1 + prefix_len p text) 0 (λ n. IsVisible (take n (c ∷ text)))
    (λ e. rw more (and_from (is_graphic c) (is_visible (take (prefix_len p text) text)) (low c e) (run_is_visible p low text)))
    (λ _. refl)

digits_are_visible : (text : List ℕ) → list_all is_digit text ≡ true → IsVisible text
digits_are_visible [] e = refl
digits_are_visible (c ∷ text) e =
    let p = and_parts (is_digit c) (list_all is_digit text) e in
    and_from (is_graphic c) (is_visible text) (digit_byte c p.0) (digits_are_visible text p.1)

stay_visible : (text : List ℕ) → IsVisible text → IsVisible (without_zeros text)
unfolding without_zeros
stay_visible [] v = refl
stay_visible (c ∷ text) v =
    cond_both (c == 48) (without_zeros text) (c ∷ text) IsVisible
    (λ _. stay_visible text (and_parts (is_graphic c) (is_visible text) v).1) (λ _. v)

-- ---- tokens

-- a name of this kind has bytes 33 to 126, apart from the `\` before an escaped one
abbrev HasVisibleName : TokenKind → List ℕ → Type 0
HasVisibleName Name text = IsVisible text
HasVisibleName Escaped text = IsVisible (drop 1 text)
HasVisibleName _ text = ⊤

abbrev IsVisiblePiece : List ℕ → Piece → Type 0
IsVisiblePiece text (Made kind size) = HasVisibleName kind (take size text)
IsVisiblePiece text _ = ⊤

module _ (c : ℕ) (rest : List ℕ) where
  abbrev P : Piece → Type 0
  P piece = IsVisiblePiece (c ∷ rest) piece

  of_slash : P (slash rest)
  of_slash = cond_both (first rest ∈ "/") _ _ P (λ _. tt) (λ _. cond_both (first rest ∈ "*") _ _ P (λ _. by (comment_size (drop 1 rest))) (λ _. tt))
    where
      by : (o : Option ℕ) → P (elim o [ Some size ↦ Passed (2 + size) | None ↦ Bad 0 ])
      by (Some size) = tt
      by None = tt

  of_quoted : P (quoted rest)
  of_quoted = by (quoted_size false rest)
    where
      by : (o : Option ℕ) → P (elim o [ Some size ↦ Made Text (1 + size) | None ↦ Bad 0 ])
      by (Some size) = tt
      by None = tt

  of_system : P (system rest)
  of_system = cond_both (is_of_name (first rest)) _ _ P (λ _. tt) (λ _. tt)

  of_directive : P (directive rest)
  of_directive =
      cond_both (begins_name (first rest)) _ _ P
      (λ _. cond_both (is_passed_over (take (prefix_len is_of_name rest) rest)) _ _ P (λ _. tt) (λ _. tt)) (λ _. tt)

  of_escaped : P (escaped rest)
  of_escaped =
      let size = prefix_len is_graphic rest in
      let more : 1 + size ≡ suc size = omega arith in
      cond_both (length rest == size || is_space (slice_index rest size)) _ _ P
      (λ _. cond_both (size == 0) _ _ P (λ _. tt) (λ _. rw more (run_is_visible is_graphic (λ c e. e) rest))) (λ _. tt)

  of_number : P (number (c ∷ rest))
  of_number = cond_both (nat_lt 0 (number_size (c ∷ rest))) _ _ P (λ _. tt) (λ _. tt)

  of_mark : P (mark c rest)
  of_mark =
      cond_both (c ∈ "/") _ _ P (λ _. of_slash)
      (λ _. cond_both (c ∈ "\\") _ _ P (λ e. of_escaped)
      (λ _. cond_both (c ∈ "$") _ _ P (λ _. of_system)
      (λ _. cond_both (c ∈ "\"") _ _ P (λ _. of_quoted)
      (λ _. cond_both (c ∈ "`") _ _ P (λ _. of_directive)
      (λ _. cond_both (c ∈ "(" && first rest ∈ "*") _ _ P (λ _. tt)
      (λ _. cond_both (c ∈ "*" && first rest ∈ ")") _ _ P (λ _. tt)
      (λ _. cond_both (is_symbol c) _ _ P (λ _. tt) (λ _. tt))))))))

  of_piece : P (piece_at (c ∷ rest))
  unfolding piece_at
  of_piece =
      cond_both (is_space c) _ _ P (λ _. tt)
      (λ _. cond_both (begins_name c) _ _ P (λ _. run_is_visible is_of_name name_byte (c ∷ rest))
      (λ _. cond_both (is_digit c || c ∈ "'") _ _ P (λ _. of_number) (λ _. of_mark)))

abbrev pub IsVisibleToken : List ℕ → Token → Type 0
IsVisibleToken source t = HasVisibleName t.kind (token_text source t)

one_more : (source : List ℕ) (t : Token) (r : Result (List Token) ℕ) → IsVisibleToken source t → IfOk r (All (IsVisibleToken source))
    → IfOk (with_token t r) (All (IsVisibleToken source))
one_more source t (Ok ts) h later = All-cons (IsVisibleToken source) t ts h later
one_more source t (Err at) h later = tt

next : (source : List ℕ) (at c : ℕ) (text : List ℕ) → drop at source ≡ c ∷ text → drop (at + 1) source ≡ text
next source at c text d = sym (drop-drop 1 at source) ∙ ap (drop 1) d

tokens_are_visible : (source text : List ℕ) (at skip : ℕ) → drop at source ≡ text → IfOk (tokens_from at skip text) (All (IsVisibleToken source))
unfolding tokens_from
tokens_are_visible source [] at zero d = All-nil (IsVisibleToken source)
tokens_are_visible source [] at (suc skip) d = All-nil (IsVisibleToken source)
tokens_are_visible source (c ∷ text) at (suc skip) d = tokens_are_visible source text (at + 1) skip (next source at c text d)
tokens_are_visible source (c ∷ text) at zero d =
    by (piece_at (c ∷ text)) (of_piece c text) (λ skip. tokens_are_visible source text (at + 1) skip (next source at c text d))
  where
    by : (p : Piece) → IsVisiblePiece (c ∷ text) p → ((skip : ℕ) → IfOk (tokens_from (at + 1) skip text) (All (IsVisibleToken source)))
        → IfOk (elim p [
          | Passed size ↦ tokens_from (at + 1) (size - 1) text
          | Made kind size ↦ with_token (record { kind = kind; start = at; stop = at + size }) (tokens_from (at + 1) (size - 1) text)
          | Bad ahead ↦ Err (at + ahead)
        ]) (All (IsVisibleToken source))
    by (Passed size) h later = later (size - 1)
    by (Made kind size) h later =
        let span : at + size - at ≡ size = omega arith in
        one_more source (record { kind = kind; start = at; stop = at + size }) (tokens_from (at + 1) (size - 1) text) (rw (span, d) h) (later (size - 1))
    by (Bad ahead) h later = tt

pub text_is_visible : (source : List ℕ) → IfOk (tokens_of source) (All (IsVisibleToken source))
text_is_visible source = tokens_are_visible source source 0 0 refl

-- ---- names

-- the text under which a token of this sort and spelling stands among the names
abbrev stands : Sort → List ℕ → Option (List ℕ)
stands sort text = cond (is_name sort) (Some text) (cond (is_great sort) (Some (without_zeros text)) None)

abbrev Stands : List ℕ → Sort → Type 0
Stands text sort = IfSome (stands sort text) IsVisible

abbrev digits_sort : List ℕ → Sort
digits_sort text = sorts.Digits (min (decimal_from 0 text) GREAT)

abbrev bit_sort : List ℕ → Sort
bit_sort text = sorts.Bit (slice_index text 3 ∈ "1")

abbrev other_sort : List ℕ → Sort
other_sort text = cond (is_one_bit text) (bit_sort text) sorts.Number

visible_stands : (sort : Sort) (text : List ℕ) → IsVisible text → IfSome (stands sort text) IsVisible
visible_stands sort text v =
    cond_both (is_name sort) _ _ (λ o. IfSome o IsVisible) (λ _. v)
    (λ _. cond_both (is_great sort) _ _ (λ o. IfSome o IsVisible) (λ _. stay_visible text v) (λ _. tt))

name_is_visible : (source : List ℕ) (t : Token) → IsVisibleToken source t → IfSome (name_text source t) IsVisible
unfolding name_text sort_of
name_is_visible source t = by t.kind (token_text source t)
  where
    number_stands : (text : List ℕ) → IfSome (stands (sort_of Number text) text) IsVisible
    number_stands text =
        cond_both (list_all is_digit text) (digits_sort text) (other_sort text) (Stands text)
        (λ e. visible_stands (digits_sort text) text (digits_are_visible text e))
        (λ _. cond_both (is_one_bit text) (bit_sort text) sorts.Number (Stands text) (λ _. tt) (λ _. tt))

    by : (kind : TokenKind) (text : List ℕ) → HasVisibleName kind text
        → IfSome (stands (sort_of kind (cond (is_escaped kind) (drop 1 text) text)) (cond (is_escaped kind) (drop 1 text) text)) IsVisible
    by Name text v = visible_stands (sort_of Name text) text v
    by Escaped text v = visible_stands (sort_of Escaped (drop 1 text)) (drop 1 text) v
    by System text v = tt
    by Number text v = number_stands text
    by Text text v = tt
    by Directive text v = tt
    by AttrOpen text v = tt
    by AttrClose text v = tt
    by Sym text v = tt

with_visible : (names : List (List ℕ)) (o : Option (List ℕ)) → All IsVisible names → IfSome o IsVisible → All IsVisible (with_name names o)
with_visible names None h v = h
with_visible names (Some name) h v =
    cond_both (list_any (bytes_eq name) names) names (names ++ name ∷ []) (All IsVisible) (λ _. h) (λ _. All-push IsVisible names name h v)

names_are_visible : (names : List (List ℕ)) (source : List ℕ) (ts : List Token) → All IsVisible names → All (IsVisibleToken source) ts
    → All IsVisible (names_from names source ts)
unfolding names_from
names_are_visible names source [] h v = h
names_are_visible names source (t ∷ ts) h v =
    names_are_visible (with_name names (name_text source t)) source ts
    (with_visible names (name_text source t) h (name_is_visible source t (All-head (IsVisibleToken source) t ts v)))
    (All-tail (IsVisibleToken source) t ts v)

pub table_is_visible : (source : List ℕ) (ts : List Token) → All (IsVisibleToken source) ts → All IsVisible (names_of source ts)
table_is_visible source ts v = names_are_visible [] source ts (All-nil IsVisible) v
