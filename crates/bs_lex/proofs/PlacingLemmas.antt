-- Names are ASCII, and tokens lie in their source.
use Rattle.std.proofs.Common.{◌≡◌, ℕ, zero, suc, ◌+◌, ◌-◌, ◌<◌, ◌≤◌, Bool, true, false, ◌||◌, ◌&&◌, ◌==◌, List, [], ◌∷◌, length, get_or, take, drop}
use Rattle.std.proofs.Common.{Option, Some, None, ◌⊎◌, inl, inr, subst, sym, arith, get_or-take, length-take, length-drop}
use Rattle.std.specs.Prelude.{⊤, slice_index, nat_lt}
use Rattle.std.specs.List.{prefix_len}
use Rattle.std.specs.Str.{IsAscii}
use Rattle.std.specs.Char.{is_ascii_alphanumeric}
use Rattle.std.specs.Int.{is_in_range}
use Rattle.std.proofs.lemmas.Bool.{leb-true, eqb-true, and_parts, or_cases, cases_lt, cond_both}
use Rattle.std.proofs.lemmas.List.{get_or_past}
use Rattle.std.proofs.lemmas.List.Sums.{prefix_len_passes}
use Rattle.bs_lex.specs.declared.token.TokenKind.{TokenKind}
use Rattle.bs_lex.specs.declared.token.TokenKind.TheVariants.{Text}
use Rattle.bs_lex.specs.declared.token.Piece.{Piece}
use Rattle.bs_lex.specs.declared.token.Piece.TheVariants.{Passed, Made, Bad}
use Rattle.bs_lex.specs.Bytes.{◌∈◌, is_space, is_digit, begins_name, is_of_name, is_graphic, is_symbol}
use Rattle.bs_lex.specs.Tokens.{first, comment_size, quoted_size, slash, quoted, escaped, system, directive, is_passed_over, number_size, number, mark}
use Rattle.bs_lex.specs.Tokens.{piece_at}
use Rattle.bs_lex.specs.Placing.{IsAsciiName}

in_range : (lo hi c : ℕ) → hi < 128 → is_in_range lo hi c ≡ true → c < 128
in_range lo hi c h e = omega (arith, leb-true c hi (and_parts _ _ e).1)

is_this : (d c : ℕ) → d < 128 → (c == d) ≡ true → c < 128
is_this d c h e = omega (arith, eqb-true c d e)

either : (x y : Bool) (c : ℕ) → (x ≡ true → c < 128) → (y ≡ true → c < 128) → (x || y) ≡ true → c < 128
either x y c f g e = by (or_cases x y e)
  where
    by : (x ≡ true) ⊎ (y ≡ true) → c < 128
    by (inl h) = f h
    by (inr h) = g h

name_byte : (c : ℕ) → is_of_name c ≡ true → c < 128
name_byte c =
    either (is_ascii_alphanumeric c) (c ∈ "_$") c
    (either (is_in_range 48 57 c || is_in_range 65 90 c) (is_in_range 97 122 c) c
    (either (is_in_range 48 57 c) (is_in_range 65 90 c) c (in_range 48 57 c (omega arith)) (in_range 65 90 c (omega arith)))
    (in_range 97 122 c (omega arith)))
    (either (c == 95) (c == 36) c (is_this 95 c (omega arith)) (is_this 36 c (omega arith)))

graphic_byte : (c : ℕ) → is_graphic c ≡ true → c < 128
graphic_byte c e = omega (arith, leb-true c 126 (and_parts _ _ e).1)

-- a run of ASCII bytes
run_is_ascii : (p : ℕ → Bool) → ((c : ℕ) → p c ≡ true → c < 128) → (text : List ℕ) → IsAscii (take (prefix_len p text) text)
run_is_ascii p low text i = by (cases_lt i (prefix_len p text))
  where
    by : (i < prefix_len p text) ⊎ (prefix_len p text ≤ i) → get_or (take (prefix_len p text) text) i 0 < 128
    by (inl h) = rw (get_or-take (prefix_len p text) text i 0 h) (low _ (prefix_len_passes p text i 0 h))
    by (inr h) = rw (get_or_past (take (prefix_len p text) text) i 0 (omega (arith, length-take (prefix_len p text) text))) (omega arith)

one_more_is_ascii : (c : ℕ) (text : List ℕ) → c < 128 → IsAscii text → IsAscii (c ∷ text)
one_more_is_ascii c text h rest zero = h
one_more_is_ascii c text h rest (suc i) = rest i

-- the piece at the front of a text is no name, or an ASCII one
abbrev IsAsciiPiece : List ℕ → Piece → Type 0
IsAsciiPiece text (Made kind size) = IsAsciiName kind (take size text)
IsAsciiPiece text _ = ⊤

module _ (c : ℕ) (rest : List ℕ) where
  abbrev P : Piece → Type 0
  P piece = IsAsciiPiece (c ∷ rest) piece

  of_slash : P (slash rest)
  of_slash = cond_both (first rest ∈ "/") _ _ P (λ _. tt) (λ _. cond_both (first rest ∈ "*") _ _ P (λ _. by (comment_size (drop 1 rest))) (λ _. tt))
    where
      by : (o : Option ℕ) → P (elim o [ Some size ↦ Passed (2 + size) | None ↦ Bad 0 ])
      by (Some size) = tt
      by None = tt

  of_quoted : P (quoted rest)
  of_quoted = by (quoted_size false rest)
    where
      by : (o : Option ℕ) → P (elim o [ Some size ↦ Made Text (1 + size) | None ↦ Bad 0 ])
      by (Some size) = tt
      by None = tt

  of_system : P (system rest)
  of_system = cond_both (is_of_name (first rest)) _ _ P (λ _. tt) (λ _. tt)

  of_directive : P (directive rest)
  of_directive =
      cond_both (begins_name (first rest)) _ _ P
      (λ _. cond_both (is_passed_over (take (prefix_len is_of_name rest) rest)) _ _ P (λ _. tt) (λ _. tt)) (λ _. tt)

  of_escaped : c < 128 → P (escaped rest)
  of_escaped h =
      let size = prefix_len is_graphic rest in
      let more : 1 + size ≡ suc size = omega arith in
      cond_both (length rest == size || is_space (slice_index rest size)) _ _ P
      (λ _. cond_both (size == 0) _ _ P (λ _. tt) (λ _. rw more (one_more_is_ascii c (take size rest) h (run_is_ascii is_graphic graphic_byte rest)))) (λ _. tt)

  of_number : P (number (c ∷ rest))
  of_number = cond_both (nat_lt 0 (number_size (c ∷ rest))) _ _ P (λ _. tt) (λ _. tt)

  of_mark : P (mark c rest)
  of_mark =
      cond_both (c ∈ "/") _ _ P (λ _. of_slash)
      (λ _. cond_both (c ∈ "\\") _ _ P (λ e. of_escaped (is_this 92 c (omega arith) e))
      (λ _. cond_both (c ∈ "$") _ _ P (λ _. of_system)
      (λ _. cond_both (c ∈ "\"") _ _ P (λ _. of_quoted)
      (λ _. cond_both (c ∈ "`") _ _ P (λ _. of_directive)
      (λ _. cond_both (c ∈ "(" && first rest ∈ "*") _ _ P (λ _. tt)
      (λ _. cond_both (c ∈ "*" && first rest ∈ ")") _ _ P (λ _. tt)
      (λ _. cond_both (is_symbol c) _ _ P (λ _. tt) (λ _. tt))))))))

  of_piece : P (piece_at (c ∷ rest))
  unfolding piece_at
  of_piece =
      cond_both (is_space c) _ _ P (λ _. tt)
      (λ _. cond_both (begins_name c) _ _ P (λ _. run_is_ascii is_of_name name_byte (c ∷ rest))
      (λ _. cond_both (is_digit c || c ∈ "'") _ _ P (λ _. of_number) (λ _. of_mark)))

made_is_ascii : (kind : TokenKind) (size : ℕ) (text : List ℕ) → 1 ≤ length text → Made kind size ≡ piece_at text → IsAsciiName kind (take size text)
made_is_ascii kind size [] some e = absurd (omega arith)
made_is_ascii kind size (c ∷ rest) some e = subst (IsAsciiPiece (c ∷ rest)) (sym e) (of_piece c rest)

-- a token that is made lies in its source, and is ASCII where it is a name
pub made_lies : (source : List ℕ) (from at size : ℕ) (kind : TokenKind) → from ≤ at → at < length source → Made kind size ≡ piece_at (drop at source)
    → (1 ≤ size) × (size ≤ length source - at)
    → (from ≤ at) × (((at < at + size) × (at + size ≤ length source)) × IsAsciiName kind (take (at + size - at) (drop at source)))
made_lies source from at size kind before h e within =
    let some : 1 ≤ length (drop at source) = omega (arith, h, length-drop at source) in
    let span : at + size - at ≡ size = omega arith in
    let text : IsAsciiName kind (take (at + size - at) (drop at source)) = rw span (made_is_ascii kind size (drop at source) some e) in
    (before, ((omega (arith, within.0), omega (arith, h, within.1)), text))
