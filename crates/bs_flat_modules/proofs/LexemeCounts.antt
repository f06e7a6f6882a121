-- A text has no more lexemes than bytes but its end, and so few names that the greatest index still takes three bytes.
use Rattle.std.proofs.Common.{◌≡◌, ℕ, zero, suc, ◌+◌, ◌-◌, ◌*◌, ◌<◌, ◌≤◌, min, Bool, true, false, cond, List, [], ◌∷◌, ◌++◌, length, take, drop, map, filter}
use Rattle.std.proofs.Common.{Some, None, Result, Ok, Err, All, nat_lt, refl, sym, ap, ◌∙◌, subst, arith, inl, inr}
use Rattle.std.proofs.Common.{◌&&◌, length-take, length-drop, drop-drop}
use Rattle.std.specs.Prelude.{IfOk, nat_le, ◌==◌}
use Rattle.std.specs.List.{AllByRecursion, list_any}
use Rattle.std.specs.Str.{bytes_eq}
use Rattle.std.proofs.lemmas.Bool.{cond_both, and_parts, leb-true, ltb-true, ltb-false}
use Rattle.std.proofs.lemmas.List.{length-append, length-map}
use Rattle.std.proofs.lemmas.List.Elements.{recursion_from_All}
use Rattle.bs_bits.specs.Lines.{is_visible}
use Rattle.bs_lex.specs.declared.token.Token.{Token}
use Rattle.bs_lex.specs.declared.token.Piece.{Piece}
use Rattle.bs_lex.specs.declared.token.Piece.TheVariants.{Passed, Made, Bad}
use Rattle.bs_lex.specs.Placing.{token_text}
use Rattle.bs_lex.specs.Tokens.{first, piece_at, tokens_from, tokens_of, with_token}
use Rattle.bs_lex.specs.declared.limits.TheConstants.{MAX_BYTES}
use Rattle.bs_lex.specs.declared.number_limits.TheConstants.{GREAT}
use Rattle.bs_lex.specs.Lexemes.{end_of, is_escaped, is_great, is_name, lexeme_of, lexemes_of, name_text, names_from, names_of, spelling, token_sort, with_name, without_zeros}
use Rattle.bs_verilog.proofs.SpellingLemmas.{IsVisible, IsVisibleToken, table_is_visible, text_is_visible}
use Rattle.bs_flat_meaning.specs.Counts.{sum_of}
use Rattle.bs_flat_meaning.proofs.CountLemmas.{sum_append}
use Rattle.bs_flat_meaning.proofs.HeaderLemmas.{all_mapped}
use Rattle.bs_flat_meaning.proofs.MemberLemmas.{Member, all_member, all_of, filtered, mapped}
use Rattle.bs_flat_meaning.proofs.NameLemmas.{names_apart}
use Rattle.bs_flat_meaning.proofs.NumberLemmas.{Apart}
use Rattle.bs_flat_modules.specs.Texts.{IsText, TextsHaveFewLexemes}

-- ---- tokens stand side by side

abbrev token_size : List ℕ → Token → ℕ
token_size source t = length (token_text source t)

-- tokens that begin in the source, are no more than so many bytes, and have no more than these together
pub record AreIn (source : List ℕ) (room : ℕ) (ts : List Token) : Type 0 where
  pub few : length ts ≤ room
  pub begin : AllByRecursion (λ t. t.start < length source) ts
  pub fill : sum_of (token_size source) ts ≤ room

none_in : (source : List ℕ) (room : ℕ) → AreIn source room []
unfolding sum_of
none_in source room = record { few = omega arith; begin = tt; fill = omega arith }

one_in : (source : List ℕ) (room more : ℕ) (t : Token) (ts : List Token) → t.start < length source → room < more
    → token_size source t + room ≤ more → AreIn source room ts → AreIn source more (t ∷ ts)
unfolding sum_of
one_in source room more t ts lt one fits a =
    record { few = omega (arith, one, a.few); begin = (lt, a.begin); fill = omega (arith, fits, a.fill) }

if_one : (source : List ℕ) (room more : ℕ) (t : Token) (r : Result (List Token) ℕ) → t.start < length source → room < more
    → token_size source t + room ≤ more → IfOk r (AreIn source room) → IfOk (with_token t r) (AreIn source more)
if_one source room more t (Ok ts) lt one fits h = one_in source room more t ts lt one fits h
if_one source room more t (Err at) lt one fits h = tt

if_more : (source : List ℕ) (room more : ℕ) (r : Result (List Token) ℕ) → room ≤ more → IfOk r (AreIn source room) → IfOk r (AreIn source more)
if_more source room more (Ok ts) le a = record { few = omega (arith, le, a.few); begin = a.begin; fill = omega (arith, le, a.fill) }
if_more source room more (Err at) le a = tt

next : (source : List ℕ) (at c : ℕ) (text : List ℕ) → drop at source ≡ c ∷ text → drop (at + 1) source ≡ text
next source at c text d = sym (drop-drop 1 at source) ∙ ap (drop 1) d

tokens_in : (source text : List ℕ) (at skip : ℕ) → drop at source ≡ text → IfOk (tokens_from at skip text) (AreIn source (length text - skip))
unfolding tokens_from
tokens_in source [] at zero d = none_in source 0
tokens_in source [] at (suc skip) d = none_in source (0 - suc skip)
tokens_in source (c ∷ text) at (suc skip) d =
    if_more source (length text - skip) (length (c ∷ text) - suc skip) (tokens_from (at + 1) skip text) (omega arith)
    (tokens_in source text (at + 1) skip (next source at c text d))
tokens_in source (c ∷ text) at zero d =
    by (piece_at (c ∷ text)) (λ skip. tokens_in source text (at + 1) skip (next source at c text d))
  where
    by : (p : Piece) → ((skip : ℕ) → IfOk (tokens_from (at + 1) skip text) (AreIn source (length text - skip)))
        → IfOk (elim p [
          | Passed size ↦ tokens_from (at + 1) (size - 1) text
          | Made kind size ↦ with_token (record { kind = kind; start = at; stop = at + size }) (tokens_from (at + 1) (size - 1) text)
          | Bad ahead ↦ Err (at + ahead)
        ]) (AreIn source (length (c ∷ text) - 0))
    by (Passed size) later =
        if_more source (length text - (size - 1)) (length (c ∷ text) - 0) (tokens_from (at + 1) (size - 1) text) (omega arith) (later (size - 1))
    by (Made kind size) later =
        let long : length source - at ≡ length (c ∷ text) = sym (length-drop at source) ∙ ap length d in
        let span : at + size - at ≡ size = omega arith in
        let bytes : length (take (at + size - at) (drop at source)) ≡ min size (length (c ∷ text)) =
        length-take (at + size - at) (drop at source) ∙ (ap (λ n. min n (length (drop at source))) span ∙ ap (λ (l : List ℕ). min size (length l)) d) in
        if_one source (length text - (size - 1)) (length (c ∷ text) - 0) (record { kind = kind; start = at; stop = at + size })
        (tokens_from (at + 1) (size - 1) text) (omega (arith, long)) (omega arith) (omega (arith, bytes)) (later (size - 1))
    by (Bad ahead) later = tt

pub text_in : (source : List ℕ) (tokens : List Token) → tokens_of source ≡ Ok tokens → AreIn source (length source) tokens
text_in source tokens e =
    subst (λ (r : Result (List Token) ℕ). IfOk r (AreIn source (length source))) e
    (if_more source (length source - 0) (length source) (tokens_of source) (omega arith) (tokens_in source source 0 0 refl))

-- ---- lexemes

lexeme_count : (source : List ℕ) (tokens : List Token) → length (lexemes_of source tokens) ≡ length tokens + 1
unfolding lexemes_of
lexeme_count source tokens =
    let lexeme = lexeme_of (names_of source tokens) source in
    length-append (map lexeme tokens) (end_of source ∷ []) ∙ ap (λ n. n + 1) (length-map tokens lexeme)

pub texts_have_few_lexemes : TextsHaveFewLexemes
texts_have_few_lexemes source tokens text =
    omega (arith, lexeme_count source tokens, (text_in source tokens text.are).few, text.short)

-- ---- names are no longer than their tokens

without_shorter : (text : List ℕ) → length (without_zeros text) ≤ length text
unfolding without_zeros
without_shorter [] = omega arith
without_shorter (c ∷ text) =
    cond_both (c == 48) (without_zeros text) (c ∷ text) (λ l. length l ≤ length (c ∷ text)) (λ _. omega (arith, without_shorter text)) (λ _. omega arith)

spelling_shorter : (source : List ℕ) (t : Token) → length (spelling source t) ≤ token_size source t
spelling_shorter source t = by (is_escaped t.kind)
  where
    by : (b : Bool) → length (cond b (drop 1 (token_text source t)) (token_text source t)) ≤ token_size source t
    by true = omega (arith, length-drop 1 (token_text source t))
    by false = omega arith

with_bytes : (names : List (List ℕ)) (name : List ℕ) (n : ℕ) → length name ≤ n → sum_of length (with_name names (Some name)) ≤ sum_of length names + n
unfolding sum_of
with_bytes names name n le =
    cond_both (list_any (bytes_eq name) names) names (names ++ name ∷ []) (λ l. sum_of length l ≤ sum_of length names + n) (λ _. omega arith)
    (λ _. omega (arith, sum_append length names (name ∷ []), le))

name_bytes : (names : List (List ℕ)) (source : List ℕ) (t : Token)
    → sum_of length (with_name names (name_text source t)) ≤ sum_of length names + token_size source t
unfolding name_text
name_bytes names source t = by (is_name (token_sort source t)) (is_great (token_sort source t))
  where
    text : List ℕ
    text = spelling source t

    by : (b c : Bool) → sum_of length (with_name names (cond b (Some text) (cond c (Some (without_zeros text)) None)))
        ≤ sum_of length names + token_size source t
    by true c = with_bytes names text (token_size source t) (spelling_shorter source t)
    by false true = with_bytes names (without_zeros text) (token_size source t) (omega (arith, without_shorter text, spelling_shorter source t))
    by false false = omega arith

names_bytes : (names : List (List ℕ)) (source : List ℕ) (ts : List Token)
    → sum_of length (names_from names source ts) ≤ sum_of length names + sum_of (token_size source) ts
unfolding names_from sum_of
names_bytes names source [] = omega arith
names_bytes names source (t ∷ ts) =
    omega (arith, names_bytes (with_name names (name_text source t)) source ts, name_bytes names source t)

-- ---- few names have one byte

apart_filter : {X : Type 0} (p : X → Bool) (xs : List X) → Apart xs → Apart (filter p xs)
apart_filter p [] a = tt
apart_filter {X} p (x ∷ xs) a =
    cond_both (p x) (x ∷ filter p xs) (filter p xs) Apart (λ _. ((λ m. a.0 (filtered p x xs m).0), apart_filter p xs a.1)) (λ _. apart_filter p xs a.1)

apart_map : {X Y : Type 0} (f : X → Y) (xs : List X) → Apart xs → ((x y : X) → Member x xs → Member y xs → f x ≡ f y → x ≡ y) → Apart (map f xs)
apart_map f [] a g = tt
apart_map {X} f (x ∷ xs) a g = (
  λ m.
      let k = mapped f (f x) xs m in
      a.0 (subst (λ (y : X). Member y xs) (sym (g x k.0 (inl refl) (inr k.1) k.2)) k.1),
  apart_map f xs a.1 (λ y z l r. g y z (inr l) (inr r)),
)

abbrev AreBelow : ℕ → List ℕ → Type 0
AreBelow n ks = AllByRecursion (λ k. k < n) ks

-- the numbers below a number
abbrev less : ℕ → List ℕ → List ℕ
less n ks = filter (λ k. nat_lt k n) ks

none_left : (n : ℕ) (ks : List ℕ) → AreBelow (suc n) ks → (Member n ks → ⊥) → length ks ≤ length (less n ks)
none_left n [] b m = omega arith
none_left n (k ∷ ks) b m = by (nat_lt k n) refl (none_left n ks b.1 (λ r. m (inr r)))
  where
    by : (t : Bool) → nat_lt k n ≡ t → length ks ≤ length (less n ks) → length (k ∷ ks) ≤ length (cond t (k ∷ less n ks) (less n ks))
    by true e le = omega (arith, le)
    by false e le =
        let same : n ≡ k = omega (arith, ltb-false k n e, b.0) in
        absurd (m (inl same))

one_left : (n : ℕ) (ks : List ℕ) → AreBelow (suc n) ks → Apart ks → length ks ≤ length (less n ks) + 1
one_left n [] b a = omega arith
one_left n (k ∷ ks) b a = by (nat_lt k n) refl (one_left n ks b.1 a.1)
  where
    by : (t : Bool) → nat_lt k n ≡ t → length ks ≤ length (less n ks) + 1 → length (k ∷ ks) ≤ length (cond t (k ∷ less n ks) (less n ks)) + 1
    by true e le = omega (arith, le)
    by false e le =
        let same : n ≡ k = omega (arith, ltb-false k n e, b.0) in
        omega (arith, none_left n ks b.1 (λ m. a.0 (subst (λ (j : ℕ). Member j ks) same m)))

-- numbers that are apart are no more than there are below a bound
few_numbers : (n : ℕ) (ks : List ℕ) → AreBelow n ks → Apart ks → length ks ≤ n
few_numbers zero [] b a = omega arith
few_numbers zero (k ∷ ks) b a = absurd (omega (arith, b.0))
few_numbers (suc n) ks b a =
    let below : AreBelow n (less n ks) = all_of (λ k. k < n) (less n ks) (λ k m. ltb-true k n (filtered (λ j. nat_lt j n) k ks m).1) in
    omega (arith, one_left n ks b a, few_numbers n (less n ks) below (apart_filter (λ k. nat_lt k n) ks a))

abbrev is_short : List ℕ → Bool
is_short name = nat_lt (length name) 2

two_bytes : (names : List (List ℕ)) → 2 * length names ≤ sum_of length names + 2 * length (filter is_short names)
unfolding sum_of
two_bytes [] = omega arith
two_bytes (n ∷ ns) = by (is_short n) refl (two_bytes ns)
  where
    by : (t : Bool) → is_short n ≡ t → 2 * length ns ≤ sum_of length ns + 2 * length (filter is_short ns)
        → 2 * length (n ∷ ns) ≤ (length n + sum_of length ns) + 2 * length (cond t (n ∷ filter is_short ns) (filter is_short ns))
    by true e le = omega (arith, le)
    by false e le = omega (arith, le, ltb-false (length n) 2 e)

visible_first : (c : ℕ) (text : List ℕ) → IsVisible (c ∷ text) → (33 ≤ c) × (c ≤ 126)
visible_first c text v =
    let p = and_parts (nat_le 33 c) (nat_le c 126) (and_parts (nat_le 33 c && nat_le c 126) (is_visible text) v).0 in
    (leb-true 33 c p.0, leb-true c 126 p.1)

first_below : (name : List ℕ) → IsVisible name → first name < 127
first_below [] v = omega arith
first_below (c ∷ text) v = omega (arith, (visible_first c text v).1)

one_byte : (a b : List ℕ) → length a < 2 → length b < 2 → IsVisible a → IsVisible b → first a ≡ first b → a ≡ b
one_byte [] [] la lb va vb e = refl
one_byte [] (d ∷ b) la lb va vb e = absurd (omega (arith, e, (visible_first d b vb).0))
one_byte (c ∷ a) [] la lb va vb e = absurd (omega (arith, e, (visible_first c a va).0))
one_byte (c ∷ []) (d ∷ []) la lb va vb e = ap (λ n. n ∷ []) e
one_byte (c ∷ []) (d ∷ x ∷ b) la lb va vb e = absurd (omega (arith, lb))
one_byte (c ∷ x ∷ a) (d ∷ b) la lb va vb e = absurd (omega (arith, la))

few_short : (names : List (List ℕ)) → Apart names → AllByRecursion IsVisible names → length (filter is_short names) ≤ 127
few_short names a v =
    let short = filter is_short names in
    let kept : (n : List ℕ) → Member n short → (length n < 2) × IsVisible n =
    λ n m.
    let f = filtered is_short n names m in
    (ltb-true (length n) 2 f.1, all_member IsVisible names n v f.0) in
    let below : AreBelow 127 (map first short) =
    all_mapped (λ k. k < 127) first short (all_of (λ n. first n < 127) short (λ n m. first_below n (kept n m).1)) in
    let apart : Apart (map first short) =
    apart_map first short (apart_filter is_short names a)
    (λ x y l r e. one_byte x y (kept x l).0 (kept y r).0 (kept x l).1 (kept y r).1 e) in
    omega (arith, few_numbers 127 (map first short) below apart, length-map short first)

-- ---- few names

names_visible : (source : List ℕ) (tokens : List Token) → tokens_of source ≡ Ok tokens → AllByRecursion IsVisible (names_of source tokens)
names_visible source tokens e =
    recursion_from_All IsVisible (names_of source tokens)
    (table_is_visible source tokens (subst (λ (r : Result (List Token) ℕ). IfOk r (All (IsVisibleToken source))) e (text_is_visible source)))

no_bytes : sum_of {A = List ℕ} length [] ≡ 0
unfolding sum_of
no_bytes = refl

pub few_names : (source : List ℕ) (tokens : List Token) → IsText source tokens → length (names_of source tokens) + GREAT < MAX_BYTES
few_names source tokens text =
    let names = names_of source tokens in
    let bytes = names_bytes [] source tokens in
    let within = (text_in source tokens text.are).fill in
    let short = few_short names (names_apart source tokens) (names_visible source tokens text.are) in
    omega (arith, two_bytes names, bytes, within, short, text.short, no_bytes)
