-- The names of a text are apart, and each name that the grammar sees has a number among them.
use Rattle.std.proofs.Common.{◌≡◌, ℕ, zero, suc, ◌+◌, ◌<◌, Bool, true, false, cond, ◌||◌, List, [], ◌∷◌, ◌++◌, map, length, get_or, refl, arith, subst}
use Rattle.std.proofs.Common.{ap, sym, ◌∙◌, ⊎_elim, Option, Some, None}
use Rattle.std.specs.Prelude.{unwrap_or}
use Rattle.std.specs.List.{AllByRecursion, list_any}
use Rattle.std.specs.Str.{bytes_eq}
use Rattle.std.specs.Cmp.Lexicographic.{bytes_decides}
use Rattle.std.proofs.lemmas.Bool.{true≢false, false≢true}
use Rattle.bs_net.specs.Names.{with_key, number_of}
use Rattle.bs_net.proofs.NamesLemmas.{number_within}
use Rattle.bs_lex.specs.declared.token.Token.{Token}
use Rattle.bs_lex.specs.declared.lexeme.Name.{Name}
use Rattle.bs_lex.specs.declared.lexeme.Sort.{Sort}
use Rattle.bs_lex.specs.declared.lexeme.Sort.TheVariants as sorts
use Rattle.bs_lex.specs.declared.number_limits.TheConstants.{GREAT}
use Rattle.bs_lex.specs.Packed.{Lexeme}
use Rattle.bs_lex.specs.Lexemes.{is_name, is_great, spelling, token_sort, name_text, with_name, names_from, names_of, number_in, numbered_sort}
use Rattle.bs_lex.specs.Lexemes.{lexeme_of, lexemes_of, end_of, without_zeros}
use Rattle.bs_lex.proofs.NamingLemmas.{numbered, stays_from}
use Rattle.bs_verilog_scope.specs.Keys.{text}
use Rattle.bs_flat_meaning.proofs.MemberLemmas.{Member, all_member, member_at, member_map, mapped}
use Rattle.bs_flat_meaning.proofs.NumberLemmas.{Apart, apart_append}

-- ---- no name stands twice

missing : (key : List ℕ) (names : List (List ℕ)) → list_any (bytes_eq key) names ≡ false → Member key names → ⊥
missing key [] e m = m
missing key (n ∷ ns) e m = by (bytes_eq key n) refl e m (missing key ns)
  where
    by : (b : Bool) → bytes_eq key n ≡ b → (b || list_any (bytes_eq key) ns) ≡ false → Member key (n ∷ ns)
        → (list_any (bytes_eq key) ns ≡ false → Member key ns → ⊥) → ⊥
    by true is x m rest = true≢false x
    by false is x m rest =
        ⊎_elim (λ (same : key ≡ n). false≢true (sym is ∙ (bytes_decides key n).1 same)) (λ (l : Member key ns). rest x l) m

apart_key : (names : List (List ℕ)) (key : List ℕ) → Apart names → Apart (with_key names key)
apart_key names key a = by (list_any (bytes_eq key) names) refl
  where
    by : (b : Bool) → list_any (bytes_eq key) names ≡ b → Apart (cond b names (names ++ key ∷ []))
    by true e = a
    by false e =
        apart_append names (key ∷ []) a ((λ m. m), tt)
        (λ x l r. ⊎_elim (λ (same : x ≡ key). missing key names e (subst (λ (k : List ℕ). Member k names) same l)) (λ (x : ⊥). x) r)

apart_name : (names : List (List ℕ)) (o : Option (List ℕ)) → Apart names → Apart (with_name names o)
apart_name names (Some key) a = apart_key names key a
apart_name names None a = a

apart_from : (names : List (List ℕ)) (source : List ℕ) (ts : List Token) → Apart names → Apart (names_from names source ts)
unfolding names_from
apart_from names source [] a = a
apart_from names source (t ∷ ts) a = apart_from (with_name names (name_text source t)) source ts (apart_name names (name_text source t) a)

pub names_apart : (source : List ℕ) (tokens : List Token) → Apart (names_of source tokens)
names_apart source tokens = apart_from [] source tokens tt

-- names at two places differ
one_place : (names : List (List ℕ)) (i j : ℕ) → Apart names → i < length names → j < length names → get_or names i [] ≡ get_or names j [] → i ≡ j
one_place [] i j a li lj e = absurd (omega (arith, li))
one_place (n ∷ ns) zero zero a li lj e = refl
one_place (n ∷ ns) zero (suc j) a li lj e =
    absurd (a.0 (subst (λ (k : List ℕ). Member k ns) (sym e) (member_at ns j [] (omega (arith, lj)))))
one_place (n ∷ ns) (suc i) zero a li lj e = absurd (a.0 (subst (λ (k : List ℕ). Member k ns) e (member_at ns i [] (omega (arith, li)))))
one_place (n ∷ ns) (suc i) (suc j) a li lj e =
    let same = one_place ns i j a.1 (omega (arith, li)) (omega (arith, lj)) e in
    omega (arith, same)

-- a name whose number is below the count of names
abbrev pub IsSmall : ℕ → Name → Type 0
IsSmall count n = n.id < count

abbrev pub AreSmall : ℕ → List Name → Type 0
AreSmall count ns = AllByRecursion (IsSmall count) ns

abbrev pub ids : List Name → List ℕ
ids ns = map (λ (n : Name). n.id) ns

-- different numbers are different texts
pub texts_apart : (table : List (List ℕ)) (ns : List Name) → Apart table → AreSmall (length table) ns → Apart (ids ns) → Apart (map (text table) ns)
texts_apart table [] a small once = tt
texts_apart table (n ∷ ns) a small once = (
  λ m.
      let x = mapped (text table) (text table n) ns m in
      let same = one_place table n.id x.0.id a small.0 (all_member (IsSmall (length table)) ns x.0 small.1 x.1) x.2 in
      once.0 (subst (λ k. Member k (ids ns)) (sym same) (member_map (λ (k : Name). k.id) x.0 ns x.1)),
  texts_apart table ns a small.1 once.1,
)

-- ---- names have numbers

-- a lexeme whose number is below the count of names, where it is a name
pub record IsNumbered (count : ℕ) (t : Lexeme) : Type 0 where
  pub below : is_name t.sort ≡ true → t.name < count

pub all_append : {X : Type 0} (P : X → Type 0) (xs ys : List X) → AllByRecursion P xs → AllByRecursion P ys → AllByRecursion P (xs ++ ys)
all_append P [] ys a b = b
all_append P (x ∷ xs) ys a b = (a.0, all_append P xs ys a.1 b)

was_name : (number : ℕ) (sort : Sort) → is_name (numbered_sort number sort) ≡ true → is_name sort ≡ true
was_name number sort h = by (is_great sort) h
  where
    by : (b : Bool) → is_name (cond b (sorts.Digits (GREAT + number)) sort) ≡ true → is_name sort ≡ true
    by true e = absurd (false≢true e)
    by false e = e

is_text : (source : List ℕ) (t : Token) → is_name (token_sort source t) ≡ true → name_text source t ≡ Some (spelling source t)
unfolding name_text
is_text source t e =
    ap (λ b. cond b (Some (spelling source t)) (cond (is_great (token_sort source t)) (Some (without_zeros (spelling source t))) None)) e

number_below : (names all : List (List ℕ)) (source : List ℕ) (ts : List Token) (key : List ℕ) (o : Option (List ℕ)) → o ≡ Some key
    → names_from (with_name names o) source ts ≡ all → number_in all o < length all
number_below names all source ts key o named e =
    let has = numbered names key in
    let these : names_from (with_key names key) source ts ≡ all = sym (ap (λ p. names_from (with_name names p) source ts) named) ∙ e in
    let found : number_of all key ≡ Some has.0 = sym (ap (λ ns. number_of ns key) these) ∙ stays_from (with_key names key) source ts key has.0 has.1 in
    let number : number_in all o ≡ has.0 = ap (number_in all) named ∙ ap (λ p. unwrap_or p 0) found in
    omega (arith, number, number_within all key has.0 found)

tokens_numbered : (names all : List (List ℕ)) (source : List ℕ) (ts : List Token) → names_from names source ts ≡ all
    → AllByRecursion (IsNumbered (length all)) (map (lexeme_of all source) ts)
unfolding names_from
tokens_numbered names all source [] e = tt
tokens_numbered names all source (t ∷ ts) e = (
  record {
    below = λ h.
        number_below names all source ts (spelling source t) (name_text source t)
        (is_text source t (was_name (number_in all (name_text source t)) (token_sort source t) h)) e;
  },
  tokens_numbered (with_name names (name_text source t)) all source ts e,
)

pub lexemes_numbered : (source : List ℕ) (tokens : List Token)
    → AllByRecursion (IsNumbered (length (names_of source tokens))) (lexemes_of source tokens)
unfolding lexemes_of
lexemes_numbered source tokens =
    all_append (IsNumbered (length (names_of source tokens))) (map (lexeme_of (names_of source tokens) source) tokens) (end_of source ∷ [])
    (tokens_numbered [] (names_of source tokens) source tokens refl) (record { below = λ e. absurd (false≢true e) }, tt)
