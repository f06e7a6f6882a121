-- What the lexemes of a text are answered with is what the text is answered with.
use Rattle.std.proofs.Common.{◌≡◌, ◌⊎◌, ◌≤◌, inl, inr, ⊎_elim, ℕ, Bool, true, false, List, length, refl, subst, ap, sym, ◌∙◌, Result, Ok, Err}
use Rattle.std.specs.Prelude.{nat_lt}
use Rattle.std.proofs.lemmas.Bool.{false≢true}
use Rattle.bs_bits.specs.Reading.{◌>>=◌, Answers}
use Rattle.bs_net.specs.Parts.{Parts}
use Rattle.bs_net.specs.declared.raw.Raw.{Raw}
use Rattle.bs_net.specs.Netlist.{parts_of}
use Rattle.bs_lex.specs.declared.limits.TheConstants.{MAX_BYTES}
use Rattle.bs_lex.specs.declared.token.Token.{Token}
use Rattle.bs_lex.specs.Tokens.{tokens_of}
use Rattle.bs_lex.specs.Packed.{Lexeme}
use Rattle.bs_lex.specs.Lexemes.{lexed, lexemes_of, names_of}
use Rattle.bs_lex.specs.declared.fault.LexFault.{LexFault}
use Rattle.bs_lex.specs.declared.fault.LexFault.TheVariants.{BadByte, NoMemory as out_of_memory}
use Rattle.bs_verilog_syntax.specs.declared.fault.VerilogFault.{VerilogFault}
use Rattle.bs_verilog_syntax.specs.declared.fault.VerilogFault.TheVariants.{Syntax}
use Rattle.bs_verilog.specs.Netlist.{netlist_text, tokenised}
use Rattle.bs_flat_meaning.specs.declared.fault.FlatFault.{FlatFault}
use Rattle.bs_flat_meaning.specs.declared.fault.FlatFault.TheVariants.{NoMemory as want, Verilog}
use Rattle.bs_flat_meaning.specs.Pieces.{modules_of}
use Rattle.bs_flat_meaning.specs.Reading.{IsAnswer, TokensAnswer, AnswerFor, as_verilog}
use Rattle.bs_top_files.specs.Answers.{IsAnswered, IsLexed, IsOfSort, fault_of}
use Rattle.bs_top_files.specs.Modules.{single_of, AreOfText, HasTokens, IsSeverally}

-- ---- the lexemes of a text

abbrev lexed_by : List ℕ → Result (List Token) ℕ → Result (List Lexeme × List (List ℕ)) LexFault
lexed_by source r = elim r as (λ _. Result (List Lexeme × List (List ℕ)) LexFault) [ Ok tokens ↦ Ok (lexemes_of source tokens, names_of source tokens) | Err at ↦ Err (BadByte at) ]

abbrev tokens_by : Result (List Token) ℕ → Result (List Token) VerilogFault
tokens_by r = elim r as (λ _. Result (List Token) VerilogFault) [ Ok tokens ↦ Ok tokens | Err at ↦ Err (Syntax at) ]

abbrev answer_by : List ℕ → Result (List Token) VerilogFault → Result Parts FlatFault → Type 0
answer_by source r result =
    elim r as (λ _. Type 0) [
      | Err fault ↦ (result ≡ as_verilog (netlist_text source))
      | Ok tokens ↦ TokensAnswer (nat_lt (length (modules_of (lexemes_of source tokens))) 2) source tokens result
    ]

abbrev value_or : List Lexeme × List (List ℕ) → Result (List Lexeme × List (List ℕ)) LexFault → List Lexeme × List (List ℕ)
value_or d (Ok x) = x
value_or d (Err e) = d

abbrev is_ok : Result (List Lexeme × List (List ℕ)) LexFault → Bool
is_ok (Ok x) = true
is_ok (Err e) = false

abbrev place_or : ℕ → Result (List Lexeme × List (List ℕ)) LexFault → ℕ
place_or d (Err (BadByte at)) = at
place_or d r = d

has_tokens : (source : List ℕ) (table : List (List ℕ)) (ts : List Lexeme) → lexed source ≡ Ok (ts, table) → HasTokens source table ts
has_tokens source table ts e = by (tokens_of source) refl e
  where
    by : (r : Result (List Token) ℕ) → tokens_of source ≡ r → lexed_by source r ≡ Ok (ts, table) → HasTokens source table ts
    by (Ok tokens) same q =
        record { tokens = tokens; are = same; lexemes = ap (λ r. (value_or (ts, table) r).0) q; names = ap (λ r. (value_or (ts, table) r).1) q }
    by (Err at) same q = absurd (false≢true (ap is_ok q))

pub are_of_text : (source : List ℕ) (table : List (List ℕ)) (ts : List Lexeme) → length source ≤ MAX_BYTES → lexed source ≡ Ok (ts, table) → AreOfText table ts
are_of_text source table ts few e = record { source = source; short = few; has = has_tokens source table ts e }

netlist_by : List ℕ → Result (List Token) VerilogFault → Result Parts VerilogFault
netlist_by source r = r >>= λ tokens. single_of (names_of source tokens) (lexemes_of source tokens)

netlist_is : (source : List ℕ) → netlist_text source ≡ netlist_by source (tokenised source)
unfolding netlist_text netlist_by
netlist_is source = refl

single_is : (source : List ℕ) (tokens : List Token) → tokens_of source ≡ Ok tokens →
    netlist_text source ≡ single_of (names_of source tokens) (lexemes_of source tokens)
unfolding netlist_by
single_is source tokens e = netlist_is source ∙ ap (λ r. netlist_by source (tokens_by r)) e

refused_is : (source : List ℕ) (at : ℕ) → tokens_of source ≡ Err at → netlist_text source ≡ Err (Syntax at)
unfolding netlist_by
refused_is source at e = netlist_is source ∙ ap (λ r. netlist_by source (tokens_by r)) e

-- ---- the answer

abbrev Sorted : Bool → List ℕ → List Token → Result Raw FlatFault → Type 0
Sorted b source tokens (Ok raw) = TokensAnswer b source tokens (Ok (parts_of raw))
Sorted b source tokens (Err fault) = (fault ≡ want) ⊎ TokensAnswer b source tokens (Err fault)

sorted : (source : List ℕ) (tokens : List Token) (b : Bool) (result : Result Raw FlatFault) → tokens_of source ≡ Ok tokens →
    IsOfSort b (names_of source tokens) (lexemes_of source tokens) result → Sorted b source tokens result
sorted source tokens true (Ok raw) e h = sym (ap as_verilog (single_is source tokens e) ∙ h)
sorted source tokens true (Err fault) e h =
    ⊎_elim
    (λ (w : fault ≡ want). inl w)
    (λ (q : as_verilog (single_of (names_of source tokens) (lexemes_of source tokens)) ≡ Err fault). inr (sym (ap as_verilog (single_is source tokens e) ∙ q)))
    h
sorted source tokens false (Ok raw) e h = h
sorted source tokens false (Err fault) e h = h

answered : (source : List ℕ) (tokens : List Token) (result : Result Raw FlatFault) → tokens_of source ≡ Ok tokens →
    Sorted (nat_lt (length (modules_of (lexemes_of source tokens))) 2) source tokens result → IsAnswered source result
answered source tokens (Ok raw) e h = subst (λ r. answer_by source (tokens_by r) (Ok (parts_of raw))) (sym e) h
answered source tokens (Err fault) e h =
    ⊎_elim
    (λ (w : fault ≡ want). inl w)
    (λ q. inr (subst (λ r. answer_by source (tokens_by r) (Err fault)) (sym e) q))
    h

pub lexed_answers : (source : List ℕ) (table : List (List ℕ)) (ts : List Lexeme) (result : Result Raw FlatFault) → lexed source ≡ Ok (ts, table) →
    IsLexed table ts result → IsAnswered source result
lexed_answers source table ts result e h =
    let t = has_tokens source table ts e in
    answered source t.tokens result t.are
    (sorted source t.tokens (nat_lt (length (modules_of (lexemes_of source t.tokens))) 2) result t.are
    (subst (λ n. IsLexed n (lexemes_of source t.tokens) result) (sym t.names) (subst (λ (l : List Lexeme). IsLexed table l result) (sym t.lexemes) h)))

no_tokens : (source : List ℕ) (at : ℕ) → lexed source ≡ Err (BadByte at) → tokens_of source ≡ Err at
no_tokens source at e = by (tokens_of source) refl e
  where
    by : (r : Result (List Token) ℕ) → tokens_of source ≡ r → lexed_by source r ≡ Err (BadByte at) → r ≡ Err at
    by (Ok tokens) same q = absurd (false≢true (sym (ap is_ok q)))
    by (Err other) same q = ap Err (ap (place_or at) q)

pub fault_answers : (source : List ℕ) (fault : LexFault) → (fault ≡ out_of_memory) ⊎ (lexed source ≡ Err fault) → IsAnswered source (Err (fault_of fault))
fault_answers source (BadByte at) (inl w) = absurd (other w)
  where
    is_byte : LexFault → Bool
    is_byte (BadByte n) = true
    is_byte out_of_memory = false

    other : BadByte at ≡ out_of_memory → ⊥
    other e = false≢true (sym (ap is_byte e))
fault_answers source (BadByte at) (inr e) =
    let none = no_tokens source at e in
    inr (subst (λ r. answer_by source (tokens_by r) (Err (Verilog (Syntax at)))) (sym none) (sym (ap as_verilog (refused_is source at none))))
fault_answers source out_of_memory told = inl refl
