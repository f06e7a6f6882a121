-- What a text is answered with is what is wanted of it: its parts, its one fault, or a ring where any is right; and what is wanted of
-- it is an answer.
use Rattle.std.proofs.Common.{◌≡◌, inl, inr, ℕ, Bool, true, false, List, length, Result, Ok, Err, refl, sym, subst, ap}
use Rattle.std.specs.Prelude.{◌⊎◌, nat_lt, map, MatchResult, if◌then◌else◌}
use Rattle.bs_lex.specs.declared.token.Token.{Token}
use Rattle.bs_lex.specs.Lexemes.{lexemes_of, names_of}
use Rattle.bs_verilog_syntax.specs.Reading.{Rest}
use Rattle.bs_verilog_syntax.specs.declared.fault.VerilogFault.{VerilogFault}
use Rattle.bs_verilog.specs.Netlist.{netlist_text, tokenised}
use Rattle.bs_net.specs.Parts.{Parts}
use Rattle.bs_flat_meaning.specs.declared.fault.FlatFault.{FlatFault}
use Rattle.bs_flat_meaning.specs.declared.fault.FlatFault.TheVariants.{Recursion}
use Rattle.bs_flat_meaning.specs.Connecting.{ReadModule}
use Rattle.bs_flat_meaning.specs.Pieces.{Piece, modules_of}
use Rattle.bs_flat_meaning.specs.Reading.{Answer, ringed, plain, AnswerFor, IsAnswer, TokensAnswer, as_verilog, below_of, flattened, has_ring, name_at}
use Rattle.bs_flat_meaning.specs.Reading.{read_modules, IsRing}
use Rattle.bs_flat_meaning.proofs.RingLemmas.{rings_are_found}
use Rattle.bs_top_files.specs.Refusals.{TextFault, with_one, in_rings, with_fault}
use Rattle.bs_top_files.specs.Readings.{modules_in, one_module, several_modules, text_in, tokens_in}

-- the wanted one is this fault, or any ring and this is one
abbrev IsFaultOf : Result Parts TextFault → FlatFault → Type 0
IsFaultOf wanted fault = (wanted ≡ Err (with_one fault)) ⊎ ((wanted ≡ Err in_rings) × ((names : List (List ℕ)) × (fault ≡ Recursion names)))

abbrev pub IsRightFault : List ℕ → FlatFault → Type 0
IsRightFault bytes fault = IsFaultOf (text_in bytes) fault

abbrev IsRight : Result Parts FlatFault → Result Parts TextFault → Type 0
IsRight result wanted = MatchResult result (λ raw. wanted ≡ Ok raw) (IsFaultOf wanted)

right_same : (r result : Result Parts FlatFault) → result ≡ r → IsRight result (with_fault r)
right_same r (Ok raw) e = sym (ap with_fault e)
right_same r (Err fault) e = inl (sym (ap with_fault e))

-- a ring of the modules that were read is found
ring_found : (ms : List Piece) (ks : List ReadModule) (ring : List ℕ) → IsRing ms ks ring → has_ring ms ks ≡ true
unfolding has_ring
ring_found ms ks ring is = rings_are_found (below_of ms ks) ring is

right_modules : (table : List (List ℕ)) (ms : List Piece) (ks : List ReadModule) (result : Result Parts FlatFault) → Answer table ms ks result →
    IsRight result (modules_in table ms ks)
unfolding modules_in
right_modules table ms ks _ (ringed ring is) = rw (ring_found ms ks ring is) (inr (refl, (map (name_at table ms) ring, refl)))
right_modules table ms ks _ (plain none) = rw none (right_same (flattened table ms ks) (flattened table ms ks) refl)

right_several : (table : List (List ℕ)) (ts : Rest) (result : Result Parts FlatFault) → AnswerFor table ts result →
    IsRight result (several_modules table ts)
unfolding several_modules
right_several table ts result a = by (read_modules table ts) a
  where
    by : (r : Result (List ReadModule) FlatFault) →
        elim r as (λ _. Type 0) [ Ok ks ↦ Answer table (modules_of ts) ks result | Err fault ↦ (result ≡ Err fault) ] →
        IsRight result (elim r as (λ _. Result Parts TextFault) [ Ok ks ↦ modules_in table (modules_of ts) ks | Err fault ↦ Err (with_one fault) ])
    by (Ok ks) a = right_modules table (modules_of ts) ks result a
    by (Err fault) e = right_same (Err fault) result e

right_tokens : (few : Bool) (bytes : List ℕ) (tokens : List Token) (result : Result Parts FlatFault) → TokensAnswer few bytes tokens result →
    IsRight result (tokens_in few bytes tokens)
right_tokens true bytes tokens result a = right_same (as_verilog (netlist_text bytes)) result a
right_tokens false bytes tokens result a = right_several (names_of bytes tokens) (lexemes_of bytes tokens) result a

right_text : (bytes : List ℕ) (result : Result Parts FlatFault) → IsAnswer bytes result → IsRight result (text_in bytes)
unfolding text_in
right_text bytes result a = by (tokenised bytes) a
  where
    by : (t : Result (List Token) VerilogFault) →
        elim t as
        (λ _. Type 0) [
          | Err fault ↦ (result ≡ as_verilog (netlist_text bytes))
          | Ok tokens ↦ TokensAnswer (nat_lt (length (modules_of (lexemes_of bytes tokens))) 2) bytes tokens result
        ] →
        IsRight result (elim t as (λ _. Result Parts TextFault) [
          | Err fault ↦ one_module bytes
          | Ok tokens ↦ tokens_in (nat_lt (length (modules_of (lexemes_of bytes tokens))) 2) bytes tokens
        ])
    by (Err fault) e = right_same (as_verilog (netlist_text bytes)) result e
    by (Ok tokens) a = right_tokens (nat_lt (length (modules_of (lexemes_of bytes tokens))) 2) bytes tokens result a

-- the parts of a text's answer are the wanted ones
pub right_parts : (bytes : List ℕ) (raw : Parts) → IsAnswer bytes (Ok raw) → text_in bytes ≡ Ok raw
right_parts bytes raw is = right_text bytes (Ok raw) is

-- the fault of a text's answer is the wanted one, or a ring where any is right
pub right_faults : (bytes : List ℕ) (fault : FlatFault) → IsAnswer bytes (Err fault) → IsRightFault bytes fault
right_faults bytes fault is = right_text bytes (Err fault) is

-- ---- and the other way round

abbrev pub read_as : Parts → Result Parts TextFault
read_as r = Ok r

abbrev pub flat_as : Parts → Result Parts FlatFault
flat_as r = Ok r

read_same : (a b : Parts) → read_as a ≡ read_as b → a ≡ b
read_same a b h = cc

-- parts are parts before their fault is looked at
pub fault_ok : (r : Result Parts FlatFault) (raw : Parts) → with_fault r ≡ read_as raw → r ≡ flat_as raw
fault_ok (Ok r) raw e = ap flat_as (read_same r raw e)
fault_ok (Err fault) raw e = absurd cc

modules_answer : (table : List (List ℕ)) (ms : List Piece) (ks : List ReadModule) (raw : Parts) → modules_in table ms ks ≡ read_as raw →
    Answer table ms ks (flat_as raw)
unfolding modules_in
modules_answer table ms ks raw e = by (has_ring ms ks) refl e
  where
    by : (ring : Bool) → has_ring ms ks ≡ ring → (if ring then Err in_rings else with_fault (flattened table ms ks)) ≡ read_as raw →
        Answer table ms ks (flat_as raw)
    by true p e = absurd cc
    by false p e = subst (λ r. Answer table ms ks r) (fault_ok (flattened table ms ks) raw e) (plain p)

several_answer : (table : List (List ℕ)) (ts : Rest) (raw : Parts) → several_modules table ts ≡ read_as raw → AnswerFor table ts (flat_as raw)
unfolding several_modules
several_answer table ts raw e = by (read_modules table ts) e
  where
    by : (r : Result (List ReadModule) FlatFault) →
        (elim r as (λ _. Result Parts TextFault) [ Ok ks ↦ modules_in table (modules_of ts) ks | Err fault ↦ Err (with_one fault) ]) ≡ read_as raw →
        elim r as (λ _. Type 0) [ Ok ks ↦ Answer table (modules_of ts) ks (flat_as raw) | Err fault ↦ (flat_as raw ≡ Err fault) ]
    by (Ok ks) e = modules_answer table (modules_of ts) ks raw e
    by (Err fault) e = absurd cc

tokens_answer : (few : Bool) (bytes : List ℕ) (tokens : List Token) (raw : Parts) → tokens_in few bytes tokens ≡ read_as raw →
    TokensAnswer few bytes tokens (flat_as raw)
tokens_answer true bytes tokens raw e = sym (fault_ok (as_verilog (netlist_text bytes)) raw e)
tokens_answer false bytes tokens raw e = several_answer (names_of bytes tokens) (lexemes_of bytes tokens) raw e

-- the wanted parts are an answer of the text
pub parts_answer : (bytes : List ℕ) (raw : Parts) → text_in bytes ≡ read_as raw → IsAnswer bytes (flat_as raw)
unfolding text_in
parts_answer bytes raw e = by (tokenised bytes) e
  where
    by : (t : Result (List Token) VerilogFault) →
        (elim t as (λ _. Result Parts TextFault) [
          | Err fault ↦ one_module bytes
          | Ok tokens ↦ tokens_in (nat_lt (length (modules_of (lexemes_of bytes tokens))) 2) bytes tokens
        ]) ≡ read_as raw →
        elim t as
        (λ _. Type 0) [
          | Err fault ↦ (flat_as raw ≡ as_verilog (netlist_text bytes))
          | Ok tokens ↦ TokensAnswer (nat_lt (length (modules_of (lexemes_of bytes tokens))) 2) bytes tokens (flat_as raw)
        ]
    by (Err fault) e = sym (fault_ok (as_verilog (netlist_text bytes)) raw e)
    by (Ok tokens) e = tokens_answer (nat_lt (length (modules_of (lexemes_of bytes tokens))) 2) bytes tokens raw e
