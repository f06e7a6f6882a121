-- The flip-flops of an order, line by line, and the bits of a state, one by one.
use Rattle.std.proofs.Common.{◌≡◌, ℕ, ◌+◌, Bool, List, [], ◌∷◌, ◌++◌, map}
use Rattle.std.proofs.Common.{Result, Ok, Err, ap, sym, ◌∙◌, ◌⊎◌, inl, inr}
use Rattle.std.specs.List.{range_with_len}
use Rattle.std.proofs.lemmas.List.{map-append}
use Rattle.bs_bits.specs.Lines.{lines_of}
use Rattle.bs_bits.specs.Reading.{◌>>=◌}
use Rattle.bs_bits.proofs.RangeLemmas.{range_push}
use Rattle.bs_net_names.specs.Keys.{KeyParts}
use Rattle.bs_inspect_netlist.specs.declared.fault.OrderFault.{OrderFault}
use Rattle.bs_inspect_netlist.specs.declared.fault.OrderFault.TheVariants.{NoMemory}
use Rattle.bs_inspect_netlist.specs.Order.{is_unlisted, listed_at, listed_from, pattern_bit}

-- ---- lines

abbrev Read : Type 0
Read = Result (List ℕ) OrderFault

abbrev behind : List KeyParts → List ℕ → List (List ℕ) → Result ℕ OrderFault → Read
behind flops earlier texts r = r >>= λ flop. listed_from flops (earlier ++ flop ∷ []) texts

pub line_more : (all : Read) (flops : List KeyParts) (earlier : List ℕ) (rest text more : List ℕ) (flop : ℕ) →
    all ≡ listed_from flops earlier (lines_of rest) → lines_of rest ≡ text ∷ lines_of more → listed_at flops earlier text ≡ Ok flop →
    all ≡ listed_from flops (earlier ++ flop ∷ []) (lines_of more)
line_more all flops earlier rest text more flop is cut ok =
    is ∙ (ap (listed_from flops earlier) cut ∙ ap (behind flops earlier (lines_of more)) ok)

pub line_faulty : (all : Read) (flops : List KeyParts) (earlier : List ℕ) (rest text more : List ℕ) (fault : OrderFault) →
    all ≡ listed_from flops earlier (lines_of rest) → lines_of rest ≡ text ∷ lines_of more →
    (fault ≡ NoMemory) ⊎ (listed_at flops earlier text ≡ Err fault) → (fault ≡ NoMemory) ⊎ (all ≡ Err fault)
line_faulty all flops earlier rest text more fault is cut (inl want) = inl want
line_faulty all flops earlier rest text more fault is cut (inr err) =
    inr (is ∙ (ap (listed_from flops earlier) cut ∙ ap (behind flops earlier (lines_of more)) err))

pub lines_end : (all : Read) (flops : List KeyParts) (earlier : List ℕ) (rest : List ℕ) →
    all ≡ listed_from flops earlier (lines_of rest) → lines_of rest ≡ [] → all ≡ Ok earlier
lines_end all flops earlier rest is none = is ∙ ap (listed_from flops earlier) none

-- ---- a state

-- a bit more
pub bits_more : (order : List ℕ) (pattern state : List Bool) (n : ℕ) → state ≡ map (pattern_bit order pattern) (range_with_len 0 n) →
    state ++ pattern_bit order pattern n ∷ [] ≡ map (pattern_bit order pattern) (range_with_len 0 (n + 1))
bits_more order pattern state n e =
    ap (λ (bs : List Bool). bs ++ pattern_bit order pattern n ∷ []) e
    ∙ (sym (map-append (pattern_bit order pattern) (range_with_len 0 n) (n ∷ [])) ∙ ap (map (pattern_bit order pattern)) (sym (range_push n)))

-- a flip-flop more of which it is said whether it is listed
pub unlisted_more : (order : List ℕ) (free : List Bool) (n : ℕ) → free ≡ map (is_unlisted order) (range_with_len 0 n) →
    free ++ is_unlisted order n ∷ [] ≡ map (is_unlisted order) (range_with_len 0 (n + 1))
unlisted_more order free n e =
    ap (λ (bs : List Bool). bs ++ is_unlisted order n ∷ []) e
    ∙ (sym (map-append (is_unlisted order) (range_with_len 0 n) (n ∷ [])) ∙ ap (map (is_unlisted order)) (sym (range_push n)))
