-- The scopes and the names of a text, one by one.
use Rattle.std.proofs.Common.{◌≡◌, ◌⊎◌, inl, inr, ℕ, ◌≤◌, ◌+◌, List, [], ◌∷◌, ◌++◌, length, map, take, drop, ap, sym, ◌∙◌, slice_get, Some, Result, Ok, Err}
use Rattle.std.specs.Borrow.{Bor}
use Rattle.std.proofs.lemmas.List.{append_assoc, append-nil, map-append, take_all, take_more}
use Rattle.std.proofs.lemmas.Option.{get_or_from_slice_get, slice_get_within}
use Rattle.bs_bits.specs.Reading.{◌>>=◌}
use Rattle.bs_vcd_header.specs.declared.fault.VcdFault.{VcdFault}
use Rattle.bs_vcd_header.specs.declared.fault.VcdFault.TheVariants.{NoMemory}
use Rattle.bs_vcd_header.specs.declared.header.HeaderState.{HeaderState as CodeHeaderState}
use Rattle.bs_vcd_header.specs.declared.header.HeaderDeclarations.{HeaderDeclarations as CodeHeaderDeclarations}
use Rattle.bs_vcd_header.specs.declared.header.Variable.{Variable as CodeVariable}
use Rattle.bs_vcd_header.specs.declared.range.NameWithBits.{NameWithBits as CodeNameWithBits}
use Rattle.bs_vcd_header.specs.Header.{HeaderDeclarations, Header, declared_in, header_from, nothing_begun, begun_in, shape_in}
use Rattle.bs_vcd_header.specs.Scopes.{declared_of}
use Rattle.bs_vcd_header.specs.Sources.{NameWithBits, named_at, named_in}
use Rattle.bs_vcd_header.specs.Tokens.{tokens_from}

-- what was read of the declarations
abbrev Read : Type 0
Read = Result Header VcdFault

abbrev of_header : Read → Result HeaderDeclarations VcdFault
of_header r = r >>= λ h. Ok h.declared

-- a text whose declarations were read
pub declared_read : (text : List ℕ) (begun : CodeHeaderState) (h : Header) (d now : CodeHeaderDeclarations) → begun_in begun ≡ nothing_begun →
    header_from (begun_in begun) (tokens_from 1 text) ≡ Ok h → h.declared ≡ declared_in d → declared_in now ≡ declared_in d →
    declared_of text ≡ Ok (declared_in now)
declared_read text begun h d now none read is same =
    ap (λ b. of_header (header_from b (tokens_from 1 text))) (sym none) ∙ (ap of_header read ∙ ap Ok (is ∙ sym same))

pub declared_faulty : (text : List ℕ) (begun : CodeHeaderState) (fault : VcdFault) → begun_in begun ≡ nothing_begun →
    (fault ≡ NoMemory) ⊎ (header_from (begun_in begun) (tokens_from 1 text) ≡ Err fault) → (fault ≡ NoMemory) ⊎ (declared_of text ≡ Err fault)
declared_faulty text begun fault none (inl want) = inl want
declared_faulty text begun fault none (inr is) =
    inr (ap (λ b. of_header (header_from b (tokens_from 1 text))) (sym none) ∙ ap of_header is)

-- a path more, behind the first
abbrev texts : List (Bor (List ℕ)) → List (List ℕ)
texts names = map (λ n. n.now) names

pub scopes_none : (paths : List (List ℕ)) → take 1 paths ++ [] ≡ take 1 paths
scopes_none paths = append-nil (take 1 paths)

pub scopes_more : (paths : List (List ℕ)) (names : List (Bor (List ℕ))) (name : Bor (List ℕ)) (i : ℕ) →
    take 1 paths ++ map (λ n. n.now) names ≡ take i paths → slice_get paths i ≡ Some name.now →
    take 1 paths ++ map (λ n. n.now) (names ++ name ∷ []) ≡ take (i + 1) paths
scopes_more paths names name i e is =
    ap (λ (t : List (List ℕ)). take 1 paths ++ t) (map-append (λ (s : Bor (List ℕ)). s.now) names (name ∷ []))
    ∙ (sym (append_assoc (take 1 paths) (texts names) (name.now ∷ []))
    ∙ (ap (λ (t : List (List ℕ)). t ++ name.now ∷ []) e
    ∙ (ap (λ (k : List ℕ). take i paths ++ k ∷ []) (sym (get_or_from_slice_get paths i name.now name.now is))
    ∙ sym (take_more paths i name.now (slice_get_within paths i name.now is)))))

tail_of : (paths rest : List (List ℕ)) → take 1 paths ++ rest ≡ paths → rest ≡ drop 1 paths
tail_of [] rest e = e
tail_of (p ∷ ps) rest e = ap (λ (t : List (List ℕ)). drop 1 t) e

pub scopes_end : (paths : List (List ℕ)) (names : List (Bor (List ℕ))) (i : ℕ) → length paths ≤ i →
    take 1 paths ++ map (λ n. n.now) names ≡ take i paths → map (λ n. n.now) names ≡ drop 1 paths
scopes_end paths names i le e = tail_of paths (texts names) (e ∙ take_all i paths le)

pub own_name : (v : CodeVariable) (n : CodeNameWithBits) → named_at n ≡ named_in (shape_in v) → n.name.now ≡ (named_in (shape_in v)).name
own_name v n e = ap (λ (m : NameWithBits). m.name) e
