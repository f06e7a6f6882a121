-- Variables and inputs, looked at one by one.
use Rattle.std.proofs.Common.{◌≡◌, ℕ, ◌<◌, ◌≤◌, ◌+◌, List, [], ◌∷◌, ◌++◌, length, map, drop, get_or, Option, Some, None, Result, Ok, Err, refl, ap, sym, ◌∙◌, ◌⊎◌, inl, inr}
use Rattle.std.specs.Borrow.{Bor}
use Rattle.std.proofs.lemmas.List.{drop_more, drop_all, append_assoc, append-nil}
use Rattle.bs_bits.specs.Reading.{◌>>=◌}
use Rattle.bs_net_names.specs.Keys.{KeyParts}
use Rattle.bs_vcd_header.specs.declared.fault.VcdFault.{VcdFault}
use Rattle.bs_vcd_header.specs.declared.fault.VcdFault.TheVariants.{NoMemory}
use Rattle.bs_vcd_header.specs.declared.header.Variable.{Variable as CodeVariable}
use Rattle.bs_vcd_header.specs.declared.sources.BitSource.{BitSource}
use Rattle.bs_vcd_header.specs.Header.{HeaderDeclarations, variable_in, shape_in}
use Rattle.bs_vcd_header.specs.Sources.{source_here, source_in, source_of, first_path, path_if, path_of, or_next, input_at, inputs_from, inputs_behind}

abbrev sources : List (List ℕ) → List ℕ → KeyParts → List CodeVariable → Option BitSource
sources paths path key vs = source_in paths path key (map variable_in vs)

-- the rest of the variables, from one on
source_step : (paths : List (List ℕ)) (path : List ℕ) (key : KeyParts) (vs : List CodeVariable) (i : ℕ) (d : CodeVariable) (o : Option BitSource) → i < length vs →
    source_in paths path key (map variable_in vs) ≡ source_in paths path key (map variable_in (drop i vs)) →
    o ≡ source_here paths path key (variable_in (get_or vs i d)) →
    source_in paths path key (map variable_in vs) ≡ or_next o (source_in paths path key (map variable_in (drop (i + 1) vs)))
source_step paths path key vs i d o lt e is =
    e ∙ (ap (sources paths path key) (drop_more vs i d lt) ∙ ap (λ o. or_next o (sources paths path key (drop (i + 1) vs))) (sym is))

pub source_more : (paths : List (List ℕ)) (path : List ℕ) (key : KeyParts) (vs : List CodeVariable) (i : ℕ) (d : CodeVariable) → i < length vs →
    source_in paths path key (map variable_in vs) ≡ source_in paths path key (map variable_in (drop i vs)) →
    None ≡ source_here paths path key (variable_in (get_or vs i d)) →
    source_in paths path key (map variable_in vs) ≡ source_in paths path key (map variable_in (drop (i + 1) vs))
source_more paths path key vs i d lt e is = source_step paths path key vs i d None lt e is

pub source_found : (paths : List (List ℕ)) (path : List ℕ) (key : KeyParts) (vs : List CodeVariable) (i : ℕ) (d : CodeVariable) (s : BitSource) → i < length vs →
    source_in paths path key (map variable_in vs) ≡ source_in paths path key (map variable_in (drop i vs)) →
    Some s ≡ source_here paths path key (variable_in (get_or vs i d)) →
    Some s ≡ source_in paths path key (map variable_in vs)
source_found paths path key vs i d s lt e is = sym (source_step paths path key vs i d (Some s) lt e is)

pub source_none : (paths : List (List ℕ)) (path : List ℕ) (key : KeyParts) (vs : List CodeVariable) (i : ℕ) → length vs ≤ i →
    source_in paths path key (map variable_in vs) ≡ source_in paths path key (map variable_in (drop i vs)) →
    None ≡ source_in paths path key (map variable_in vs)
source_none paths path key vs i le e = sym (e ∙ ap (sources paths path key) (drop_all i vs le))

abbrev paths_in : List (List ℕ) → KeyParts → List CodeVariable → Option (List ℕ)
paths_in paths key vs = first_path paths key (map variable_in vs)

path_step : (paths : List (List ℕ)) (key : KeyParts) (vs : List CodeVariable) (i : ℕ) (d : CodeVariable) (o : Option BitSource) → i < length vs →
    first_path paths key (map variable_in vs) ≡ first_path paths key (map variable_in (drop i vs)) →
    o ≡ source_of key (shape_in (get_or vs i d)) →
    first_path paths key (map variable_in vs)
    ≡ or_next (path_if (path_of paths (variable_in (get_or vs i d))) o) (first_path paths key (map variable_in (drop (i + 1) vs)))
path_step paths key vs i d o lt e is =
    e ∙ (ap (paths_in paths key) (drop_more vs i d lt)
    ∙ ap (λ o. or_next (path_if (path_of paths (variable_in (get_or vs i d))) o) (paths_in paths key (drop (i + 1) vs))) (sym is))

pub path_more : (paths : List (List ℕ)) (key : KeyParts) (vs : List CodeVariable) (i : ℕ) (d : CodeVariable) → i < length vs →
    first_path paths key (map variable_in vs) ≡ first_path paths key (map variable_in (drop i vs)) →
    None ≡ source_of key (shape_in (get_or vs i d)) →
    first_path paths key (map variable_in vs) ≡ first_path paths key (map variable_in (drop (i + 1) vs))
path_more paths key vs i d lt e is = path_step paths key vs i d None lt e is

pub path_found : (paths : List (List ℕ)) (key : KeyParts) (vs : List CodeVariable) (i : ℕ) (d : CodeVariable) (s : BitSource) (path : List ℕ) → i < length vs →
    first_path paths key (map variable_in vs) ≡ first_path paths key (map variable_in (drop i vs)) →
    Some s ≡ source_of key (shape_in (get_or vs i d)) → path ≡ path_of paths (variable_in (get_or vs i d)) →
    Some path ≡ first_path paths key (map variable_in vs)
path_found paths key vs i d s path lt e is same = ap (λ p. Some p) same ∙ sym (path_step paths key vs i d (Some s) lt e is)

pub path_none : (paths : List (List ℕ)) (key : KeyParts) (vs : List CodeVariable) (i : ℕ) → length vs ≤ i →
    first_path paths key (map variable_in vs) ≡ first_path paths key (map variable_in (drop i vs)) →
    None ≡ first_path paths key (map variable_in vs)
path_none paths key vs i le e = sym (e ∙ ap (paths_in paths key) (drop_all i vs le))

-- ---- inputs

abbrev Read : Type 0
Read = Result (List BitSource) VcdFault

abbrev texts : List (Bor (List ℕ)) → List (List ℕ)
texts ks = map (λ key. key.now) ks

-- what the first of more inputs gives, and the others
abbrev one_first : List BitSource → Result BitSource VcdFault → Read → Read
one_first before r rest = (r >>= λ s. rest >>= λ more. Ok (s ∷ more)) >>= λ more. Ok (before ++ more)

first_kept : (before : List BitSource) (s : BitSource) (rest : Read) → one_first before (Ok s) rest ≡ (rest >>= λ more. Ok ((before ++ s ∷ []) ++ more))
first_kept before s (Err f) = refl
first_kept before s (Ok more) = ap Ok (sym (append_assoc before (s ∷ []) more))

input_step : (all : Read) (before : List BitSource) (d : HeaderDeclarations) (path : List ℕ) (ks : List (Bor (List ℕ))) (i : ℕ) (k : Bor (List ℕ)) → i < length ks →
    all ≡ inputs_behind before i d path (map (λ key. key.now) (drop i ks)) →
    all ≡ one_first before (input_at i d path (get_or ks i k).now) (inputs_from (i + 1) d path (texts (drop (i + 1) ks)))
input_step all before d path ks i k lt e = e ∙ ap (λ xs. inputs_behind before i d path (texts xs)) (drop_more ks i k lt)

pub input_more : (all : Read) (before : List BitSource) (d : HeaderDeclarations) (path : List ℕ) (ks : List (Bor (List ℕ))) (i : ℕ) (k : Bor (List ℕ)) (s : BitSource) →
    i < length ks → all ≡ inputs_behind before i d path (map (λ key. key.now) (drop i ks)) → input_at i d path (get_or ks i k).now ≡ Ok s →
    all ≡ inputs_behind (before ++ s ∷ []) (i + 1) d path (map (λ key. key.now) (drop (i + 1) ks))
input_more all before d path ks i k s lt e is =
    input_step all before d path ks i k lt e
    ∙ (ap (λ r. one_first before r (inputs_from (i + 1) d path (texts (drop (i + 1) ks)))) is
    ∙ first_kept before s (inputs_from (i + 1) d path (texts (drop (i + 1) ks))))

pub input_faulty : (all : Read) (before : List BitSource) (d : HeaderDeclarations) (path : List ℕ) (ks : List (Bor (List ℕ))) (i : ℕ) (k : Bor (List ℕ)) (fault : VcdFault) →
    i < length ks → all ≡ inputs_behind before i d path (map (λ key. key.now) (drop i ks)) →
    (fault ≡ NoMemory) ⊎ (input_at i d path (get_or ks i k).now ≡ Err fault) → (fault ≡ NoMemory) ⊎ (all ≡ Err fault)
input_faulty all before d path ks i k fault lt e (inl want) = inl want
input_faulty all before d path ks i k fault lt e (inr is) =
    inr (input_step all before d path ks i k lt e ∙ ap (λ r. one_first before r (inputs_from (i + 1) d path (texts (drop (i + 1) ks)))) is)

pub inputs_none : (all : Read) (before : List BitSource) (d : HeaderDeclarations) (path : List ℕ) (ks : List (Bor (List ℕ))) (i : ℕ) → length ks ≤ i →
    all ≡ inputs_behind before i d path (map (λ key. key.now) (drop i ks)) → all ≡ Ok before
inputs_none all before d path ks i le e =
    e ∙ (ap (λ xs. inputs_behind before i d path (texts xs)) (drop_all i ks le) ∙ ap Ok (append-nil before))
