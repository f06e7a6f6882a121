-- Keys, one after another.
use Rattle.std.proofs.Common.{◌≡◌, ℕ, ◌<◌, ◌+◌, ◌^◌, ◌==◌, not, Bool, arith, List, [], ◌∷◌, ◌++◌, length, map, take, get_or, ap, sym, subst, ◌∙◌}
use Rattle.std.proofs.Common.{slice_get, Some}
use Rattle.std.specs.Borrow.{Bor}
use Rattle.std.proofs.lemmas.Option.{get_or_from_slice_get}
use Rattle.std.proofs.lemmas.List.{map-append, take_more, length-map}
use Rattle.std.proofs.lemmas.List.Sums.{length-filter, count_by-le-length}
use Rattle.bs_net.specs.declared.net.NetId.{NetId}
use Rattle.bs_net.specs.declared.net.Flop.{Flop}
use Rattle.std.specs.List.{All, count_by}
use Rattle.bs_net.specs.Parts.{Parts, PartsArePlaced, key_at}
use Rattle.bs_net.specs.Netlist.{circuit_of}
use Rattle.bs_net.proofs.NetlistLemmas.{without_placed}
use Rattle.bs_inspect_report.specs.Keys.{flop_keys, input_keys}

-- what stands at a net's place is its key
pub key_is : (r : Parts) (n : ℕ) (key : List ℕ) → slice_get r.names n ≡ Some key → key ≡ key_at r n
key_is r n key e = sym (get_or_from_slice_get r.names n key [] e)

-- a key more
pub flops_more : (r : Parts) (keys : List (Bor (List ℕ))) (key : Bor (List ℕ)) (fs : List Flop) (i : ℕ) (d : Flop) → i < length fs →
    map (λ s. s.now) keys ≡ map (λ f. key_at r f.q.0) (take i fs) → key.now ≡ key_at r (get_or fs i d).q.0 →
    map (λ s. s.now) (keys ++ key ∷ []) ≡ map (λ f. key_at r f.q.0) (take (i + 1) fs)
flops_more r keys key fs i d lt e k =
    map-append (λ (s : Bor (List ℕ)). s.now) keys (key ∷ [])
    ∙ ((λ j. e j ++ k j ∷ [])
    ∙ (sym (map-append (λ (f : Flop). key_at r f.q.0) (take i fs) (get_or fs i d ∷ []))
    ∙ ap (map (λ (f : Flop). key_at r f.q.0)) (sym (take_more fs i d lt))))

pub inputs_more : (r : Parts) (keys : List (Bor (List ℕ))) (key : Bor (List ℕ)) (ns : List NetId) (i : ℕ) (d : NetId) → i < length ns →
    map (λ s. s.now) keys ≡ map (λ n. key_at r n.0) (take i ns) → key.now ≡ key_at r (get_or ns i d).0 →
    map (λ s. s.now) (keys ++ key ∷ []) ≡ map (λ n. key_at r n.0) (take (i + 1) ns)
inputs_more r keys key ns i d lt e k =
    map-append (λ (s : Bor (List ℕ)). s.now) keys (key ∷ [])
    ∙ ((λ j. e j ++ k j ∷ [])
    ∙ (sym (map-append (λ (n : NetId). key_at r n.0) (take i ns) (get_or ns i d ∷ []))
    ∙ ap (map (λ (n : NetId). key_at r n.0)) (sym (take_more ns i d lt))))

-- a data input has a name
pub input_placed : (r : Parts) (inputs : List NetId) (i : ℕ) (n : NetId) → PartsArePlaced r → inputs ≡ (circuit_of r).inputs → i < length inputs →
    n ≡ get_or inputs i n → n.0 < length r.names
input_placed r inputs i n placed same lt is =
    let P : List NetId → Type 0 = λ (ns : List NetId). All (λ (m : NetId). m.0 < length r.names) ns in
    let all : All (λ m. m.0 < length r.names) inputs = subst P (sym same) (without_placed (circuit_of r).clock r.inputs (length r.names) placed.inputs.1) in
    let Q : NetId → Type 0 = λ (m : NetId). m.0 < length r.names in
    subst Q (sym is) (all i n lt)

-- there are few keys
pub flops_few : (r : Parts) (keys : List (Bor (List ℕ))) → PartsArePlaced r → map (λ s. s.now) keys ≡ flop_keys r → length keys < 2 ^ 32
flops_few r keys placed e =
    let same : length (map (λ (s : Bor (List ℕ)). s.now) keys) ≡ length (flop_keys r) = ap length e in
    omega (arith, same, length-map keys (λ (s : Bor (List ℕ)). s.now), length-map r.flops (λ (f : Flop). key_at r f.q.0), placed.flops.0)

pub inputs_few : (r : Parts) (keys : List (Bor (List ℕ))) → PartsArePlaced r → map (λ s. s.now) keys ≡ input_keys r → length keys < 2 ^ 32
inputs_few r keys placed e =
    let p : NetId → Bool = λ (n : NetId). not (n.0 == (circuit_of r).clock.0) in
    let same : length (map (λ (s : Bor (List ℕ)). s.now) keys) ≡ length (input_keys r) = ap length e in
    let fewer : length (circuit_of r).inputs ≡ count_by p r.inputs = length-filter p r.inputs in
    omega (
      arith,
      same,
      fewer,
      count_by-le-length p r.inputs,
      length-map keys (λ (s : Bor (List ℕ)). s.now),
      length-map (circuit_of r).inputs (λ (n : NetId). key_at r n.0),
      placed.inputs.0,
    )
