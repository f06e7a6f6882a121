-- What a loop has made so far, or the first place that does not go.
use Rattle.std.proofs.Common.{◌≡◌, ℕ, ◌<◌, ◌≤◌, ◌+◌, List, [], ◌∷◌, ◌++◌, map, take, length, get_or, Option, Some, None, refl, sym, ap, ◌∙◌, arith}
use Rattle.std.proofs.Common.{Result, Ok, Err, false, subst, ◌⊎◌, inl, inr, ⊎_elim}
use Rattle.std.specs.Result.{IsErr, IsErrAnd}
use Rattle.std.proofs.lemmas.Bool.{false≢true}
use Rattle.std.specs.List.{flat_map}
use Rattle.std.proofs.lemmas.List.{take_more, take_all, get_or-map, length-map}
use Rattle.std.proofs.lemmas.List.Concat.{flat_map-append}
use Rattle.bs_flat_meaning.specs.Connecting as flat
use Rattle.bs_flat_meaning.specs.Reading.{first_of}
use Rattle.bs_flat_nets.specs.Blocks.{joins_of_run}
use Rattle.bs_flat_nets.specs.declared.blocks.JoinedNets.{JoinedNets}
use Rattle.bs_flat_connect.specs.Wiring.{IsWiringOf}
use Rattle.bs_flat_connect.specs.declared.wiring.Wiring.{Wiring}
use Rattle.bs_flat_connect.specs.Matching.{matched_of}
use Rattle.bs_flat_connect.specs.Joining.{unless, runs_of, JoinsOne, JoinsAll}
use Rattle.bs_flat_connect.specs.declared.matching.Matched.{Matched}
use Rattle.bs_flat_connect.specs.declared.fault.Fault.{Fault}
use Rattle.bs_flat_connect.specs.declared.fault.Fault.TheVariants.{At, NoMemory}
use Rattle.bs_flat_connect.proofs.FirstLemmas.{none_more, first_here}

-- the first i all go, and make this
pub record SoFar {X B : Type 0} (fault : X → Option ℕ) (value : X → List B) (xs : List X) (i : ℕ) (made : List B) : Type 0 where
  pub none : first_of (map fault (take i xs)) ≡ None
  pub same : made ≡ flat_map value (take i xs)

pub so_far_none : {X B : Type 0} (fault : X → Option ℕ) (value : X → List B) (xs : List X) → SoFar fault value xs 0 []
unfolding first_of
so_far_none fault value xs = record { none = refl; same = refl }

-- an answer that is this fault
pub fails : {A : Type 0} (r : Result A Fault) (f : Fault) → IsErr r × IsErrAnd r (λ g. g ≡ f) → r ≡ Err f
fails (Ok x) f h = absurd (false≢true h.0)
fails (Err g) f h = ap Err h.1

-- what is told of a value says that all goes, and what the value is
pub goes_well : {A : Type 0} (o : Option ℕ) (x y : A) → unless o x ≡ Ok y → (o ≡ None) × (x ≡ y)
goes_well (Some n) x y e = absurd cc
goes_well None x y e = let same : x ≡ y = cc in (refl, same)

pub goes_ill : {A : Type 0} (o : Option ℕ) (x : A) (f : Fault) → unless o x ≡ Err f → (n : ℕ) × (o ≡ Some n) × (f ≡ At n)
goes_ill (Some n) x f e = let same : At n ≡ f = cc in (n, refl, sym same)
goes_ill None x f e = absurd cc

pub so_far_more : {X B : Type 0} (fault : X → Option ℕ) (value : X → List B) (xs : List X) (i : ℕ) (d : X) (made new : List B) → i < length xs →
    SoFar fault value xs i made → unless (fault (get_or xs i d)) (value (get_or xs i d)) ≡ Ok new → SoFar fault value xs (i + 1) (made ++ new)
so_far_more fault value xs i d made new lt so_far e =
    let x = get_or xs i d in
    let well = goes_well (fault x) (value x) new e in
    record {
      none = none_more fault xs i d lt so_far.none well.0;
      same =
          ap (λ l. l ++ new) so_far.same
          ∙ (ap (λ l. flat_map value (take i xs) ++ l) (sym well.1 ∙ sym (alone (value x)))
          ∙ (sym (flat_map-append value (take i xs) (x ∷ [])) ∙ ap (flat_map value) (sym (take_more xs i d lt))));
    }
  where
    alone : {A : Type 0} (l : List A) → l ++ [] ≡ l
    alone [] = refl
    alone (y ∷ ys) = ap (λ r. y ∷ r) (alone ys)

-- where one does not go, or memory runs out, that is the answer
pub so_far_stop : {X A B C : Type 0} (fault : X → Option ℕ) (value : X → List B) (xs : List X) (i : ℕ) (d : X) (made : List B) (f : Fault) (y : A) (z : C) →
    i < length xs → SoFar fault value xs i made → (f ≡ NoMemory) ⊎ (unless (fault (get_or xs i d)) y ≡ Err f) →
    (f ≡ NoMemory) ⊎ (unless (first_of (map fault xs)) z ≡ Err f)
so_far_stop fault value xs i d made f y z lt so_far e =
    ⊎_elim (λ (n : f ≡ NoMemory). inl n)
    (λ (k : unless (fault (get_or xs i d)) y ≡ Err f).
    let ill = goes_ill (fault (get_or xs i d)) y f k in
    inr (ap (λ o. unless o z) (first_here fault xs i d ill.0 lt so_far.none ill.1) ∙ ap Err (sym ill.2))) e

pub so_far_all : {X B : Type 0} (fault : X → Option ℕ) (value : X → List B) (xs : List X) (i : ℕ) (made : List B) → length xs ≤ i →
    SoFar fault value xs i made → unless (first_of (map fault xs)) (flat_map value xs) ≡ Ok made
so_far_all fault value xs i made le so_far =
    let whole = take_all i xs le in
    ap (λ o. unless o (flat_map value xs)) (ap (λ l. first_of (map fault l)) (sym whole) ∙ so_far.none)
    ∙ ap Ok (sym (so_far.same ∙ ap (flat_map value) whole))

-- ---- the connections of an instance

pub record JoinsSoFar (table : List (List ℕ)) (w : Wiring) (all : List Matched) (i : ℕ) (runs : List JoinedNets) : Type 0 where
  pub is : (m below : flat.ReadModule) (cs : List flat.Connected) → IsWiringOf table m w → all ≡ map (matched_of below) cs →
      SoFar (flat.connected_fault table m below) (flat.joins_of table m) cs i (flat_map joins_of_run runs)

pub joins_none : (table : List (List ℕ)) (w : Wiring) (all : List Matched) → JoinsSoFar table w all 0 []
joins_none table w all = record { is = λ m below cs wired e. so_far_none (flat.connected_fault table m below) (flat.joins_of table m) cs }

no_connection : flat.Connected
no_connection = record { pin = None; is_second = false; term = None; port = None }

one_of : (below : flat.ReadModule) (all : List Matched) (cs : List flat.Connected) (i : ℕ) (one d : Matched) → all ≡ map (matched_of below) cs →
    i < length all → one ≡ get_or all i d → (i < length cs) × (one ≡ matched_of below (get_or cs i no_connection))
one_of below all cs i one d e lt here =
    let long = ap length e ∙ length-map cs (matched_of below) in
    let within : i < length cs = omega (arith, lt, long) in
    (within, here ∙ (ap (λ (l : List Matched). get_or l i d) e ∙ get_or-map (matched_of below) cs i no_connection d within))

pub joins_more : (table : List (List ℕ)) (w : Wiring) (all : List Matched) (i : ℕ) (one d : Matched) (runs : List JoinedNets) (new : Option JoinedNets) →
    i < length all → one ≡ get_or all i d → JoinsOne table w one (Ok new) → JoinsSoFar table w all i runs →
    JoinsSoFar table w all (i + 1) (runs ++ runs_of new)
joins_more table w all i one d runs new lt here tells so_far =
    record {
      is = λ m below cs wired e.
          let k = one_of below all cs i one d e lt here in
          subst (λ l. SoFar (flat.connected_fault table m below) (flat.joins_of table m) cs (i + 1) l) (sym (flat_map-append joins_of_run runs (runs_of new)))
          (so_far_more (flat.connected_fault table m below) (flat.joins_of table m) cs i no_connection (flat_map joins_of_run runs)
          (flat_map joins_of_run (runs_of new)) k.0 (so_far.is m below cs wired e)
          (tells.is m below (get_or cs i no_connection) wired k.1));
    }

pub joins_stop : (table : List (List ℕ)) (w : Wiring) (all : List Matched) (i : ℕ) (one d : Matched) (runs : List JoinedNets) (f : Fault) →
    i < length all → one ≡ get_or all i d → JoinsOne table w one (Err f) → JoinsSoFar table w all i runs → JoinsAll table w all (Err f)
joins_stop table w all i one d runs f lt here tells so_far =
    record {
      is = λ m below cs wired e.
          let k = one_of below all cs i one d e lt here in
          so_far_stop (flat.connected_fault table m below) (flat.joins_of table m) cs i no_connection (flat_map joins_of_run runs) f
          (flat.joins_of table m (get_or cs i no_connection)) (flat_map (flat.joins_of table m) cs) k.0 (so_far.is m below cs wired e)
          (tells.is m below (get_or cs i no_connection) wired k.1);
    }

pub joins_all : (table : List (List ℕ)) (w : Wiring) (all : List Matched) (i : ℕ) (runs : List JoinedNets) → length all ≤ i → JoinsSoFar table w all i runs →
    JoinsAll table w all (Ok runs)
joins_all table w all i runs le so_far =
    record {
      is = λ m below cs wired e.
          let long = ap length e ∙ length-map cs (matched_of below) in
          so_far_all (flat.connected_fault table m below) (flat.joins_of table m) cs i (flat_map joins_of_run runs) (omega (arith, le, long))
          (so_far.is m below cs wired e);
    }
