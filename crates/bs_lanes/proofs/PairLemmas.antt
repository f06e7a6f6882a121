-- Gates of two inputs as one formula.
use Rattle.std.proofs.Common.{◌≡◌, ℕ, suc, zero, ◌<◌, ◌+◌, ◌*◌, Bool, true, false, ◌&&◌, List, [], ◌∷◌, map, length, get_or, drop, refl, arith, subst}
use Rattle.std.proofs.Common.{ap, sym, ◌∙◌, ◌⊎◌, ⊎_elim, ◌≤◌}
use Rattle.std.specs.Prelude.{IsTrue}
use Rattle.std.specs.List.{All, AllByRecursion}
use Rattle.std.specs.Int.Bits.{bit_and, bit_xor}
use Rattle.std.specs.Simd.Lanes.{zip2, put_chunk}
use Rattle.std.proofs.lemmas.Bool.{false≢true}
use Rattle.std.proofs.lemmas.List.{drop_more, nil_from_length}
use Rattle.std.proofs.lemmas.List.Elements.{recursion_from_All}
use Rattle.bs_net.specs.declared.net.Gate.{Gate}
use Rattle.bs_net.specs.declared.gate.Kind.{Kind}
use Rattle.bs_net.specs.declared.gate.Kind.TheVariants.{And, Nand, Or, Nor, Xor, Xnor, Buf, Not}
use Rattle.bs_net.specs.Gate.{gate_value}
use Rattle.bs_net.specs.Gate.{takes}
use Rattle.bs_net.specs.Steps.{Step, gate_write, run}
use Rattle.bs_stim.specs.Packing.{bit_in}
use Rattle.bs_lanes.specs.Planes.{IsPlane, bit_place, lane}
use Rattle.bs_lanes.proofs.PlaneLemmas.{and_is_plane, xor_is_plane, lane_at}
use Rattle.bs_lanes.specs.declared.pairs.Pair.{Pair}
use Rattle.bs_lanes.specs.declared.pairs.PairTable.{PairTable}
use Rattle.bs_lanes.specs.Settling.{HasPlane, RunsTo, RunsAll}
use Rattle.bs_lanes.specs.Program.{pair_gate, pair_gates, HasGate}
use Rattle.bs_lanes.specs.Pairs.{differ, mixed, IsTable, IsMixed}
use Rattle.bs_lanes.proofs.SettlingLemmas.{one_write, left_as, within, keeps_plane, keeps_planes}

abbrev table : Bool → Bool → Bool → PairTable
table both one inverted = record { both = both; one = one; inverted = inverted }

pub and_table : IsTable And (table true false false)
and_table = record { value = go }
  where
    go : (x y : Bool) → mixed (table true false false) x y ≡ gate_value And (x ∷ y ∷ [])
    go true true = refl
    go true false = refl
    go false true = refl
    go false false = refl

pub nand_table : IsTable Nand (table true false true)
nand_table = record { value = go }
  where
    go : (x y : Bool) → mixed (table true false true) x y ≡ gate_value Nand (x ∷ y ∷ [])
    go true true = refl
    go true false = refl
    go false true = refl
    go false false = refl

pub or_table : IsTable Or (table true true false)
or_table = record { value = go }
  where
    go : (x y : Bool) → mixed (table true true false) x y ≡ gate_value Or (x ∷ y ∷ [])
    go true true = refl
    go true false = refl
    go false true = refl
    go false false = refl

pub nor_table : IsTable Nor (table true true true)
nor_table = record { value = go }
  where
    go : (x y : Bool) → mixed (table true true true) x y ≡ gate_value Nor (x ∷ y ∷ [])
    go true true = refl
    go true false = refl
    go false true = refl
    go false false = refl

pub xor_table : IsTable Xor (table false true false)
xor_table = record { value = go }
  where
    go : (x y : Bool) → mixed (table false true false) x y ≡ gate_value Xor (x ∷ y ∷ [])
    go true true = refl
    go true false = refl
    go false true = refl
    go false false = refl

pub xnor_table : IsTable Xnor (table false true true)
xnor_table = record { value = go }
  where
    go : (x y : Bool) → mixed (table false true true) x y ≡ gate_value Xnor (x ∷ y ∷ [])
    go true true = refl
    go true false = refl
    go false true = refl
    go false false = refl

own_plane : (wide : ℕ) (p : List ℕ) → length p ≡ wide → IsPlane wide p (λ r. bit_in p r)
own_plane wide p long = record { long = long; each = λ r lt. refl }

-- the operators make the formula
pub mixed_is : (wide : ℕ) (a b both one inverted : List ℕ) → length a ≡ wide → length b ≡ wide → length both ≡ wide → length one ≡ wide →
    length inverted ≡ wide →
    IsMixed wide a b both one inverted (zip2 bit_xor (zip2 bit_xor (zip2 bit_and (zip2 bit_and a b) both) (zip2 bit_and (zip2 bit_xor a b) one)) inverted)
mixed_is wide a b both one inverted la lb lc ld le =
    let pa = own_plane wide a la in
    let pb = own_plane wide b lb in
    xor_is_plane wide _ inverted _ _
    (xor_is_plane wide _ _ _ _ (and_is_plane wide _ both _ _ (and_is_plane wide a b _ _ pa pb) (own_plane wide both lc))
    (and_is_plane wide _ one _ _ (xor_is_plane wide a b _ _ pa pb) (own_plane wide one ld))) (own_plane wide inverted le)

-- a gate of two inputs is evaluated
pub one_pair : (wide : ℕ) (kind : Kind) (start : ℕ) (pairs : List Pair) (i : ℕ) (d : Pair) (t : PairTable) (old now a b both one inverted plane : List ℕ)
    (whole : ℕ → List Step) → i < length pairs → IsTable kind t →
    RunsTo wide (λ r. map gate_write (pair_gates kind (start + i) (drop i pairs))) whole old now →
    HasGate wide now (pair_gate kind (start + i) (get_or pairs i d)) →
    IsPlane wide a (λ r. bit_in now (bit_place wide (get_or pairs i d).a r)) → IsPlane wide b (λ r. bit_in now (bit_place wide (get_or pairs i d).b r)) →
    IsPlane wide both (λ r. t.both) → IsPlane wide one (λ r. t.one) → IsPlane wide inverted (λ r. t.inverted) → IsMixed wide a b both one inverted plane →
    RunsTo wide (λ r. map gate_write (pair_gates kind (start + (i + 1)) (drop (i + 1) pairs))) whole old (put_chunk ((start + i) * wide) now plane)
one_pair wide kind start pairs i d t old now a b both one inverted plane whole lt is h has pa pb pboth pone pinv mix =
    let p = get_or pairs i d in
    let rest : List Step = map gate_write (pair_gates kind (start + (i + 1)) (drop (i + 1) pairs)) in
    let behind : (start + i) + 1 ≡ start + (i + 1) = omega arith in
    let f : Bool → Bool → Bool → Bool → Bool → Bool = λ x y u v w. differ (differ ((x && y) && u) (differ x y && v)) w in
    one_write wide (start + i) (λ r. gate_write (pair_gate kind (start + i) p)) (λ r. rest) whole old now plane
    (left_as wide _ _ whole old now
    (λ r.
    ap (λ u. map gate_write (pair_gates kind (start + i) u)) (drop_more pairs i d lt)
    ∙ ap (λ n. gate_write (pair_gate kind (start + i) p) ∷ map gate_write (pair_gates kind n (drop (i + 1) pairs))) behind) h) has.out mix.long
    (λ r. refl)
    (λ count r size small.
    let v : List Bool = lane wide count now r in
    let has_a : HasPlane wide now p.a = has.ins 0 (record { 0 = 0 }) (omega arith) in
    let has_b : HasPlane wide now p.b = has.ins 1 (record { 0 = 0 }) (omega arith) in
    let xa : get_or v p.a false ≡ bit_in a r = lane_at wide count now r p.a (within wide count p.a r now has_a size small) ∙ sym (pa.each r small) in
    let xb : get_or v p.b false ≡ bit_in b r = lane_at wide count now r p.b (within wide count p.b r now has_b size small) ∙ sym (pb.each r small) in
    mix.each r small
    ∙ (ap (λ u. f (bit_in a r) (bit_in b r) u (bit_in one r) (bit_in inverted r)) (pboth.each r small)
    ∙ (ap (λ u. f (bit_in a r) (bit_in b r) t.both u (bit_in inverted r)) (pone.each r small)
    ∙ (ap (λ u. f (bit_in a r) (bit_in b r) t.both t.one u) (pinv.each r small)
    ∙ (is.value (bit_in a r) (bit_in b r)
    ∙ (ap (λ x. gate_value kind (x ∷ bit_in b r ∷ [])) (sym xa) ∙ ap (λ y. gate_value kind (get_or v p.a false ∷ y ∷ [])) (sym xb)))))))

-- what holds of all gates of some pairs holds of one
pub pair_has : (P : Gate → Type 0) (kind : Kind) (start : ℕ) (pairs : List Pair) (i : ℕ) (d : Pair) → i < length pairs → All P (pair_gates kind start pairs) →
    P (pair_gate kind (start + i) (get_or pairs i d))
pair_has P kind start pairs i d lt h = go start pairs i lt (recursion_from_All P (pair_gates kind start pairs) h)
  where
    go : (s : ℕ) (ps : List Pair) (k : ℕ) → k < length ps → AllByRecursion P (pair_gates kind s ps) → P (pair_gate kind (s + k) (get_or ps k d))
    go s [] k small a = absurd (omega (arith, small))
    go s (p ∷ ps) zero small a =
        let e : s ≡ s + 0 = omega arith in
        let Q : ℕ → Type 0 = λ n. P (pair_gate kind n p) in
        subst Q e a.0
    go s (p ∷ ps) (suc k) small a =
        let e : (s + 1) + k ≡ s + suc k = omega arith in
        let Q : ℕ → Type 0 = λ n. P (pair_gate kind n (get_or ps k d)) in
        subst Q e (go (s + 1) ps k (omega (arith, small)) a.1)

-- a kind of gates of two inputs takes two
pub some_taken : (wide : ℕ) (words : List ℕ) (kind : Kind) (start : ℕ) (pairs : List Pair) → 0 < length pairs →
    All (HasGate wide words) (pair_gates kind start pairs) → IsTrue (takes kind 2)
some_taken wide words kind start pairs some h = (pair_has (HasGate wide words) kind start pairs 0 (record { a = 0; b = 0 }) some h).taken

-- the first output has a plane
pub first_has : (wide : ℕ) (words : List ℕ) (kind : Kind) (start : ℕ) (pairs : List Pair) → 0 < length pairs →
    All (HasGate wide words) (pair_gates kind start pairs) → (start + 0) * wide + wide ≤ length words
first_has wide words kind start pairs some h = (pair_has (HasGate wide words) kind start pairs 0 (record { a = 0; b = 0 }) some h).out

-- and so have the inputs of a pair
pub pair_a : (wide : ℕ) (words : List ℕ) (kind : Kind) (out : ℕ) (p : Pair) → HasGate wide words (pair_gate kind out p) → HasPlane wide words p.a
pair_a wide words kind out p h = h.ins 0 (record { 0 = 0 }) (omega arith)

pub pair_b : (wide : ℕ) (words : List ℕ) (kind : Kind) (out : ℕ) (p : Pair) → HasGate wide words (pair_gate kind out p) → HasPlane wide words p.b
pair_b wide words kind out p h = h.ins 1 (record { 0 = 0 }) (omega arith)

-- a buffer or an inverter has no two inputs
pub no_pair_of_one : (wide : ℕ) (words : List ℕ) (kind : Kind) (start : ℕ) (pairs : List Pair) → 0 < length pairs →
    All (HasGate wide words) (pair_gates kind start pairs) → (kind ≡ Buf) ⊎ (kind ≡ Not) → ⊥
no_pair_of_one wide words kind start pairs some h one =
    let P : Kind → Type 0 = λ k. IsTrue (takes k 2) in
    let two : IsTrue (takes kind 2) = some_taken wide words kind start pairs some h in
    ⊎_elim (λ (e : kind ≡ Buf). false≢true (subst P e two)) (λ (e : kind ≡ Not). false≢true (subst P e two)) one

pub gate_stays : (wide : ℕ) (old now : List ℕ) (g : Gate) → length now ≡ length old → HasGate wide old g → HasGate wide now g
gate_stays wide old now g size h =
    record {
      out = keeps_plane wide g.out.0 old now size h.out;
      small = h.small;
      ins = keeps_planes wide old now g.ins size h.ins;
      taken = h.taken;
    }

pub no_pairs : (wide : ℕ) (kind : Kind) (start : ℕ) (pairs : List Pair) (nets : List ℕ) → length pairs ≡ 0 →
    RunsAll wide (λ r. map gate_write (pair_gates kind start pairs)) nets nets
no_pairs wide kind start pairs nets none =
    record {
      size = refl;
      each = λ count r size lt. ap (λ ps. run (map gate_write (pair_gates kind start ps)) (lane wide count nets r))
          (sym (nil_from_length pairs none));
    }
