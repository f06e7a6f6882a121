-- Planes that are written one after another, lane by lane.
use Rattle.std.proofs.Common.{◌≡◌, ◌≢◌, ℕ, suc, zero, ◌<◌, ◌≤◌, ◌+◌, ◌*◌, ◌%◌, Bool, true, false, not, ◌&&◌, ◌||◌, List, [], ◌∷◌, ◌++◌, map, length}
use Rattle.std.proofs.Common.{get_or, set, drop, take, refl, arith, subst, ap, sym, ◌∙◌, ⊎_elim}
use Rattle.std.specs.Prelude.{◌==◌, count_by, IsTrue}
use Rattle.std.specs.Bool.{beq}
use Rattle.std.specs.List.{All, AllByRecursion, list_all, list_any}
use Rattle.std.specs.Int.Bits.{bit_and, bit_or, bit_xor}
use Rattle.std.specs.Simd.Lanes.{put_chunk, zip2}
use Rattle.std.proofs.lemmas.Bool.{cases_eq, cases_lt, false≢true}
use Rattle.std.proofs.lemmas.Grind.{take-set_at}
use Rattle.std.proofs.lemmas.List.{drop_all, drop_more, take_all, take_more}
use Rattle.std.proofs.lemmas.List.{map-append}
use Rattle.std.proofs.lemmas.List.Folds.{list_all_more, list_any_more}
use Rattle.std.proofs.lemmas.List.Sums.{sum_by-append}
use Rattle.std.proofs.lemmas.List.Elements.{All-weaker, recursion_from_All}
use Rattle.std.proofs.lemmas.Nat.{row_fits}
use Rattle.std.proofs.lemmas.Simd.{length-put_chunk}
use Rattle.bs_net.specs.declared.net.NetId.{NetId}
use Rattle.bs_net.specs.declared.net.Flop.{Flop}
use Rattle.bs_net.specs.declared.net.Const.{Const}
use Rattle.bs_net.specs.declared.net.Gate.{Gate}
use Rattle.bs_net.specs.declared.gate.Kind.{Kind}
use Rattle.bs_net.specs.declared.gate.Kind.TheVariants.{And, Nand, Or, Nor, Xor, Xnor, Buf, Not}
use Rattle.bs_net.specs.Gate.{takes}
use Rattle.bs_net.specs.Circuit.{shown}
use Rattle.bs_net.specs.Gate.{is_odd, is_one, gate_value}
use Rattle.bs_net.specs.Steps.{Step, run, put, puts, gate_write, constant_step}
use Rattle.bs_stim.specs.Packing.{bit_in}
use Rattle.bs_lanes.specs.Planes.{bit_place, lane, IsPlane}
use Rattle.bs_lanes.proofs.PlaneLemmas.{lane_put, lane_at, length_lane, and_is_plane, or_is_plane, xor_is_plane, inverse_is_plane, same_plane}
use Rattle.bs_lanes.specs.Settling.{net_bit, HasPlane, RunsTo, lane_loads}

-- ---- where planes lie

-- a plane that the words have is one of their planes
pub within : (wide count plane r : ℕ) (words : List ℕ) → HasPlane wide words plane → length words ≡ count * wide → r < 64 * wide → plane < count
within wide count plane r words room size lt =
    ⊎_elim (λ (h : plane < count). h)
    (λ (h : count ≤ plane).
    ⊎_elim
    (λ (e : count ≡ plane).
    let P : ℕ → Type 0 = λ k. k * wide + wide ≤ length words in
    let room' : count * wide + wide ≤ length words = subst P (sym e) room in
    absurd (omega (arith, room', size, lt)))
    (λ (ne : count ≢ plane).
    let far : count * wide + wide ≤ plane * wide = row_fits count wide plane wide (omega (arith, h, ne)) (omega arith) in
    absurd (omega (arith, far, room, size, lt)))
    (cases_eq count plane))
    (cases_lt plane count)

pub has_plane : (wide count plane : ℕ) (words : List ℕ) → plane < count → length words ≡ count * wide → HasPlane wide words plane
has_plane wide count plane words lt size = omega (arith, row_fits plane wide count wide lt (omega arith), size)

pub keeps_planes : (wide : ℕ) (old new : List ℕ) (ns : List NetId) → length new ≡ length old → All (λ (n : NetId). HasPlane wide old n.0) ns →
    All (λ (n : NetId). HasPlane wide new n.0) ns
keeps_planes wide old new ns size h =
    All-weaker (λ (n : NetId). HasPlane wide old n.0) (λ (n : NetId). HasPlane wide new n.0) (λ n k. omega (arith, k, size)) ns h

pub keeps_plane : (wide plane : ℕ) (old new : List ℕ) → length new ≡ length old → HasPlane wide old plane → HasPlane wide new plane
keeps_plane wide plane old new size h = omega (arith, h, size)

-- what a lane shows on some nets
pub shown_bits : (wide count r : ℕ) (words : List ℕ) (ns : List NetId) → length words ≡ count * wide → r < 64 * wide →
    All (λ (n : NetId). HasPlane wide words n.0) ns → shown (lane wide count words r) ns ≡ map (net_bit wide words r) ns
shown_bits wide count r words ns size lt h = go ns (recursion_from_All (λ (n : NetId). HasPlane wide words n.0) ns h)
  where
    go : (ms : List NetId) → AllByRecursion (λ (n : NetId). HasPlane wide words n.0) ms → shown (lane wide count words r) ms ≡ map (net_bit wide words r) ms
    go [] a = refl
    go (m ∷ ms) a =
        ap (λ b. b ∷ shown (lane wide count words r) ms) (lane_at wide count words r m.0 (within wide count m.0 r words a.0 size lt))
        ∙ ap (λ bs. net_bit wide words r m ∷ bs) (go ms a.1)

-- ---- writes

pub none_left : (wide : ℕ) (whole : ℕ → List Step) (old : List ℕ) → RunsTo wide whole whole old old
none_left wide whole old = record { size = refl; each = λ count r e lt. refl }

pub left_as : (wide : ℕ) (left left' whole : ℕ → List Step) (old now : List ℕ) → ((r : ℕ) → left r ≡ left' r) → RunsTo wide left whole old now →
    RunsTo wide left' whole old now
left_as wide left left' whole old now same h =
    record { size = h.size; each = λ count r e lt. sym (ap (λ ss. run ss (lane wide count now r)) (same r)) ∙ h.each count r e lt }

-- a plane is written: in each lane one write is made
pub one_write : (wide t : ℕ) (s : ℕ → Step) (left whole : ℕ → List Step) (old now p : List ℕ) → RunsTo wide (λ r. s r ∷ left r) whole old now →
    HasPlane wide now t → length p ≡ wide →
    ((r : ℕ) → (s r).target ≡ t) →
    ((count r : ℕ) → length now ≡ count * wide → r < 64 * wide → bit_in p r ≡ (s r).rule (shown (lane wide count now r) (s r).reads)) →
    RunsTo wide left whole old (put_chunk (t * wide) now p)
one_write wide t s left whole old now p h room long target value =
    record {
      size = length-put_chunk (t * wide) now p ∙ h.size;
      each =
          λ count r e lt.
          let size : length now ≡ count * wide = h.size ∙ e in
          let v : List Bool = lane wide count now r in
          let here : t < count = within wide count t r now room size lt in
          let written : lane wide count (put_chunk (t * wide) now p) r ≡ set v t (bit_in p r) =
          lane_put wide count t r now p long lt here (omega (arith, size)) in
          ap (run (left r)) (written ∙ (ap (set v t) (value count r size lt) ∙ ap (λ k. set v k ((s r).rule (shown v (s r).reads))) (sym (target r))))
          ∙ h.each count r e lt;
    }

-- the planes of some bits, net by net
pub puts_next : (ns : List NetId) (bs : List Bool) (i : ℕ) (d : NetId) → i < length ns → i < length bs →
    puts (drop i ns) (drop i bs) ≡ put (get_or ns i d).0 (get_or bs i false) ∷ puts (drop (i + 1) ns) (drop (i + 1) bs)
puts_next ns bs i d ln lb =
    ap (λ u. puts u (drop i bs)) (drop_more ns i d ln) ∙ ap (puts (get_or ns i d ∷ drop (i + 1) ns)) (drop_more bs i false lb)

pub one_put : (wide count : ℕ) (ns : List NetId) (i : ℕ) (d : NetId) (planes old now p : List ℕ) (whole : ℕ → List Step) → length ns ≡ count → i < count →
    RunsTo wide (λ r. puts (drop i ns) (drop i (lane wide count planes r))) whole old now → HasPlane wide now (get_or ns i d).0 →
    IsPlane wide p (λ r. bit_in planes (bit_place wide i r)) →
    RunsTo wide (λ r. puts (drop (i + 1) ns) (drop (i + 1) (lane wide count planes r))) whole old (put_chunk ((get_or ns i d).0 * wide) now p)
one_put wide count ns i d planes old now p whole same lt h room q =
    let n = get_or ns i d in
    let bits : ℕ → List Bool = λ r. lane wide count planes r in
    one_write wide n.0 (λ r. put n.0 (get_or (bits r) i false)) (λ r. puts (drop (i + 1) ns) (drop (i + 1) (bits r))) whole old now p
    (left_as wide _ _ whole old now (λ r. puts_next ns (bits r) i d (omega (arith, lt, same)) (omega (arith, lt, length_lane wide count planes r))) h)
    room q.long (λ r. refl) (λ c r size small. q.each r small ∙ sym (lane_at wide count planes r i lt))

pub no_puts : (wide count : ℕ) (ns : List NetId) (i : ℕ) (planes : List ℕ) (whole : ℕ → List Step) (old now : List ℕ) → length ns ≤ i →
    RunsTo wide (λ r. puts (drop i ns) (drop i (lane wide count planes r))) whole old now → RunsTo wide (λ r. []) whole old now
no_puts wide count ns i planes whole old now ge h =
    left_as wide _ _ whole old now (λ r. ap (λ u. puts u (drop i (lane wide count planes r))) (drop_all i ns ge)) h

-- the constants
pub one_constant : (wide : ℕ) (ks : List Const) (i : ℕ) (d : Const) (old now p : List ℕ) (whole : ℕ → List Step) → i < length ks →
    RunsTo wide (λ r. map constant_step (drop i ks)) whole old now → HasPlane wide now (get_or ks i d).net.0 → IsPlane wide p (λ r. (get_or ks i d).value) →
    RunsTo wide (λ r. map constant_step (drop (i + 1) ks)) whole old (put_chunk ((get_or ks i d).net.0 * wide) now p)
one_constant wide ks i d old now p whole lt h room q =
    let k = get_or ks i d in
    one_write wide k.net.0 (λ r. constant_step k) (λ r. map constant_step (drop (i + 1) ks)) whole old now p
    (left_as wide _ _ whole old now (λ r. ap (map constant_step) (drop_more ks i d lt)) h)
    room q.long (λ r. refl) (λ c r size small. q.each r small)

-- the gates
pub one_gate : (wide : ℕ) (gates : List Gate) (i : ℕ) (d g : Gate) (old now p : List ℕ) (whole : ℕ → List Step) → i < length gates →
    g ≡ get_or gates i d → RunsTo wide (λ r. map gate_write (drop i gates)) whole old now → HasPlane wide now g.out.0 →
    All (λ (n : NetId). HasPlane wide now n.0) g.ins →
    IsPlane wide p (λ r. gate_value g.kind (map (net_bit wide now r) g.ins)) →
    RunsTo wide (λ r. map gate_write (drop (i + 1) gates)) whole old (put_chunk (g.out.0 * wide) now p)
one_gate wide gates i d g old now p whole lt is h room ins q =
    let rest : List Step = map gate_write (drop (i + 1) gates) in
    one_write wide g.out.0 (λ r. gate_write g) (λ r. rest) whole old now p
    (left_as wide _ _ whole old now (λ r. ap (map gate_write) (drop_more gates i d lt) ∙ ap (λ h. gate_write h ∷ rest) (sym is)) h)
    room q.long (λ r. refl)
    (λ c r size small. q.each r small ∙ ap (gate_value g.kind) (sym (shown_bits wide c r now g.ins size small ins)))

-- ---- what flip-flops load

-- one flip-flop more
pub one_load : (wide : ℕ) (nets flops p : List ℕ) (ns : List Flop) (i : ℕ) (d : Flop) → i < length ns → length flops ≡ length ns * wide →
    ((r : ℕ) → r < 64 * wide → take i (lane wide (length ns) flops r) ≡ map (lane_loads wide nets r) (take i ns)) →
    IsPlane wide p (λ r. lane_loads wide nets r (get_or ns i d)) → (r : ℕ) → r < 64 * wide →
    take (i + 1) (lane wide (length ns) (put_chunk (i * wide) flops p) r) ≡ map (lane_loads wide nets r) (take (i + 1) ns)
one_load wide nets flops p ns i d lt size so_far q r small =
    let v : List Bool = lane wide (length ns) flops r in
    let load : Flop → Bool = lane_loads wide nets r in
    let here : i < length v = omega (arith, lt, length_lane wide (length ns) flops r) in
    ap (take (i + 1)) (lane_put wide (length ns) i r flops p q.long small lt (omega (arith, size)))
    ∙ (take-set_at v i (i + 1) (bit_in p r) refl here
    ∙ (ap (λ bs. bs ++ bit_in p r ∷ []) (so_far r small)
    ∙ (ap (λ b. map load (take i ns) ++ b ∷ []) (q.each r small)
    ∙ (sym (map-append load (take i ns) (get_or ns i d ∷ [])) ∙ ap (map load) (sym (take_more ns i d lt))))))

-- one flip-flop more at reset
pub one_reset : (wide : ℕ) (flops p : List ℕ) (fs : List Flop) (i : ℕ) (d : Flop) → i < length fs → length flops ≡ length fs * wide →
    ((r : ℕ) → r < 64 * wide → take i (lane wide (length fs) flops r) ≡ map (λ (f : Flop). f.reset) (take i fs)) → IsPlane wide p (λ r. (get_or fs i d).reset) →
    (r : ℕ) → r < 64 * wide → take (i + 1) (lane wide (length fs) (put_chunk (i * wide) flops p) r) ≡ map (λ (f : Flop). f.reset) (take (i + 1) fs)
one_reset wide flops p fs i d lt size so_far q r small =
    let v : List Bool = lane wide (length fs) flops r in
    let reset : Flop → Bool = λ f. f.reset in
    let here : i < length v = omega (arith, lt, length_lane wide (length fs) flops r) in
    ap (take (i + 1)) (lane_put wide (length fs) i r flops p q.long small lt (omega (arith, size)))
    ∙ (take-set_at v i (i + 1) (bit_in p r) refl here
    ∙ (ap (λ bs. bs ++ bit_in p r ∷ []) (so_far r small)
    ∙ (ap (λ b. map reset (take i fs) ++ b ∷ []) (q.each r small)
    ∙ (sym (map-append reset (take i fs) (get_or fs i d ∷ [])) ∙ ap (map reset) (sym (take_more fs i d lt))))))

-- all flip-flops
pub all_taken : {X : Type 0} (wide : ℕ) (flops : List ℕ) (fs : List X) (i : ℕ) (f : X → Bool) (r : ℕ) → length fs ≤ i →
    take i (lane wide (length fs) flops r) ≡ map f (take i fs) → lane wide (length fs) flops r ≡ map f fs
all_taken wide flops fs i f r ge h =
    sym (take_all i (lane wide (length fs) flops r) (omega (arith, ge, length_lane wide (length fs) flops r))) ∙ (h ∙ ap (map f) (take_all i fs ge))

-- ---- the inputs of a gate, one after another

pub odd_more : (bits : List Bool) (b : Bool) → is_odd (bits ++ b ∷ []) ≡ not (beq (is_odd bits) b)
odd_more bits b = ap (λ n. n % 2 == 1) (counted bits b) ∙ by b (count_by is_one bits)
  where
    counted : (bs : List Bool) (c : Bool) → count_by is_one (bs ++ c ∷ []) ≡ count_by is_one bs + count_by is_one (c ∷ [])
    counted bs c = sum_by-append _ bs (c ∷ [])

    by : (c : Bool) (n : ℕ) → ((n + count_by is_one (c ∷ [])) % 2 == 1) ≡ not (beq (n % 2 == 1) c)
    by true n = odd n (n % 2) refl (omega arith)
      where
        odd : (m k : ℕ) → m % 2 ≡ k → k < 2 → ((m + 1) % 2 == 1) ≡ not (beq (k == 1) true)
        odd m zero e lt = let z : (m + 1) % 2 ≡ 1 = omega (arith, e) in ap (λ x. x == 1) z
        odd m (suc zero) e lt = let z : (m + 1) % 2 ≡ 0 = omega (arith, e) in ap (λ x. x == 1) z
        odd m (suc (suc k)) e lt = absurd (omega (arith, lt))
    by false n = even n (n % 2) refl (omega arith)
      where
        even : (m k : ℕ) → m % 2 ≡ k → k < 2 → ((m + 0) % 2 == 1) ≡ not (beq (k == 1) false)
        even m zero e lt = let z : (m + 0) % 2 ≡ 0 = omega (arith, e) in ap (λ x. x == 1) z
        even m (suc zero) e lt = let z : (m + 0) % 2 ≡ 1 = omega (arith, e) in ap (λ x. x == 1) z
        even m (suc (suc k)) e lt = absurd (omega (arith, lt))

-- one input more

pub all_more : (wide : ℕ) (words : List ℕ) (ns : List NetId) (i : ℕ) (d : NetId) (plane p : List ℕ) → i < length ns →
    IsPlane wide plane (λ r. list_all (net_bit wide words r) (take i ns)) →
    IsPlane wide p (λ r. net_bit wide words r (get_or ns i d)) → IsPlane wide (zip2 bit_and plane p) (λ r. list_all (net_bit wide words r) (take (i + 1) ns))
all_more wide words ns i d plane p lt a b =
    same_plane wide _ _ _ (λ r. sym (list_all_more (net_bit wide words r) ns i d lt)) (and_is_plane wide plane p _ _ a b)

pub any_more : (wide : ℕ) (words : List ℕ) (ns : List NetId) (i : ℕ) (d : NetId) (plane p : List ℕ) → i < length ns →
    IsPlane wide plane (λ r. list_any (net_bit wide words r) (take i ns)) →
    IsPlane wide p (λ r. net_bit wide words r (get_or ns i d)) → IsPlane wide (zip2 bit_or plane p) (λ r. list_any (net_bit wide words r) (take (i + 1) ns))
any_more wide words ns i d plane p lt a b =
    same_plane wide _ _ _ (λ r. sym (list_any_more (net_bit wide words r) ns i d lt)) (or_is_plane wide plane p _ _ a b)

pub odd_next : (wide : ℕ) (words : List ℕ) (ns : List NetId) (i : ℕ) (d : NetId) (plane p : List ℕ) → i < length ns →
    IsPlane wide plane (λ r. is_odd (map (net_bit wide words r) (take i ns))) →
    IsPlane wide p (λ r. net_bit wide words r (get_or ns i d)) →
    IsPlane wide (zip2 bit_xor plane p) (λ r. is_odd (map (net_bit wide words r) (take (i + 1) ns)))
odd_next wide words ns i d plane p lt a b =
    same_plane wide _ _ _
    (λ r.
    let f : NetId → Bool = net_bit wide words r in
    sym (ap (λ ms. is_odd (map f ms)) (take_more ns i d lt) ∙ (ap is_odd (map-append f (take i ns) (get_or ns i d ∷ [])) ∙
    odd_more (map f (take i ns)) (f (get_or ns i d)))))
    (xor_is_plane wide plane p _ _ a b)

-- ---- the value of a gate by its kind

all_mapped : (f : NetId → Bool) (ns : List NetId) → list_all f ns ≡ list_all is_one (map f ns)
all_mapped f [] = refl
all_mapped f (n ∷ ns) = ap (λ b. f n && b) (all_mapped f ns)

any_mapped : (f : NetId → Bool) (ns : List NetId) → list_any f ns ≡ list_any is_one (map f ns)
any_mapped f [] = refl
any_mapped f (n ∷ ns) = ap (λ b. f n || b) (any_mapped f ns)

pub one_mapped : (f : NetId → Bool) (ns : List NetId) (d : NetId) → 0 < length ns → f (get_or ns 0 d) ≡ get_or (map f ns) 0 false
one_mapped f [] d lt = absurd (omega (arith, lt))
one_mapped f (n ∷ ns) d lt = refl

-- a plane that has a gate's value, where that is known by its kind
by_kind : (wide : ℕ) (words : List ℕ) (ns ms : List NetId) (kind k : Kind) (plane : List ℕ) (f : ℕ → List NetId → Bool) → kind ≡ k → ms ≡ ns →
    ((r : ℕ) → f r ns ≡ gate_value k (map (net_bit wide words r) ns)) → IsPlane wide plane (λ r. f r ms) →
    IsPlane wide plane (λ r. gate_value kind (map (net_bit wide words r) ns))
by_kind wide words ns ms kind k plane f e same value p =
    same_plane wide plane _ _ (λ r. ap (f r) same ∙ (value r ∙ ap (λ j. gate_value j (map (net_bit wide words r) ns)) (sym e))) p

pub and_gate : (wide : ℕ) (words : List ℕ) (ns ms : List NetId) (kind : Kind) (p : List ℕ) → kind ≡ And → ms ≡ ns →
    IsPlane wide p (λ r. list_all (net_bit wide words r) ms) →
    IsPlane wide p (λ r. gate_value kind (map (net_bit wide words r) ns))
and_gate wide words ns ms kind p e same h = by_kind wide words ns ms kind And p (λ r ks. list_all (net_bit wide words r) ks) e same (λ r. all_mapped _ ns) h

pub nand_gate : (wide : ℕ) (words : List ℕ) (ns ms : List NetId) (kind : Kind) (p q : List ℕ) → kind ≡ Nand → ms ≡ ns →
    IsPlane wide p (λ r. list_all (net_bit wide words r) ms) →
    IsPlane wide q (λ r. not (bit_in p r)) → IsPlane wide q (λ r. gate_value kind (map (net_bit wide words r) ns))
nand_gate wide words ns ms kind p q e same h k =
    by_kind wide words ns ms kind Nand q (λ r ks. not (list_all (net_bit wide words r) ks)) e same (λ r. ap not (all_mapped _ ns))
    (inverse_is_plane wide p q _ h k)

pub or_gate : (wide : ℕ) (words : List ℕ) (ns ms : List NetId) (kind : Kind) (p : List ℕ) → kind ≡ Or → ms ≡ ns →
    IsPlane wide p (λ r. list_any (net_bit wide words r) ms) →
    IsPlane wide p (λ r. gate_value kind (map (net_bit wide words r) ns))
or_gate wide words ns ms kind p e same h = by_kind wide words ns ms kind Or p (λ r ks. list_any (net_bit wide words r) ks) e same (λ r. any_mapped _ ns) h

pub nor_gate : (wide : ℕ) (words : List ℕ) (ns ms : List NetId) (kind : Kind) (p q : List ℕ) → kind ≡ Nor → ms ≡ ns →
    IsPlane wide p (λ r. list_any (net_bit wide words r) ms) →
    IsPlane wide q (λ r. not (bit_in p r)) → IsPlane wide q (λ r. gate_value kind (map (net_bit wide words r) ns))
nor_gate wide words ns ms kind p q e same h k =
    by_kind wide words ns ms kind Nor q (λ r ks. not (list_any (net_bit wide words r) ks)) e same (λ r. ap not (any_mapped _ ns))
    (inverse_is_plane wide p q _ h k)

pub xor_gate : (wide : ℕ) (words : List ℕ) (ns ms : List NetId) (kind : Kind) (p : List ℕ) → kind ≡ Xor → ms ≡ ns →
    IsPlane wide p (λ r. is_odd (map (net_bit wide words r) ms)) →
    IsPlane wide p (λ r. gate_value kind (map (net_bit wide words r) ns))
xor_gate wide words ns ms kind p e same h = by_kind wide words ns ms kind Xor p (λ r ks. is_odd (map (net_bit wide words r) ks)) e same (λ r. refl) h

pub xnor_gate : (wide : ℕ) (words : List ℕ) (ns ms : List NetId) (kind : Kind) (p q : List ℕ) → kind ≡ Xnor → ms ≡ ns →
    IsPlane wide p (λ r. is_odd (map (net_bit wide words r) ms)) →
    IsPlane wide q (λ r. not (bit_in p r)) → IsPlane wide q (λ r. gate_value kind (map (net_bit wide words r) ns))
xnor_gate wide words ns ms kind p q e same h k =
    by_kind wide words ns ms kind Xnor q (λ r ks. not (is_odd (map (net_bit wide words r) ks))) e same (λ r. refl) (inverse_is_plane wide p q _ h k)

pub buf_gate : (wide : ℕ) (words : List ℕ) (ns ms : List NetId) (kind : Kind) (d : NetId) (p : List ℕ) → kind ≡ Buf → 0 < length ns → ms ≡ ns →
    IsPlane wide p (λ r. net_bit wide words r (get_or ms 0 d)) → IsPlane wide p (λ r. gate_value kind (map (net_bit wide words r) ns))
buf_gate wide words ns ms kind d p e some same h =
    by_kind wide words ns ms kind Buf p (λ r ks. net_bit wide words r (get_or ks 0 d)) e same (λ r. one_mapped _ ns d some) h

pub not_gate : (wide : ℕ) (words : List ℕ) (ns ms : List NetId) (kind : Kind) (d : NetId) (p q : List ℕ) → kind ≡ Not → 0 < length ns → ms ≡ ns →
    IsPlane wide p (λ r. net_bit wide words r (get_or ms 0 d)) → IsPlane wide q (λ r. not (bit_in p r)) →
    IsPlane wide q (λ r. gate_value kind (map (net_bit wide words r) ns))
not_gate wide words ns ms kind d p q e some same h k =
    by_kind wide words ns ms kind Not q (λ r ks. not (net_bit wide words r (get_or ks 0 d))) e same (λ r. ap not (one_mapped _ ns d some))
    (inverse_is_plane wide p q _ h k)

-- a gate has an input
pub some_input : (k : Kind) (n : ℕ) → IsTrue (takes k n) → 0 < n
some_input And zero t = absurd (false≢true t)
some_input And (suc n) t = omega arith
some_input Nand zero t = absurd (false≢true t)
some_input Nand (suc n) t = omega arith
some_input Or zero t = absurd (false≢true t)
some_input Or (suc n) t = omega arith
some_input Nor zero t = absurd (false≢true t)
some_input Nor (suc n) t = omega arith
some_input Xor zero t = absurd (false≢true t)
some_input Xor (suc n) t = omega arith
some_input Xnor zero t = absurd (false≢true t)
some_input Xnor (suc n) t = omega arith
some_input Buf zero t = absurd (false≢true t)
some_input Buf (suc n) t = omega arith
some_input Not zero t = absurd (false≢true t)
some_input Not (suc n) t = omega arith
