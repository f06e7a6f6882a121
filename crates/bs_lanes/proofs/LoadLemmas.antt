-- What flip-flops load, plane by plane and lane by lane.
use Rattle.std.proofs.Common.{◌≡◌, ℕ, ◌<◌, ◌≤◌, ◌*◌, Bool, true, false, not, cond, ◌&&◌, ◌||◌, List, length, refl, arith, subst, ap, sym, ◌∙◌}
use Rattle.std.specs.List.{All}
use Rattle.std.specs.Int.Bits.{bit_and, bit_or}
use Rattle.std.specs.Simd.Lanes.{zip2}
use Rattle.std.proofs.lemmas.Nat.{mul-le}
use Rattle.bs_net.specs.declared.net.NetId.{NetId}
use Rattle.bs_net.specs.declared.net.Flop.{Flop}
use Rattle.bs_net.specs.declared.net.Mode.{Mode}
use Rattle.bs_net.specs.declared.net.Mode.TheVariants.{Plain, Enable, Clear}
use Rattle.bs_net.specs.Circuit.{bit_at, mode_loads}
use Rattle.bs_net.specs.Parts.{mode_nets}
use Rattle.bs_stim.specs.Packing.{bit_in}
use Rattle.bs_lanes.specs.Planes.{lane, IsPlane}
use Rattle.bs_lanes.proofs.PlaneLemmas.{lane_at, and_is_plane, or_is_plane, same_plane}
use Rattle.bs_lanes.specs.Settling.{net_bit, HasPlane, HasFlop, lane_loads}

-- ---- planes of a choice and of a clear

own_bits : (wide : ℕ) (p : List ℕ) → length p ≡ wide → IsPlane wide p (bit_in p)
own_bits wide p e = record { long = e; each = λ r lt. refl }

chosen_bit : (c a b : Bool) → ((c && a) || (not c && b)) ≡ cond c a b
chosen_bit true true b = refl
chosen_bit true false b = refl
chosen_bit false a b = refl

pub chosen_is : (wide : ℕ) (c a b n : List ℕ) → length c ≡ wide → length a ≡ wide → length b ≡ wide → IsPlane wide n (λ r. not (bit_in c r)) →
    IsPlane wide (zip2 bit_or (zip2 bit_and c a) (zip2 bit_and n b)) (λ r. cond (bit_in c r) (bit_in a r) (bit_in b r))
chosen_is wide c a b n lc la lb h =
    same_plane wide _ _ _ (λ r. chosen_bit (bit_in c r) (bit_in a r) (bit_in b r))
    (or_is_plane wide _ _ _ _ (and_is_plane wide c a _ _ (own_bits wide c lc) (own_bits wide a la))
    (and_is_plane wide n b _ _ h (own_bits wide b lb)))

pub cleared_is : (wide : ℕ) (c a n : List ℕ) → length a ≡ wide → IsPlane wide n (λ r. not (bit_in c r)) →
    IsPlane wide (zip2 bit_and n a) (λ r. not (bit_in c r) && bit_in a r)
cleared_is wide c a n la h = and_is_plane wide n a _ _ h (own_bits wide a la)

-- ---- the bits of a lane

-- a plane that the words have is below their number
below_length : (wide n r : ℕ) (words : List ℕ) → HasPlane wide words n → r < 64 * wide → n < length words
below_length wide n r words h lt =
    let more : n * 1 ≤ n * wide = mul-le n 1 n wide (omega arith) (omega (arith, lt)) in
    omega (arith, more, h, lt)

-- a net's bit in a lane
pub lane_bit_is : (wide r : ℕ) (words : List ℕ) (n : NetId) → HasPlane wide words n.0 → r < 64 * wide →
    bit_at (lane wide (length words) words r) n.0 ≡ net_bit wide words r n
lane_bit_is wide r words n h lt = lane_at wide (length words) words r n.0 (below_length wide n.0 r words h lt)

-- what a mode loads, where the mode is known
by_mode : (wide r : ℕ) (words : List ℕ) (f : Flop) (m : Mode) → f.mode ≡ m → HasPlane wide words f.q.0 → HasPlane wide words f.d.0 → r < 64 * wide →
    mode_loads (lane wide (length words) words r) m (net_bit wide words r f.d) (net_bit wide words r f.q) ≡ lane_loads wide words r f
by_mode wide r words f m e q d lt =
    let v : List Bool = lane wide (length words) words r in
    ap (λ b. mode_loads v m b (net_bit wide words r f.q)) (sym (lane_bit_is wide r words f.d d lt))
    ∙ (ap (λ b. mode_loads v m (bit_at v f.d.0) b) (sym (lane_bit_is wide r words f.q q lt))
    ∙ ap (λ k. mode_loads v k (bit_at v f.d.0) (bit_at v f.q.0)) (sym e))

pub plain_load : (wide : ℕ) (words : List ℕ) (f : Flop) (p : List ℕ) → f.mode ≡ Plain → HasFlop wide words f →
    IsPlane wide p (λ r. net_bit wide words r f.d) → IsPlane wide p (λ r. lane_loads wide words r f)
plain_load wide words f p e h i =
    record { long = i.long; each = λ r lt. i.each r lt ∙ by_mode wide r words f Plain e h.0 h.1 lt }

mode_net : (wide : ℕ) (words : List ℕ) (f : Flop) (m : Mode) → f.mode ≡ m → HasFlop wide words f →
    All (λ (n : NetId). HasPlane wide words n.0) (mode_nets m)
mode_net wide words f m e h =
    let P : Mode → Type 0 = λ k. All (λ (n : NetId). HasPlane wide words n.0) (mode_nets k) in
    subst P e h.2

pub enable_load : (wide : ℕ) (words : List ℕ) (f : Flop) (e : NetId) (c a b p : List ℕ) → f.mode ≡ Enable e → HasFlop wide words f →
    IsPlane wide c (λ r. net_bit wide words r e) → IsPlane wide a (λ r. net_bit wide words r f.d) → IsPlane wide b (λ r. net_bit wide words r f.q) →
    IsPlane wide p (λ r. cond (bit_in c r) (bit_in a r) (bit_in b r)) → IsPlane wide p (λ r. lane_loads wide words r f)
enable_load wide words f e c a b p is h pc pa pb pp =
    record {
      long = pp.long;
      each =
          λ r lt.
          let here : HasPlane wide words e.0 = mode_net wide words f (Enable e) is h 0 e (omega arith) in
          pp.each r lt
          ∙ (ap (λ t. cond t (bit_in a r) (bit_in b r)) (pc.each r lt ∙ sym (lane_bit_is wide r words e here lt))
          ∙ (ap (λ t. cond (bit_at (lane wide (length words) words r) e.0) t (bit_in b r)) (pa.each r lt)
          ∙ (ap (λ t. cond (bit_at (lane wide (length words) words r) e.0) (net_bit wide words r f.d) t) (pb.each r lt)
          ∙ by_mode wide r words f (Enable e) is h.0 h.1 lt)));
    }

cleared_bit : (c a : Bool) → (not c && a) ≡ cond c false a
cleared_bit true a = refl
cleared_bit false a = refl

pub clear_load : (wide : ℕ) (words : List ℕ) (f : Flop) (k : NetId) (c a p : List ℕ) → f.mode ≡ Clear k → HasFlop wide words f →
    IsPlane wide c (λ r. net_bit wide words r k) → IsPlane wide a (λ r. net_bit wide words r f.d) →
    IsPlane wide p (λ r. not (bit_in c r) && bit_in a r) → IsPlane wide p (λ r. lane_loads wide words r f)
clear_load wide words f k c a p is h pc pa pp =
    record {
      long = pp.long;
      each =
          λ r lt.
          let here : HasPlane wide words k.0 = mode_net wide words f (Clear k) is h 0 k (omega arith) in
          pp.each r lt
          ∙ (cleared_bit (bit_in c r) (bit_in a r)
          ∙ (ap (λ t. cond t false (bit_in a r)) (pc.each r lt ∙ sym (lane_bit_is wide r words k here lt))
          ∙ (ap (λ t. cond (bit_at (lane wide (length words) words r) k.0) false t) (pa.each r lt)
          ∙ by_mode wide r words f (Clear k) is h.0 h.1 lt)));
    }
