-- The mark of what is made of bits says what holds of it.
use Rattle.std.proofs.Common.{◌≡◌, ℕ, ◌<◌, ◌+◌, ◌%◌, Bool, true, false, not, ◌&&◌, ◌||◌, cond, List, [], ◌∷◌, length, set, refl, subst, ap, sym, ◌∙◌}
use Rattle.std.proofs.Common.{⊎_elim, arith, nat_eq, get_or-set_same, get_or-set_other}
use Rattle.std.specs.Prelude.{count_by, fold, IsTrue}
use Rattle.std.specs.List.{list_all, list_any}
use Rattle.std.proofs.lemmas.Bool.{cases_eq, false≢true}
use Rattle.std.proofs.lemmas.List.Sums.{sum_by-cons}
use Rattle.bs_net.specs.declared.net.NetId.{NetId}
use Rattle.bs_net.specs.declared.net.Flop.{Flop}
use Rattle.bs_net.specs.declared.net.Mode.{Mode}
use Rattle.bs_net.specs.declared.net.Mode.TheVariants.{Plain, Enable, Clear}
use Rattle.bs_net.specs.declared.gate.Kind.{Kind}
use Rattle.bs_net.specs.declared.gate.Kind.TheVariants.{And, Nand, Or, Nor, Xor, Xnor, Buf, Not}
use Rattle.bs_net.specs.Circuit.{bit_at, shown, loaded, mode_loads}
use Rattle.bs_net.specs.Gate.{gate_value, is_one, is_odd, takes}
use Rattle.bs_sim.specs.declared.mark.Mark.{Mark}
use Rattle.bs_sim.specs.declared.mark.Mark.TheVariants.{Low, High, Still, Moved}
use Rattle.bs_sim.specs.Marks.{Holds, Hold, mark_at, fixed, flipped, met, joined, differed, all_mark, any_mark, odd_mark, gate_mark, mode_mark, flop_mark, is_known}

-- ---- one or two bits

-- of other bits that are the same
pub holds_of : (m : Mark) (p q r s : Bool) → p ≡ r → q ≡ s → Holds m r s → Holds m p q
holds_of m p q r s e k h =
    let one : Holds m p s = subst (λ (b : Bool). Holds m b s) (sym e) h in
    subst (λ (b : Bool). Holds m p b) (sym k) one

pub fixed_holds : (bit p q : Bool) → p ≡ bit → q ≡ bit → Holds (fixed bit) p q
fixed_holds true p q e k = (e, k)
fixed_holds false p q e k = (e, k)

pub flipped_holds : (m : Mark) (p q : Bool) → Holds m p q → Holds (flipped m) (not p) (not q)
flipped_holds Low p q h = (ap not h.0, ap not h.1)
flipped_holds High p q h = (ap not h.0, ap not h.1)
flipped_holds Still p q h = ap not h
flipped_holds Moved p q h = tt

and_low : (p r : Bool) → r ≡ false → (p && r) ≡ false
and_low true r e = e
and_low false r e = refl

pub met_holds : (m n : Mark) (p q r s : Bool) → Holds m p q → Holds n r s → Holds (met m n) (p && r) (q && s)
met_holds Low n p q r s h k = (ap (λ b. b && r) h.0, ap (λ b. b && s) h.1)
met_holds High n p q r s h k = holds_of n (p && r) (q && s) r s (ap (λ b. b && r) h.0) (ap (λ b. b && s) h.1) k
met_holds Still Low p q r s h k = (and_low p r k.0, and_low q s k.1)
met_holds Still High p q r s h k = ap (λ b. b && r) h ∙ ap (λ b. q && b) (k.0 ∙ sym k.1)
met_holds Still Still p q r s h k = ap (λ b. b && r) h ∙ ap (λ b. q && b) k
met_holds Still Moved p q r s h k = tt
met_holds Moved Low p q r s h k = (and_low p r k.0, and_low q s k.1)
met_holds Moved High p q r s h k = tt
met_holds Moved Still p q r s h k = tt
met_holds Moved Moved p q r s h k = tt

or_is : (p r : Bool) → (p || r) ≡ not (not p && not r)
or_is true r = refl
or_is false true = refl
or_is false false = refl

pub joined_holds : (m n : Mark) (p q r s : Bool) → Holds m p q → Holds n r s → Holds (joined m n) (p || r) (q || s)
joined_holds m n p q r s h k =
    holds_of (joined m n) (p || r) (q || s) (not (not p && not r)) (not (not q && not s)) (or_is p r) (or_is q s)
    (flipped_holds (met (flipped m) (flipped n)) (not p && not r) (not q && not s)
    (met_holds (flipped m) (flipped n) (not p) (not q) (not r) (not s) (flipped_holds m p q h) (flipped_holds n r s k)))

-- whether two bits differ
abbrev pub xor : Bool → Bool → Bool
xor true b = not b
xor false b = b

pub differed_holds : (m n : Mark) (p q r s : Bool) → Holds m p q → Holds n r s → Holds (differed m n) (xor p r) (xor q s)
differed_holds Low n p q r s h k = holds_of n (xor p r) (xor q s) r s (ap (λ b. xor b r) h.0) (ap (λ b. xor b s) h.1) k
differed_holds High n p q r s h k =
    holds_of (flipped n) (xor p r) (xor q s) (not r) (not s) (ap (λ b. xor b r) h.0) (ap (λ b. xor b s) h.1) (flipped_holds n r s k)
differed_holds Still Low p q r s h k = ap (λ b. xor b r) h ∙ ap (xor q) (k.0 ∙ sym k.1)
differed_holds Still High p q r s h k = ap (λ b. xor b r) h ∙ ap (xor q) (k.0 ∙ sym k.1)
differed_holds Still Still p q r s h k = ap (λ b. xor b r) h ∙ ap (xor q) k
differed_holds Still Moved p q r s h k = tt
differed_holds Moved n p q r s h k = tt

pub known_same : (m : Mark) (p q : Bool) → is_known m ≡ true → Holds m p q → p ≡ q
known_same Low p q e h = h.0 ∙ sym h.1
known_same High p q e h = h.0 ∙ sym h.1
known_same Still p q e h = h
known_same Moved p q e h = absurd (false≢true e)

-- ---- a gate

odd_cons : (b : Bool) (bits : List Bool) → is_odd (b ∷ bits) ≡ xor b (is_odd bits)
odd_cons true bits =
    ap (λ n. nat_eq (n % 2) 1) (sum_by-cons (λ (b : Bool). cond (is_one b) 1 0) true bits) ∙ one_more (count_by is_one bits)
  where
    one_more : (n : ℕ) → nat_eq ((1 + n) % 2) 1 ≡ not (nat_eq (n % 2) 1)
    one_more n = grind arith
odd_cons false bits =
    ap (λ n. nat_eq (n % 2) 1) (sum_by-cons (λ (b : Bool). cond (is_one b) 1 0) false bits) ∙ no_more (count_by is_one bits)
  where
    no_more : (n : ℕ) → nat_eq ((0 + n) % 2) 1 ≡ nat_eq (n % 2) 1
    no_more n = grind arith

and_assoc : (p q r : Bool) → (p && (q && r)) ≡ ((p && q) && r)
and_assoc true q r = refl
and_assoc false q r = refl

or_assoc : (p q r : Bool) → (p || (q || r)) ≡ ((p || q) || r)
or_assoc true q r = refl
or_assoc false q r = refl

xor_assoc : (p q r : Bool) → xor p (xor q r) ≡ xor (xor p q) r
xor_assoc true true true = refl
xor_assoc true true false = refl
xor_assoc true false r = refl
xor_assoc false q r = refl

and_true : (p : Bool) → (p && true) ≡ p
and_true true = refl
and_true false = refl

or_false : (p : Bool) → (p || false) ≡ p
or_false true = refl
or_false false = refl

xor_false : (p : Bool) → xor p false ≡ p
xor_false true = refl
xor_false false = refl

module _ (marks : List Mark) (v w : List Bool) (hold : Hold marks v w) where
  all_from : (ns : List NetId) (m : Mark) (p q : Bool) → Holds m p q →
      Holds (fold (λ mark (n : NetId). met mark (mark_at marks n.0)) m ns) (p && list_all is_one (shown v ns)) (q && list_all is_one (shown w ns))
  all_from [] m p q h = holds_of m (p && true) (q && true) p q (and_true p) (and_true q) h
  all_from (n ∷ ns) m p q h =
      let a = bit_at v n.0 in
      let b = bit_at w n.0 in
      holds_of _ (p && (a && list_all is_one (shown v ns))) (q && (b && list_all is_one (shown w ns))) _ _
      (and_assoc p a (list_all is_one (shown v ns))) (and_assoc q b (list_all is_one (shown w ns)))
      (all_from ns (met m (mark_at marks n.0)) (p && a) (q && b) (met_holds m (mark_at marks n.0) p q a b h (hold.each n.0)))

  any_from : (ns : List NetId) (m : Mark) (p q : Bool) → Holds m p q →
      Holds (fold (λ mark (n : NetId). joined mark (mark_at marks n.0)) m ns) (p || list_any is_one (shown v ns)) (q || list_any is_one (shown w ns))
  any_from [] m p q h = holds_of m (p || false) (q || false) p q (or_false p) (or_false q) h
  any_from (n ∷ ns) m p q h =
      let a = bit_at v n.0 in
      let b = bit_at w n.0 in
      holds_of _ (p || (a || list_any is_one (shown v ns))) (q || (b || list_any is_one (shown w ns))) _ _
      (or_assoc p a (list_any is_one (shown v ns))) (or_assoc q b (list_any is_one (shown w ns)))
      (any_from ns (joined m (mark_at marks n.0)) (p || a) (q || b) (joined_holds m (mark_at marks n.0) p q a b h (hold.each n.0)))

  odd_from : (ns : List NetId) (m : Mark) (p q : Bool) → Holds m p q →
      Holds (fold (λ mark (n : NetId). differed mark (mark_at marks n.0)) m ns) (xor p (is_odd (shown v ns))) (xor q (is_odd (shown w ns)))
  odd_from [] m p q h = holds_of m (xor p false) (xor q false) p q (xor_false p) (xor_false q) h
  odd_from (n ∷ ns) m p q h =
      let a = bit_at v n.0 in
      let b = bit_at w n.0 in
      holds_of _ (xor p (is_odd (a ∷ shown v ns))) (xor q (is_odd (b ∷ shown w ns))) _ _
      (ap (xor p) (odd_cons a (shown v ns)) ∙ xor_assoc p a (is_odd (shown v ns)))
      (ap (xor q) (odd_cons b (shown w ns)) ∙ xor_assoc q b (is_odd (shown w ns)))
      (odd_from ns (differed m (mark_at marks n.0)) (xor p a) (xor q b) (differed_holds m (mark_at marks n.0) p q a b h (hold.each n.0)))

  all_holds : (ns : List NetId) → Holds (all_mark marks ns) (list_all is_one (shown v ns)) (list_all is_one (shown w ns))
  all_holds ns = all_from ns High true true (refl, refl)

  any_holds : (ns : List NetId) → Holds (any_mark marks ns) (list_any is_one (shown v ns)) (list_any is_one (shown w ns))
  any_holds ns = any_from ns Low false false (refl, refl)

  odd_holds : (ns : List NetId) → Holds (odd_mark marks ns) (is_odd (shown v ns)) (is_odd (shown w ns))
  odd_holds ns = odd_from ns Low false false (refl, refl)

  -- a gate's mark holds of its values
  pub gate_holds : (kind : Kind) (ns : List NetId) → IsTrue (takes kind (length ns)) →
      Holds (gate_mark marks kind ns) (gate_value kind (shown v ns)) (gate_value kind (shown w ns))
  gate_holds And ns t = all_holds ns
  gate_holds Nand ns t = flipped_holds (all_mark marks ns) _ _ (all_holds ns)
  gate_holds Or ns t = any_holds ns
  gate_holds Nor ns t = flipped_holds (any_mark marks ns) _ _ (any_holds ns)
  gate_holds Xor ns t = odd_holds ns
  gate_holds Xnor ns t = flipped_holds (odd_mark marks ns) _ _ (odd_holds ns)
  gate_holds Buf [] t = absurd (false≢true t)
  gate_holds Buf (n ∷ ns) t = hold.each n.0
  gate_holds Not [] t = absurd (false≢true t)
  gate_holds Not (n ∷ ns) t = flipped_holds (mark_at marks n.0) _ _ (hold.each n.0)

  -- ---- what a flip-flop loads

  mux : (e d q : Bool) → cond e d q ≡ ((e && d) || (not e && q))
  mux true true q = refl
  mux true false q = refl
  mux false d q = refl

  cleared : (r d : Bool) → cond r false d ≡ (not r && d)
  cleared true d = refl
  cleared false d = refl

  mode_holds : (mode : Mode) (m n : Mark) (a b p q : Bool) → Holds m a b → Holds n p q →
      Holds (mode_mark marks mode m n) (mode_loads v mode a p) (mode_loads w mode b q)
  mode_holds Plain m n a b p q h k = h
  mode_holds (Enable e) m n a b p q h k =
      let x = bit_at v e.0 in
      let y = bit_at w e.0 in
      let mark = mark_at marks e.0 in
      holds_of _ (cond x a p) (cond y b q) _ _ (mux x a p) (mux y b q)
      (joined_holds (met mark m) (met (flipped mark) n) (x && a) (y && b) (not x && p) (not y && q)
      (met_holds mark m x y a b (hold.each e.0) h)
      (met_holds (flipped mark) n (not x) (not y) p q (flipped_holds mark x y (hold.each e.0)) k))
  mode_holds (Clear r) m n a b p q h k =
      let x = bit_at v r.0 in
      let y = bit_at w r.0 in
      let mark = mark_at marks r.0 in
      holds_of _ (cond x false a) (cond y false b) _ _ (cleared x a) (cleared y b)
      (met_holds (flipped mark) m (not x) (not y) a b (flipped_holds mark x y (hold.each r.0)) h)

  pub flop_holds : (f : Flop) → Holds (flop_mark marks f) (loaded v f) (loaded w f)
  flop_holds f =
      mode_holds f.mode (mark_at marks f.d.0) (mark_at marks f.q.0) (bit_at v f.d.0) (bit_at w f.d.0) (bit_at v f.q.0) (bit_at w f.q.0)
      (hold.each f.d.0) (hold.each f.q.0)

  -- ---- one net more

  pub hold_set : (n : ℕ) (m : Mark) → n < length marks → Holds m (bit_at v n) (bit_at w n) → Hold (set marks n m) v w
  hold_set n m lt h = record {
    each = λ k.
        ⊎_elim
        (λ (e : k ≡ n).
        let mark : mark_at (set marks n m) k ≡ m = ap (mark_at (set marks n m)) e ∙ get_or-set_same marks n m Moved lt in
        let here : Holds m (bit_at v k) (bit_at w k) = subst (λ (i : ℕ). Holds m (bit_at v i) (bit_at w i)) (sym e) h in
        subst (λ (a : Mark). Holds a (bit_at v k) (bit_at w k)) (sym mark) here)
        (λ (ne : k ≡ n → ⊥).
        subst (λ (a : Mark). Holds a (bit_at v k) (bit_at w k)) (sym (get_or-set_other marks n k m Moved ne)) (hold.each k))
        (cases_eq k n);
  }
