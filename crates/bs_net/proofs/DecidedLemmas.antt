-- The tests of a netlist say what the check decides.
use Rattle.std.proofs.Common.{◌≡◌, ◌≢◌, ℕ, suc, zero, ◌<◌, ◌≤◌, ◌+◌, Bool, true, false, not, ◌||◌, List, [], ◌∷◌, ◌++◌, map, length, refl, arith}
use Rattle.std.proofs.Common.{subst, ap, sym, ◌∙◌, ◌⊎◌, inl, inr, ⊎_elim, nat_eq, nat_lt, ne_eqb, Option, Some, None, is_none}
use Rattle.std.specs.Bool.{Decides}
use Rattle.std.specs.List.{AllByRecursion, All, list_all, list_any, flat_map, range_with_len}
use Rattle.std.specs.List.Sorted.{IsPermutation}
use Rattle.std.proofs.lemmas.Bool.{true≢false, false≢true, or_cases, or_left, or_right, cases_eq}
use Rattle.std.proofs.lemmas.Bool.Decides.{Decides-eqb, Decides-ltb, Decides-and, Decides-not}
use Rattle.std.proofs.lemmas.List.Elements.{All-from_recursion, recursion_from_All}
use Rattle.std.proofs.lemmas.List.FromFn.{length-range_with_len}
use Rattle.std.proofs.lemmas.List.Sorted.{length_permutation, list_any-IsPermutation, IsPermutation-refl, IsPermutation-sym, IsPermutation-trans}
use Rattle.std.proofs.lemmas.List.Sorted.{IsPermutation-cons, IsPermutation-middle}
use Rattle.bs_net.specs.declared.net.NetId.{NetId}
use Rattle.bs_net.specs.declared.net.Gate.{Gate}
use Rattle.bs_net.specs.declared.net.Flop.{Flop}
use Rattle.bs_net.specs.Parts.{Parts}
use Rattle.bs_net.specs.Lowest.{NonePasses}
use Rattle.bs_net.specs.Loops.{is_in}
use Rattle.bs_net.specs.Order.{IsLevelled, IsOrder, gates_in}
use Rattle.bs_net.specs.Check.{too_many, is_shared, is_undriven, mixed_clock, HasOrder, PassesNets, Passes}
use Rattle.bs_net.specs.Decided.{all_lists, is_levelled, is_order, has_order, none_passes, passes}
use Rattle.bs_net.proofs.LevelLemmas.{split_at}
use Rattle.bs_net.proofs.NetlistLemmas.{order_below}
use Rattle.bs_net.proofs.NextLemmas.{list_all_Decides, below_from_range, range_from_below, Member, member-map, member_append_left, member_append_right}

-- ---- the lists of numbers below k

member_both : {X : Type 0} (v : X) (xs ys : List X) → Member v (xs ++ ys) → Member v xs ⊎ Member v ys
member_both v [] ys h = inr h
member_both v (x ∷ xs) ys (inl e) = inl (inl e)
member_both v (x ∷ xs) ys (inr k) = ⊎_elim (λ a. inl (inr a)) (λ b. inr b) (member_both v xs ys k)

member_begun : (i : ℕ) (v : List ℕ) (xs : List (List ℕ)) → Member v (map (λ is. i ∷ is) xs) → (is : List ℕ) × (v ≡ i ∷ is) × Member is xs
member_begun i v [] h = absurd h
member_begun i v (x ∷ xs) (inl e) = (x, e, inl refl)
member_begun i v (x ∷ xs) (inr k) = let r = member_begun i v xs k in (r.0, r.1, inr r.2)

flat_length : (f : ℕ → List (List ℕ)) (count : ℕ) → ((i : ℕ) (v : List ℕ) → Member v (f i) → length v ≡ count) → (is : List ℕ) (v : List ℕ) →
    Member v (flat_map f is) → length v ≡ count
flat_length f count each [] v h = absurd h
flat_length f count each (i ∷ is) v h =
    ⊎_elim (λ a. each i v a) (λ b. flat_length f count each is v b) (member_both v (f i) (flat_map f is) h)

-- each has its length
lists_length : (k count : ℕ) (v : List ℕ) → Member v (all_lists k count) → length v ≡ count
unfolding all_lists
lists_length k zero v (inl e) = ap length e
lists_length k zero v (inr none) = absurd none
lists_length k (suc count) v h =
    flat_length (λ i. map (λ is. i ∷ is) (all_lists k count)) (suc count)
    (λ i w m.
    let r = member_begun i w (all_lists k count) m in
    ap length r.1 ∙ ap suc (lists_length k count r.0 r.2))
    (range_with_len 0 k) v h

flat_member : (f : ℕ → List (List ℕ)) (v : List ℕ) (i : ℕ) → Member v (f i) → (is : List ℕ) → Member i is → Member v (flat_map f is)
flat_member f v i m [] h = absurd h
flat_member f v i m (j ∷ is) (inl e) =
    let P : ℕ → Type 0 = λ k. Member v (f k) in
    member_append_left v (f j) (flat_map f is) (subst P e m)
flat_member f v i m (j ∷ is) (inr h) = member_append_right v (f j) (flat_map f is) (flat_member f v i m is h)

member_range : (n a i : ℕ) → a ≤ i → i < a + n → Member i (range_with_len a n)
member_range zero a i lo hi = absurd (omega (arith, lo, hi))
member_range (suc n) a i lo hi =
    ⊎_elim (λ (e : i ≡ a). inl e) (λ (other : i ≡ a → ⊥). inr (member_range n (a + 1) i (omega (arith, lo, other)) (omega (arith, hi)))) (cases_eq i a)

-- each list of numbers below k stands among those of its length
lists_member : (k : ℕ) (v : List ℕ) → AllByRecursion (λ i. i < k) v → Member v (all_lists k (length v))
unfolding all_lists
lists_member k [] h = inl refl
lists_member k (i ∷ is) h =
    flat_member (λ j. map (λ js. j ∷ js) (all_lists k (length is))) (i ∷ is) i
    (member-map (λ js. i ∷ js) is (all_lists k (length is)) (lists_member k is h.1))
    (range_with_len 0 k) (member_range k 0 i (omega arith) (omega (arith, h.0)))

any_member : {X : Type 0} (p : X → Bool) (xs : List X) → list_any p xs ≡ true → (v : X) × Member v xs × (p v ≡ true)
any_member p [] h = absurd (false≢true h)
any_member p (x ∷ xs) h =
    ⊎_elim (λ (e : p x ≡ true). (x, inl refl, e)) (λ (k : list_any p xs ≡ true). let r = any_member p xs k in (r.0, inr r.1, r.2))
    (or_cases (p x) (list_any p xs) h)

any_from_member : {X : Type 0} (p : X → Bool) (v : X) (xs : List X) → Member v xs → p v ≡ true → list_any p xs ≡ true
any_from_member p v [] h t = absurd h
any_from_member p v (x ∷ xs) (inl e) t = or_left (p x) (list_any p xs) (ap p (sym e) ∙ t)
any_from_member p v (x ∷ xs) (inr k) t = or_right (p x) (list_any p xs) (any_from_member p v xs k t)

-- ---- an order

-- as many numbers as a range has, each of the range among them, are its numbers in another order
each_once : (n a : ℕ) (xs : List ℕ) → length xs ≡ n → ((k : ℕ) → a ≤ k → k < a + n → is_in k xs ≡ true) → IsPermutation (range_with_len a n) xs
each_once zero a [] l e = IsPermutation-refl []
each_once zero a (x ∷ xs) l e = absurd (omega (arith, l))
each_once (suc n) a xs l e =
    let s = split_at a xs (e a (omega arith) (omega arith)) in
    let rest = s.0 ++ s.1 in
    let to_front : IsPermutation xs (a ∷ (s.0 ++ s.1)) =
    (let P : List ℕ → Type 0 = λ ys. IsPermutation ys (a ∷ (s.0 ++ s.1)) in subst P (sym s.2) (IsPermutation-middle s.0 a s.1)) in
    let count : length (s.0 ++ s.1) ≡ n = omega (arith, l, length_permutation xs (a ∷ (s.0 ++ s.1)) to_front) in
    let each : (k : ℕ) → a + 1 ≤ k → k < (a + 1) + n → is_in k (s.0 ++ s.1) ≡ true =
    λ k lo hi.
    let there : is_in k (a ∷ (s.0 ++ s.1)) ≡ true = sym (list_any-IsPermutation (λ m. nat_eq k m) xs (a ∷ (s.0 ++ s.1)) to_front) ∙
    e k (omega arith) (omega arith) in
    let other : k ≡ a → ⊥ = λ same. omega (arith, same, lo) in
    ap (λ b. b || is_in k (s.0 ++ s.1)) (sym (ne_eqb k a other)) ∙ there in
    IsPermutation-trans _ _ _ (IsPermutation-cons a _ _ (each_once n (a + 1) (s.0 ++ s.1) count each)) (IsPermutation-sym _ _ to_front)

apart_Decides : (gs : List Gate) (n : NetId) → Decides (list_all (λ (h : Gate). not (nat_eq h.out.0 n.0)) gs) (All (λ (h : Gate). h.out.0 ≢ n.0) gs)
apart_Decides gs n =
    let d = list_all_Decides (λ (h : Gate). not (nat_eq h.out.0 n.0)) (λ (h : Gate). h.out.0 ≢ n.0)
    (λ h. Decides-not (nat_eq h.out.0 n.0) (Decides-eqb h.out.0 n.0)) gs in
    (λ e. All-from_recursion (λ (h : Gate). h.out.0 ≢ n.0) gs (d.0 e), λ a. d.1 (recursion_from_All (λ (h : Gate). h.out.0 ≢ n.0) gs a))

reads_Decides : (gs : List Gate) (ns : List NetId) →
    Decides (list_all (λ (n : NetId). list_all (λ (h : Gate). not (nat_eq h.out.0 n.0)) gs) ns) (All (λ (n : NetId). All (λ (h : Gate). h.out.0 ≢ n.0) gs) ns)
reads_Decides gs ns =
    let P : NetId → Type 0 = λ n. All (λ (h : Gate). h.out.0 ≢ n.0) gs in
    let d = list_all_Decides (λ (n : NetId). list_all (λ (h : Gate). not (nat_eq h.out.0 n.0)) gs) P (λ n. apart_Decides gs n) ns in
    (λ e. All-from_recursion P ns (d.0 e), λ a. d.1 (recursion_from_All P ns a))

levelled_Decides : (gs : List Gate) → Decides (is_levelled gs) (IsLevelled gs)
levelled_Decides [] = (λ _. tt, λ _. refl)
levelled_Decides (g ∷ gs) = Decides-and _ (is_levelled gs) (reads_Decides (g ∷ gs) g.ins) (levelled_Decides gs)

order_true : (gates : List Gate) (order : List ℕ) → length order ≡ length gates → is_order gates order ≡ true → IsOrder gates order
order_true gates order l e =
    let n = length gates in
    let P : ℕ → Type 0 = λ i. is_in i order ≡ true in
    let both = (Decides-and (list_all (λ i. is_in i order) (range_with_len 0 n)) (is_levelled (gates_in order gates))
    (list_all_Decides (λ i. is_in i order) P (λ i. (λ t. t, λ t. t)) (range_with_len 0 n)) (levelled_Decides (gates_in order gates))).0 e in
    record {
      each_once = each_once n 0 order l (λ k lo hi. below_from_range P n both.0 k (omega (arith, hi)));
      earlier = both.1;
    }

is_in_own : (xs : List ℕ) (k : ℕ) → Member k xs → is_in k xs ≡ true
is_in_own xs k m = any_from_member (λ i. nat_eq k i) k xs m ((Decides-eqb k k).1 refl)

order_test : (gates : List Gate) (order : List ℕ) → IsOrder gates order → is_order gates order ≡ true
order_test gates order o =
    let n = length gates in
    let P : ℕ → Type 0 = λ i. is_in i order ≡ true in
    (Decides-and (list_all (λ i. is_in i order) (range_with_len 0 n)) (is_levelled (gates_in order gates))
    (list_all_Decides (λ i. is_in i order) P (λ i. (λ t. t, λ t. t)) (range_with_len 0 n)) (levelled_Decides (gates_in order gates))).1 (
      range_from_below P n (λ k lt. sym (list_any-IsPermutation (λ m. nat_eq k m) (range_with_len 0 n) order o.each_once) ∙
          is_in_own (range_with_len 0 n) k (member_range n 0 k (omega arith) (omega (arith, lt)))),
      o.earlier,
    )

-- `has_order` says whether `HasOrder` holds
pub has_order_Decides : (gates : List Gate) → Decides (has_order gates) (HasOrder gates)
unfolding has_order
has_order_Decides gates = (
  λ e.
      let r = any_member (is_order gates) (all_lists (length gates) (length gates)) e in
      (r.0, order_true gates r.0 (lists_length (length gates) (length gates) r.0 r.1) r.2),
  λ h.
      let l : length h.0 ≡ length gates = length_permutation _ _ h.1.each_once ∙ length-range_with_len 0 (length gates) in
      let P : ℕ → Type 0 = λ n. Member h.0 (all_lists (length gates) n) in
      any_from_member (is_order gates) h.0 (all_lists (length gates) (length gates))
      (subst P l (lists_member (length gates) h.0 (recursion_from_All (λ i. i < length gates) h.0 (order_below gates h.0 h.1))))
      (order_test gates h.0 h.1),
)

-- ---- the check

none_Decides : {X : Type 0} (o : Option X) → Decides (is_none o) (o ≡ None)
none_Decides None = (λ _. refl, λ _. refl)
none_Decides (Some x) = (λ e. absurd (false≢true e), λ e. absurd cc)

not_false : (b : Bool) → Decides (not b) (b ≡ false)
not_false true = (λ e. absurd (false≢true e), λ e. absurd (true≢false e))
not_false false = (λ _. refl, λ _. refl)

none_passes_Decides : (test : ℕ → Bool) (count : ℕ) → Decides (none_passes test count) (NonePasses test count)
none_passes_Decides test count =
    let P : ℕ → Type 0 = λ k. test k ≡ false in
    let d = list_all_Decides (λ k. not (test k)) P (λ k. not_false (test k)) (range_with_len 0 count) in
    (λ e. record { each = below_from_range P count (d.0 e) }, λ h. d.1 (range_from_below P count h.each))

some_Decides : (fs : List Flop) → Decides (nat_lt 0 (length fs)) (fs ≢ [])
some_Decides [] = (λ e. absurd (omega (arith, (Decides-ltb 0 0).0 e)), λ some. absurd (some refl))
some_Decides (f ∷ fs) = (λ e same. absurd cc, λ some. (Decides-ltb 0 (length (f ∷ fs))).1 (omega arith))

-- `passes` says whether `Passes` holds
pub passes_Decides : (r : Parts) → Decides (passes r) (Passes r)
unfolding passes
passes_Decides r =
    let two = Decides-and _ _ (none_Decides (too_many r)) (none_passes_Decides (is_shared r) (length r.names)) in
    let three = Decides-and _ _ two (none_passes_Decides (is_undriven r) (length r.names)) in
    let four = Decides-and _ _ three (has_order_Decides r.gates) in
    let five = Decides-and _ _ four (some_Decides r.flops) in
    let six = Decides-and _ _ five (none_Decides (mixed_clock r)) in (
      λ e.
          let h = six.0 e in
          let nets : PassesNets r = record { few = h.0.0.0.0.0; single = h.0.0.0.0.1; driven = h.0.0.0.1 } in
          record {
            nets = nets;
            ordered = h.0.0.1;
            some_flop = h.0.1;
            one_clock = h.1;
          },
      λ p. six.1 (((((p.nets.few, p.nets.single), p.nets.driven), p.ordered), p.some_flop), p.one_clock),
    )
