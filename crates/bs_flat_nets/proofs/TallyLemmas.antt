-- One net more in a tally.
use Rattle.std.proofs.Common.{◌≡◌, ℕ, ◌<◌, ◌+◌, Bool, true, false, cond, List, [], ◌∷◌, ◌++◌, map, length, get_or, refl, arith, subst}
use Rattle.std.proofs.Common.{ap, sym, ◌∙◌, inl, inr, ⊎_elim, Option, Some, None, is_some, append_assoc, append-nil}
use Rattle.std.specs.Prelude.{find, filter, unwrap_or}
use Rattle.std.specs.List.{All}
use Rattle.std.proofs.lemmas.Bool.{false≢true, cases_Bool}
use Rattle.std.proofs.lemmas.List.{get_or_append_left, get_or_push, length-map, map-append}
use Rattle.std.proofs.lemmas.List.Elements.{filter-append, All-nil, All-push}
use Rattle.bs_flat_meaning.specs.Design.{Design, Path, PathNet, on}
use Rattle.bs_flat_meaning.specs.Flat.{IsDesign, bit_of, is_bit, first_constant}
use Rattle.bs_flat_meaning.proofs.MemberLemmas.{Member, member_right, found}
use Rattle.bs_flat_meaning.proofs.RootLemmas.{same_from, same_to}
use Rattle.bs_flat_meaning.proofs.NumberLemmas.{Apart}
use Rattle.bs_flat_nets.specs.Climbing.{path_in}
use Rattle.bs_flat_nets.specs.declared.climbing.NetOnPath.{NetOnPath}
use Rattle.bs_flat_nets.specs.declared.constants.Bit.{Bit}
use Rattle.bs_flat_nets.specs.Free.{roots}
use Rattle.bs_flat_nets.specs.Numbering.{net_at, no_net}
use Rattle.bs_flat_nets.specs.Tally.{bit_in, no_tally, first_of, with_plain, with_first, with_constant, with_net, with_nets, is_home, found_in, IsFound, IsTally}
use Rattle.bs_flat_nets.specs.declared.tally.NetTally.{NetTally}
use Rattle.bs_flat_nets.proofs.FreeLemmas.{roots_apart, first_in_roots, plain_stays, constant_stays}
use Rattle.bs_flat_meaning.proofs.HomeLemmas.{is_bit_same}

-- ---- searches

find_none_push : {X : Type 0} (t : X → Bool) (xs ys : List X) → find t xs ≡ None → find t (xs ++ ys) ≡ find t ys
find_none_push t [] ys e = refl
find_none_push {X} t (x ∷ xs) ys e = by (t x) e (find_none_push t xs ys)
  where
    by : (b : Bool) → cond b (Some x) (find t xs) ≡ None → (find t xs ≡ None → find t (xs ++ ys) ≡ find t ys) →
        cond b (Some x) (find t (xs ++ ys)) ≡ find t ys
    by true k rest = absurd cc
    by false k rest = rest k

find_some_push : {X : Type 0} (t : X → Bool) (xs ys : List X) (v : X) → find t xs ≡ Some v → find t (xs ++ ys) ≡ Some v
find_some_push t [] ys v e = absurd cc
find_some_push {X} t (x ∷ xs) ys v e = by (t x) e (find_some_push t xs ys v)
  where
    by : (b : Bool) → cond b (Some x) (find t xs) ≡ Some v → (find t xs ≡ Some v → find t (xs ++ ys) ≡ Some v) →
        cond b (Some x) (find t (xs ++ ys)) ≡ Some v
    by true k rest = k
    by false k rest = rest k

before_apart : {X : Type 0} (xs ys : List X) (p : X) → Apart (xs ++ p ∷ ys) → Member p xs → ⊥
before_apart [] ys p a m = m
before_apart {X} (x ∷ xs) ys p a m =
    ⊎_elim
    (λ (e : p ≡ x). a.0 (subst (λ (u : X). Member u (xs ++ p ∷ ys)) e (member_right p xs (p ∷ ys) (inl refl))))
    (λ (l : Member p xs). before_apart xs ys p a.1 l)
    m

is_bit_other : (b c : Bool) → (b ≡ c → ⊥) → is_bit b (Some c) ≡ false
is_bit_other true true h = absurd (h refl)
is_bit_other false false h = absurd (h refl)
is_bit_other true false h = refl
is_bit_other false true h = refl

-- ---- what stays known

length_more : {X : Type 0} (xs ys : List X) → length (xs ++ ys) ≡ length xs + length ys
length_more [] ys = omega arith
length_more (x ∷ xs) ys = let rest = length_more xs ys in omega (arith, rest)

-- a net more that is not the first of this constant
found_past : (d : Design) (b : Bool) (nets : List PathNet) (places : List NetOnPath) (first : Option ℕ) (a : PathNet) →
    (first ≡ None → is_bit b (bit_of d a) ≡ false) → IsFound d b nets places first → IsFound d b (nets ++ a ∷ []) places first
found_past d b nets places first a e f =
    record {
      none =
          λ q.
          find_none_push (λ s. is_bit b (bit_of d s)) nets (a ∷ []) (f.none q) ∙ ap (λ (c : Bool). cond c (Some a) None) (e q);
      found = λ n q. find_some_push (λ s. is_bit b (bit_of d s)) nets (a ∷ []) (first_constant d b) (f.found n q);
      within = f.within;
      is = f.is;
    }

-- places more
found_wide : (d : Design) (b : Bool) (nets : List PathNet) (places more : List NetOnPath) (first : Option ℕ) →
    IsFound d b nets places first → IsFound d b nets (places ++ more) first
found_wide d b nets places more first f =
    record {
      none = f.none;
      found = f.found;
      within = λ n q. let lt = f.within n q in let wide = length_more places more in omega (arith, lt, wide);
      is =
          λ n q.
          ap (λ (l : List PathNet). get_or l n no_net) (map-append (net_at d) places more)
          ∙ (get_or_append_left (map (net_at d) places) (map (net_at d) more) no_net n (subst (λ k. n < k) (sym (length-map places (net_at d))) (f.within n q))
          ∙ f.is n q);
    }

-- a place more, of a net that stays
are_more : (d : Design) (nets : List PathNet) (places : List NetOnPath) (p : NetOnPath) (a : PathNet) → is_home d a ≡ true → net_at d p ≡ a →
    map (net_at d) places ≡ filter (is_home d) nets → map (net_at d) (places ++ p ∷ []) ≡ filter (is_home d) (nets ++ a ∷ [])
are_more d nets places p a stays same e =
    map-append (net_at d) places (p ∷ [])
    ∙ (ap (λ (u : List PathNet). u ++ net_at d p ∷ []) e
    ∙ (ap (λ (s : PathNet). filter (is_home d) nets ++ s ∷ []) same
    ∙ sym
    (filter-append (is_home d) nets (a ∷ [])
    ∙ ap (λ (u : List PathNet). filter (is_home d) nets ++ u) (ap (λ (c : Bool). cond c (a ∷ []) []) stays))))

-- a net more that does not stay
are_same : (d : Design) (nets : List PathNet) (places : List NetOnPath) (a : PathNet) → is_home d a ≡ false →
    map (net_at d) places ≡ filter (is_home d) nets → map (net_at d) places ≡ filter (is_home d) (nets ++ a ∷ [])
are_same d nets places a goes e =
    e
    ∙ sym
    (filter-append (is_home d) nets (a ∷ [])
    ∙ (ap (λ (u : List PathNet). filter (is_home d) nets ++ u) (ap (λ (c : Bool). cond c (a ∷ []) []) goes) ∙ append-nil (filter (is_home d) nets)))

-- ---- one net more

first_more : (d : Design) (t : NetTally) (p : NetOnPath) (nets : List PathNet) (b : Bool) → IsFound d b nets (t.places ++ p ∷ []) (Some (length t.places)) →
    ((c : Bool) → (c ≡ b → ⊥) → IsFound d c nets (t.places ++ p ∷ []) (first_of t c)) →
    (c : Bool) → IsFound d c nets (with_first t p b).places (first_of (with_first t p b) c)
first_more d t p nets true n o true = n
first_more d t p nets true n o false = o false (λ e. false≢true e)
first_more d t p nets false n o true = o true (λ e. false≢true (sym e))
first_more d t p nets false n o false = n

-- a bit of which the first is known hides no other
hidden : (t : NetTally) (b c : Bool) (n : ℕ) → first_of t b ≡ Some n → first_of t c ≡ None → is_bit c (Some b) ≡ false
hidden t true true n e q = absurd cc
hidden t true false n e q = refl
hidden t false true n e q = refl
hidden t false false n e q = absurd cc

with_first_are : (t : NetTally) (p : NetOnPath) (b : Bool) → (with_first t p b).places ≡ t.places ++ p ∷ []
with_first_are t p true = refl
with_first_are t p false = refl

module _ (d : Design) (h : IsDesign d) where
  pub net_tally : (nets later : List PathNet) (t : NetTally) (p : NetOnPath) (a : PathNet) → nets ++ a ∷ later ≡ roots d → net_at d p ≡ a → IsTally d nets t →
      IsTally d (nets ++ a ∷ []) (with_net t p (bit_of d a))
  net_tally nets later t p a whole same k = by (bit_of d a) refl
    where
      there : Member a (roots d)
      there = subst (λ (l : List PathNet). Member a l) whole (member_right a nets (a ∷ later) (inl refl))

      plain : bit_of d a ≡ None → IsTally d (nets ++ a ∷ []) (with_plain t p)
      plain e = record { are = are_more d nets t.places p a (plain_stays d h a there e) same k.are; first = first }
        where
          first : (b : Bool) → IsFound d b (nets ++ a ∷ []) (t.places ++ p ∷ []) (first_of (with_plain t p) b)
          first true = found_past d true nets (t.places ++ p ∷ []) t.one a (λ q. ap (is_bit true) e)
              (found_wide d true nets t.places (p ∷ []) t.one (k.first true))
          first false = found_past d false nets (t.places ++ p ∷ []) t.zero a (λ q. ap (is_bit false) e)
              (found_wide d false nets t.places (p ∷ []) t.zero (k.first false))

      -- the first net of a constant
      new : (b : Bool) → bit_of d a ≡ Some b → first_of t b ≡ None → IsTally d (nets ++ a ∷ []) (with_first t p b)
      new b e q =
          let f = (k.first b).none q in
          let passes : is_bit b (bit_of d a) ≡ true = ap (is_bit b) e ∙ is_bit_same b in
          let at_a : (l : List PathNet) → found_in d b (nets ++ a ∷ l) ≡ Some a =
          λ l. find_none_push (λ s. is_bit b (bit_of d s)) nets (a ∷ l) f ∙ ap (λ (c : Bool). cond c (Some a) (found_in d b l)) passes in
          let is_first : first_constant d b ≡ a =
          first_in_roots d b
          ∙ ap (λ (o : Option PathNet). unwrap_or o no_net) (ap (found_in d b) (sym whole) ∙ at_a later) in
          let stays : is_home d a ≡ true = constant_stays d h a b there e ∙ same_to (first_constant d b) a is_first in
          let wide = length_more t.places (p ∷ []) in
          record {
            are =
                ap (map (net_at d)) (with_first_are t p b) ∙ are_more d nets t.places p a stays same k.are;
            first =
                first_more d t p (nets ++ a ∷ []) b
                (record {
                  none = λ r. absurd cc;
                  found = λ n r. at_a [] ∙ ap Some (sym is_first);
                  within = λ n r. let at : length t.places ≡ n = cc in omega (arith, at, wide);
                  is =
                      λ n r.
                      let at : length t.places ≡ n = cc in
                      ap (λ (l : List PathNet). get_or l n no_net) (map-append (net_at d) t.places (p ∷ []))
                      ∙ (get_or_push (map (net_at d) t.places) (net_at d p) no_net n (length-map t.places (net_at d) ∙ at)
                      ∙ (same ∙ sym is_first));
                })
                (λ c other.
                found_past d c nets (t.places ++ p ∷ []) (first_of t c) a (λ r. ap (is_bit c) e ∙ is_bit_other c b other)
                (found_wide d c nets t.places (p ∷ []) (first_of t c) (k.first c)));
          }

      -- a constant that stands before
      again : (b : Bool) (n : ℕ) → bit_of d a ≡ Some b → first_of t b ≡ Some n → IsTally d (nets ++ a ∷ []) t
      again b n e q =
          let f = found (λ s. is_bit b (bit_of d s)) nets (first_constant d b) ((k.first b).found n q) in
          let apart : Member a nets → ⊥ = before_apart nets later a (subst (λ (l : List PathNet). Apart l) (sym whole) (roots_apart d)) in
          let goes : is_home d a ≡ false =
          ⊎_elim
          (λ (y : is_home d a ≡ true).
          absurd (apart (subst (λ (s : PathNet). Member s nets) (same_from (first_constant d b) a (sym (constant_stays d h a b there e) ∙ y)) f.0)))
          (λ (y : is_home d a ≡ false). y)
          (cases_Bool (is_home d a)) in
          record {
            are = are_same d nets t.places a goes k.are;
            first = λ c. found_past d c nets t.places (first_of t c) a (λ r. ap (is_bit c) e ∙ hidden t b c n q r) (k.first c);
          }

      by : (o : Option Bool) → bit_of d a ≡ o → IsTally d (nets ++ a ∷ []) (with_net t p o)
      by None e = plain e
      by (Some b) e = met (first_of t b) refl
        where
          met : (o : Option ℕ) → first_of t b ≡ o → IsTally d (nets ++ a ∷ []) (with_constant t p b)
          met None q = subst (λ (o : Option ℕ). IsTally d (nets ++ a ∷ []) (cond (is_some o) t (with_first t p b))) (sym q) (new b e q)
          met (Some n) q = subst (λ (o : Option ℕ). IsTally d (nets ++ a ∷ []) (cond (is_some o) t (with_first t p b))) (sym q) (again b n e q)

  -- the nets of a node more
  pub nets_tally : (node : ℕ) (p : Path) (bits : List Bit) (ns : List ℕ) (nets later : List PathNet) (t : NetTally) → path_in d node ≡ p →
      nets ++ (map (on p) ns ++ later) ≡ roots d → ((n : ℕ) → Member n ns → bit_in bits n ≡ bit_of d (on p n)) → IsTally d nets t →
      IsTally d (nets ++ map (on p) ns) (with_nets t node bits ns)
  nets_tally node p bits [] nets later t e whole same k = subst (λ (l : List PathNet). IsTally d l t) (sym (append-nil nets)) k
  nets_tally node p bits (n ∷ ns) nets later t e whole same k =
      let a : PathNet = on p n in
      let pl : NetOnPath = record { node = node; net = n } in
      let one : IsTally d (nets ++ a ∷ []) (with_net t pl (bit_of d a)) =
      net_tally nets (map (on p) ns ++ later) t pl a whole (ap (λ (q : Path). on q n) e) k in
      let two : IsTally d (nets ++ a ∷ []) (with_net t pl (bit_in bits n)) =
      subst (λ (o : Option Bool). IsTally d (nets ++ a ∷ []) (with_net t pl o)) (sym (same n (inl refl))) one in
      subst (λ (l : List PathNet). IsTally d l (with_nets (with_net t pl (bit_in bits n)) node bits ns)) (append_assoc nets (a ∷ []) (map (on p) ns))
      (nets_tally node p bits ns (nets ++ a ∷ []) later (with_net t pl (bit_in bits n)) e
      (append_assoc nets (a ∷ []) (map (on p) ns ++ later) ∙ whole) (λ m mm. same m (inr mm)) two)

-- ---- places of nodes

abbrev pub Placed : ℕ → NetTally → Type 0
Placed count t = All (λ (p : NetOnPath). p.node < count) t.places

pub placed_none : (count : ℕ) → Placed count no_tally
placed_none count = All-nil _

placed_net : (count : ℕ) (t : NetTally) (p : NetOnPath) (o : Option Bool) → p.node < count → Placed count t → Placed count (with_net t p o)
placed_net count t p None lt h = All-push (λ (q : NetOnPath). q.node < count) t.places p h lt
placed_net count t p (Some b) lt h = by (is_some (first_of t b)) b
  where
    by : (c b : Bool) → Placed count (cond c t (with_first t p b))
    by true b = h
    by false true = All-push (λ (q : NetOnPath). q.node < count) t.places p h lt
    by false false = All-push (λ (q : NetOnPath). q.node < count) t.places p h lt

pub placed_nets : (count node : ℕ) (bits : List Bit) (ns : List ℕ) (t : NetTally) → node < count → Placed count t → Placed count (with_nets t node bits ns)
placed_nets count node bits [] t lt h = h
placed_nets count node bits (n ∷ ns) t lt h =
    placed_nets count node bits ns (with_net t (record { node = node; net = n }) (bit_in bits n)) lt
    (placed_net count t (record { node = node; net = n }) (bit_in bits n) lt h)

pub tally_none : (d : Design) → IsTally d [] no_tally
tally_none d = record { are = refl; first = first }
  where
    first : (b : Bool) → IsFound d b [] [] (first_of no_tally b)
    first true = record { none = λ q. refl; found = λ n q. absurd cc; within = λ n q. absurd cc; is = λ n q. absurd cc }
    first false = record { none = λ q. refl; found = λ n q. absurd cc; within = λ n q. absurd cc; is = λ n q. absurd cc }
