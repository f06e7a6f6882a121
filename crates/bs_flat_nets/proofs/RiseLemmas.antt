-- The places of the flat nets rise, node by node.
use Rattle.std.proofs.Common.{◌≡◌, ℕ, zero, suc, ◌<◌, ◌≤◌, ◌+◌, Bool, true, false, cond, List, [], ◌∷◌, ◌++◌, length, get_or, refl, arith, subst}
use Rattle.std.proofs.Common.{ap, sym, ◌∙◌, ◌⊎◌, inl, inr, ⊎_elim, nat_eq, Option, Some, None, is_some}
use Rattle.std.specs.Prelude.{nat_lt, min, ◌&&◌, ◌||◌, filter, map, is_none, slice_index_or}
use Rattle.std.specs.List.{range_with_len}
use Rattle.std.proofs.lemmas.Bool.{false≢true, cases_Bool, lt-ltb, le-ltb, ltb-true, ltb-false, eq-eqb, eqb-true}
use Rattle.std.proofs.lemmas.List.{length-append, get_or_append_left, get_or_push}
use Rattle.bs_flat_meaning.specs.Design.{Join, instance_in, no_module}
use Rattle.bs_flat_meaning.specs.Meaning.{joined_with}
use Rattle.bs_flat_meaning.specs.declared.paths.Node.{Node}
use Rattle.bs_flat_nets.specs.Blocks.{module_of}
use Rattle.bs_flat_nets.specs.Climbing.{node_at, joins_of_node}
use Rattle.bs_flat_nets.specs.Free.{free_nets, free_of_node, count_in}
use Rattle.bs_flat_nets.specs.declared.blocks.FlatModule.{FlatModule}
use Rattle.bs_flat_nets.specs.declared.climbing.NetOnPath.{NetOnPath}
use Rattle.bs_flat_nets.specs.declared.constants.Bit.{Bit}
use Rattle.bs_flat_nets.specs.Numbering.{no_place, is_before, AreRising, AreByNode, IsFirstFrom, IsNowhere}
use Rattle.bs_flat_nets.specs.Tally.{bit_in, first_of, with_first, with_constant, with_net, with_nets}
use Rattle.bs_flat_nets.specs.declared.tally.NetTally.{NetTally}

abbrev pub at : List NetOnPath → ℕ → NetOnPath
at ps i = get_or ps i no_place

-- ---- the order of places

before_node : (a b : NetOnPath) → a.node < b.node → is_before a b ≡ true
before_node a b lt = ap (λ (c : Bool). c || (nat_eq a.node b.node && nat_lt a.net b.net)) (lt-ltb a.node b.node lt)

or_true : (c : Bool) → (c || true) ≡ true
or_true true = refl
or_true false = refl

before_net : (a b : NetOnPath) → a.node ≡ b.node → a.net < b.net → is_before a b ≡ true
before_net a b e lt =
    ap (λ (c : Bool). nat_lt a.node b.node || (c && nat_lt a.net b.net)) (eq-eqb a.node b.node e)
    ∙ (ap (λ (c : Bool). nat_lt a.node b.node || c) (lt-ltb a.net b.net lt) ∙ or_true (nat_lt a.node b.node))

-- what it says of the numbers
before_cases : (a b : NetOnPath) → is_before a b ≡ true → (a.node < b.node) ⊎ ((a.node ≡ b.node) × (a.net < b.net))
before_cases a b e = by (nat_lt a.node b.node) refl (nat_eq a.node b.node) refl (nat_lt a.net b.net) refl e
  where
    by : (c : Bool) → nat_lt a.node b.node ≡ c → (d : Bool) → nat_eq a.node b.node ≡ d → (f : Bool) → nat_lt a.net b.net ≡ f → (c || (d && f)) ≡ true
        → (a.node < b.node) ⊎ ((a.node ≡ b.node) × (a.net < b.net))
    by true c d ed f ef k = inl (ltb-true a.node b.node c)
    by false c true ed true ef k = inr (eqb-true a.node b.node ed, ltb-true a.net b.net ef)
    by false c true ed false ef k = absurd (false≢true k)
    by false c false ed f ef k = absurd (false≢true k)

not_both_ways : (a b : NetOnPath) → is_before a b ≡ true → is_before b a ≡ true → ⊥
not_both_ways a b e f =
    ⊎_elim
    (λ (l : a.node < b.node).
    ⊎_elim (λ (m : b.node < a.node). omega (arith, l, m))
    (λ (m : (b.node ≡ a.node) × (b.net < a.net)). let same = m.0 in omega (arith, l, same))
    (before_cases b a f))
    (λ (l : (a.node ≡ b.node) × (a.net < b.net)).
    ⊎_elim (λ (m : b.node < a.node). let same = l.0 in omega (arith, m, same))
    (λ (m : (b.node ≡ a.node) × (b.net < a.net)). let less = l.1 in let more = m.1 in omega (arith, less, more))
    (before_cases b a f))
    (before_cases a b e)

-- ---- a search finds what is there

pub split : (a b : ℕ) → (a < b) ⊎ (b ≤ a)
split a b =
    ⊎_elim (λ (t : nat_lt a b ≡ true). inl (ltb-true a b t)) (λ (t : nat_lt a b ≡ false). inr (ltb-false a b t)) (cases_Bool (nat_lt a b))

-- no place before the end is past one that rises to it
none_past : (ps : List NetOnPath) (i j : ℕ) → AreRising ps → i ≤ j → j < length ps → is_before (at ps j) (at ps i) ≡ true → ⊥
none_past ps i j r le lt b =
    ⊎_elim
    (λ (l : i < j). not_both_ways (at ps j) (at ps i) b (r.rise i j l lt))
    (λ (l : j ≤ i).
    let same : j ≡ i = omega (arith, le, l) in
    let self : is_before (at ps i) (at ps i) ≡ true = subst (λ k. is_before (at ps k) (at ps i) ≡ true) same b in
    not_both_ways (at ps i) (at ps i) self self)
    (split i j)

pub search_finds : (ps : List NetOnPath) (from stop found i : ℕ) (p : NetOnPath) → AreRising ps → stop ≤ length ps → IsFirstFrom ps from stop p found
    → from ≤ i → i < stop → at ps i ≡ p → found ≡ i
search_finds ps from stop found i p r w f low high e =
    ⊎_elim
    (λ (l : found < i).
    let below : is_before (at ps found) p ≡ true = ap (is_before (at ps found)) (sym e) ∙ r.rise found i l (omega (arith, high, w)) in
    let not_below : is_before (at ps found) p ≡ false = f.above (omega (arith, l, high)) in
    absurd (false≢true (sym not_below ∙ below)))
    (λ (l : i ≤ found). ⊎_elim (λ (m : i < found). absurd (past found refl m)) (λ (m : found ≤ i). omega (arith, l, m)) (split i found))
    (split found i)
  where
    past : (k : ℕ) → found ≡ k → i < k → ⊥
    past zero q m = omega (arith, m)
    past (suc j) q m =
        let within = f.within in
        let b : is_before (at ps j) p ≡ true = f.below j (omega (arith, q)) (omega (arith, m, low)) in
        none_past ps i j r (omega (arith, m)) (omega (arith, q, within, w)) (ap (is_before (at ps j)) e ∙ b)

same_is : (p q : NetOnPath) → p ≡ q → (nat_eq p.node q.node && nat_eq p.net q.net) ≡ true
same_is p q e =
    ap (λ (c : Bool). c && nat_eq p.net q.net) (eq-eqb p.node q.node (ap (λ (r : NetOnPath). r.node) e))
    ∙ eq-eqb p.net q.net (ap (λ (r : NetOnPath). r.net) e)

-- a search among the places of a node misses none
pub missed_nowhere : (ps : List NetOnPath) (starts : List ℕ) (stop found : ℕ) (p : NetOnPath) → AreByNode ps starts
    → stop ≡ min (get_or starts (p.node + 1) 0) (length ps) → IsFirstFrom ps (get_or starts p.node 0) stop p found
    → (found < length ps → (nat_eq (at ps found).node p.node && nat_eq (at ps found).net p.net) ≡ false) → IsNowhere ps p
missed_nowhere ps starts stop found p a ends f missed =
    record {
      is = λ i lt e.
          let low : get_or starts p.node 0 ≤ i = subst (λ (q : NetOnPath). get_or starts q.node 0 ≤ i) e (a.from i lt) in
          let high : i < get_or starts (p.node + 1) 0 = subst (λ (q : NetOnPath). i < get_or starts (q.node + 1) 0) e (a.before i lt) in
          let same =
          search_finds ps (get_or starts p.node 0) stop found i p a.rising (omega (arith, ends)) f low (omega (arith, high, lt, ends)) e in
          let here : at ps found ≡ p = subst (λ k. at ps k ≡ p) (sym same) e in
          false≢true (sym (missed (omega (arith, same, lt))) ∙ same_is (at ps found) p here);
    }

-- ---- places that are put behind others

-- a place is of a lower node, or of this one with a net below a least one
abbrev IsUnder : ℕ → ℕ → NetOnPath → Type 0
IsUnder node least p = (p.node < node) ⊎ ((p.node ≡ node) × (p.net < least))

-- places behind others, all of one node
pub record AreBehind (old new : List NetOnPath) (node : ℕ) : Type 0 where
  pub rising : AreRising new
  pub longer : length old ≤ length new
  pub same : (i : ℕ) → i < length old → at new i ≡ at old i
  pub own : (i : ℕ) → length old ≤ i → i < length new → (at new i).node ≡ node

-- the same, and the nets are below a least one
record Behind (old new : List NetOnPath) (node least : ℕ) : Type 0 where
  are : AreBehind old new node
  under : (i : ℕ) → i < length new → IsUnder node least (at new i)

under_before : (p q : NetOnPath) (least : ℕ) → IsUnder q.node least p → least ≤ q.net → is_before p q ≡ true
under_before p q least u le =
    ⊎_elim (λ (l : p.node < q.node). before_node p q l)
    (λ (l : (p.node ≡ q.node) × (p.net < least)). let less = l.1 in before_net p q l.0 (omega (arith, less, le))) u

under_more : (p : NetOnPath) (node least more : ℕ) → IsUnder node least p → least ≤ more → IsUnder node more p
under_more p node least more u le =
    ⊎_elim (λ (l : p.node < node). inl l) (λ (l : (p.node ≡ node) × (p.net < least)). let less = l.1 in inr (l.0, omega (arith, less, le))) u

-- the place at the end, and those before it
at_push : (ps : List NetOnPath) (p : NetOnPath) (P : NetOnPath → Type 0) → ((i : ℕ) → i < length ps → P (at ps i)) → P p
    → (i : ℕ) → i < length (ps ++ p ∷ []) → P (at (ps ++ p ∷ []) i)
at_push ps p P before last i lt =
    ⊎_elim
    (λ (l : i < length ps). subst P (sym (get_or_append_left ps (p ∷ []) no_place i l)) (before i l))
    (λ (l : length ps ≤ i). subst P (sym (get_or_push ps p no_place i (omega (arith, l, lt, length-append ps (p ∷ []))))) last)
    (split i (length ps))

rising_push : (ps : List NetOnPath) (p : NetOnPath) → AreRising ps → ((i : ℕ) → i < length ps → is_before (at ps i) p ≡ true) → AreRising (ps ++ p ∷ [])
rising_push ps p r b =
    record {
      rise = λ i j l lt.
          let wide = length-append ps (p ∷ []) in
          let low : i < length ps = omega (arith, l, lt, wide) in
          subst (λ q. is_before q (at (ps ++ p ∷ []) j) ≡ true) (sym (get_or_append_left ps (p ∷ []) no_place i low))
          (⊎_elim
          (λ (m : j < length ps). subst (λ q. is_before (at ps i) q ≡ true) (sym (get_or_append_left ps (p ∷ []) no_place j m)) (r.rise i j l m))
          (λ (m : length ps ≤ j).
          subst (λ q. is_before (at ps i) q ≡ true) (sym (get_or_push ps p no_place j (omega (arith, m, lt, wide)))) (b i low))
          (split j (length ps)));
    }

behind_push : (old new : List NetOnPath) (p : NetOnPath) (least : ℕ) → Behind old new p.node least → least ≤ p.net
    → Behind old (new ++ p ∷ []) p.node (p.net + 1)
behind_push old new p least b le =
    let wide = length-append new (p ∷ []) in
    let longer = b.are.longer in
    record {
      are = record {
        rising = rising_push new p b.are.rising (λ i l. under_before (at new i) p least (b.under i l) le);
        longer = omega (arith, wide, longer);
        same = λ i l. get_or_append_left new (p ∷ []) no_place i (omega (arith, l, longer)) ∙ b.are.same i l;
        own = λ i l lt.
            ⊎_elim
            (λ (m : i < length new).
            ap (λ (q : NetOnPath). q.node) (get_or_append_left new (p ∷ []) no_place i m) ∙ b.are.own i l m)
            (λ (m : length new ≤ i). ap (λ (q : NetOnPath). q.node) (get_or_push new p no_place i (omega (arith, m, lt, wide))))
            (split i (length new));
      };
      under =
          at_push new p (IsUnder p.node (p.net + 1)) (λ i l. under_more (at new i) p.node least (p.net + 1) (b.under i l) (omega (arith, le)))
          (inr (refl, omega arith));
    }

behind_same : (old new : List NetOnPath) (node least more : ℕ) → Behind old new node least → least ≤ more → Behind old new node more
behind_same old new node least more b le = record { are = b.are; under = λ i l. under_more (at new i) node least more (b.under i l) le }

-- one net more
behind_net : (old : List NetOnPath) (t : NetTally) (node net least : ℕ) (o : Option Bool) → Behind old t.places node least → least ≤ net
    → Behind old (with_net t (record { node = node; net = net }) o).places node (net + 1)
behind_net old t node net least None b le = behind_push old t.places (record { node = node; net = net }) least b le
behind_net old t node net least (Some v) b le = by (is_some (first_of t v)) v
  where
    p : NetOnPath
    p = record { node = node; net = net }

    by : (c v : Bool) → Behind old (cond c t (with_first t p v)).places node (net + 1)
    by true v = behind_same old t.places node least (net + 1) b (omega (arith, le))
    by false true = behind_push old t.places p least b le
    by false false = behind_push old t.places p least b le

-- nets that rise from a least one on
abbrev pub Ascends : ℕ → List ℕ → Type 0
Ascends least [] = Unit {0}
Ascends least (n ∷ ns) = (least ≤ n) × Ascends (n + 1) ns

ascends_from : (least more : ℕ) (ns : List ℕ) → least ≤ more → Ascends more ns → Ascends least ns
ascends_from least more [] le a = tt
ascends_from least more (n ∷ ns) le a = let low = a.0 in (omega (arith, le, low), a.1)

ascends_filter : (test : ℕ → Bool) (a k : ℕ) → Ascends a (filter test (range_with_len a k))
ascends_filter test a zero = tt
ascends_filter test a (suc k) = by (test a) (ascends_filter test (a + 1) k)
  where
    by : (b : Bool) → Ascends (a + 1) (filter test (range_with_len (a + 1) k))
        → Ascends a (cond b (a ∷ filter test (range_with_len (a + 1) k)) (filter test (range_with_len (a + 1) k)))
    by true h = (omega arith, h)
    by false h = ascends_from a (a + 1) (filter test (range_with_len (a + 1) k)) (omega arith) h

-- those that joins leave rise
pub free_ascend : (joins : List Join) (count : ℕ) → Ascends 0 (free_nets joins count)
free_ascend joins count = ascends_filter (λ n. is_none (joined_with joins n)) 0 count

pub node_ascends : (blocks : List FlatModule) (nodes : List Node) (k : ℕ) → Ascends 0 (free_of_node blocks nodes k)
node_ascends blocks nodes k =
    free_ascend (joins_of_node blocks nodes k)
    (count_in blocks
    (instance_in (slice_index_or (map module_of blocks) (node_at nodes (node_at nodes k).parent).of no_module) (node_at nodes k).instance).of)

behind_nets : (old : List NetOnPath) (t : NetTally) (node least : ℕ) (bits : List Bit) (ns : List ℕ) → Ascends least ns → Behind old t.places node least
    → AreBehind old (with_nets t node bits ns).places node
behind_nets old t node least bits [] a b = b.are
behind_nets old t node least bits (n ∷ ns) a b =
    behind_nets old (with_net t (record { node = node; net = n }) (bit_in bits n)) node (n + 1) bits ns a.1
    (behind_net old t node n least (bit_in bits n) b a.0)

-- ---- node by node

-- the places of the nodes before one, with the starts of those nodes
pub record AreUpTo (places : List NetOnPath) (starts : List ℕ) (node : ℕ) : Type 0 where
  pub rising : AreRising places
  pub count : length starts ≡ node
  pub lower : (i : ℕ) → i < length places → (at places i).node < node
  pub from : (i : ℕ) → i < length places → get_or starts (at places i).node 0 ≤ i
  pub before : (i : ℕ) → i < length places → (at places i).node + 1 < node → i < get_or starts ((at places i).node + 1) 0

none_rise : AreRising []
none_rise = record { rise = λ i j l lt. absurd (omega (arith, lt)) }

pub up_to_top : AreUpTo [] [] 0
up_to_top =
    record {
      rising = none_rise;
      count = refl;
      lower = λ i lt. absurd (omega (arith, lt));
      from = λ i lt. absurd (omega (arith, lt));
      before = λ i lt m. absurd (omega (arith, lt));
    }

-- the next node's nets
pub up_to_more : (t u : NetTally) (starts : List ℕ) (node : ℕ) (bits : List Bit) (ns : List ℕ) → u ≡ with_nets t node bits ns → Ascends 0 ns
    → AreUpTo t.places starts node → AreUpTo u.places (starts ++ length t.places ∷ []) (node + 1)
up_to_more t u starts node bits ns e rise a =
    let old = t.places in
    let more : AreBehind old u.places node =
    subst (λ (v : NetTally). AreBehind old v.places node) (sym e)
    (behind_nets old t node 0 bits ns rise
    (record {
      are = record {
        rising = a.rising;
        longer = omega arith;
        same = λ i l. refl;
        own = λ i l lt. absurd (omega (arith, l, lt));
      };
      under = λ i l. inl (a.lower i l);
    })) in
    let wide = length-append starts (length old ∷ []) in
    let counted = a.count in
    let new = u.places in
    record {
      rising = more.rising;
      count = omega (arith, wide, counted);
      lower = λ i lt.
          ⊎_elim
          (λ (l : i < length old).
          let less = a.lower i l in
          subst (λ (p : NetOnPath). p.node < node + 1) (sym (more.same i l)) (omega (arith, less)))
          (λ (l : length old ≤ i). let same = more.own i l lt in omega (arith, same))
          (split i (length old));
      from = λ i lt.
          ⊎_elim
          (λ (l : i < length old).
          let less = a.lower i l in
          subst (λ (p : NetOnPath). get_or (starts ++ length old ∷ []) p.node 0 ≤ i) (sym (more.same i l))
          (subst (λ k. k ≤ i) (sym (get_or_append_left starts (length old ∷ []) 0 (at old i).node (omega (arith, less, counted)))) (a.from i l)))
          (λ (l : length old ≤ i).
          let same = more.own i l lt in
          subst (λ k. k ≤ i) (sym (get_or_push starts (length old) 0 (at new i).node (omega (arith, same, counted)))) l)
          (split i (length old));
      before = λ i lt next.
          ⊎_elim
          (λ (l : i < length old).
          subst (λ (p : NetOnPath). i < get_or (starts ++ length old ∷ []) (p.node + 1) 0) (sym (more.same i l))
          (⊎_elim
          (λ (m : (at old i).node + 1 < node).
          subst (λ k. i < k) (sym (get_or_append_left starts (length old ∷ []) 0 ((at old i).node + 1) (omega (arith, m, counted)))) (a.before i l m))
          (λ (m : node ≤ (at old i).node + 1).
          let less = a.lower i l in
          subst (λ k. i < k) (sym (get_or_push starts (length old) 0 ((at old i).node + 1) (omega (arith, m, less, counted)))) l)
          (split ((at old i).node + 1) node)))
          (λ (l : length old ≤ i). let same = more.own i l lt in absurd (omega (arith, same, next)))
          (split i (length old));
    }

-- all nodes
pub by_node_at_end : (places : List NetOnPath) (starts : List ℕ) (node : ℕ) → AreUpTo places starts node → AreByNode places (starts ++ length places ∷ [])
by_node_at_end places starts node a =
    let counted = a.count in
    let wide = length-append starts (length places ∷ []) in
    record {
      rising = a.rising;
      next = λ i l. let less = a.lower i l in omega (arith, less, wide, counted);
      from = λ i l.
          let less = a.lower i l in
          subst (λ k. k ≤ i) (sym (get_or_append_left starts (length places ∷ []) 0 (at places i).node (omega (arith, less, counted)))) (a.from i l);
      before = λ i l.
          let less = a.lower i l in
          ⊎_elim
          (λ (m : (at places i).node + 1 < node).
          subst (λ k. i < k) (sym (get_or_append_left starts (length places ∷ []) 0 ((at places i).node + 1) (omega (arith, m, counted)))) (a.before i l m))
          (λ (m : node ≤ (at places i).node + 1).
          subst (λ k. i < k) (sym (get_or_push starts (length places) 0 ((at places i).node + 1) (omega (arith, m, less, counted)))) l)
          (split ((at places i).node + 1) node);
    }
