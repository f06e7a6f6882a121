-- The bits of signals, put one after another.
use Rattle.std.proofs.Common.{◌≡◌, ℕ, zero, suc, true, false, ◌+◌, ◌-◌, ◌<◌, ◌≤◌, ◌==◌, ◌⊎◌, inl, inr, drop, get_or, List, [], ◌∷◌, ◌++◌, length, map, Bool, ◌||◌, Option}
use Rattle.std.proofs.Common.{Some, Result, Ok, Err, refl, ap, subst, sym, ◌∙◌, arith, append_assoc}
use Rattle.std.specs.Prelude.{IfOk, Vec}
use Rattle.std.specs.declared.alloc.Global.{Global}
use Rattle.std.specs.List.Sorted.{IsPermutation, IsSorted, IsSortedBy}
use Rattle.std.specs.Ordering.{is_lt}
use Rattle.std.specs.declared.cmp.Reverse.{Reverse}
use Rattle.std.proofs.lemmas.List.Sorted.{IsPermutation-map}
use Rattle.std.proofs.lemmas.Bool.{cases_lt}
use Rattle.bs_bits.specs.declared.memory.NoMemory.{NoMemory}
use Rattle.std.specs.Borrow.{Bor}
use Rattle.std.specs.List.{list_any}
use Rattle.bs_net_names.specs.Keys.{KeyParts, key_parts}
use Rattle.std.proofs.lemmas.List.{append-nil, length-map, drop_more, get_or_append_left, get_or_push, length_push, get_or-map, map-append}
use Rattle.bs_inspect_view.specs.declared.signal.Signal.{Signal as CodeSignal}
use Rattle.bs_inspect_view.specs.declared.signal.Member.{Member as CodeMember}
use Rattle.bs_net_names.specs.Naming.{is_named}
use Rattle.bs_inspect_view.specs.Signals.{Member, Signal, AreSignals, is_wanted, member_of, wanted, members_from, member_in, members_of, signal_in}
use Rattle.bs_inspect_view.specs.Signals.{lower, bits_from, bits_of, all_bits, GoesOn, goes_on, first_of, height, member_cmp, AreWhole, AreWholeIn, EndsBefore, MayFollow}

-- so many numbers lower
abbrev pub lowered : ℕ → Option ℕ → Option ℕ
lowered zero high = high
lowered (suc n) high = lowered n (lower high)

lowered_some : (n high : ℕ) → lowered n (Some high) ≡ Some (high - n)
lowered_some zero high = let e : high ≡ high - 0 = omega arith in ap (λ (k : ℕ). Some k) e
lowered_some (suc n) high = lowered_some n (high - 1) ∙ ap (λ (k : ℕ). Some k) (let e : high - 1 - n ≡ high - suc n = omega arith in e)

bits_more : (base : List ℕ) (high : Option ℕ) (ps : List ℕ) (p : ℕ) →
    bits_from base high (ps ++ p ∷ []) ≡ bits_from base high ps ++ (record { base = base; bit = lowered (length ps) high; place = p }) ∷ []
bits_more base high [] p = refl
bits_more base high (q ∷ ps) p = ap (λ (ms : List Member). (record { base = base; bit = high; place = q }) ∷ ms) (bits_more base (lower high) ps p)

-- the bits of a signal with the bit that goes on
pub bits_extended : (s : Signal) (m : Member) → GoesOn s m → bits_from s.base s.high (s.places ++ m.place ∷ []) ≡ bits_of s ++ m ∷ []
bits_extended s m on =
    let e : lowered (length s.places) s.high ≡ Some (on.high - length s.places) =
    ap (lowered (length s.places)) on.vector ∙ lowered_some (length s.places) on.high in
    bits_more s.base s.high s.places m.place
    ∙ (ap (λ (o : Option ℕ). bits_of s ++ (record { base = s.base; bit = o; place = m.place }) ∷ []) e
    ∙ ap (λ (x : Member). bits_of s ++ x ∷ []) (sym on.next))

flat_append : (xs ys : List CodeSignal) → all_bits (xs ++ ys) ≡ all_bits xs ++ all_bits ys
flat_append [] ys = refl
flat_append (x ∷ xs) ys =
    ap (λ (ms : List Member). bits_of (signal_in x) ++ ms) (flat_append xs ys)
    ∙ sym (append_assoc (bits_of (signal_in x)) (all_bits xs) (all_bits ys))

pub bits_put : (xs : List CodeSignal) (x : CodeSignal) → all_bits (xs ++ x ∷ []) ≡ all_bits xs ++ bits_of (signal_in x)
bits_put xs x = flat_append xs (x ∷ []) ∙ ap (λ (ms : List Member). all_bits xs ++ ms) (append-nil (bits_of (signal_in x)))

-- the bits of signals whose last one was taken out
pub bits_last : (all rest : List CodeSignal) (x : CodeSignal) → all ≡ rest ++ x ∷ [] → all_bits all ≡ all_bits rest ++ bits_of (signal_in x)
bits_last all rest x e = ap all_bits e ∙ bits_put rest x

-- ---- signals that are whole

first_from : (base : List ℕ) (high : Option ℕ) (ps : List ℕ) (m : Member) (ms : List Member) → bits_from base high ps ≡ m ∷ ms → 0 < length ps
first_from base high [] m ms e = absurd cc
first_from base high (p ∷ ps) m ms e = omega arith

first_is : (base : List ℕ) (high : Option ℕ) (ps : List ℕ) (m : Member) (ms : List Member) → bits_from base high ps ≡ m ∷ ms →
    (record { base = base; bit = high; place = get_or ps 0 0 }) ≡ m
first_is base high [] m ms e = absurd cc
first_is base high (p ∷ ps) m ms e = ap (λ (l : List Member). get_or l 0 m) e

bits_begin : (base : List ℕ) (high : Option ℕ) (ps : List ℕ) → 0 < length ps →
    bits_from base high ps ≡ (record { base = base; bit = high; place = get_or ps 0 0 }) ∷ drop 1 (bits_from base high ps)
bits_begin base high [] lt = absurd (omega (arith, lt))
bits_begin base high (p ∷ ps) lt = refl

whole_more : (xs : List Signal) (x : Signal) → AreWhole xs → 0 < length x.places →
    ((d : Signal) → 0 < length xs → goes_on (get_or xs (length xs - 1) d) (first_of x) ≡ false) → AreWhole (xs ++ x ∷ [])
whole_more xs x whole one apart = record {
  some = λ k d lt. some_at k d lt (cases_lt k (length xs));
  parted = λ k d lt. parted_at k d lt (cases_lt (k + 1) (length xs));
}
  where
    some_at : (k : ℕ) (d : Signal) → k < length (xs ++ x ∷ []) → (k < length xs) ⊎ (length xs ≤ k) → 0 < length (get_or (xs ++ x ∷ []) k d).places
    some_at k d lt (inl less) = rw (get_or_append_left xs (x ∷ []) d k less) (whole.some k d less)
    some_at k d lt (inr le) = rw (get_or_push xs x d k (omega (arith, lt, le, length_push xs x))) one

    parted_at : (k : ℕ) (d : Signal) → k + 1 < length (xs ++ x ∷ []) → (k + 1 < length xs) ⊎ (length xs ≤ k + 1) →
        goes_on (get_or (xs ++ x ∷ []) k d) (first_of (get_or (xs ++ x ∷ []) (k + 1) d)) ≡ false
    parted_at k d lt (inl less) =
        rw (get_or_append_left xs (x ∷ []) d k (omega (arith, less)), get_or_append_left xs (x ∷ []) d (k + 1) less) (whole.parted k d less)
    parted_at k d lt (inr le) =
        let last : length xs - 1 ≡ k = omega (arith, lt, le, length_push xs x) in
        let there : k < length xs = omega (arith, lt, le, length_push xs x) in
        rw (get_or_append_left xs (x ∷ []) d k there, get_or_push xs x d (k + 1) (omega (arith, lt, le, length_push xs x)))
        (subst (λ (i : ℕ). goes_on (get_or xs i d) (first_of x) ≡ false) last (apart d (omega (arith, there))))

ends_in : (old : List CodeSignal) (m : Member) (d : Signal) → EndsBefore old m → 0 < length (map signal_in old) →
    goes_on (get_or (map signal_in old) (length (map signal_in old) - 1) d) m ≡ false
ends_in [] m d h lt = absurd (omega (arith, lt))
ends_in (o ∷ os) m d h lt =
    let wide : length (map signal_in (o ∷ os)) ≡ length (o ∷ os) = length-map (o ∷ os) signal_in in
    let there : length (o ∷ os) - 1 < length (o ∷ os) = omega arith in
    rw (wide, get_or-map signal_in (o ∷ os) (length (o ∷ os) - 1) o d there) (h.apart o (omega arith))

pub whole_put : (old new : List CodeSignal) (s : CodeSignal) → AreWholeIn old → MayFollow old (signal_in s) → new ≡ old ++ s ∷ [] → AreWholeIn new
whole_put old new s whole follows e =
    subst AreWhole (sym (ap (map signal_in) e ∙ map-append signal_in old (s ∷ [])))
    (whole_more (map signal_in old) (signal_in s) whole follows.some (λ d lt. ends_in old (first_of (signal_in s)) d follows.ends lt))

pub single_follows : (old : List CodeSignal) (s : Signal) (m : Member) → bits_of s ≡ m ∷ [] → EndsBefore old m → MayFollow old s
single_follows old s m e ends = record {
  some = first_from s.base s.high s.places m [] e;
  ends = subst (EndsBefore old) (sym (first_is s.base s.high s.places m [] e)) ends;
}

pub extended_follows : (old : List CodeSignal) (last s : Signal) (m : Member) → MayFollow old last → bits_of s ≡ bits_of last ++ m ∷ [] → MayFollow old s
extended_follows old last s m follows e =
    let begins : bits_of s ≡ first_of last ∷ (drop 1 (bits_of last) ++ m ∷ []) =
    e ∙ ap (λ (ms : List Member). ms ++ m ∷ []) (bits_begin last.base last.high last.places follows.some) in
    record {
      some = first_from s.base s.high s.places (first_of last) (drop 1 (bits_of last) ++ m ∷ []) begins;
      ends = subst (EndsBefore old) (sym (first_is s.base s.high s.places (first_of last) (drop 1 (bits_of last) ++ m ∷ []) begins)) follows.ends;
    }

pub ends_before : (old after : List CodeSignal) (last : CodeSignal) (m : Member) (b : Bool) → after ≡ old ++ last ∷ [] →
    b ≡ goes_on (signal_in last) m → b ≡ false → EndsBefore after m
ends_before old after last m b e is isnt = record {
  apart = λ d lt.
      let at_end : get_or after (length after - 1) d ≡ last =
      ap (λ (l : List CodeSignal). get_or l (length l - 1) d) e
      ∙ get_or_push old last d (length (old ++ last ∷ []) - 1) (omega (arith, length_push old last)) in
      ap (λ (s : CodeSignal). goes_on (signal_in s) m) at_end ∙ (sym is ∙ isnt);
}

pub none_before : (old : List CodeSignal) (m : Member) → length old ≡ 0 → EndsBefore old m
none_before old m e = record { apart = λ d lt. absurd (omega (arith, e, lt)) }

pub none_whole : (signals : List CodeSignal) → signals ≡ [] → AreWholeIn signals
none_whole signals e = subst AreWholeIn (sym e) (record { some = λ k d lt. absurd (omega (arith, lt)); parted = λ k d lt. absurd (omega (arith, lt)) })

pub whole_rest : (all rest : List CodeSignal) (x : CodeSignal) → all ≡ rest ++ x ∷ [] → AreWholeIn all → AreWholeIn rest
whole_rest all rest x e whole =
    let xs : List Signal = map signal_in rest in
    let w : AreWhole (xs ++ signal_in x ∷ []) = subst AreWhole (ap (map signal_in) e ∙ map-append signal_in rest (x ∷ [])) whole in
    record {
      some = λ k d lt.
          subst (λ (s : Signal). 0 < length s.places) (get_or_append_left xs (signal_in x ∷ []) d k lt)
          (w.some k d (omega (arith, lt, length_push xs (signal_in x))));
      parted = λ k d lt.
          let a : get_or (xs ++ signal_in x ∷ []) k d ≡ get_or xs k d = get_or_append_left xs (signal_in x ∷ []) d k (omega (arith, lt)) in
          let b : get_or (xs ++ signal_in x ∷ []) (k + 1) d ≡ get_or xs (k + 1) d = get_or_append_left xs (signal_in x ∷ []) d (k + 1) lt in
          sym (λ i. goes_on (a i) (first_of (b i))) ∙ w.parted k d (omega (arith, lt, length_push xs (signal_in x)));
    }

pub last_follows : (all rest : List CodeSignal) (x : CodeSignal) → all ≡ rest ++ x ∷ [] → AreWholeIn all → MayFollow rest (signal_in x)
last_follows all rest x e whole =
    let xs : List Signal = map signal_in rest in
    let wide : length xs ≡ length rest = length-map rest signal_in in
    let w : AreWhole (xs ++ signal_in x ∷ []) = subst AreWhole (ap (map signal_in) e ∙ map-append signal_in rest (x ∷ [])) whole in
    record {
      some =
          subst (λ (s : Signal). 0 < length s.places) (get_or_push xs (signal_in x) (signal_in x) (length xs) refl)
          (w.some (length xs) (signal_in x) (omega (arith, length_push xs (signal_in x))));
      ends = record {
        apart = λ d lt.
            let s : Signal = signal_in x in
            let there : length rest - 1 < length rest = omega (arith, lt) in
            let there_too : length rest - 1 < length xs = omega (arith, lt, wide) in
            let a : get_or (xs ++ s ∷ []) (length rest - 1) s ≡ signal_in (get_or rest (length rest - 1) d) =
            get_or_append_left xs (s ∷ []) s (length rest - 1) there_too ∙ get_or-map signal_in rest (length rest - 1) d s there in
            let b : get_or (xs ++ s ∷ []) (length rest - 1 + 1) s ≡ s = get_or_push xs s s (length rest - 1 + 1) (omega (arith, lt, wide)) in
            sym (λ i. goes_on (a i) (first_of (b i))) ∙ w.parted (length rest - 1) s (omega (arith, lt, wide, length_push xs s));
      };
    }

both : {A : Type 0} (r : Result A NoMemory) (P Q R : A → Type 0) → ((x : A) → P x → Q x → R x) → IfOk r P → IfOk r Q → IfOk r R
both (Ok x) P Q R f p q = f x p q
both (Err e) P Q R f p q = p

-- sorted bits that were joined are the signals of the keys
pub are_from : (r : Result (Vec CodeSignal Global) NoMemory) (only keys : List (List ℕ)) (members sorted given : List CodeMember) →
    map member_in members ≡ members_of only keys → IsPermutation members sorted → given ≡ sorted → IsSorted member_cmp (map member_in sorted) →
    IfOk r (λ signals. AreWholeIn signals.items) →
    IfOk r (λ signals. all_bits signals.items ≡ map member_in given) → IfOk r (λ signals. AreSignals only keys (map signal_in signals.items))
are_from r only keys members sorted given are moved same in_order whole joined =
    both r (λ signals. AreWholeIn signals.items) (λ signals. all_bits signals.items ≡ map member_in given)
    (λ signals. AreSignals only keys (map signal_in signals.items))
    (λ signals w h. record {
      sorted = map member_in sorted;
      each_once = subst (λ (ms : List Member). IsPermutation ms (map member_in sorted)) are (IsPermutation-map member_in members sorted moved);
      bits = h ∙ ap (map member_in) same;
      in_order = in_order;
      whole = w;
    })
    whole joined

-- ---- the order

-- what bits are sorted by
abbrev pub member_key : CodeMember → Bor (List ℕ) × Reverse ℕ × ℕ
member_key m = (m.base, record { 0 = height m.bit }, m.place)

pub sorted_in : (xs : List CodeMember) → IsSortedBy (λ a b. is_lt (member_cmp (member_in a) (member_in b))) xs → IsSorted member_cmp (map member_in xs)
sorted_in [] h k d low lt = absurd (omega (arith, lt))
sorted_in (x ∷ xs) h k d low lt =
    let wide : length (map member_in (x ∷ xs)) ≡ length (x ∷ xs) = length-map (x ∷ xs) member_in in
    let here : k < length (x ∷ xs) = omega (arith, lt, wide) in
    let next : k + 1 < length (x ∷ xs) = omega (arith, lt, wide) in
    rw (get_or-map member_in (x ∷ xs) k x d here, get_or-map member_in (x ∷ xs) (k + 1) x d next) (h k x low next)

-- names of the code and of the definitions
pub any_named : (parts : KeyParts) (only : List (Bor (List ℕ))) → list_any (λ s. is_named parts s.now) only ≡ list_any (is_named parts) (map (λ s. s.now) only)
any_named parts [] = refl
any_named parts (s ∷ only) = ap (λ (b : Bool). is_named parts s.now || b) (any_named parts only)

pub wanted_else : (parts : KeyParts) (only : List (Bor (List ℕ))) (b : Bool) → (length only == 0) ≡ false → b ≡ list_any (λ s. is_named parts s.now) only →
    b ≡ is_wanted (map (λ s. s.now) only) parts
wanted_else parts only b some e =
    let long : length (map (λ (s : Bor (List ℕ)). s.now) only) ≡ length only = length-map only (λ (s : Bor (List ℕ)). s.now) in
    e ∙ (any_named parts only ∙ sym (rw (long, some) refl))

-- ---- the places that are wanted

pub wanted_put : (only : List (List ℕ)) (key : List ℕ) (place : ℕ) → is_wanted only (key_parts key) ≡ true →
    wanted only key place ≡ member_of (key_parts key) place ∷ []
wanted_put only key place is = rw is refl

pub wanted_not : (only : List (List ℕ)) (key : List ℕ) (place : ℕ) → is_wanted only (key_parts key) ≡ false → wanted only key place ≡ []
wanted_not only key place isnt = rw isnt refl

pub members_put : (only : List (List ℕ)) (keys : List (Bor (List ℕ))) (i : ℕ) (d : Bor (List ℕ)) (before after all : List Member) → i < length keys →
    after ≡ before ++ wanted only (get_or keys i d).now i → before ++ members_from only i (map (λ s. s.now) (drop i keys)) ≡ all →
    after ++ members_from only (i + 1) (map (λ s. s.now) (drop (i + 1) keys)) ≡ all
members_put only keys i d before after all lt put e =
    let rest = members_from only (i + 1) (map (λ (s : Bor (List ℕ)). s.now) (drop (i + 1) keys)) in
    ap (λ (ms : List Member). ms ++ rest) put
    ∙ (append_assoc before (wanted only (get_or keys i d).now i) rest
    ∙ (ap (λ (ks : List (Bor (List ℕ))). before ++ members_from only i (map (λ (s : Bor (List ℕ)). s.now) ks)) (sym (drop_more keys i d lt)) ∙ e))
