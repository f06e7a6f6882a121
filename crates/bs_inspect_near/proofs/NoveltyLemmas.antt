-- What is found of a signal, and of all.
use Rattle.std.proofs.Common.{◌≡◌, ℕ, ◌<◌, ◌≤◌, ◌+◌, ◌-◌, Bool, true, false, not, List, [], ◌∷◌, ◌++◌, length, map, get_or, Option, Some, None}
use Rattle.std.proofs.Common.{refl, ap, sym, subst, ◌∙◌, ◌⊎◌, inl, inr, ⊎_elim, arith}
use Rattle.std.specs.Prelude.{MatchOption}
use Rattle.std.specs.List.{flat_map}
use Rattle.std.proofs.lemmas.Bool.{cases_eq, cases_lt}
use Rattle.std.proofs.lemmas.List.{append-nil, get_or_append_left, get_or_default, get_or-map, get_or_push, length-map, length_push}
use Rattle.std.proofs.lemmas.Grind.{flat_map-append}
use Rattle.bs_net.specs.Circuit.{Circuit}
use Rattle.bs_inspect_view.specs.Signals.{Signal, signal_in}
use Rattle.bs_inspect_view.specs.declared.signal.Signal.{Signal as CodeSignal}
use Rattle.bs_scan.specs.Moments.{IsMoment, Run, is_listed, moment}
use Rattle.bs_inspect_near.specs.declared.novelty.Novelty.{Novelty}
use Rattle.bs_inspect_near.specs.declared.novelty.TheConstants.{MAX_VALUES}
use Rattle.bs_inspect_near.specs.Values.{AreOthers, IsNovel, value_at, value_in}
use Rattle.bs_inspect_near.specs.Novelties.{AreNovelties, IsNovelty, no_signal, one_or_none, signal_at}
use Rattle.bs_inspect_near.specs.Known.{AreOwn, AreWhole, IsFirstNew, IsWhole, NoneNew, all_places, found_at}

-- ---- the first state

double_no : (b n : Bool) → n ≡ not b → n ≡ false → b ≡ true
double_no true n e f = refl
double_no false true e f = absurd cc
double_no false false e f = absurd cc

no_is : (b n : Bool) → n ≡ not b → n ≡ true → b ≡ false
no_is false n e f = refl
no_is true true e f = absurd cc
no_is true false e f = absurd cc

pub none_begin : (own : List (List Bool)) (places : List ℕ) (values : List (List Bool)) → NoneNew own places values 0
none_begin own places values = record { each = λ t lt. absurd (omega (arith, lt)) }

pub none_more : (own : List (List Bool)) (places : List ℕ) (values : List (List Bool)) (i : ℕ) (state : List Bool) (new : Bool) → i < length own →
    state ≡ get_or own i state → new ≡ not (is_listed values (value_in state places)) → new ≡ false → NoneNew own places values i →
    NoneNew own places values (i + 1)
none_more own places values i state new lt at is off none = record {
  each = λ t less.
      ⊎_elim
      (λ (same : t ≡ i).
      ap (λ (n : ℕ). is_listed values (value_in (get_or own n []) places)) same
      ∙ (ap (λ (s : List Bool). is_listed values (value_in s places)) (sym (at ∙ get_or_default own i state [] lt))
      ∙ double_no (is_listed values (value_in state places)) new is off))
      (λ (other : t ≡ i → ⊥). none.each t (omega (arith, less, other)))
      (cases_eq t i);
}

pub none_all : (own : List (List Bool)) (places : List ℕ) (values : List (List Bool)) (i : ℕ) → length own ≤ i → NoneNew own places values i →
    NoneNew own places values (length own)
none_all own places values i le none = record { each = λ t lt. none.each t (omega (arith, lt, le)) }

pub first_is : (own : List (List Bool)) (places : List ℕ) (values : List (List Bool)) (i : ℕ) (state : List Bool) (new : Bool) → i < length own →
    state ≡ get_or own i state → new ≡ not (is_listed values (value_in state places)) → new ≡ true → NoneNew own places values i →
    IsFirstNew own places values i
first_is own places values i state new lt at is on none = record {
  there = lt;
  new =
      ap (λ (s : List Bool). is_listed values (value_in s places)) (sym (at ∙ get_or_default own i state [] lt))
      ∙ no_is (is_listed values (value_in state places)) new is on;
  before = λ t less. none.each t less;
}

-- ---- one signal

none_some : {X : Type 0} (x : X) → None ≡ Some x → ⊥
none_some x e = absurd cc

some_none : {X : Type 0} (x : X) → Some x ≡ None → ⊥
some_none x e = absurd cc

some_same : (f g : Novelty) → Some f ≡ Some g → f ≡ g
some_same f g e = ap (λ (o : Option Novelty). one_of o) e
  where
    one_of : Option Novelty → Novelty
    one_of None = f
    one_of (Some h) = h

pub over_is : (c : Circuit) (runs : List Run) (number i : ℕ) (places : List ℕ) (values : List (List Bool)) → MAX_VALUES < length values →
    IsWhole c runs number places values → IsNovelty c runs number i places None
over_is c runs number i places values over whole = record {
  place = λ f e. absurd (none_some f e);
  novel = λ f e. absurd (none_some f e);
  none = λ e. inl (record { values = values; elsewhere = whole.elsewhere; many = over });
}

all_others : (c : Circuit) (runs : List Run) (number : ℕ) (places : List ℕ) (values : List (List Bool)) → length values ≤ MAX_VALUES →
    IsWhole c runs number places values → AreOthers c runs number places values
all_others c runs number places values few whole = record {
  elsewhere = whole.elsewhere;
  all = λ m there other. whole.all few m there other;
}

-- a value of the run
pub own_value : (c : Circuit) (runs : List Run) (number : ℕ) (own : List (List Bool)) (places : List ℕ) (t : ℕ) → AreOwn c runs number own →
    t < length own → value_in (get_or own t []) places ≡ value_at c runs places number t
own_value c runs number own places t are lt = ap (λ (s : List Bool). value_in s places) (are.each t lt)

own_moment : (c : Circuit) (runs : List Run) (number : ℕ) (own : List (List Bool)) (t : ℕ) → AreOwn c runs number own → t < length own →
    IsMoment runs (moment number t)
own_moment c runs number own t are lt = record { from_one = are.from_one; recorded = are.there; lasts = omega (arith, lt, are.long) }

pub own_there : (c : Circuit) (runs : List Run) (number : ℕ) (own : List (List Bool)) (t : ℕ) → AreOwn c runs number own →
    IsMoment runs (moment number t) → t < length own
own_there c runs number own t are there = omega (arith, there.lasts, are.long)

listed_own : (c : Circuit) (runs : List Run) (number : ℕ) (own : List (List Bool)) (places : List ℕ) (values : List (List Bool)) (t : ℕ) →
    AreOwn c runs number own → t < length own → is_listed values (value_in (get_or own t []) places) ≡ true →
    is_listed values (value_at c runs places number t) ≡ true
listed_own c runs number own places values t are lt is = ap (is_listed values) (sym (own_value c runs number own places t are lt)) ∙ is

cycle_is : (c : Circuit) (runs : List Run) (number i : ℕ) (own : List (List Bool)) (places : List ℕ) (values : List (List Bool)) (count : ℕ)
    (cycle : Option ℕ) → AreOwn c runs number own → length values ≤ MAX_VALUES → count ≡ length values → IsWhole c runs number places values →
    MatchOption cycle (NoneNew own places values (length own)) (IsFirstNew own places values) → IsNovelty c runs number i places (found_at i count cycle)
cycle_is c runs number i own places values count None are few counted whole all = record {
  place = λ f e. absurd (none_some f e);
  novel = λ f e. absurd (none_some f e);
  none = λ e.
      inr
      (record {
        values = values;
        others = all_others c runs number places values few whole;
        each = λ t there.
            let lt : t < length own = own_there c runs number own t are there in
            listed_own c runs number own places values t are lt (all.each t lt);
      });
}
cycle_is c runs number i own places values count (Some cycle) are few counted whole new = record {
  place = λ f e. sym (ap (λ (g : Novelty). g.place) (some_same found f e));
  novel = λ f e.
      subst (λ (g : Novelty). IsNovel c runs number places g.cycle g.count) (some_same found f e)
      (record {
        values = values;
        others = all_others c runs number places values few whole;
        counted = counted;
        few = omega (arith, counted, few);
        lasts = own_moment c runs number own cycle are new.there;
        new = ap (is_listed values) (sym (own_value c runs number own places cycle are new.there)) ∙ new.new;
        before = λ t lt. listed_own c runs number own places values t are (omega (arith, lt, new.there)) (new.before t lt);
      });
  none = λ e. absurd (some_none found e);
}
  where
    found : Novelty
    found = record { place = i; cycle = cycle; count = count }

pub found_is : (c : Circuit) (runs : List Run) (number i : ℕ) (own : List (List Bool)) (places : List ℕ) (values : List (List Bool)) (count : ℕ)
    (cycle : Option ℕ) (found : Option Novelty) → AreOwn c runs number own → length values ≤ MAX_VALUES → count ≡ length values →
    IsWhole c runs number places values →
    MatchOption cycle (NoneNew own places values (length own)) (IsFirstNew own places values) → found ≡ found_at i count cycle →
    IsNovelty c runs number i places found
found_is c runs number i own places values count cycle found are few counted whole all is =
    subst (IsNovelty c runs number i places) (sym is) (cycle_is c runs number i own places values count cycle are few counted whole all)

-- ---- all signals

pub set_there : (c : Circuit) (runs : List Run) (number i : ℕ) (signals : List CodeSignal) (sets : List (List (List Bool))) →
    AreWhole c runs number (all_places signals) sets → i < length signals → i < length sets
set_there c runs number i signals sets are lt = omega (arith, lt, are.long, length-map signals (λ (x : CodeSignal). x.places))

pub novelties_begin : (c : Circuit) (runs : List Run) (number : ℕ) (signals : List Signal) (novelties : List Novelty) → novelties ≡ [] →
    AreNovelties c runs number signals 0 novelties
novelties_begin c runs number signals novelties e = record {
  all = [];
  long = refl;
  each = λ i lt. absurd (omega (arith, lt));
  are = e;
}

pub novelties_more : (c : Circuit) (runs : List Run) (number i : ℕ) (signals : List CodeSignal) (s : CodeSignal) (places : List ℕ)
    (novelties after : List Novelty) (found : Option Novelty) → i < length signals → s ≡ get_or signals i s → places ≡ s.places →
    AreNovelties c runs number (map signal_in signals) i novelties → IsNovelty c runs number i places found → after ≡ novelties ++ one_or_none found →
    AreNovelties c runs number (map signal_in signals) (i + 1) after
novelties_more c runs number i signals s places novelties after found lt at e are is goes = record {
  all = are.all ++ found ∷ [];
  long = length_push are.all found ∙ (let h : length are.all + 1 ≡ i + 1 = omega (arith, are.long) in h);
  each = λ j less. by j less (cases_lt j i);
  are =
      goes
      ∙ (ap (λ (fs : List Novelty). fs ++ one_or_none found) are.are
      ∙ sym (flat_map-append one_or_none are.all (found ∷ [])
      ∙ ap (λ (fs : List Novelty). flat_map one_or_none are.all ++ fs) (append-nil (one_or_none found))));
}
  where
    xs : List Signal
    xs = map signal_in signals

    places_are : places ≡ (signal_at xs i).places
    places_are =
        e
        ∙ (ap (λ (x : CodeSignal). x.places) at
        ∙ sym (ap (λ (x : Signal). x.places)
        (get_or_default xs i no_signal (signal_in s) (omega (arith, lt, length-map signals signal_in)) ∙ get_or-map signal_in signals i s (signal_in s) lt)))

    by : (j : ℕ) → j < i + 1 → (j < i) ⊎ (i ≤ j) → IsNovelty c runs number j (signal_at xs j).places (get_or (are.all ++ found ∷ []) j None)
    by j less (inl before) =
        subst (IsNovelty c runs number j (signal_at xs j).places) (sym (get_or_append_left are.all (found ∷ []) None j (omega (arith, before, are.long))))
        (are.each j before)
    by j less (inr le) =
        let same : i ≡ j = omega (arith, less, le) in
        subst (λ (n : ℕ). IsNovelty c runs number n (signal_at xs n).places (get_or (are.all ++ found ∷ []) n None)) same
        (subst (IsNovelty c runs number i (signal_at xs i).places) (sym (get_or_push are.all found None i are.long))
        (subst (λ (ps : List ℕ). IsNovelty c runs number i ps found) places_are is))

pub places_here : (signals : List CodeSignal) (i : ℕ) (s : CodeSignal) (places : List ℕ) → i < length signals → s ≡ get_or signals i s →
    places ≡ s.places → places ≡ get_or (all_places signals) i []
places_here signals i s places lt at e =
    e ∙ (ap (λ (x : CodeSignal). x.places) at ∙ sym (get_or-map (λ (x : CodeSignal). x.places) signals i s [] lt))

pub whole_here : (c : Circuit) (runs : List Run) (number i : ℕ) (signals : List CodeSignal) (s : CodeSignal) (places : List ℕ)
    (sets : List (List (List Bool))) (set : List (List Bool)) → i < length signals → s ≡ get_or signals i s → places ≡ s.places →
    set ≡ get_or sets i set → AreWhole c runs number (all_places signals) sets → IsWhole c runs number places set
whole_here c runs number i signals s places sets set lt at e here are =
    let there : i < length sets = set_there c runs number i signals sets are lt in
    subst (IsWhole c runs number places) (sym (here ∙ get_or_default sets i set [] there))
    (subst (λ (ps : List ℕ). IsWhole c runs number ps (get_or sets i [])) (sym (places_here signals i s places lt at e)) (are.each i there))

-- what is found is sorted by
abbrev pub novelty_key : Novelty → ℕ × ℕ
novelty_key f = (f.cycle, f.place)
