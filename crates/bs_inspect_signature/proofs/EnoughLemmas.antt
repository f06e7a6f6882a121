-- What is enough, number by number.
use Rattle.std.proofs.Common.{◌≡◌, ◌≢◌, ◌⊎◌, inl, inr, ℕ, ◌<◌, ◌≤◌, ◌+◌, ◌-◌, Bool, true, false, cond, List, [], ◌∷◌, length, take, get_or, refl, ap, sym, subst, ◌∙◌, arith, Option, Some, None}
use Rattle.std.specs.Prelude.{◌||◌, nat_lt, not}
use Rattle.std.proofs.lemmas.Bool.{false≢true, ltb-true, ltb-false}
use Rattle.std.proofs.lemmas.List.{get_or_default, take_more, take_all}
use Rattle.std.proofs.lemmas.List.Sums.{sum_by-cons}
use Rattle.bs_net.specs.Netlist.{circuit_of}
use Rattle.bs_net.specs.Parts.{Parts}
use Rattle.bs_stim.specs.Runs.{Stimulus, inputs_of}
use Rattle.bs_scan.specs.Choice.{Chosen}
use Rattle.bs_scan.specs.Moments.{Moment}
use Rattle.bs_inspect_signature.specs.Enough.{EndsAt, IsEnough, IsGivenUp, IsJudged, IsTooFew, IsVerdict, TellsEnough, answer_of, count_tried, is_refuted, others, suffices}
use Rattle.bs_inspect_signature.specs.MomentCount.{AreMomentCounts, count_cut, is_cut, is_one, most_others, room_of, taken_of, weight_of, weights_of}
use Rattle.bs_inspect_signature.specs.Reading.{mixed_choice}
use Rattle.bs_inspect_signature.specs.Tried.{tried}
use Rattle.bs_inspect_signature.specs.declared.counting.ListPurpose.TheVariants.{Ones}
use Rattle.bs_inspect_signature.specs.declared.counting.PredecessorCount.{PredecessorCount}
use Rattle.bs_inspect_signature.specs.declared.counting.TheConstants.{MAX_LISTED}
use Rattle.bs_inspect_signature.specs.declared.enough.EnoughItems.{EnoughItems}
use Rattle.bs_inspect_signature.specs.declared.enough.EnoughItems.TheVariants.{Number, NoneAt, NoneRead}
use Rattle.bs_inspect_signature.specs.declared.enough.ItemsVerdict.{ItemsVerdict}
use Rattle.bs_inspect_signature.specs.declared.enough.ItemsVerdict.TheVariants.{Suffices, GivenUp, Unread}
use Rattle.bs_inspect_signature.specs.declared.lists.MomentCount.{MomentCount}

-- ---- what lists say

-- a list weighs 1 where it is not cut, and not of one predecessor
one_weighs : (count : PredecessorCount) → is_cut count ≡ false → weight_of Ones count ≡ cond {A = ℕ} (not (is_one count)) 1 0
one_weighs count whole =
    ap (λ (b : Bool). cond {A = ℕ} b MAX_LISTED (cond {A = ℕ} (is_one count) 0 1)) whole ∙ by (is_one count)
  where
    by : (b : Bool) → cond {A = ℕ} b 0 1 ≡ cond {A = ℕ} (not b) 1 0
    by true = refl
    by false = refl

none_parts : (b : Bool) (m n : ℕ) → m ≡ cond {A = ℕ} b 1 0 + n → m ≡ 0 → (b ≡ false) × (n ≡ 0)
none_parts true m n is e = absurd (omega (arith, is, e))
none_parts false m n is e = (refl, omega (arith, is, e))

-- where no list is cut, all weigh as many as are not of one predecessor
whole_weigh : (lists : List MomentCount) → count_cut lists ≡ 0 → weights_of Ones lists ≡ others lists
whole_weigh [] none = refl
whole_weigh (entry ∷ lists) none =
    let parts : (is_cut entry.count ≡ false) × (count_cut lists ≡ 0) =
    none_parts (is_cut entry.count) (count_cut (entry ∷ lists)) (count_cut lists)
    (sum_by-cons (λ (e : MomentCount). cond {A = ℕ} (is_cut e.count) 1 0) entry lists) none in
    let here : weight_of Ones entry.count ≡ cond {A = ℕ} (not (is_one entry.count)) 1 0 = one_weighs entry.count parts.0 in
    let rest : weights_of Ones lists ≡ others lists = whole_weigh lists parts.1 in
    sum_by-cons (λ (e : MomentCount). weight_of Ones e.count) entry lists
    ∙ ((λ i. here i + rest i) ∙ sym (sum_by-cons (λ (e : MomentCount). cond {A = ℕ} (not (is_one e.count)) 1 0) entry lists))

refuted_parts : (cut others most : ℕ) → nat_lt 0 cut || nat_lt most others ≡ false → (cut ≡ 0) × (others ≤ most)
refuted_parts cut others most e = by (nat_lt 0 cut) refl e
  where
    by : (b : Bool) → nat_lt 0 cut ≡ b → b || nat_lt most others ≡ false → (cut ≡ 0) × (others ≤ most)
    by true is h = absurd (false≢true (sym h))
    by false is h = (omega (arith, ltb-false 0 cut is), ltb-false most others h)

-- where the lists do not refute, none was left out
all_taken : (taken width : ℕ) (lists : List MomentCount) → is_refuted taken lists ≡ false →
    (length lists ≡ taken) ⊎ (room_of Ones width taken ≤ weights_of Ones lists) → length lists ≡ taken
all_taken taken width lists few (inl e) = e
all_taken taken width lists few (inr le) =
    let parts : (count_cut lists ≡ 0) × (others lists ≤ most_others taken) = refuted_parts (count_cut lists) (others lists) (most_others taken) few in
    let beyond : most_others taken + 1 ≤ weights_of Ones lists = le in
    absurd (omega (arith, parts.1, beyond, whole_weigh lists parts.0))

-- lists that refute are some
pub some_lists : (taken : ℕ) (lists : List MomentCount) → is_refuted taken lists ≡ true → 0 < length lists
some_lists taken [] e = absurd (none (most_others taken) e)
  where
    none : (n : ℕ) → nat_lt 0 0 || nat_lt n 0 ≡ true → {A : Type 0} → A
    none n h = absurd (omega (arith, ltb-true n 0 h))
some_lists taken (entry ∷ lists) e = omega arith

pub ends_there : (lists : List MomentCount) (last : ℕ) (d : MomentCount) (at : Moment) → 0 < length lists → last ≡ length lists - 1 →
    at ≡ (get_or lists last d).moment → EndsAt lists at
ends_there lists last d at some e is = record {
  before = take last lists;
  last = get_or lists last d;
  split =
      let inside : last < length lists = omega (arith, some, e) in
      let all : length lists ≤ last + 1 = omega (arith, some, e) in
      sym (take_all (last + 1) lists all) ∙ take_more lists last d inside;
  is = is;
}

-- the moment of a verdict
abbrev moment_in : ItemsVerdict → Moment → Moment
moment_in Suffices d = d
moment_in (GivenUp m) d = m
moment_in Unread d = d

pub refuted_at : (taken : ℕ) (lists : List MomentCount) (at : Moment) → is_refuted taken lists ≡ true → EndsAt lists at → IsVerdict taken lists (GivenUp at)
refuted_at taken lists at e ends = record {
  suffices = λ is. absurd cc;
  refuted = λ other is. e;
  ends = λ other is. subst (EndsAt lists) (same at other is) ends;
  read = λ is. absurd cc;
}
  where
    same : (a b : Moment) → GivenUp a ≡ GivenUp b → a ≡ b
    same a b is = ap (λ (v : ItemsVerdict). moment_in v a) is

pub not_refuted : (taken : ℕ) (lists : List MomentCount) → is_refuted taken lists ≡ false → IsVerdict taken lists Suffices
not_refuted taken lists e = record {
  suffices = λ is. e;
  refuted = λ other is. absurd cc;
  ends = λ other is. absurd cc;
  read = λ is. absurd cc;
}

pub judged_by : (raw : Parts) (s : Stimulus) (count taken : ℕ) (choice : Chosen) (lists lent : List MomentCount) (verdict : ItemsVerdict) →
    Some choice ≡ mixed_choice raw count → AreMomentCounts Ones (circuit_of raw) choice (inputs_of s) lists →
    taken ≡ taken_of Ones (length (circuit_of raw).flops) (inputs_of s) → lent ≡ lists → IsVerdict taken lent verdict → IsJudged raw s count verdict
judged_by raw s count taken choice lists lent verdict read counts is same told = record {
  suffices = λ e.
      let few : is_refuted (count_tried raw s) lists ≡ false = subst (λ (n : ℕ). is_refuted n lists ≡ false) is (so.suffices e) in
      record {
        choice = choice;
        is = read;
        lists = lists;
        counts = counts;
        taken = all_taken (count_tried raw s) (length (circuit_of raw).flops) lists few counts.ended;
        few = few;
      };
  given_up = λ at e. record {
    choice = choice;
    is = read;
    lists = lists;
    counts = counts;
    many = subst (λ (n : ℕ). is_refuted n lists ≡ true) is (so.refuted at e);
    ends = so.ends at e;
  };
  unread = λ e. absurd (so.read e);
}
  where
    so : IsVerdict taken lists verdict
    so = subst (λ (ls : List MomentCount). IsVerdict taken ls verdict) same told

pub none_judged : (raw : Parts) (s : Stimulus) (count : ℕ) (o : Option Chosen) → o ≡ mixed_choice raw count → o ≡ None → IsJudged raw s count Unread
none_judged raw s count o read e = record {
  suffices = λ is. absurd cc;
  given_up = λ at is. absurd cc;
  unread = λ is. sym e ∙ read;
}

-- ---- the first of some numbers

-- the last of the first numbers is this one, and given up at this moment
pub record LastAt (raw : Parts) (s : Stimulus) (numbers : List ℕ) (n count : ℕ) (at : Moment) : Type 0 where
  pub place : ℕ
  pub last : place + 1 ≡ n
  pub is : count ≡ get_or numbers place 0
  pub given_up : IsGivenUp raw s count at

-- the first of these numbers are not enough, and this is the answer where they are all
pub record AreTooFew (raw : Parts) (s : Stimulus) (numbers : List ℕ) (n : ℕ) (answer : EnoughItems) : Type 0 where
  pub each : (i : ℕ) → i < n → IsTooFew raw s (get_or numbers i 0)
  pub none_at : (count : ℕ) (at : Moment) → answer ≡ NoneAt count at → LastAt raw s numbers n count at
  pub none_read : answer ≡ NoneRead → (i : ℕ) → i + 1 ≡ n → None ≡ mixed_choice raw (get_or numbers i 0)
  pub none : (count : ℕ) → answer ≢ Number count

pub none_yet : (raw : Parts) (s : Stimulus) (numbers : List ℕ) → AreTooFew raw s numbers 0 NoneRead
none_yet raw s numbers = record {
  each = λ i lt. absurd (omega (arith, lt));
  none_at = λ count at e. absurd cc;
  none_read = λ e i last. absurd (omega (arith, last));
  none = λ count e. absurd cc;
}

here_judged : (raw : Parts) (s : Stimulus) (numbers : List ℕ) (n d : ℕ) (verdict : ItemsVerdict) → n < length numbers → IsJudged raw s (get_or numbers n d) verdict →
    IsJudged raw s (get_or numbers n 0) verdict
here_judged raw s numbers n d verdict lt judged = subst (λ (m : ℕ). IsJudged raw s m verdict) (get_or_default numbers n d 0 lt) judged

too_few : (raw : Parts) (s : Stimulus) (count : ℕ) (verdict : ItemsVerdict) → IsJudged raw s count verdict → suffices verdict ≡ false → IsTooFew raw s count
too_few raw s count Suffices judged e = absurd (false≢true (sym e))
too_few raw s count (GivenUp at) judged e = inr (record { at = at; is = judged.given_up at refl })
too_few raw s count Unread judged e = inl (judged.unread refl)

-- the answer's number and moment
abbrev number_in : EnoughItems → ℕ → ℕ
number_in (Number n) d = n
number_in (NoneAt n at) d = n
number_in NoneRead d = d

abbrev moment_at : EnoughItems → Moment → Moment
moment_at (Number n) d = d
moment_at (NoneAt n at) d = at
moment_at NoneRead d = d

last_at : (raw : Parts) (s : Stimulus) (numbers : List ℕ) (n number : ℕ) (verdict : ItemsVerdict) (count : ℕ) (at : Moment) → number ≡ get_or numbers n 0 →
    IsJudged raw s number verdict → answer_of number verdict ≡ NoneAt count at → LastAt raw s numbers (n + 1) count at
last_at raw s numbers n number Suffices count at is judged e = absurd cc
last_at raw s numbers n number (GivenUp other) count at is judged e =
    let same : number ≡ count = ap (λ (a : EnoughItems). number_in a number) e in
    let there : other ≡ at = ap (λ (a : EnoughItems). moment_at a other) e in
    record {
      place = n;
      last = refl;
      is = sym same ∙ is;
      given_up = subst (λ (m : Moment). IsGivenUp raw s count m) there (subst (λ (c : ℕ). IsGivenUp raw s c other) same (judged.given_up other refl));
    }
last_at raw s numbers n number Unread count at is judged e = absurd cc

last_read : (raw : Parts) (s : Stimulus) (numbers : List ℕ) (n number : ℕ) (verdict : ItemsVerdict) (i : ℕ) → number ≡ get_or numbers n 0 →
    IsJudged raw s number verdict → answer_of number verdict ≡ NoneRead → i + 1 ≡ n + 1 → None ≡ mixed_choice raw (get_or numbers i 0)
last_read raw s numbers n number Suffices i is judged e last = absurd cc
last_read raw s numbers n number (GivenUp other) i is judged e last = absurd cc
last_read raw s numbers n number Unread i is judged e last =
    let place : n ≡ i = omega (arith, last) in
    judged.unread refl ∙ ap (mixed_choice raw) (is ∙ ap (λ (k : ℕ). get_or numbers k 0) place)

no_number : (number : ℕ) (verdict : ItemsVerdict) (count : ℕ) → suffices verdict ≡ false → answer_of number verdict ≢ Number count
no_number number Suffices count e is = absurd (false≢true (sym e))
no_number number (GivenUp at) count e is = cc
no_number number Unread count e is = cc

pub one_more : (raw : Parts) (s : Stimulus) (numbers : List ℕ) (n d : ℕ) (verdict : ItemsVerdict) (answer after : EnoughItems) → n < length numbers →
    AreTooFew raw s numbers n answer → IsJudged raw s (get_or numbers n d) verdict → after ≡ answer_of (get_or numbers n d) verdict → suffices verdict ≡ false →
    AreTooFew raw s numbers (n + 1) after
one_more raw s numbers n d verdict answer after lt so judged is e = record {
  each = λ i le. by i (nat_lt i n) refl le;
  none_at = λ count at goes. last_at raw s numbers n (get_or numbers n d) verdict count at own judged (sym is ∙ goes);
  none_read = λ goes i last. last_read raw s numbers n (get_or numbers n d) verdict i own judged (sym is ∙ goes) last;
  none = λ count goes. no_number (get_or numbers n d) verdict count e (sym is ∙ goes);
}
  where
    own : get_or numbers n d ≡ get_or numbers n 0
    own = get_or_default numbers n d 0 lt

    by : (i : ℕ) (b : Bool) → nat_lt i n ≡ b → i < n + 1 → IsTooFew raw s (get_or numbers i 0)
    by i true less le = so.each i (ltb-true i n less)
    by i false less le =
        let same : n ≡ i = omega (arith, ltb-false i n less, le) in
        subst (λ (k : ℕ). IsTooFew raw s (get_or numbers k 0)) same
        (too_few raw s (get_or numbers n 0) verdict (here_judged raw s numbers n d verdict lt judged) e)

found_number : (number : ℕ) (verdict : ItemsVerdict) → suffices verdict ≡ true → answer_of number verdict ≡ Number number
found_number number Suffices e = refl
found_number number (GivenUp at) e = absurd (false≢true e)
found_number number Unread e = absurd (false≢true e)

found_enough : (raw : Parts) (s : Stimulus) (count : ℕ) (verdict : ItemsVerdict) → suffices verdict ≡ true → IsJudged raw s count verdict → IsEnough raw s count
found_enough raw s count Suffices e judged = judged.suffices refl
found_enough raw s count (GivenUp at) e judged = absurd (false≢true e)
found_enough raw s count Unread e judged = absurd (false≢true e)

pub first_found : (raw : Parts) (s : Stimulus) (numbers : List ℕ) (n d : ℕ) (verdict : ItemsVerdict) (answer after : EnoughItems) → n < length numbers →
    AreTooFew raw s numbers n answer → IsJudged raw s (get_or numbers n d) verdict → after ≡ answer_of (get_or numbers n d) verdict → suffices verdict ≡ true →
    TellsEnough raw s numbers after
first_found raw s numbers n d verdict answer after lt so judged is e =
    let found : after ≡ Number (get_or numbers n d) = is ∙ found_number (get_or numbers n d) verdict e in
    record {
      some = λ count goes.
          let own : get_or numbers n d ≡ count = ap (λ (a : EnoughItems). number_in a 0) (sym found ∙ goes) in
          record {
            place = n;
            there = lt;
            is = sym own ∙ get_or_default numbers n d 0 lt;
            enough = subst (IsEnough raw s) own (found_enough raw s (get_or numbers n d) verdict e judged);
            before = so.each;
          };
      none_at = λ count at goes. absurd (other_at (get_or numbers n d) count at (sym found ∙ goes));
      none_read = λ goes. absurd (other_read (get_or numbers n d) (sym found ∙ goes));
    }
  where
    other_at : (number count : ℕ) (at : Moment) → Number number ≡ NoneAt count at → {A : Type 0} → A
    other_at number count at h = absurd cc

    other_read : (number : ℕ) → Number number ≡ NoneRead → {A : Type 0} → A
    other_read number h = absurd cc

pub none_found : (raw : Parts) (s : Stimulus) (numbers : List ℕ) (n : ℕ) (answer : EnoughItems) → length numbers ≤ n → n ≤ length numbers →
    AreTooFew raw s numbers n answer → TellsEnough raw s numbers answer
none_found raw s numbers n answer le ge so = record {
  some = λ count same. absurd (so.none count same);
  none_at = λ count at same.
      let here : LastAt raw s numbers n count at = so.none_at count at same in
      record {
        each = λ i lt. so.each i (omega (arith, le, lt));
        place = here.place;
        last = omega (arith, here.last, le, ge);
        is = here.is;
        given_up = here.given_up;
      };
  none_read = λ same. record {
    each = λ i lt. so.each i (omega (arith, le, lt));
    last = λ i last. so.none_read same i (omega (arith, last, le, ge));
  };
}

pub told_as : (raw : Parts) (s : Stimulus) (width : ℕ) (own : List ℕ) (found : EnoughItems) → width ≡ length raw.flops → own ≡ tried width →
    TellsEnough raw s own found → TellsEnough raw s (tried (length raw.flops)) found
told_as raw s width own found wide e h =
    subst (λ (ns : List ℕ). TellsEnough raw s ns found) (e ∙ ap tried wide) h
