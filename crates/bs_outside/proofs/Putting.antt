-- Several puts in a row.
use Rattle.std.proofs.Common.{◌≡◌, ◌≢◌, ℕ, ◌+◌, ◌-◌, ◌≤◌, List, [], ◌∷◌, ◌++◌, length, take, drop, Option, Some, None, refl, sym, ◌∙◌, ap, subst}
use Rattle.std.proofs.Common.{arith, append_assoc, take-take, drop-drop}
use Rattle.std.proofs.lemmas.List.{append-nil, length-append, length-take, length-drop, take_all, drop_all}
use Rattle.std.proofs.Math.Seq.{take-add}
use Rattle.bs_outside.specs.Calls.{PutCall, put_call, InTurn}
use Rattle.bs_outside.specs.Putting.{PutsAll, PutsSome}
use Rattle.bs_outside.proofs.WriteLemmas.{appends_then}
use Rattle.bs_outside.specs.declared.sink.Put.TheVariants.{Done, Failed}
use Rattle.bs_outside.specs.declared.status.Status.{Status}
use Rattle.bs_outside.specs.declared.status.Status.TheVariants.{WriteFault}
use Rattle.bs_outside.specs.Delivery.{put_lines_of, puts_done, PutsUpTo, PutsAfter, PutsLines, CountsPuts}
use Rattle.bs_outside.proofs.AskingLemmas.{in_turn_then}
use Rattle.std.specs.Io.KnownBytes.{Appends, Keeps}

pub appends_none : (w : Option (List ℕ)) → Appends w w []
appends_none None = tt
appends_none (Some xs) = sym (append-nil xs)

pub keeps_same : (w : Option (List ℕ)) → Keeps w w
keeps_same None = tt
keeps_same (Some xs) = refl

-- so far the front of the text went out, and no fault was counted
pub record HasPut (text : List ℕ) (written_before written_now : Option (List ℕ)) (faults_before faults_now at : ℕ) : Type 0 where
  pub within : at ≤ length text
  pub appended : Appends written_before written_now (take at text)
  pub steady : faults_now ≡ faults_before

pub put_starts : (text : List ℕ) (w : Option (List ℕ)) (f : ℕ) → HasPut text w w f f 0
put_starts text w f = record { within = omega arith; appended = appends_none w; steady = refl }

front_then : (at n m : ℕ) (text : List ℕ) → n ≤ m → take at text ++ take n (take m (drop at text)) ≡ take (at + n) text
front_then at n m text le = ap (λ (l : List ℕ). take at text ++ l) (take-take n m (drop at text) le) ∙ sym (take-add at n text)

pub put_more : (text : List ℕ) (w0 w1 w2 : Option (List ℕ)) (f0 f1 f2 at end : ℕ) → HasPut text w0 w1 f0 f1 at → at ≤ end → end ≤ length text →
    PutsAll w1 w2 f1 f2 (take (end - at) (drop at text)) → HasPut text w0 w2 f0 f2 end
put_more text w0 w1 w2 f0 f1 f2 at end so_far after within all = record {
  within = within;
  appended =
      subst (λ (l : List ℕ). Appends w0 w2 l) (sym (take-add at (end - at) text) ∙ ap (λ (n : ℕ). take n text) (omega arith))
      (appends_then w0 w1 w2 (take at text) (take (end - at) (drop at text)) so_far.appended all.appended);
  steady = all.steady ∙ so_far.steady;
}

pub put_cut : (text : List ℕ) (w0 w1 w2 : Option (List ℕ)) (f0 f1 f2 at end n : ℕ) → HasPut text w0 w1 f0 f1 at → at ≤ end → end ≤ length text →
    PutsSome w1 w2 f1 f2 (take (end - at) (drop at text)) n → PutsSome w0 w2 f0 f2 text (at + n)
put_cut text w0 w1 w2 f0 f1 f2 at end n so_far after within some =
    let short : n ≤ end - at = omega (arith, some.within, length-take (end - at) (drop at text)) in
    record {
      within = omega arith;
      appended =
          subst (λ (l : List ℕ). Appends w0 w2 l) (front_then at n (end - at) text short)
          (appends_then w0 w1 w2 (take at text) (take n (take (end - at) (drop at text))) so_far.appended some.appended);
      later = omega (arith, some.later, so_far.steady);
      cause = omega (arith, some.cause, so_far.steady);
    }

pub put_all : (text : List ℕ) (w0 w1 : Option (List ℕ)) (f0 f1 at : ℕ) → HasPut text w0 w1 f0 f1 at → length text ≤ at → PutsAll w0 w1 f0 f1 text
put_all text w0 w1 f0 f1 at so_far over =
    record { appended = subst (λ (l : List ℕ). Appends w0 w1 l) (take_all at text over) so_far.appended; steady = so_far.steady }

-- ---- line by line

-- so far these lines were put, and all went out
pub record HasPutLines {K : Type 0} (leads : K → PutCall → K → Type 0) (text : List ℕ) (before now : K) (at count : ℕ) : Type 0 where
  pub lines : List (List ℕ)
  pub parts : put_lines_of text ≡ lines ++ put_lines_of (drop at text)
  pub puts : InTurn leads before (puts_done lines) now
  pub counted : length lines ≡ count

pub lines_start : {K : Type 0} {leads : K → PutCall → K → Type 0} {text : List ℕ} {before : K} {count : ℕ} → count ≡ 0 →
    HasPutLines leads text before before 0 count
lines_start none = record { lines = []; parts = refl; puts = refl; counted = sym none }

done_more : (front : List (List ℕ)) (line : List ℕ) → puts_done (front ++ line ∷ []) ≡ puts_done front ++ put_call line Done ∷ []
done_more [] line = refl
done_more (first ∷ front) line = ap (λ (l : List PutCall). put_call first Done ∷ l) (done_more front line)

pub lines_more : {K : Type 0} {leads : K → PutCall → K → Type 0} {text : List ℕ} {before mid now : K} {at end count : ℕ} (line : List ℕ) →
    HasPutLines leads text before mid at count → put_lines_of (drop at text) ≡ line ∷ put_lines_of (drop end text) → leads mid (put_call line Done) now →
    HasPutLines leads text before now end (count + 1)
lines_more {K} {leads} {text} {before} {mid} {now} {at} {end} {count} line so_far next led = record {
  lines = so_far.lines ++ line ∷ [];
  parts = so_far.parts ∙ ap (λ (l : List (List ℕ)). so_far.lines ++ l) next ∙ sym (append_assoc so_far.lines (line ∷ []) (put_lines_of (drop end text)));
  puts =
      subst (λ (l : List PutCall). InTurn leads before l now) (sym (done_more so_far.lines line))
      (in_turn_then leads before mid now (puts_done so_far.lines) (put_call line Done ∷ []) so_far.puts (now, led, refl));
  counted = length-append so_far.lines (line ∷ []) ∙ ap (λ (k : ℕ). k + 1) so_far.counted;
}

pub lines_cut : {K : Type 0} {leads : K → PutCall → K → Type 0} {text : List ℕ} {before mid now : K} {at done count : ℕ} (line : List ℕ) (end : ℕ) →
    HasPutLines leads text before mid at done → put_lines_of (drop at text) ≡ line ∷ put_lines_of (drop end text) →
    leads mid (put_call line (Failed count)) now → PutsAfter leads before now (put_lines_of text) done
lines_cut {K} {leads} {text} {before} {mid} {now} {at} {done} {count} line end so_far next led = record {
  up_to = record {
    front = so_far.lines;
    line = line;
    rest = put_lines_of (drop end text);
    count = count;
    parts = so_far.parts ∙ ap (λ (l : List (List ℕ)). so_far.lines ++ l) next;
    puts = in_turn_then leads before mid now (puts_done so_far.lines) (put_call line (Failed count) ∷ []) so_far.puts (now, led, refl);
  };
  counted = so_far.counted;
}

pub lines_end : {K : Type 0} {leads : K → PutCall → K → Type 0} {text : List ℕ} {before now : K} {at count : ℕ} → HasPutLines leads text before now at count →
    length text ≤ at → InTurn leads before (puts_done (put_lines_of text)) now
lines_end {K} {leads} {text} {before} {now} {at} {count} so_far over =
    let none : put_lines_of (drop at text) ≡ [] = ap put_lines_of (drop_all at text over) in
    let all : put_lines_of text ≡ so_far.lines = so_far.parts ∙ ap (λ (l : List (List ℕ)). so_far.lines ++ l) none ∙ append-nil so_far.lines in
    subst (λ (l : List (List ℕ)). InTurn leads before (puts_done l) now) (sym all) so_far.puts

-- what was put, by what is answered
pub lines_whole : {K : Type 0} {leads : K → PutCall → K → Type 0} {seen text : List ℕ} {before now : K} {status : Status} → seen ≡ text →
    status ≢ WriteFault → InTurn leads before (puts_done (put_lines_of seen)) now → PutsLines leads before now text status
lines_whole {leads = leads} {before = before} {now = now} same calm all =
    record { whole = λ _. subst (λ (l : List ℕ). InTurn leads before (puts_done (put_lines_of l)) now) same all; cut = λ is. absurd (calm is) }

pub lines_to_fault : {K : Type 0} {leads : K → PutCall → K → Type 0} {seen text : List ℕ} {before now : K} → seen ≡ text →
    PutsUpTo leads before now (put_lines_of seen) → PutsLines leads before now text WriteFault
lines_to_fault {leads = leads} {before = before} {now = now} same up_to =
    record { whole = λ calm. absurd (calm refl); cut = λ _. subst (λ (l : List ℕ). PutsUpTo leads before now (put_lines_of l)) same up_to }

-- how many went out before, by what is answered
pub counts_none : {K : Type 0} {leads : K → PutCall → K → Type 0} {text : List ℕ} {before now : K} {done : ℕ} {status : Status} → status ≢ WriteFault →
    CountsPuts leads before now text done status
counts_none calm = record { failed = λ is. absurd (calm is) }

pub counts_to_fault : {K : Type 0} {leads : K → PutCall → K → Type 0} {seen text : List ℕ} {before now : K} {done : ℕ} → seen ≡ text →
    PutsAfter leads before now (put_lines_of seen) done → CountsPuts leads before now text done WriteFault
counts_to_fault {leads = leads} {before = before} {now = now} {done = done} same after =
    record { failed = λ _. subst (λ (l : List ℕ). PutsAfter leads before now (put_lines_of l) done) same after }

-- a line of what is left
pub line_from : (text : List ℕ) (at n : ℕ) → at ≤ length text →
    put_lines_of (take (length text - at) (drop at text)) ≡ take n (take (length text - at) (drop at text)) ∷ put_lines_of
    (drop n (take (length text - at) (drop at text))) → put_lines_of (drop at text) ≡ take (at + n - at) (drop at text) ∷ put_lines_of (drop (at + n) text)
line_from text at n inside line =
    let rest : take (length text - at) (drop at text) ≡ drop at text = take_all (length text - at) (drop at text) (omega (arith, length-drop at text)) in
    let here : put_lines_of (drop at text) ≡ take n (drop at text) ∷ put_lines_of (drop n (drop at text)) =
    subst (λ (l : List ℕ). put_lines_of l ≡ take n l ∷ put_lines_of (drop n l)) rest line in
    let same : n ≡ at + n - at = omega arith in
    here ∙ (λ i. take (same i) (drop at text) ∷ put_lines_of (drop-drop n at text i))
