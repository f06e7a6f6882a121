-- A log is accepted exactly where it has no first refused line.
use Rattle.std.proofs.Common.{◌≡◌, ℕ, ◌+◌, Bool, true, false, cond, List, [], ◌∷◌, ◌++◌, length, refl, ap, sym, ◌∙◌, Option, Some, None, arith}
use Rattle.std.specs.Prelude.{option_map}
use Rattle.std.specs.Option.{option_or}
use Rattle.std.proofs.lemmas.List.{append-nil}
use mathlib.Core.List.{reverse_aux}
use Rattle.bs_log.specs.declared.line.Line.{Line}
use Rattle.bs_log.specs.declared.why.Why.{Why}
use Rattle.bs_log.specs.declared.why.Why.TheVariants.{Order}
use Rattle.bs_log.specs.History.{Problem, History, state_of}
use Rattle.bs_log.specs.Refusal.{refusal, NoneRefused, IsAccepted, IsRefusedNext, IsFirstRefused, is_complete}
use Rattle.bs_log.specs.FirstRefused.{refused_from, first_refused, NoneIsRefusedInAccepted, TheFirstIsRefused}
use Rattle.bs_log.proofs.StepLemmas.{accepted}

earlier_right : (p : Problem) (before : List Line) (h : History) → NoneRefused p (reverse_aux before h) → NoneRefused p h
earlier_right p [] h right = right
earlier_right p (line ∷ before) h right = (earlier_right p before (line ∷ h) right).1

-- lines of which none is refused are passed over
passed_over : (p : Problem) (before : List Line) (h : History) (n : ℕ) (rest : List Line) → NoneRefused p (reverse_aux before h) →
    refused_from p h n (before ++ rest) ≡ refused_from p (reverse_aux before h) (n + length before) rest
passed_over p [] h n rest right = let same : n ≡ n + 0 = omega arith in ap (λ m. refused_from p h m rest) same
passed_over p (line ∷ before) h n rest right =
    let passes : refusal p (state_of p h) line ≡ None = (earlier_right p before (line ∷ h) right).0 in
    let count : n + 1 + length before ≡ n + length (line ∷ before) = omega arith in
    ap (λ o. option_or (option_map (λ why. (n, why)) o) (refused_from p (line ∷ h) (n + 1) (before ++ rest))) passes ∙
    passed_over p before (line ∷ h) (n + 1) rest right ∙ ap (λ m. refused_from p (reverse_aux before (line ∷ h)) m rest) count

refused_here : (p : Problem) (h : History) (n : ℕ) (rest : List Line) (why : Why) → IsRefusedNext p h rest why → refused_from p h n rest ≡ Some (n, why)
refused_here p h n [] why r = ap (λ b. cond {A = Option (ℕ × Why)} b None (Some (n, Order))) r.0 ∙ ap (λ w. Some (n, w)) (sym r.1)
refused_here p h n (line ∷ rest) why r = ap (λ o. option_or (option_map (λ w. (n, w)) o) (refused_from p (line ∷ h) (n + 1) rest)) r

none_yet : (n : ℕ) → n ≡ n + 0
none_yet n = omega arith

-- where the first refused line stands
record Found (p : Problem) (h : History) (n : ℕ) (rest : List Line) (m : ℕ) (why : Why) : Type 0 where
  before : List Line
  after : List Line
  parts : rest ≡ before ++ after
  number : m ≡ n + length before
  right : NoneRefused p (reverse_aux before h)
  refused : IsRefusedNext p (reverse_aux before h) after why

found_later : (p : Problem) (h : History) (n : ℕ) (line : Line) (rest : List Line) (m : ℕ) (why : Why) → Found p (line ∷ h) (n + 1) rest m why →
    Found p h n (line ∷ rest) m why
found_later p h n line rest m why f =
    record {
      before = line ∷ f.before;
      after = f.after;
      parts = ap (λ (ls : List Line). line ∷ ls) f.parts;
      number = omega
          (arith, f.number);
      right = f.right;
      refused = f.refused;
    }

found : (p : Problem) (h : History) (n : ℕ) (rest : List Line) (m : ℕ) (why : Why) → NoneRefused p h → refused_from p h n rest ≡ Some (m, why) →
    Found p h n rest m why
found p h n [] m why right e = by (is_complete p (state_of p h)) refl e
  where
    by : (b : Bool) → is_complete p (state_of p h) ≡ b → cond {A = Option (ℕ × Why)} b None (Some (n, Order)) ≡ Some (m, why) → Found p h n [] m why
    by true c e = cc
    by false c e =
        let both : (n, Order) ≡ (m, why) = cc in
        let number : n ≡ m = ap (λ (t : ℕ × Why). t.0) both in
        let reason : why ≡ Order = ap (λ (t : ℕ × Why). t.1) (sym both) in
        record { before = []; after = []; parts = refl; number = sym number ∙ none_yet n; right = right; refused = (c, reason) }
found p h n (line ∷ rest) m why right e =
    by (refusal p (state_of p h) line) refl e (λ none later. found_later p h n line rest m why (found p (line ∷ h) (n + 1) rest m why (none, right) later))
  where
    by : (o : Option Why) → refusal p (state_of p h) line ≡ o →
        option_or (option_map (λ w. (n, w)) o) (refused_from p (line ∷ h) (n + 1) rest) ≡ Some (m, why) →
        (refusal p (state_of p h) line ≡ None → refused_from p (line ∷ h) (n + 1) rest ≡ Some (m, why) → Found p h n (line ∷ rest) m why) →
        Found p h n (line ∷ rest) m why
    by None r e go = go r e
    by (Some w) r e go =
        let both : (n, w) ≡ (m, why) = cc in
        let number : n ≡ m = ap (λ (t : ℕ × Why). t.0) both in
        let reason : w ≡ why = ap (λ (t : ℕ × Why). t.1) both in
        record { before = []; after = line ∷ rest; parts = refl; number = sym number ∙ none_yet n; right = right; refused = r ∙ ap (λ x. Some x) reason }

pub not_refused : (p : Problem) (log : List Line) → IsAccepted p log → first_refused p log ≡ None
not_refused p log a =
    ap (first_refused p) (sym (append-nil log)) ∙ passed_over p log [] 1 [] a.lines ∙
    ap (λ b. cond {A = Option (ℕ × Why)} b None (Some (1 + length log, Order))) a.complete

pub first_is : (p : Problem) (log : List Line) (n : ℕ) (why : Why) → IsFirstRefused p log n why → first_refused p log ≡ Some (n, why)
first_is p log n why f =
    let number : 1 + length f.before ≡ n = omega (arith, f.number) in
    ap (first_refused p) f.parts ∙ passed_over p f.before [] 1 f.rest f.right ∙
    refused_here p (reverse_aux f.before []) (1 + length f.before) f.rest why f.refused ∙ ap (λ m. Some (m, why)) number

pub is_first : (p : Problem) (log : List Line) (n : ℕ) (why : Why) → first_refused p log ≡ Some (n, why) → IsFirstRefused p log n why
is_first p log n why e =
    let f : Found p [] 1 log n why = found p [] 1 log n why tt e in
    record { before = f.before; rest = f.after; parts = f.parts; number = omega (arith, f.number); right = f.right; refused = f.refused }

pub none_is_refused_in_accepted : NoneIsRefusedInAccepted
none_is_refused_in_accepted p log = (accepted p log, not_refused p log)

pub the_first_is_refused : TheFirstIsRefused
the_first_is_refused p log n why = (is_first p log n why, first_is p log n why)
