-- The words of a moment, taken one by one.
use Rattle.std.proofs.Common.{◌≡◌, ℕ, Bool, true, false, cond, nat_lt, List, [], ◌∷◌, ◌++◌, Option, Some, None, Result, Ok, Err, refl, ap, ◌∙◌, ◌⊎◌, inl, inr}
use Rattle.std.specs.Prelude.{◌==◌}
use Rattle.std.proofs.lemmas.Bool.{false≢true, true≢false}
use Rattle.bs_vcd_header.specs.declared.fault.VcdFault.{VcdFault}
use Rattle.bs_vcd_header.specs.declared.fault.VcdFault.TheVariants.{Ended, Line, NoMemory}
use Rattle.bs_vcd_header.specs.Tokens.{VcdToken}
use Rattle.bs_vcd.specs.History.{ValueChange, Moment, History, WordPlace, Plain, Value, Skip, Remark, WordEffect, Goes, Changes, Begins, Stops, before, history_from, moment, step, stepped, stopped}
use Rattle.bs_vcd.specs.Watching.{may_end}
use Rattle.bs_inspect_check.specs.Taking.{NextTime, turn, turned}

abbrev now_of : ℕ → List ValueChange → Moment
now_of time changes = record { time = time; changes = changes }

abbrev by_next : ℕ → List VcdToken → WordPlace → List ValueChange → Option ℕ → History
by_next time ts place changes None = history_from place (now_of time changes) ts
by_next time ts place changes (Some next) = before (now_of time changes) (history_from Plain (moment next) ts)

-- the moments behind a word
abbrev by_turn : ℕ → List VcdToken → Result NextTime VcdFault → History
by_turn time ts (Err fault) = stopped fault
by_turn time ts (Ok u) = by_next time ts u.place u.changes u.next

abbrev go : List VcdToken → WordPlace → Moment → History
go ts place now = history_from place now ts

turn_is : (time line : ℕ) (changes : List ValueChange) (ts : List VcdToken) (s : Option WordEffect) →
    stepped s (now_of time changes) line (go ts) ≡ by_turn time ts (turned time line changes s)
turn_is time line changes ts None = refl
turn_is time line changes ts (Some (Goes place)) = refl
turn_is time line changes ts (Some (Changes c)) = refl
turn_is time line changes ts (Some (Begins next)) = by (nat_lt next time) (next == time)
  where
    by : (less same : Bool) →
        cond less (stopped (Line line)) (cond same (history_from Plain (now_of time changes) ts) (before (now_of time changes) (history_from Plain (moment next) ts)))
        ≡ by_turn time ts (cond less (Err (Line line)) (Ok (turn Plain (cond same None (Some next)) changes)))
    by true same = refl
    by false true = refl
    by false false = refl
turn_is time line changes ts (Some Stops) = refl

word_is : (h : History) (place : WordPlace) (time : ℕ) (changes : List ValueChange) (words ts : List VcdToken) (t : VcdToken) →
    h ≡ history_from place (record { time = time; changes = changes }) words → words ≡ t ∷ ts →
    h ≡ by_turn time ts (turned time t.line changes (step place t.text))
word_is h place time changes words ts t e f =
    e ∙ (ap (history_from place (now_of time changes)) f ∙ turn_is time t.line changes ts (step place t.text))

pub word_taken : (h : History) (place : WordPlace) (time : ℕ) (changes : List ValueChange) (words ts : List VcdToken) (t : VcdToken) (u : NextTime) →
    h ≡ history_from place (record { time = time; changes = changes }) words → words ≡ t ∷ ts →
    turned time t.line changes (step place t.text) ≡ Ok u → u.next ≡ None →
    h ≡ history_from u.place (record { time = time; changes = u.changes }) ts
word_taken h place time changes words ts t u e f g n =
    word_is h place time changes words ts t e f ∙ (ap (by_turn time ts) g ∙ ap (by_next time ts u.place u.changes) n)

pub word_last : (h : History) (place : WordPlace) (time next : ℕ) (changes : List ValueChange) (words ts : List VcdToken) (t : VcdToken) (u : NextTime) →
    h ≡ history_from place (record { time = time; changes = changes }) words → words ≡ t ∷ ts →
    turned time t.line changes (step place t.text) ≡ Ok u → u.next ≡ Some next →
    h ≡ before (record { time = time; changes = u.changes }) (history_from Plain (moment next) ts)
word_last h place time next changes words ts t u e f g n =
    word_is h place time changes words ts t e f ∙ (ap (by_turn time ts) g ∙ ap (by_next time ts u.place u.changes) n)

pub word_faulty : (h : History) (place : WordPlace) (time : ℕ) (changes : List ValueChange) (words ts : List VcdToken) (t : VcdToken) (fault : VcdFault) →
    h ≡ history_from place (record { time = time; changes = changes }) words → words ≡ t ∷ ts →
    (fault ≡ NoMemory) ⊎ (turned time t.line changes (step place t.text) ≡ Err fault) → (fault ≡ NoMemory) ⊎ (h ≡ stopped fault)
word_faulty h place time changes words ts t fault e f (inl want) = inl want
word_faulty h place time changes words ts t fault e f (inr g) = inr (word_is h place time changes words ts t e f ∙ ap (by_turn time ts) g)

-- ---- the end of the text

abbrev no_more : History
no_more = record { moments = []; fault = None }

pub text_ends : (h : History) (place : WordPlace) (time : ℕ) (changes : List ValueChange) (words : List VcdToken) →
    h ≡ history_from place (record { time = time; changes = changes }) words → words ≡ [] → may_end place ≡ true →
    h ≡ before (record { time = time; changes = changes }) (record { moments = []; fault = None })
text_ends h place time changes words e f may = e ∙ (ap (history_from place (now_of time changes)) f ∙ by place may)
  where
    by : (p : WordPlace) → may_end p ≡ true → history_from p (now_of time changes) [] ≡ before (now_of time changes) no_more
    by Plain is = refl
    by (Value bits) is = absurd (false≢true is)
    by Skip is = absurd (false≢true is)
    by Remark is = absurd (false≢true is)

pub text_faulty : (h : History) (place : WordPlace) (time : ℕ) (changes : List ValueChange) (words : List VcdToken) →
    h ≡ history_from place (record { time = time; changes = changes }) words → words ≡ [] → may_end place ≡ false → (Ended ≡ NoMemory) ⊎ (h ≡ stopped Ended)
text_faulty h place time changes words e f may = inr (e ∙ (ap (history_from place (now_of time changes)) f ∙ by place may))
  where
    by : (p : WordPlace) → may_end p ≡ false → history_from p (now_of time changes) [] ≡ stopped Ended
    by Plain is = absurd (true≢false is)
    by (Value bits) is = refl
    by Skip is = refl
    by Remark is = refl
