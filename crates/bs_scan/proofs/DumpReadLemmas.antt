-- What is read of a dump is as its text says, fits the chip, and is at reset where it has no signature.
use Rattle.std.proofs.Common.{◌≡◌, inl, inr, ⊎_elim, ℕ, ◌+◌, Bool, true, false, not, ◌&&◌, cond, List, [], ◌∷◌, ◌++◌, length, take, drop, refl, arith, sym}
use Rattle.std.proofs.Common.{ap, subst, ◌∙◌, Option, Some, None, Result, Ok, Err}
use Rattle.std.specs.Prelude.{◌==◌, IfOk, codes, is_none, slice_get, All}
use Rattle.std.specs.List.{flat_map}
use Rattle.std.specs.Option.{option_and_then, option_to_list}
use Rattle.std.specs.Str.{bytes_eq}
use Rattle.std.proofs.lemmas.Bool.{eqb-true}
use Rattle.std.proofs.lemmas.List.{take-append-drop, length-map, nil_from_length}
use Rattle.std.proofs.lemmas.List.Elements.{All-append, All-from_recursion, All-nil}
use Rattle.std.proofs.lemmas.Slice.Eq.{bytes_eq-Decides}
use Rattle.bs_bits.specs.Lines.{line, lines_of}
use Rattle.bs_bits.specs.Reading.{◌>>=◌, Answers}
use Rattle.bs_bits.specs.Text.{bits_text, bits_of}
use Rattle.bs_bits.proofs.LineTextLemmas.{lines_again}
use Rattle.bs_bits.proofs.TextLemmas.{text_again}
use Rattle.bs_scan.specs.declared.seen.Seen.{Seen}
use Rattle.bs_scan.specs.Seen.{Shows, is_shown, IsSeen}
use Rattle.bs_scan.specs.SeenText.{seen_of, seen_text}
use Rattle.bs_scan.proofs.SeenLemmas.{shows_where}
use Rattle.bs_scan.proofs.TextLemmas.{seen_exact}
use Rattle.bs_net.specs.declared.net.Flop.{Flop}
use Rattle.bs_net.specs.Circuit.{Circuit, reset_state}
use Rattle.bs_scan.specs.declared.dump.Dump.{Dump}
use Rattle.bs_scan.specs.declared.fault.DumpFault.{DumpFault}
use Rattle.bs_scan.specs.declared.fault.DumpFault.TheVariants.{Line, Width, NotReset, NoMemory}
use Rattle.bs_scan.specs.Choice.{Chosen, depth_of, IsDepth}
use Rattle.bs_scan.specs.Crash.{DumpFits}
use Rattle.bs_scan.specs.DumpText.{behind, behind_older, of_width, bits_line, seen_of_width, seen_line, is_text, held_line, old_line, older_line, end_line, at_reset}
use Rattle.bs_scan.specs.DumpText.{signature_text, older_text, dump_text, dump_of}
use Rattle.bs_scan.specs.Law.{DumpTextsAreExact}

abbrev spelled : List (List ℕ) → List ℕ
spelled lines = flat_map line lines

-- ---- values that were read

abbrev ok_in : (A : Type 0) → A → Result A DumpFault
ok_in A a = Ok a

ok_same : (A : Type 0) (a b : A) → ok_in A a ≡ ok_in A b → a ≡ b
ok_same A a b h = cc

not_err : (A : Type 0) (fault : DumpFault) (a : A) → Err fault ≡ ok_in A a → ⊥
not_err A fault a h = cc

-- a line that is a word
is_text_is : (word : List ℕ) (text : Option (List ℕ)) → is_text word text ≡ true → text ≡ Some word
is_text_is word None e = cc
is_text_is word (Some text) e = ap Some ((bytes_eq-Decides text word).0 e)

-- bits that were read
record IsBits (text : Option (List ℕ)) (word : List ℕ) (width : ℕ) (bits : List Bool) : Type 0 where
  spelled_so : text ≡ Some (word ++ bits_text bits)
  as_wide : length bits ≡ width

wide : (number width : ℕ) (o : Option (List Bool)) (bits : List Bool) → of_width number width o ≡ Ok bits → (o ≡ Some bits) × (length bits ≡ width)
wide number width None bits h = absurd (not_err (List Bool) (Line number) bits h)
wide number width (Some t) bits h = by (length t == width) refl h
  where
    by : (b : Bool) → (length t == width) ≡ b → cond b (Ok t) (Err (Width number)) ≡ ok_in (List Bool) bits → (Some t ≡ Some bits) × (length bits ≡ width)
    by true e k = let same : t ≡ bits = ok_same (List Bool) t bits k in (ap Some same, ap length (sym same) ∙ eqb-true (length t) width e)
    by false e k = absurd (not_err (List Bool) (Width number) bits k)

behind_is : (word text rest : List ℕ) → behind word text ≡ Some rest → text ≡ word ++ rest
behind_is word text rest h = by (bytes_eq (take (length word) text) word) refl h
  where
    by : (b : Bool) → bytes_eq (take (length word) text) word ≡ b → cond b (Some (drop (length word) text)) None ≡ Some rest → text ≡ word ++ rest
    by true e k =
        let left : drop (length word) text ≡ rest = cc in
        sym (take-append-drop (length word) text)
        ∙ (ap (λ front. front ++ drop (length word) text) ((bytes_eq-Decides (take (length word) text) word).0 e) ∙ ap (λ rest. word ++ rest) left)
    by false e k = absurd (cc)

bits_are : (word text : List ℕ) (bits : List Bool) → option_and_then bits_of (behind word text) ≡ Some bits → text ≡ word ++ bits_text bits
bits_are word text bits h = by (behind word text) refl h
  where
    by : (o : Option (List ℕ)) → behind word text ≡ o → option_and_then bits_of o ≡ Some bits → text ≡ word ++ bits_text bits
    by None e k = absurd (cc)
    by (Some rest) e k = behind_is word text rest e ∙ ap (λ rest. word ++ rest) (sym (text_again rest bits k))

line_is : (word : List ℕ) (number width : ℕ) (text : Option (List ℕ)) (bits : List Bool) → bits_line word number width text ≡ Ok bits →
    IsBits text word width bits
line_is word number width None bits h = absurd (not_err (List Bool) (Line number) bits h)
line_is word number width (Some text) bits h =
    let is = wide number width (option_and_then bits_of (behind word text)) bits h in
    record { spelled_so = ap Some (bits_are word text bits is.0); as_wide = is.1 }

abbrev Widths : ℕ → Option (List Bool) → Type 0
Widths items held = All (λ t. length t ≡ items) (option_to_list held)

no_width : (items : ℕ) → Widths items None
no_width items = All-nil (λ (t : List Bool). length t ≡ items)

-- a signature that was read, or none
record IsHeld (text : Option (List ℕ)) (word : List ℕ) (items : ℕ) (held : Option (List Bool)) : Type 0 where
  spelled_so : text ≡ Some (word ++ signature_text held)
  as_wide : Widths items held

none_is : (word : List ℕ) (text : Option (List ℕ)) → is_text (codes "none") (option_and_then (behind word) text) ≡ true →
    text ≡ Some (word ++ codes "none")
none_is word None e = cc
none_is word (Some text) e =
    ap Some (behind_is word text (codes "none") (is_text_is (codes "none") (behind word text) e))

held_is : (word : List ℕ) (number items : ℕ) (text : Option (List ℕ)) (held : Option (List Bool)) → held_line word number items text ≡ Ok held →
    IsHeld text word items held
held_is word number items text held h = by (is_text (codes "none") (option_and_then (behind word) text)) refl h
  where
    read : (r : Result (List Bool) DumpFault) → ((bits : List Bool) → r ≡ Ok bits → IsBits text word items bits) →
        (r >>= λ bits. Ok (Some bits)) ≡ Ok held → IsHeld text word items held
    read (Ok bits) line k =
        let is = line bits refl in
        subst (IsHeld text word items) (ok_same (Option (List Bool)) (Some bits) held k)
        (record { spelled_so = is.spelled_so; as_wide = All-from_recursion (λ (t : List Bool). length t ≡ items) (bits ∷ []) (is.as_wide, tt) })
    read (Err fault) line k = absurd (not_err (Option (List Bool)) fault held k)

    by : (b : Bool) → is_text (codes "none") (option_and_then (behind word) text) ≡ b →
        cond b (Ok None) (bits_line word number items text >>= λ bits. Ok (Some bits)) ≡ ok_in (Option (List Bool)) held → IsHeld text word items held
    by true e k =
        subst (IsHeld text word items) (ok_same (Option (List Bool)) None held k) (record { spelled_so = none_is word text e; as_wide = no_width items })
    by false e k = read (bits_line word number items text) (λ bits e. line_is word number items text bits e) k

-- the last line
ended : (number : ℕ) (lines : List (List ℕ)) (b : Bool) → end_line number lines ≡ Ok b → lines ≡ codes "end" ∷ []
ended number [] b h = absurd (not_err Bool (Line number) b h)
ended number (text ∷ rest) b h = by (bytes_eq text (codes "end")) refl h
  where
    last : (z : Bool) → (length rest == 0) ≡ z → text ≡ codes "end" → cond z (Ok true) (Err (Line (number + 1))) ≡ ok_in Bool b →
        text ∷ rest ≡ codes "end" ∷ []
    last true none same k = λ i. same i ∷ nil_from_length rest (eqb-true (length rest) 0 none) i
    last false some same k = absurd (not_err Bool (Line (number + 1)) b k)

    by : (z : Bool) → bytes_eq text (codes "end") ≡ z →
        cond z (cond (length rest == 0) (Ok true) (Err (Line (number + 1)))) (Err (Line number)) ≡ ok_in Bool b → text ∷ rest ≡ codes "end" ∷ []
    by true e k = last (length rest == 0) refl ((bytes_eq-Decides text (codes "end")).0 e) k
    by false e k = absurd (not_err Bool (Line number) b k)

-- the lines behind that of the last signature
record IsTail (rest : List (List ℕ)) (depth items : ℕ) (stored older : Option (List Bool)) : Type 0 where
  spelled_so : spelled rest ≡ older_text depth older ++ line (codes "end")
  as_wide : Widths items older
  alone : depth ≡ 1 → older ≡ None
  after : stored ≡ None → older ≡ None

-- the older signature that was read
record IsOld (text : Option (List ℕ)) (items : ℕ) (stored older : Option (List Bool)) : Type 0 where
  old : IsHeld text (codes "old ") items older
  after : stored ≡ None → older ≡ None

old_is : (items : ℕ) (stored older : Option (List Bool)) (text : Option (List ℕ)) → old_line items stored text ≡ Ok older → IsOld text items stored older
old_is items (Some t) older text h =
    record { old = held_is (codes "old ") 3 items text older h; after = λ (none : Some t ≡ None). absurd (cc) }
old_is items None older text h = by (is_text (codes "old none") text) refl h
  where
    by : (b : Bool) → is_text (codes "old none") text ≡ b → cond b (Ok None) (Err (Line 3)) ≡ ok_in (Option (List Bool)) older → IsOld text items None older
    by true e k =
        subst (IsOld text items None) (ok_same (Option (List Bool)) None older k)
        (record {
          old = record { spelled_so = is_text_is (codes "old none") text e; as_wide = no_width items };
          after = λ _. refl;
        })
    by false e k = absurd (not_err (Option (List Bool)) (Line 3) older k)

two : (lines : List (List ℕ)) (a b : List ℕ) → slice_get lines 0 ≡ Some a → drop 1 lines ≡ b ∷ [] → lines ≡ a ∷ b ∷ []
two [] a b x y = cc
two (k ∷ rest) a b x y = cc

tail_is : (rest : List (List ℕ)) (depth items : ℕ) (stored older : Option (List Bool)) → older_line depth items stored (slice_get rest 0) ≡ Ok older →
    behind_older depth rest ≡ codes "end" ∷ [] → IsTail rest depth items stored older
tail_is rest depth items stored older h e = by (depth == 2) refl h e
  where
    by : (b : Bool) → (depth == 2) ≡ b → cond b (old_line items stored (slice_get rest 0)) (Ok None) ≡ ok_in (Option (List Bool)) older →
        cond b (drop 1 rest) rest ≡ codes "end" ∷ [] → IsTail rest depth items stored older
    by true deep k last =
        let is = old_is items stored older (slice_get rest 0) k in
        record {
          spelled_so =
              ap spelled (two rest (codes "old " ++ signature_text older) (codes "end") is.old.spelled_so last)
              ∙ sym (ap (λ b. cond {A = List ℕ} b (line (codes "old " ++ signature_text older)) [] ++ line (codes "end")) deep);
          as_wide = is.old.as_wide;
          alone = λ (one : depth ≡ 1). absurd (omega (arith, one, eqb-true depth 2 deep));
          after = is.after;
        }
    by false flat k last =
        let none : None ≡ older = ok_same (Option (List Bool)) None older k in
        record {
          spelled_so =
              ap spelled last
              ∙ sym (ap (λ b. cond {A = List ℕ} b (line (codes "old " ++ signature_text older)) [] ++ line (codes "end")) flat);
          as_wide = subst (Widths items) none (no_width items);
          alone = λ _. sym none;
          after = λ _. sym none;
        }

-- what the last step makes of the parts
record IsMade (reset : List Bool) (made dump : Dump) : Type 0 where
  made_of : made ≡ dump
  rests : made.stored ≡ None → Shows made.state reset

made_is : (reset : List Bool) (made dump : Dump) → at_reset reset made ≡ Ok dump → IsMade reset made dump
made_is reset made dump h = let is = by made.stored (is_shown made.state reset) refl h in record { made_of = is.0; rests = is.1 }
  where
    by : (o : Option (List Bool)) (b : Bool) → is_shown made.state reset ≡ b → cond (is_none o && not b) (Err NotReset) (Ok made) ≡ ok_in Dump dump →
        (made ≡ dump) × (o ≡ None → Shows made.state reset)
    by (Some t) b e k = (ok_same Dump made dump k, λ (none : Some t ≡ None). absurd (cc))
    by None true e k = (ok_same Dump made dump k, λ _. shows_where made.state reset e)
    by None false e k = absurd (not_err Dump NotReset dump k)

-- ---- a dump that was read

-- what was read of the state
record IsState (text : Option (List ℕ)) (word : List ℕ) (width : ℕ) (seen : Seen) : Type 0 where
  spelled_so : text ≡ Some (word ++ seen_text seen)
  as_wide : length seen.bits ≡ width
  sound : IsSeen seen

seen_wide : (number width : ℕ) (o : Option Seen) (seen : Seen) → seen_of_width number width o ≡ Ok seen → (o ≡ Some seen) × (length seen.bits ≡ width)
seen_wide number width None seen h = absurd (not_err Seen (Line number) seen h)
seen_wide number width (Some t) seen h = by (length t.bits == width) refl h
  where
    by : (b : Bool) → (length t.bits == width) ≡ b → cond b (Ok t) (Err (Width number)) ≡ ok_in Seen seen → (Some t ≡ Some seen) × (length seen.bits ≡ width)
    by true e k =
        let same : t ≡ seen = ok_same Seen t seen k in
        (ap Some same, ap (λ (s : Seen). length s.bits) (sym same) ∙ eqb-true (length t.bits) width e)
    by false e k = absurd (not_err Seen (Width number) seen k)

seen_are : (word text : List ℕ) (seen : Seen) → option_and_then seen_of (behind word text) ≡ Some seen → IsSeen seen × (text ≡ word ++ seen_text seen)
seen_are word text seen h = by (behind word text) refl h
  where
    by : (o : Option (List ℕ)) → behind word text ≡ o → option_and_then seen_of o ≡ Some seen → IsSeen seen × (text ≡ word ++ seen_text seen)
    by None e k = absurd (cc)
    by (Some rest) e k =
        let exact = seen_exact rest seen k in
        (exact.0, behind_is word text rest e ∙ ap (λ rest. word ++ rest) (sym exact.1))

state_is : (word : List ℕ) (number width : ℕ) (text : Option (List ℕ)) (seen : Seen) → seen_line word number width text ≡ Ok seen →
    IsState text word width seen
state_is word number width None seen h = absurd (not_err Seen (Line number) seen h)
state_is word number width (Some text) seen h =
    let is = seen_wide number width (option_and_then seen_of (behind word text)) seen h in
    let read = seen_are word text seen is.0 in
    record { spelled_so = ap Some read.1; as_wide = is.1; sound = read.0 }

pub record IsRead (reset : List Bool) (depth items : ℕ) (lines : List (List ℕ)) (dump : Dump) : Type 0 where
  pub spelled_so : spelled lines ≡ dump_text dump
  pub as_deep : dump.depth ≡ depth
  pub alone : depth ≡ 1 → dump.older ≡ None
  pub after : dump.stored ≡ None → dump.older ≡ None
  pub state : length dump.state.bits ≡ length reset
  pub seen : IsSeen dump.state
  pub last : Widths items dump.stored
  pub before : Widths items dump.older
  pub rests : dump.stored ≡ None → Shows dump.state reset

in_order : (lines : List (List ℕ)) (a b tail : List ℕ) → slice_get lines 0 ≡ Some a → slice_get (drop 1 lines) 0 ≡ Some b →
    spelled (drop 1 (drop 1 lines)) ≡ tail →
    spelled lines ≡ line a ++ (line b ++ tail)
in_order [] a b tail x y z = absurd (cc)
in_order (k ∷ []) a b tail x y z = absurd (cc)
in_order (k ∷ l ∷ rest) a b tail x y z =
    let first : k ≡ a = cc in
    let second : l ≡ b = cc in
    λ i. line (first i) ++ (line (second i) ++ z i)

parts_are : (reset : List Bool) (depth items : ℕ) (lines : List (List ℕ)) (dump : Dump) (rs : Result Seen DumpFault)
    (rt : Result (Option (List Bool)) DumpFault) (ro : Option (List Bool) → Result (Option (List Bool)) DumpFault) (re : Result Bool DumpFault) →
    ((s : Seen) → rs ≡ Ok s → IsState (slice_get lines 0) (codes "state ") (length reset) s) →
    ((t : Option (List Bool)) → rt ≡ Ok t → IsHeld (slice_get (drop 1 lines) 0) (codes "sig ") items t) →
    ((t o : Option (List Bool)) (b : Bool) → ro t ≡ Ok o → re ≡ Ok b → IsTail (drop 1 (drop 1 lines)) depth items t o) →
    (rs >>= λ state. rt >>= λ stored. ro stored >>= λ older. re >>= λ ended.
    at_reset reset (record { state = state; stored = stored; older = older; depth = depth })) ≡ Ok dump →
    IsRead reset depth items lines dump
parts_are reset depth items lines dump (Err fault) rt ro re state stored tail h = absurd (not_err Dump fault dump h)
parts_are reset depth items lines dump (Ok s) (Err fault) ro re state stored tail h = absurd (not_err Dump fault dump h)
parts_are reset depth items lines dump (Ok s) (Ok t) ro re state stored tail h = by (ro t) refl re refl h
  where
    by : (r : Result (Option (List Bool)) DumpFault) → ro t ≡ r → (e : Result Bool DumpFault) → re ≡ e →
        (r >>= λ older. e >>= λ ended. at_reset reset (record { state = s; stored = t; older = older; depth = depth })) ≡ Ok dump →
        IsRead reset depth items lines dump
    by (Err fault) x e y k = absurd (not_err Dump fault dump k)
    by (Ok o) x (Err fault) y k = absurd (not_err Dump fault dump k)
    by (Ok o) x (Ok b) y k =
        let made = made_is reset (record { state = s; stored = t; older = o; depth = depth }) dump k in
        let first = state s refl in
        let second = stored t refl in
        let third = tail t o b x y in
        let read : IsRead reset depth items lines (record { state = s; stored = t; older = o; depth = depth }) =
        record {
          spelled_so = in_order lines _ _ _ first.spelled_so second.spelled_so third.spelled_so;
          as_deep = refl;
          alone = third.alone;
          after = third.after;
          state = first.as_wide;
          seen = first.sound;
          last = second.as_wide;
          before = third.as_wide;
          rests = made.rests;
        } in
        subst (IsRead reset depth items lines) made.made_of read

pub dump_read : (reset : List Bool) (depth items : ℕ) (lines : List (List ℕ)) (dump : Dump) → dump_of reset depth items lines ≡ Ok dump →
    IsRead reset depth items lines dump
unfolding dump_of
dump_read reset depth items lines dump h =
    parts_are reset depth items lines dump (seen_line (codes "state ") 1 (length reset) (slice_get lines 0))
    (held_line (codes "sig ") 2 items (slice_get (drop 1 lines) 0))
    (λ stored. older_line depth items stored (slice_get (drop 1 (drop 1 lines)) 0))
    (end_line (depth + 2) (behind_older depth (drop 1 (drop 1 lines))))
    (λ s e. state_is (codes "state ") 1 (length reset) (slice_get lines 0) s e)
    (λ t e. held_is (codes "sig ") 2 items (slice_get (drop 1 lines) 0) t e)
    (λ t o b e last. tail_is (drop 1 (drop 1 lines)) depth items t o e (ended (depth + 2) (behind_older depth (drop 1 (drop 1 lines))) b last)) h

-- the dump fits the chip
pub read_fits : (c : Circuit) (choice : Chosen) (lines : List (List ℕ)) (dump : Dump) → IsDepth (depth_of choice) →
    dump_of (reset_state c) (depth_of choice) (length choice.items) lines ≡ Ok dump → DumpFits c choice dump
read_fits c choice lines dump kept h =
    let is = dump_read (reset_state c) (depth_of choice) (length choice.items) lines dump h in
    record {
      sound =
          record {
            kept = subst IsDepth (sym is.as_deep) kept;
            alone = λ (one : dump.depth ≡ 1). is.alone (sym is.as_deep ∙ one);
            behind = is.after;
          };
      depth = is.as_deep;
      seen = is.seen;
      state = is.state ∙ length-map c.flops (λ (f : Flop). f.reset);
      signatures =
          All-append (λ (t : List Bool). length t ≡ length choice.items) (option_to_list dump.stored) (option_to_list dump.older) is.last is.before;
    }

-- a text that stands for a dump is its text, or that without the last line feed
pub dump_texts_are_exact : DumpTextsAreExact
dump_texts_are_exact reset depth items text dump h =
    let is = dump_read reset depth items (lines_of text) dump h in
    let whole : spelled (lines_of text) ≡ dump_text dump = is.spelled_so in
    ⊎_elim (λ (same : text ≡ spelled (lines_of text)). inl (same ∙ whole)) (λ (longer : line text ≡ spelled (lines_of text)). inr (longer ∙ whole))
    (lines_again text)

-- ---- the same of what a reader answers

pub fits_if_read : (c : Circuit) (choice : Chosen) (reset : List Bool) (depth items : ℕ) (lines : List (List ℕ)) (r : Result Dump DumpFault) →
    IsDepth (depth_of choice) → reset ≡ reset_state c → depth ≡ depth_of choice → items ≡ length choice.items →
    Answers NoMemory (λ dump. dump) r (dump_of reset depth items lines) → IfOk r (DumpFits c choice)
fits_if_read c choice reset depth items lines (Err fault) kept is deep counted answers = tt
fits_if_read c choice reset depth items lines (Ok dump) kept is deep counted answers =
    read_fits c choice lines dump kept (sym (λ i. dump_of (is i) (deep i) (counted i) lines) ∙ answers)

pub rests_if_read : (reset reset' : List Bool) (depth items : ℕ) (lines : List (List ℕ)) (r : Result Dump DumpFault) → reset ≡ reset' →
    Answers NoMemory (λ dump. dump) r (dump_of reset depth items lines) → IfOk r (λ dump. dump.stored ≡ None → Shows dump.state reset')
rests_if_read reset reset' depth items lines (Err fault) is answers = tt
rests_if_read reset reset' depth items lines (Ok dump) is answers =
    λ none. subst (λ (r : List Bool). Shows dump.state r) is ((dump_read reset depth items lines dump answers).rests none)
