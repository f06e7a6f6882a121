-- The text of a dump stands for the dump.
use Rattle.std.proofs.Common.{◌≡◌, ◌⊎◌, inl, inr, ℕ, Bool, true, false, not, ◌&&◌, cond, List, [], ◌∷◌, ◌++◌, length, refl, ap, sym, subst, ◌∙◌}
use Rattle.std.proofs.Common.{Option, Some, None, arith}
use Rattle.std.specs.Prelude.{All, codes, is_none, Result, Ok, Err}
use Rattle.std.specs.Option.{option_and_then, option_to_list}
use Rattle.std.specs.Str.{bytes_eq}
use Rattle.std.proofs.lemmas.Bool.{eq-eqb, true≢false}
use Rattle.std.proofs.lemmas.List.Elements.{All-nil, All-from_recursion, recursion_from_All}
use Rattle.bs_bits.specs.Text.{bits_text, bits_of}
use Rattle.bs_bits.specs.Reading.{◌>>=◌}
use Rattle.bs_bits.specs.Lines.{line, lines_of}
use Rattle.bs_bits.proofs.LineTextLemmas.{Lacks, lacks_append, line_first, bits_lack_feed}
use Rattle.bs_bits.proofs.TextLemmas.{bits_again}
use Rattle.bs_scan.specs.declared.seen.Seen.{Seen}
use Rattle.bs_scan.specs.Seen.{Shows, is_shown, IsSeen}
use Rattle.bs_scan.specs.SeenText.{seen_of, seen_text}
use Rattle.bs_scan.proofs.SeenLemmas.{shown_where}
use Rattle.bs_scan.proofs.TextLemmas.{seen_again, seen_lacks}
use Rattle.bs_scan.specs.declared.dump.Dump.{Dump}
use Rattle.bs_scan.specs.declared.fault.DumpFault.{DumpFault}
use Rattle.bs_scan.specs.declared.fault.DumpFault.TheVariants.{Width, NotReset}
use Rattle.bs_scan.specs.DumpText.{dump_text, dump_of, signature_text, behind, of_width, seen_of_width, is_text, held_line, old_line, at_reset}
use Rattle.bs_scan.specs.Law.{DumpsReadBack}

width_is : (number width : ℕ) (bits : List Bool) → length bits ≡ width → of_width number width (bits_of (bits_text bits)) ≡ Ok bits
width_is number width bits e =
    ap (of_width number width) (bits_again bits)
    ∙ ap (λ t. cond {A = Result (List Bool) DumpFault} t (Ok bits) (Err (Width number))) (eq-eqb (length bits) width e)

seen_width_is : (number width : ℕ) (seen : Seen) → IsSeen seen → length seen.bits ≡ width → seen_of_width number width (seen_of (seen_text seen)) ≡ Ok seen
seen_width_is number width seen sound e =
    ap (seen_of_width number width) (seen_again seen sound)
    ∙ ap (λ t. cond {A = Result Seen DumpFault} t (Ok seen) (Err (Width number))) (eq-eqb (length seen.bits) width e)

-- bits are not `none`
not_none : (t : List Bool) → bytes_eq (bits_text t) (codes "none") ≡ false
not_none [] = refl
not_none (false ∷ bs) = refl
not_none (true ∷ bs) = refl

-- a line's word, which reads itself
record IsWord (word : List ℕ) : Type 0 where
  again : (rest : List ℕ) → behind word (word ++ rest) ≡ Some rest

is_sig : IsWord (codes "sig ")
is_sig = record { again = λ rest. refl }

is_old : IsWord (codes "old ")
is_old = record { again = λ rest. refl }

held_is : (word : List ℕ) (number items : ℕ) (o : Option (List Bool)) → IsWord word → All (λ t. length t ≡ items) (option_to_list o) →
    held_line word number items (Some (word ++ signature_text o)) ≡ Ok o
held_is word number items None w h =
    ap (λ rest. cond {A = Result (Option (List Bool)) DumpFault} (is_text (codes "none") rest) (Ok None)
    (of_width number items (option_and_then bits_of rest) >>= λ bits. Ok (Some bits))) (w.again (codes "none"))
held_is word number items (Some t) w h =
    ap (λ rest. cond {A = Result (Option (List Bool)) DumpFault} (is_text (codes "none") rest) (Ok None)
    (of_width number items (option_and_then bits_of rest) >>= λ bits. Ok (Some bits))) (w.again (bits_text t))
    ∙ (ap (λ b. cond {A = Result (Option (List Bool)) DumpFault} b (Ok None) (of_width number items (bits_of (bits_text t)) >>= λ bits. Ok
    (Some bits))) (not_none t)
    ∙ ap (λ r. r >>= λ bits. Ok (Some bits)) (width_is number items t (recursion_from_All (λ (t : List Bool). length t ≡ items) (t ∷ []) h).0))

old_is : (items : ℕ) (stored older : Option (List Bool)) → (stored ≡ None → older ≡ None) → All (λ t. length t ≡ items) (option_to_list older) →
    old_line items stored (Some (codes "old " ++ signature_text older)) ≡ Ok older
old_is items (Some t) older behind h = held_is (codes "old ") 3 items older is_old h
old_is items None older behind h =
    let none : older ≡ None = behind refl in
    let P : Option (List Bool) → Type 0 = λ o. old_line items None (Some (codes "old " ++ signature_text o)) ≡ Ok o in
    subst P (sym none) refl

reset_is : (reset : List Bool) (dump : Dump) → (dump.stored ≡ None → Shows dump.state reset) → at_reset reset dump ≡ Ok dump
reset_is reset dump h = by dump.stored (is_shown dump.state reset) refl h
  where
    by : (o : Option (List Bool)) (b : Bool) → is_shown dump.state reset ≡ b → (o ≡ None → Shows dump.state reset) →
        cond {A = Result Dump DumpFault} (is_none o && not b) (Err NotReset) (Ok dump) ≡ Ok dump
    by (Some t) b e h = refl
    by None true e h = refl
    by None false e h = absurd (true≢false (sym (shown_where dump.state reset (h refl)) ∙ e))

signature_lacks_feed : (o : Option (List Bool)) → Lacks 10 (signature_text o)
signature_lacks_feed None = (refl, (refl, (refl, (refl, tt))))
signature_lacks_feed (Some t) = bits_lack_feed t

state_lacks_feed : (s : Seen) → Lacks 10 (codes "state " ++ seen_text s)
state_lacks_feed s = lacks_append 10 (codes "state ") (seen_text s) (refl, (refl, (refl, (refl, (refl, (refl, tt)))))) (seen_lacks 10 s (omega arith))

sig_lacks_feed : (o : Option (List Bool)) → Lacks 10 (codes "sig " ++ signature_text o)
sig_lacks_feed o = lacks_append 10 (codes "sig ") (signature_text o) (refl, (refl, (refl, (refl, tt)))) (signature_lacks_feed o)

old_lacks_feed : (o : Option (List Bool)) → Lacks 10 (codes "old " ++ signature_text o)
old_lacks_feed o = lacks_append 10 (codes "old ") (signature_text o) (refl, (refl, (refl, (refl, tt)))) (signature_lacks_feed o)

-- the widths of each signature
widths_of : (items : ℕ) (stored older : Option (List Bool)) → All (λ t. length t ≡ items) (option_to_list stored ++ option_to_list older) →
    All (λ t. length t ≡ items) (option_to_list stored) × All (λ t. length t ≡ items) (option_to_list older)
widths_of items None older h = (All-nil (λ (t : List Bool). length t ≡ items), h)
widths_of items (Some t) older h =
    let all = recursion_from_All (λ (t : List Bool). length t ≡ items) (t ∷ option_to_list older) h in (
      All-from_recursion (λ (t : List Bool). length t ≡ items) (t ∷ []) (all.0, tt),
      All-from_recursion (λ (t : List Bool). length t ≡ items) (option_to_list older) all.1,
    )

-- of a register that keeps one signature
one_again : (reset : List Bool) (items : ℕ) (s : Seen) (o : Option (List Bool)) → IsSeen s → length s.bits ≡ length reset →
    All (λ t. length t ≡ items) (option_to_list o) → (o ≡ None → Shows s reset) →
    dump_of reset 1 items (lines_of (dump_text (record { state = s; stored = o; older = None; depth = 1 })))
    ≡ Ok (record { state = s; stored = o; older = None; depth = 1 })
unfolding dump_of
one_again reset items s o sound ls lo zero_at =
    let a : List ℕ = codes "state " ++ seen_text s in
    let b : List ℕ = codes "sig " ++ signature_text o in
    let dump : Dump = record { state = s; stored = o; older = None; depth = 1 } in
    let whole : lines_of (dump_text dump) ≡ a ∷ b ∷ codes "end" ∷ [] =
    line_first a (line b ++ line (codes "end")) (state_lacks_feed s)
    ∙ ap (λ (l : List (List ℕ)). a ∷ l) (line_first b (line (codes "end")) (sig_lacks_feed o)) in
    ap (dump_of reset 1 items) whole
    ∙ (ap (λ r. r >>= λ state. held_line (codes "sig ") 2 items (Some b) >>= λ stored.
    at_reset reset (record { state = state; stored = stored; older = None; depth = 1 })) (seen_width_is 1 (length reset) s sound ls)
    ∙ (ap (λ r. r >>= λ stored. at_reset reset (record { state = s; stored = stored; older = None; depth = 1 }))
    (held_is (codes "sig ") 2 items o is_sig lo) ∙ reset_is reset dump zero_at))

-- of a register that keeps two
two_again : (reset : List Bool) (items : ℕ) (s : Seen) (o p : Option (List Bool)) → IsSeen s → length s.bits ≡ length reset →
    All (λ t. length t ≡ items) (option_to_list o) → All (λ t. length t ≡ items) (option_to_list p) → (o ≡ None → p ≡ None) → (o ≡ None → Shows s reset) →
    dump_of reset 2 items (lines_of (dump_text (record { state = s; stored = o; older = p; depth = 2 })))
    ≡ Ok (record { state = s; stored = o; older = p; depth = 2 })
unfolding dump_of
two_again reset items s o p sound ls lo lp after zero_at =
    let a : List ℕ = codes "state " ++ seen_text s in
    let b : List ℕ = codes "sig " ++ signature_text o in
    let d : List ℕ = codes "old " ++ signature_text p in
    let dump : Dump = record { state = s; stored = o; older = p; depth = 2 } in
    let whole : lines_of (dump_text dump) ≡ a ∷ b ∷ d ∷ codes "end" ∷ [] =
    line_first a (line b ++ (line d ++ line (codes "end"))) (state_lacks_feed s)
    ∙ (ap (λ (l : List (List ℕ)). a ∷ l) (line_first b (line d ++ line (codes "end")) (sig_lacks_feed o))
    ∙ ap (λ (l : List (List ℕ)). a ∷ b ∷ l) (line_first d (line (codes "end")) (old_lacks_feed p))) in
    ap (dump_of reset 2 items) whole
    ∙ (ap (λ r. r >>= λ state. held_line (codes "sig ") 2 items (Some b) >>= λ stored. old_line items stored (Some d) >>= λ older.
    at_reset reset (record { state = state; stored = stored; older = older; depth = 2 })) (seen_width_is 1 (length reset) s sound ls)
    ∙ (ap (λ r. r >>= λ stored. old_line items stored (Some d) >>= λ older.
    at_reset reset (record { state = s; stored = stored; older = older; depth = 2 })) (held_is (codes "sig ") 2 items o is_sig lo)
    ∙ (ap (λ r. r >>= λ older. at_reset reset (record { state = s; stored = o; older = older; depth = 2 })) (old_is items o p after lp)
    ∙ reset_is reset dump zero_at)))

-- a dump of these widths, at reset where it has no signature
pub dump_again : DumpsReadBack
dump_again reset items dump sound seen ls lt zero_at = by sound.kept
  where
    P : Dump → Type 0
    P d = dump_of reset d.depth items (lines_of (dump_text d)) ≡ Ok d

    widths : All (λ t. length t ≡ items) (option_to_list dump.stored) × All (λ t. length t ≡ items) (option_to_list dump.older)
    widths = widths_of items dump.stored dump.older lt

    by : (dump.depth ≡ 1) ⊎ (dump.depth ≡ 2) → P dump
    by (inl one) =
        let none : dump.older ≡ None = sound.alone one in
        let same : record { state = dump.state; stored = dump.stored; older = None; depth = 1 } ≡ dump =
        sym (λ i. record { state = dump.state; stored = dump.stored; older = none i; depth = one i }) in
        subst P same (one_again reset items dump.state dump.stored seen ls widths.0 zero_at)
    by (inr two) =
        let same : record { state = dump.state; stored = dump.stored; older = dump.older; depth = 2 } ≡ dump =
        sym (λ i. record { state = dump.state; stored = dump.stored; older = dump.older; depth = two i }) in
        subst P same (two_again reset items dump.state dump.stored dump.older seen ls widths.0 widths.1 sound.behind zero_at)
