-- The marks of one cycle, set and taken back.
use Rattle.std.proofs.Common.{◌≡◌, ◌≢◌, ℕ, ◌<◌, inl, inr, ◌+◌, List, [], ◌∷◌, ◌++◌, length, get_or, set, take, refl, subst, ap, sym, ◌∙◌}
use Rattle.std.proofs.Common.{⊎_elim, add-one, get_or-set_same, get_or-set_other, length-set}
use Rattle.std.specs.List.{All, AllByRecursion}
use Rattle.std.proofs.Math.Seq.{take-suc}
use Rattle.std.proofs.lemmas.Bool.{cases_eq}
use Rattle.std.proofs.lemmas.List.Elements.{All-append, All-from_recursion, recursion_from_All}
use Rattle.bs_net.specs.Circuit.{bit_at}
use Rattle.bs_net.specs.Netlist.{Checked, circuit}
use Rattle.bs_sim.specs.declared.mark.Mark.{Mark}
use Rattle.bs_sim.specs.declared.mark.Mark.TheVariants.{Moved}
use Rattle.bs_sim.specs.Marks.{Holds, SayNothing, StayHeld, AreShown, mark_at}
use Rattle.bs_sim.proofs.MarkLemmas.{hold_set}
use Rattle.bs_net_facts.specs.Marked.{Blank, IsKept, Marks, Unmarks}

-- the marks of constants hold in every valuation that fits
pub standing_blank : (net : Checked) (m₀ m₁ : List Mark) → length m₀ ≡ (circuit net).nets → SayNothing m₀ →
    StayHeld (AreShown (circuit net).constants) m₀ m₁ → Blank (record { net = net; marks = m₁ })
standing_blank net m₀ m₁ size start stay =
    record {
      size = stay.size ∙ size;
      each = λ v f. stay.each v v (f.fits.constants, f.fits.constants) (start.each v v);
    }

pub blank_kept : (net : Checked) (marks : List Mark) (trail : List ℕ) → Blank (record { net = net; marks = marks }) → trail ≡ [] → IsKept net marks trail
blank_kept net marks trail b e =
    subst (λ (t : List ℕ). IsKept net marks t) (sym e)
    (record {
      size = b.size;
      placed = All-from_recursion (λ m. m < length marks) [] tt;
      each = λ v f n none. (b.each v f).each n;
    })

-- one net more
pub kept_put : (net : Checked) (marks : List Mark) (trail : List ℕ) (n : ℕ) (m : Mark) → IsKept net marks trail → n < length marks →
    IsKept net (set marks n m) (trail ++ n ∷ [])
kept_put net marks trail n m h lt =
    record {
      size = length-set marks n m ∙ h.size;
      placed =
          let P : ℕ → Type 0 = λ k. All (λ i. i < k) (trail ++ n ∷ []) in
          subst P (sym (length-set marks n m))
          (All-append (λ i. i < length marks) trail (n ∷ []) h.placed (All-from_recursion (λ i. i < length marks) (n ∷ []) (lt, tt)));
      each = λ v f k none.
          let both = split k none in
          let other : k ≢ n = λ e. both.1 (sym e) in
          subst (λ (a : Mark). Holds a (bit_at v k) (bit_at v k)) (sym (get_or-set_other marks n k m Moved other)) (h.each v f k both.0);
    }
  where
    split_by : (k : ℕ) (ns : List ℕ) → AllByRecursion (λ i. i ≢ k) (ns ++ n ∷ []) → AllByRecursion (λ i. i ≢ k) ns × (n ≢ k)
    split_by k [] h = (tt, h.0)
    split_by k (i ∷ ns) h = let rest = split_by k ns h.1 in ((h.0, rest.0), rest.1)

    split : (k : ℕ) → All (λ i. i ≢ k) (trail ++ n ∷ []) → All (λ i. i ≢ k) trail × (n ≢ k)
    split k h =
        let both = split_by k trail (recursion_from_All (λ i. i ≢ k) (trail ++ n ∷ []) h) in
        (All-from_recursion (λ i. i ≢ k) trail both.0, both.1)

-- the same of lists that are equal to these
pub kept_pushed : (net : Checked) (marks marks₂ : List Mark) (trail trail₂ : List ℕ) (n : ℕ) (m : Mark) → IsKept net marks trail → n < length marks →
    marks₂ ≡ set marks n m → trail₂ ≡ trail ++ n ∷ [] → IsKept net marks₂ trail₂
kept_pushed net marks marks₂ trail trail₂ n m h lt e k =
    subst (λ (ms : List Mark). IsKept net ms trail₂) (sym e)
    (subst (λ (t : List ℕ). IsKept net (set marks n m) t) (sym k) (kept_put net marks trail n m h lt))

pub marks_set : (marks : List Mark) (n : ℕ) (m : Mark) → n < length marks → Marks n m marks (set marks n m)
marks_set marks n m lt =
    record {
      size = length-set marks n m;
      each = λ v now here. hold_set marks v v now n m lt here;
    }

pub marks_same : (marks : List Mark) (n : ℕ) (m : Mark) → Marks n m marks marks
marks_same marks n m = record { size = refl; each = λ v now here. now }

-- taken back
pub unmarks_none : (marks : List Mark) → Unmarks [] marks marks
unmarks_none marks = record { size = refl; each = λ n. inr (refl, All-from_recursion (λ m. m ≢ n) [] tt) }

pub unmarks_more : (nets : List ℕ) (old now : List Mark) (n : ℕ) → n < length old → Unmarks nets old now → Unmarks (nets ++ n ∷ []) old (set now n Moved)
unmarks_more nets old now n lt h =
    record {
      size = length-set now n Moved ∙ h.size;
      each = λ k.
          ⊎_elim
          (λ (e : k ≡ n). inl (ap (mark_at (set now n Moved)) e ∙ get_or-set_same now n Moved Moved (rw h.size lt)))
          (λ (ne : k ≡ n → ⊥).
          let same : mark_at (set now n Moved) k ≡ mark_at now k = get_or-set_other now n k Moved Moved ne in
          ⊎_elim
          (λ (e : mark_at now k ≡ Moved). inl (same ∙ e))
          (λ (e : (mark_at now k ≡ mark_at old k) × All (λ m. m ≢ k) nets).
          inr (
            same ∙ e.0,
            All-append (λ m. m ≢ k) nets (n ∷ []) e.1 (All-from_recursion (λ m. m ≢ k) (n ∷ []) (λ same. ne (sym same), tt)),
          ))
          (h.each k))
          (cases_eq k n);
    }

-- one more of a list
pub unmarks_taken : (nets : List ℕ) (j : ℕ) (old now : List Mark) (n : ℕ) → j < length nets → n ≡ get_or nets j n → n < length old →
    Unmarks (take j nets) old now → Unmarks (take (j + 1) nets) old (set now n Moved)
unmarks_taken nets j old now n below is lt h =
    let more : take j nets ++ n ∷ [] ≡ take (j + 1) nets = ap (λ k. take j nets ++ k ∷ []) is ∙ (sym (take-suc nets j n below) ∙ ap (λ k. take k nets) (sym (add-one j))) in
    subst (λ (ns : List ℕ). Unmarks ns old (set now n Moved)) more (unmarks_more (take j nets) old now n lt h)

pub cleared_blank : (net : Checked) (marks old new : List Mark) (trail nets : List ℕ) → IsKept net marks trail → nets ≡ trail → old ≡ marks →
    Unmarks nets old new → Blank (record { net = net; marks = new })
cleared_blank net marks old new trail nets kept e k un =
    let there : IsKept net old nets =
    subst (λ (ms : List Mark). IsKept net ms nets) (sym k) (subst (λ (t : List ℕ). IsKept net marks t) (sym e) kept) in
    record {
      size = un.size ∙ there.size;
      each = λ v f. record {
        each = λ n.
            ⊎_elim
            (λ (e : mark_at new n ≡ Moved). subst (λ (a : Mark). Holds a (bit_at v n) (bit_at v n)) (sym e) tt)
            (λ (e : (mark_at new n ≡ mark_at old n) × All (λ m. m ≢ n) nets).
            subst (λ (a : Mark). Holds a (bit_at v n) (bit_at v n)) (sym e.0) (there.each v f n e.1))
            (un.each n);
      };
    }
