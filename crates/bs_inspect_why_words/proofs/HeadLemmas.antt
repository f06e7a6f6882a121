-- The first line of a block.
use Rattle.std.proofs.Common.{◌≡◌, ◌≢◌, ℕ, ◌<◌, ◌≤◌, ◌+◌, ◌-◌, Bool, false, List, [], ◌∷◌, ◌++◌, length, get_or, refl, ap, sym, subst, ◌∙◌, ◌⊎◌, inl, inr, arith, append_assoc}
use Rattle.std.specs.List.{All}
use Rattle.std.specs.Prelude.{if◌then◌else◌}
use Rattle.std.proofs.lemmas.Bool.{cases_lt, ne_eqb}
use Rattle.std.proofs.lemmas.List.{get_or_append_left, get_or_default, get_or_push, length_push}
use Rattle.bs_net.specs.Circuit.{Circuit}
use Rattle.bs_net.specs.Netlist.{circuit}
use Rattle.bs_net_facts.specs.declared.fact.Fact.{Fact}
use Rattle.bs_net_facts.specs.Facts.{IsReal}
use Rattle.bs_net_facts.specs.Seen.{Seen}
use Rattle.bs_inspect_view.specs.Signals.{AreSignals, Signal}
use Rattle.bs_report.specs.declared.report.Report.{Report}
use Rattle.bs_inspect_why_words.specs.Blocks.{Appends}
use Rattle.bs_inspect_why_words.specs.Facts.{fact_bits, fact_keys}
use Rattle.bs_inspect_why_words.specs.Heads.{AreBefore, Episode, TellsHead, TellsHeadOf, before_count, head_line, one_before}

-- ---- bits before

pub net_here : (nets : ℕ) (facts : List Fact) (i : ℕ) (f : Fact) → All (λ f. f.net.0 < nets) facts → i < length facts → f ≡ get_or facts i f →
    f.net.0 < nets
net_here nets facts i f placed lt e = subst (λ (x : Fact). x.net.0 < nets) (sym e) (placed i f lt)

pub befores_begin : (c : Circuit) (states inputs : List (List Bool)) (facts : List Fact) (since : ℕ) (befores : List Bool) → befores ≡ [] →
    AreBefore c states inputs facts since 0 befores
befores_begin c states inputs facts since befores e = record { size = ap length e; each = λ i d lt. absurd (omega (arith, lt)) }

pub befores_more : (c : Circuit) (states inputs : List (List Bool)) (facts : List Fact) (since i : ℕ) (f : Fact) (bit : Bool) (befores after : List Bool) →
    i < length facts → f ≡ get_or facts i f → AreBefore c states inputs facts since i befores →
    IsReal c states inputs (record { net = f.net; cycle = since - 1; bit = bit }) → after ≡ befores ++ bit ∷ [] →
    AreBefore c states inputs facts since (i + 1) after
befores_more c states inputs facts since i f bit befores after lt at are real goes =
    subst (AreBefore c states inputs facts since (i + 1)) (sym goes)
    (record {
      size = length_push befores bit ∙ (let h : length befores + 1 ≡ i + 1 = omega (arith, are.size) in h);
      each = λ k d less. by k d less (cases_lt k i);
    })
  where
    One : ℕ → Fact → Bool → Type 0
    One k d b = IsReal c states inputs (one_before since (get_or facts k d) b)

    by : (k : ℕ) (d : Fact) → k < i + 1 → (k < i) ⊎ (i ≤ k) → One k d (get_or (befores ++ bit ∷ []) k false)
    by k d less (inl before) =
        subst (One k d) (sym (get_or_append_left befores (bit ∷ []) false k (omega (arith, before, are.size)))) (are.each k d before)
    by k d less (inr le) =
        let same : i ≡ k = omega (arith, less, le) in
        subst (λ (n : ℕ). One n d (get_or (befores ++ bit ∷ []) n false)) same
        (subst (One i d) (sym (get_or_push befores bit false i are.size))
        (subst (λ (g : Fact). IsReal c states inputs (one_before since g bit)) (at ∙ get_or_default facts i f d lt) real))

-- the same of a list's member
pub befores_put : (c : Circuit) (states inputs : List (List Bool)) (facts : List Fact) (since i : ℕ) (d : Fact) (bit : Bool) (befores after : List Bool) →
    i < length facts → AreBefore c states inputs facts since i befores →
    IsReal c states inputs (record { net = (get_or facts i d).net; cycle = since - 1; bit = bit }) → after ≡ befores ++ bit ∷ [] →
    AreBefore c states inputs facts since (i + 1) after
befores_put c states inputs facts since i d bit befores after lt are real goes =
    befores_more c states inputs facts since i (get_or facts i d) bit befores after lt (get_or_default facts i d (get_or facts i d) lt) are real goes

pub befores_none : (c : Circuit) (states inputs : List (List Bool)) (facts : List Fact) (since : ℕ) (befores : List Bool) → since ≡ 0 → befores ≡ [] →
    AreBefore c states inputs facts since (before_count since facts) befores
befores_none c states inputs facts since befores none e =
    subst (λ (n : ℕ). AreBefore c states inputs facts n (before_count n facts) befores) (sym none)
    (befores_begin c states inputs facts 0 befores e)

pub befores_all : (c : Circuit) (states inputs : List (List Bool)) (facts : List Fact) (since : ℕ) (befores : List Bool) → 0 < since →
    AreBefore c states inputs facts since (length facts) befores → AreBefore c states inputs facts since (before_count since facts) befores
befores_all c states inputs facts since befores some are =
    let other : since ≢ 0 = λ none. omega (arith, some, none) in
    subst (λ (b : Bool). AreBefore c states inputs facts since (if b then 0 else length facts) befores) (sym (ne_eqb since 0 other)) are

-- ---- the line

-- five pieces, one behind another
pub steps_told : (t a b c d e t₁ t₂ t₃ t₄ t₅ : List ℕ) → t₁ ≡ t ++ a → t₂ ≡ t₁ ++ b → t₃ ≡ t₂ ++ c → t₄ ≡ t₃ ++ d → t₅ ≡ t₄ ++ e →
    t₅ ≡ t ++ (a ++ (b ++ (c ++ (d ++ e))))
steps_told t a b c d e t₁ t₂ t₃ t₄ t₅ h₁ h₂ h₃ h₄ h₅ =
    h₅
    ∙ (ap (λ (x : List ℕ). x ++ e) (h₄ ∙ ap (λ (x : List ℕ). x ++ d) (h₃ ∙ ap (λ (x : List ℕ). x ++ c) (h₂ ∙ ap (λ (x : List ℕ). x ++ b) h₁)))
    ∙ (append_assoc (((t ++ a) ++ b) ++ c) d e
    ∙ (append_assoc ((t ++ a) ++ b) c (d ++ e) ∙ (append_assoc (t ++ a) b (c ++ (d ++ e)) ∙ append_assoc t a (b ++ (c ++ (d ++ e)))))))

-- four pieces
pub front_put : (t a b c d t₁ t₂ t₃ t₄ : List ℕ) → t₁ ≡ t ++ a → t₂ ≡ t₁ ++ b → t₃ ≡ t₂ ++ c → t₄ ≡ t₃ ++ d → t₄ ≡ t ++ (a ++ (b ++ (c ++ d)))
front_put t a b c d t₁ t₂ t₃ t₄ h₁ h₂ h₃ h₄ =
    let three : t₃ ≡ ((t ++ a) ++ b) ++ c =
    h₃ ∙ ap (λ (x : List ℕ). x ++ c) (h₂ ∙ ap (λ (x : List ℕ). x ++ b) h₁) in
    h₄ ∙ (ap (λ (x : List ℕ). x ++ d) three ∙ regroup t a b c d)
  where
    regroup : (t a b c d : List ℕ) → (((t ++ a) ++ b) ++ c) ++ d ≡ t ++ (a ++ (b ++ (c ++ d)))
    regroup t a b c d = simp append_assoc

-- these, two more and a line feed
pub line_put : (t a b c d e f t₁ t₂ t₃ t₄ : List ℕ) → t₁ ≡ t ++ (a ++ (b ++ (c ++ d))) → t₂ ≡ t₁ ++ e → t₃ ≡ t₂ ++ f → t₄ ≡ t₃ ++ 10 ∷ [] →
    t₄ ≡ t ++ ((a ++ (b ++ (c ++ (d ++ (e ++ f))))) ++ 10 ∷ [])
line_put t a b c d e f t₁ t₂ t₃ t₄ h₁ h₂ h₃ h₄ =
    let six : t₃ ≡ ((t ++ (a ++ (b ++ (c ++ d)))) ++ e) ++ f =
    h₃ ∙ ap (λ (x : List ℕ). x ++ f) (h₂ ∙ ap (λ (x : List ℕ). x ++ e) h₁) in
    h₄ ∙ (ap (λ (x : List ℕ). x ++ 10 ∷ []) six ∙ regroup t a b c d e f (10 ∷ []))
  where
    regroup : (t a b c d e f z : List ℕ) →
        (((t ++ (a ++ (b ++ (c ++ d)))) ++ e) ++ f) ++ z ≡ t ++ ((a ++ (b ++ (c ++ (d ++ (e ++ f))))) ++ z)
    regroup t a b c d e f z = simp append_assoc

pub line_told : (m : Seen) (r : Report) (steps : ℕ) (signals : List Signal) (first last : Episode) (bits befores : List Bool)
    (old new : List ℕ) → bits ≡ fact_bits first.bits →
    AreBefore (circuit m.net) m.states m.inputs last.bits last.since (before_count last.since last.bits) befores →
    new ≡ old ++ head_line r steps signals bits befores first last.since → Appends (TellsHeadOf m r steps signals first last) old new
line_told m r steps signals first last bits befores old new e before goes = record {
  words = head_line r steps signals (fact_bits first.bits) befores first last.since;
  says = record { befores = befores; before = before; says = refl };
  appended = goes ∙ ap (λ (bs : List Bool). old ++ head_line r steps signals bs befores first last.since) e;
}

pub head_told : (m : Seen) (r : Report) (steps : ℕ) (signals : List Signal) (first last : Episode) (old new : List ℕ) →
    AreSignals [] (fact_keys m.net.raw first.bits) signals → Appends (TellsHeadOf m r steps signals first last) old new →
    Appends (TellsHead m r steps first last) old new
head_told m r steps signals first last old new are told = record {
  words = told.words;
  says = record { signals = signals; are = are; tells = told.says };
  appended = told.appended;
}
