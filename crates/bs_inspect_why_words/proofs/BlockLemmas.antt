-- The text of a block, part by part.
use Rattle.std.proofs.Common.{◌≡◌, ℕ, ◌<◌, ◌≤◌, ◌+◌, ◌-◌, Bool, true, false, List, [], ◌∷◌, ◌++◌, length, take, drop, get_or, refl, ap, sym, subst, ◌∙◌, ◌⊎◌, inl, inr, arith, append_assoc}
use Rattle.std.specs.Prelude.{codes, nat_le, ◌&&◌, if◌then◌else◌}
use Rattle.std.specs.List.{All, flat_map}
use Rattle.std.proofs.lemmas.Bool.{cases_lt}
use Rattle.std.proofs.lemmas.Grind.{flat_map-append}
use Rattle.std.proofs.lemmas.List.{append-nil, get_or_append_left, get_or_push, length_push}
use Rattle.std.proofs.lemmas.List.Elements.{All-drop, All-nil, All-take}
use Rattle.bs_net.specs.Circuit.{Circuit}
use Rattle.bs_net.specs.Parts.{Parts}
use Rattle.bs_net_facts.specs.declared.fact.Fact.{Fact}
use Rattle.bs_net_facts.specs.Facts.{IsReal}
use Rattle.bs_net_facts.specs.Seen.{Seen}
use Rattle.bs_report.specs.declared.report.Report.{Report}
use Rattle.bs_inspect_why_words.specs.declared.limits.Limits.{Limits}
use Rattle.bs_inspect_why_words.specs.Blocks.{Appends, TellsBlock, TellsCauses, TellsParts}
use Rattle.bs_inspect_why_words.specs.Causes.{TellsRows}
use Rattle.bs_inspect_why_words.specs.Groups.{TellsGroups}
use Rattle.bs_inspect_why_words.specs.Heads.{Episode, TellsHead}
use Rattle.bs_inspect_why_words.specs.Stretches.{cut, starts, stretch_back}

-- ---- parts

pub parts_begin : (Says : ℕ → List ℕ → Type 0) (text : List ℕ) → Appends (TellsParts 0 Says) text text
parts_begin Says text = record {
  words = [];
  says = record { parts = []; size = refl; each = λ j lt. absurd (omega (arith, lt)); whole = refl };
  appended = sym (append-nil text);
}

pub parts_more : (Says : ℕ → List ℕ → Type 0) (j : ℕ) (old mid new : List ℕ) → Appends (TellsParts j Says) old mid → Appends (Says j) mid new →
    Appends (TellsParts (j + 1) Says) old new
parts_more Says j old mid new so_far part = record {
  words = so_far.words ++ part.words;
  says = record {
    parts = all;
    size = length_push so_far.says.parts part.words ∙ (let h : length so_far.says.parts + 1 ≡ j + 1 = omega (arith, so_far.says.size) in h);
    each = λ k less. by k less (cases_lt k j);
    whole =
        ap (λ (t : List ℕ). t ++ part.words) so_far.says.whole
        ∙ sym (flat_map-append (λ (p : List ℕ). p) so_far.says.parts (part.words ∷ [])
        ∙ ap (λ (t : List ℕ). flat_map (λ (p : List ℕ). p) so_far.says.parts ++ t) (append-nil part.words));
  };
  appended =
      part.appended ∙ (ap (λ (t : List ℕ). t ++ part.words) so_far.appended ∙ append_assoc old so_far.words part.words);
}
  where
    all : List (List ℕ)
    all = so_far.says.parts ++ part.words ∷ []

    by : (k : ℕ) → k < j + 1 → (k < j) ⊎ (j ≤ k) → Says k (get_or all k [])
    by k less (inl before) =
        subst (Says k) (sym (get_or_append_left so_far.says.parts (part.words ∷ []) [] k (omega (arith, before, so_far.says.size))))
        (so_far.says.each k before)
    by k less (inr le) =
        let same : j ≡ k = omega (arith, less, le) in
        subst (λ (n : ℕ). Says n (get_or all n [])) same
        (subst (Says j) (sym (get_or_push so_far.says.parts part.words [] j so_far.says.size)) part.says)

-- ---- causes

-- the lines of so many stretches
abbrev pub TellsSome : Seen → Limits → List Fact → List ℕ → ℕ → List ℕ → Type 0
TellsSome m limits facts begins count = TellsParts count (λ j. TellsRows m limits (stretch_back facts begins j))

pub causes_begin : (m : Seen) (limits : Limits) (facts : List Fact) (begins : List ℕ) (text : List ℕ) →
    Appends (TellsSome m limits facts begins 0) text text
causes_begin m limits facts begins text = parts_begin (λ j. TellsRows m limits (stretch_back facts begins j)) text

pub causes_more : (m : Seen) (limits : Limits) (facts : List Fact) (begins : List ℕ) (j : ℕ) (part : List Fact) (old mid new : List ℕ) →
    part ≡ stretch_back facts begins j → Appends (TellsSome m limits facts begins j) old mid → Appends (TellsRows m limits part) mid new →
    Appends (TellsSome m limits facts begins (j + 1)) old new
causes_more m limits facts begins j part old mid new e so_far more =
    parts_more (λ k. TellsRows m limits (stretch_back facts begins k)) j old mid new so_far
    (subst (λ (fs : List Fact). Appends (TellsRows m limits fs) mid new) e more)

pub causes_all : (m : Seen) (limits : Limits) (facts : List Fact) (begins : List ℕ) (j : ℕ) (old new : List ℕ) → begins ≡ starts facts →
    j ≡ length begins → Appends (TellsSome m limits facts begins j) old new → Appends (TellsCauses m limits facts) old new
causes_all m limits facts begins j old new e n told =
    subst (λ (bs : List ℕ). Appends (TellsSome m limits facts bs (length bs)) old new) e
    (subst (λ (k : ℕ). Appends (TellsSome m limits facts begins k) old new) n told)

cut_all : (P : Fact → Type 0) (a b : ℕ) (facts : List Fact) → All P facts → All P (cut a b facts)
cut_all P a b facts h = by (nat_le a b && nat_le b (length facts))
  where
    by : (t : Bool) → All P (if t then take (b - a) (drop a facts) else [])
    by true = All-take P (b - a) (drop a facts) (All-drop P a facts h)
    by false = All-nil P

pub stretch_real : (c : Circuit) (states inputs : List (List Bool)) (facts part : List Fact) (begins : List ℕ) (j : ℕ) →
    All (IsReal c states inputs) facts → part ≡ stretch_back facts begins j → All (IsReal c states inputs) part
stretch_real c states inputs facts part begins j h e =
    subst (All (IsReal c states inputs)) (sym e)
    (cut_all (IsReal c states inputs) (get_or begins (length begins - (j + 1)) 0) (get_or begins (length begins - (j + 1) + 1) (length facts)) facts h)

-- ---- the block

-- the parts of the netlist
pub raw_is : {raw own : Parts} {lead : List ℕ} {facts_most most spans : ℕ} {facts : List Fact} {old new : List ℕ} → raw ≡ own →
    Appends (TellsGroups raw lead facts_most most spans facts) old new → Appends (TellsGroups own lead facts_most most spans facts) old new
raw_is {lead = lead} {facts_most = facts_most} {most = most} {spans = spans} {facts = facts} {old = old} {new = new} e told =
    subst (λ (r : Parts). Appends (TellsGroups r lead facts_most most spans facts) old new) e told

pub block_told : (m : Seen) (r : Report) (limits : Limits) (steps : ℕ) (first last : Episode) (t₀ t₁ t₂ t₃ t₄ : List ℕ) →
    Appends (TellsHead m r steps first last) t₀ t₁ → Appends (TellsCauses m limits last.causes) t₁ t₂ →
    Appends (TellsGroups m.net.raw (codes "    kept by ") limits.held limits.reasons limits.spans first.holds) t₂ t₃ →
    Appends (TellsGroups m.net.raw (codes "    whatever ") limits.idle limits.reasons limits.spans last.idle) t₃ t₄ →
    Appends (TellsBlock m r limits steps first last) t₀ t₄
block_told m r limits steps first last t₀ t₁ t₂ t₃ t₄ head causes kept idle = record {
  words = head.words ++ (causes.words ++ (kept.words ++ idle.words));
  says = record {
    head = head.words;
    causes = causes.words;
    kept = kept.words;
    idle = idle.words;
    tells_head = head.says;
    tells_causes = causes.says;
    tells_kept = kept.says;
    tells_idle = idle.says;
    says = refl;
  };
  appended =
      idle.appended
      ∙ (ap (λ (t : List ℕ). t ++ idle.words)
      (kept.appended ∙ ap (λ (t : List ℕ). t ++ kept.words) (causes.appended ∙ ap (λ (t : List ℕ). t ++ causes.words) head.appended))
      ∙ four t₀ head.words causes.words kept.words idle.words);
}
  where
    four : (a b c d e : List ℕ) → (((a ++ b) ++ c) ++ d) ++ e ≡ a ++ (b ++ (c ++ (d ++ e)))
    four a b c d e =
        append_assoc ((a ++ b) ++ c) d e ∙ (append_assoc (a ++ b) c (d ++ e) ∙ append_assoc a b (c ++ (d ++ e)))
