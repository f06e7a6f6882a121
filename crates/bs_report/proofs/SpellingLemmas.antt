-- A line that is read is spelled by what was read.
use Rattle.std.proofs.Common.{◌≡◌, ℕ, ◌<◌, ◌≤◌, ◌+◌, ◌^◌, Bool, true, false, cond, ◌&&◌, List, [], ◌∷◌, ◌++◌, length, refl, arith, ap, sym, subst}
use Rattle.std.proofs.Common.{◌∙◌, ◌⊎◌, inl, inr, Option, Some, None}
use Rattle.std.specs.Prelude.{◌==◌, codes, decimal, nat_le, option_map}
use Rattle.std.specs.Str.{bytes_eq}
use Rattle.std.specs.Cmp.Lexicographic.{pointwise_decides}
use Rattle.std.proofs.lemmas.Bool.{and_parts, leb-true, eqb-true, eqb-false}
use Rattle.std.proofs.lemmas.List.{append-nil}
use Rattle.std.proofs.lemmas.Bool.Decides.{Decides-eqb}
use Rattle.bs_bits.specs.Text.{bits_text, bits_of}
use Rattle.bs_bits.specs.Lines.{line, words_of, number_in}
use Rattle.bs_bits.proofs.TextLemmas.{text_again}
use Rattle.bs_scan.specs.declared.seen.Seen.{Seen}
use Rattle.bs_scan.specs.Seen.{IsSeen}
use Rattle.bs_scan.specs.SeenText.{seen_of, seen_text}
use Rattle.bs_scan.proofs.TextLemmas.{seen_exact}
use Rattle.bs_log.specs.declared.line.Line.{Line}
use Rattle.bs_log.specs.LineForms.{HasText, IsLineOf}
use Rattle.bs_log.specs.LineReading.{id_in, line_in}
use Rattle.bs_log.specs.LineText.{line_text}
use Rattle.bs_log.proofs.WordLemmas.{id_is, joined, joined_words, number_text, number_below}
use Rattle.bs_log.proofs.RoundTrip.{texts_are_lines}
use Rattle.bs_stim.specs.declared.limits.TheConstants.{MAX_RUNS, MAX_CYCLES}
use Rattle.bs_report.specs.declared.limits.TheConstants.{MAX_STEPS, MAX_CANDIDATES, MAX_CONFLICTS}
use Rattle.bs_report.specs.declared.report.Budgets.{Budgets}
use Rattle.bs_scan.specs.Choice.{IsDepth}
use Rattle.bs_scan.specs.DumpText.{signature_text}
use Rattle.bs_report.specs.declared.report.Before.{Before}
use Rattle.bs_report.specs.declared.report.Cand.{Cand}
use Rattle.bs_report.specs.declared.report.HitLine.{HitLine}
use Rattle.bs_report.specs.declared.report.ListEnd.{ListEnd}
use Rattle.bs_report.specs.declared.report.ListEnd.TheVariants.{Finished, Candidates as ByCandidates, Conflicts as ByConflicts}
use Rattle.bs_report.specs.declared.report.Stop.{Stop}
use Rattle.bs_report.specs.declared.report.Stop.TheVariants.{Reset, Length, Nohit, Empty, Candidates, Conflicts}
use Rattle.bs_report.specs.Forms.{◌>>=◌, next_in, behind, at_end, within, number_within, number_behind, bits_behind, bits_next, seen_behind, seen_in, count_in, bits_in}
use Rattle.bs_report.specs.Forms.{budgets_in, depth_in, older_in, source_in, before_in, cand_in, finished_end, end_of, end_in, run_cycle_in, moment_in}
use Rattle.bs_report.specs.Forms.{hit_in, stop_of, stop_in}
use Rattle.bs_report.specs.Text.{title, before_text, cand_words, end_word, stop_word, hit_text, IsOfDepth, HasEndText, HasHitText}

-- ---- parts that are there

pub record Bound {A B : Type 0} (o : Option A) (f : A → Option B) (b : B) : Type 0 where
  pub value : A
  pub is : o ≡ Some value
  pub gives : f value ≡ Some b

pub bound : {A B : Type 0} (o : Option A) (f : A → Option B) (b : B) → (o >>= f) ≡ Some b → Bound o f b
bound None f b e = cc
bound (Some a) f b e = record { value = a; is = refl; gives = e }

pub same_text : (a b : List ℕ) → bytes_eq a b ≡ true → a ≡ b
same_text a b e = (pointwise_decides Decides-eqb a b).0 e

pub unmap : {A B : Type 0} (f : A → B) (o : Option A) (b : B) → option_map f o ≡ Some b → Bound o (λ a. Some (f a)) b
unmap f None b e = cc
unmap f (Some a) b e = record { value = a; is = refl; gives = e }

-- a branch that is taken
pub branch : {A G : Type 0} (b : Bool) (x y : Option A) (a : A) → cond b x y ≡ Some a → (b ≡ true → x ≡ Some a → G) → (b ≡ false → y ≡ Some a → G) → G
branch true x y a e holds fails = holds refl e
branch false x y a e holds fails = fails refl e

never : {A G : Type 0} (a : A) → None ≡ Some a → G
never a e = cc

next_is : (ws : List (List ℕ)) (found : List ℕ × List (List ℕ)) → next_in ws ≡ Some found → ws ≡ found.0 ∷ found.1
next_is [] found e = cc
next_is (w ∷ ws) found e = let same : (w, ws) ≡ found = cc in ap (λ (x : List ℕ × List (List ℕ)). x.0 ∷ x.1) same

behind_is : (tag : List ℕ) (ws : List (List ℕ)) (found : List ℕ × List (List ℕ)) → behind tag ws ≡ Some found → ws ≡ tag ∷ found.0 ∷ found.1
behind_is tag [] found e = cc
behind_is tag (w ∷ ws) found e =
    branch (bytes_eq w tag) (next_in ws) None found e
    (λ t e. ap (λ x. x ∷ ws) (same_text w tag t) ∙ ap (λ r. tag ∷ r) (next_is ws found e))
    (λ t e. never found e)

end_is_here : {A : Type 0} (ws : List (List ℕ)) (a b : A) → at_end ws a ≡ Some b → (ws ≡ []) × (a ≡ b)
end_is_here ws a b e = branch (length ws == 0) (Some a) None b e (λ t e. (none ws t, some e)) (λ t e. never b e)
  where
    none : (ws : List (List ℕ)) → (length ws == 0) ≡ true → ws ≡ []
    none [] t = refl
    none (w ∷ ws) t = let zero_long : length (w ∷ ws) ≡ 0 = eqb-true _ _ t in absurd (omega arith)

    some : Some a ≡ Some b → a ≡ b
    some e = cc

-- ---- numbers

pub record IsNumber (low high : ℕ) (w : List ℕ) (n : ℕ) : Type 0 where
  pub text : w ≡ decimal n
  pub from : low ≤ n
  pub to : n ≤ high
  pub small : n < 2 ^ 64

within_is : (low high : ℕ) (w : List ℕ) (n : ℕ) → number_within low high w ≡ Some n → IsNumber low high w n
within_is low high w n e = by (number_in w) refl e
  where
    by : (o : Option ℕ) → number_in w ≡ o → within low high o ≡ Some n → IsNumber low high w n
    by None is e = never n e
    by (Some m) is e =
        branch (nat_le low m && nat_le m high) (Some m) None n e
        (λ t e.
        let same : m ≡ n = cc in
        let range = and_parts (nat_le low m) (nat_le m high) t in
        subst (IsNumber low high w) same
        (record { text = sym (number_text w m is); from = leb-true low m range.0; to = leb-true m high range.1; small = number_below w m is }))
        (λ t e. never n e)

-- ---- parts of lines

pub record IsNumberBehind (tag : List ℕ) (low high : ℕ) (ws : List (List ℕ)) (found : ℕ × List (List ℕ)) : Type 0 where
  pub words : ws ≡ tag ∷ decimal found.0 ∷ found.1
  pub from : low ≤ found.0
  pub to : found.0 ≤ high

number_behind_is : (tag : List ℕ) (low high : ℕ) (ws : List (List ℕ)) (found : ℕ × List (List ℕ)) → number_behind tag low high ws ≡ Some found →
    IsNumberBehind tag low high ws found
number_behind_is tag low high ws found e =
    let a = bound (behind tag ws) (λ found. number_within low high found.0 >>= λ n. Some (n, found.1)) found e in
    let b = bound (number_within low high a.value.0) (λ n. Some (n, a.value.1)) found a.gives in
    let n = within_is low high a.value.0 b.value b.is in
    let gives : Some (b.value, a.value.1) ≡ Some found = b.gives in
    let same : (b.value, a.value.1) ≡ found = cc in
    subst (IsNumberBehind tag low high ws) same
    (record { words = behind_is tag ws a.value a.is ∙ ap (λ w. tag ∷ w ∷ a.value.1) n.text; from = n.from; to = n.to })

bits_behind_is : (tag : List ℕ) (ws : List (List ℕ)) (found : List Bool × List (List ℕ)) → bits_behind tag ws ≡ Some found →
    ws ≡ tag ∷ bits_text found.0 ∷ found.1
bits_behind_is tag ws found e =
    let a = bound (behind tag ws) (λ found. bits_of found.0 >>= λ bits. Some (bits, found.1)) found e in
    let b = bound (bits_of a.value.0) (λ bits. Some (bits, a.value.1)) found a.gives in
    let gives : Some (b.value, a.value.1) ≡ Some found = b.gives in
    let same : (b.value, a.value.1) ≡ found = cc in
    subst (λ (found : List Bool × List (List ℕ)). ws ≡ tag ∷ bits_text found.0 ∷ found.1) same
    (behind_is tag ws a.value a.is ∙ ap (λ w. tag ∷ w ∷ a.value.1) (sym (text_again a.value.0 b.value b.is)))

-- what was seen behind a word
record IsSeenBehind (tag : List ℕ) (ws : List (List ℕ)) (found : Seen × List (List ℕ)) : Type 0 where
  sound : IsSeen found.0
  words : ws ≡ tag ∷ seen_text found.0 ∷ found.1

seen_behind_is : (tag : List ℕ) (ws : List (List ℕ)) (found : Seen × List (List ℕ)) → seen_behind tag ws ≡ Some found → IsSeenBehind tag ws found
seen_behind_is tag ws found e =
    let a = bound (behind tag ws) (λ found. seen_of found.0 >>= λ seen. Some (seen, found.1)) found e in
    let b = bound (seen_of a.value.0) (λ seen. Some (seen, a.value.1)) found a.gives in
    let gives : Some (b.value, a.value.1) ≡ Some found = b.gives in
    let same : (b.value, a.value.1) ≡ found = cc in
    let exact = seen_exact a.value.0 b.value b.is in
    subst (IsSeenBehind tag ws) same
    (record { sound = exact.0; words = behind_is tag ws a.value a.is ∙ ap (λ w. tag ∷ w ∷ a.value.1) (sym exact.1) })

-- ---- lines

from_words : (text : List ℕ) (ws : List (List ℕ)) → words_of text ≡ ws → text ≡ joined ws
from_words text ws e = sym (joined_words text) ∙ ap joined e

pub count_is : (tag text : List ℕ) (n : ℕ) → count_in tag text ≡ Some n → (text ≡ joined (tag ∷ decimal n ∷ [])) × (n < 2 ^ 64)
count_is tag text n e =
    let a = bound (behind tag (words_of text)) (λ found. number_in found.0 >>= λ n. at_end found.1 n) n e in
    let b = bound (number_in a.value.0) (λ n. at_end a.value.1 n) n a.gives in
    let z = end_is_here a.value.1 b.value n b.gives in (
      from_words text (tag ∷ decimal n ∷ [])
          (behind_is tag (words_of text) a.value a.is
          ∙ (ap (λ w. tag ∷ w ∷ a.value.1) (sym (number_text a.value.0 b.value b.is))
          ∙ (ap (λ ws. tag ∷ decimal b.value ∷ ws) z.0 ∙ ap (λ (n : ℕ). tag ∷ decimal n ∷ []) z.1))),
      subst (λ (n : ℕ). n < 2 ^ 64) z.1 (number_below a.value.0 b.value b.is),
    )

pub bits_line_is : (tag text : List ℕ) (bs : List Bool) → bits_in tag text ≡ Some bs → text ≡ joined (tag ∷ bits_text bs ∷ [])
bits_line_is tag text bs e =
    let a = bound (bits_behind tag (words_of text)) (λ found. at_end found.1 found.0) bs e in
    let z = end_is_here a.value.1 a.value.0 bs a.gives in
    from_words text (tag ∷ bits_text bs ∷ [])
    (bits_behind_is tag (words_of text) a.value a.is ∙ (ap (λ ws. tag ∷ bits_text a.value.0 ∷ ws) z.0 ∙ ap (λ (bs : List Bool). tag ∷ bits_text bs ∷ []) z.1))

pub seen_line_is : (tag text : List ℕ) (s : Seen) → seen_in tag text ≡ Some s → IsSeen s × (text ≡ joined (tag ∷ seen_text s ∷ []))
seen_line_is tag text s e =
    let a = bound (seen_behind tag (words_of text)) (λ found. at_end found.1 found.0) s e in
    let z = end_is_here a.value.1 a.value.0 s a.gives in
    let b = seen_behind_is tag (words_of text) a.value a.is in (
      subst IsSeen z.1 b.sound,
      from_words text (tag ∷ seen_text s ∷ [])
          (b.words ∙ (ap (λ ws. tag ∷ seen_text a.value.0 ∷ ws) z.0 ∙ ap (λ (s : Seen). tag ∷ seen_text s ∷ []) z.1)),
    )

pub record AreBudgets (text : List ℕ) (b : Budgets) : Type 0 where
  pub spells : text ≡ codes "asked " ++ (decimal b.steps ++ (codes " candidates " ++ (decimal b.candidates ++ (codes " conflicts " ++ decimal b.conflicts))))
  pub some_steps : 1 ≤ b.steps
  pub max_steps : b.steps ≤ MAX_STEPS
  pub some_candidates : 1 ≤ b.candidates
  pub max_candidates : b.candidates ≤ MAX_CANDIDATES
  pub some_conflicts : 1 ≤ b.conflicts
  pub max_conflicts : b.conflicts ≤ MAX_CONFLICTS

pub budgets_are : (text : List ℕ) (b : Budgets) → budgets_in text ≡ Some b → AreBudgets text b
budgets_are text b e =
    let s = bound (number_behind (codes "asked") 1 MAX_STEPS (words_of text)) first b e in
    let c = bound (number_behind (codes "candidates") 1 MAX_CANDIDATES s.value.1) (second s.value.0) b s.gives in
    let f = bound (number_behind (codes "conflicts") 1 MAX_CONFLICTS c.value.1) (third s.value.0 c.value.0) b c.gives in
    let z = end_is_here f.value.1 (record { steps = s.value.0; candidates = c.value.0; conflicts = f.value.0 }) b f.gives in
    let ps = number_behind_is (codes "asked") 1 MAX_STEPS (words_of text) s.value s.is in
    let pc = number_behind_is (codes "candidates") 1 MAX_CANDIDATES s.value.1 c.value c.is in
    let pf = number_behind_is (codes "conflicts") 1 MAX_CONFLICTS c.value.1 f.value f.is in
    subst (AreBudgets text) z.1
    (record {
      spells =
          from_words text (codes "asked" ∷ decimal s.value.0 ∷ codes "candidates" ∷ decimal c.value.0 ∷ codes "conflicts" ∷ decimal f.value.0 ∷ [])
          (ps.words
          ∙ (ap (λ ws. codes "asked" ∷ decimal s.value.0 ∷ ws) pc.words
          ∙ (ap (λ ws. codes "asked" ∷ decimal s.value.0 ∷ codes "candidates" ∷ decimal c.value.0 ∷ ws) pf.words
          ∙ ap (λ ws. codes "asked" ∷ decimal s.value.0 ∷ codes "candidates" ∷ decimal c.value.0 ∷ codes "conflicts" ∷ decimal f.value.0 ∷ ws) z.0)));
      some_steps = ps.from;
      max_steps = ps.to;
      some_candidates = pc.from;
      max_candidates = pc.to;
      some_conflicts = pf.from;
      max_conflicts = pf.to;
    })
  where
    third : ℕ → ℕ → ℕ × List (List ℕ) → Option Budgets
    third s c conflicts = at_end conflicts.1 (record { steps = s; candidates = c; conflicts = conflicts.0 })

    second : ℕ → ℕ × List (List ℕ) → Option Budgets
    second s candidates = number_behind (codes "conflicts") 1 MAX_CONFLICTS candidates.1 >>= third s candidates.0

    first : ℕ × List (List ℕ) → Option Budgets
    first steps = number_behind (codes "candidates") 1 MAX_CANDIDATES steps.1 >>= second steps.0

pub depth_is : (text : List ℕ) (depth : ℕ) → depth_in text ≡ Some depth → IsDepth depth × (text ≡ title depth)
depth_is text depth e =
    branch (bytes_eq text (codes "backspace 1")) (Some 1) _ depth e
    (λ t e. let same : 1 ≡ depth = cc in is same (inl (sym same)) (same_text text (codes "backspace 1") t)) (λ t e.
    branch (bytes_eq text (codes "backspace 2")) (Some 2) None depth e
    (λ t e. let same : 2 ≡ depth = cc in is same (inr (sym same)) (same_text text (codes "backspace 2") t)) (λ t e. never depth e))
  where
    is : {d : ℕ} → d ≡ depth → IsDepth depth → text ≡ title d → IsDepth depth × (text ≡ title depth)
    is same h t = (h, t ∙ ap title same)

pub older_is : (text : List ℕ) (older : Option (List Bool)) → older_in text ≡ Some older → text ≡ codes "older " ++ signature_text older
older_is text older e =
    branch (bytes_eq text (codes "older none")) (Some None) (option_map (λ (bits : List Bool). Some bits) (bits_in (codes "older") text)) older e
    (λ t e. let same : None ≡ older = cc in
    subst (λ (o : Option (List Bool)). text ≡ codes "older " ++ signature_text o) same (same_text text (codes "older none") t))
    (λ t e.
    let m = unmap (λ (bits : List Bool). Some bits) (bits_in (codes "older") text) older e in
    let gives : Some (Some m.value) ≡ Some older = m.gives in
    let same : Some m.value ≡ older = cc in
    subst (λ (o : Option (List Bool)). text ≡ codes "older " ++ signature_text o) same (bits_line_is (codes "older") text m.value m.is))

bits_next_is : (ws : List (List ℕ)) (found : List Bool × List (List ℕ)) → bits_next ws ≡ Some found → ws ≡ bits_text found.0 ∷ found.1
bits_next_is ws found e =
    let a = bound (next_in ws) (λ found. bits_of found.0 >>= λ bits. Some (bits, found.1)) found e in
    let b = bound (bits_of a.value.0) (λ bits. Some (bits, a.value.1)) found a.gives in
    let gives : Some (b.value, a.value.1) ≡ Some found = b.gives in
    let same : (b.value, a.value.1) ≡ found = cc in
    subst (λ (found : List Bool × List (List ℕ)). ws ≡ bits_text found.0 ∷ found.1) same
    (next_is ws a.value a.is ∙ ap (λ w. w ∷ a.value.1) (sym (text_again a.value.0 b.value b.is)))

source_is : (ws : List (List ℕ)) (before : Before) → source_in ws ≡ Some before →
    ws ≡ bits_text before.state ∷ codes "input" ∷ bits_text before.input ∷ []
source_is ws before e =
    let s = bound (bits_next ws) first before e in
    let x = bound (bits_behind (codes "input") s.value.1) (second s.value.0) before s.gives in
    let z = end_is_here x.value.1 (record { state = s.value.0; input = x.value.0 }) before x.gives in
    subst (λ (before : Before). ws ≡ bits_text before.state ∷ codes "input" ∷ bits_text before.input ∷ []) z.1
    (bits_next_is ws s.value s.is
    ∙ (ap (λ ws. bits_text s.value.0 ∷ ws) (bits_behind_is (codes "input") s.value.1 x.value x.is)
    ∙ ap (λ ws. bits_text s.value.0 ∷ codes "input" ∷ bits_text x.value.0 ∷ ws) z.0))
  where
    second : List Bool → List Bool × List (List ℕ) → Option Before
    second state input = at_end input.1 (record { state = state; input = input.0 })

    first : List Bool × List (List ℕ) → Option Before
    first state = bits_behind (codes "input") state.1 >>= second state.0

-- the words behind a candidate's input
abbrev Behind : ℕ → List (List ℕ) → Option Before → Type 0
Behind depth ws before = IsOfDepth depth before × ((s x : List Bool) → joined (codes "cand" ∷ bits_text s ∷ codes "input" ∷ bits_text x ∷ ws) ≡
    codes "cand " ++ (bits_text s ++ (codes " input " ++ (bits_text x ++ before_text before))))

before_is : (depth : ℕ) (ws : List (List ℕ)) (before : Option Before) → before_in depth ws ≡ Some before → Behind depth ws before
before_is depth [] before e =
    let same : None ≡ before = cc in
    subst (Behind depth []) same
    (λ _. refl, λ s x. ap (λ (t : List ℕ). codes "cand " ++ (bits_text s ++ (codes " input " ++ t))) (sym (append-nil (bits_text x))))
before_is depth (w ∷ ws) before e =
    branch (depth == 1) None (cond (bytes_eq w (codes "from")) (option_map (λ (before : Before). Some before) (source_in ws)) None) before e
    (λ t e. never before e)
    (λ d e.
    branch (bytes_eq w (codes "from")) (option_map (λ (before : Before). Some before) (source_in ws)) None before e
    (λ t e.
    let m = unmap (λ (before : Before). Some before) (source_in ws) before e in
    let gives : Some (Some m.value) ≡ Some before = m.gives in
    let same : Some m.value ≡ before = cc in
    let words : w ∷ ws ≡ codes "from" ∷ bits_text m.value.state ∷ codes "input" ∷ bits_text m.value.input ∷ [] =
    ap (λ w. w ∷ ws) (same_text w (codes "from") t) ∙ ap (λ ws. codes "from" ∷ ws) (source_is ws m.value m.is) in
    subst (Behind depth (w ∷ ws)) same
    (λ one. absurd (eqb-false depth 1 d one), λ s x. ap (λ ws. joined (codes "cand" ∷ bits_text s ∷ codes "input" ∷ bits_text x ∷ ws)) words))
    (λ t e. never before e))

pub cand_is : (depth : ℕ) (text : List ℕ) (c : Cand) → cand_in depth text ≡ Some c → IsOfDepth depth c.before × (text ≡ cand_words c)
cand_is depth text c e =
    let s = bound (bits_behind (codes "cand") (words_of text)) first c e in
    let x = bound (bits_behind (codes "input") s.value.1) (second s.value.0) c s.gives in
    let b = bound (before_in depth x.value.1) (third s.value.0 x.value.0) c x.gives in
    let gives : Some (record { state = s.value.0; input = x.value.0; before = b.value }) ≡ Some c = b.gives in
    let same : record { state = s.value.0; input = x.value.0; before = b.value } ≡ c = cc in
    let before = before_is depth x.value.1 b.value b.is in
    subst (λ (c : Cand). IsOfDepth depth c.before × (text ≡ cand_words c)) same (
      before.0,
      from_words text (codes "cand" ∷ bits_text s.value.0 ∷ codes "input" ∷ bits_text x.value.0 ∷ x.value.1)
          (bits_behind_is (codes "cand") (words_of text) s.value s.is
          ∙ ap (λ ws. codes "cand" ∷ bits_text s.value.0 ∷ ws) (bits_behind_is (codes "input") s.value.1 x.value x.is))
          ∙ before.1 s.value.0 x.value.0,
    )
  where
    third : List Bool → List Bool → Option Before → Option Cand
    third state input before = Some (record { state = state; input = input; before = before })

    second : List Bool → List Bool × List (List ℕ) → Option Cand
    second state input = before_in depth input.1 >>= third state input.0

    first : List Bool × List (List ℕ) → Option Cand
    first state = bits_behind (codes "input") state.1 >>= second state.0

abbrev IsEnd : List ℕ → List (List ℕ) → ListEnd → Type 0
IsEnd word ws e = HasEndText e × (joined (codes "list" ∷ word ∷ ws) ≡ codes "list " ++ end_word e)

finished_is : (word : List ℕ) (ws : List (List ℕ)) (e : ListEnd) → finished_end word ws ≡ Some e → IsEnd word ws e
finished_is word ws e h =
    branch (bytes_eq word (codes "finished")) _ None e h
    (λ t h.
    let a = bound (next_in ws) (λ found. id_in found.0 >>= λ id. at_end found.1 (Finished id)) e h in
    let b = bound (id_in a.value.0) (λ id. at_end a.value.1 (Finished id)) e a.gives in
    let z = end_is_here a.value.1 (Finished b.value) e b.gives in
    let id = id_is a.value.0 b.value b.is in
    subst (IsEnd word ws) z.1
    ((
      id.0,
      ap (λ w. joined (codes "list" ∷ w ∷ ws)) (same_text word (codes "finished") t)
          ∙ (ap (λ ws. joined (codes "list" ∷ codes "finished" ∷ ws)) (next_is ws a.value a.is)
          ∙ (ap (λ ws. joined (codes "list" ∷ codes "finished" ∷ a.value.0 ∷ ws)) z.0
          ∙ ap (λ w. joined (codes "list" ∷ codes "finished" ∷ w ∷ [])) (sym id.1))),
    )))
    (λ t h. never e h)

end_of_is : (word : List ℕ) (ws : List (List ℕ)) (e : ListEnd) → end_of word ws ≡ Some e → IsEnd word ws e
end_of_is word ws e h =
    branch (bytes_eq word (codes "candidates")) (at_end ws ByCandidates) _ e h
    (λ t h.
    let z = end_is_here ws ByCandidates e h in
    subst (IsEnd word ws) z.1
    ((tt, ap (λ w. joined (codes "list" ∷ w ∷ ws)) (same_text word (codes "candidates") t) ∙ ap (λ ws. joined (codes "list" ∷ codes "candidates" ∷ ws)) z.0)))
    (λ t h.
    branch (bytes_eq word (codes "conflicts")) (at_end ws ByConflicts) (finished_end word ws) e h
    (λ t h.
    let z = end_is_here ws ByConflicts e h in
    subst (IsEnd word ws) z.1
    ((tt, ap (λ w. joined (codes "list" ∷ w ∷ ws)) (same_text word (codes "conflicts") t) ∙ ap (λ ws. joined (codes "list" ∷ codes "conflicts" ∷ ws)) z.0)))
    (λ t h. finished_is word ws e h))

pub end_is : (text : List ℕ) (e : ListEnd) → end_in text ≡ Some e → HasEndText e × (text ≡ codes "list " ++ end_word e)
end_is text e h =
    let a = bound (behind (codes "list") (words_of text)) (λ found. end_of found.0 found.1) e h in
    let b = end_of_is a.value.0 a.value.1 e a.gives in
    (b.0, from_words text (codes "list" ∷ a.value.0 ∷ a.value.1) (behind_is (codes "list") (words_of text) a.value a.is) ∙ b.1)

record IsRunCycle (ws : List (List ℕ)) (found : (ℕ × ℕ) × List (List ℕ)) : Type 0 where
  words : ws ≡ codes "hit" ∷ decimal found.0.0 ∷ decimal found.0.1 ∷ found.1
  some : 1 ≤ found.0.0
  max : found.0.0 ≤ MAX_RUNS
  cycle : found.0.1 ≤ MAX_CYCLES

run_cycle_is : (ws : List (List ℕ)) (found : (ℕ × ℕ) × List (List ℕ)) → run_cycle_in ws ≡ Some found → IsRunCycle ws found
run_cycle_is ws found e =
    let r = bound (number_behind (codes "hit") 1 MAX_RUNS ws)
    (λ run. next_in run.1 >>= λ found. number_within 0 MAX_CYCLES found.0 >>= λ cycle. Some ((run.0, cycle), found.1)) found e in
    let w = bound (next_in r.value.1) (λ found. number_within 0 MAX_CYCLES found.0 >>= λ cycle. Some ((r.value.0, cycle), found.1)) found r.gives in
    let c = bound (number_within 0 MAX_CYCLES w.value.0) (λ cycle. Some ((r.value.0, cycle), w.value.1)) found w.gives in
    let gives : Some ((r.value.0, c.value), w.value.1) ≡ Some found = c.gives in
    let same : ((r.value.0, c.value), w.value.1) ≡ found = cc in
    let pr = number_behind_is (codes "hit") 1 MAX_RUNS ws r.value r.is in
    let pc = within_is 0 MAX_CYCLES w.value.0 c.value c.is in
    subst (IsRunCycle ws) same
    (record {
      words =
          pr.words
          ∙ (ap (λ ws. codes "hit" ∷ decimal r.value.0 ∷ ws) (next_is r.value.1 w.value w.is)
          ∙ ap (λ t. codes "hit" ∷ decimal r.value.0 ∷ t ∷ w.value.1) pc.text);
      some = pr.from;
      max = pr.to;
      cycle = pc.to;
    })

abbrev IsHit : List ℕ → Option HitLine → Type 0
IsHit text hit = HasHitText hit × (line text ≡ hit_text hit)

moment_is : (text : List ℕ) (hit : HitLine) → moment_in (words_of text) ≡ Some hit → IsHit text (Some hit)
moment_is text hit e =
    let m = bound (run_cycle_in (words_of text))
    (λ moment. next_in moment.1 >>= λ found. bits_of found.0 >>= λ bits. at_end found.1 (record { run = moment.0.0; cycle = moment.0.1; state = bits }))
    hit e in
    let w = bound (next_in m.value.1)
    (λ found. bits_of found.0 >>= λ bits. at_end found.1 (record { run = m.value.0.0; cycle = m.value.0.1; state = bits })) hit m.gives in
    let s = bound (bits_of w.value.0) (λ bits. at_end w.value.1 (record { run = m.value.0.0; cycle = m.value.0.1; state = bits })) hit w.gives in
    let z = end_is_here w.value.1 (record { run = m.value.0.0; cycle = m.value.0.1; state = s.value }) hit s.gives in
    let p = run_cycle_is (words_of text) m.value m.is in
    subst (λ (hit : HitLine). IsHit text (Some hit)) z.1 (
      (p.some, p.max, p.cycle),
      ap line
          (from_words text (codes "hit" ∷ decimal m.value.0.0 ∷ decimal m.value.0.1 ∷ bits_text s.value ∷ [])
          (p.words
          ∙ (ap (λ ws. codes "hit" ∷ decimal m.value.0.0 ∷ decimal m.value.0.1 ∷ ws) (next_is m.value.1 w.value w.is)
          ∙ (ap (λ ws. codes "hit" ∷ decimal m.value.0.0 ∷ decimal m.value.0.1 ∷ w.value.0 ∷ ws) z.0
          ∙ ap (λ t. codes "hit" ∷ decimal m.value.0.0 ∷ decimal m.value.0.1 ∷ t ∷ []) (sym (text_again w.value.0 s.value s.is)))))),
    )

pub hit_is : (text : List ℕ) (hit : Option HitLine) → hit_in text ≡ Some hit → HasHitText hit × (line text ≡ hit_text hit)
hit_is text hit e =
    branch (bytes_eq text (codes "nohit")) (Some None) (option_map (λ (hit : HitLine). Some hit) (moment_in (words_of text))) hit e
    (λ t e. let same : None ≡ hit = cc in subst (IsHit text) same ((tt, ap line (same_text text (codes "nohit") t))))
    (λ t e.
    let m = unmap (λ (hit : HitLine). Some hit) (moment_in (words_of text)) hit e in
    let gives : Some (Some m.value) ≡ Some hit = m.gives in
    let same : Some m.value ≡ hit = cc in
    subst (IsHit text) same (moment_is text m.value m.is))

stop_of_is : (word : List ℕ) (stop : Stop) → stop_of word ≡ Some stop → word ≡ stop_word stop
stop_of_is word stop e =
    branch (bytes_eq word (codes "reset")) (Some Reset) _ stop e (λ t e. is Reset (codes "reset") refl t e) (λ t e.
    branch (bytes_eq word (codes "length")) (Some Length) _ stop e (λ t e. is Length (codes "length") refl t e) (λ t e.
    branch (bytes_eq word (codes "nohit")) (Some Nohit) _ stop e (λ t e. is Nohit (codes "nohit") refl t e) (λ t e.
    branch (bytes_eq word (codes "empty")) (Some Empty) _ stop e (λ t e. is Empty (codes "empty") refl t e) (λ t e.
    branch (bytes_eq word (codes "candidates")) (Some Candidates) _ stop e (λ t e. is Candidates (codes "candidates") refl t e) (λ t e.
    branch (bytes_eq word (codes "conflicts")) (Some Conflicts) None stop e (λ t e. is Conflicts (codes "conflicts") refl t e) (λ t e. never stop e))))))
  where
    is : (s : Stop) (text : List ℕ) → text ≡ stop_word s → bytes_eq word text ≡ true → Some s ≡ Some stop → word ≡ stop_word stop
    is s text w t e = let same : s ≡ stop = cc in same_text word text t ∙ (w ∙ ap stop_word same)

pub stop_is : (text : List ℕ) (stop : Stop) → stop_in text ≡ Some stop → text ≡ codes "stop " ++ stop_word stop
stop_is text stop e =
    let a = bound (behind (codes "stop") (words_of text)) (λ found. stop_of found.0 >>= λ stop. at_end found.1 stop) stop e in
    let b = bound (stop_of a.value.0) (λ stop. at_end a.value.1 stop) stop a.gives in
    let z = end_is_here a.value.1 b.value stop b.gives in
    from_words text (codes "stop" ∷ stop_word stop ∷ [])
    (behind_is (codes "stop") (words_of text) a.value a.is
    ∙ (ap (λ w. codes "stop" ∷ w ∷ a.value.1) (stop_of_is a.value.0 b.value b.is)
    ∙ (ap (λ ws. codes "stop" ∷ stop_word b.value ∷ ws) z.0 ∙ ap (λ (s : Stop). codes "stop" ∷ stop_word s ∷ []) z.1)))

pub log_line_is : (text : List ℕ) (l : Line) → line_in text ≡ Some l → HasText l × (line_text l ≡ text)
log_line_is text l e = subst (IsLineOf text) e (texts_are_lines text)
