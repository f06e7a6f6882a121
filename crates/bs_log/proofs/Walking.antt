-- A walk over the lines of a log, line by line.
use Rattle.std.proofs.Common.{◌≡◌, ◌≢◌, ℕ, ◌+◌, ◌-◌, ◌<◌, ◌≤◌, arith, Bool, true, false, cond, eqb, List, [], ◌∷◌, ◌++◌, length, take, get_or, reverse}
use Rattle.std.proofs.Common.{refl, sym, ap, subst, ◌∙◌, Option, Some, None, inl, inr}
use Rattle.std.specs.Prelude.{slice_get, unwrap_or}
use Rattle.std.specs.List.{flat_map}
use Rattle.std.proofs.lemmas.Bool.{eqb-true, eq-eqb, cases_lt}
use Rattle.std.proofs.lemmas.List.{append_assoc, reverse-append, take_more, length-append}
use Rattle.std.proofs.lemmas.Option.{slice_get-get_or, slice_get_within}
use Rattle.std.proofs.lemmas.Grind.{flat_map-append}
use Rattle.bs_clause.specs.Literal.{Clause}
use Rattle.bs_log.specs.declared.line.Line.{Line}
use Rattle.bs_log.specs.declared.line.Line.TheVariants.{Solve, Lemma, Block, Finish, Retire, Delete}
use Rattle.bs_log.specs.History.{History, step_of}
use Rattle.bs_log.specs.Refusal.{history_of}
use Rattle.bs_log.specs.Refutation.{blocks_of}
use Rattle.bs_log.specs.Clauses.{clause_text, block_at}
use Rattle.bs_log.specs.ShownLaw.{IsFinishAt, HasNoFinish}
use Rattle.bs_log.specs.Proof.{lemma_in}
use Rattle.bs_log.specs.Walk.{step_behind, finish_in, lemma_named, named_finish}

pub history_more : (lines : List Line) (i : ℕ) (line : Line) → i < length lines → line ≡ get_or lines i line →
    history_of (take (i + 1) lines) ≡ line ∷ history_of (take i lines)
history_more lines i line less is =
    ap reverse (take_more lines i line less) ∙ (reverse-append (take i lines) (get_or lines i line ∷ []) ∙ ap (λ (x : Line). x ∷ history_of (take i lines)) (sym is))

pub step_next : (line : Line) (h : History) → step_of (line ∷ h) ≡ step_behind line (step_of h)
step_next Solve h = refl
step_next (Lemma id lits hints) h = refl
step_next (Block id lits) h = refl
step_next (Finish id) h = refl
step_next (Retire id) h = refl
step_next (Delete ids) h = refl

pub blocks_next : (line : Line) (h : History) (step : ℕ) → blocks_of (line ∷ h) step ≡ block_at line (step_of h) step ++ blocks_of h step
blocks_next Solve h step = refl
blocks_next (Lemma id lits hints) h step = refl
blocks_next (Block id lits) h step = by (eqb (step_of h) step)
  where
    by : (b : Bool) → cond b (lits ∷ blocks_of h step) (blocks_of h step) ≡ cond b (lits ∷ []) [] ++ blocks_of h step
    by true = refl
    by false = refl
blocks_next (Finish id) h step = refl
blocks_next (Retire id) h step = refl
blocks_next (Delete ids) h step = refl

pub behind_most : (line : Line) (now : ℕ) → step_behind line now ≤ now + 1
behind_most Solve now = omega arith
behind_most (Lemma id lits hints) now = omega arith
behind_most (Block id lits) now = omega arith
behind_most (Finish id) now = omega arith
behind_most (Retire id) now = omega arith
behind_most (Delete ids) now = omega arith

pub step_grows : (line : Line) (h : History) → step_of h ≤ step_of (line ∷ h)
step_grows Solve h = omega arith
step_grows (Lemma id lits hints) h = omega arith
step_grows (Block id lits) h = omega arith
step_grows (Finish id) h = omega arith
step_grows (Retire id) h = omega arith
step_grows (Delete ids) h = omega arith

one_behind : (line : Line) (ended : ℕ) → step_behind line ended + 1 ≡ step_behind line (ended + 1)
one_behind Solve ended = refl
one_behind (Lemma id lits hints) ended = refl
one_behind (Block id lits) ended = refl
one_behind (Finish id) ended = refl
one_behind (Retire id) ended = refl
one_behind (Delete ids) ended = refl

-- the steps that are over behind one line more
pub ended_more : (lines : List Line) (i : ℕ) (line : Line) (ended new : ℕ) → i < length lines → line ≡ get_or lines i line →
    ended + 1 ≡ step_of (history_of (take i lines)) → new ≡ step_behind line ended → new + 1 ≡ step_of (history_of (take (i + 1) lines))
ended_more lines i line ended new less is so_far next =
    ap (λ n. n + 1) next
    ∙ (one_behind line ended
    ∙ (ap (step_behind line) so_far ∙ (sym (step_next line (history_of (take i lines))) ∙ ap step_of (sym (history_more lines i line less is)))))

pub no_blocks_yet : (lines : List Line) (step : ℕ) → blocks_of (history_of (take 0 lines)) step ≡ []
no_blocks_yet lines step = refl

pub blocks_more : (lines : List Line) (i : ℕ) (line : Line) (now step : ℕ) → i < length lines → line ≡ get_or lines i line →
    now ≡ step_of (history_of (take i lines)) →
    blocks_of (history_of (take (i + 1) lines)) step ≡ block_at line now step ++ blocks_of (history_of (take i lines)) step
blocks_more lines i line now step less is so_far =
    ap (λ (h : History). blocks_of h step) (history_more lines i line less is)
    ∙ (blocks_next line (history_of (take i lines)) step
    ∙ ap (λ n. block_at line n step ++ blocks_of (history_of (take i lines)) step) (sym so_far))

pub count_more : (lines : List Line) (i : ℕ) (line : Line) (now step count one new : ℕ) → i < length lines → line ≡ get_or lines i line →
    now ≡ step_of (history_of (take i lines)) → count ≡ length (blocks_of (history_of (take i lines)) step) → one ≡ length (block_at line now step) →
    new ≡ count + one → new ≡ length (blocks_of (history_of (take (i + 1) lines)) step)
count_more lines i line now step count one new less is so_far counted here next =
    let all : length (blocks_of (history_of (take (i + 1) lines)) step) ≡ length (block_at line now step ++ blocks_of (history_of (take i lines)) step) =
    ap length (blocks_more lines i line now step less is so_far) in
    let long = length-append (block_at line now step) (blocks_of (history_of (take i lines)) step) in
    omega (arith, counted, here, next, all, long)

reverse_short : (line : Line) (now step : ℕ) → reverse (block_at line now step) ≡ block_at line now step
reverse_short Solve now step = refl
reverse_short (Lemma id lits hints) now step = refl
reverse_short (Block id lits) now step = by (eqb now step)
  where
    by : (b : Bool) → reverse (cond b (lits ∷ []) []) ≡ cond b (lits ∷ []) []
    by true = refl
    by false = refl
reverse_short (Finish id) now step = refl
reverse_short (Retire id) now step = refl
reverse_short (Delete ids) now step = refl

-- the texts of the blocks so far, and of one line more
pub block_texts_more : (lines : List Line) (i : ℕ) (line : Line) (now step : ℕ) (start before after : List ℕ) → i < length lines → line ≡ get_or lines i line →
    now ≡ step_of (history_of (take i lines)) → before ≡ start ++ flat_map clause_text (reverse (blocks_of (history_of (take i lines)) step)) →
    after ≡ before ++ flat_map clause_text (block_at line now step) →
    after ≡ start ++ flat_map clause_text (reverse (blocks_of (history_of (take (i + 1) lines)) step))
block_texts_more lines i line now step start before after less is so_far texts new =
    let old : List Clause = blocks_of (history_of (take i lines)) step in
    new
    ∙ (ap (λ t. t ++ flat_map clause_text (block_at line now step)) texts
    ∙ (append_assoc start (flat_map clause_text (reverse old)) (flat_map clause_text (block_at line now step))
    ∙ ap (λ t. start ++ t)
    (sym (flat_map-append clause_text (reverse old) (block_at line now step))
    ∙ ap (flat_map clause_text)
    (ap (λ (cs : List Clause). reverse old ++ cs) (sym (reverse_short line now step))
    ∙ (sym (reverse-append (block_at line now step) old) ∙ ap reverse (sym (blocks_more lines i line now step less is so_far)))))))

-- ---- the place of the end

pub at_place : (lines : List Line) (i : ℕ) (line : Line) → i < length lines → line ≡ get_or lines i line → slice_get lines i ≡ Some line
at_place lines i line less is = slice_get-get_or lines i line less ∙ ap (λ (x : Line). Some x) (sym is)

named : (line : Line) (id : ℕ) → named_finish line ≡ Some id → line ≡ Finish id
named Solve id e = absurd (cc)
named (Lemma i lits hints) id e = absurd (cc)
named (Block i lits) id e = absurd (cc)
named (Finish i) id e = let same : i ≡ id = cc in ap (λ (x : ℕ). Finish x) same
named (Retire i) id e = absurd (cc)
named (Delete ids) id e = absurd (cc)

-- what is found at a place
found_in : (line : Line) (now step id : ℕ) → finish_in line now step ≡ Some id → (now ≡ step) × (line ≡ Finish id)
found_in line now step id found = by (eqb now step) refl found
  where
    by : (b : Bool) → eqb now step ≡ b → cond b (named_finish line) None ≡ Some id → (now ≡ step) × (line ≡ Finish id)
    by true same e = (eqb-true now step same, named line id e)
    by false apart e = absurd (cc)

pub finish_here : (lines : List Line) (i id now step : ℕ) (line : Line) → i < length lines → line ≡ get_or lines i line → finish_in line now step ≡ Some id →
    now ≡ step_of (history_of (take i lines)) → IsFinishAt lines step i id
finish_here lines i id now step line less is found so_far =
    let both = found_in line now step id found in
    record { line = at_place lines i line less is ∙ ap (λ (x : Line). Some x) both.1; step_is = sym so_far ∙ both.0 }

not_here : (line : Line) (now step id : ℕ) → finish_in line now step ≡ None → line ≡ Finish id → now ≢ step
not_here line now step id none is same =
    let found : Some id ≡ None =
    ap (λ b. cond b (Some id) None) (sym (eq-eqb now step same)) ∙ (ap (λ (x : Line). finish_in x now step) (sym is) ∙ none) in
    cc

-- no line before this place finishes the step
pub record NoneBefore (lines : List Line) (step i : ℕ) : Type 0 where
  pub none : (k id : ℕ) → k < i → slice_get lines k ≡ Some (Finish id) → step_of (history_of (take k lines)) ≢ step

pub none_at_first : (lines : List Line) (step : ℕ) → NoneBefore lines step 0
none_at_first lines step = record { none = λ k id less e. absurd (omega (arith, less)) }

pub none_more : (lines : List Line) (step i now : ℕ) (line : Line) → i < length lines → line ≡ get_or lines i line → NoneBefore lines step i →
    now ≡ step_of (history_of (take i lines)) → finish_in line now step ≡ None → NoneBefore lines step (i + 1)
none_more lines step i now line less is before so_far none =
    record {
      none = λ k id low e.
          elim (cases_lt k i) [
            | inl lower ↦ before.none k id lower e
            | inr top ↦
                let same : i ≡ k = omega (arith, low, top) in
                let there : slice_get lines i ≡ Some (Finish id) = ap (slice_get lines) same ∙ e in
                let both : Some line ≡ Some (Finish id) = sym (at_place lines i line less is) ∙ there in
                let line_is : line ≡ Finish id = cc in
                subst (λ (k : ℕ). step_of (history_of (take k lines)) ≢ step) same (λ at. not_here line now step id none line_is (so_far ∙ at))
          ];
    }

pub none_left : (lines : List Line) (step i : ℕ) → length lines ≤ i → NoneBefore lines step i → HasNoFinish lines step
none_left lines step i all before =
    record { none = λ place id e. before.none place id (let less = slice_get_within lines place (Finish id) e in omega (arith, less, all)) e }

-- ---- the lemma of an id

lemma_next : (line : Line) (h : History) (id : ℕ) → lemma_in (line ∷ h) id ≡ unwrap_or (lemma_named line id) (lemma_in h id)
lemma_next Solve h id = refl
lemma_next (Lemma own lits hints) h id = by (eqb own id)
  where
    by : (b : Bool) → cond b lits (lemma_in h id) ≡ unwrap_or (cond b (Some lits) None) (lemma_in h id)
    by true = refl
    by false = refl
lemma_next (Block own lits) h id = refl
lemma_next (Finish own) h id = refl
lemma_next (Retire own) h id = refl
lemma_next (Delete ids) h id = refl

lemma_at : (lines : List Line) (i id : ℕ) (line : Line) → 0 < i → i ≤ length lines → line ≡ get_or lines (i - 1) line →
    lemma_in (history_of (take i lines)) id ≡ unwrap_or (lemma_named line id) (lemma_in (history_of (take (i - 1) lines)) id)
lemma_at lines i id line low high is =
    let at : i ≡ i - 1 + 1 = omega (arith, low) in
    ap (λ n. lemma_in (history_of (take n lines)) id) at
    ∙ (ap (λ (h : History). lemma_in h id) (history_more lines (i - 1) line (omega (arith, low, high)) is) ∙ lemma_next line (history_of (take (i - 1) lines)) id)

pub lemma_back : (lines : List Line) (i id : ℕ) (line : Line) → 0 < i → i ≤ length lines → line ≡ get_or lines (i - 1) line → lemma_named line id ≡ None →
    lemma_in (history_of lines) id ≡ lemma_in (history_of (take i lines)) id →
    lemma_in (history_of lines) id ≡ lemma_in (history_of (take (i - 1) lines)) id
lemma_back lines i id line low high is none so_far =
    so_far ∙ (lemma_at lines i id line low high is ∙ ap (λ (o : Option Clause). unwrap_or o (lemma_in (history_of (take (i - 1) lines)) id)) none)

pub lemma_there : (lines : List Line) (i id : ℕ) (line : Line) (lits : Clause) → 0 < i → i ≤ length lines → line ≡ get_or lines (i - 1) line →
    lemma_named line id ≡ Some lits → lemma_in (history_of lines) id ≡ lemma_in (history_of (take i lines)) id → lits ≡ lemma_in (history_of lines) id
lemma_there lines i id line lits low high is there so_far =
    sym (so_far ∙ (lemma_at lines i id line low high is ∙ ap (λ (o : Option Clause). unwrap_or o (lemma_in (history_of (take (i - 1) lines)) id)) there))

pub lemma_nowhere : (lines : List Line) (i id : ℕ) → i ≤ 0 → lemma_in (history_of lines) id ≡ lemma_in (history_of (take i lines)) id →
    [] ≡ lemma_in (history_of lines) id
lemma_nowhere lines i id low so_far = sym (so_far ∙ (let zero_is : i ≡ 0 = omega (arith, low) in ap (λ n. lemma_in (history_of (take n lines)) id) zero_is))
