-- The ids of a proof are small enough.
use Rattle.std.proofs.Common.{◌≡◌, ℕ, ◌+◌, ◌*◌, ◌^◌, ◌<◌, ◌≤◌, arith, Bool, true, false, not, cond, eqb, leb, List, [], ◌∷◌, ◌++◌, length, take, drop, reverse}
use Rattle.std.proofs.Common.{suc, refl, sym, ap, subst, ◌∙◌, Option, Some, None}
use Rattle.std.specs.Prelude.{is_some}
use Rattle.std.specs.List.{AllByRecursion, list_all}
use Rattle.std.proofs.lemmas.Bool.{and_parts, false≢true, leb-true, leb-false}
use Rattle.std.proofs.lemmas.List.{reverse-append, length-append, length-reverse, length-take, take-append-drop}
use Rattle.std.proofs.lemmas.List.Elements.{All-from_recursion}
use Rattle.bs_clause.specs.Literal.{IsVariable}
use Rattle.bs_log.specs.declared.line.Line.{Line}
use Rattle.bs_log.specs.declared.line.Line.TheVariants.{Solve, Lemma, Block, Finish, Retire, Delete}
use Rattle.bs_log.specs.History.{Problem, History, Entry, step_of, added, live, is_deleted, last_id, state_of, phase_of}
use Rattle.bs_log.specs.Refusal.{NoneRefused, entry_of, passes, is_lemma, history_of, in_solve, is_between_steps}
use Rattle.bs_log.specs.Refutation.{blocks_of}
use Rattle.bs_log.proofs.Elements.{AllByRecursion-filter}
use Rattle.bs_log.proofs.Tests.{right_from_none}
use Rattle.bs_log.proofs.Histories.{next_given, added_ids, deleted_given}
use Rattle.bs_log.proofs.Laws.{NoneRefused-tail, step_of-positive}
use Rattle.bs_log.specs.declared.id_offsets.Frame.{Frame}
use Rattle.bs_log.specs.declared.asked.Refuted.{Refuted}
use Rattle.bs_log.specs.declared.walk.At.{At}
use Rattle.bs_log.specs.Cnf.{behind}
use Rattle.bs_log.specs.Proof.{frame_of, shown}
use Rattle.bs_log.specs.Lines.{IdFits}
use Rattle.bs_log.specs.Walk.{problem_in, clauses_in, IsAsked, IsProvable, LineFits, HasRoom, IsAt}
use Rattle.bs_log.proofs.Found.{found_above}
use Rattle.bs_log.proofs.Standing.{new_last}
use Rattle.bs_log.proofs.Lines.{by_is}

pub blocks_few : (h : History) (step : ℕ) → length (blocks_of h step) ≤ length h
blocks_few [] step = omega arith
blocks_few (Solve ∷ h) step = let few = blocks_few h step in omega (arith, few)
blocks_few (Lemma id lits hints ∷ h) step = let few = blocks_few h step in omega (arith, few)
blocks_few (Block id lits ∷ h) step = by (eqb (step_of h) step) (blocks_few h step)
  where
    by : (b : Bool) → length (blocks_of h step) ≤ length h → length (cond b (lits ∷ blocks_of h step) (blocks_of h step)) ≤ suc (length h)
    by true few = omega (arith, few)
    by false few = omega (arith, few)
blocks_few (Finish id ∷ h) step = let few = blocks_few h step in omega (arith, few)
blocks_few (Retire id ∷ h) step = let few = blocks_few h step in omega (arith, few)
blocks_few (Delete ids ∷ h) step = let few = blocks_few h step in omega (arith, few)

pub last_few : (p : Problem) (h : History) → NoneRefused p h → last_id p h ≤ length p.clauses + length h
last_few p [] right = omega arith
last_few p (Solve ∷ h) right = let few = last_few p h right.1 in omega (arith, few)
last_few p (Finish id ∷ h) right = let few = last_few p h right.1 in omega (arith, few)
last_few p (Delete ids ∷ h) right = let few = last_few p h right.1 in omega (arith, few)
last_few p (Lemma id lits hints ∷ h) right =
    let few = last_few p h right.1 in
    let next = next_given p h (in_solve (phase_of h)) id (right_from_none p (state_of p h) (Lemma id lits hints) right.0).order in
    omega (arith, few, next)
last_few p (Block id lits ∷ h) right =
    let few = last_few p h right.1 in
    let next = next_given p h (in_solve (phase_of h)) id (right_from_none p (state_of p h) (Block id lits) right.0).order in
    omega (arith, few, next)
last_few p (Retire id ∷ h) right =
    let few = last_few p h right.1 in
    let next = next_given p h (not (is_between_steps (phase_of h))) id (right_from_none p (state_of p h) (Retire id) right.0).order in
    omega (arith, few, next)

live_ids : (p : Problem) (h : History) → NoneRefused p h → AllByRecursion (λ e. e.id ≤ last_id p h) (live p h)
live_ids p h right = AllByRecursion-filter (λ e. e.id ≤ last_id p h) (λ e. not (is_deleted h e.id)) (added p h) (added_ids p h right)

low_id : (p : Problem) (h : History) (id : ℕ) → NoneRefused p h → is_some (entry_of (live p h) id) ≡ true → id ≤ last_id p h
low_id p h id right there = by (leb id (last_id p h)) refl
  where
    by : (b : Bool) → leb id (last_id p h) ≡ b → id ≤ last_id p h
    by true is = leb-true id (last_id p h) is
    by false is =
        absurd (false≢true (sym (ap is_some (found_above (last_id p h) (live p h) id (live_ids p h right) (leb-false id (last_id p h) is))) ∙ there))

low_hints : (p : Problem) (h : History) (ids : List ℕ) → NoneRefused p h → list_all (λ i. is_some (entry_of (live p h) i)) ids ≡ true →
    AllByRecursion (λ id. id ≤ last_id p h) ids
low_hints p h [] right all = tt
low_hints p h (id ∷ ids) right all =
    let parts = and_parts (is_some (entry_of (live p h) id)) (list_all (λ i. is_some (entry_of (live p h) i)) ids) all in
    (low_id p h id right parts.0, low_hints p h ids right parts.1)

some_of : (o : Option Entry) (test : Entry → Bool) → passes test o ≡ true → is_some o ≡ true
some_of None test lost = absurd (false≢true lost)
some_of (Some e) test given = refl

pub low_finish : (p : Problem) (h : History) (id : ℕ) → NoneRefused p (Finish id ∷ h) → id ≤ last_id p h
low_finish p h id right =
    low_id p h id right.1 (some_of (entry_of (live p h) id) is_lemma (right_from_none p (state_of p h) (Finish id) right.0).names)

-- a number that is low enough
module _ (f : Frame) (limit : ℕ) (room : limit + f.by < 2 ^ 64) where
  all_fit : (ids : List ℕ) (last : ℕ) → last ≤ limit → AllByRecursion (λ id. id ≤ last) ids → AllByRecursion (IdFits f) ids
  all_fit [] last small all = tt
  all_fit (id ∷ ids) last small all = ((let low = all.0 in omega (arith, low, small, room)), all_fit ids last small all.1)

  pub line_fits : (p : Problem) (h : History) (line : Line) → NoneRefused p (line ∷ h) → length p.clauses + length (line ∷ h) ≤ limit → LineFits f line
  line_fits p h Solve right small = tt
  line_fits p h (Finish id) right small = tt
  line_fits p h (Lemma id lits hints) right small =
      let few = last_few p (Lemma id lits hints ∷ h) right in
      let before = last_few p h right.1 in (
        omega (arith, few, small, room),
        All-from_recursion (IdFits f) hints
            (all_fit hints (last_id p h) (omega (arith, before, small))
            (low_hints p h hints right.1 (right_from_none p (state_of p h) (Lemma id lits hints) right.0).names)),
      )
  line_fits p h (Block id lits) right small = let few = last_few p (Block id lits ∷ h) right in omega (arith, few, small, room)
  line_fits p h (Retire id) right small = let few = last_few p (Retire id ∷ h) right in omega (arith, few, small, room)
  line_fits p h (Delete ids) right small =
      let before = last_few p h right.1 in
      All-from_recursion (IdFits f) ids (all_fit ids (last_id p h) (omega (arith, before, small)) (deleted_given p h ids right))

-- ---- a front of the lines

step_of-tail : (more : List Line) (h : History) → step_of h ≤ step_of (more ++ h)
step_of-tail [] h = omega arith
step_of-tail (Solve ∷ more) h = step_of-tail more h
step_of-tail (Lemma id lits hints ∷ more) h = step_of-tail more h
step_of-tail (Block id lits ∷ more) h = step_of-tail more h
step_of-tail (Finish id ∷ more) h = step_of-tail more h
step_of-tail (Retire id ∷ more) h = let low = step_of-tail more h in omega (arith, low)
step_of-tail (Delete ids ∷ more) h = step_of-tail more h

pub front_of : (lines : List Line) (i : ℕ) → history_of lines ≡ reverse (drop i lines) ++ history_of (take i lines)
front_of lines i = ap reverse (sym (take-append-drop i lines)) ∙ reverse-append (take i lines) (drop i lines)

pub behind_small : (r : Refuted) → IsAsked r → length (behind (problem_in r) (history_of r.lines.now) r.step) < 3 * 2 ^ 32
behind_small r ok =
    let is = by_is (problem_in r) (history_of r.lines.now) r.step ok.one.0 ok.one.1 in
    let few = blocks_few (history_of r.lines.now) r.step in
    let many = length-reverse r.lines.now in
    let assumed = ok.small.assumptions in
    let short = ok.small.lines in
    let vars = ok.room in
    omega (arith, is, few, many, assumed, short, vars)

module _ (r : Refuted) (ok : IsProvable r) where
  abbrev pub p : Problem
  p = problem_in r

  abbrev pub lines : List Line
  lines = r.lines.now

  abbrev pub top : History
  top = history_of lines

  abbrev pub f : Frame
  f = frame_of p top r.step

  top_many : length top ≡ length lines
  top_many = length-reverse lines

  pub front_right : (i : ℕ) → NoneRefused p (history_of (take i lines))
  front_right i =
      NoneRefused-tail p (reverse (drop i lines)) (history_of (take i lines)) (subst (NoneRefused p) (front_of lines i) ok.right.1)

  pub front_step : (i : ℕ) → step_of (history_of (take i lines)) ≤ r.step
  front_step i =
      let low = step_of-tail (reverse (drop i lines)) (history_of (take i lines)) in
      let all : step_of (history_of lines) ≡ step_of (reverse (drop i lines) ++ history_of (take i lines)) = ap step_of (front_of lines i) in
      let end = ok.under_way in
      omega (arith, low, all, end)

  pub front_many : (i : ℕ) → length (history_of (take i lines)) ≤ length lines
  front_many i =
      let back = length-reverse (take i lines) in
      let cut = length-take i lines in
      omega (arith, back, cut)

  by_small : f.by < 3 * 2 ^ 32
  by_small = behind_small r ok.asked

  pub fits_at : (i : ℕ) (line : Line) → i < length lines → history_of (take (i + 1) lines) ≡ line ∷ history_of (take i lines) → LineFits f line
  fits_at i line less more =
      let small = by_small in
      let clauses = ok.asked.small.clauses in
      let short = ok.asked.small.lines in
      let long : length (history_of (take (i + 1) lines)) ≡ length (line ∷ history_of (take i lines)) = ap length more in
      let many = front_many (i + 1) in
      line_fits f (2 * 2 ^ 32) (omega (arith, small)) p (history_of (take i lines)) line (subst (NoneRefused p) more (front_right (i + 1)))
      (omega (arith, clauses, short, long, many))

  pub room_at : (q : Problem) (i : ℕ) (at : At) → IsAt f p q (history_of (take i lines)) at → HasRoom f at
  room_at q i at is =
      let few = blocks_few (history_of (take i lines)) r.step in
      let many = front_many i in
      let all = blocks_few top r.step in
      let all_many = top_many in
      let blocks = is.blocks_are in
      let step = is.step_is in
      let low = front_step i in
      let last = ok.asked.one.1 in
      let vars = ok.asked.room in
      let clauses = ok.asked.small.clauses in
      let assumed = ok.asked.small.assumptions in
      let short = ok.asked.small.lines in
      record {
        own = omega (arith, few, many, blocks, clauses, assumed, short);
        closed = omega (arith, all, all_many, step, low, last, vars, clauses, assumed, short);
      }

  pub activation_at : (q : Problem) (i : ℕ) (at : At) → IsAt f p q (history_of (take i lines)) at → IsVariable (r.vars + at.step)
  activation_at q i at is =
      let step = is.step_is in
      let low = front_step i in
      let first = step_of-positive (history_of (take i lines)) in
      let last = ok.asked.one.1 in
      let vars = ok.asked.room in
      (omega (arith, step, first), omega (arith, step, low, last, vars))

  pub step_at : (q : Problem) (i : ℕ) (at : At) → IsAt f p q (history_of (take i lines)) at → at.step + 1 < 2 ^ 64
  step_at q i at is =
      let step = is.step_is in
      let low = front_step i in
      let last = ok.asked.one.1 in
      let vars = ok.asked.room in
      omega (arith, step, low, last, vars)

  pub blocks_at : (q : Problem) (i : ℕ) (at : At) → IsAt f p q (history_of (take i lines)) at → at.blocks + 1 < 2 ^ 64
  blocks_at q i at is =
      let few = blocks_few (history_of (take i lines)) r.step in
      let many = front_many i in
      let blocks = is.blocks_are in
      let short = ok.asked.small.lines in
      omega (arith, few, many, blocks, short)

  pub end_fits : IdFits f r.id
  end_fits =
      let low = low_finish p top r.id ok.right in
      let few = last_few p top ok.right.1 in
      let many = top_many in
      let small = by_small in
      let clauses = ok.asked.small.clauses in
      let short = ok.asked.small.lines in
      omega (arith, low, few, many, small, clauses, short)

  pub last_fits : (last : ℕ) → last ≡ last_id (clauses_in r) (shown f p top) → last + 1 < 2 ^ 64
  last_fits last is =
      let raised = new_last f p (clauses_in r) (record { extra = behind p top r.step; clauses = refl; front = refl; by = refl }) top ok.right.1 in
      let few = last_few p top ok.right.1 in
      let many = top_many in
      let small = by_small in
      let clauses = ok.asked.small.clauses in
      let short = ok.asked.small.lines in
      omega (arith, is, raised, few, many, small, clauses, short)

-- the same for a frame that is this one
module _ (r : Refuted) (ok : IsProvable r) (g : Frame) (same : g ≡ frame_of (problem_in r) (history_of r.lines.now) r.step) where
  pub fits_for : (i : ℕ) (line : Line) → i < length r.lines.now → history_of (take (i + 1) r.lines.now) ≡ line ∷ history_of (take i r.lines.now) → LineFits g line
  fits_for i line less more = subst (λ (g : Frame). LineFits g line) (sym same) (fits_at r ok i line less more)

  here : (q : Problem) (i : ℕ) (at : At) → IsAt g (problem_in r) q (history_of (take i r.lines.now)) at →
      IsAt (frame_of (problem_in r) (history_of r.lines.now) r.step) (problem_in r) q (history_of (take i r.lines.now)) at
  here q i at is = subst (λ (g : Frame). IsAt g (problem_in r) q (history_of (take i r.lines.now)) at) same is

  pub room_for : (q : Problem) (i : ℕ) (at : At) → IsAt g (problem_in r) q (history_of (take i r.lines.now)) at → HasRoom g at
  room_for q i at is = subst (λ (g : Frame). HasRoom g at) (sym same) (room_at r ok q i at (here q i at is))

  pub activation_for : (q : Problem) (i : ℕ) (at : At) → IsAt g (problem_in r) q (history_of (take i r.lines.now)) at → IsVariable (r.vars + at.step)
  activation_for q i at is = activation_at r ok q i at (here q i at is)

  pub step_for : (q : Problem) (i : ℕ) (at : At) → IsAt g (problem_in r) q (history_of (take i r.lines.now)) at → at.step + 1 < 2 ^ 64
  step_for q i at is = step_at r ok q i at (here q i at is)

  pub blocks_for : (q : Problem) (i : ℕ) (at : At) → IsAt g (problem_in r) q (history_of (take i r.lines.now)) at → at.blocks + 1 < 2 ^ 64
  blocks_for q i at is = blocks_at r ok q i at (here q i at is)

  pub begins : (at : At) → at.step ≡ 1 → at.blocks ≡ 0 → at.last ≡ g.front + g.by → IsAt g (problem_in r) (clauses_in r) [] at
  begins at step blocks last =
      let long = length-append (problem_in r).clauses (behind (problem_in r) (history_of r.lines.now) r.step) in
      let front : g.front ≡ length (problem_in r).clauses = ap (λ (g : Frame). g.front) same in
      let by : g.by ≡ length (behind (problem_in r) (history_of r.lines.now) r.step) = ap (λ (g : Frame). g.by) same in
      record { step_is = step; blocks_are = blocks; last_is = omega (arith, last, long, front, by) }

  pub end_for : IdFits g r.id
  end_for = subst (λ (g : Frame). IdFits g r.id) (sym same) (end_fits r ok)

  pub start_fits : g.front + g.by < 2 ^ 64
  start_fits =
      let front : g.front ≡ length (problem_in r).clauses = ap (λ (g : Frame). g.front) same in
      let by : g.by ≡ length (behind (problem_in r) (history_of r.lines.now) r.step) = ap (λ (g : Frame). g.by) same in
      let small = behind_small r ok.asked in
      let clauses = ok.asked.small.clauses in
      omega (arith, front, by, small, clauses)

  pub last_for : (last : ℕ) → last ≡ last_id (clauses_in r) (shown g (problem_in r) (history_of r.lines.now)) → last + 1 < 2 ^ 64
  last_for last is = last_fits r ok last (is ∙ ap (λ (g : Frame). last_id (clauses_in r) (shown g (problem_in r) (history_of r.lines.now))) same)
