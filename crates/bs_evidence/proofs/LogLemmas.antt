-- A step that a log finishes.
use Rattle.std.proofs.Common.{◌≡◌, ℕ, ◌+◌, ◌<◌, ◌≤◌, arith, true, List, [], ◌∷◌, length, take, ap, sym, subst, ◌∙◌, Some, None}
use Rattle.std.specs.Prelude.{◌&&◌, nat_lt}
use Rattle.std.specs.List.{list_all, AllByRecursion}
use Rattle.std.proofs.lemmas.List.Elements.{All-from_recursion}
use Rattle.std.proofs.lemmas.Bool.{and_parts, ltb-true}
use Rattle.std.proofs.lemmas.List.{length-take}
use Rattle.std.proofs.lemmas.Option.{slice_get_within}
use Rattle.bs_clause.specs.declared.literal.TheConstants.{VARIABLE_LIMIT}
use Rattle.bs_clause.specs.Literal.{Clause}
use Rattle.bs_log.specs.declared.line.Line.{Line}
use Rattle.bs_log.specs.declared.line.Line.TheVariants.{Finish}
use Rattle.bs_log.specs.History.{Problem, step_of}
use Rattle.bs_log.specs.Refusal.{NoneRefused, IsAccepted, history_of, assumptions_of}
use Rattle.bs_log.specs.declared.asked.Refuted.{Refuted}
use Rattle.bs_log.specs.declared.asked.TheConstants.{FEW}
use Rattle.bs_log.specs.ShownLaw.{IsFinishAt}
use Rattle.bs_log.specs.Walk.{problem_in, IsOneOf, IsProvable}
use Rattle.bs_log.proofs.ShownLaws.{right_lines}
use Rattle.bs_evidence.specs.declared.whole.WholeLog.{WholeLog}
use Rattle.bs_evidence.specs.WholeWalk.{problem_in as whole_problem, IsWritable, IsSmall}
use Rattle.bs_evidence.specs.declared.evidence.Format.{Format}
use Rattle.bs_evidence.specs.Evidence.{is_short, text_of, ShowsStep}

pub place_within : (log : List Line) (step place id : ℕ) → IsFinishAt log step place id → place ≤ length log
place_within log step place id fin = let less = slice_get_within log place (Finish id) fin.line in omega (arith, less)

pub is_provable : (r : Refuted) (p : Problem) (log : List Line) (step place id : ℕ) → problem_in r ≡ p → r.lines.now ≡ take place log → r.step ≡ step → r.id ≡ id →
    IsOneOf (length p.steps) step → p.vars + length p.steps < VARIABLE_LIMIT → IsAccepted p log → is_short p log (Some step) ≡ true → IsFinishAt log step place id →
    IsProvable r
is_provable r p log step place id problem lines steps ids one room ok short fin =
    let parts = and_parts (nat_lt (length p.clauses) FEW) (nat_lt (length (assumptions_of p step)) FEW && nat_lt (length log) FEW) short in
    let later = and_parts (nat_lt (length (assumptions_of p step)) FEW) (nat_lt (length log) FEW) parts.1 in
    let few : length log < FEW = ltb-true (length log) FEW later.1 in
    let cut = length-take place log in
    let same : length r.lines.now ≡ length (take place log) = ap length lines in
    let assumed : length (assumptions_of (problem_in r) r.step) ≡ length (assumptions_of p step) =
    ap (λ (q : Problem). length (assumptions_of q r.step)) problem ∙ ap (λ n. length (assumptions_of p n)) steps in
    let clauses : length (problem_in r).clauses ≡ length p.clauses = ap (λ (q : Problem). length q.clauses) problem in
    let many : length (problem_in r).steps ≡ length p.steps = ap (λ (q : Problem). length q.steps) problem in
    let vars : (problem_in r).vars ≡ p.vars = ap (λ (q : Problem). q.vars) problem in
    let low = one.0 in
    let high = one.1 in
    let some_clauses = ltb-true (length p.clauses) FEW parts.0 in
    let some_assumed = ltb-true (length (assumptions_of p step)) FEW later.0 in
    record {
      asked =
          record {
            one = (omega (arith, low, steps), omega (arith, high, steps, many));
            room = omega (arith, room, vars, many);
            small =
                record {
                  clauses = omega (arith, clauses, some_clauses);
                  assumptions = omega (arith, assumed, some_assumed);
                  lines = omega (arith, same, cut, few);
                };
          };
      right =
          subst (λ (q : Problem). NoneRefused q (Finish r.id ∷ history_of r.lines.now)) (sym problem)
          (subst (λ (ls : List Line). NoneRefused p (Finish r.id ∷ history_of ls)) (sym lines)
          (subst (λ n. NoneRefused p (Finish n ∷ history_of (take place log))) (sym ids) (right_lines p log place id ok fin.line)));
      under_way = ap (λ (ls : List Line). step_of (history_of ls)) lines ∙ (fin.step_is ∙ sym steps);
    }

pub shows_log : (kind : Format) (r : Refuted) (p : Problem) (log : List Line) (step place id : ℕ) (text : List ℕ) → problem_in r ≡ p →
    r.lines.now ≡ take place log → r.step ≡ step → r.id ≡ id → IsAccepted p log → IsFinishAt log step place id →
    text ≡ text_of kind (problem_in r) (history_of r.lines.now) r.step r.id → ShowsStep kind p log step text
shows_log kind r p log step place id text problem lines steps ids ok fin is =
    record {
      accepted = ok;
      place = place;
      id = id;
      finish = fin;
      is =
          is
          ∙ (ap (λ (q : Problem). text_of kind q (history_of r.lines.now) r.step r.id) problem
          ∙ (ap (λ (ls : List Line). text_of kind p (history_of ls) r.step r.id) lines
          ∙ (ap (λ n. text_of kind p (history_of (take place log)) n r.id) steps ∙ ap (text_of kind p (history_of (take place log)) step) ids)));
    }

-- ---- all finished lists

few_each : (cs : List Clause) → list_all (λ c. nat_lt (length c) FEW) cs ≡ true → AllByRecursion (λ c. length c < FEW) cs
few_each [] all = tt
few_each (c ∷ cs) all =
    let parts = and_parts (nat_lt (length c) FEW) (list_all (λ c. nat_lt (length c) FEW) cs) all in
    (ltb-true (length c) FEW parts.0, few_each cs parts.1)

is_small : (p : Problem) (log : List Line) → is_short p log None ≡ true → IsSmall p log
is_small p log short =
    let parts = and_parts (nat_lt (length p.clauses) FEW) (list_all (λ c. nat_lt (length c) FEW) p.steps && nat_lt (length log) FEW) short in
    let later = and_parts (list_all (λ c. nat_lt (length c) FEW) p.steps) (nat_lt (length log) FEW) parts.1 in
    record {
      clauses = ltb-true (length p.clauses) FEW parts.0;
      assumptions = All-from_recursion (λ c. length c < FEW) p.steps (few_each p.steps later.0);
      lines = ltb-true (length log) FEW later.1;
    }

pub is_writable : (w : WholeLog) (p : Problem) (log : List Line) → whole_problem w ≡ p → w.lines.now ≡ log → p.vars + length p.steps < VARIABLE_LIMIT →
    IsAccepted p log → is_short p log None ≡ true → IsWritable w
is_writable w p log problem lines room ok short =
    let vars : (whole_problem w).vars ≡ p.vars = ap (λ (q : Problem). q.vars) problem in
    let many : length (whole_problem w).steps ≡ length p.steps = ap (λ (q : Problem). length q.steps) problem in
    record {
      accepted = subst (λ (q : Problem). IsAccepted q w.lines.now) (sym problem) (subst (λ (ls : List Line). IsAccepted p ls) (sym lines) ok);
      room = omega (arith, room, vars, many);
      small = subst (λ (q : Problem). IsSmall q w.lines.now) (sym problem) (subst (λ (ls : List Line). IsSmall p ls) (sym lines) (is_small p log short));
    }
