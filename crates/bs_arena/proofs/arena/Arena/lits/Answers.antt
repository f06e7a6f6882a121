use Rattle.std.proofs.Common.{◌≡◌, ℕ, List, sym, ap, subst, ◌∙◌, map}
use Rattle.std.proofs.lemmas.List.{append_assoc}
use Rattle.bs_clause.specs.Literal.{code_of, AreCodes}
use Rattle.bs_clause.specs.Codes.{codes_back}
use Rattle.bs_arena.specs.Arena.{clauses_of, literals_at}
use Rattle.bs_arena.specs.Words.{spelling, spelling_of}
use Rattle.bs_arena.proofs.Splits.{Split, split_of, inside, literals_of, stored_is}
use Rattle.bs_arena.proofs.arena.Arena.lits.Goals as goal

pub codes_at-requires : goal.codes_at-requires
codes_at-requires c =
    let words : List ℕ = c.self.inside.words.items in
    let s : Split words c.args.r = split_of words c.args.self.now.clauses c.args.r c.self.invariant.form (ap (λ v. v.clauses) c.self.view_is) c.requires in
    record {
      before = spelling_of s.before;
      clause = s.clause;
      rest = spelling_of s.after;
      parts = c.as_slice.ensures.value ∙ inside words c.args.r s ∙ sym (append_assoc (spelling_of s.before) (spelling s.clause) (spelling_of s.after));
      place = c.at.ensures ∙ s.place;
    }

pub returns-clause-literals : goal.returns-clause-literals
returns-clause-literals c =
    let words : List ℕ = c.self.inside.words.items in
    let old : clauses_of words ≡ c.args.self.now.clauses = ap (λ v. v.clauses) c.self.view_is in
    let s : Split words c.args.r = split_of words c.args.self.now.clauses c.args.r c.self.invariant.form old c.requires in
    c.codes_at.ensures (spelling_of s.before) (spelling_of s.after) s.clause (c.at.ensures ∙ s.place)
    (c.as_slice.ensures.value ∙ inside words c.args.r s ∙ sym (append_assoc (spelling_of s.before) (spelling s.clause) (spelling_of s.after))) ∙
    sym (codes_back s.clause.codes) ∙ ap (map code_of) (sym (literals_of words c.args.r s)) ∙ ap (λ cs. map code_of (literals_at cs c.args.r)) old

pub returns-clause-codes : goal.returns-clause-codes
returns-clause-codes c =
    let words : List ℕ = c.self.inside.words.items in
    let s : Split words c.args.r = split_of words c.args.self.now.clauses c.args.r c.self.invariant.form (ap (λ v. v.clauses) c.self.view_is) c.requires in
    subst AreCodes (sym (c.codes_at.ensures (spelling_of s.before) (spelling_of s.after) s.clause (c.at.ensures ∙ s.place)
    (c.as_slice.ensures.value ∙ inside words c.args.r s ∙ sym (append_assoc (spelling_of s.before) (spelling s.clause) (spelling_of s.after)))))
    (stored_is words c.args.r s).codes
