use Rattle.std.proofs.Common.{◌≡◌, ℕ, List, ◌+◌, ◌++◌, ◌∷◌, [], map, length, refl, sym, ap, subst, ◌∙◌, true, arith}
use Rattle.std.proofs.lemmas.List.{length-map}
use Rattle.std.proofs.lemmas.List.Elements.{All-map}
use Rattle.bs_clause.specs.Literal.{code_of, IsCode}
use Rattle.bs_clause.specs.Codes.{literals_back}
use Rattle.bs_arena.specs.Words.{Stored, spelling}
use Rattle.bs_arena.specs.Arena.{IsArena, clauses_of, places_of, Held, held, IsStored}
use Rattle.bs_arena.proofs.Spellings.{clauses_of-push}
use Rattle.bs_arena.proofs.Contents.{arena_push, live_fits, number_fits}
use Rattle.bs_arena.proofs.Places.{places_push}
use Rattle.bs_arena.proofs.Lookups.{added_is_found, added_is_fresh, keeps_more}
use Rattle.bs_arena.proofs.arena.Arena.add.Goals as goal

pub invariant_of-self-2 : goal.invariant_of-self-2
invariant_of-self-2 c =
    let new : Stored = record { id = c.args.id; live = true; codes = map code_of c.args.lits.now } in
    let long : length new.codes ≡ length c.args.lits.now = length-map c.args.lits.now code_of in
    let stored : IsStored new =
    record {
      id = omega (arith, c.ranges.id);
      codes = All-map IsCode code_of c.args.lits.now c.push_clause.ensures.codes;
      short = omega
          (arith, long, c.in_ok-reserve_words.ensures.few);
    } in
    let words : c.push_clause.new.words.items ≡ c.self.inside.words.items ++ spelling new =
    c.push_clause.ensures.words ∙ ap (λ w. w ++ spelling new) c.in_ok-reserve_words.ensures.items in
    subst (λ ws. IsArena ws (c.self.inside.live + (length c.args.lits.now + 4)) (c.self.inside.count + 1)) (sym words)
    (subst (λ n. IsArena (c.self.inside.words.items ++ spelling new) (c.self.inside.live + (n + 4)) (c.self.inside.count + 1)) long
    (arena_push c.self.inside.words.items c.self.inside.live c.self.inside.count new c.self.invariant
    (omega (arith, long, c.in_ok-reserve_words.ensures.few)) stored refl))

pub returns-clause-clauses : goal.returns-clause-clauses
returns-clause-clauses c =
    let new : Stored = record { id = c.args.id; live = true; codes = map code_of c.args.lits.now } in
    let words : c.push_clause.new.words.items ≡ c.self.inside.words.items ++ spelling new =
    c.push_clause.ensures.words ∙ ap (λ w. w ++ spelling new) c.in_ok-reserve_words.ensures.items in
    let place : length c.self.inside.words.items ≡ c.new.result = omega (arith, c.new.ensures, c.len-at.ensures, c.in_ok-reserve_words.ensures.len) in
    let old : clauses_of c.self.inside.words.items ≡ c.args.self.now.clauses = ap (λ s. s.clauses) c.self.view_is in
    let entry : Held = held (record { place = length c.self.inside.words.items; clause = new }) in
    let is : entry ≡ record { ref = c.new.result; id = c.args.id; literals = c.args.lits.now } =
    λ i. record { ref = place i; id = c.args.id; literals = literals_back c.args.lits.now i } in
    ap clauses_of words ∙ clauses_of-push c.self.invariant.form.stored new c.self.inside.words.items c.self.invariant.form.spelled refl ∙
    ap (λ cs. cs ++ entry ∷ []) old ∙ ap (λ e. c.args.self.now.clauses ++ e ∷ []) is

pub overflow_add-self-2 : goal.overflow_add-self-2
overflow_add-self-2 c =
    omega (
      arith,
      c.self.invariant.live_is,
      live_fits c.self.inside.words.items c.self.invariant.form,
      c.push_clause.ensures.len,
      c.in_ok-reserve_words.ensures.len,
      c.push_clause.new.words.small,
    )

pub overflow_add-self-3 : goal.overflow_add-self-3
overflow_add-self-3 c =
    omega (
      arith,
      c.self.invariant.count_is,
      number_fits c.self.inside.words.items c.self.invariant.form,
      c.push_clause.ensures.len,
      c.in_ok-reserve_words.ensures.len,
      c.push_clause.new.words.small,
    )

pub returns-clause-found : goal.returns-clause-found
returns-clause-found c =
    let words : List ℕ = c.self.inside.words.items in
    let place : c.new.result ≡ length words = omega (arith, c.new.ensures, c.len-at.ensures, c.in_ok-reserve_words.ensures.len) in
    added_is_found words c.self.invariant.form c.args.self.now.clauses (clauses_of c.push_clause.new.words.items)
    (record { ref = c.new.result; id = c.args.id; literals = c.args.lits.now })
    (ap (λ v. v.clauses) c.self.view_is) (returns-clause-clauses c) place

pub returns-clause-fresh : goal.returns-clause-fresh
returns-clause-fresh c =
    let words : List ℕ = c.self.inside.words.items in
    let place : c.new.result ≡ length words = omega (arith, c.new.ensures, c.len-at.ensures, c.in_ok-reserve_words.ensures.len) in
    added_is_fresh words c.self.invariant.form c.args.self.now.clauses c.new.result (ap (λ v. v.clauses) c.self.view_is) place

pub returns-clause-keeps : goal.returns-clause-keeps
returns-clause-keeps c =
    keeps_more c.args.self.now.clauses (clauses_of c.push_clause.new.words.items)
    (record { ref = c.new.result; id = c.args.id; literals = c.args.lits.now } ∷ []) (returns-clause-clauses c)

pub returns-clause-places : goal.returns-clause-places
returns-clause-places c =
    let new : Stored = record { id = c.args.id; live = true; codes = map code_of c.args.lits.now } in
    let words : c.push_clause.new.words.items ≡ c.self.inside.words.items ++ spelling new =
    c.push_clause.ensures.words ∙ ap (λ w. w ++ spelling new) c.in_ok-reserve_words.ensures.items in
    let place : length c.self.inside.words.items ≡ c.new.result = omega (arith, c.new.ensures, c.len-at.ensures, c.in_ok-reserve_words.ensures.len) in
    ap places_of words ∙ places_push c.self.invariant.form.stored new c.self.inside.words.items c.self.invariant.form.spelled ∙
    ap (λ ps. ps ++ length c.self.inside.words.items ∷ []) (ap (λ v. v.places) c.self.view_is) ∙ ap (λ n. c.args.self.now.places ++ n ∷ []) place
