use Rattle.std.proofs.Common.{◌≡◌, ℕ, ◌+◌, ◌<◌, List, length, swap, map, cond, eqb, sym, ap, subst, ◌∙◌, arith}
use Rattle.bs_arena.specs.Arena.{Held, IsArena, clauses_of, places_of, literals_at, swapped}
use Rattle.bs_arena.proofs.Splits.{Split, split_of, Header, header_of, place_of, changed, swapped_are, arena_swap}
use Rattle.bs_arena.proofs.Places.{places_swap}
use Rattle.bs_arena.proofs.Lookups.{swapped_is_found, others_of_swap}
use Rattle.bs_arena.proofs.arena.Arena.swap.Goals as goal

pub overflow_add-at : goal.overflow_add-at
overflow_add-at c =
    let words : List ℕ = c.self.inside.words.items in
    let s : Split words c.args.r = split_of words c.args.self.now.clauses c.args.r c.self.invariant.form (ap (λ v. v.clauses) c.self.view_is) c.requires.live in
    let h : Header words c.args.r s.clause = header_of words c.args.r s in
    omega (arith, h.fits, c.at.ensures, c.self.inside.words.small)

pub overflow_add-at-2 : goal.overflow_add-at-2
overflow_add-at-2 c =
    let words : List ℕ = c.self.inside.words.items in
    let old : clauses_of words ≡ c.args.self.now.clauses = ap (λ v. v.clauses) c.self.view_is in
    let s : Split words c.args.r = split_of words c.args.self.now.clauses c.args.r c.self.invariant.form old c.requires.live in
    let h : Header words c.args.r s.clause = header_of words c.args.r s in
    let i : c.args.i < length s.clause.codes =
    place_of words c.args.r c.args.i s (subst (λ cs. c.args.i < length (literals_at cs c.args.r)) (sym old) c.requires.first) in
    omega (arith, h.fits, c.at.ensures, c.self.inside.words.small, i)

pub overflow_add-at-3 : goal.overflow_add-at-3
overflow_add-at-3 c =
    let words : List ℕ = c.self.inside.words.items in
    let s : Split words c.args.r = split_of words c.args.self.now.clauses c.args.r c.self.invariant.form (ap (λ v. v.clauses) c.self.view_is) c.requires.live in
    let h : Header words c.args.r s.clause = header_of words c.args.r s in
    omega (arith, h.fits, c.at-2.ensures, c.self.inside.words.small)

pub overflow_add-at-4 : goal.overflow_add-at-4
overflow_add-at-4 c =
    let words : List ℕ = c.self.inside.words.items in
    let old : clauses_of words ≡ c.args.self.now.clauses = ap (λ v. v.clauses) c.self.view_is in
    let s : Split words c.args.r = split_of words c.args.self.now.clauses c.args.r c.self.invariant.form old c.requires.live in
    let h : Header words c.args.r s.clause = header_of words c.args.r s in
    let j : c.args.j < length s.clause.codes =
    place_of words c.args.r c.args.j s (subst (λ cs. c.args.j < length (literals_at cs c.args.r)) (sym old) c.requires.second) in
    omega (arith, h.fits, c.at-2.ensures, c.self.inside.words.small, j)

pub swap-requires-clause-i_in_bounds : goal.swap-requires-clause-i_in_bounds
swap-requires-clause-i_in_bounds c =
    let words : List ℕ = c.self.inside.words.items in
    let old : clauses_of words ≡ c.args.self.now.clauses = ap (λ v. v.clauses) c.self.view_is in
    let s : Split words c.args.r = split_of words c.args.self.now.clauses c.args.r c.self.invariant.form old c.requires.live in
    let h : Header words c.args.r s.clause = header_of words c.args.r s in
    let i : c.args.i < length s.clause.codes =
    place_of words c.args.r c.args.i s (subst (λ cs. c.args.i < length (literals_at cs c.args.r)) (sym old) c.requires.first) in
    omega (arith, h.fits, c.at.ensures, i)

pub swap-requires-clause-j_in_bounds : goal.swap-requires-clause-j_in_bounds
swap-requires-clause-j_in_bounds c =
    let words : List ℕ = c.self.inside.words.items in
    let old : clauses_of words ≡ c.args.self.now.clauses = ap (λ v. v.clauses) c.self.view_is in
    let s : Split words c.args.r = split_of words c.args.self.now.clauses c.args.r c.self.invariant.form old c.requires.live in
    let h : Header words c.args.r s.clause = header_of words c.args.r s in
    let j : c.args.j < length s.clause.codes =
    place_of words c.args.r c.args.j s (subst (λ cs. c.args.j < length (literals_at cs c.args.r)) (sym old) c.requires.second) in
    omega (arith, h.fits, c.at-2.ensures, j)

pub invariant_of-self : goal.invariant_of-self
invariant_of-self c =
    let words : List ℕ = c.self.inside.words.items in
    let old : clauses_of words ≡ c.args.self.now.clauses = ap (λ v. v.clauses) c.self.view_is in
    let s : Split words c.args.r = split_of words c.args.self.now.clauses c.args.r c.self.invariant.form old c.requires.live in
    let i : c.args.i < length s.clause.codes =
    place_of words c.args.r c.args.i s (subst (λ cs. c.args.i < length (literals_at cs c.args.r)) (sym old) c.requires.first) in
    let j : c.args.j < length s.clause.codes =
    place_of words c.args.r c.args.j s (subst (λ cs. c.args.j < length (literals_at cs c.args.r)) (sym old) c.requires.second) in
    let now : swap words (c.args.r + 4 + c.args.i) (c.args.r + 4 + c.args.j) ≡ c.swap.new.self.items =
    sym (c.swap.ensures.items ∙ (λ t. swap words (c.at.ensures t + 4 + c.args.i) (c.at-2.ensures t + 4 + c.args.j))) in
    subst (λ ws. IsArena ws c.self.inside.live c.self.inside.count) now
    (arena_swap words c.args.r c.args.i c.args.j c.self.inside.live c.self.inside.count c.self.invariant s i j)

pub returns-clause-clauses : goal.returns-clause-clauses
returns-clause-clauses c =
    let words : List ℕ = c.self.inside.words.items in
    let old : clauses_of words ≡ c.args.self.now.clauses = ap (λ v. v.clauses) c.self.view_is in
    let s : Split words c.args.r = split_of words c.args.self.now.clauses c.args.r c.self.invariant.form old c.requires.live in
    let i : c.args.i < length s.clause.codes =
    place_of words c.args.r c.args.i s (subst (λ cs. c.args.i < length (literals_at cs c.args.r)) (sym old) c.requires.first) in
    let j : c.args.j < length s.clause.codes =
    place_of words c.args.r c.args.j s (subst (λ cs. c.args.j < length (literals_at cs c.args.r)) (sym old) c.requires.second) in
    ap clauses_of (c.swap.ensures.items ∙ (λ t. swap words (c.at.ensures t + 4 + c.args.i) (c.at-2.ensures t + 4 + c.args.j))) ∙
    swapped_are words c.args.r c.args.i c.args.j s i j ∙
    sym (changed words c.args.r s (λ (h : Held). swapped h c.args.i c.args.j)) ∙
    ap (map (λ (h : Held). cond (eqb h.ref c.args.r) (swapped h c.args.i c.args.j) h)) old

pub returns-clause-found : goal.returns-clause-found
returns-clause-found c = swapped_is_found c.args.self.now.clauses (clauses_of c.swap.new.self.items) c.args.r c.args.i c.args.j (returns-clause-clauses c)

pub returns-clause-others : goal.returns-clause-others
returns-clause-others c = others_of_swap c.args.self.now.clauses (clauses_of c.swap.new.self.items) c.args.r c.args.i c.args.j (returns-clause-clauses c)

pub returns-clause-places : goal.returns-clause-places
returns-clause-places c =
    let words : List ℕ = c.self.inside.words.items in
    let old : clauses_of words ≡ c.args.self.now.clauses = ap (λ v. v.clauses) c.self.view_is in
    let s : Split words c.args.r = split_of words c.args.self.now.clauses c.args.r c.self.invariant.form old c.requires.live in
    let i : c.args.i < length s.clause.codes =
    place_of words c.args.r c.args.i s (subst (λ cs. c.args.i < length (literals_at cs c.args.r)) (sym old) c.requires.first) in
    let j : c.args.j < length s.clause.codes =
    place_of words c.args.r c.args.j s (subst (λ cs. c.args.j < length (literals_at cs c.args.r)) (sym old) c.requires.second) in
    ap places_of (c.swap.ensures.items ∙ (λ t. swap words (c.at.ensures t + 4 + c.args.i) (c.at-2.ensures t + 4 + c.args.j))) ∙
    places_swap words c.args.r c.args.i c.args.j s i j ∙ ap (λ v. v.places) c.self.view_is
