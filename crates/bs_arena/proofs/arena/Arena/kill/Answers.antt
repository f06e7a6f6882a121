use Rattle.std.proofs.Common.{◌≡◌, ℕ, ◌+◌, ◌-◌, List, length, set, get_or, not, filter, eqb, sym, ap, subst, ◌∙◌, arith}
use Rattle.bs_arena.specs.Arena.{Held, IsArena, clauses_of, places_of}
use Rattle.bs_arena.proofs.Splits.{Split, split_of, Header, header_of, others, killed, arena_kill, fits_kill}
use Rattle.bs_arena.proofs.Places.{places_kill}
use Rattle.bs_arena.proofs.Lookups.{gone, others_of_kill}
use Rattle.bs_arena.proofs.arena.Arena.kill.Goals as goal

pub size_at-size-requires : goal.size_at-size-requires
size_at-size-requires c =
    let words : List ℕ = c.self.inside.words.items in
    let s : Split words c.args.r = split_of words c.args.self.now.clauses c.args.r c.self.invariant.form (ap (λ v. v.clauses) c.self.view_is) c.requires in
    let h : Header words c.args.r s.clause = header_of words c.args.r s in
    omega (arith, h.fits, c.at.ensures, ap length c.as_slice.ensures.value)

pub overflow_add-at : goal.overflow_add-at
overflow_add-at c =
    let words : List ℕ = c.self.inside.words.items in
    let s : Split words c.args.r = split_of words c.args.self.now.clauses c.args.r c.self.invariant.form (ap (λ v. v.clauses) c.self.view_is) c.requires in
    let h : Header words c.args.r s.clause = header_of words c.args.r s in
    omega (arith, h.fits, c.at-2.ensures, c.as_slice.type_inv, ap length c.as_slice.ensures.value)

pub index_mut-requires : goal.index_mut-requires
index_mut-requires c =
    let words : List ℕ = c.self.inside.words.items in
    let s : Split words c.args.r = split_of words c.args.self.now.clauses c.args.r c.self.invariant.form (ap (λ v. v.clauses) c.self.view_is) c.requires in
    let h : Header words c.args.r s.clause = header_of words c.args.r s in
    omega (arith, h.fits, c.at-2.ensures)

pub overflow_sub-self : goal.overflow_sub-self
overflow_sub-self c =
    let words : List ℕ = c.self.inside.words.items in
    let s : Split words c.args.r = split_of words c.args.self.now.clauses c.args.r c.self.invariant.form (ap (λ v. v.clauses) c.self.view_is) c.requires in
    let h : Header words c.args.r s.clause = header_of words c.args.r s in
    let read : c.size_at-size.result ≡ get_or words (c.args.r + 2) 0 + 4 =
    c.size_at-size.ensures ∙ (λ i. get_or (c.as_slice.ensures.value i) (c.at.ensures i + 2) 0 + 4) in
    let fits = fits_kill words c.args.r c.self.inside.live c.self.inside.count c.self.invariant s in
    omega (arith, read, h.count, fits.0)

pub invariant_of-self : goal.invariant_of-self
invariant_of-self c =
    let words : List ℕ = c.self.inside.words.items in
    let s : Split words c.args.r = split_of words c.args.self.now.clauses c.args.r c.self.invariant.form (ap (λ v. v.clauses) c.self.view_is) c.requires in
    let h : Header words c.args.r s.clause = header_of words c.args.r s in
    let read : c.size_at-size.result ≡ get_or words (c.args.r + 2) 0 + 4 =
    c.size_at-size.ensures ∙ (λ i. get_or (c.as_slice.ensures.value i) (c.at.ensures i + 2) 0 + 4) in
    let size : length s.clause.codes + 4 ≡ c.size_at-size.result = omega (arith, read, h.count) in
    let place : c.args.r ≡ c.at-2.result = sym c.at-2.ensures in
    subst (λ n. IsArena (set words (c.at-2.result + 3) 0) (c.self.inside.live - n) (c.self.inside.count - 1)) size
    (subst (λ r. IsArena (set words (r + 3) 0) (c.self.inside.live - (length s.clause.codes + 4)) (c.self.inside.count - 1)) place
    (arena_kill words c.args.r c.self.inside.live c.self.inside.count c.self.invariant s))

pub returns-clause-clauses : goal.returns-clause-clauses
returns-clause-clauses c =
    let words : List ℕ = c.self.inside.words.items in
    let old : clauses_of words ≡ c.args.self.now.clauses = ap (λ v. v.clauses) c.self.view_is in
    let s : Split words c.args.r = split_of words c.args.self.now.clauses c.args.r c.self.invariant.form old c.requires in
    ap (λ r. clauses_of (set words (r + 3) 0)) c.at-2.ensures ∙ killed words c.args.r s ∙ sym (others words c.args.r s) ∙
    ap (filter (λ (h : Held). not (eqb h.ref c.args.r))) old

pub returns-clause-gone : goal.returns-clause-gone
returns-clause-gone c = gone c.args.self.now.clauses (clauses_of (set c.self.inside.words.items (c.at-2.result + 3) 0)) c.args.r (returns-clause-clauses c)

pub returns-clause-others : goal.returns-clause-others
returns-clause-others c =
    others_of_kill c.args.self.now.clauses (clauses_of (set c.self.inside.words.items (c.at-2.result + 3) 0)) c.args.r (returns-clause-clauses c)

pub returns-clause-places : goal.returns-clause-places
returns-clause-places c =
    let words : List ℕ = c.self.inside.words.items in
    let old : clauses_of words ≡ c.args.self.now.clauses = ap (λ v. v.clauses) c.self.view_is in
    let s : Split words c.args.r = split_of words c.args.self.now.clauses c.args.r c.self.invariant.form old c.requires in
    ap (λ r. places_of (set words (r + 3) 0)) c.at-2.ensures ∙ places_kill words c.args.r s ∙ ap (λ v. v.places) c.self.view_is
