use Rattle.std.proofs.Common.{ℕ, ◌+◌, List, length, get_or, eqb, sym, ap, ◌∙◌, arith}
use Rattle.std.specs.Prelude.{is_some}
use Rattle.bs_arena.specs.Arena.{held_at}
use Rattle.bs_arena.proofs.Spellings.{live_word}
use Rattle.bs_arena.proofs.Places.{Site, site_of}
use Rattle.bs_arena.proofs.arena.Arena.is_live.Goals as goal

pub is_live_at-requires : goal.is_live_at-requires
is_live_at-requires c =
    let s : Site c.self.inside.words.items c.args.r =
    site_of c.self.inside.words.items c.args.self.now.places c.args.r c.self.invariant.form (ap (λ v. v.places) c.self.view_is) c.requires in
    omega (arith, s.header.fits, c.at.ensures, ap length c.as_slice.ensures.value)

pub returns : goal.returns
returns c =
    let words : List ℕ = c.self.inside.words.items in
    let s : Site words c.args.r = site_of words c.args.self.now.places c.args.r c.self.invariant.form (ap (λ v. v.places) c.self.view_is) c.requires in
    c.is_live_at.ensures ∙ (λ i. eqb (get_or (c.as_slice.ensures.value i) (c.at.ensures i + 3) 0) 1) ∙
    ap (λ w. eqb w 1) s.header.alive ∙ live_word s.clause.live ∙ sym s.lives ∙ ap (λ v. is_some (held_at v.clauses c.args.r)) c.self.view_is
