use Rattle.std.proofs.Common.{◌≡◌, ℕ, ◌+◌, ◌*◌, ◌^◌, List, length, get_or, sym, ap, ◌∙◌, Some, arith}
use Rattle.std.specs.Prelude.{option_map}
use Rattle.bs_arena.specs.Arena.{Held, clauses_of, held_at}
use Rattle.bs_arena.proofs.Splits.{Split, split_of, Header, header_of}
use Rattle.bs_arena.proofs.arena.Arena.id.Goals as goal

pub id_at-requires : goal.id_at-requires
id_at-requires c =
    let words : List ℕ = c.self.inside.words.items in
    let s : Split words c.args.r = split_of words c.args.self.now.clauses c.args.r c.self.invariant.form (ap (λ v. v.clauses) c.self.view_is) c.requires in
    let h : Header words c.args.r s.clause = header_of words c.args.r s in
    omega (arith, h.fits, c.at.ensures, ap length c.as_slice.ensures.value)

pub returns : goal.returns
returns c =
    let words : List ℕ = c.self.inside.words.items in
    let old : clauses_of words ≡ c.args.self.now.clauses = ap (λ v. v.clauses) c.self.view_is in
    let s : Split words c.args.r = split_of words c.args.self.now.clauses c.args.r c.self.invariant.form old c.requires in
    let h : Header words c.args.r s.clause = header_of words c.args.r s in
    let read : c.id_at.result ≡ get_or words c.args.r 0 + 2 ^ 32 * get_or words (c.args.r + 1) 0 =
    c.id_at.ensures ∙ (λ i. get_or (c.as_slice.ensures.value i) (c.at.ensures i) 0 + 2 ^ 32 * get_or (c.as_slice.ensures.value i) (c.at.ensures i + 1) 0) in
    let id : c.id_at.result ≡ s.clause.id = omega (arith, read, h.low, h.high) in
    ap (λ cs. option_map (λ (g : Held). g.id) (held_at cs c.args.r)) (sym old) ∙ ap (option_map (λ (g : Held). g.id)) s.found ∙ ap Some (sym id)
