use Rattle.std.proofs.Common.{◌≡◌, ℕ, ◌<◌, List, length, get_or, sym, ap, subst, ◌∙◌, Some, arith}
use Rattle.std.proofs.lemmas.List.{get_or_read}
use Rattle.bs_arena.specs.Renaming.{IsAscending}
use Rattle.bs_arena.proofs.Names.{named_here, named_nowhere}
use Rattle.bs_arena.proofs.renaming.Renaming.name_at.Goals.{else-place-len-via-then-place-len+else-at, else-place-len-via-else-place-len}
use Rattle.bs_arena.proofs.renaming.Renaming.name_at.Goals as goal

pub returns-then-at : goal.returns-then-at
returns-then-at c =
    let names : List (ℕ × ℕ) = c.args.self.now.names in
    let name : ℕ × ℕ = c.index-then-at.result.now in
    let same : c.self.inside.names.items ≡ names = ap (λ v. v.names) c.self.view_is in
    let within : c.args.place < length names = omega (arith, c.if-place-len.true, c.len.ensures, ap length same) in
    let first : c.index.result.now ≡ get_or names c.args.place c.index.result.now =
    c.index.ensures ∙ ap (λ ns. get_or ns c.args.place c.index.result.now) same in
    let read : name ≡ get_or names c.args.place name = c.index-then-at.ensures ∙ ap (λ ns. get_or ns c.args.place name) same in
    let is_r : (get_or names c.args.place name).0 ≡ c.args.r =
    ap (λ (n : ℕ × ℕ). n.0) (sym (get_or_read names c.args.place c.index.result.now within first name)) ∙ sym c.at.ensures ∙ c.if-at.true
    ∙ c.at-then-place-len.ensures in
    sym (named_here names c.args.r c.args.place name c.requires within is_r ∙ ap (λ (n : ℕ × ℕ). Some (n.1)) (sym read))

pub returns-else-place-len : goal.returns-else-place-len
returns-else-place-len c =
    let names : List (ℕ × ℕ) = c.args.self.now.names in
    let same : c.self.inside.names.items ≡ names = ap (λ v. v.names) c.self.view_is in
    let up : IsAscending names = subst IsAscending same c.self.invariant in
    elim c.else-place-len.branch [
      | else-place-len-via-then-place-len+else-at w ↦
          let within : c.args.place < length names = omega (arith, w.if-place-len.true, c.len.ensures, ap length same) in
          let first : w.index.result.now ≡ get_or names c.args.place w.index.result.now =
          w.index.ensures ∙ ap (λ ns. get_or ns c.args.place w.index.result.now) same in
          sym (named_nowhere names c.args.r c.args.place w.index.result.now up c.requires
          (λ _ e. w.if-at.false (w.at.ensures ∙ ap (λ (n : ℕ × ℕ). n.0) first ∙ e ∙ sym w.at-then-place-len.ensures)))
      | else-place-len-via-else-place-len w ↦
          sym (named_nowhere names c.args.r c.args.place (0, 0) up c.requires (λ lt _. omega (arith, lt, w.if-place-len.false, c.len.ensures, ap length same)))
    ]
