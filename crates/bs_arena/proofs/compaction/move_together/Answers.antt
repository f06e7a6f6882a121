use Rattle.std.proofs.Common.{◌≡◌, ℕ, List, [], ◌∷◌, ◌++◌, ◌+◌, length, get_or, true, vec_len, eqb, sym, ap, subst, ◌∙◌, refl, arith, rules}
use Rattle.std.specs.List.{copy_within}
use Rattle.std.specs.Prelude.{vec_capacity}
use Rattle.bs_arena.specs.Words.{size}
use Rattle.bs_arena.specs.Arena.{stored_in, clauses_of, live_in}
use Rattle.bs_arena.proofs.Spellings.{live_word, read_back}
use Rattle.bs_arena.proofs.Lookups.{renaming_of}
use Rattle.bs_arena.proofs.Compactions.{kept, Compacting, Next, begins, next, skips, moves, ends, Ended, refs_are, names_left, spelled_by, order}
use Rattle.bs_arena.proofs.Compactions.{same_far, listed_number}
use Rattle.bs_arena.proofs.compaction.move_together.Goals.{then-is_live_at, else-is_live_at}
use Rattle.bs_arena.proofs.compaction.move_together.Goals as goal

pub clauses-init : goal.clauses-init
clauses-init c = record {
  far = subst (λ names. Compacting (stored_in c.args.words.now.items) c.args.words.now.items 0 0 names) (sym c.clear.ensures.names)
      (begins (stored_in c.args.words.now.items) c.args.words.now.items (spelled_by c.args.words.now.items c.requires.form));
  len = refl;
  capacity = refl;
  spare = omega (arith, c.clear.ensures.spare);
}

pub size_at-size-requires : goal.size_at-size-requires
size_at-size-requires c =
    let n : Next c.clauses.words.items c.clauses.from c.clauses.invariant.far.rest =
    next (stored_in c.args.words.now.items) c.clauses.words.items c.clauses.from c.clauses.to c.clauses.renaming.names c.clauses.invariant.far (search rules) in
    omega (arith, n.header.fits, ap length c.as_slice.ensures.value)

pub is_live_at-requires : goal.is_live_at-requires
is_live_at-requires c =
    let n : Next c.clauses.words.items c.clauses.from c.clauses.invariant.far.rest =
    next (stored_in c.args.words.now.items) c.clauses.words.items c.clauses.from c.clauses.to c.clauses.renaming.names c.clauses.invariant.far (search rules) in
    omega (arith, n.header.fits, ap length c.as_slice-in-clauses.ensures.value)

pub overflow_add-from : goal.overflow_add-from
overflow_add-from c =
    let n : Next c.clauses.words.items c.clauses.from c.clauses.invariant.far.rest =
    next (stored_in c.args.words.now.items) c.clauses.words.items c.clauses.from c.clauses.to c.clauses.renaming.names c.clauses.invariant.far (search rules) in
    let size_is : c.size_at-size.result ≡ size n.clause =
    c.size_at-size.ensures ∙ ap (λ ws. get_or ws (c.clauses.from + 2) 0 + 4) c.as_slice.ensures.value ∙ ap (λ k. k + 4) n.header.count in
    omega (arith, n.header.fits, size_is, c.clauses.words.small)

pub copy_within-requires-clause-in_bounds : goal.copy_within-requires-clause-in_bounds
copy_within-requires-clause-in_bounds c =
    let n : Next c.clauses.words.items c.clauses.from c.clauses.invariant.far.rest =
    next (stored_in c.args.words.now.items) c.clauses.words.items c.clauses.from c.clauses.to c.clauses.renaming.names c.clauses.invariant.far (search rules) in
    let size_is : c.size_at-size.result ≡ size n.clause =
    c.size_at-size.ensures ∙ ap (λ ws. get_or ws (c.clauses.from + 2) 0 + 4) c.as_slice.ensures.value ∙ ap (λ k. k + 4) n.header.count in
    omega (arith, n.header.fits, size_is)

pub copy_within-requires-clause-dest_in_bounds : goal.copy_within-requires-clause-dest_in_bounds
copy_within-requires-clause-dest_in_bounds c =
    let n : Next c.clauses.words.items c.clauses.from c.clauses.invariant.far.rest =
    next (stored_in c.args.words.now.items) c.clauses.words.items c.clauses.from c.clauses.to c.clauses.renaming.names c.clauses.invariant.far (search rules) in
    let size_is : c.size_at-size.result ≡ size n.clause =
    c.size_at-size.ensures ∙ ap (λ ws. get_or ws (c.clauses.from + 2) 0 + 4) c.as_slice.ensures.value ∙ ap (λ k. k + 4) n.header.count in
    omega (
      arith,
      n.header.fits,
      size_is,
      order (stored_in c.args.words.now.items) c.clauses.words.items c.clauses.from c.clauses.to c.clauses.renaming.names c.clauses.invariant.far,
    )

pub push-requires-clause-room : goal.push-requires-clause-room
push-requires-clause-room c =
    let n : Next c.clauses.words.items c.clauses.from c.clauses.invariant.far.rest =
    next (stored_in c.args.words.now.items) c.clauses.words.items c.clauses.from c.clauses.to c.clauses.renaming.names c.clauses.invariant.far (search rules) in
    let alive : n.clause.live ≡ true =
    sym (live_word n.clause.live) ∙ ap (λ w. eqb w 1) (sym n.header.alive)
    ∙ ap (λ ws. eqb (get_or ws (c.clauses.from + 3) 0) 1) (sym c.as_slice-in-clauses.ensures.value) ∙ sym c.is_live_at.ensures ∙ c.if-is_live_at.true in
    let left =
    names_left (stored_in c.args.words.now.items) c.clauses.words.items c.clauses.from c.clauses.to c.clauses.renaming.names c.clauses.invariant.far n alive in
    omega (arith, left, c.clauses.invariant.spare, c.requires.room, listed_number c.args.words.now.items c.requires.form)

pub overflow_add-to : goal.overflow_add-to
overflow_add-to c =
    let n : Next c.clauses.words.items c.clauses.from c.clauses.invariant.far.rest =
    next (stored_in c.args.words.now.items) c.clauses.words.items c.clauses.from c.clauses.to c.clauses.renaming.names c.clauses.invariant.far (search rules) in
    let size_is : c.size_at-size.result ≡ size n.clause =
    c.size_at-size.ensures ∙ ap (λ ws. get_or ws (c.clauses.from + 2) 0 + 4) c.as_slice.ensures.value ∙ ap (λ k. k + 4) n.header.count in
    omega (
      arith,
      n.header.fits,
      size_is,
      c.clauses.words.small,
      order (stored_in c.args.words.now.items) c.clauses.words.items c.clauses.from c.clauses.to c.clauses.renaming.names c.clauses.invariant.far,
    )

pub overflow_add-from-in-clauses : goal.overflow_add-from-in-clauses
overflow_add-from-in-clauses c =
    let n : Next c.clauses.words.items c.clauses.from c.clauses.invariant.far.rest =
    next (stored_in c.args.words.now.items) c.clauses.words.items c.clauses.from c.clauses.to c.clauses.renaming.names c.clauses.invariant.far (search rules) in
    let size_is : c.size_at-size.result ≡ size n.clause =
    c.size_at-size.ensures ∙ ap (λ ws. get_or ws (c.clauses.from + 2) 0 + 4) c.as_slice.ensures.value ∙ ap (λ k. k + 4) n.header.count in
    omega (arith, n.header.fits, size_is, c.clauses.words.small)

pub clauses-preserved : goal.clauses-preserved
clauses-preserved c =
    let stored = stored_in c.args.words.now.items in
    let words : List ℕ = c.clauses.words.items in
    let n : Next c.clauses.words.items c.clauses.from c.clauses.invariant.far.rest =
    next (stored_in c.args.words.now.items) c.clauses.words.items c.clauses.from c.clauses.to c.clauses.renaming.names c.clauses.invariant.far (search rules) in
    let size_is : c.size_at-size.result ≡ size n.clause =
    c.size_at-size.ensures ∙ ap (λ ws. get_or ws (c.clauses.from + 2) 0 + 4) c.as_slice.ensures.value ∙ ap (λ k. k + 4) n.header.count in
    let read : c.is_live_at.result ≡ n.clause.live =
    c.is_live_at.ensures ∙ ap (λ ws. eqb (get_or ws (c.clauses.from + 3) 0) 1) c.as_slice-in-clauses.ensures.value ∙ ap (λ w. eqb w 1) n.header.alive
    ∙ live_word n.clause.live in
    elim c.if-is_live_at.branch [
      | then-is_live_at w ↦
          let ws : c.if-is_live_at.words.items ≡ copy_within words c.clauses.from (c.clauses.from + size n.clause) c.clauses.to =
          ap (λ v. v.items) w.words-is ∙ w.copy_within.ensures.items ∙ ap (λ k. copy_within words c.clauses.from (c.clauses.from + k) c.clauses.to) size_is in
          let names : c.if-is_live_at.renaming.names ≡ c.clauses.renaming.names ++ (c.clauses.from, c.clauses.to) ∷ [] =
          ap (λ v. v.names) w.renaming-is ∙ w.push.ensures.names ∙ (λ i. c.clauses.renaming.names ++ (w.new.ensures i, w.new-then-is_live_at.ensures i) ∷ []) in
          record {
            far =
                same_far stored (copy_within words c.clauses.from (c.clauses.from + size n.clause) c.clauses.to) c.if-is_live_at.words.items
                (c.clauses.from + size n.clause) (c.clauses.from + c.size_at-size.result)
                (c.clauses.to + size n.clause) c.if-is_live_at.to
                (c.clauses.renaming.names ++ (c.clauses.from, c.clauses.to) ∷ []) c.if-is_live_at.renaming.names
                ws (ap (λ k. c.clauses.from + k) size_is) (w.to-is ∙ ap (λ k. c.clauses.to + k) size_is) names
                (moves stored words c.clauses.from c.clauses.to c.clauses.renaming.names c.clauses.invariant.far n (sym read ∙ w.if-is_live_at.true));
            len = omega (arith, c.clauses.invariant.len, w.copy_within.ensures.len, ap (λ v. vec_len v) w.words-is);
            capacity = ap (λ v. vec_capacity v) w.words-is ∙ w.copy_within.ensures.capacity ∙ c.clauses.invariant.capacity;
            spare = omega (arith, c.clauses.invariant.spare, w.push.ensures.spare, ap (λ v. v.spare) w.renaming-is);
          }
      | else-is_live_at w ↦ record {
        far =
            same_far stored words c.if-is_live_at.words.items (c.clauses.from + size n.clause)
            (c.clauses.from + c.size_at-size.result) c.clauses.to c.if-is_live_at.to c.clauses.renaming.names c.if-is_live_at.renaming.names
            (ap (λ v. v.items) w.words-is) (ap (λ k. c.clauses.from + k) size_is) w.to-is (ap (λ v. v.names) w.renaming-is)
            (skips stored words c.clauses.from c.clauses.to c.clauses.renaming.names c.clauses.invariant.far n (sym read ∙ w.if-is_live_at.false));
        len = omega (arith, c.clauses.invariant.len, ap (λ v. vec_len v) w.words-is);
        capacity = ap (λ v. vec_capacity v) w.words-is ∙ c.clauses.invariant.capacity;
        spare = omega (arith, c.clauses.invariant.spare, ap (λ v. v.spare) w.renaming-is);
      }
    ]

pub returns-clause-words : goal.returns-clause-words
returns-clause-words c =
    let e : Ended (stored_in c.args.words.now.items) c.clauses.words.items c.clauses.to c.clauses.renaming.names =
    ends (stored_in c.args.words.now.items) c.clauses.words.items c.clauses.from c.clauses.to c.clauses.renaming.names c.clauses.invariant.far
    (omega (arith, c.clauses-test.false, c.len.ensures)) in
    c.truncate.ensures.items ∙ e.words_are

pub returns-clause-names : goal.returns-clause-names
returns-clause-names c =
    let e : Ended (stored_in c.args.words.now.items) c.clauses.words.items c.clauses.to c.clauses.renaming.names =
    ends (stored_in c.args.words.now.items) c.clauses.words.items c.clauses.from c.clauses.to c.clauses.renaming.names c.clauses.invariant.far
    (omega (arith, c.clauses-test.false, c.len.ensures)) in
    e.names_are ∙ refs_are c.args.words.now.items c.truncate.new.self.items (stored_in c.args.words.now.items)
    (spelled_by c.args.words.now.items c.requires.form) (c.truncate.ensures.items ∙ e.words_are)

pub returns-clause-renames : goal.returns-clause-renames
returns-clause-renames c =
    let stored = stored_in c.args.words.now.items in
    let e : Ended (stored_in c.args.words.now.items) c.clauses.words.items c.clauses.to c.clauses.renaming.names =
    ends (stored_in c.args.words.now.items) c.clauses.words.items c.clauses.from c.clauses.to c.clauses.renaming.names c.clauses.invariant.far
    (omega (arith, c.clauses-test.false, c.len.ensures)) in
    renaming_of stored (clauses_of c.args.words.now.items) (clauses_of c.truncate.new.self.items) c.clauses.renaming.names
    (ap clauses_of (spelled_by c.args.words.now.items c.requires.form) ∙ ap live_in (read_back 0 stored))
    (ap clauses_of (c.truncate.ensures.items ∙ e.words_are) ∙ ap live_in (read_back 0 (kept stored))) e.names_are
