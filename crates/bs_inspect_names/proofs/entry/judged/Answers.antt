use Rattle.std.proofs.Common.{List, ℕ, map, sym, ◌∙◌, inr}
use Rattle.bs_inspect_names.specs.Mapping.{MapEntry, entry_in, is_beyond, is_double, names_key}
use Rattle.bs_inspect_names.proofs.MappingLemmas.{any_entry, any_key, entry_beyond, entry_new, entry_twice, entry_unknown}
use Rattle.bs_inspect_names.proofs.entry.judged.Goals as goal

pub returns-then-not-names_some : goal.returns-then-not-names_some
returns-then-not-names_some c =
    let keys : List (List ℕ) = map (λ k. k.now) c.args.keys.now in
    let e : MapEntry = entry_in c.args.entry in
    inr (entry_unknown keys (map entry_in c.args.entries.now) c.args.number e
    (sym (any_key (names_key e) c.args.keys.now) ∙ (sym c.names_some.ensures ∙ c.if-not-names_some.true)))

pub returns-then-has_double : goal.returns-then-has_double
returns-then-has_double c =
    let keys : List (List ℕ) = map (λ k. k.now) c.args.keys.now in
    let e : MapEntry = entry_in c.args.entry in
    inr (entry_twice keys (map entry_in c.args.entries.now) c.args.number e
    (sym (any_key (names_key e) c.args.keys.now) ∙ (sym c.names_some.ensures ∙ c.if-not-names_some.false))
    (sym (any_entry (is_double keys e) c.args.entries.now) ∙ (sym c.has_double.ensures ∙ c.if-has_double.true)))

pub returns-then-goes_beyond : goal.returns-then-goes_beyond
returns-then-goes_beyond c =
    let keys : List (List ℕ) = map (λ k. k.now) c.args.keys.now in
    let e : MapEntry = entry_in c.args.entry in
    inr (entry_beyond keys (map entry_in c.args.entries.now) c.args.number e
    (sym (any_key (names_key e) c.args.keys.now) ∙ (sym c.names_some.ensures ∙ c.if-not-names_some.false))
    (sym (any_entry (is_double keys e) c.args.entries.now) ∙ (sym c.has_double.ensures ∙ c.if-has_double.false))
    (sym (any_key (is_beyond e) c.args.keys.now) ∙ (sym c.goes_beyond.ensures ∙ c.if-goes_beyond.true)))

pub returns : goal.returns
returns c =
    let keys : List (List ℕ) = map (λ k. k.now) c.args.keys.now in
    let e : MapEntry = entry_in c.args.entry in
    entry_new keys (map entry_in c.args.entries.now) c.args.number e
    (sym (any_key (names_key e) c.args.keys.now) ∙ (sym c.names_some.ensures ∙ c.if-not-names_some.false))
    (sym (any_entry (is_double keys e) c.args.entries.now) ∙ (sym c.has_double.ensures ∙ c.if-has_double.false))
    (sym (any_key (is_beyond e) c.args.keys.now) ∙ (sym c.goes_beyond.ensures ∙ c.if-goes_beyond.false))
