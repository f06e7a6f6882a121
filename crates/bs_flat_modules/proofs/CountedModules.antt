-- What each module of a text counts.
use Rattle.std.proofs.Common.{◌≡◌, ℕ, ◌+◌, ◌-◌, ◌≤◌, Bool, true, false, cond, List, [], ◌∷◌, ◌++◌, map, length, get_or, refl, arith}
use Rattle.std.proofs.Common.{sym, ◌∙◌, subst, inl, inr, ◌⊎◌, ⊎_elim, Option, Some, None, Result, Ok, All, Contains, nat_lt, nat_eq}
use Rattle.std.specs.Prelude.{zip}
use Rattle.std.specs.List.{AllByRecursion, flat_map, list_any, range_with_len}
use Rattle.std.proofs.lemmas.Bool.{true≢false, cond_both, ltb-false, eq-eqb}
use Rattle.std.proofs.lemmas.List.{length-append, length-map}
use Rattle.std.proofs.lemmas.List.FromFn.{length-range_with_len}
use Rattle.std.proofs.lemmas.List.Elements.{All-from_recursion}
use Rattle.bs_net.specs.Parts.{Parts}
use Rattle.bs_net.specs.Names.{with_key}
use Rattle.bs_lex.specs.declared.limits.TheConstants.{MAX_BYTES}
use Rattle.bs_lex.specs.declared.token.Token.{Token}
use Rattle.bs_lex.specs.Lexemes.{lexemes_of, names_of}
use Rattle.bs_verilog_syntax.specs.declared.tree.Module as code
use Rattle.bs_verilog_syntax.specs.declared.tree.Says.{Says}
use Rattle.bs_verilog_syntax.specs.declared.tree.Term.{Term}
use Rattle.bs_verilog_syntax.specs.declared.tree.Term.TheVariants.{Constant, Named}
use Rattle.bs_verilog_syntax.specs.Reading.{Rest, at}
use Rattle.bs_verilog_scope.specs.Keys.{constant_key, scalar_key, text}
use Rattle.bs_verilog.specs.Building.{has_key}
use Rattle.bs_flat_meaning.specs.declared.fault.FlatFault.{FlatFault}
use Rattle.bs_flat_meaning.specs.declared.fault.FlatFault.TheVariants.{OwnNets, Twice}
use Rattle.bs_flat_meaning.specs.declared.limits.TheConstants.{MAX_OWN_NETS}
use Rattle.bs_flat_meaning.specs.declared.statements.Written.{Written}
use Rattle.bs_flat_meaning.specs.Connecting.{ReadModule, scope_of, terms_of, whole_parts, with_net, with_term, with_terms}
use Rattle.bs_flat_meaning.specs.Instancing.{instancing}
use Rattle.bs_flat_meaning.specs.Pieces.{Piece, modules_of, statements_of}
use Rattle.bs_flat_meaning.specs.Reading.{◌then◌, IsRead, all_of, as_verilog, first_of, fitting, gathered, no_fault, owns_within, read_modules, read_own, read_written}
use Rattle.bs_flat_meaning.specs.Reading.{second_instance, second_module}
use Rattle.bs_flat_meaning.proofs.GivenLemmas.{Gives, gives_any, gives_err, gives_ok, gives_then, gives_verilog}
use Rattle.bs_flat_meaning.proofs.HeaderLemmas.{Sound, With}
use Rattle.bs_flat_meaning.proofs.MemberLemmas.{Member, all_member, contained, contains, flattened, in_range, member_at, member_left, member_map, member_right}
use Rattle.bs_flat_meaning.proofs.MemberLemmas
use Rattle.bs_flat_meaning.proofs.NameLemmas.{IsNumbered, all_append, lexemes_numbered}
use Rattle.bs_flat_meaning.proofs.WholeLemmas.{read_modules_are_whole}
use Rattle.bs_flat_modules.specs.Modules.{HasFewNets, ModulesAreCounted}
use Rattle.bs_flat_modules.specs.Texts.{IsOfText}
use Rattle.bs_flat_modules.proofs.CountedLists.{Grows, all_fail, grows_key, grows_none, without}
use Rattle.bs_flat_modules.proofs.CountedTerms.{TermSmall, WrittenSmall, statement_small}
use Rattle.bs_flat_modules.proofs.LexemeCounts.{few_names}
use Rattle.bs_flat_modules.proofs.CountedPieces.{own_texts_are_of_the_text}

-- ---- instances of different names

-- an instance whose name has one of these numbers
abbrev IsAmong : List ℕ → Written → Type 0
IsAmong ids w = Member w.name.id ids

-- instances whose names differ, from those before and one from another, are no more than the candidates
instances_few : (before these : List ℕ) (ws : List Written) → second_instance before ws ≡ None
    → ((w : Written) → Member w ws → IsAmong before w ⊎ IsAmong these w) → length ws ≤ length these
unfolding second_instance
instances_few before these [] e h = omega arith
instances_few before these (w ∷ ws) e h = by (list_any (nat_eq id) before) refl e (λ left n k. instances_few (id ∷ before) left ws n k)
  where
    id : ℕ
    id = w.name.id

    by : (b : Bool) → list_any (nat_eq id) before ≡ b → cond b (Some w.name.at) (second_instance (id ∷ before) ws) ≡ None
        → ((left : List ℕ) → second_instance (id ∷ before) ws ≡ None → ((v : Written) → Member v ws → IsAmong (id ∷ before) v ⊎ IsAmong left v) → length ws ≤ length left)
        → length (w ∷ ws) ≤ length these
    by true q n rest = absurd cc
    by false q n rest =
        let new : Member id these =
        ⊎_elim (λ (l : Member id before). absurd (true≢false (sym (eq-eqb id id refl) ∙ all_fail (nat_eq id) before id q l))) (λ (l : Member id these). l)
        (h w (inl refl)) in
        let x = without id these new in
        let few =
        rest x.left n
        (λ v m.
        ⊎_elim (λ (l : IsAmong before v). inl (inr l))
        (λ (l : IsAmong these v). ⊎_elim (λ (s : v.name.id ≡ id). inl (inl s)) (λ (o : IsAmong x.left v). inr o) (x.others v.name.id l)) (h v (inr m))) in
        omega (arith, few, x.fewer)

-- ---- keys of terms

module _ (table : List (List ℕ)) (scope : ℕ → Option Says) where
  abbrev key : Term → List ℕ
  key (Constant place b) = constant_key b
  key (Named n index) = scalar_key (text table n)

  -- these names as they were, or with this key
  abbrev Adds : List (List ℕ) → List ℕ → Parts → Type 0
  Adds names k later = (later.names ≡ names) ⊎ (later.names ≡ with_key names k)

  term_adds : (parts : Parts) (t : Term) → Adds parts.names (key t) (with_term table scope parts t)
  unfolding with_term
  term_adds parts (Constant place b) =
      cond_both (has_key parts.names (constant_key b)) _ _ (Adds parts.names (constant_key b)) (λ _. inl refl) (λ _. inr refl)
  term_adds parts (Named n index) = by (scope n.id)
    where
      by : (o : Option Says)
          → Adds parts.names (scalar_key (text table n))
          (elim o as (λ _. Parts) [ Some s ↦ parts | None ↦ with_net parts (scalar_key (text table n)) ])
      by (Some s) = inl refl
      by None = inr refl

  terms_few : (parts : Parts) (these : List (List ℕ)) (ts : List Term)
      → ((t : Term) → Member t ts → Member (key t) parts.names ⊎ Member (key t) these)
      → length (with_terms table scope parts ts).names ≤ length parts.names + length these
  unfolding with_terms
  terms_few parts these [] h = omega arith
  terms_few parts these (t ∷ ts) h =
      let next = with_term table scope parts t in
      let g : Grows parts.names these next.names =
      ⊎_elim
      (λ (e : next.names ≡ parts.names). subst (Grows parts.names these) (sym e) (grows_none parts.names these))
      (λ (e : next.names ≡ with_key parts.names (key t)). subst (Grows parts.names these) (sym e) (grows_key parts.names these (key t) (h t (inl refl))))
      (term_adds parts t) in
      let few = terms_few next g.left ts (λ u m. g.others (key u) (h u (inr m))) in
      omega (arith, few, g.sizes)

  -- the keys of the names, and those of the constants
  abbrev candidates : List (List ℕ)
  candidates = map scalar_key table ++ (constant_key false ∷ constant_key true ∷ [])

  key_there : (t : Term) → TermSmall (length table) t → Member (key t) candidates
  key_there (Constant place false) s = member_right _ (map scalar_key table) _ (inl refl)
  key_there (Constant place true) s = member_right _ (map scalar_key table) _ (inr (inl refl))
  key_there (Named n index) s =
      member_left (scalar_key (text table n)) (map scalar_key table) _ (member_map scalar_key (text table n) table (member_at table n.id [] s.0))

  terms_add_few : (parts : Parts) (ts : List Term) → ((t : Term) → Member t ts → TermSmall (length table) t)
      → length (with_terms table scope parts ts).names ≤ length parts.names + (length table + 2)
  terms_add_few parts ts h =
      let few = terms_few parts candidates ts (λ t m. inr (key_there t (h t m))) in
      omega (arith, few, length-append (map scalar_key table) (constant_key false ∷ constant_key true ∷ []), length-map table scalar_key)

-- ---- modules that are read

gives_each : {A B : Type 0} (P : A → Type 0) (Q : B → Type 0) (f : A → Result B FlatFault) → ((x : A) → P x → Gives Q (f x)) → (xs : List A)
    → AllByRecursion P xs → Gives (AllByRecursion Q) (all_of f xs)
unfolding all_of
gives_each P Q f g [] a = gives_ok (AllByRecursion Q) [] tt
gives_each P Q f g (x ∷ xs) a =
    gives_then Q (AllByRecursion Q) (f x) _ (g x a.0)
    (λ y q.
    gives_then (AllByRecursion Q) (AllByRecursion Q) (all_of f xs) (λ ys. Ok (y ∷ ys)) (gives_each P Q f g xs a.1)
    (λ ys qs. gives_ok (AllByRecursion Q) (y ∷ ys) (q, qs)))

-- parts with names that fit
abbrev Fit : ℕ → code.Module × Parts → Type 0
Fit limit own = length own.1.names ≤ limit

owns_fit : {A : Type 0} (place : A → ℕ) (f : A → Result (code.Module × Parts) FlatFault) (limit room : ℕ) → room ≤ limit → (xs : List A)
    → Gives (AllByRecursion (Fit limit)) (owns_within place f room xs)
unfolding owns_within
owns_fit place f limit room le [] = gives_ok (AllByRecursion (Fit limit)) [] tt
owns_fit {A} place f limit room le (x ∷ xs) =
    gives_then (λ _. Unit {0}) (AllByRecursion (Fit limit)) (f x) _ (gives_any (f x))
    (λ y _. by y (nat_lt room (length y.1.names)) refl (room - length y.1.names) (owns_fit place f limit (room - length y.1.names) (omega (arith, le)) xs))
  where
    by : (y : code.Module × Parts) (b : Bool) → nat_lt room (length y.1.names) ≡ b → (later : ℕ)
        → Gives (AllByRecursion (Fit limit)) (owns_within place f later xs)
        → Gives (AllByRecursion (Fit limit)) (fitting b (place x) (owns_within place f later xs then (λ owns. Ok (y ∷ owns))))
    by y true q later g = gives_err (AllByRecursion (Fit limit)) (OwnNets (place x))
    by y false q later g =
        gives_then (AllByRecursion (Fit limit)) (AllByRecursion (Fit limit)) (owns_within place f later xs) (λ owns. Ok (y ∷ owns)) g
        (λ owns fit. gives_ok (AllByRecursion (Fit limit)) (y ∷ owns) (omega (arith, le, ltb-false room (length y.1.names) q), fit))

gives_none : (f : ℕ → FlatFault) (o : Option ℕ) → Gives (λ _. o ≡ None) (no_fault f o)
gives_none f (Some place) = gives_err (λ _. Some place ≡ None) (f place)
gives_none f None = gives_ok (λ _. None ≡ None) [] refl

-- the names of its instances differ
abbrev AreOnce : List Written → Type 0
AreOnce ws = second_instance [] ws ≡ None

all_once : (written : List (List Written)) → first_of (map (second_instance []) written) ≡ None → AllByRecursion AreOnce written
unfolding first_of
all_once [] e = tt
all_once (ws ∷ written) e = by (second_instance [] ws) refl e (all_once written)
  where
    by : (o : Option ℕ) → second_instance [] ws ≡ o
        → elim o as (λ _. Option ℕ) [ Some n ↦ Some n | None ↦ first_of (map (second_instance []) written) ] ≡ None
        → (first_of (map (second_instance []) written) ≡ None → AllByRecursion AreOnce written) → AllByRecursion AreOnce (ws ∷ written)
    by (Some place) q none rest = absurd cc
    by None q none rest = (q, rest none)

module _ (count : ℕ) where
  abbrev AllSmall : List Written → Type 0
  AllSmall ws = AllByRecursion (WrittenSmall count) ws

  all_flat : (rs : List (List Written × Rest)) → AllByRecursion (With count AllSmall) rs → AllSmall (flat_map (λ r. r.0) rs)
  all_flat [] a = tt
  all_flat (r ∷ rs) a = all_append (WrittenSmall count) r.0 (flat_map (λ s. s.0) rs) a.0.0 (all_flat rs a.1)

  written_small : (ms : List Piece) (p : Piece) → AllByRecursion (Sound count) (statements_of ms p) → Gives AllSmall (read_written ms p)
  written_small ms p a =
      gives_then (AllByRecursion (With count AllSmall)) AllSmall (all_of (λ s. as_verilog (instancing s)) (statements_of ms p)) _
      (gives_each (Sound count) (With count AllSmall) (λ s. as_verilog (instancing s))
      (λ s h. gives_verilog (With count AllSmall) (instancing s) (statement_small count s h)) (statements_of ms p) a)
      (λ all h. gives_ok AllSmall (flat_map (λ r. r.0) all) (all_flat all h))

  -- what is known of each module from how it was read
  record IsLimited (m : ReadModule) : Type 0 where
    fits : length m.own.names ≤ MAX_OWN_NETS
    small : AllSmall m.written
    once : AreOnce m.written

  all_limited : (owns : List (code.Module × Parts)) (written : List (List Written)) → AllByRecursion (Fit MAX_OWN_NETS) owns
      → AllByRecursion AllSmall written → AllByRecursion AreOnce written → AllByRecursion IsLimited (map gathered (zip owns written))
  all_limited [] written f s o = tt
  all_limited (x ∷ xs) [] f s o = tt
  all_limited (x ∷ xs) (ws ∷ written) f s o = (record { fits = f.0; small = s.0; once = o.0 }, all_limited xs written f.1 s.1 o.1)

  -- the statements of a module stand in the text
  abbrev StatementsSound : List Piece → Piece → Type 0
  StatementsSound ms p = AllByRecursion (Sound count) (statements_of ms p)

  modules_limited : (table : List (List ℕ)) (ts : Rest) → AllByRecursion (StatementsSound (modules_of ts)) (modules_of ts)
      → Gives (AllByRecursion IsLimited) (read_modules table ts)
  unfolding read_modules
  modules_limited table ts s =
      let ms = modules_of ts in
      let R = AllByRecursion IsLimited in
      gives_then (λ _. Unit {0}) R (no_fault Twice (second_module [] ms)) _ (gives_any (no_fault Twice (second_module [] ms)))
      (λ x u.
      gives_then (AllByRecursion (Fit MAX_OWN_NETS)) R (owns_within (λ p. at p.body) (read_own table ts) MAX_OWN_NETS ms) _
      (owns_fit (λ p. at p.body) (read_own table ts) MAX_OWN_NETS MAX_OWN_NETS (omega arith) ms)
      (λ owns fit.
      gives_then (AllByRecursion AllSmall) R (all_of (read_written ms) ms) _
      (gives_each (StatementsSound ms) AllSmall (read_written ms) (λ p h. written_small ms p h) ms s)
      (λ written small.
      gives_then (λ _. first_of (map (second_instance []) written) ≡ None) R (no_fault Twice (first_of (map (second_instance []) written))) _
      (gives_none Twice (first_of (map (second_instance []) written)))
      (λ y none. gives_ok R (map gathered (zip owns written)) (all_limited owns written fit small (all_once written none))))))

-- ---- the modules of a text

all_members : {X : Type 0} (P : X → Type 0) (xs : List X) → All P xs → (x : X) → Member x xs → P x
all_members P xs a x m = let c = contains xs x m in subst P c.2 (a c.0 x c.1)

statements_sound : (source : List ℕ) (tokens : List Token) → let ts = lexemes_of source tokens in
    AllByRecursion (StatementsSound (length (names_of source tokens)) (modules_of ts)) (modules_of ts)
statements_sound source tokens =
    let ts = lexemes_of source tokens in
    let count = length (names_of source tokens) in
    Rattle.bs_flat_meaning.proofs.MemberLemmas.all_of (StatementsSound count (modules_of ts)) (modules_of ts)
    (λ p m.
    let of_text = all_members (IsOfText ts) (modules_of ts) (own_texts_are_of_the_text ts) p m in
    Rattle.bs_flat_meaning.proofs.MemberLemmas.all_of (Sound count) (statements_of (modules_of ts) p)
    (λ s l.
    let here = all_members (λ (u : Rest). All (Contains ts) u × (length u ≤ length ts)) (statements_of (modules_of ts) p) of_text.statements s l in
    Rattle.bs_flat_meaning.proofs.MemberLemmas.all_of (IsNumbered count) s
    (λ t k.
    all_member (IsNumbered count) ts t (lexemes_numbered source tokens)
    (contained ts t (all_members (Contains ts) s here.0 t k)))))

counted : (table : List (List ℕ)) (m : ReadModule) → length table ≤ MAX_BYTES → IsLimited (length table) m → IsRead table m → HasFewNets table m
unfolding whole_parts
counted table m few limited read =
    let count = length table in
    let small : (w : Written) → Member w m.written → WrittenSmall count w = λ w l. all_member (WrittenSmall count) m.written w limited.small l in
    let instances =
    instances_few [] (range_with_len 0 count) m.written limited.once
    (λ w l. let below = (small w l).named in inr (in_range 0 count w.name.id (omega arith) (omega (arith, below)))) in
    let keys =
    terms_add_few table (scope_of m) m.own (flat_map (λ w. terms_of w.connections) m.written)
    (λ t l.
    let w = flattened (λ (v : Written). terms_of v.connections) t m.written l in
    all_member (TermSmall count) (terms_of w.0.connections) t (small w.0 w.1).terms w.2) in
    record {
      names = limited.fits;
      instances = omega (arith, instances, length-range_with_len 0 count, few);
      keys = omega (arith, keys, few, limited.fits);
      ports = λ k d lt. let room = read.room k d lt in omega (arith, room, limited.fits);
    }

pub modules_are_counted : ModulesAreCounted
modules_are_counted source tokens ks t e =
    let ts = lexemes_of source tokens in
    let table = names_of source tokens in
    let few = few_names source tokens t in
    let limited =
    All-from_recursion (IsLimited (length table)) ks ((modules_limited (length table) table ts (statements_sound source tokens)).is ks e) in
    let read = read_modules_are_whole source tokens ks t.are e in
    λ k d lt. counted table (get_or ks k d) (omega (arith, few)) (limited k d lt) (read k d lt)
