-- The connections of an instance are matched with its ports as the definition says.
use Rattle.std.proofs.Common.{◌≡◌, ℕ, zero, suc, ◌<◌, ◌≤◌, ◌+◌, Bool, true, false, List, [], ◌∷◌, ◌++◌, map, drop, length, get_or, refl, sym, ap, ◌∙◌, arith}
use Rattle.std.proofs.Common.{Option, Some, None, add-one, append_assoc, cond, nat_eq}
use Rattle.std.specs.Prelude.{is_some, option_map, option_and_then, slice_get, find, ◌==◌}
use Rattle.std.specs.List.{list_any}
use Rattle.std.specs.Prelude.{not, nat_lt, Result, Ok, Err, IfOk}
use Rattle.std.specs.List.{position_or_len}
use Rattle.std.proofs.lemmas.Bool.{ltb-false}
use Rattle.std.proofs.lemmas.List.{drop_more, drop_all, length-map}
use Rattle.std.proofs.lemmas.List.Folds.{find_at}
use Rattle.bs_lex.specs.declared.lexeme.Name.{Name}
use Rattle.bs_verilog_syntax.specs.declared.tree.Connection.{Connection}
use Rattle.bs_verilog_syntax.specs.declared.tree.Connection.TheVariants.{Empty, Place, Pin}
use Rattle.bs_flat_meaning.specs.Connecting as flat
use Rattle.bs_flat_connect.specs.Ports.{port_in}
use Rattle.bs_flat_connect.specs.declared.ports.Port.{Port}
use Rattle.bs_flat_connect.specs.declared.ports.Ports.{Ports}
use Rattle.bs_flat_connect.specs.declared.matching.Matched.{Matched}
use Rattle.bs_flat_connect.specs.Matching.{refused_pin, matched_of, by_place, places_from, port_with, pin_of, given_with, pins_from, AreMatched}

-- ---- loops

pub places_more : (ports : List Port) (all : List Matched) (cs : List Connection) (i : ℕ) (c d : Connection) → i < length cs → c ≡ get_or cs i d →
    places_from ports 0 cs ≡ all ++ places_from ports i (drop i cs) →
    places_from ports 0 cs ≡ (all ++ by_place (slice_get ports i) c ∷ []) ++ places_from ports (i + 1) (drop (i + 1) cs)
unfolding places_from
places_more ports all cs i c d lt here so_far =
    so_far
    ∙ (ap (λ l. all ++ places_from ports i l) (drop_more cs i d lt ∙ ap (λ x. x ∷ drop (i + 1) cs) (sym here))
    ∙ sym (append_assoc all (by_place (slice_get ports i) c ∷ []) (places_from ports (i + 1) (drop (i + 1) cs))))

pub places_end : (ports : List Port) (all : List Matched) (cs : List Connection) (i : ℕ) → length cs ≤ i →
    places_from ports 0 cs ≡ all ++ places_from ports i (drop i cs) → all ≡ places_from ports 0 cs
unfolding places_from
places_end ports all cs i le so_far = sym (so_far ∙ (ap (λ l. all ++ places_from ports i l) (drop_all i cs le) ∙ none all))
  where
    none : (l : List Matched) → l ++ [] ≡ l
    none [] = refl
    none (x ∷ xs) = ap (λ r. x ∷ r) (none xs)

pub pins_more : (ids : List ℕ) (ports : List Port) (start given next : ℕ → Bool) (all : List Matched) (cs : List Connection) (i : ℕ) (c d : Connection) →
    i < length cs → c ≡ get_or cs i d → ((id : ℕ) → next id ≡ given_with given c id) →
    pins_from ids ports start cs ≡ all ++ pins_from ids ports given (drop i cs) →
    pins_from ids ports start cs ≡ (all ++ pin_of ids ports given c) ++ pins_from ids ports next (drop (i + 1) cs)
unfolding pins_from
pins_more ids ports start given next all cs i c d lt here same so_far =
    let e : next ≡ given_with given c = λ j id. same id j in
    so_far
    ∙ (ap (λ l. all ++ pins_from ids ports given l) (drop_more cs i d lt ∙ ap (λ x. x ∷ drop (i + 1) cs) (sym here))
    ∙ (sym (append_assoc all (pin_of ids ports given c) (pins_from ids ports (given_with given c) (drop (i + 1) cs)))
    ∙ ap (λ (g : ℕ → Bool). (all ++ pin_of ids ports given c) ++ pins_from ids ports g (drop (i + 1) cs)) (sym e)))

pub pins_end : (ids : List ℕ) (ports : List Port) (start given : ℕ → Bool) (all : List Matched) (cs : List Connection) (i : ℕ) → length cs ≤ i →
    pins_from ids ports start cs ≡ all ++ pins_from ids ports given (drop i cs) → all ≡ pins_from ids ports start cs
unfolding pins_from
pins_end ids ports start given all cs i le so_far = sym (so_far ∙ (ap (λ l. all ++ pins_from ids ports given l) (drop_all i cs le) ∙ none all))
  where
    none : (l : List Matched) → l ++ [] ≡ l
    none [] = refl
    none (x ∷ xs) = ap (λ r. x ∷ r) (none xs)

-- ---- the definition

at_drop : {X : Type 0} (xs : List X) (k : ℕ) (y : X) (ys : List X) → drop k xs ≡ y ∷ ys → (slice_get xs k ≡ Some y) × (drop (suc k) xs ≡ ys)
at_drop [] zero y ys e = absurd cc
at_drop [] (suc k) y ys e = absurd cc
at_drop (x ∷ xs) zero y ys e = let a : x ≡ y = cc in let b : xs ≡ ys = cc in (ap Some a, b)
at_drop (x ∷ xs) (suc k) y ys e = at_drop xs k y ys e

past_drop : {X : Type 0} (xs : List X) (k : ℕ) → drop k xs ≡ [] → (slice_get xs k ≡ None) × (drop (suc k) xs ≡ [])
past_drop [] zero e = (refl, refl)
past_drop [] (suc k) e = (refl, refl)
past_drop (x ∷ xs) zero e = absurd cc
past_drop (x ∷ xs) (suc k) e = past_drop xs k e

map_drop : {X Y : Type 0} (f : X → Y) (xs : List X) (k : ℕ) → drop k (map f xs) ≡ map f (drop k xs)
map_drop f [] zero = refl
map_drop f [] (suc k) = refl
map_drop f (x ∷ xs) zero = refl
map_drop f (x ∷ xs) (suc k) = map_drop f xs k

get_past : {X : Type 0} (xs : List X) (n : ℕ) → length xs ≤ n → slice_get xs n ≡ None
get_past [] n le = refl
get_past (x ∷ xs) zero le = absurd (omega (arith, le))
get_past (x ∷ xs) (suc n) le = get_past xs n (omega (arith, le))

module _ (below : flat.ReadModule) where
  places_same : (ports : List Port) (ps : List flat.Port) (k : ℕ) (cs : List Connection) → drop k ports ≡ map (port_in below) ps →
      places_from ports k cs ≡ map (matched_of below) (flat.by_places ps cs)
  unfolding places_from flat.by_places
  places_same ports ps k [] e = refl
  places_same ports [] k (c ∷ cs) e =
      let past = past_drop ports k e in
      ap (λ (o : Option Port). by_place o c ∷ places_from ports (k + 1) cs) past.0
      ∙ ap (λ l. by_place None c ∷ l) (places_same ports [] (k + 1) cs (ap (λ n. drop n ports) (add-one k) ∙ past.1))
  places_same ports (p ∷ ps) k (c ∷ cs) e =
      let at = at_drop ports k (port_in below p) (map (port_in below) ps) e in
      ap (λ (o : Option Port). by_place o c ∷ places_from ports (k + 1) cs) at.0
      ∙ ap (λ l. by_place (Some (port_in below p)) c ∷ l) (places_same ports ps (k + 1) cs (ap (λ n. drop n ports) (add-one k) ∙ at.1))

  get_mapped : (ps : List flat.Port) (n : ℕ) → slice_get (map (port_in below) ps) n ≡ option_map (port_in below) (slice_get ps n)
  get_mapped [] n = refl
  get_mapped (p ∷ ps) zero = refl
  get_mapped (p ∷ ps) (suc n) = get_mapped ps n

  place_mapped : (ps : List flat.Port) (id : ℕ) →
      position_or_len (λ k. k == id) (map (λ (q : flat.Port). q.name.id) ps) ≡ position_or_len (λ (p : flat.Port). flat.is_id id p.name) ps
  place_mapped [] id = refl
  place_mapped (p ∷ ps) id = ap (λ n. cond (not (nat_eq p.name.id id)) (1 + n) 0) (place_mapped ps id)

  port_same : (ps : List flat.Port) (id : ℕ) →
      port_with (map (λ q. q.name.id) ps) (map (port_in below) ps) id ≡ option_map (port_in below) (find (λ p. flat.is_id id p.name) ps)
  port_same ps id = by (nat_lt place (length ids)) refl ∙ there
    where
      ids : List ℕ
      ids = map (λ (q : flat.Port). q.name.id) ps

      ports : List Port
      ports = map (port_in below) ps

      place : ℕ
      place = position_or_len (λ k. k == id) ids

      there : slice_get ports place ≡ option_map (port_in below) (find (λ p. flat.is_id id p.name) ps)
      there =
          get_mapped ps place
          ∙ ap (option_map (port_in below)) (ap (λ n. slice_get ps n) (place_mapped ps id) ∙ sym (find_at (λ (p : flat.Port). flat.is_id id p.name) ps))

      by : (b : Bool) → nat_lt place (length ids) ≡ b → option_and_then (slice_get ports) (cond b (Some place) None) ≡ slice_get ports place
      by true e = refl
      by false e =
          let past = ltb-false place (length ids) e in
          sym (get_past ports place (omega (arith, past, length-map ps (λ (q : flat.Port). q.name.id), length-map ps (port_in below))))

  some_same : (o : Option flat.Port) → is_some (option_map (port_in below) o) ≡ is_some o
  some_same (Some p) = refl
  some_same None = refl

  pins_same : (ps : List flat.Port) (given : List Name) (cs : List Connection) →
      pins_from (map (λ q. q.name.id) ps) (map (port_in below) ps) (λ id. list_any (flat.is_id id) given) cs ≡ map (matched_of below) (flat.by_pins ps given cs)
  unfolding pins_from flat.by_pins
  pins_same ps given [] = refl
  pins_same ps given (Pin n t ∷ cs) =
      let found = find (λ p. flat.is_id n.id p.name) ps in
      let second = list_any (flat.is_id n.id) given in
      let rest = pins_from (map (λ q. q.name.id) ps) (map (port_in below) ps) (λ id. list_any (flat.is_id id) (n ∷ given)) cs in
      ap (λ (o : Option Port). record { refused = refused_pin n (is_some o) second; term = t; port = o } ∷ rest) (port_same ps n.id)
      ∙ (ap (λ (b : Bool). record { refused = refused_pin n b second; term = t; port = option_map (port_in below) found } ∷ rest) (some_same found)
      ∙ ap (λ l. matched_of below (record { pin = Some n; is_second = second; term = t; port = found }) ∷ l) (pins_same ps (n ∷ given) cs))
  pins_same ps given (Empty ∷ cs) = pins_same ps given cs
  pins_same ps given (Place t ∷ cs) = pins_same ps given cs

pub places_matched : (p : Ports) (cs : List Connection) (all : List Matched) → flat.has_pins cs ≡ false → all ≡ places_from p.ports 0 cs → AreMatched p cs all
places_matched p cs all plain e =
    record {
      is = λ table below a.
          e ∙ (places_same below p.ports (flat.ports_of table below) 0 cs a.ports
          ∙ sym (ap (λ b. map (matched_of below) (cond b (flat.by_pins (flat.ports_of table below) [] cs) (flat.by_places (flat.ports_of table below) cs))) plain));
    }

pub pins_matched : (p : Ports) (cs : List Connection) (all : List Matched) → flat.has_pins cs ≡ true → all ≡ pins_from p.ids.keys p.ports (λ id. false) cs →
    AreMatched p cs all
pins_matched p cs all pins e =
    record {
      is = λ table below a.
          e ∙ (ap (λ (ids : List ℕ). pins_from ids p.ports (λ id. false) cs) a.ids
          ∙ (ap (λ (ps : List Port). pins_from (map (λ q. q.name.id) (flat.ports_of table below)) ps (λ id. false) cs) a.ports
          ∙ (pins_same below (flat.ports_of table below) [] cs
          ∙ sym (ap (λ b. map (matched_of below) (cond b (flat.by_pins (flat.ports_of table below) [] cs) (flat.by_places (flat.ports_of table below) cs))) pins))));
    }

pub places_answer : {E : Type 0} (p : Ports) (cs : List Connection) (result : Result (List Matched) E) → flat.has_pins cs ≡ false →
    IfOk result (λ all. all ≡ places_from p.ports 0 cs) → IfOk result (λ all. AreMatched p cs all)
places_answer p cs (Ok all) plain e = places_matched p cs all plain e
places_answer p cs (Err f) plain e = e

pub pins_answer : {E : Type 0} (p : Ports) (cs : List Connection) (result : Result (List Matched) E) → flat.has_pins cs ≡ true →
    IfOk result (λ all. all ≡ pins_from p.ids.keys p.ports (λ id. false) cs) → IfOk result (λ all. AreMatched p cs all)
pins_answer p cs (Ok all) pins e = pins_matched p cs all pins e
pins_answer p cs (Err f) pins e = e
