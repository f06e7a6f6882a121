-- The own text of a module, also alone, and each of its instance statements, is put together from the text.
use Rattle.std.proofs.Common.{◌≡◌, ℕ, zero, suc, ◌+◌, ◌-◌, ◌≤◌, Bool, true, false, cond, not, ◌&&◌, ◌==◌, List, [], ◌∷◌, ◌++◌, length, take, drop, filter}
use Rattle.std.proofs.Common.{Option, Some, None, Ok, Err, All, Contains, refl, sym, ap, ◌∙◌, subst, arith, ⊎_elim, length-append, append-nil, append_assoc, take_at}
use Rattle.std.specs.Prelude.{option_map, if◌then◌else◌}
use Rattle.std.specs.List.{AllByRecursion, flat_map}
use Rattle.std.proofs.lemmas.List.{take-append-drop}
use Rattle.std.proofs.lemmas.List.Elements.{All-append, All-from_recursion, All-filter, All-map, All-weaker}
use Rattle.bs_lex.specs.Packed.{Lexeme}
use Rattle.bs_lex.specs.declared.lexeme.Sort.TheVariants as sorts
use Rattle.bs_verilog_syntax.specs.declared.fault.VerilogFault.TheVariants.{Syntax}
use Rattle.bs_verilog_syntax.specs.declared.reading.AttributeStep.{AttributeStep}
use Rattle.bs_verilog_syntax.specs.declared.reading.AttributeStep.TheVariants.{On, Over, Unclosed}
use Rattle.bs_verilog_syntax.specs.Reading.{Rest, Skip, at, sort, is_at}
use Rattle.bs_verilog_syntax.specs.Terms.{attribute_step, attributes_from, attributes}
use Rattle.bs_verilog_syntax.specs.Modules.{is_module, is_endmodule}
use Rattle.bs_flat_meaning.specs.Pieces.{Piece, to_endmodule, before, loose, first_piece, pieces_from, pieces, is_design, modules_of, to_semicolon, Item, items_from}
use Rattle.bs_flat_meaning.specs.Pieces.{body_of, past_attributes, is_instancing, own_body, own_piece, own_text, statements_of}
use Rattle.bs_flat_meaning.proofs.MemberLemmas.{Member, all_of, contains, member_left, member_right, member_split}
use Rattle.bs_flat_meaning.proofs.GivenLemmas.{Gives, gives_ok, gives_err}
use Rattle.bs_flat_modules.specs.Copying.{part}
use Rattle.bs_flat_modules.specs.Items.{is_statement, kept}
use Rattle.bs_flat_modules.specs.Owns as owns
use Rattle.bs_flat_modules.specs.Texts.{AloneTextsAreOfTheText, IsOfText, OwnTextsAreOfTheText}

-- ---- lexemes that are put together from others

-- all of these stand among those, which are no fewer
record IsFrom (ts us : Rest) : Type 0 where
  members : (t : Lexeme) → Member t us → Member t ts
  shorter : length us ≤ length ts

from_self : (ts : Rest) → IsFrom ts ts
from_self ts = record { members = λ t m. m; shorter = omega arith }

from_none : (ts : Rest) → IsFrom ts []
from_none ts = record { members = λ t m. absurd m; shorter = omega arith }

from_further : (ts us vs : Rest) → IsFrom ts us → IsFrom us vs → IsFrom ts vs
from_further ts us vs a b = record { members = λ t m. a.members t (b.members t m); shorter = omega (arith, a.shorter, b.shorter) }

from_left : (us vs : Rest) → IsFrom (us ++ vs) us
from_left us vs = record { members = λ t m. member_left t us vs m; shorter = omega (arith, length-append us vs) }

from_right : (us vs : Rest) → IsFrom (us ++ vs) vs
from_right us vs = record { members = λ t m. member_right t us vs m; shorter = omega (arith, length-append us vs) }

from_both : (a b c d : Rest) → IsFrom a c → IsFrom b d → IsFrom (a ++ b) (c ++ d)
from_both a b c d f g = record {
  members = λ t m.
      ⊎_elim (λ (l : Member t c). member_left t a b (f.members t l)) (λ (r : Member t d). member_right t a b (g.members t r)) (member_split t c d m);
  shorter = omega (arith, length-append a b, length-append c d, f.shorter, g.shorter);
}

from_same : (ts us vs : Rest) → ts ≡ us → IsFrom us vs → IsFrom ts vs
from_same ts us vs e f = subst (λ (l : Rest). IsFrom l vs) (sym e) f

all_from : (ts us : Rest) → IsFrom ts us → All (Contains ts) us
all_from ts us f = All-from_recursion (Contains ts) us (all_of (Contains ts) us (λ t m. contains ts t (f.members t m)))

-- ---- where texts are cut

abbrev AreCut : Rest → Rest × Rest → Type 0
AreCut ts x = ts ≡ x.0 ++ x.1

abbrev IfCut : Rest → Option (Rest × Rest) → Type 0
IfCut ts (Some x) = AreCut ts x
IfCut ts None = Unit {0}

cut_later : (t : Lexeme) (ts : Rest) (x : Rest × Rest) → AreCut ts x → AreCut (t ∷ ts) (t ∷ x.0, x.1)
cut_later t ts x e = ap (λ (l : Rest). t ∷ l) e

endmodule_cut : (ts : Rest) → IfCut ts (to_endmodule ts)
unfolding to_endmodule
endmodule_cut [] = tt
endmodule_cut (t ∷ ts) = by (is_endmodule t.sort) (to_endmodule ts) (endmodule_cut ts)
  where
    by : (b : Bool) (o : Option (Rest × Rest)) → IfCut ts o → IfCut (t ∷ ts) (cond b (Some (t ∷ [], ts)) (option_map (λ r. (t ∷ r.0, r.1)) o))
    by true o h = refl
    by false None h = tt
    by false (Some r) h = cut_later t ts r h

semicolon_cut : (inside : Bool) (ts : Rest) → AreCut ts (to_semicolon inside ts)
unfolding to_semicolon
semicolon_cut inside [] = refl
semicolon_cut inside (t ∷ ts) = by (is_endmodule t.sort) (not inside && is_at ";" (t ∷ ts)) (to_semicolon next ts) (semicolon_cut next ts)
  where
    next : Bool
    next = elim t.sort as (λ _. Bool) [ sorts.AttrOpen ↦ true | sorts.AttrClose ↦ false | _ ↦ inside ]

    by : (b c : Bool) (more : Rest × Rest) → AreCut ts more → AreCut (t ∷ ts) (cond b ([], t ∷ ts) (cond c (t ∷ [], ts) (t ∷ more.0, more.1)))
    by true c more h = refl
    by false true more h = refl
    by false false more h = cut_later t ts more h

-- a later part of a text
record IsLater (ts later : Rest) : Type 0 where
  front : Rest
  whole : ts ≡ front ++ later

later_more : (t : Lexeme) (ts later : Rest) → IsLater ts later → IsLater (t ∷ ts) later
later_more t ts later l = record { front = t ∷ l.front; whole = ap (λ (us : Rest). t ∷ us) l.whole }

attributes_later : (inside : Bool) (ts : Rest) → Gives (IsLater ts) (attributes_from inside ts)
unfolding attributes_from
attributes_later inside [] = gives_ok (IsLater []) [] (record { front = []; whole = refl })
attributes_later inside (t ∷ ts) = by (attribute_step inside t.sort) (λ next. attributes_later next ts)
  where
    by : (step : AttributeStep) → ((next : Bool) → Gives (IsLater ts) (attributes_from next ts))
        → Gives (IsLater (t ∷ ts)) (elim step as (λ _. Skip) [ On next ↦ attributes_from next ts | Over ↦ Ok (t ∷ ts) | Unclosed ↦ Err (Syntax t.at) ])
    by (On next) later = record { is = λ here e. later_more t ts here ((later next).is here e) }
    by Over later = gives_ok (IsLater (t ∷ ts)) (t ∷ ts) (record { front = []; whole = refl })
    by Unclosed later = gives_err (IsLater (t ∷ ts)) (Syntax t.at)

before_cut : (ts later : Rest) → IsLater ts later → ts ≡ before ts later ++ later
before_cut ts later l =
    let long : length ts - length later ≡ length l.front = omega (arith, ap length l.whole, length-append l.front later) in
    let front : before ts later ≡ l.front =
    ap (λ n. take n ts) long ∙ (ap (λ (us : Rest). take (length l.front) us) l.whole ∙ take_at l.front later (length l.front) refl) in
    l.whole ∙ ap (λ (us : Rest). us ++ later) (sym front)

from_later : (ts later : Rest) → IsLater ts later → IsFrom ts later
from_later ts later l = from_same ts (l.front ++ later) later l.whole (from_right l.front later)

past_from : (ts : Rest) → IsFrom ts (past_attributes ts)
past_from ts = by (attributes ts) (attributes_later false ts)
  where
    by : (r : Skip) → Gives (IsLater ts) r → IsFrom ts (elim r as (λ _. Rest) [ Ok here ↦ here | Err fault ↦ [] ])
    by (Ok here) g = from_later ts here (g.is here refl)
    by (Err fault) g = from_none ts

-- ---- pieces

abbrev lexemes : Piece → Rest
lexemes p = p.attributes ++ p.body

abbrev IsCut : Rest → Piece × Rest → Type 0
IsCut ts x = ts ≡ lexemes x.0 ++ x.1

loose_cut : (ts us after : Rest) → ts ≡ us ++ after → IsCut ts (loose us after)
loose_cut ts us after e = e ∙ ap (λ (l : Rest). l ++ after) (sym (append-nil us))

first_cut : (t : Lexeme) (ts : Rest) → IsCut (t ∷ ts) (first_piece t ts)
unfolding first_piece
first_cut t ts = by (attributes (t ∷ ts)) (attributes_later false (t ∷ ts))
  where
    all : IsCut (t ∷ ts) (loose (t ∷ ts) [])
    all = loose_cut (t ∷ ts) (t ∷ ts) [] (sym (append-nil (t ∷ ts)))

    ended : (here : Rest) → IsLater (t ∷ ts) here → (o : Option (Rest × Rest)) → IfCut here o
        → IsCut (t ∷ ts) (elim o as (λ _. Piece × Rest) [
          | Some m ↦ (record { attributes = before (t ∷ ts) here; body = m.0 }, m.1)
          | None ↦ loose (t ∷ ts) []
        ])
    ended here l (Some m) h =
        before_cut (t ∷ ts) here l
        ∙ (ap (λ (us : Rest). before (t ∷ ts) here ++ us) h ∙ sym (append_assoc (before (t ∷ ts) here) m.0 m.1))
    ended here l None h = all

    here_cut : (here : Rest) (b c : Bool) → IsLater (t ∷ ts) here
        → IsCut (t ∷ ts) (cond b (elim (to_endmodule here) as (λ _. Piece × Rest) [
          | Some m ↦ (record { attributes = before (t ∷ ts) here; body = m.0 }, m.1)
          | None ↦ loose (t ∷ ts) []
        ]) (cond c (loose (t ∷ []) ts) (loose (before (t ∷ ts) here) here)))
    here_cut here true c l = ended here l (to_endmodule here) (endmodule_cut here)
    here_cut here false true l = loose_cut (t ∷ ts) (t ∷ []) ts refl
    here_cut here false false l = loose_cut (t ∷ ts) (before (t ∷ ts) here) here (before_cut (t ∷ ts) here l)

    by : (r : Skip) → Gives (IsLater (t ∷ ts)) r
        → IsCut (t ∷ ts) (elim r as (λ _. Piece × Rest) [
          | Err fault ↦ loose (t ∷ ts) []
          | Ok here ↦
              if is_module (sort here) then (elim (to_endmodule here) as (λ _. Piece × Rest) [
                | Some m ↦ (record { attributes = before (t ∷ ts) here; body = m.0 }, m.1)
                | None ↦ loose (t ∷ ts) []
              ])
              else if length here == length ts + 1 then loose (t ∷ []) ts
              else loose (before (t ∷ ts) here) here
        ])
    by (Err fault) g = all
    by (Ok here) g = here_cut here (is_module (sort here)) (length here == length ts + 1) (g.is here refl)

-- what is put together from each piece, is put together from the text
pieces_from_text : (f : Piece → Rest) → ((p : Piece) → IsFrom (lexemes p) (f p)) → (n : ℕ) (ts : Rest) → IsFrom ts (flat_map f (pieces_from n ts))
unfolding pieces_from
pieces_from_text f g zero ts = from_none ts
pieces_from_text f g (suc n) [] = from_none []
pieces_from_text f g (suc n) (t ∷ ts) =
    let first = first_piece t ts in
    from_same (t ∷ ts) (lexemes first.0 ++ first.1) _ (first_cut t ts)
    (from_both (lexemes first.0) first.1 (f first.0) (flat_map f (pieces_from n first.1)) (g first.0) (pieces_from_text f g n first.1))

abbrev IsPiece : Rest → Piece → Type 0
IsPiece ts p = IsFrom ts (lexemes p)

each_piece : (whole : Rest) (n : ℕ) (ts : Rest) → IsFrom whole ts → AllByRecursion (IsPiece whole) (pieces_from n ts)
unfolding pieces_from
each_piece whole zero ts f = tt
each_piece whole (suc n) [] f = tt
each_piece whole (suc n) (t ∷ ts) f =
    let first = first_piece t ts in
    let cut = first_cut t ts in (
      from_further whole (t ∷ ts) (lexemes first.0) f (from_same (t ∷ ts) (lexemes first.0 ++ first.1) _ cut (from_left (lexemes first.0) first.1)),
      each_piece whole n first.1
          (from_further whole (t ∷ ts) first.1 f (from_same (t ∷ ts) (lexemes first.0 ++ first.1) _ cut (from_right (lexemes first.0) first.1))),
    )

-- ---- items

abbrev together : (Item → Rest) → List Item × Rest → Rest
together f x = flat_map f x.0 ++ x.1

items_from_text : (f : Item → Rest) → ((i : Item) → IsFrom i.lexemes (f i)) → (n : ℕ) (ts : Rest)
    → IsFrom ts (together f (items_from n ts))
unfolding items_from
items_from_text f g zero ts = from_self ts
items_from_text f g (suc n) ts =
    by (is_endmodule (sort ts)) (to_semicolon false ts) (semicolon_cut false ts) (items_from n (to_semicolon false ts).1)
    (items_from_text f g n (to_semicolon false ts).1)
  where
    by : (b : Bool) (first : Rest × Rest) → AreCut ts first → (others : List Item × Rest) → IsFrom first.1 (together f others)
        → IsFrom ts (together f (cond b ([], ts) (record { lexemes = first.0; from = ts } ∷ others.0, others.1)))
    by true first c others h = from_self ts
    by false first c others h =
        let item : Item = record { lexemes = first.0; from = ts } in
        from_same ts (first.0 ++ first.1) _ c
        (subst (λ (l : Rest). IsFrom (first.0 ++ first.1) l) (sym (append_assoc (f item) (flat_map f others.0) others.1))
        (from_both first.0 first.1 (f item) (together f others) (g item) h))

-- a header, and what is put together from each item
cut_from : (f : Item → Rest) → ((i : Item) → IsFrom i.lexemes (f i)) → (body : Rest)
    → IsFrom body (let head = to_semicolon false body in head.0 ++ together f (items_from (length head.1) head.1))
cut_from f g body =
    let head = to_semicolon false body in
    from_same body (head.0 ++ head.1) _ (semicolon_cut false body)
    (from_both head.0 head.1 head.0 _ (from_self head.0) (items_from_text f g (length head.1) head.1))

abbrev IsItem : Rest → Item → Type 0
IsItem ts i = IsFrom ts i.from

abbrev AreItems : Rest → List Item × Rest → Type 0
AreItems ts x = AllByRecursion (IsItem ts) x.0

each_item : (whole : Rest) (n : ℕ) (ts : Rest) → IsFrom whole ts → AreItems whole (items_from n ts)
unfolding items_from
each_item whole zero ts f = tt
each_item whole (suc n) ts f =
    by (is_endmodule (sort ts)) (to_semicolon false ts) (items_from n (to_semicolon false ts).1)
    (each_item whole n (to_semicolon false ts).1
    (from_further whole ts (to_semicolon false ts).1 f
    (from_same ts _ _ (semicolon_cut false ts) (from_right (to_semicolon false ts).0 (to_semicolon false ts).1))))
  where
    by : (b : Bool) (first : Rest × Rest) (others : List Item × Rest) → AreItems whole others
        → AreItems whole (cond b ([], ts) (record { lexemes = first.0; from = ts } ∷ others.0, others.1))
    by true first others h = tt
    by false first others h = (f, h)

-- ---- own texts

unless_from : (b : Bool) (ts : Rest) → IsFrom ts (cond b [] ts)
unless_from true ts = from_none ts
unless_from false ts = from_self ts

module _ (ms : List Piece) where
  abbrev own_item : Item → Rest
  own_item i = if is_instancing ms i then [] else i.lexemes

  item_from : (i : Item) → IsFrom i.lexemes (own_item i)
  item_from i = unless_from (is_instancing ms i) i.lexemes

  body_from : (p : Piece) → IsFrom (lexemes p) (own_body ms p)
  body_from p = from_both p.attributes p.body p.attributes _ (from_self p.attributes) (cut_from own_item item_from p.body)

  piece_from : (place : ℕ) (p : Piece) → IsFrom (lexemes p) (own_piece ms place p)
  piece_from place p = by (not (is_design p)) (at p.body == place)
    where
      by : (b c : Bool) → IsFrom (lexemes p) (cond b (lexemes p) (cond c (own_body ms p) []))
      by true c = from_self (lexemes p)
      by false true = body_from p
      by false false = from_none (lexemes p)

  abbrev IsStatement : Rest → Rest → Type 0
  IsStatement ts s = All (Contains ts) s × (length s ≤ length ts)

  statements_from : (ts : Rest) (p : Piece) → IsFrom ts p.body → All (IsStatement ts) (statements_of ms p)
  unfolding statements_of
  statements_from ts p f =
      let head = to_semicolon false p.body in
      let items = (body_of p).items in
      let later : IsFrom ts head.1 =
      from_further ts p.body head.1 f (from_same p.body (head.0 ++ head.1) _ (semicolon_cut false p.body) (from_right head.0 head.1)) in
      let each : All (IsItem ts) items = All-from_recursion (IsItem ts) items (each_item ts (length head.1) head.1 later) in
      All-map (IsStatement ts) (λ i. past_attributes i.from) (filter (is_instancing ms) items)
      (All-weaker (IsItem ts) (λ (i : Item). IsStatement ts (past_attributes i.from))
      (λ i g. let s = from_further ts i.from (past_attributes i.from) g (past_from i.from) in (all_from ts _ s, s.shorter))
      (filter (is_instancing ms) items) (All-filter (is_instancing ms) (IsItem ts) items each))

text_from : (ts : Rest) (m : Piece) → IsFrom ts (own_text ts m)
unfolding own_text
text_from ts m = pieces_from_text (own_piece (modules_of ts) (at m.body)) (piece_from (modules_of ts) (at m.body)) (length ts) ts

of_text : (ts : Rest) (p : Piece) → IsPiece ts p → IsOfText ts p
of_text ts p f = record {
  own = all_from ts (own_text ts p) (text_from ts p);
  shorter = (text_from ts p).shorter;
  statements = statements_from (modules_of ts) ts p (from_further ts (lexemes p) p.body f (from_right p.attributes p.body));
}

pub own_texts_are_of_the_text : OwnTextsAreOfTheText
own_texts_are_of_the_text ts =
    All-weaker (IsPiece ts) (IsOfText ts) (of_text ts) (modules_of ts)
    (All-filter is_design (IsPiece ts) (pieces ts)
    (All-from_recursion (IsPiece ts) (pieces ts) (each_piece ts (length ts) ts (from_self ts))))

-- ---- own texts alone

part_from : (ts : Rest) (from stop : ℕ) → IsFrom ts (part ts from stop)
part_from ts from stop =
    let later = drop from ts in
    from_further ts later (part ts from stop) (from_same ts (take from ts ++ later) later (sym (take-append-drop from ts)) (from_right (take from ts) later))
    (from_same later (take (stop - from) later ++ drop (stop - from) later) _ (sym (take-append-drop (stop - from) later))
    (from_left (take (stop - from) later) (drop (stop - from) later)))

alone_from : (marks : ℕ → Bool) (body : Rest) → IsFrom body (owns.own_body marks body)
alone_from marks body = cut_from (λ i. kept marks i.lexemes) (λ i. unless_from (is_statement marks i.lexemes) i.lexemes) body

pub alone_texts_are_of_the_text : AloneTextsAreOfTheText
alone_texts_are_of_the_text marks ts p =
    let body = part ts p.body p.stop in
    All-append (Contains ts) (part ts p.from p.body) (owns.own_body marks body) (all_from ts _ (part_from ts p.from p.body))
    (all_from ts _ (from_further ts body _ (part_from ts p.body p.stop) (alone_from marks body)))
