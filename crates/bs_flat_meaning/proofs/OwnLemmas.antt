-- The own text of a module is made of lexemes of the text.
use Rattle.std.proofs.Common.{ℕ, zero, suc, ◌+◌, ◌-◌, Bool, true, false, cond, not, ◌&&◌, ◌==◌, List, [], ◌∷◌, ◌++◌, length, take}
use Rattle.std.proofs.Common.{Option, Some, None, Ok, Err, refl}
use Rattle.std.specs.Prelude.{option_map, if◌then◌else◌}
use Rattle.std.specs.List.{AllByRecursion, flat_map}
use Rattle.bs_lex.specs.Packed.{Lexeme}
use Rattle.bs_lex.specs.declared.lexeme.Sort.TheVariants as sorts
use Rattle.bs_verilog_syntax.specs.Reading.{Rest, Skip, at, sort, is_at}
use Rattle.bs_verilog_syntax.specs.Terms.{attributes}
use Rattle.bs_verilog_syntax.specs.Modules.{is_module, is_endmodule}
use Rattle.bs_flat_meaning.specs.Pieces.{Piece, to_endmodule, before, loose, first_piece, pieces_from, pieces, is_design, modules_of, to_semicolon, Item, items_from}
use Rattle.bs_flat_meaning.specs.Pieces.{body_of, is_instancing, own_body, own_piece, own_text}
use Rattle.bs_flat_meaning.proofs.NameLemmas.{all_append}
use Rattle.bs_flat_meaning.proofs.GivenLemmas.{Gives}
use Rattle.bs_flat_meaning.proofs.HeaderLemmas.{Sound, attributes_sound}

all_taken : {X : Type 0} (P : X → Type 0) (n : ℕ) (xs : List X) → AllByRecursion P xs → AllByRecursion P (take n xs)
all_taken P zero xs a = tt
all_taken P (suc n) [] a = a
all_taken P (suc n) (x ∷ xs) a = (a.0, all_taken P n xs a.1)

all_flat : {X Y : Type 0} (P : Y → Type 0) (Q : X → Type 0) (f : X → List Y) (xs : List X) → ((x : X) → Q x → AllByRecursion P (f x)) → AllByRecursion Q xs
    → AllByRecursion P (flat_map f xs)
all_flat P Q f [] g a = tt
all_flat P Q f (x ∷ xs) g a = all_append P (f x) (flat_map f xs) (g x a.0) (all_flat P Q f xs g a.1)

module _ (count : ℕ) where
  -- a part of lexemes, and what follows it
  record AreBoth (x : Rest × Rest) : Type 0 where
    front : Sound count x.0
    after : Sound count x.1

  abbrev IfBoth : Option (Rest × Rest) → Type 0
  IfBoth (Some x) = AreBoth x
  IfBoth None = Unit {0}

  endmodule_sound : (ts : Rest) → Sound count ts → IfBoth (to_endmodule ts)
  unfolding to_endmodule
  endmodule_sound [] s = tt
  endmodule_sound (t ∷ ts) s = by (is_endmodule t.sort) (to_endmodule ts) (endmodule_sound ts s.1)
    where
      by : (b : Bool) (o : Option (Rest × Rest)) → IfBoth o → IfBoth (cond b (Some (t ∷ [], ts)) (option_map (λ r. (t ∷ r.0, r.1)) o))
      by true o h = record { front = (s.0, tt); after = s.1 }
      by false None h = tt
      by false (Some r) h = record { front = (s.0, h.front); after = h.after }

  record IsPiece (p : Piece) : Type 0 where
    attributes : Sound count p.attributes
    body : Sound count p.body

  -- a piece, and what follows it
  record AreSoundParts (x : Piece × Rest) : Type 0 where
    piece : IsPiece x.0
    after : Sound count x.1

  before_sound : (ts later : Rest) → Sound count ts → Sound count (before ts later)
  before_sound ts later s = all_taken _ (length ts - length later) ts s

  loose_cut : (ts after : Rest) → Sound count ts → Sound count after → AreSoundParts (loose ts after)
  loose_cut ts after s a = record { piece = record { attributes = s; body = tt }; after = a }

  first_cut : (t : Lexeme) (ts : Rest) → Sound count (t ∷ ts) → AreSoundParts (first_piece t ts)
  unfolding first_piece
  first_cut t ts s = by (attributes (t ∷ ts)) (attributes_sound count false (t ∷ ts) s)
    where
      ended : (here : Rest) (o : Option (Rest × Rest)) → IfBoth o
          → AreSoundParts (elim o as (λ _. Piece × Rest) [
            | Some m ↦ (record { attributes = before (t ∷ ts) here; body = m.0 }, m.1)
            | None ↦ loose (t ∷ ts) []
          ])
      ended here (Some m) h = record { piece = record { attributes = before_sound (t ∷ ts) here s; body = h.front }; after = h.after }
      ended here None h = loose_cut (t ∷ ts) [] s tt

      here_cut : (here : Rest) (b c : Bool) → Sound count here
          → AreSoundParts (cond b (elim (to_endmodule here) as (λ _. Piece × Rest) [
            | Some m ↦ (record { attributes = before (t ∷ ts) here; body = m.0 }, m.1)
            | None ↦ loose (t ∷ ts) []
          ]) (cond c (loose (t ∷ []) ts) (loose (before (t ∷ ts) here) here)))
      here_cut here true c h = ended here (to_endmodule here) (endmodule_sound here h)
      here_cut here false true h = loose_cut (t ∷ []) ts (s.0, tt) s.1
      here_cut here false false h = loose_cut (before (t ∷ ts) here) here (before_sound (t ∷ ts) here s) h

      by : (r : Skip) → Gives (Sound count) r
          → AreSoundParts (elim r as (λ _. Piece × Rest) [
            | Err fault ↦ loose (t ∷ ts) []
            | Ok here ↦
                if is_module (sort here) then (elim (to_endmodule here) as (λ _. Piece × Rest) [
                  | Some m ↦ (record { attributes = before (t ∷ ts) here; body = m.0 }, m.1)
                  | None ↦ loose (t ∷ ts) []
                ])
                else if length here == length ts + 1 then loose (t ∷ []) ts
                else loose (before (t ∷ ts) here) here
          ])
      by (Err fault) g = loose_cut (t ∷ ts) [] s tt
      by (Ok here) g = here_cut here (is_module (sort here)) (length here == length ts + 1) (g.is here refl)

  pieces_sound : (n : ℕ) (ts : Rest) → Sound count ts → AllByRecursion IsPiece (pieces_from n ts)
  unfolding pieces_from
  pieces_sound zero ts s = tt
  pieces_sound (suc n) [] s = tt
  pieces_sound (suc n) (t ∷ ts) s =
      let cut = first_cut t ts s in
      (cut.piece, pieces_sound n (first_piece t ts).1 cut.after)

  -- ---- items

  semicolon_sound : (inside : Bool) (ts : Rest) → Sound count ts → AreBoth (to_semicolon inside ts)
  unfolding to_semicolon
  semicolon_sound inside [] s = record { front = tt; after = tt }
  semicolon_sound inside (t ∷ ts) s =
      by (is_endmodule t.sort) (not inside && is_at ";" (t ∷ ts)) (to_semicolon next ts) (semicolon_sound next ts s.1)
    where
      next : Bool
      next = elim t.sort as (λ _. Bool) [ sorts.AttrOpen ↦ true | sorts.AttrClose ↦ false | _ ↦ inside ]

      by : (b c : Bool) (more : Rest × Rest) → AreBoth more → AreBoth (cond b ([], t ∷ ts) (cond c (t ∷ [], ts) (t ∷ more.0, more.1)))
      by true c more h = record { front = tt; after = s }
      by false true more h = record { front = (s.0, tt); after = s.1 }
      by false false more h = record { front = (s.0, h.front); after = h.after }

  abbrev IsItem : Item → Type 0
  IsItem i = Sound count i.lexemes

  record AreItems (x : List Item × Rest) : Type 0 where
    items : AllByRecursion IsItem x.0
    after : Sound count x.1

  items_sound : (n : ℕ) (ts : Rest) → Sound count ts → AreItems (items_from n ts)
  unfolding items_from
  items_sound zero ts s = record { items = tt; after = s }
  items_sound (suc n) ts s =
      let first = semicolon_sound false ts s in
      by (is_endmodule (sort ts)) (to_semicolon false ts) first (items_from n (to_semicolon false ts).1) (items_sound n (to_semicolon false ts).1 first.after)
    where
      by : (b : Bool) (first : Rest × Rest) → AreBoth first → (others : List Item × Rest) → AreItems others
          → AreItems (cond b ([], ts) (record { lexemes = first.0; from = ts } ∷ others.0, others.1))
      by true first f others o = record { items = tt; after = s }
      by false first f others o = record { items = (f.front, o.items); after = o.after }

  -- ---- own texts

  own_items : (ms : List Piece) (items : List Item) → AllByRecursion IsItem items
      → Sound count (flat_map (λ i. if is_instancing ms i then [] else i.lexemes) items)
  own_items ms items a = all_flat _ IsItem (λ i. if is_instancing ms i then [] else i.lexemes) items (λ i s. by i s (is_instancing ms i)) a
    where
      by : (i : Item) → IsItem i → (b : Bool) → Sound count (cond b [] i.lexemes)
      by i s true = tt
      by i s false = s

  own_body_sound : (ms : List Piece) (p : Piece) → IsPiece p → Sound count (own_body ms p)
  own_body_sound ms p s =
      let head = semicolon_sound false p.body s.body in
      let others = items_sound (length (to_semicolon false p.body).1) (to_semicolon false p.body).1 head.after in
      all_append _ p.attributes _ s.attributes
      (all_append _ (body_of p).header _ head.front
      (all_append _ (flat_map (λ i. if is_instancing ms i then [] else i.lexemes) (body_of p).items) (body_of p).last
      (own_items ms (body_of p).items others.items) others.after))

  own_piece_sound : (ms : List Piece) (place : ℕ) (p : Piece) → IsPiece p → Sound count (own_piece ms place p)
  own_piece_sound ms place p s = by (not (is_design p)) (at p.body == place)
    where
      by : (b c : Bool) → Sound count (cond b (p.attributes ++ p.body) (cond c (own_body ms p) []))
      by true c = all_append _ p.attributes p.body s.attributes s.body
      by false true = own_body_sound ms p s
      by false false = tt

  pub own_text_sound : (ts : Rest) (m : Piece) → Sound count ts → Sound count (own_text ts m)
  unfolding own_text
  own_text_sound ts m s =
      all_flat _ IsPiece (own_piece (modules_of ts) (at m.body)) (pieces ts) (λ p q. own_piece_sound (modules_of ts) (at m.body) p q)
      (pieces_sound (length ts) ts s)
