-- The names of a header are names of the text.
use Rattle.std.proofs.Common.{◌≡◌, ℕ, zero, suc, ◌+◌, Bool, true, false, List, [], ◌∷◌, map, length, Option, Some, None, Ok, Err}
use Rattle.std.proofs.lemmas.Bool.{false≢true}
use Rattle.std.specs.Prelude.{is_some, if◌then◌else◌}
use Rattle.std.specs.List.{AllByRecursion}
use Prim.Native.String.{String}
use Rattle.bs_lex.specs.Lexemes.{is_name}
use Rattle.bs_verilog_syntax.specs.declared.fault.VerilogFault.TheVariants.{Syntax}
use Rattle.bs_verilog_syntax.specs.declared.reading.Due.{Due}
use Rattle.bs_verilog_syntax.specs.declared.reading.Due.TheVariants as due
use Rattle.bs_verilog_syntax.specs.declared.reading.AttributeStep.{AttributeStep}
use Rattle.bs_verilog_syntax.specs.declared.reading.AttributeStep.TheVariants.{On, Over, Unclosed}
use Rattle.bs_verilog_syntax.specs.declared.tree.Direction as code
use Rattle.bs_verilog_syntax.specs.declared.tree.Net.TheVariants as nets
use Rattle.bs_verilog_syntax.specs.declared.tree.Range.{Range}
use Rattle.bs_verilog_syntax.specs.declared.tree.Says.{Says}
use Rattle.bs_verilog_syntax.specs.declared.tree.HeaderPort.{HeaderPort}
use Rattle.bs_verilog_syntax.specs.declared.tree.Ports.{Ports}
use Rattle.bs_verilog_syntax.specs.declared.tree.Adds.{Adds}
use Rattle.bs_verilog_syntax.specs.declared.tree.Module.{Module}
use Rattle.bs_bits.specs.Reading.{◌>>=◌}
use Rattle.bs_verilog_syntax.specs.Reading.{Rest, Read, Skip, at, sort, rest, name, digits, is_at, refused, expect, expect_name, expect_digits, with_commas, listed}
use Rattle.bs_verilog_syntax.specs.Terms.{attribute_step, attributes_from, attributes}
use Rattle.bs_verilog_syntax.specs.Unsupported.{after_direction}
use Rattle.bs_verilog_syntax.specs.Declarations.{range, direction, is_wire, port_says, plain_port, header_port, carried, nothing_said, ports, header}
use Rattle.bs_verilog_syntax.specs.Modules.{items, top, is_endmodule, is_end, skipped, is_cell, is_module, begun, cells, leading, syntax_of}
use Rattle.bs_flat_meaning.proofs.NameLemmas.{IsNumbered, IsSmall, AreSmall}
use Rattle.bs_flat_meaning.proofs.GivenLemmas.{Gives, gives_ok, gives_err, gives_on, gives_if, gives_any}

pub all_mapped : {X Y : Type 0} (P : Y → Type 0) (f : X → Y) (xs : List X) → AllByRecursion (λ x. P (f x)) xs → AllByRecursion P (map f xs)
all_mapped P f [] a = tt
all_mapped P f (x ∷ xs) a = (a.0, all_mapped P f xs a.1)

module _ (count : ℕ) where
  -- the lexemes that are left, in which each name has a number below the count
  abbrev pub Sound : Rest → Type 0
  Sound ts = AllByRecursion (IsNumbered count) ts

  -- a value that is read, with what is left
  abbrev pub With : {A : Type 0} → (A → Type 0) → A × Rest → Type 0
  With Q x = Q x.0 × Sound x.1

  abbrev pub Anything : (A : Type 0) → A → Type 0
  Anything A x = Unit {0}

  pub rest_sound : (ts : Rest) → Sound ts → Sound (rest ts)
  rest_sound [] s = s
  rest_sound (t ∷ ts) s = s.1

  pub name_small : (ts : Rest) → Sound ts → is_name (sort ts) ≡ true → IsSmall count (name ts)
  name_small [] s e = absurd (false≢true e)
  name_small (t ∷ ts) s e = s.0.below e

  pub attributes_sound : (inside : Bool) (ts : Rest) → Sound ts → Gives Sound (attributes_from inside ts)
  unfolding attributes_from
  attributes_sound inside [] s = gives_ok Sound [] s
  attributes_sound inside (t ∷ ts) s = by (attribute_step inside t.sort) (λ next. attributes_sound next ts s.1)
    where
      by : (step : AttributeStep) → ((next : Bool) → Gives Sound (attributes_from next ts))
          → Gives Sound (elim step as (λ _. Skip) [ On next ↦ attributes_from next ts | Over ↦ Ok (t ∷ ts) | Unclosed ↦ Err (Syntax t.at) ])
      by (On next) later = later next
      by Over later = gives_ok Sound (t ∷ ts) s
      by Unclosed later = gives_err Sound (Syntax t.at)

  pub expect_sound : (s : String) (d : Due) (ts : Rest) → Sound ts → Gives Sound (expect s d ts)
  expect_sound s d ts sound =
      gives_if Sound (is_at s ts) (Ok (rest ts)) (Err (refused d ts)) (λ _. gives_ok Sound (rest ts) (rest_sound ts sound))
      (λ _. gives_err Sound (refused d ts))

  pub expect_name_small : (ts : Rest) → Sound ts → Gives (With (IsSmall count)) (expect_name ts)
  expect_name_small ts s =
      gives_if (With (IsSmall count)) (is_name (sort ts)) (Ok (name ts, rest ts)) (Err (refused due.Nothing ts))
      (λ e. gives_ok (With (IsSmall count)) (name ts, rest ts) (name_small ts s e, rest_sound ts s))
      (λ _. gives_err (With (IsSmall count)) (refused due.Nothing ts))

  digits_sound : (ts : Rest) → Sound ts → Gives (With (Anything (ℕ))) (expect_digits ts)
  digits_sound ts s = by (digits (sort ts))
    where
      by : (o : Option ℕ)
          → Gives (With (Anything (ℕ))) (elim o as (λ _. Read ℕ) [ Some n ↦ Ok (n, rest ts) | None ↦ Err (refused due.Nothing ts) ])
      by (Some n) = gives_ok (With (Anything (ℕ))) (n, rest ts) (tt, rest_sound ts s)
      by None = gives_err (With (Anything (ℕ))) (refused due.Nothing ts)

  range_sound : (ts : Rest) → Sound ts → Gives (With (Anything (Option Range))) (range ts)
  unfolding range
  range_sound ts s =
      gives_if (With (Anything (Option Range))) (is_at "[" ts) _ _
      (λ _.
      gives_on (With (Anything (ℕ))) (With (Anything (Option Range))) (expect_digits (rest ts)) _ (digits_sound (rest ts) (rest_sound ts s))
      (λ left l.
      gives_on Sound (With (Anything (Option Range))) (expect ":" due.Nothing left.1) _ (expect_sound ":" due.Nothing left.1 l.1)
      (λ colon c.
      gives_on (With (Anything (ℕ))) (With (Anything (Option Range))) (expect_digits colon) _ (digits_sound colon c)
      (λ right r.
      gives_on Sound (With (Anything (Option Range))) (expect "]" due.Nothing right.1) _ (expect_sound "]" due.Nothing right.1 r.1)
      (λ after a. gives_ok (With (Anything (Option Range))) (Some (record { at = at ts; left = left.0; right = right.0 }), after) (tt, a))))))
      (λ _. gives_ok (With (Anything (Option Range))) (None, ts) (tt, s))

  pub commas_sound : {A : Type 0} (Q : A → Type 0) (one : Rest → Read A) → ((ts : Rest) → Sound ts → Gives (With Q) (one ts)) → (n : ℕ) (ts : Rest) → Sound ts
      → Gives (With (AllByRecursion Q)) (with_commas one n ts)
  unfolding with_commas
  commas_sound Q one g zero ts s = gives_err (With (AllByRecursion Q)) (refused due.Nothing ts)
  commas_sound Q one g (suc n) ts s =
      gives_on (With Q) (With (AllByRecursion Q)) (one ts) _ (g ts s)
      (λ first f.
      gives_if (With (AllByRecursion Q)) (is_at "," first.1) _ _
      (λ _.
      gives_on (With (AllByRecursion Q)) (With (AllByRecursion Q)) (with_commas one n (rest first.1)) _
      (commas_sound Q one g n (rest first.1) (rest_sound first.1 f.1))
      (λ others o. gives_ok (With (AllByRecursion Q)) (first.0 ∷ others.0, others.1) ((f.0, o.0), o.1)))
      (λ _. gives_ok (With (AllByRecursion Q)) (first.0 ∷ [], first.1) ((f.0, tt), f.1)))

  port_says_sound : (d : code.Direction) (ts : Rest) → Sound ts → Gives (With (Anything (Says))) (port_says d ts)
  unfolding port_says
  port_says_sound d ts s =
      gives_if (With (Anything (Says))) (is_some (after_direction (sort ts))) _ _ (λ _. gives_err (With (Anything (Says))) (refused due.AfterDirection ts))
      (λ _.
      gives_if (With (Anything (Says))) (is_wire (sort ts)) _ _
      (λ _.
      gives_on (With (Anything (Option Range))) (With (Anything (Says))) (range (rest ts)) _ (range_sound (rest ts) (rest_sound ts s))
      (λ r w. gives_ok (With (Anything (Says))) (record { direction = Some d; net = Some nets.Wire; range = r.0 }, r.1) (tt, w.1)))
      (λ _.
      gives_on (With (Anything (Option Range))) (With (Anything (Says))) (range ts) _ (range_sound ts s)
      (λ r w. gives_ok (With (Anything (Says))) (record { direction = Some d; net = None; range = r.0 }, r.1) (tt, w.1))))

  plain_port_small : (ts : Rest) → Sound ts → Gives (With (IsSmall count)) (plain_port ts)
  unfolding plain_port
  plain_port_small ts s =
      gives_on Sound (With (IsSmall count)) (attributes ts) _ (attributes_sound false ts s) (λ here h. expect_name_small here h)

  abbrev PortSmall : HeaderPort → Type 0
  PortSmall p = IsSmall count p.name

  header_port_small : (ts : Rest) → Sound ts → Gives (With PortSmall) (header_port ts)
  unfolding header_port
  header_port_small ts s =
      gives_on Sound (With PortSmall) (attributes ts) _ (attributes_sound false ts s) (λ here h. by here h (direction (sort here)))
    where
      by : (here : Rest) → Sound here → (o : Option code.Direction)
          → Gives (With PortSmall)
          (elim o as (λ _. Read HeaderPort) [
            | Some d ↦ (do
              says ← port_says d (rest here)
              n ← expect_name says.1
              Ok (record { says = Some says.0; name = n.0 }, n.1))
            | None ↦
                if is_name (sort here) then Ok (record { says = None; name = name here }, rest here)
                else Err (refused due.Port here)
          ])
      by here h (Some d) =
          gives_on (With (Anything (Says))) (With PortSmall) (port_says d (rest here)) _ (port_says_sound d (rest here) (rest_sound here h))
          (λ says w.
          gives_on (With (IsSmall count)) (With PortSmall) (expect_name says.1) _ (expect_name_small says.1 w.1)
          (λ n k. gives_ok (With PortSmall) (record { says = Some says.0; name = n.0 }, n.1) k))
      by here h None =
          gives_if (With PortSmall) (is_name (sort here)) _ _
          (λ e. gives_ok (With PortSmall) (record { says = None; name = name here }, rest here) (name_small here h e, rest_sound here h))
          (λ _. gives_err (With PortSmall) (refused due.Port here))

  abbrev PortsSmall : Ports → Type 0
  PortsSmall p = AreSmall count p.header

  ports_small : (ts : Rest) → Sound ts → Gives (With PortsSmall) (ports ts)
  unfolding ports
  ports_small ts s =
      gives_if (With PortsSmall) (is_at ")" ts) _ _
      (λ _. gives_ok (With PortsSmall) (record { header = []; declared = [] }, rest ts) (tt, rest_sound ts s))
      (λ _.
      gives_on Sound (With PortsSmall) (attributes ts) _ (attributes_sound false ts s)
      (λ here h.
      gives_if (With PortsSmall) (is_name (sort here)) _ _
      (λ _.
      gives_on (With (AreSmall count)) (With PortsSmall) (listed plain_port ts) _
      (commas_sound (IsSmall count) plain_port (λ us u. plain_port_small us u) (suc (length ts)) ts s)
      (λ listing l.
      gives_on Sound (With PortsSmall) (expect ")" due.Nothing listing.1) _ (expect_sound ")" due.Nothing listing.1 l.1)
      (λ after a. gives_ok (With PortsSmall) (record { header = listing.0; declared = [] }, after) (l.0, a))))
      (λ _.
      gives_on (With (AllByRecursion PortSmall)) (With PortsSmall) (listed header_port ts) _
      (commas_sound PortSmall header_port (λ us u. header_port_small us u) (suc (length ts)) ts s)
      (λ listing l.
      gives_on Sound (With PortsSmall) (expect ")" due.AfterDeclared listing.1) _ (expect_sound ")" due.AfterDeclared listing.1 l.1)
      (λ after a.
      gives_ok (With PortsSmall) (record { header = map (λ (p : HeaderPort). p.name) listing.0; declared = carried nothing_said listing.0 }, after)
      (all_mapped (IsSmall count) (λ (p : HeaderPort). p.name) listing.0 l.0, a))))))

  header_small : (ts : Rest) → Sound ts → Gives (With PortsSmall) (header ts)
  unfolding header
  header_small ts s =
      gives_if (With PortsSmall) (is_at "(" ts) _ _
      (λ _.
      gives_on (With PortsSmall) (With PortsSmall) (ports (rest ts)) _ (ports_small (rest ts) (rest_sound ts s))
      (λ listing l.
      gives_on Sound (With PortsSmall) (expect ";" due.Nothing listing.1) _ (expect_sound ";" due.Nothing listing.1 l.1)
      (λ after a. gives_ok (With PortsSmall) (listing.0, after) (l.0, a))))
      (λ _.
      gives_on Sound (With PortsSmall) (expect ";" due.AfterModule ts) _ (expect_sound ";" due.AfterModule ts s)
      (λ after a. gives_ok (With PortsSmall) (record { header = []; declared = [] }, after) (tt, a)))

  -- ---- modules

  abbrev pub HeaderSmall : Module → Type 0
  HeaderSmall m = AreSmall count m.header

  top_small : (ts : Rest) → Sound ts → Gives (λ (x : Module × Rest). HeaderSmall x.0) (top ts)
  unfolding top
  top_small ts s =
      gives_on (With (IsSmall count)) (λ (x : Module × Rest). HeaderSmall x.0) (expect_name ts) _ (expect_name_small ts s)
      (λ n k.
      gives_on (With PortsSmall) (λ (x : Module × Rest). HeaderSmall x.0) (header n.1) _ (header_small n.1 k.1)
      (λ head h.
      gives_on (Anything (Adds × Rest)) (λ (x : Module × Rest). HeaderSmall x.0) (items (length head.1 + 1) head.1) _
      (gives_any (items (length head.1 + 1) head.1))
      (λ body b. gives_ok (λ (x : Module × Rest). HeaderSmall x.0) _ h.0)))

  skipped_sound : (ts : Rest) → Sound ts → Gives Sound (skipped ts)
  unfolding skipped
  skipped_sound [] s = gives_ok Sound [] s
  skipped_sound (t ∷ ts) s =
      gives_if Sound (is_endmodule t.sort) _ _ (λ _. gives_ok Sound ts s.1)
      (λ _. gives_if Sound (is_end t.sort) _ _ (λ _. gives_err Sound (Syntax t.at)) (λ _. skipped_sound ts s.1))

  begun_sound : (ts : Rest) → Sound ts → Gives Sound (begun ts)
  unfolding begun
  begun_sound ts s =
      gives_on Sound Sound (attributes ts) _ (attributes_sound false ts s)
      (λ here h.
      gives_if Sound (is_module (sort here)) _ _ (λ _. gives_ok Sound (rest here) (rest_sound here h)) (λ _. gives_err Sound (refused due.Module here)))

  leading_sound : (n : ℕ) (ts : Rest) → Sound ts → Gives Sound (leading n ts)
  unfolding leading
  leading_sound zero ts s = gives_err Sound (refused due.Nothing ts)
  leading_sound (suc n) ts s =
      gives_on Sound Sound (begun ts) _ (begun_sound ts s)
      (λ inside i.
      gives_if Sound (is_cell (sort inside)) _ _
      (λ _. gives_on Sound Sound (skipped inside) (leading n) (skipped_sound inside i) (λ after a. leading_sound n after a))
      (λ _. gives_ok Sound inside i))

  -- each name in the header of a module that is read is one of the text
  pub syntax_small : (ts : Rest) → Sound ts → Gives HeaderSmall (syntax_of ts)
  unfolding syntax_of
  syntax_small ts s =
      gives_on Sound HeaderSmall (leading (length ts + 1) ts) _ (leading_sound (length ts + 1) ts s)
      (λ inside i.
      gives_on (λ (x : Module × Rest). HeaderSmall x.0) HeaderSmall (top inside) _ (top_small inside i)
      (λ m k.
      gives_on (Anything (Rest)) HeaderSmall (cells (length m.1 + 1) m.1) _ (gives_any (cells (length m.1 + 1) m.1))
      (λ after a. gives_ok HeaderSmall m.0 k)))
