-- What each production reads of a text that is shut, it reads of it whatever stands behind.
use Rattle.std.proofs.Common.{◌≡◌, ℕ, zero, suc, ◌≤◌, Bool, true, false, cond, ◌&&◌, List, [], ◌∷◌, ◌++◌, length, Option, Some, None, Ok, Err}
use Rattle.std.proofs.Common.{refl, sym, ap, ◌∙◌, arith}
use Rattle.std.specs.Prelude.{if◌then◌else◌, is_some}
use Rattle.std.proofs.lemmas.List.{length-append}
use Prim.Native.String.{String}
use Rattle.bs_bits.specs.Reading.{◌>>=◌}
use Rattle.bs_lex.specs.Bytes.{◌∈◌}
use Rattle.bs_net.specs.declared.gate.Kind.{Kind}
use Rattle.bs_lex.specs.Packed.{Lexeme}
use Rattle.bs_lex.specs.declared.lexeme.Cell.{Cell}
use Rattle.bs_lex.specs.declared.lexeme.Sort.{Sort}
use Rattle.bs_lex.specs.declared.lexeme.Sort.TheVariants as sorts
use Rattle.bs_lex.specs.declared.lexeme.Word.TheVariants as words
use Rattle.bs_lex.specs.Lexemes.{is_name}
use Rattle.bs_verilog_syntax.specs.declared.reading.Due.{Due}
use Rattle.bs_verilog_syntax.specs.declared.reading.Due.TheVariants as due
use Rattle.bs_verilog_syntax.specs.declared.reading.AttributeStep.TheVariants.{On, Over, Unclosed}
use Rattle.bs_verilog_syntax.specs.declared.fault.VerilogFault.TheVariants.{Syntax}
use Rattle.bs_verilog_syntax.specs.declared.tree.Term as code_term
use Rattle.bs_verilog_syntax.specs.declared.tree.Term.TheVariants.{Constant, Named}
use Rattle.bs_verilog_syntax.specs.declared.tree.Direction as code
use Rattle.bs_verilog_syntax.specs.declared.tree.Net as code_net
use Rattle.bs_verilog_syntax.specs.declared.tree.Says as code_says
use Rattle.bs_verilog_syntax.specs.declared.tree.HeaderPort as code_port
use Rattle.bs_verilog_syntax.specs.declared.tree.Shape.{Shape}
use Rattle.bs_verilog_syntax.specs.declared.tree.Shape.TheVariants as shapes
use Rattle.bs_verilog_syntax.specs.declared.tree.Connection.{Connection}
use Rattle.bs_verilog_syntax.specs.declared.tree.Component.{Component}
use Rattle.bs_verilog_syntax.specs.Unsupported.{after_direction}
use Rattle.bs_verilog_syntax.specs.Reading.{Rest, Read, Skip, at, sort, rest, name, bit, digits, is_at, refused, expect, expect_name, expect_digits}
use Rattle.bs_verilog_syntax.specs.Reading.{with_commas, listed}
use Rattle.bs_verilog_syntax.specs.Terms.{index, term, num, time, timed, delay, attribute_step, attributes_from, attributes}
use Rattle.bs_verilog_syntax.specs.Declarations.{range, direction, is_wire, port_says, net_says, declared_name, names, plain_port, header_port}
use Rattle.bs_verilog_syntax.specs.Declarations.{plain_ports, declared_ports, ports, header}
use Rattle.bs_verilog_syntax.specs.Parts as parts
use Rattle.bs_verilog_syntax.specs.Parts.{by_place, instance_name, opened, place, pin, connections, instance, assignment, is_strength, gates, instances}
use Rattle.bs_verilog_syntax.specs.Parts.{assignments}
use Rattle.bs_verilog_syntax.specs.Modules.{is_endmodule}
use Rattle.bs_flat_modules.proofs.ShutLemmas.{true_is_not_false, Closes, now, later, Shut, last, on, is_close, is_open, tail_shut, sort_more, at_more, rest_more}
use Rattle.bs_flat_modules.proofs.ShutLemmas.{mark_passes, name_passes, Goes, Passes, goes_then, goes_pass, pass_then, pass_pass, goes_if, passes_if}

module _ (u : Rest) where
  -- ---- single lexemes

  pub expect_goes : (s : String) (d : Due) (ts : Rest) → (0 ∈ s) ≡ false → Shut ts → Passes u (expect s d ts) (expect s d (ts ++ u))
  expect_goes s d [] n k = absurd (elim k [ ])
  expect_goes s d (t ∷ ts) n k =
      passes_if (is_at s (t ∷ ts)) (Ok ts) (Err (refused d (t ∷ ts))) (Ok (ts ++ u)) (Err (refused d (t ∷ (ts ++ u))))
      (λ e. record { is = (tail_shut (t ∷ ts) k (mark_passes s n (t ∷ ts) e), refl) }) (λ e. record { is = tt })

  pub name_goes : (ts : Rest) → Shut ts → Goes u (expect_name ts) (expect_name (ts ++ u))
  name_goes [] k = absurd (elim k [ ])
  name_goes (t ∷ ts) k =
      goes_if (is_name t.sort) (Ok (name (t ∷ ts), ts)) (Err (refused due.Nothing (t ∷ ts))) (Ok (name (t ∷ ts), ts ++ u))
      (Err (refused due.Nothing (t ∷ (ts ++ u))))
      (λ e. record { is = (tail_shut (t ∷ ts) k (name_passes t.sort e), refl) }) (λ e. record { is = tt })

  digits_pass : (s : Sort) (n : ℕ) → digits s ≡ Some n → is_endmodule s ≡ false
  digits_pass (sorts.Digits n) m e = refl
  digits_pass (sorts.Word w) m e = absurd cc
  digits_pass _ m e = refl

  pub digits_go : (ts : Rest) → Shut ts → Goes u (expect_digits ts) (expect_digits (ts ++ u))
  digits_go [] k = absurd (elim k [ ])
  digits_go (t ∷ ts) k = by (digits t.sort) refl
    where
      by : (o : Option ℕ) → digits t.sort ≡ o
          → Goes {A = ℕ} u (elim o [ Some n ↦ Ok (n, ts) | None ↦ Err (refused due.Nothing (t ∷ ts)) ])
          (elim o [ Some n ↦ Ok (n, ts ++ u) | None ↦ Err (refused due.Nothing (t ∷ (ts ++ u))) ])
      by (Some n) e = record { is = (tail_shut (t ∷ ts) k (digits_pass t.sort n e), refl) }
      by None e = record { is = tt }

  -- a mark is next here as there
  pub at_goes : {A : Type 0} (s : String) (ts : Rest) → Shut ts → (p q v w : Read A) → (is_at s ts ≡ true → Goes u p v)
      → (is_at s ts ≡ false → Goes u q w) → Goes u (cond (is_at s ts) p q) (cond (is_at s (ts ++ u)) v w)
  at_goes s [] k p q v w f g = absurd (elim k [ ])
  at_goes s (t ∷ ts) k p q v w f g = goes_if (is_at s (t ∷ ts)) p q v w f g

  pub at_passes : (s : String) (ts : Rest) → Shut ts → (p q v w : Skip) → (is_at s ts ≡ true → Passes u p v)
      → (is_at s ts ≡ false → Passes u q w) → Passes u (cond (is_at s ts) p q) (cond (is_at s (ts ++ u)) v w)
  at_passes s [] k p q v w f g = absurd (elim k [ ])
  at_passes s (t ∷ ts) k p q v w f g = passes_if (is_at s (t ∷ ts)) p q v w f g

  -- behind a mark that is next
  pub behind : (s : String) (ts : Rest) → (0 ∈ s) ≡ false → Shut ts → is_at s ts ≡ true → Shut (rest ts)
  behind s ts n k e = tail_shut ts k (mark_passes s n ts e)

  -- ---- lists

  commas_go : {A : Type 0} (one : Rest → Read A) → ((ts : Rest) → Shut ts → Goes u (one ts) (one (ts ++ u))) → (n m : ℕ) → n ≤ m
      → (ts : Rest) → Shut ts → Goes u (with_commas one n ts) (with_commas one m (ts ++ u))
  unfolding with_commas
  commas_go one member zero m h ts k = record { is = tt }
  commas_go one member (suc n) zero h ts k = absurd (omega (arith, h))
  commas_go one member (suc n) (suc m) h ts k =
      goes_then (one ts) (one (ts ++ u)) _ _ (member ts k) (λ x s.
      at_goes "," x.1 s _ _ _ _
      (λ e. rw (rest_more u x.1 s) (goes_then (with_commas one n (rest x.1)) (with_commas one m (rest x.1 ++ u)) _ _
      (commas_go one member n m (omega (arith, h)) (rest x.1) (behind "," x.1 refl s e)) (λ y z. record { is = (z, refl) })))
      (λ e. record { is = (s, refl) }))

  pub listed_goes : {A : Type 0} (one : Rest → Read A) → ((ts : Rest) → Shut ts → Goes u (one ts) (one (ts ++ u)))
      → (ts : Rest) → Shut ts → Goes u (listed one ts) (listed one (ts ++ u))
  listed_goes one member ts k = commas_go one member (suc (length ts)) (suc (length (ts ++ u))) (omega (arith, length-append ts u)) ts k

  -- ---- attributes

  closed_later : (t : Lexeme) (ts : Rest) → Closes (t ∷ ts) → is_close t.sort ≡ false → Closes ts
  closed_later t ts (now n) e = absurd (true_is_not_false (sym n ∙ e))
  closed_later t ts (later l) e = l

  tail_closed : (t : Lexeme) (ts : Rest) → Shut (t ∷ ts) → Closes ts → Shut ts
  tail_closed t ts (last m) l = absurd (elim l [ ])
  tail_closed t ts (on m o k) l = k

  closed_behind : (t : Lexeme) (ts : Rest) → Shut (t ∷ ts) → is_open t.sort ≡ true → is_endmodule t.sort ≡ false → Closes ts
  closed_behind t ts (last n) o m = absurd (true_is_not_false (sym n ∙ m))
  closed_behind t ts (on n c k) o m = c o

  from_goes : (inside : Bool) (ts : Rest) → (inside ≡ true → Closes ts) → Shut ts → Passes u (attributes_from inside ts) (attributes_from inside (ts ++ u))
  unfolding attributes_from
  from_goes inside [] c k = absurd (elim k [ ])
  from_goes inside (t ∷ ts) c k = by inside t.sort refl refl (λ next d s. from_goes next ts d s)
    where
      by : (i : Bool) (s : Sort) → inside ≡ i → t.sort ≡ s
          → ((next : Bool) → (next ≡ true → Closes ts) → Shut ts → Passes u (attributes_from next ts) (attributes_from next (ts ++ u)))
          → Passes u (elim (attribute_step i s) [ On next ↦ attributes_from next ts | Over ↦ Ok (t ∷ ts) | Unclosed ↦ Err (Syntax t.at) ])
          (elim (attribute_step i s) [ On next ↦ attributes_from next (ts ++ u) | Over ↦ Ok (t ∷ (ts ++ u)) | Unclosed ↦ Err (Syntax t.at) ])
      by true sorts.AttrClose i e go =
          go false (λ f. absurd (true_is_not_false (sym f))) (tail_shut (t ∷ ts) k (ap is_endmodule e))
      by true sorts.End i e go = record { is = tt }
      by true sorts.AttrOpen i e go = let l = closed_later t ts (c i) (ap is_close e) in go true (λ f. l) (tail_closed t ts k l)
      by true (sorts.Word w) i e go = let l = closed_later t ts (c i) (ap is_close e) in go true (λ f. l) (tail_closed t ts k l)
      by true (sorts.Name n) i e go = let l = closed_later t ts (c i) (ap is_close e) in go true (λ f. l) (tail_closed t ts k l)
      by true (sorts.Bit b) i e go = let l = closed_later t ts (c i) (ap is_close e) in go true (λ f. l) (tail_closed t ts k l)
      by true (sorts.Digits n) i e go = let l = closed_later t ts (c i) (ap is_close e) in go true (λ f. l) (tail_closed t ts k l)
      by true (sorts.Symbol s) i e go = let l = closed_later t ts (c i) (ap is_close e) in go true (λ f. l) (tail_closed t ts k l)
      by true sorts.Number i e go = let l = closed_later t ts (c i) (ap is_close e) in go true (λ f. l) (tail_closed t ts k l)
      by true sorts.Text i e go = let l = closed_later t ts (c i) (ap is_close e) in go true (λ f. l) (tail_closed t ts k l)
      by true sorts.System i e go = let l = closed_later t ts (c i) (ap is_close e) in go true (λ f. l) (tail_closed t ts k l)
      by true sorts.Directive i e go = let l = closed_later t ts (c i) (ap is_close e) in go true (λ f. l) (tail_closed t ts k l)
      by false sorts.AttrOpen i e go =
          go true (λ f. closed_behind t ts k (ap is_open e) (ap is_endmodule e)) (tail_shut (t ∷ ts) k (ap is_endmodule e))
      by false (sorts.Word w) i e go = record { is = (k, refl) }
      by false (sorts.Name n) i e go = record { is = (k, refl) }
      by false (sorts.Bit b) i e go = record { is = (k, refl) }
      by false (sorts.Digits n) i e go = record { is = (k, refl) }
      by false (sorts.Symbol c) i e go = record { is = (k, refl) }
      by false _ i e go = record { is = (k, refl) }

  pub attributes_go : (ts : Rest) → Shut ts → Passes u (attributes ts) (attributes (ts ++ u))
  attributes_go ts k = from_goes false ts (λ e. absurd (true_is_not_false (sym e))) k

  -- ---- terms and delays

  index_goes : (ts : Rest) → Shut ts → Goes u (index ts) (index (ts ++ u))
  unfolding index
  index_goes ts k =
      at_goes "[" ts k _ _ _ _
      (λ e. rw (rest_more u ts k) (goes_then (expect_digits (rest ts)) (expect_digits (rest ts ++ u)) _ _ (digits_go (rest ts) (behind "[" ts refl k e)) (λ n s.
      pass_then (expect "]" due.AfterIndex n.1) (expect "]" due.AfterIndex (n.1 ++ u)) _ _ (expect_goes "]" due.AfterIndex n.1 refl s) (λ after z.
      record { is = (z, refl) }))))
      (λ e. record { is = (k, refl) })

  bit_passes : (s : Sort) (b : Bool) → bit s ≡ Some b → is_endmodule s ≡ false
  bit_passes (sorts.Bit c) b e = refl
  bit_passes (sorts.Word w) b e = absurd cc
  bit_passes _ b e = refl

  pub term_goes : (ts : Rest) → Shut ts → Goes u (term ts) (term (ts ++ u))
  unfolding term
  term_goes [] k = absurd (elim k [ ])
  term_goes (t ∷ ts) k = by (bit t.sort) refl
    where
      by : (o : Option Bool) → bit t.sort ≡ o
          → Goes {A = code_term.Term} u (elim o [
            | Some b ↦ Ok (Constant t.at b, ts)
            | None ↦ if is_name t.sort then (index ts >>= λ i. Ok (Named (name (t ∷ ts)) i.0, i.1)) else Err (refused due.Term (t ∷ ts))
          ]) (elim o [
            | Some b ↦ Ok (Constant t.at b, ts ++ u)
            | None ↦ if is_name t.sort then (index (ts ++ u) >>= λ i. Ok (Named (name (t ∷ ts)) i.0, i.1)) else Err (refused due.Term (t ∷ (ts ++ u)))
          ])
      by (Some b) e = record { is = (tail_shut (t ∷ ts) k (bit_passes t.sort b e), refl) }
      by None e =
          goes_if (is_name t.sort) _ _ _ _
          (λ n. goes_then (index ts) (index (ts ++ u)) _ _ (index_goes ts (tail_shut (t ∷ ts) k (name_passes t.sort n))) (λ i s. record { is = (s, refl) }))
          (λ n. record { is = tt })

  num_goes : (ts : Rest) → Shut ts → Passes u (num ts) (num (ts ++ u))
  unfolding num
  num_goes ts k =
      goes_pass (expect_digits ts) (expect_digits (ts ++ u)) _ _ (digits_go ts k) (λ x s.
      at_passes "." x.1 s _ _ _ _
      (λ e. rw (rest_more u x.1 s) (goes_pass (expect_digits (rest x.1)) (expect_digits (rest x.1 ++ u)) _ _
      (digits_go (rest x.1) (behind "." x.1 refl s e)) (λ y z. record { is = (z, refl) })))
      (λ e. record { is = (s, refl) }))

  time_goes : (ts : Rest) → Shut ts → Passes u (time ts) (time (ts ++ u))
  unfolding time
  time_goes ts k =
      pass_pass (num ts) (num (ts ++ u)) _ _ (num_goes ts k) (λ x s.
      at_passes ":" x s _ _ _ _
      (λ e. rw (rest_more u x s) (pass_pass (num (rest x)) (num (rest x ++ u)) _ _ (num_goes (rest x) (behind ":" x refl s e)) (λ y z.
      pass_pass (expect ":" due.Nothing y) (expect ":" due.Nothing (y ++ u)) _ _ (expect_goes ":" due.Nothing y refl z) (λ w v. num_goes w v))))
      (λ e. record { is = (s, refl) }))

  timed_goes : (ts : Rest) → Shut ts → Goes u (timed ts) (timed (ts ++ u))
  unfolding timed
  timed_goes ts k = pass_then (time ts) (time (ts ++ u)) _ _ (time_goes ts k) (λ x s. record { is = (s, refl) })

  pub delay_goes : (ts : Rest) → Shut ts → Passes u (delay ts) (delay (ts ++ u))
  unfolding delay
  delay_goes ts k =
      at_passes "#" ts k _ _ _ _
      (λ e. let s = behind "#" ts refl k e in
      rw (rest_more u ts k) (at_passes "(" (rest ts) s _ _ _ _
      (λ f. rw (rest_more u (rest ts) s) (goes_pass (listed timed (rest (rest ts))) (listed timed (rest (rest ts) ++ u)) _ _
      (listed_goes timed timed_goes (rest (rest ts)) (behind "(" (rest ts) refl s f)) (λ x z. expect_goes ")" due.Nothing x.1 refl z)))
      (λ f. time_goes (rest ts) s)))
      (λ e. record { is = (k, refl) })

  -- ---- declarations

  range_goes : (ts : Rest) → Shut ts → Goes u (range ts) (range (ts ++ u))
  unfolding range
  range_goes ts k =
      at_goes "[" ts k _ _ _ _
      (λ e. rw (rest_more u ts k, at_more u ts k) (goes_then (expect_digits (rest ts)) (expect_digits (rest ts ++ u)) _ _
      (digits_go (rest ts) (behind "[" ts refl k e)) (λ l s.
      pass_then (expect ":" due.Nothing l.1) (expect ":" due.Nothing (l.1 ++ u)) _ _ (expect_goes ":" due.Nothing l.1 refl s) (λ c z.
      goes_then (expect_digits c) (expect_digits (c ++ u)) _ _ (digits_go c z) (λ r v.
      pass_then (expect "]" due.Nothing r.1) (expect "]" due.Nothing (r.1 ++ u)) _ _ (expect_goes "]" due.Nothing r.1 refl v) (λ after w.
      record { is = (w, refl) }))))))
      (λ e. record { is = (k, refl) })

  wire_passes : (s : Sort) → is_wire s ≡ true → is_endmodule s ≡ false
  wire_passes (sorts.Word words.Wire) e = refl
  wire_passes (sorts.Word words.Endmodule) e = absurd cc
  wire_passes (sorts.Word _) e = absurd cc
  wire_passes _ e = refl

  pub port_says_go : (d : code.Direction) (ts : Rest) → Shut ts → Goes u (port_says d ts) (port_says d (ts ++ u))
  unfolding port_says
  port_says_go d [] k = absurd (elim k [ ])
  port_says_go d (t ∷ ts) k =
      goes_if (is_some (after_direction t.sort)) _ _ _ _ (λ e. record { is = tt })
      (λ e. goes_if (is_wire t.sort) _ _ _ _
      (λ w. goes_then (range ts) (range (ts ++ u)) _ _ (range_goes ts (tail_shut (t ∷ ts) k (wire_passes t.sort w))) (λ r s. record { is = (s, refl) }))
      (λ w. goes_then (range (t ∷ ts)) (range (t ∷ (ts ++ u))) _ _ (range_goes (t ∷ ts) k) (λ r s. record { is = (s, refl) })))

  pub net_says_go : (n : code_net.Net) (ts : Rest) → Shut ts → Goes u (net_says n ts) (net_says n (ts ++ u))
  unfolding net_says
  net_says_go n ts k = goes_then (range ts) (range (ts ++ u)) _ _ (range_goes ts k) (λ r s. record { is = (s, refl) })

  declared_goes : (says : code_says.Says) (ts : Rest) → Shut ts → Goes u (declared_name says ts) (declared_name says (ts ++ u))
  unfolding declared_name
  declared_goes says ts k = goes_then (expect_name ts) (expect_name (ts ++ u)) _ _ (name_goes ts k) (λ n s. record { is = (s, refl) })

  pub names_go : (says : code_says.Says) (ts : Rest) → Shut ts → Goes u (names says ts) (names says (ts ++ u))
  unfolding names
  names_go says ts k =
      goes_then (listed (declared_name says) ts) (listed (declared_name says) (ts ++ u)) _ _
      (listed_goes (declared_name says) (declared_goes says) ts k) (λ l s.
      pass_then (expect ";" due.AfterDeclared l.1) (expect ";" due.AfterDeclared (l.1 ++ u)) _ _ (expect_goes ";" due.AfterDeclared l.1 refl s) (λ a z.
      record { is = (z, refl) }))

  -- ---- headers

  plain_port_goes : (ts : Rest) → Shut ts → Goes u (plain_port ts) (plain_port (ts ++ u))
  unfolding plain_port
  plain_port_goes ts k = pass_then (attributes ts) (attributes (ts ++ u)) _ _ (attributes_go ts k) (λ here s. name_goes here s)

  direction_passes : (s : Sort) (d : code.Direction) → direction s ≡ Some d → is_endmodule s ≡ false
  direction_passes (sorts.Word words.Endmodule) d e = absurd cc
  direction_passes (sorts.Word words.Input) d e = refl
  direction_passes (sorts.Word words.Output) d e = refl
  direction_passes (sorts.Word _) d e = absurd cc
  direction_passes _ d e = refl

  port_goes : (here : Rest) → Shut here
      → Goes {A = code_port.HeaderPort} u (elim (direction (sort here)) [
        | Some d ↦ port_says d (rest here) >>= λ says. expect_name says.1 >>= λ n. Ok (record { says = Some says.0; name = n.0 }, n.1)
        | None ↦ if is_name (sort here) then Ok (record { says = None; name = name here }, rest here) else Err (refused due.Port here)
      ]) (elim (direction (sort (here ++ u))) [
        | Some d ↦ port_says d (rest (here ++ u)) >>= λ says. expect_name says.1 >>= λ n. Ok (record { says = Some says.0; name = n.0 }, n.1)
        | None ↦ if is_name (sort (here ++ u)) then Ok (record { says = None; name = name (here ++ u) }, rest (here ++ u))
            else Err (refused due.Port (here ++ u))
      ])
  port_goes [] k = absurd (elim k [ ])
  port_goes (t ∷ ts) k = by (direction t.sort) refl
    where
      by : (o : Option code.Direction) → direction t.sort ≡ o
          → Goes {A = code_port.HeaderPort} u (elim o [
            | Some d ↦ port_says d ts >>= λ says. expect_name says.1 >>= λ n. Ok (record { says = Some says.0; name = n.0 }, n.1)
            | None ↦ if is_name t.sort then Ok (record { says = None; name = name (t ∷ ts) }, ts) else Err (refused due.Port (t ∷ ts))
          ]) (elim o [
            | Some d ↦ port_says d (ts ++ u) >>= λ says. expect_name says.1 >>= λ n. Ok (record { says = Some says.0; name = n.0 }, n.1)
            | None ↦ if is_name t.sort then Ok (record { says = None; name = name (t ∷ ts) }, ts ++ u) else Err (refused due.Port (t ∷ (ts ++ u)))
          ])
      by (Some d) e =
          goes_then (port_says d ts) (port_says d (ts ++ u)) _ _ (port_says_go d ts (tail_shut (t ∷ ts) k (direction_passes t.sort d e))) (λ says s.
          goes_then (expect_name says.1) (expect_name (says.1 ++ u)) _ _ (name_goes says.1 s) (λ n z. record { is = (z, refl) }))
      by None e =
          goes_if (is_name t.sort) _ _ _ _ (λ n. record { is = (tail_shut (t ∷ ts) k (name_passes t.sort n), refl) }) (λ n. record { is = tt })

  header_port_goes : (ts : Rest) → Shut ts → Goes u (header_port ts) (header_port (ts ++ u))
  unfolding header_port
  header_port_goes ts k = pass_then (attributes ts) (attributes (ts ++ u)) _ _ (attributes_go ts k) (λ here s. port_goes here s)

  plain_ports_go : (ts : Rest) → Shut ts → Goes u (plain_ports ts) (plain_ports (ts ++ u))
  plain_ports_go ts k =
      goes_then (listed plain_port ts) (listed plain_port (ts ++ u)) _ _ (listed_goes plain_port plain_port_goes ts k) (λ l s.
      pass_then (expect ")" due.Nothing l.1) (expect ")" due.Nothing (l.1 ++ u)) _ _ (expect_goes ")" due.Nothing l.1 refl s) (λ a z.
      record { is = (z, refl) }))

  declared_ports_go : (ts : Rest) → Shut ts → Goes u (declared_ports ts) (declared_ports (ts ++ u))
  declared_ports_go ts k =
      goes_then (listed header_port ts) (listed header_port (ts ++ u)) _ _ (listed_goes header_port header_port_goes ts k) (λ l s.
      pass_then (expect ")" due.AfterDeclared l.1) (expect ")" due.AfterDeclared (l.1 ++ u)) _ _ (expect_goes ")" due.AfterDeclared l.1 refl s) (λ a z.
      record { is = (z, refl) }))

  ports_go : (ts : Rest) → Shut ts → Goes u (ports ts) (ports (ts ++ u))
  unfolding ports
  ports_go ts k =
      at_goes ")" ts k _ _ _ _
      (λ e. rw (rest_more u ts k) (record { is = (behind ")" ts refl k e, refl) }))
      (λ e. pass_then (attributes ts) (attributes (ts ++ u)) _ _ (attributes_go ts k) (λ here s.
      rw (sort_more u here s) (goes_if (is_name (sort here)) _ _ _ _ (λ n. plain_ports_go ts k) (λ n. declared_ports_go ts k))))

  pub header_goes : (ts : Rest) → Shut ts → Goes u (header ts) (header (ts ++ u))
  unfolding header
  header_goes ts k =
      at_goes "(" ts k _ _ _ _
      (λ e. rw (rest_more u ts k) (goes_then (ports (rest ts)) (ports (rest ts ++ u)) _ _ (ports_go (rest ts) (behind "(" ts refl k e)) (λ l s.
      pass_then (expect ";" due.Nothing l.1) (expect ";" due.Nothing (l.1 ++ u)) _ _ (expect_goes ";" due.Nothing l.1 refl s) (λ a z.
      record { is = (z, refl) }))))
      (λ e. pass_then (expect ";" due.AfterModule ts) (expect ";" due.AfterModule (ts ++ u)) _ _ (expect_goes ";" due.AfterModule ts refl k) (λ a z.
      record { is = (z, refl) }))

  -- ---- gates, cells and assignments

  by_place_goes : (ts : Rest) → Shut ts → Goes u (by_place ts) (by_place (ts ++ u))
  unfolding by_place
  by_place_goes ts k = goes_then (term ts) (term (ts ++ u)) _ _ (term_goes ts k) (λ t s. record { is = (s, refl) })

  opened_goes : (ts : Rest) → Shut ts → Passes u (opened ts (instance_name ts)) (opened (ts ++ u) (instance_name (ts ++ u)))
  opened_goes [] k = absurd (elim k [ ])
  opened_goes (t ∷ ts) k = by (is_name t.sort) refl
    where
      by : (b : Bool) → is_name t.sort ≡ b
          → Passes u (expect "(" (cond b due.AfterInstance due.Nothing) (cond b ts (t ∷ ts)))
          (expect "(" (cond b due.AfterInstance due.Nothing) (cond b (ts ++ u) (t ∷ (ts ++ u))))
      by true e = expect_goes "(" due.AfterInstance ts refl (tail_shut (t ∷ ts) k (name_passes t.sort e))
      by false e = expect_goes "(" due.Nothing (t ∷ ts) refl k

  label_at : (ts : Rest) → Shut ts → at (instance_name (ts ++ u)) ≡ at (instance_name ts)
  label_at [] k = absurd (elim k [ ])
  label_at (t ∷ ts) k = by (is_name t.sort) refl
    where
      by : (b : Bool) → is_name t.sort ≡ b → at (cond b (ts ++ u) (t ∷ (ts ++ u))) ≡ at (cond b ts (t ∷ ts))
      by true e = at_more u ts (tail_shut (t ∷ ts) k (name_passes t.sort e))
      by false e = refl

  abbrev made : Shape → List Connection → Rest → ℕ → Read Component
  made shape cs after n = Ok (record { shape = shape; at = n; connections = cs }, after)

  gate_goes : (kind : Kind) (ts : Rest) → Shut ts → Goes u (parts.gate kind ts) (parts.gate kind (ts ++ u))
  unfolding parts.gate
  gate_goes kind ts k =
      pass_then (opened ts (instance_name ts)) (opened (ts ++ u) (instance_name (ts ++ u))) _ _ (opened_goes ts k) (λ inside s.
      goes_then (listed by_place inside) (listed by_place (inside ++ u)) _ _ (listed_goes by_place by_place_goes inside s) (λ terms z.
      pass_then (expect ")" due.AfterTerm terms.1) (expect ")" due.AfterTerm (terms.1 ++ u)) _ _ (expect_goes ")" due.AfterTerm terms.1 refl z) (λ after v.
      record {
        is = (v, ap (made (shapes.Gate kind) terms.0 (after ++ u)) (label_at ts k));
      })))

  place_goes : (ts : Rest) → Shut ts → Goes u (place ts) (place (ts ++ u))
  unfolding place
  place_goes ts k = at_goes ",)" ts k _ _ _ _ (λ e. record { is = (k, refl) }) (λ e. by_place_goes ts k)

  pin_goes : (ts : Rest) → Shut ts → Goes u (pin ts) (pin (ts ++ u))
  unfolding pin
  pin_goes ts k =
      pass_then (expect "." due.Nothing ts) (expect "." due.Nothing (ts ++ u)) _ _ (expect_goes "." due.Nothing ts refl k) (λ dot s.
      goes_then (expect_name dot) (expect_name (dot ++ u)) _ _ (name_goes dot s) (λ n z.
      pass_then (expect "(" due.Nothing n.1) (expect "(" due.Nothing (n.1 ++ u)) _ _ (expect_goes "(" due.Nothing n.1 refl z) (λ inside v.
      at_goes ")" inside v _ _ _ _
      (λ e. rw (rest_more u inside v) (record { is = (behind ")" inside refl v e, refl) }))
      (λ e. goes_then (term inside) (term (inside ++ u)) _ _ (term_goes inside v) (λ t w.
      pass_then (expect ")" due.AfterTerm t.1) (expect ")" due.AfterTerm (t.1 ++ u)) _ _ (expect_goes ")" due.AfterTerm t.1 refl w) (λ after y.
      record { is = (y, refl) }))))))

  connections_go : (ts : Rest) → Shut ts → Goes u (connections ts) (connections (ts ++ u))
  unfolding connections
  connections_go ts k =
      at_goes ")" ts k _ _ _ _
      (λ e. rw (rest_more u ts k) (record { is = (behind ")" ts refl k e, refl) }))
      (λ e. at_goes "." ts k _ _ _ _
      (λ f. goes_then (listed pin ts) (listed pin (ts ++ u)) _ _ (listed_goes pin pin_goes ts k) (λ pins s.
      pass_then (expect ")" due.Nothing pins.1) (expect ")" due.Nothing (pins.1 ++ u)) _ _ (expect_goes ")" due.Nothing pins.1 refl s) (λ after z.
      record { is = (z, refl) })))
      (λ f. goes_then (listed place ts) (listed place (ts ++ u)) _ _ (listed_goes place place_goes ts k) (λ places s.
      pass_then (expect ")" due.AfterTerm places.1) (expect ")" due.AfterTerm (places.1 ++ u)) _ _ (expect_goes ")" due.AfterTerm places.1 refl s) (λ after z.
      record { is = (z, refl) }))))

  instance_goes : (cell : Cell) (ts : Rest) → Shut ts → Goes u (instance cell ts) (instance cell (ts ++ u))
  unfolding instance
  instance_goes cell ts k =
      pass_then (opened ts (instance_name ts)) (opened (ts ++ u) (instance_name (ts ++ u))) _ _ (opened_goes ts k) (λ inside s.
      goes_then (connections inside) (connections (inside ++ u)) _ _ (connections_go inside s) (λ all z.
      record {
        is = (z, ap (made (shapes.Cell cell) all.0 (all.1 ++ u)) (label_at ts k));
      }))

  assignment_goes : (ts : Rest) → Shut ts → Goes u (assignment ts) (assignment (ts ++ u))
  unfolding assignment
  assignment_goes ts k =
      goes_then (term ts) (term (ts ++ u)) _ _ (term_goes ts k) (λ left s.
      pass_then (expect "=" due.AfterTerm left.1) (expect "=" due.AfterTerm (left.1 ++ u)) _ _ (expect_goes "=" due.AfterTerm left.1 refl s) (λ equals z.
      goes_then (term equals) (term (equals ++ u)) _ _ (term_goes equals z) (λ right v.
      rw (at_more u ts k) (record { is = (v, refl) }))))

  strength_more : (ts : Rest) → Shut ts
      → (is_at "(" (ts ++ u) && is_strength (sort (rest (ts ++ u)))) ≡ (is_at "(" ts && is_strength (sort (rest ts)))
  strength_more [] k = absurd (elim k [ ])
  strength_more (t ∷ ts) k = by (is_at "(" (t ∷ ts)) refl
    where
      by : (b : Bool) → is_at "(" (t ∷ ts) ≡ b → (b && is_strength (sort (ts ++ u))) ≡ (b && is_strength (sort ts))
      by true e = ap is_strength (sort_more u ts (behind "(" (t ∷ ts) refl k e))
      by false e = refl

  pub gates_go : (kind : Kind) (ts : Rest) → Shut ts → Goes u (gates kind ts) (gates kind (ts ++ u))
  unfolding gates
  gates_go kind ts k =
      rw (strength_more ts k) (goes_if (is_at "(" ts && is_strength (sort (rest ts))) _ _ _ _ (λ e. record { is = tt })
      (λ e. pass_then (delay ts) (delay (ts ++ u)) _ _ (delay_goes ts k) (λ first s.
      goes_then (listed (parts.gate kind) first) (listed (parts.gate kind) (first ++ u)) _ _ (listed_goes (parts.gate kind) (gate_goes kind) first s) (λ ps z.
      pass_then (expect ";" due.Nothing ps.1) (expect ";" due.Nothing (ps.1 ++ u)) _ _ (expect_goes ";" due.Nothing ps.1 refl z) (λ after v.
      record { is = (v, refl) })))))

  pub instances_go : (cell : Cell) (ts : Rest) → Shut ts → Goes u (instances cell ts) (instances cell (ts ++ u))
  unfolding instances
  instances_go cell ts k =
      at_goes "#" ts k _ _ _ _ (λ e. record { is = tt })
      (λ e. goes_then (listed (instance cell) ts) (listed (instance cell) (ts ++ u)) _ _ (listed_goes (instance cell) (instance_goes cell) ts k) (λ ps s.
      pass_then (expect ";" due.Nothing ps.1) (expect ";" due.Nothing (ps.1 ++ u)) _ _ (expect_goes ";" due.Nothing ps.1 refl s) (λ after z.
      record { is = (z, refl) })))

  pub assignments_go : (ts : Rest) → Shut ts → Goes u (assignments ts) (assignments (ts ++ u))
  unfolding assignments
  assignments_go ts k =
      pass_then (delay ts) (delay (ts ++ u)) _ _ (delay_goes ts k) (λ first s.
      goes_then (listed assignment first) (listed assignment (first ++ u)) _ _ (listed_goes assignment assignment_goes first s) (λ ps z.
      pass_then (expect ";" due.AfterTerm ps.1) (expect ";" due.AfterTerm (ps.1 ++ u)) _ _ (expect_goes ";" due.AfterTerm ps.1 refl z) (λ after v.
      record { is = (v, refl) })))
