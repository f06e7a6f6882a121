-- Worked texts.
use Rattle.std.proofs.Common.{◌≡◌, arith, ℕ, List, [], ◌∷◌, ◌++◌, Ok, Err, false, true, refl, length, Result, codes}
use Rattle.std.specs.Prelude.{if◌then◌else◌, nat_lt, ⊤}
use Rattle.std.specs.Fmt.{digits}
use Rattle.std.specs.List.{IsDistinct}
use Rattle.bs_net.specs.declared.net.NetId.{NetId}
use Rattle.bs_net.specs.declared.gate.Kind.TheVariants.{Not, Buf, And}
use Rattle.bs_net.specs.declared.net.Mode.TheVariants.{Plain, Enable}
use Rattle.bs_net.specs.Parts.{Parts}
use Rattle.bs_lex.specs.declared.token.Token.{Token}
use Rattle.bs_lex.specs.Tokens.{piece_at, tokens_from, comment_size, quoted_size}
use Rattle.bs_lex.specs.Lexemes.{word_of, decimal_from, name_text, without_zeros, names_from, names_of, sort_of, lexemes_of}
use Rattle.bs_verilog_syntax.specs.Reading.{refused, with_commas}
use Rattle.bs_verilog_syntax.specs.Terms.{index, term, num, time, timed, delay, attributes_from}
use Rattle.bs_verilog_syntax.specs.Declarations.{range, port_says, net_says, names, declared_name, plain_port, header_port, carried, ports, header}
use Rattle.bs_verilog_syntax.specs.Parts.{by_place, gate, place, pin, connections, instance, assignment, gates, instances, assignments}
use Rattle.bs_verilog_syntax.specs.Modules.{item, items, top, skipped, begun, further, cells, leading, syntax_of}
use Rattle.bs_verilog_syntax.specs.declared.fault.What.TheVariants as what
use Rattle.bs_verilog_syntax.specs.declared.fault.VerilogFault.TheVariants.{Syntax, Unsupported}
use Rattle.bs_verilog_scope.specs.Keys.{scalar_key, bit_key, keys}
use Rattle.bs_verilog_scope.specs.Declaring.{said, first_after, known_nets, first_over, naming_fault, declaring_fault}
use Rattle.bs_verilog_scope.specs.Nets.{with_keys}
use Rattle.bs_verilog.specs.Terminals.{is_gate, is_assignment, pins_of, cell_pins}
use Rattle.bs_verilog.specs.Building.{each, implicit_net, declared_key, constant_net, named_net, term_net, with_connection, gates_of, with_part}
use Rattle.bs_verilog.specs.Netlist.{port_bits, supply_consts, built_of, meaning_of, netlist_text, tokenised}
use Rattle.bs_flat_meaning.specs.declared.fault.FlatFault.{FlatFault}
use Rattle.bs_flat_meaning.specs.declared.fault.FlatFault.TheVariants.{Verilog, Twice, Tops, Connect, NameClash}
use Rattle.bs_flat_meaning.specs.Design.{module_at, paths_from, paths}
use Rattle.bs_flat_meaning.specs.Meaning.{root}
use Rattle.bs_flat_meaning.specs.Flat.{first_constant, home, flat_nets, flat_number, path_text, flat_key, flat_parts}
use Rattle.bs_flat_meaning.specs.Pieces.{Piece, to_endmodule, first_piece, pieces_from, to_semicolon, items_from, own_text, statements_of, modules_of}
use Rattle.bs_flat_meaning.specs.Instancing.{one_instance, instancing}
use Rattle.bs_flat_meaning.specs.Connecting.{ReadModule, term_keys, ports_from, by_places, by_pins, goes, with_term, with_terms, whole_parts, joins_from}
use Rattle.bs_flat_meaning.specs.Reading.{IsRing, all_of, owns_within, second_module, second_instance, first_of, read_modules, tops, design_of, connect_fault, clash_in}
use Rattle.bs_flat_meaning.specs.Reading.{connected_modules, elaborated, flattened, ◌then◌, as_verilog}

-- the answer of a text without a ring
unfoldable answered : List ℕ → Result Parts FlatFault
answered source =
    as_verilog (tokenised source) then (λ tokens.
    let ts = lexemes_of source tokens in
    let table = names_of source tokens in
    if nat_lt (length (modules_of ts)) 2 then as_verilog (netlist_text source)
    else read_modules table ts then (λ ks. flattened table (modules_of ts) ks))

abbrev net : ℕ → NetId
net n = record { 0 = n }

-- what computes the flat parts of a text
unfoldable reading_a_design : ⊤
unfolding digits piece_at tokens_from comment_size quoted_size word_of decimal_from name_text without_zeros names_from sort_of lexemes_of refused
    with_commas index term num time delay attributes_from range port_says net_says names declared_name plain_port header_port carried ports header timed
    by_place gate place pin connections instance assignment gates instances assignments item items top skipped begun further cells leading syntax_of
    scalar_key bit_key keys known_nets first_over declaring_fault naming_fault term_net with_part supply_consts built_of said first_after is_gate
    is_assignment pins_of cell_pins each implicit_net declared_key constant_net named_net with_connection gates_of port_bits with_keys meaning_of
    netlist_text module_at paths_from paths root first_constant home flat_nets flat_number path_text flat_key flat_parts to_endmodule first_piece
    pieces_from to_semicolon items_from own_text statements_of one_instance instancing term_keys ports_from by_places by_pins goes with_term with_terms
    whole_parts joins_from all_of owns_within second_module second_instance first_of read_modules tops design_of connect_fault clash_in connected_modules elaborated flattened answered
reading_a_design = tt

an_inverter : answered (
    codes "module inv(z,a); output z; input a; not g(z,a); endmodule module t(ck); input ck; inv u(d,q); dff f(ck,q,d); endmodule"
    ) ≡ Ok (record {
      names = codes "ck" ∷ codes "q" ∷ codes "d" ∷ [];
      inputs = net 0 ∷ [];
      outputs = [];
      consts = [];
      gates = record { kind = Not; out = net 2; ins = net 1 ∷ [] } ∷ [];
      flops = record { q = net 1; d = net 2; ck = net 0; reset = false; mode = Plain } ∷ [];
    })
unfolding reading_a_design
an_inverter = refl

two_of_one : answered (
    codes "module c1(ck); input ck; not g(d,q); dff f(ck,q,d); endmodule module t(ck); input ck; c1 u(ck); c1 v(ck); endmodule"
    ) ≡ Ok (record {
      names = codes "ck" ∷ codes "\\u.d" ∷ codes "\\u.q" ∷ codes "\\v.d" ∷ codes "\\v.q" ∷ [];
      inputs = net 0 ∷ [];
      outputs = [];
      consts = [];
      gates = record { kind = Not; out = net 1; ins = net 2 ∷ [] } ∷ record { kind = Not; out = net 3; ins = net 4 ∷ [] } ∷ [];
      flops =
          record { q = net 2; d = net 1; ck = net 0; reset = false; mode = Plain }
          ∷ record { q = net 4; d = net 3; ck = net 0; reset = false; mode = Plain }
          ∷ [];
    })
unfolding reading_a_design
two_of_one = refl

vectors_and_constants : answered (
    codes "module c(q,ck,a); output [1:0] q; input ck, a; wire w; buf (q[1], w); and (q[0], a, 1'b1); endmodule "
    ++ codes "module t(ck,o); input ck; output [0:1] o; c u(.ck(ck), .q(o), .a(1'b1)); c v(.ck(ck), .a(o[0])); dff (ck, x, 1'b1); endmodule"
    ) ≡ Ok (record {
      names =
          codes "ck" ∷ codes "o[0]" ∷ codes "o[1]" ∷ codes "x" ∷ codes "1'b1" ∷ codes "\\u.w" ∷ codes "[1]\\v.q" ∷ codes "[0]\\v.q" ∷ codes "\\v.w"
          ∷ [];
      inputs = net 0 ∷ [];
      outputs = net 1 ∷ net 2 ∷ [];
      consts = record { net = net 4; value = true } ∷ [];
      gates =
          record { kind = Buf; out = net 1; ins = net 5 ∷ [] }
          ∷ record { kind = And; out = net 2; ins = net 4 ∷ net 4 ∷ [] }
          ∷ record { kind = Buf; out = net 6; ins = net 8 ∷ [] }
          ∷ record { kind = And; out = net 7; ins = net 1 ∷ net 4 ∷ [] }
          ∷ [];
      flops = record { q = net 3; d = net 4; ck = net 0; reset = false; mode = Plain } ∷ [];
    })
unfolding reading_a_design
vectors_and_constants = refl

module_twice : answered (codes "module a(ck); input ck; endmodule module b(ck); input ck; endmodule module a(ck); input ck; endmodule") ≡ Err (Twice 68)
unfolding reading_a_design
module_twice = refl

own_fault_first : answered (codes "module a(ck); input ck; b u(ck) endmodule module b(ck); input ck; always endmodule") ≡ Err
    (Verilog (Unsupported 66 what.Behaviour))
unfolding reading_a_design
own_fault_first = refl

statement_form : answered (codes "module a(ck); input ck; b u(ck) endmodule module b(ck); input ck; endmodule") ≡ Err (Verilog (Syntax 32))
unfolding reading_a_design
statement_form = refl

no_instance_name : answered (codes "module a(ck); input ck; b (ck); endmodule module b(ck); input ck; endmodule") ≡ Err (Verilog (Syntax 26))
unfolding reading_a_design
no_instance_name = refl

an_array : answered (codes "module a(ck); input ck; b u[3:0](ck); endmodule module b(ck); input ck; endmodule") ≡ Err (Verilog (Unsupported 27 what.Array))
unfolding reading_a_design
an_array = refl

a_parameter : answered (codes "module a(ck); input ck; b #(3) u(ck); endmodule module b(ck); input ck; endmodule") ≡ Err
    (Verilog (Unsupported 26 what.Parameter))
unfolding reading_a_design
a_parameter = refl

instance_twice : answered (codes "module a(ck); input ck; b u(ck); b u(ck); endmodule module b(ck); input ck; endmodule") ≡ Err (Twice 35)
unfolding reading_a_design
instance_twice = refl

two_tops : answered (codes "module a(ck); input ck; endmodule module b(ck); input ck; endmodule") ≡ Err (Tops 2)
unfolding reading_a_design
two_tops = refl

no_such_port : answered (codes "module a(ck); input ck; b u(.x()); endmodule module b(ck); input ck; endmodule") ≡ Err (Connect 29)
unfolding reading_a_design
no_such_port = refl

past_the_last : answered (codes "module a(ck); input ck; b u(ck,,ck); endmodule module b(ck); input ck; endmodule") ≡ Err (Connect 32)
unfolding reading_a_design
past_the_last = refl

constant_on_output : answered (codes "module a(ck); input ck; b u(1'b0); endmodule module b(z); output z; endmodule") ≡ Err (Connect 28)
unfolding reading_a_design
constant_on_output = refl

port_twice : answered (codes "module a(ck); input ck; b u(.ck(ck),.ck(ck)); endmodule module b(ck); input ck; endmodule") ≡ Err (Connect 37)
unfolding reading_a_design
port_twice = refl

other_width : answered (codes "module a(ck); input [1:0] ck; b u(ck); endmodule module b(ck); input ck; endmodule") ≡ Err (Connect 34)
unfolding reading_a_design
other_width = refl

a_clash : answered (codes "module a(ck); input ck; b u(ck); not (\\u.x , ck); endmodule module b(ck); input ck; not (x, ck); endmodule") ≡ Err
    (NameClash (codes "\\u.x"))
unfolding reading_a_design
a_clash = refl

stray_between : answered (codes "module a(ck); input ck; b u(ck); endmodule foo module b(ck); input ck; endmodule") ≡ Err (Verilog (Syntax 43))
unfolding reading_a_design
stray_between = refl

abbrev ring_text : List ℕ
ring_text = codes "module a(ck); input ck; b u(ck); endmodule module b(ck); input ck; a v(ck); endmodule"

-- the modules of a text, where they are read
abbrev modules_in : Result (List Token) FlatFault → List ℕ → Result (List ReadModule) FlatFault
modules_in (Ok tokens) source = read_modules (names_of source tokens) (lexemes_of source tokens)
modules_in (Err e) source = Err e

abbrev names_in : Result (List Token) FlatFault → List ℕ → List (List ℕ)
names_in (Ok tokens) source = names_of source tokens
names_in (Err e) source = []

abbrev pieces_in : Result (List Token) FlatFault → List ℕ → List Piece
pieces_in (Ok tokens) source = modules_of (lexemes_of source tokens)
pieces_in (Err e) source = []

abbrev read_or_none : Result (List ReadModule) FlatFault → List ReadModule
read_or_none (Ok ks) = ks
read_or_none (Err e) = []

-- modules 0 and 1 are a ring
a_ring : IsRing (pieces_in (as_verilog (tokenised ring_text)) ring_text) (read_or_none (modules_in (as_verilog (tokenised ring_text)) ring_text)) (0 ∷ 1 ∷ [])
unfolding reading_a_design IsDistinct
a_ring = (((refl, tt), (tt, tt)), (omega arith, refl, refl))

an_enable_on_its_path : answered (
    codes "module c(q,ck,d,e); output q; input ck,d,e; dffe f(.CK(ck),.Q(q),.D(d),.E(e)); endmodule "
    ++ codes "module t(ck,e); input ck,e; c u(q,ck,n,e); not (n,q); endmodule"
    ) ≡ Ok (record {
      names = codes "ck" ∷ codes "e" ∷ codes "n" ∷ codes "q" ∷ [];
      inputs = net 0 ∷ net 1 ∷ [];
      outputs = [];
      consts = [];
      gates = record { kind = Not; out = net 2; ins = net 3 ∷ [] } ∷ [];
      flops = record { q = net 3; d = net 2; ck = net 0; reset = false; mode = Enable (net 1) } ∷ [];
    })
unfolding reading_a_design
an_enable_on_its_path = refl
