-- Worked texts.
use Rattle.std.proofs.Common.{◌≡◌, ℕ, [], ◌∷◌, ◌++◌, Ok, Err, false, true, refl, length, Result}
use Rattle.bs_net.specs.declared.net.NetId.{NetId}
use Rattle.bs_net.specs.declared.gate.Kind.TheVariants.{Not, Buf}
use Rattle.bs_net.specs.declared.net.Mode.TheVariants.{Plain, Enable, Clear}
use Rattle.std.specs.Prelude.{codes, ⊤}
use Rattle.std.specs.Fmt.{digits}
use Rattle.bs_lex.specs.Tokens.{piece_at, tokens_from, comment_size, quoted_size}
use Rattle.bs_lex.specs.Lexemes.{word_of, decimal_from, name_text, without_zeros, names_from, sort_of, lexemes_of}
use Rattle.bs_verilog_syntax.specs.Reading.{refused, with_commas}
use Rattle.bs_verilog_syntax.specs.Terms.{index, term, num, time, timed, delay, attributes_from}
use Rattle.bs_verilog_syntax.specs.Declarations.{range, port_says, net_says, names, declared_name, plain_port, header_port, carried, ports, header}
use Rattle.bs_verilog_syntax.specs.Parts.{by_place, gate, place, pin, connections, instance, assignment, gates, instances, assignments}
use Rattle.bs_verilog_syntax.specs.Modules.{item, items, top, skipped, begun, further, cells, leading, syntax_of}
use Rattle.bs_verilog_scope.specs.Keys.{scalar_key, bit_key, keys}
use Rattle.bs_verilog_scope.specs.Declaring.{said, first_after, known_nets, first_over, naming_fault, declaring_fault}
use Rattle.bs_verilog.specs.Terminals.{is_gate, is_assignment, pins_of, cell_pins}
use Rattle.bs_verilog.specs.Building.{each, implicit_net, declared_key, constant_net, named_net, term_net, with_connection, gates_of, with_part}
use Rattle.bs_net.specs.Parts.{Parts}
use Rattle.bs_verilog_scope.specs.Nets.{with_keys}
use Rattle.bs_verilog.specs.Netlist.{port_bits, supply_consts, built_of, meaning_of, netlist_text}
use Rattle.bs_verilog_syntax.specs.declared.fault.What.TheVariants as what
use Rattle.bs_verilog_syntax.specs.declared.fault.VerilogFault.{VerilogFault}
use Rattle.bs_verilog_syntax.specs.declared.fault.VerilogFault.TheVariants.{Syntax, Unsupported, Redeclared, Port, Index, Terminals}

-- what computes the netlist of a text
unfoldable reading_a_netlist : ⊤
unfolding piece_at tokens_from comment_size quoted_size word_of decimal_from name_text without_zeros names_from sort_of lexemes_of refused with_commas
    index term num time delay attributes_from range port_says net_says names declared_name plain_port header_port carried ports header timed by_place
    gate place pin connections instance assignment gates instances assignments item items top skipped begun further cells leading syntax_of scalar_key
    bit_key keys known_nets first_over declaring_fault naming_fault term_net with_part supply_consts built_of said first_after is_gate is_assignment
    pins_of cell_pins each implicit_net declared_key constant_net named_net with_connection gates_of port_bits with_keys meaning_of
    netlist_text
reading_a_netlist = tt

-- how many names, inputs, outputs, gates and flip-flops
abbrev shown : Result Parts VerilogFault → ℕ × ℕ × ℕ × ℕ × ℕ
shown (Ok n) = (length n.names, length n.inputs, length n.outputs, length n.gates, length n.flops)
shown (Err e) = (0, 0, 0, 0, 0)

abbrev net : ℕ → NetId
net n = record { 0 = n }

always_in_body : netlist_text (codes "module m(ck); input ck; always endmodule") ≡ Err (Unsupported 24 what.Behaviour)
unfolding reading_a_netlist
always_in_body = refl

instance_of_a_module : netlist_text (codes "module m(ck); input ck; foo u(ck); endmodule") ≡ Err (Unsupported 24 what.Hierarchy)
unfolding reading_a_netlist
instance_of_a_module = refl

no_semicolon : netlist_text (codes "module m(ck) input ck; endmodule") ≡ Err (Syntax 13)
unfolding reading_a_netlist
no_semicolon = refl

port_without_direction : netlist_text (codes "module m(ck,z); input ck; endmodule") ≡ Err (Port 12)
unfolding reading_a_netlist
port_without_direction = refl

wire_twice : netlist_text (codes "module m(ck); input ck; wire a; wire a; endmodule") ≡ Err (Redeclared 37)
unfolding reading_a_netlist
wire_twice = refl

one_terminal : netlist_text (codes "module m(ck); input ck; and g(z); endmodule") ≡ Err (Terminals 29)
unfolding reading_a_netlist
one_terminal = refl

unclosed_delay : netlist_text (codes "module m(ck); input ck; and #(1,2 g(z,a); endmodule") ≡ Err (Syntax 34)
unfolding reading_a_netlist
unclosed_delay = refl

a_slice : netlist_text (codes "module m(ck); input ck; not (b, a[1:0]); endmodule") ≡ Err (Unsupported 35 what.Width)
unfolding reading_a_netlist
a_slice = refl

an_expression : netlist_text (codes "module m(ck); input ck; assign a = b & ck; endmodule") ≡ Err (Unsupported 37 what.Expression)
unfolding reading_a_netlist
an_expression = refl

inout : netlist_text (codes "module m(ck); inout d; endmodule") ≡ Err (Unsupported 14 what.Direction)
unfolding reading_a_netlist
inout = refl

toggle : netlist_text (codes "module t(ck); input ck; not g(d,q); dff f(ck,q,d); endmodule") ≡ Ok
    (record {
      names = codes "ck" ∷ codes "d" ∷ codes "q" ∷ [];
      inputs = net 0 ∷ [];
      outputs = [];
      consts = [];
      gates = record
          { kind = Not; out = net 1; ins = net 2 ∷ [] } ∷ [];
      flops = record { q = net 2; d = net 1; ck = net 0; reset = false; mode = Plain } ∷ [];
    })
unfolding reading_a_netlist
toggle = refl

pins_ports_constants : netlist_text (codes
    "module \\a+b (input ck, output z); supply1 vdd; wire z; dffs f(.D(1'b0),.\\CK (ck),.Q(z)); (* n *) buf #(1:2:3) b(y, n, z); endmodule") ≡ Ok
    (record {
      names = codes "ck" ∷ codes "z" ∷ codes "vdd" ∷ codes "1'b0" ∷ codes "y" ∷ codes "n" ∷ [];
      inputs = net 0 ∷ [];
      outputs = net 1 ∷ [];
      consts =
          record { net = net 2; value = true } ∷ record { net = net 3; value = false } ∷ [];
      gates = record { kind = Buf; out = net 4; ins = net 1 ∷ [] } ∷ record
          { kind = Buf; out = net 5; ins = net 1 ∷ [] } ∷ [];
      flops = record { q = net 1; d = net 3; ck = net 0; reset = true; mode = Plain } ∷ [];
    })
unfolding reading_a_netlist
pins_ports_constants = refl

s27 : shown (netlist_text (
    codes "// s27, four inputs, three flip-flops\nmodule dff(CK,Q,D);\ninput CK,D;\noutput Q;\nreg Q;\nalways @(posedge CK) Q <= D;\n"
    ++ codes "endmodule\nmodule s27(GND,VDD,CK,G0,G1,G17,G2,G3);\ninput GND,VDD,CK,G0,G1,G2,G3;\noutput G17;\n"
    ++ codes "wire G5,G10,G6,G11,G7,G13,G14,G8,G15,G12,G16,G9;\ndff DFF_0(CK,G5,G10);\ndff DFF_1(CK,G6,G11);\ndff DFF_2(CK,G7,G13);\n"
    ++ codes "not NOT_0(G14,G0);\nnot NOT_1(G17,G11);\nand AND2_0(G8,G14,G6);\nor OR2_0(G15,G12,G8);\nor OR2_1(G16,G3,G8);\n"
    ++ codes "nand NAND2_0(G9,G16,G15);\nnor NOR2_0(G10,G14,G11);\nnor NOR2_1(G11,G5,G9);\nnor NOR2_2(G12,G1,G7);\n"
    ++ codes "nor NOR2_3(G13,G2,G12); endmodule")) ≡ (20, 7, 1, 10, 3)
unfolding reading_a_netlist
s27 = refl

term_due_in_connections : netlist_text (codes "module m(ck); input ck; dff f(~ck,q,d); endmodule") ≡ Err (Unsupported 30 what.Expression)
unfolding reading_a_netlist
term_due_in_connections = refl

two_bits_in_a_pin : netlist_text (codes "module m(ck); input ck; dff f(.D(2'b01)); endmodule") ≡ Err (Unsupported 33 what.Constant)
unfolding reading_a_netlist
two_bits_in_a_pin = refl

default_in_a_header : netlist_text (codes "module m(input a = 1); endmodule") ≡ Err (Unsupported 17 what.Expression)
unfolding reading_a_netlist
default_in_a_header = refl

default_in_a_plain_header : netlist_text (codes "module m(a = 1); endmodule") ≡ Err (Syntax 11)
unfolding reading_a_netlist
default_in_a_plain_header = refl

strength : netlist_text (codes "module m(ck); input ck; and (strong0, strong1) g(a,b); endmodule") ≡ Err (Unsupported 29 what.Strength)
unfolding reading_a_netlist
strength = refl

supply_strength : netlist_text (codes "module m(ck); input ck; and (supply0, strong1) g(a,b); endmodule") ≡ Err (Unsupported 29 what.Strength)
unfolding reading_a_netlist
supply_strength = refl

strength_after_delay : netlist_text (codes "module m(ck); input ck; and #1 (strong0, strong1) g(a,b); endmodule") ≡ Err (Syntax 32)
unfolding reading_a_netlist
strength_after_delay = refl

array : netlist_text (codes "module m(ck); input ck; and g [3:0] (a,b); endmodule") ≡ Err (Unsupported 30 what.Array)
unfolding reading_a_netlist
array = refl

parameter_of_a_cell : netlist_text (codes "module m(ck); input ck; dff #(1) f(ck,q,d); endmodule") ≡ Err (Unsupported 28 what.Parameter)
unfolding reading_a_netlist
parameter_of_a_cell = refl

parameter_of_the_module : netlist_text (codes "module m #(1) (ck); endmodule") ≡ Err (Unsupported 9 what.Parameter)
unfolding reading_a_netlist
parameter_of_the_module = refl

reg_port : netlist_text (codes "module m(output reg q); endmodule") ≡ Err (Unsupported 16 what.NetType)
unfolding reading_a_netlist
reg_port = refl

reg_item : netlist_text (codes "module m(q); reg q; endmodule") ≡ Err (Unsupported 13 what.Behaviour)
unfolding reading_a_netlist
reg_item = refl

inout_in_the_second_form : netlist_text (codes "module m(input a, inout b); endmodule") ≡ Err (Unsupported 18 what.Direction)
unfolding reading_a_netlist
inout_in_the_second_form = refl

inout_in_the_first_form : netlist_text (codes "module m(a, inout b); endmodule") ≡ Err (Syntax 12)
unfolding reading_a_netlist
inout_in_the_first_form = refl

directive : netlist_text (codes "module m(ck); `include input ck; endmodule") ≡ Err (Unsupported 14 what.Directive)
unfolding reading_a_netlist
directive = refl

wide_range : netlist_text (codes "module m(a); input [70000:0] a; endmodule") ≡ Err (Index 19)
unfolding reading_a_netlist
wide_range = refl

supply_port : netlist_text (codes "module m(a); input a; supply0 a; endmodule") ≡ Err (Redeclared 30)
unfolding reading_a_netlist
supply_port = refl

other_ranges : netlist_text (codes "module m(a); input a; wire [0:0] a; endmodule") ≡ Err (Redeclared 33)
unfolding reading_a_netlist
other_ranges = refl

wire_again_after_input_wire : netlist_text (codes "module m(a); input wire a; wire a; endmodule") ≡ Err (Redeclared 32)
unfolding reading_a_netlist
wire_again_after_input_wire = refl

header_name_twice : netlist_text (codes "module m(a, b, a); input a, b; endmodule") ≡ Err (Redeclared 15)
unfolding reading_a_netlist
header_name_twice = refl

constant_on_the_left : netlist_text (codes "module m(a); input a; assign 1'b0 = a; endmodule") ≡ Err (Terminals 29)
unfolding reading_a_netlist
constant_on_the_left = refl

constant_output : netlist_text (codes "module m(a); input a; and (1'b0, a); endmodule") ≡ Err (Terminals 26)
unfolding reading_a_netlist
constant_output = refl

index_of_a_scalar : netlist_text (codes "module m(a); input a; and (z, a[0]); endmodule") ≡ Err (Index 30)
unfolding reading_a_netlist
index_of_a_scalar = refl

unclosed_comment : netlist_text (codes "module m(a); /* input a; endmodule") ≡ Err (Syntax 13)
unfolding reading_a_netlist
unclosed_comment = refl

second_top : netlist_text (codes "module m(a); input a; endmodule module k(b); input b; endmodule") ≡ Err (Unsupported 32 what.Hierarchy)
unfolding reading_a_netlist
second_top = refl

switch_primitive : netlist_text (codes "module m(a); bufif0 b(x,y,z); endmodule") ≡ Err (Unsupported 13 what.Primitive)
unfolding reading_a_netlist
switch_primitive = refl

great_bounds_that_differ : netlist_text (codes "module m(a); input [70000:0] a; wire [80000:0] a; endmodule") ≡ Err (Redeclared 47)
unfolding reading_a_netlist
great_bounds_that_differ = refl

equal_great_bounds : netlist_text (codes "module m(a); input [70000:0] a; wire [070000:0] a; endmodule") ≡ Err (Index 19)
unfolding reading_a_netlist
equal_great_bounds = refl

index_past_the_range : netlist_text (codes "module m(ck); input ck; wire [1:0] a; not (b, a[2]); endmodule") ≡ Err (Index 46)
unfolding digits reading_a_netlist
index_past_the_range = refl

unknown_constant : netlist_text (codes "module m(ck); input ck; and (z,1'bx,ck); endmodule") ≡ Err (Unsupported 31 what.Constant)
unfolding reading_a_netlist
unknown_constant = refl

open_comment : netlist_text (codes "module m(ck); input ck; /* x") ≡ Err (Syntax 24)
unfolding reading_a_netlist
open_comment = refl

port_before_terminals : netlist_text (codes "module m(ck,z); input ck; and g(z); endmodule") ≡ Err (Port 12)
unfolding reading_a_netlist
port_before_terminals = refl

least_wide_bound : netlist_text (codes "module m(ck); input ck; wire [65536:0] v; endmodule") ≡ Err (Index 29)
unfolding reading_a_netlist
least_wide_bound = refl

cells_alone : netlist_text (codes "module dff (CK); endmodule") ≡ Err (Syntax 26)
unfolding reading_a_netlist
cells_alone = refl

unended_cell_behind_the_top : netlist_text (codes "module m(ck); input ck; endmodule module dff (CK);") ≡ Err (Syntax 50)
unfolding reading_a_netlist
unended_cell_behind_the_top = refl

cells_around_the_top : shown (netlist_text (codes
    "module dff (D); wire endmodule module dffs 1 endmodule module m(ck); input ck; endmodule module dff endmodule")) ≡ (1, 1, 0, 0, 0)
unfolding reading_a_netlist
cells_around_the_top = refl

cells_with_four_pins_around_the_top : shown (netlist_text (codes
    "module dffe (E); wire endmodule module m(ck); input ck; endmodule module dffr 1 endmodule")) ≡ (1, 1, 0, 0, 0)
unfolding reading_a_netlist
cells_with_four_pins_around_the_top = refl

escaped_names : shown (netlist_text (codes "module m(ck); input ck; not (\\ck ,a); not (\\a+ ,a); endmodule")) ≡ (3, 1, 0, 2, 0)
unfolding reading_a_netlist
escaped_names = refl

user_primitive : netlist_text (codes "primitive p(a); endmodule") ≡ Err (Unsupported 0 what.Primitive)
unfolding reading_a_netlist
user_primitive = refl

stray_direction : netlist_text (codes "module m(a); input a; input b; endmodule") ≡ Err (Port 28)
unfolding reading_a_netlist
stray_direction = refl

generate_block : netlist_text (codes "module m(a); input a; generate endmodule") ≡ Err (Unsupported 22 what.Behaviour)
unfolding reading_a_netlist
generate_block = refl

pins_and_places : netlist_text (codes "module m(ck); input ck; dff f(.CK(ck), q, .D(d)); endmodule") ≡ Err (Syntax 39)
unfolding reading_a_netlist
pins_and_places = refl

pin_twice : netlist_text (codes "module m(ck); input ck; dff f(.CK(ck), .Q(q), .Q(d)); endmodule") ≡ Err (Terminals 29)
unfolding reading_a_netlist
pin_twice = refl

empty_connection : netlist_text (codes "module m(ck); input ck; dff f(ck, , d); endmodule") ≡ Err (Terminals 29)
unfolding reading_a_netlist
empty_connection = refl

enable_and_clear_by_place : netlist_text (codes "module m(ck); input ck; dffe f(ck, q, d, e); dffr g(ck, p, d, r); endmodule") ≡ Ok
    (record {
      names = codes "ck" ∷ codes "q" ∷ codes "d" ∷ codes "e" ∷ codes "p" ∷ codes "r" ∷ [];
      inputs = net 0 ∷ [];
      outputs = [];
      consts = [];
      gates = [];
      flops = record
          { q = net 1; d = net 2; ck = net 0; reset = false; mode = Enable (net 3) } ∷ record
          { q = net 4; d = net 2; ck = net 0; reset = false; mode = Clear (net 5) } ∷ [];
    })
unfolding reading_a_netlist
enable_and_clear_by_place = refl

enable_and_clear_by_name : netlist_text
    (codes "module m(ck); input ck; dffe f(.E(e), .D(d), .CK(ck), .Q(q)); dffr g(.Q(p), .R(r), .D(q), .CK(ck)); endmodule") ≡ Ok
    (record {
      names = codes "ck" ∷ codes "e" ∷ codes "d" ∷ codes "q" ∷ codes "p" ∷ codes "r" ∷ [];
      inputs = net 0 ∷ [];
      outputs = [];
      consts = [];
      gates = [];
      flops = record
          { q = net 3; d = net 2; ck = net 0; reset = false; mode = Enable (net 1) } ∷ record
          { q = net 4; d = net 3; ck = net 0; reset = false; mode = Clear (net 5) } ∷ [];
    })
unfolding reading_a_netlist
enable_and_clear_by_name = refl

three_connections_of_four : netlist_text (codes "module m(ck); input ck; dffe f(ck,q,d); endmodule") ≡ Err (Terminals 30)
unfolding reading_a_netlist
three_connections_of_four = refl

four_connections_of_three : netlist_text (codes "module m(ck); input ck; dff f(ck,q,d,e); endmodule") ≡ Err (Terminals 29)
unfolding reading_a_netlist
four_connections_of_three = refl

pin_of_another_cell : netlist_text (codes "module m(ck); input ck; dffe f(.CK(ck), .Q(q), .D(d), .R(r)); endmodule") ≡ Err (Terminals 30)
unfolding reading_a_netlist
pin_of_another_cell = refl

no_name_after_module : netlist_text (codes "module module endmodule") ≡ Err (Syntax 7)
unfolding reading_a_netlist
no_name_after_module = refl

no_net_in_the_range : netlist_text (codes "module m(a); input [1_0:0] a; endmodule") ≡ Err (Syntax 20)
unfolding reading_a_netlist
no_net_in_the_range = refl

attribute_unclosed : netlist_text (codes "(* x") ≡ Err (Syntax 4)
unfolding reading_a_netlist
attribute_unclosed = refl

no_text : netlist_text [] ≡ Err (Syntax 0)
unfolding reading_a_netlist
no_text = refl
