-- The top module as it is written: names by their texts, numbers of any size, no places.
use Rattle.std.specs.Prelude.{ℕ, Bool, List, Option}
use Rattle.bs_verilog_syntax.specs.declared.tree.Direction as code
use Rattle.bs_verilog_syntax.specs.declared.tree.Net as code_net
use Rattle.bs_verilog_syntax.specs.declared.tree.Shape as code_shape

-- the bounds of a vector
pub record Range : Type 0 where
  pub left : ℕ
  pub right : ℕ

-- what a declaration says of each of its names
pub record Says : Type 0 where
  pub direction : Option code.Direction
  pub net : Option code_net.Net
  pub range : Option Range

-- a declared name
pub record Declared : Type 0 where
  pub says : Says
  pub name : List ℕ

-- a term
pub data Term : Type 0 where
  constant : Bool → Term
  named : List ℕ → Option ℕ → Term

-- what stands between two commas of a gate or cell
pub data Connection : Type 0 where
  empty : Connection
  place : Term → Connection
  pin : List ℕ → Option Term → Connection

-- a gate, a cell or an assignment
pub record Component : Type 0 where
  pub shape : code_shape.Shape
  pub connections : List Connection

-- a port of a header, and what is said before its name, if anything
pub record HeaderPort : Type 0 where
  pub says : Option Says
  pub name : List ℕ

-- the names of a header, and those that it declares
pub record Ports : Type 0 where
  pub header : List (List ℕ)
  pub declared : List Declared

-- what an item adds to its module
pub record Adds : Type 0 where
  pub declared : List Declared
  pub parts : List Component

-- the top module
pub record Module : Type 0 where
  pub header : List (List ℕ)
  pub declared : List Declared
  pub parts : List Component
