-- What an expression meets in a member.
use Rattle.std.specs.Prelude.{ℕ, List, Option}
use Rattle.omf_format.specs.declared.value.Value.{Value}
use Rattle.omf_format.specs.Value.{Environment}
use Rattle.link_meaning.specs.Member.{Member}
use Rattle.link_program.specs.Outside.{all_found}
use Rattle.link_meaning.specs.LinkValues.{label_value}
use Rattle.link_meaning.specs.laws.Steps.{attribute_value}
use Rattle.link_program.specs.Linked.{member_at}
use Rattle.link_program.specs.Finding.{finds_for}
use Rattle.link_values.specs.declared.slots.ValueSlot.{ValueSlot}
use Rattle.link_values.specs.Slots.{AreOnce, AreSlots, rows_of}

-- there is a slot for each definition, and no two equates have the same place and displacement
pub record AreKnown (list : List Member) (slots : List ValueSlot) : Type 0 where
  pub once : AreOnce (all_found list)
  pub are : AreSlots list (all_found list) slots

-- what an expression meets in a member at a place, if there is one
abbrev pub environment_in_member : List Member → List ValueSlot → ℕ → Option Member → Value → Value → Environment
environment_in_member list slots place m location start = record {
  label = λ name weak. label_value list (rows_of (all_found list) slots) weak (finds_for list place m name);
  attribute = λ code name. attribute_value code (finds_for list place m name);
  location = location;
  start = start;
}

-- a place in a program whose definitions have these values
pub record Surroundings : Type 0 where
  pub list : List Member
  pub slots : List ValueSlot
  pub place : ℕ
  pub location : Value
  pub start : Value

-- what an expression meets there
abbrev pub environment_of : Surroundings → Environment
environment_of s = environment_in_member s.list s.slots s.place (member_at s.list s.place) s.location s.start
