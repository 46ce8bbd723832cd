use Rattle.std.proofs.Common.{◌≡◌, ◌++◌, ◌-◌, ◌≤◌, map}
use Rattle.std.specs.List.{flat_map}
use Rattle.omf_format.specs.Field.{written_layout}
use Rattle.omf_format.specs.Record.{spelling}
use Rattle.load_writer.specs.WrittenParts.{seen, IsFront}
use Rattle.load_meaning.specs.WrittenBody.{supers_from}
use Rattle.load_writer.proofs.written.put_supers.Given as goal

-- the records so far and those of the types that are left
abbrev pub invariant-forms : goal.invariant-forms
invariant-forms l = record {
  most : l.form ≤ 38;
  whole : l.out.items ++ flat_map (spelling written_layout) (supers_from l.own (map seen l.patches) l.form (38 - l.form))
      ≡ l.initial.out.items ++ flat_map (spelling written_layout) (supers_from l.own (map seen l.patches) 0 38);
  front : IsFront l.initial.out.items l.out.items;
}

abbrev pub decreases-forms : goal.decreases-forms
decreases-forms l = 38 - l.form
