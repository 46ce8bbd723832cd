use Rattle.std.proofs.Common.{◌++◌, length}
use Rattle.std.specs.List.{flat_map}
use Rattle.omf_records.specs.Segments.{segment_of_view}
use Rattle.link_meaning.specs.Uses.{used_by}
use Rattle.link_tables.specs.Uses.{at_place, HaveShortNames}
use Rattle.link_tables.proofs.DefinitionLaws.{Defining}
use Rattle.link_tables.proofs.UseLaws.{Using}
use Rattle.link_tables.proofs.body.add_body.Given as goal

-- the definitions and uses of the records so far, and those of the records that are left
abbrev pub invariant-walk : goal.invariant-walk
invariant-walk l =
    Defining (segment_of_view l.fn.segment).records l.records l.location l.initial.definitions l.definitions l.origin l.place
    × Using (λ found. used_by l.lab_len found.0 found.1) l.place l.lab_len
    (l.initial.uses ++ at_place l.place (flat_map (λ found. used_by l.lab_len found.0 found.1) (segment_of_view l.fn.segment).records))
    l.records l.uses
    × (HaveShortNames l.initial.uses → HaveShortNames l.uses)

abbrev pub decreases-walk : goal.decreases-walk
decreases-walk l = length l.records.left
