use Rattle.std.proofs.Common.{[], ◌∷◌, ap, ◌∙◌}
use Rattle.link_meaning.specs.LinkValues.{found_value}
use Rattle.link_meaning.specs.LinkWritten.{export_at}
use Rattle.link_values.specs.Slots.{rows_of}
use Rattle.link_file.proofs.ExportLaws.{value_reported, none_reported}
use Rattle.link_file.proofs.exports.place_of.Goals as goal

pub returns-in-Some : goal.returns-in-Some
returns-in-Some c = λ list all f headers name once are at loads.
    let value = found_value list (rows_of all c.args.slots.now) f in
    ap (export_at headers name) (value_reported value c.in-Some.value (c.in-Some.ensures list all (f ∷ []) once are at)) ∙ c.exported_place.ensures headers name loads

pub returns-in-None : goal.returns-in-None
returns-in-None c = λ list all f headers name once are at loads.
    none_reported headers name (found_value list (rows_of all c.args.slots.now) f) (c.in-None.ensures list all (f ∷ []) once are at)
