use Rattle.std.proofs.Common.{◌≡◌, ◌*◌, ◌≤◌, [], true, false, length, refl, sym, ap, ◌∙◌, arith}
use Rattle.std.proofs.lemmas.List.{length-map}
use Rattle.lib_dict.specs.Library.{row_view}
use Rattle.link_meaning.specs.Member.{Input, is_library}
use Rattle.link_resolve.specs.declared.gather.Gathered.{Gathered}
use Rattle.link_resolve.proofs.GatherLaws.{object_input, library_input, adds_object, adds_library}
use Rattle.link_resolve.proofs.gather.Gathered.add_segments.Goals as goal

pub returns-in-Ok-clause-added : goal.returns-in-Ok-clause-added
returns-in-Ok-clause-added c = λ bytes read.
    let list = c.args.list.now in
    let old = c.args.self.now in
    let new : Gathered = record { files = old.files; linked = c.add_object.new.linked; offers = old.offers } in
    let other : is_library list ≡ false = sym c.is_library.ensures ∙ c.if-not-is_library.true in
    let input : Input = record { segments = list; rows = [] } in
    (input, object_input list bytes read.is_file c.requires.sound other, refl, (c.requires.sound, λ row is. absurd is), omega arith, adds_object c.args.file list old new other refl c.in-Ok.ensures)

pub returns-in-Ok-add_rows-clause-added : goal.returns-in-Ok-add_rows-clause-added
returns-in-Ok-add_rows-clause-added c = λ bytes read.
    let list = c.args.list.now in
    let old = c.args.self.now in
    let new : Gathered = record { files = old.files; linked = old.linked; offers = c.add_rows.new.offers } in
    let library : is_library list ≡ true = sym c.is_library.ensures ∙ c.if-not-is_library.false in
    let d = c.in_ok-dictionary.ensures.rows in
    let input : Input = record { segments = list; rows = d.rows } in
    let few : 12 * length d.rows ≤ length bytes = omega (arith, c.in_ok-dictionary.ensures.few bytes read, ap length d.reported', length-map d.rows (row_view list)) in (
      input,
      library_input list bytes d.rows read.is_file c.requires.sound library d.read,
      refl,
      (c.requires.sound, d.stand),
      few,
      adds_library c.args.file list d.rows old new library refl (λ setting os are. c.in-Ok-add_rows.ensures setting os d.rows d.reported' d.stand are),
    )
