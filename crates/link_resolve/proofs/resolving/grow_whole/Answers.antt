use Rattle.std.proofs.Common.{refl}
use Rattle.link_resolve.specs.declared.resolving.Grown.{Grown}
use Rattle.link_resolve.specs.Resolved.{setting_as}
use Rattle.link_resolve.proofs.ResolveLaws.{few_inputs, may_grow, far_of_read, list_of_read}
use Rattle.link_resolve.proofs.resolving.grow_whole.Goals as goal

pub grow-grown-requires : goal.grow-grown-requires
grow-grown-requires c =
    let given = c.requires.0 in
    let read = c.args.read in
    let setting = setting_as read.form read.runtimes.loads.items read.given.now in
    (setting, c.requires.2.inputs'.0.0, may_grow setting given.inputs read.gathered read.runtimes.outside c.as_slice.result.now c.requires.2.inputs' c.as_slice.ensures.value (far_of_read given read c.requires.2) (few_inputs given c.requires.1).1)

pub returns-in-Ok : goal.returns-in-Ok
returns-in-Ok c = λ given few is.
    let read = c.args.read in
    let grown : Grown = record { files = read.gathered.files; linked = c.grow-grown.new.linked; runtimes = read.runtimes; given = read.given; form = read.form } in
    list_of_read given read grown c.as_slice.result.now is c.as_slice.ensures.value refl refl refl refl few c.in-Ok.ensures
