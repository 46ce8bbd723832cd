use Rattle.std.proofs.Common.{inl}
use Rattle.link_resolve.specs.Resolved.{given_of}
use Rattle.link_resolve.proofs.resolving.resolve_all.Goals as goal

pub grow_whole-requires : goal.grow_whole-requires
grow_whole-requires c = (given_of c.args.inputs.now.items c.args.given.now c.args.form, c.requires.few, c.in_ok-read.ensures.read)

pub finish-requires : goal.finish-requires
finish-requires c =
    let given = given_of c.args.inputs.now.items c.args.given.now c.args.form in
    (given, (c.know_bytes.ensures, c.know_members.ensures, c.requires.paths.0, c.requires.paths.1), c.in-Ok.ensures given c.requires.few c.in_ok-read.ensures.read)

pub returns-in-Ok-clause-resolved : goal.returns-in-Ok-clause-resolved
returns-in-Ok-clause-resolved c =
    let given = given_of c.args.inputs.now.items c.args.given.now c.args.form in
    c.finish.ensures.resolved given (c.know_bytes.ensures, c.know_members.ensures, c.requires.paths.0, c.requires.paths.1) (c.in-Ok.ensures given c.requires.few c.in_ok-read.ensures.read)

pub returns-in-Ok-clause-refused : goal.returns-in-Ok-clause-refused
returns-in-Ok-clause-refused c =
    let given = given_of c.args.inputs.now.items c.args.given.now c.args.form in
    c.finish.ensures.refused given (c.in-Ok.ensures given c.requires.few c.in_ok-read.ensures.read)

pub returns-in-Err-clause-refused : goal.returns-in-Err-clause-refused
returns-in-Err-clause-refused c = inl c.memory_fault.ensures
