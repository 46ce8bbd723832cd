use Rattle.std.proofs.Common.{sym, subst, arith}
use Rattle.lib_dict.specs.Made.{IsLibRefused}
use Rattle.omf_c_making.specs.Making.{MakesLibrary, library_given, CanStand}
use Rattle.omf_c_making.proofs.Files.{reported_makes, short_members, count_given}
use Rattle.omf_c_making.proofs.making.library_to_answer.Goals as goal

pub make_library-requires-clause-short : goal.make_library-requires-clause-short
make_library-requires-clause-short c = short_members c.in-Ok.members.items (library_given c.args.files.now) c.in-Ok.ensures (c.are_short.ensures.0 c.if-not-are_short.false)

pub returns : goal.returns
returns c =
    let given = library_given c.args.files.now in
    let can : CanStand given = record { few = omega (arith, c.if-files-gt65535.false, count_given c.args.files.now); names = c.have_names.ensures.0 c.if-not-have_names.false; short = c.are_short.ensures.0 c.if-not-are_short.false } in
    let refused : IsLibRefused c.in-Err.fault given = subst (IsLibRefused c.in-Err.fault) c.in-Ok.ensures c.in-Err.ensures.refused in
    subst (MakesLibrary given) (sym c.answer_of_fault.ensures)
    (reported_makes _ _ _ _ c.in-Err.fault c.lib_fault.result _ _ can (λ other. (refused, other)) c.lib_fault.ensures)
