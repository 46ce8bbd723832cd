use Rattle.std.proofs.Common.{inl, refl, List, sym, ap, subst, arith}
use Rattle.std.proofs.lemmas.Result.{err_from_is_err_and}
use Rattle.omf_format.specs.File.{Segment}
use Rattle.link_program.specs.Files.{AllAmong}
use Rattle.link_meaning.specs.Member.{LinkSetting}
use Rattle.link_program.proofs.LinkedLaws.{count_is}
use Rattle.link_resolve.proofs.ResolveLaws.{list_outside, list_setting, refused_use, refused_layout, laid_out}
use Rattle.link_resolve.proofs.resolving.lay_out_sound.Goals as goal

pub check_names-requires : goal.check_names-requires
check_names-requires c = let grown = c.requires.1.grown in (grown.list, grown.holds, list_outside c.requires.0 c.args.grown.now c.requires.1)

pub returns-in_err-check_names-clause-refused : goal.returns-in_err-check_names-clause-refused
returns-in_err-check_names-clause-refused c =
    let p = err_from_is_err_and c.from_residual.result c.from_residual.ensures.1 in
    rw (p.1, p.2)
    (λ given of.
    refused_use given c.args.grown.now c.in_err-check_names.field-0.0 of (c.in_err-check_names.ensures.refused of.grown.list of.grown.holds (list_outside given c.args.grown.now of)))

pub lay_out-requires-clause-few : goal.lay_out-requires-clause-few
lay_out-requires-clause-few c = let grown = c.requires.1.grown in omega (arith, count_is grown.list c.args.grown.now.linked grown.holds, grown.few)

pub returns-in-Err-clause-refused : goal.returns-in-Err-clause-refused
returns-in-Err-clause-refused c = λ given of. inl c.memory_fault.ensures

pub returns-in-Some-clause-refused : goal.returns-in-Some-clause-refused
returns-in-Some-clause-refused c = λ given of.
    let kept = c.args.grown.now in
    let g = of.grown in
    let among = subst (λ (l : List (List Segment)). AllAmong l g.list) (sym c.as_slice.ensures.value) g.among in
    let laid = c.in-Ok.ensures g.list g.holds among in
    refused_layout given kept c.in-Some.fault of (c.in_ok-check_names.ensures.fine g.list g.holds (list_outside given kept of)) (c.in-Some.ensures.reported g.list (ap (λ (s : LinkSetting). s.form) (list_setting given kept of)) laid)

pub returns-clause-laid : goal.returns-clause-laid
returns-clause-laid c = λ given of.
    let kept = c.args.grown.now in
    let g = of.grown in
    let among = subst (λ (l : List (List Segment)). AllAmong l g.list) (sym c.as_slice.ensures.value) g.among in
    let laid = c.in-Ok.ensures g.list g.holds among in
    laid_out given kept c.in-Ok.layout of (c.in_ok-check_names.ensures.fine g.list g.holds (list_outside given kept of)) (c.in-None.ensures.reported g.list (ap (λ (s : LinkSetting). s.form) (list_setting given kept of)) laid) laid
    (c.in-None.ensures.fine refl)
