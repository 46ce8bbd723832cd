use Rattle.std.proofs.Common.{inl, refl, sym, subst, arith}
use Rattle.link_meaning.specs.LinkFaults.{IsResolved}
use Rattle.link_program.specs.declared.program.ResolvedProgram.{ResolvedProgram}
use Rattle.link_resolve.proofs.ResolveLaws.{is_kept}
use Rattle.link_resolve.proofs.resolving.finish.Goals as goal

pub lay_out_sound-requires : goal.lay_out_sound-requires
lay_out_sound-requires c = (c.requires.0, c.requires.2)

pub returns-in-Err-clause-refused : goal.returns-in-Err-clause-refused
returns-in-Err-clause-refused c = λ given of. c.in-Err.ensures.refused given of

pub headers-requires : goal.headers-requires
headers-requires c =
    let out = c.in-Ok.ensures.laid c.requires.0 c.requires.2 in
    omega (arith, out.few)

pub of-requires : goal.of-requires
of-requires c =
    let grown = c.args.grown in
    let layout = c.in-Ok.layout in
    let out = c.in-Ok.ensures.laid c.requires.0 c.requires.2 in
    let kept : ResolvedProgram = record {
      files = grown.files;
      linked = grown.linked;
      places = layout.places;
      headers = c.in-Ok-headers.headers;
      form = grown.form;
      given = grown.given;
      runtimes = grown.runtimes.loads;
      outside = grown.runtimes.outside;
    } in
    (c.requires.2.grown.list, is_kept c.requires.0 grown kept layout c.requires.2 c.requires.1 out refl refl refl c.in-Ok-headers.ensures refl refl refl refl)

pub returns-clause-resolved : goal.returns-clause-resolved
returns-clause-resolved c = λ given bytes of.
    let grown = c.args.grown in
    let layout = c.in-Ok.layout in
    let out = c.in-Ok.ensures.laid given of in
    let kept : ResolvedProgram = record {
      files = grown.files;
      linked = grown.linked;
      places = layout.places;
      headers = c.in-Ok-headers.headers;
      form = grown.form;
      given = grown.given;
      runtimes = grown.runtimes.loads;
      outside = grown.runtimes.outside;
    } in
    subst (IsResolved given) (sym (c.of.ensures of.grown.list (is_kept given grown kept layout of bytes out refl refl refl c.in-Ok-headers.ensures refl refl refl refl))) out.resolved

pub returns-in-Err-headers-clause-refused : goal.returns-in-Err-headers-clause-refused
returns-in-Err-headers-clause-refused c = λ given of. inl c.memory_fault.ensures
