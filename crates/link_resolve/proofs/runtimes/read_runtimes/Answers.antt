use Rattle.std.proofs.Common.{◌+◌, ◌<◌, ◌^◌, ℕ, List, length, refl, sym, ap, subst, ◌∙◌, arith}
use Rattle.std.proofs.lemmas.Option.{slice_get_read}
use Rattle.omf_format.specs.File.{Segment}
use Rattle.load_meaning.specs.Runtime.{IsRuntime}
use Rattle.lib_dict.specs.declared.member.Member.{Member}
use Rattle.link_resolve.specs.Runtimes.{files_of, IsFileRefused}
use Rattle.link_resolve.proofs.RuntimeLaws.{ReadSoFar, file_at, read_more, first_refused}
use Rattle.link_resolve.proofs.GivenLaws.{all_at}
use Rattle.link_resolve.proofs.runtimes.read_runtimes.Goals as goal

abbrev IsShort : List ℕ × List ℕ → Type 0
IsShort file = length file.1 < 2 ^ 32

pub read_runtime-requires : goal.read_runtime-requires
read_runtime-requires c =
    let given = c.args.given.now in
    let m = c.index-given-place.result in
    let at = file_at given c.files.place m (slice_get_read given (length given) c.files.place m refl c.files-test.true c.index-given-place.is) in
    let short : length m.bytes.items < 2 ^ 32 = all_at IsShort (files_of given) c.files.place (m.name, m.bytes.items) at c.requires.short in
    omega (arith, short, ap (λ (l : List ℕ). length l) c.as_slice.ensures.value, ap (λ (x : Member). length x.bytes.items) c.index-given-place.is)

pub returns-in-Err-clause-refused : goal.returns-in-Err-clause-refused
returns-in-Err-clause-refused c =
    let given = c.args.given.now in
    let m = c.index-given-place.result in
    let at = slice_get_read given (length given) c.files.place m refl c.files-test.true c.index-given-place.is in
    let held = c.as_slice.ensures.value ∙ ap (λ (x : Member). x.bytes.items) (sym c.index-given-place.is) in
    let here = c.file_fault.ensures.reported c.as_slice.result.now c.in-Err.ensures.refused in
    first_refused given c.args.inputs c.files.place c.files.loads.items c.files.outside m c.file_fault.result c.files.invariant at
    (subst (λ (bytes : List ℕ). IsFileRefused (c.args.inputs + c.files.place + 1) bytes c.file_fault.result) held here)

pub files-preserved : goal.files-preserved
files-preserved c =
    let given = c.args.given.now in
    let m = c.index-given-place.result in
    let at = slice_get_read given (length given) c.files.place m refl c.files-test.true c.index-given-place.is in
    let load = c.in-Ok.load in
    let held = c.as_slice.ensures.value ∙ ap (λ (x : Member). x.bytes.items) (sym c.index-given-place.is) in
    let is = subst (λ (bytes : List ℕ). IsRuntime bytes load) held c.in-Ok.ensures.ok in
    subst (λ (l : List (List Segment)). ReadSoFar given (c.files.place + 1) l c.add_file.new.self) (sym c.in-Ok-push.ensures.items)
    (read_more given c.files.place c.files.loads.items c.files.outside c.add_file.new.self m load c.files.invariant at is c.in-Ok-add_file.ensures)
