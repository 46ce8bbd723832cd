use Rattle.omf_making.specs.Words.{words_of}
use Rattle.omf_commands.proofs.Sources.{few_macros}
use Rattle.omf_cli.proofs.Forms.{link_few, lib_paths, stress_few, rtl_few, linkrt_few, dump_few, list_few, compact_few}
use Rattle.omf_cli.proofs.tool.run_tool.Goals as goal

pub run_asm-requires : goal.run_asm-requires
run_asm-requires g c =
    let form = rw c.in-Some-Asm.field-0-is at c.in-Some-Asm.ensures in
    record { few = few_macros (words_of c.deref.result.now) c.in-Some-Asm.source.now c.in-Some-Asm.output.now c.in-Some-Asm.macros.now form }

-- `link`
pub run_maker-requires : goal.run_maker-requires
run_maker-requires g c =
    let form = rw c.in-Some-Link.field-0-is at c.in-Some-Link.ensures in
    record { few = link_few (words_of c.deref.result.now) c.in-Some-Link.output.now c.in-Some-Link.inputs.now form }

-- `lib`
pub invariant_of-run_maker : goal.invariant_of-run_maker
invariant_of-run_maker g c =
    let form = rw c.in-Some-Lib.field-0-is at c.in-Some-Lib.ensures in
    record { paths = lib_paths (words_of c.deref.result.now) c.in-Some-Lib.output.now (words_of c.in-Some-Lib.inputs.now) form }

-- `stress`
pub run_stress-requires : goal.run_stress-requires
run_stress-requires g c =
    let form = rw c.in-Some-Stress.field-0-is at c.in-Some-Stress.ensures in
    let few = stress_few (words_of c.deref.result.now) c.in-Some-Stress.count c.in-Some-Stress.seed form in
    record { none = c.requires; some = few.0; few = few.1 }

-- `dump`
pub run_maker-requires-in-Some-Dump : goal.run_maker-requires-in-Some-Dump
run_maker-requires-in-Some-Dump g c =
    let form = rw c.in-Some-Dump.field-0-is at c.in-Some-Dump.ensures in
    record { few = dump_few (words_of c.deref.result.now) c.in-Some-Dump.inputs.now form }

-- `rtl`
pub run_maker-requires-in-Some-Rtl : goal.run_maker-requires-in-Some-Rtl
run_maker-requires-in-Some-Rtl g c =
    let form = rw c.in-Some-Rtl.field-0-is at c.in-Some-Rtl.ensures in
    record { few = rtl_few (words_of c.deref.result.now) c.in-Some-Rtl.output.now c.in-Some-Rtl.inputs.now form }

-- `linkrt`
pub invariant_of-run_maker-in-Some-LinkRt : goal.invariant_of-run_maker-in-Some-LinkRt
invariant_of-run_maker-in-Some-LinkRt g c =
    let form = rw c.in-Some-LinkRt.field-0-is at c.in-Some-LinkRt.ensures in
    let has = linkrt_few (words_of c.deref.result.now) c.in-Some-LinkRt.output.now c.in-Some-LinkRt.inputs.now (words_of c.in-Some-LinkRt.runtimes.now) form in
    record { paths = has.1.0; printing = has.1.1 }

pub run_maker-requires-in-Some-LinkRt : goal.run_maker-requires-in-Some-LinkRt
run_maker-requires-in-Some-LinkRt g c =
    let form = rw c.in-Some-LinkRt.field-0-is at c.in-Some-LinkRt.ensures in
    record { few = (linkrt_few (words_of c.deref.result.now) c.in-Some-LinkRt.output.now c.in-Some-LinkRt.inputs.now (words_of c.in-Some-LinkRt.runtimes.now) form).0 }

-- `list`
pub run_maker-requires-in-Some-Listing : goal.run_maker-requires-in-Some-Listing
run_maker-requires-in-Some-Listing g c =
    let form = rw c.in-Some-Listing.field-0-is at c.in-Some-Listing.ensures in
    record { few = list_few (words_of c.deref.result.now) c.in-Some-Listing.output.now c.in-Some-Listing.inputs.now form }

-- `compact`
pub run_maker-requires-in-Some-Compact : goal.run_maker-requires-in-Some-Compact
run_maker-requires-in-Some-Compact g c =
    let form = rw c.in-Some-Compact.field-0-is at c.in-Some-Compact.ensures in
    record { few = compact_few (words_of c.deref.result.now) c.in-Some-Compact.output.now c.in-Some-Compact.inputs.now form }
