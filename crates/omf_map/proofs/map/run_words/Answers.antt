use Rattle.omf_making.specs.Words.{words_of}
use Rattle.omf_map.proofs.Forms.{link_few, rtl_few, linkrt_few}
use Rattle.omf_map.proofs.map.run_words.Goals as goal

-- `link`
pub run_maker-requires : goal.run_maker-requires
run_maker-requires g c =
    let form = rw c.in-Some-Link.field-0-is at c.in-Some-Link.ensures in
    record { few = link_few (words_of c.args.words.now) c.in-Some-Link.field-0-0.now c.in-Some-Link.inputs.now form }

-- `rtl`
pub run_maker-requires-in-Some-Rtl : goal.run_maker-requires-in-Some-Rtl
run_maker-requires-in-Some-Rtl g c =
    let form = rw c.in-Some-Rtl.field-0-is at c.in-Some-Rtl.ensures in
    record { few = rtl_few (words_of c.args.words.now) c.in-Some-Rtl.field-0-0.now c.in-Some-Rtl.inputs.now form }

-- `linkrt`
pub invariant_of-run_maker : goal.invariant_of-run_maker
invariant_of-run_maker g c =
    let form = rw c.in-Some-LinkRt.field-0-is at c.in-Some-LinkRt.ensures in
    let has = linkrt_few (words_of c.args.words.now) c.in-Some-LinkRt.field-0-0.now c.in-Some-LinkRt.inputs.now (words_of c.in-Some-LinkRt.runtimes.now) form in
    record { paths = has.1.0; printing = has.1.1 }

pub run_maker-requires-in-Some-LinkRt : goal.run_maker-requires-in-Some-LinkRt
run_maker-requires-in-Some-LinkRt g c =
    let form = rw c.in-Some-LinkRt.field-0-is at c.in-Some-LinkRt.ensures in
    record { few = (linkrt_few (words_of c.args.words.now) c.in-Some-LinkRt.field-0-0.now c.in-Some-LinkRt.inputs.now (words_of c.in-Some-LinkRt.runtimes.now) form).0 }
