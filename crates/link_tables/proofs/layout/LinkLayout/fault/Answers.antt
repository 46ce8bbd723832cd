use Rattle.std.proofs.Common.{◌≡◌, ◌≤◌, ◌<◌, List, length, get_or, refl, sym, ap, ◌∙◌, arith}
use Rattle.std.proofs.lemmas.Bool.{ltb-false}
use Rattle.std.proofs.lemmas.Option.{slice_get_read}
use Rattle.link_meaning.specs.Layout.{load_names}
use Rattle.link_tables.specs.declared.layout.LoadLayout.{LoadLayout}
use Rattle.link_meaning.specs.declared.form.LinkForm.TheVariants.{Program, Runtime as LibraryForm}
use Rattle.link_tables.proofs.LayoutFaults.{at_orgs, at_count, at_lengths, at_kinds, none_all, loads_are, conflict_is, conflict_free}
use Rattle.link_tables.proofs.layout.LinkLayout.fault.Goals as goal

pub returns-in-Some-clause-reported : goal.returns-in-Some-clause-reported
returns-in-Some-clause-reported c = λ list form laid. at_orgs list c.in-Some.spot c.fault_at.result (conflict_is list c.args.self.now c.in-Some.spot laid c.in-Some.is) c.fault_at.ensures

pub returns-in-Some-get-clause-reported : goal.returns-in-Some-get-clause-reported
returns-in-Some-get-clause-reported c = λ list form laid.
    let items = c.args.self.now.loads.items in
    let load = c.in-Some-get.load.now in
    let lt : 254 < length items = omega (arith, c.in-Some-get.ensures.lookup.3.0, ap (λ (l : List LoadLayout). length l) c.as_slice.ensures.value) in
    let item : load ≡ get_or items 254 load = c.in-Some-get.ensures.lookup.1 ∙ ap (λ (l : List LoadLayout). get_or l 254 load) c.as_slice.ensures.value in
    at_count list c.args.self.now load c.fault_at-in-Some-get.result laid (conflict_free list c.args.self.now laid c.in-None.is) (slice_get_read items (length items) 254 load refl lt item) c.fault_at-in-Some-get.ensures

pub returns-in-Some-too_long-clause-reported : goal.returns-in-Some-too_long-clause-reported
returns-in-Some-too_long-clause-reported c = λ list form laid.
    let past : length c.as_slice.result.now ≤ 254 = ltb-false 254 (length c.as_slice.result.now) (sym c.in-None-get.ensures.lookup.0) in
    let few : length (load_names list) ≤ 254 = omega (arith, past, loads_are list c.args.self.now laid, ap (λ (l : List LoadLayout). length l) c.as_slice.ensures.value) in
    at_lengths list c.args.self.now c.in-Some-too_long.spot c.fault_at-in-Some-too_long.result laid (conflict_free list c.args.self.now laid c.in-None.is) few c.in-Some-too_long.ensures c.fault_at-in-Some-too_long.ensures

pub returns-in-Program-clause-reported : goal.returns-in-Program-clause-reported
returns-in-Program-clause-reported c = λ list form laid.
    let past : length c.as_slice.result.now ≤ 254 = ltb-false 254 (length c.as_slice.result.now) (sym c.in-None-get.ensures.lookup.0) in
    let few : length (load_names list) ≤ 254 = omega (arith, past, loads_are list c.args.self.now laid, ap (λ (l : List LoadLayout). length l) c.as_slice.ensures.value) in
    none_all Program list c.args.self.now (form ∙ c.in-Program.is) laid (conflict_free list c.args.self.now laid c.in-None.is) few c.in-None-too_long.ensures tt

pub returns-in-Program-clause-fine : goal.returns-in-Program-clause-fine
returns-in-Program-clause-fine c = λ none.
    let past : length c.as_slice.result.now ≤ 254 = ltb-false 254 (length c.as_slice.result.now) (sym c.in-None-get.ensures.lookup.0) in
    (omega (arith, past, ap (λ (l : List LoadLayout). length l) c.as_slice.ensures.value), c.in-None-too_long.ensures)

pub returns-in-Some-not_dynamic-clause-reported : goal.returns-in-Some-not_dynamic-clause-reported
returns-in-Some-not_dynamic-clause-reported c = λ list form laid.
    let past : length c.as_slice.result.now ≤ 254 = ltb-false 254 (length c.as_slice.result.now) (sym c.in-None-get.ensures.lookup.0) in
    let few : length (load_names list) ≤ 254 = omega (arith, past, loads_are list c.args.self.now laid, ap (λ (l : List LoadLayout). length l) c.as_slice.ensures.value) in
    at_kinds list c.args.self.now c.in-Some-not_dynamic.spot c.fault_at-in-Some-not_dynamic.result (form ∙ c.in-Runtime.is) laid (conflict_free list c.args.self.now laid c.in-None.is) few c.in-None-too_long.ensures
    c.in-Some-not_dynamic.ensures c.fault_at-in-Some-not_dynamic.ensures

pub returns-in-None-not_dynamic-clause-reported : goal.returns-in-None-not_dynamic-clause-reported
returns-in-None-not_dynamic-clause-reported c = λ list form laid.
    let past : length c.as_slice.result.now ≤ 254 = ltb-false 254 (length c.as_slice.result.now) (sym c.in-None-get.ensures.lookup.0) in
    let few : length (load_names list) ≤ 254 = omega (arith, past, loads_are list c.args.self.now laid, ap (λ (l : List LoadLayout). length l) c.as_slice.ensures.value) in
    none_all LibraryForm list c.args.self.now (form ∙ c.in-Runtime.is) laid (conflict_free list c.args.self.now laid c.in-None.is) few c.in-None-too_long.ensures c.in-None-not_dynamic.ensures

pub returns-in-None-not_dynamic-clause-fine : goal.returns-in-None-not_dynamic-clause-fine
returns-in-None-not_dynamic-clause-fine c = λ none.
    let past : length c.as_slice.result.now ≤ 254 = ltb-false 254 (length c.as_slice.result.now) (sym c.in-None-get.ensures.lookup.0) in
    (omega (arith, past, ap (λ (l : List LoadLayout). length l) c.as_slice.ensures.value), c.in-None-too_long.ensures)
