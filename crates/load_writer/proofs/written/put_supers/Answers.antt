use Rattle.std.proofs.Common.{◌≡◌, ◌+◌, ◌-◌, ◌≤◌, ℕ, suc, List, ◌++◌, length, map, ap, sym, subst, ◌∙◌, append_assoc, arith}
use Rattle.std.proofs.lemmas.List.{length-map}
use Rattle.std.specs.List.{flat_map}
use Rattle.std.proofs.lemmas.Grind.{flat_map-append}
use Rattle.omf_format.specs.Field.{written_layout}
use Rattle.omf_format.specs.Record.{Record, Super, IsRecord, spelling}
use Rattle.load_meaning.specs.WrittenPages.{pages_text, Rise}
use Rattle.load_meaning.specs.laws.WrittenBodyLaws.{rise_form, super_record_fits}
use Rattle.load_meaning.specs.Cells as format
use Rattle.load_writer.specs.WrittenParts.{seen, super_of}
use Rattle.load_meaning.specs.WrittenBody.{of_form, super_records, supers_from}
use Rattle.load_writer.proofs.Fronts.{front_after}
use Rattle.load_writer.proofs.FormLists.{there_is, lists_size, super_is}
use Rattle.load_writer.proofs.written.put_supers.Goals as goal

-- the first of the types that are left
step : (own : ℕ) (patches : List format.Patch) (form n m : ℕ) → n ≡ suc m
    → flat_map (spelling written_layout) (supers_from own patches form n) ≡ flat_map (spelling written_layout) (super_records form (of_form own patches form)) ++ flat_map (spelling written_layout) (supers_from own patches (form + 1) m)
step own patches form n m is =
    ap (λ (k : ℕ). flat_map (spelling written_layout) (supers_from own patches form k)) is ∙ flat_map-append (spelling written_layout) (super_records form (of_form own patches form)) (supers_from own patches (form + 1) m)

pub forms-preserved : goal.forms-preserved
forms-preserved c =
    let patches = map seen c.args.patches.now in
    let form = c.forms.form in
    let old = c.forms.out.items in
    let here = flat_map (spelling written_layout) (super_records form (of_form c.args.own patches form)) in
    let rest = flat_map (spelling written_layout) (supers_from c.args.own patches (form + 1) (38 - (form + 1))) in
    let there = c.deref.ensures.value
    ∙ there_is (λ l. l.items) c.args.lists.now c.args.own patches form c.from.result c.index-lists-from.result c.requires.lists c.from.ensures (omega (arith, c.forms-test.true)) c.index-lists-from.is in
    let put : c.put_super.new.out.items ≡ old ++ here =
    c.in_ok-put_super.ensures.ok ∙ ap (λ (rs : List Record). old ++ flat_map (spelling written_layout) rs) (ap (super_of form) there ∙ super_is form (of_form c.args.own patches form)) in
    record {
      most = omega (arith, c.forms-test.true);
      whole =
          ap (λ (l : List ℕ). l ++ rest) put
          ∙ append_assoc old here rest
          ∙ ap (λ (l : List ℕ). old ++ l) (sym (step c.args.own patches form (38 - form) (38 - (form + 1)) (omega (arith, c.forms-test.true))))
          ∙ c.forms.invariant.whole;
      front = front_after c.args.out.now.items old c.put_super.new.out.items c.forms.invariant.front (here, put);
    }

pub bounds-lists-from : goal.bounds-lists-from
bounds-lists-from c =
    omega (arith, c.from.ensures, c.forms-test.true, lists_size (λ l. l.items) c.args.lists.now c.args.own (map seen c.args.patches.now) c.requires.lists)

pub put_super-requires-clause-rise : goal.put_super-requires-clause-rise
put_super-requires-clause-rise c =
    let patches = map seen c.args.patches.now in
    let there = c.deref.ensures.value
    ∙ there_is (λ l. l.items) c.args.lists.now c.args.own patches c.forms.form c.from.result c.index-lists-from.result c.requires.lists c.from.ensures (omega (arith, c.forms-test.true)) c.index-lists-from.is in
    subst (Rise 0) (sym there) (rise_form c.args.own 0xFFFFFF 0 patches c.forms.form c.requires.patches)

pub put_super-requires-clause-fits : goal.put_super-requires-clause-fits
put_super-requires-clause-fits c = λ some.
    let patches = map seen c.args.patches.now in
    let of = of_form c.args.own patches c.forms.form in
    let there = c.deref.ensures.value
    ∙ there_is (λ l. l.items) c.args.lists.now c.args.own patches c.forms.form c.from.result c.index-lists-from.result c.requires.lists c.from.ensures (omega (arith, c.forms-test.true)) c.index-lists-from.is in
    let more : 1 ≤ length of = omega (arith, some, ap length there, length-map of (λ (p : format.Patch). p.location)) in
    subst (λ (l : List ℕ). IsRecord written_layout (Super c.forms.form (pages_text l))) (sym there) (super_record_fits c.args.own 0xFFFFFF patches c.forms.form (omega arith) c.requires.patches more)
