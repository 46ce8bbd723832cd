use Rattle.std.proofs.Common.{◌≡◌, ◌-◌, length, None, Some, ap, subst, ◌∙◌, arith, length-drop}
use Rattle.macro_meaning.specs.Substitution.{Naming, naming_at, in_place}
use Rattle.macro_meaning.specs.Symbol.{text_of}
use Rattle.orca_symbols.specs.Plain.{plain_len}
use Rattle.orca_symbols.specs.View.{values}
use Rattle.orca_text.specs.View.{line}
use Rattle.orca_symbols.proofs.Fronts.{run_ends, run_fails, run_goes}
use Rattle.orca_symbols.proofs.substitution.substitute.Goals as goal

pub returns-in_default : goal.returns-in_default
returns-in_default c =
    run_ends (text_of (values c.args.of)) (naming_at c.args.source.now.text (line c.args.source.now).fields) c.args.source.now.text c.runs.left.now c.in_ok-rest.rest.now c.runs.out.items c.copy_plain.new.out.items
    (omega (arith, c.runs.invariant.within, ap length c.bytes-text.ensures.value)) c.runs.invariant.so c.in_ok-rest.ensures.rest c.in_ok-rest.ensures.copied c.in_default.ensures.cases

pub runs-preserved : goal.runs-preserved
runs-preserved c = record {
  so = run_goes (text_of (values c.args.of)) (naming_at c.args.source.now.text (line c.args.source.now).fields) c.args.source.now.text c.runs.left.now c.in_ok-rest.rest.now c.runs.out.items c.copy_plain.new.out.items
      (omega (arith, c.runs.invariant.within, ap length c.bytes-text.ensures.value)) c.runs.invariant.so c.in_ok-rest.ensures.rest c.in_ok-rest.ensures.copied
      c.in-Some.field-0-0.now c.in-Some.following.now c.in-Some-2.put.now c.in-Some-2.more c.extend_from_slice.new.self.items c.split_at.result.1.now c.in-Some.ensures.cases.0
      (subst (λ (n : Naming). in_place (text_of (values c.args.of)) n c.in-Some.following.now ≡ Some (c.in-Some-2.put.now, c.in-Some-2.more)) (c.naming_at-named.ensures ∙ ap (λ t. naming_at c.args.source.now.text (line c.args.source.now).fields (length t - length c.in_ok-rest.rest.now)) c.bytes-text.ensures.value)
      (rw c.in-Some-2.is at c.in_ok-put.ensures.place))
      (rw c.in-Some-2.is at c.in_ok-put.ensures.bound) c.in_ok-extend_from_slice-in-Some-2.ensures.items c.split_at.ensures.back;
  within = omega (
    arith,
    c.runs.invariant.within,
    ap length c.in_ok-rest.ensures.rest,
    length-drop (plain_len c.runs.left.now) c.runs.left.now,
    ap length c.in-Some.ensures.cases.0,
    ap length c.split_at.ensures.back,
    length-drop c.in-Some-2.more c.in-Some.following.now,
  );
}

pub returns-in-None : goal.returns-in-None
returns-in-None c =
    run_fails (text_of (values c.args.of)) (naming_at c.args.source.now.text (line c.args.source.now).fields) c.args.source.now.text c.runs.left.now c.in_ok-rest.rest.now c.runs.out.items c.copy_plain.new.out.items
    (omega (arith, c.runs.invariant.within, ap length c.bytes-text.ensures.value)) c.runs.invariant.so c.in_ok-rest.ensures.rest c.in_ok-rest.ensures.copied
    c.in-Some.field-0-0.now c.in-Some.following.now c.in-Some.ensures.cases.0
    (subst (λ (n : Naming). in_place (text_of (values c.args.of)) n c.in-Some.following.now ≡ None) (c.naming_at-named.ensures ∙ ap (λ t. naming_at c.args.source.now.text (line c.args.source.now).fields (length t - length c.in_ok-rest.rest.now)) c.bytes-text.ensures.value)
    (rw c.in-None.is at c.in_ok-put.ensures.place))
