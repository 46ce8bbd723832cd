use Rattle.std.proofs.Common.{◌≡◌, ◌-◌, ◌≤◌, List, ℕ, length, ap, subst, ◌∙◌, arith, take, length-drop, length-append}
use Rattle.std.proofs.lemmas.List.{length-take}
use Rattle.macro_meaning.specs.Substitution.{Naming, naming_at, in_place, with_front}
use Rattle.orca_symbols.specs.Plain.{plain_len}
use Rattle.orca_symbols.specs.Template.{text_before, with_more, more_of, replacement_text}
use Rattle.orca_symbols.proofs.Fronts.{plain_most}
use Rattle.orca_symbols.proofs.Templates.{parts_more, parts_end}
use Rattle.orca_text.specs.View.{line}
use Rattle.orca_symbols.proofs.template.parts_of.Goals as goal

pub returns-in_default : goal.returns-in_default
returns-in_default c = record {
  is = parts_end (naming_at c.args.of.now.text (line c.args.of.now).fields) c.args.of.now.text c.runs.left.now c.in_ok-rest.rest.now c.runs.run.items c.copy_plain.new.out.items c.runs.parts.items c.close.new.parts.items
      (omega (arith, c.runs.invariant.within, ap length c.bytes-text.ensures.value)) c.runs.invariant.so c.in_ok-rest.ensures.rest c.in_ok-rest.ensures.copied (rw c.in_default.is at c.split_first.ensures.cases)
      (λ text_of tail. c.in_ok-close.ensures text_of tail ∙ ap (λ (r : List ℕ). text_before text_of c.runs.parts.items (with_front r tail)) c.as_slice.ensures.value);
}

pub runs-preserved : goal.runs-preserved
runs-preserved c =
    let text = c.args.of.now.text in
    let few : c.in_ok-more.more ≤ length c.in-Some.following.now = omega (arith, c.in_ok-more.ensures.more, c.in_ok-place.ensures.bound) in
    record {
      so = parts_more (naming_at text (line c.args.of.now).fields) text c.runs.left.now c.in_ok-rest.rest.now c.runs.run.items c.copy_plain.new.out.items c.add.new.run.items c.in-Some.following.now c.split_at.result.1.now
          c.runs.parts.items c.add.new.parts.items c.in-Some.field-0-0.now c.in_ok-place.place c.in_ok-more.more (omega (arith, c.runs.invariant.within, ap length c.bytes-text.ensures.value)) c.runs.invariant.so
          c.in_ok-rest.ensures.rest c.in_ok-rest.ensures.copied c.in-Some.ensures.cases.0
          (λ text_of. subst (λ (n : Naming). in_place text_of n c.in-Some.following.now ≡ with_more (more_of c.in_ok-place.place) (replacement_text text_of c.in_ok-place.place))
          (c.naming_at-named.ensures ∙ ap (λ (t : List ℕ). naming_at text (line c.args.of.now).fields (length t - length c.in_ok-rest.rest.now)) c.bytes-text.ensures.value) (c.in_ok-place.ensures.place text_of))
          c.in_ok-more.ensures.more few c.split_at.ensures.back c.in_ok-more.ensures.parts;
      within = omega (
        arith,
        c.runs.invariant.within,
        ap length c.in_ok-rest.ensures.rest,
        length-drop (plain_len c.runs.left.now) c.runs.left.now,
        ap length c.in-Some.ensures.cases.0,
        ap length c.split_at.ensures.back,
        length-drop c.in_ok-more.more c.in-Some.following.now,
        ap length c.in_ok-rest.ensures.copied,
        length-append c.runs.run.items (take (plain_len c.runs.left.now) c.runs.left.now),
        length-take (plain_len c.runs.left.now) c.runs.left.now,
        plain_most c.runs.left.now,
        c.in_ok-more.ensures.short,
      );
    }
