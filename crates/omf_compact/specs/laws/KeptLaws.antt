-- A canonical file is its own canonical form, and the only one of its file.
use Rattle.std.proofs.Common.{◌≡◌, ℕ, ◌≤◌, List, length, Option, Some, None, refl, sym, ap, subst, ◌∙◌, arith}
use Rattle.omf_io.specs.Files.{max_file}
use Rattle.omf_format.specs.File.{Segment}
use Rattle.load_meaning.specs.declared.load.LoadFault.{LoadFault}
use Rattle.load_meaning.specs.Loadable.{IsLoadable, IsFirstLoadFault}
use Rattle.load_meaning.specs.laws.LoadableLaws.{loadable_same, loadable_sound}
use Rattle.omf_compact.specs.declared.fault.CompactCause.{CompactCause}
use Rattle.omf_compact.specs.declared.fault.CompactCause.TheVariants.{NotLoadFile, Truncated, BadHeader, Unsupported, BadRecord, Sequence, DataTooLong, PatchOutside, NoSuchTarget, DynamicTarget, BadTable, BrokenPart, TooLong, Memory}
use Rattle.omf_compact.specs.declared.fault.CompactFault.{CompactFault}
use Rattle.omf_compact.specs.Canonical.{plain, broken_in, canon}
use Rattle.omf_compact.specs.Answer.{IsAnswer, IsRefusedBy}
use Rattle.omf_compact.specs.Kept.{SameAnswer, AnswerIsItsOwn, OneAnswer, AnswerOrRefusal}
use Rattle.omf_compact.specs.laws.AnswerLaws.{answer_is_loaded}

pub same_answer : SameAnswer
same_answer file other segments others loadable loadable' same out is =
    let own : plain is.segments ≡ plain others = ap plain (loadable_same file is.segments segments is.loadable loadable) ∙ same in
    record {
      segments = others;
      loadable = loadable';
      whole = ap (broken_in 1) (sym own) ∙ is.whole;
      short = is.short;
      written = is.written ∙ ap canon own;
    }

pub its_own : AnswerIsItsOwn
its_own file out fits is =
    let short : length (canon (plain is.segments)) ≤ max_file = omega (arith, ap length is.written, is.short) in
    let made = answer_is_loaded file is.segments fits is.loadable is.whole short in
    record {
      segments = made.0;
      loadable = subst (λ (l : List ℕ). IsLoadable l made.0) (sym is.written) made.1;
      whole = ap (broken_in 1) made.2 ∙ is.whole;
      short = is.short;
      written = is.written ∙ ap canon (sym made.2);
    }

pub one_answer : OneAnswer
one_answer file one other a b = a.written ∙ ap (λ (l : List Segment). canon (plain l)) (loadable_same file a.segments b.segments a.loadable b.loadable) ∙ sym b.written

abbrev no_place : Option (ℕ × ℕ)
no_place = None

never : {A : Type 0} (file out : List ℕ) (fault : LoadFault) → IsAnswer file out → IsFirstLoadFault file fault → A
never file out fault is first = absurd (loadable_sound file is.segments fault is.loadable first)

by_cause : (file out : List ℕ) (cause : CompactCause) (fault : CompactFault) → IsAnswer file out → IsRefusedBy cause fault file → cause ≡ Memory
by_cause file out NotLoadFile fault is refused = never file out _ is refused
by_cause file out Truncated fault is refused = never file out _ is refused
by_cause file out BadHeader fault is refused = never file out _ is refused
by_cause file out Unsupported fault is refused = never file out _ is refused
by_cause file out BadRecord fault is refused = never file out _ is refused
by_cause file out Sequence fault is refused = never file out _ is refused
by_cause file out DataTooLong fault is refused = never file out _ is refused
by_cause file out PatchOutside fault is refused = never file out _ is refused
by_cause file out NoSuchTarget fault is refused = never file out _ is refused
by_cause file out DynamicTarget fault is refused = never file out _ is refused
by_cause file out BadTable fault is refused = never file out _ is refused
by_cause file out BrokenPart fault is refused =
    let same = loadable_same file is.segments refused.segments is.loadable refused.loadable in
    let clash : no_place ≡ Some (fault.segment, fault.at) = sym is.whole ∙ ap (λ (l : List Segment). broken_in 1 (plain l)) same ∙ refused.broken in
    absurd (none_some clash)
  where
    none_some : no_place ≡ Some (fault.segment, fault.at) → ⊥
    none_some e = cc
by_cause file out TooLong fault is refused =
    let same = loadable_same file is.segments refused.0.segments is.loadable refused.0.loadable in
    let size : length out ≡ length (canon (plain refused.0.segments)) = ap length (is.written ∙ ap (λ (l : List Segment). canon (plain l)) same) in
    absurd (omega (arith, size, is.short, refused.0.long))
by_cause file out Memory fault is refused = refl

pub answer_or_refusal : AnswerOrRefusal
answer_or_refusal file out fault is refused = by_cause file out fault.cause fault is refused
