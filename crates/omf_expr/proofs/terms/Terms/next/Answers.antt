use Rattle.std.proofs.Common.{◌≡◌, ℕ, ◌-◌, List, [], length, drop, sym, ap, ◌∙◌}
use Rattle.std.specs.Prelude.{slice_get}
use Rattle.omf_format.specs.Expression.{Term}
use Rattle.omf_expr.specs.View.{view}
use Rattle.omf_expr.proofs.TermRuns.{left_more, left_none, left_cut}
use Rattle.omf_expr.proofs.terms.Terms.next.Goals as goal

pub invariant_of-self : goal.invariant_of-self
invariant_of-self c =
    let read = rw c.in-Ok-Some-default.field-0-0-is at c.in-Ok-Some-default.ensures.gives in
    (left_more c.self.inside.lab_len c.self.inside.text.now c.self.inside.left.now (view c.in-Ok-Some-default.term) c.in-Ok-Some-default.rest.now c.self.invariant read).others

pub unreachable-requires : goal.unreachable-requires
unreachable-requires c = left_cut c.self.inside.lab_len c.self.inside.text.now c.self.inside.left.now c.in-Err.field-0 c.self.invariant c.in-Err.ensures.gives

pub returns-in-Ok-Some-default-clause-answer : goal.returns-in-Ok-Some-default-clause-answer
returns-in-Ok-Some-default-clause-answer c =
    let read = rw c.in-Ok-Some-default.field-0-0-is at c.in-Ok-Some-default.ensures.gives in
    let more = left_more c.self.inside.lab_len c.self.inside.text.now c.self.inside.left.now (view c.in-Ok-Some-default.term) c.in-Ok-Some-default.rest.now c.self.invariant read in
    sym (ap (λ (l : List (ℕ × Term)). slice_get l 0) (sym c.self.view_is ∙ more.first))

pub returns-in-Ok-Some-default-clause-after : goal.returns-in-Ok-Some-default-clause-after
returns-in-Ok-Some-default-clause-after c =
    let read = rw c.in-Ok-Some-default.field-0-0-is at c.in-Ok-Some-default.ensures.gives in
    let more = left_more c.self.inside.lab_len c.self.inside.text.now c.self.inside.left.now (view c.in-Ok-Some-default.term) c.in-Ok-Some-default.rest.now c.self.invariant read in
    sym (ap (λ (l : List (ℕ × Term)). drop 1 l) (sym c.self.view_is ∙ more.first))

pub returns-in-Ok-None-default-clause-answer : goal.returns-in-Ok-None-default-clause-answer
returns-in-Ok-None-default-clause-answer c =
    let read = rw c.in-Ok-None-default.field-0-0-is at c.in-Ok-None-default.ensures.gives in
    let none = left_none c.self.inside.lab_len (length c.self.inside.text.now - length c.self.inside.left.now) c.self.inside.text.now c.self.inside.left.now c.in-Ok-None-default.field-0-1.now c.self.invariant read in
    sym (ap (λ (l : List (ℕ × Term)). slice_get l 0) (sym c.self.view_is ∙ none))

pub returns-in-Ok-None-default-clause-after : goal.returns-in-Ok-None-default-clause-after
returns-in-Ok-None-default-clause-after c =
    let read = rw c.in-Ok-None-default.field-0-0-is at c.in-Ok-None-default.ensures.gives in
    let none = left_none c.self.inside.lab_len (length c.self.inside.text.now - length c.self.inside.left.now) c.self.inside.text.now c.self.inside.left.now c.in-Ok-None-default.field-0-1.now c.self.invariant read in
    let empty : c.args.self.now ≡ [] = sym c.self.view_is ∙ none in
    empty ∙ sym (ap (λ (l : List (ℕ × Term)). drop 1 l) empty)
