-- Why a source with macro files has one answer: one object at most, or one first fault.
use Rattle.std.proofs.Common.{◌≡◌, ℕ, List, [], ◌∷◌, ◌++◌, length, Option, Some, None, Ok, Err, refl, sym, ap, subst, ◌∙◌, arith}
use Rattle.orca_meaning.specs.Line.{Line}
use Rattle.macro_meaning.specs.declared.faults.MacroFault.{MacroFault}
use Rattle.macro_meaning.specs.Expansion as expansion
use Rattle.macro_meaning.specs.Expansion.{IsExpanded}
use Rattle.macro_meaning.specs.laws.ExpansionProofs.{one_expansion, no_fault_beside, one_first_fault}
use Rattle.asm_meaning.specs.declared.faults.AsmCause.{AsmCause}
use Rattle.asm_meaning.specs.declared.faults.AsmCause.TheVariants.{Unclosed}
use Rattle.asm_meaning.specs.declared.faults.AsmFault.{AsmFault}
use Rattle.asm_meaning.specs.Answer.{Answer}
use Rattle.asm_meaning.specs.Object.{object_text, AreSteps}
use Rattle.source_meaning.specs.Object.{HasLines, cause_of, HasBadLine, InExpansion, InLine, InSegment, InLength}
use Rattle.asm_meaning.specs.State.{StartedSegment, State, start}
use Rattle.asm_meaning.specs.Statement.{IsStep}
use Rattle.asm_meaning.specs.laws.StatementLaws.{step_once}
use Rattle.source_meaning.specs.ObjectLaws.{OneObject, NoFaultBeside, OneFirstFault}

-- ---- the laws

-- ---- steps

abbrev left : State → Answer State
left state = Ok state

abbrev refused : AsmCause → Answer State
refused cause = Err cause

not_both : (a : State) (e : AsmCause) → left a ≡ refused e → ⊥
not_both a e is = absurd cc

same_ok : (a b : State) → left a ≡ left b → a ≡ b
same_ok a b e = cc

same_err : (a b : AsmCause) → refused a ≡ refused b → a ≡ b
same_err a b e = cc

next_once : (state : State) (line : Line) (a b : State) → IsStep state line (Ok a) → IsStep state line (Ok b) → a ≡ b
next_once state line a b p q = same_ok a b (step_once state line (Ok a) (Ok b) p q)

steps_once : (state : State) (lines : List Line) (a b : State) → AreSteps state lines a → AreSteps state lines b → a ≡ b
steps_once state [] a b p q = sym p ∙ q
steps_once state (line ∷ lines) a b p q =
    let next = next_once state line p.0 q.0 p.1 q.1 in
    steps_once p.0 lines a b p.2 (subst (λ (s : State). AreSteps s lines b) (sym next) q.2)

-- where all lines have no fault, none has
steps_all : (state : State) (before following : List Line) (line : Line) (last middle : State) (cause : AsmCause) → AreSteps state (before ++ line ∷ following) last
    → AreSteps state before middle → IsStep middle line (Err cause) → ⊥
steps_all state [] following line last middle cause all p wrong =
    not_both all.0 cause (step_once state line (Ok all.0) (Err cause) all.1 (subst (λ (s : State). IsStep s line (Err cause)) (sym p) wrong))
steps_all state (first ∷ before) following line last middle cause all p wrong =
    let next = next_once state first all.0 p.0 all.1 p.1 in
    steps_all all.0 before following line last middle cause all.2 (subst (λ (s : State). AreSteps s before middle) (sym next) p.2) wrong

-- a line with its fault
record Wrong : Type 0 where
  line : Line
  cause : AsmCause

wrong : Line → AsmCause → Wrong
wrong line cause = record { line = line; cause = cause }

first_of : List Line → Line → Line
first_of [] other = other
first_of (line ∷ lines) other = line

rest_of : List Line → List Line
rest_of [] = []
rest_of (line ∷ lines) = lines

-- of the same lines the same one is the first with a fault
wrong_once : (state : State) (lines before before' following following' : List Line) (line line' : Line) (middle middle' : State) (cause cause' : AsmCause)
    → before ++ line ∷ following ≡ lines → before' ++ line' ∷ following' ≡ lines
    → AreSteps state before middle → IsStep middle line (Err cause) → AreSteps state before' middle' → IsStep middle' line' (Err cause') → wrong line cause ≡ wrong line' cause'
unfolding first_of rest_of
wrong_once state lines [] [] following following' line line' middle middle' cause cause' is is' p bad q bad' =
    let same : line ≡ line' = ap (λ (l : List Line). first_of l line) (is ∙ sym is') in
    let here : IsStep state line (Err cause) = subst (λ (s : State). IsStep s line (Err cause)) (sym p) bad in
    let there : IsStep state line (Err cause') = subst (λ (l : Line). IsStep state l (Err cause')) (sym same) (subst (λ (s : State). IsStep s line' (Err cause')) (sym q) bad') in
    let causes : cause ≡ cause' = same_err cause cause' (step_once state line (Err cause) (Err cause') here there) in
    ap (λ (l : Line). wrong l cause) same ∙ ap (λ (c : AsmCause). wrong line' c) causes
wrong_once state lines [] (first ∷ before') following following' line line' middle middle' cause cause' is is' p bad q bad' =
    let same : line ≡ first = ap (λ (l : List Line). first_of l line) (is ∙ sym is') in
    let here : IsStep state first (Err cause) = subst (λ (l : Line). IsStep state l (Err cause)) same (subst (λ (s : State). IsStep s line (Err cause)) (sym p) bad) in
    absurd (not_both q.0 cause (step_once state first (Ok q.0) (Err cause) q.1 here))
wrong_once state lines (first ∷ before) [] following following' line line' middle middle' cause cause' is is' p bad q bad' =
    let same : line' ≡ first = ap (λ (l : List Line). first_of l line') (is' ∙ sym is) in
    let here : IsStep state first (Err cause') = subst (λ (l : Line). IsStep state l (Err cause')) same (subst (λ (s : State). IsStep s line' (Err cause')) (sym q) bad') in
    absurd (not_both p.0 cause' (step_once state first (Ok p.0) (Err cause') p.1 here))
wrong_once state lines (first ∷ before) (first' ∷ before') following following' line line' middle middle' cause cause' is is' p bad q bad' =
    let same : first' ≡ first = ap (λ (l : List Line). first_of l first) (is' ∙ sym is) in
    let next : p.0 ≡ q.0 = next_once state first p.0 q.0 p.1 (subst (λ (l : Line). IsStep state l (Ok q.0)) same q.1) in
    let rest : before' ++ line' ∷ following' ≡ before ++ line ∷ following = ap rest_of (is' ∙ sym is) in
    wrong_once p.0 (before ++ line ∷ following) before before' following following' line line' middle middle' cause cause' refl rest p.2 bad
    (subst (λ (s : State). AreSteps s before' middle') (sym next) q.2) bad'

-- ---- answers

last_once : (source : List ℕ) (macros : List (List ℕ)) (a b : State) → HasLines source macros a → HasLines source macros b → a ≡ b
last_once source macros a b p q =
    let lines = one_expansion source macros p.lines q.lines p.expanded q.expanded in
    steps_once start p.lines a b p.steps (subst (λ (l : List Line). AreSteps start l b) (sym lines) q.steps)

-- lines without a fault, and one with a fault
no_bad_line : (source : List ℕ) (macros : List (List ℕ)) (last : State) (line : Line) (cause : AsmCause) → HasLines source macros last → HasBadLine source macros line cause → ⊥
no_bad_line source macros last line cause p q =
    let lines = one_expansion source macros p.lines (q.before ++ line ∷ q.following) p.expanded q.expanded in
    steps_all start q.before q.following line last q.last cause (subst (λ (l : List Line). AreSteps start l last) lines p.steps) q.steps q.wrong

pub one_object : OneObject
one_object source macros a b p q = p.text ∙ ap (λ (s : State). object_text s.ended) (last_once source macros p.last q.last p.has q.has) ∙ sym q.text

open_and_closed : (s : StartedSegment) (o : Option StartedSegment) → o ≡ None → o ≡ Some s → ⊥
open_and_closed s o p q = let clash : None ≡ Some s = sym p ∙ q in absurd cc

pub no_fault_beside' : NoFaultBeside
no_fault_beside' source macros a fault p (InExpansion found is reported) = no_fault_beside source macros p.has.lines found p.has.expanded is
no_fault_beside' source macros a fault p (InLine line cause bad reported) = no_bad_line source macros p.last line cause p.has bad
no_fault_beside' source macros a fault p (InSegment last s has open' reported) =
    open_and_closed s p.last.segment p.ended (ap (λ (x : State). x.segment) (last_once source macros p.last last p.has has) ∙ open')
no_fault_beside' source macros a fault p (InLength last has closed long reported) =
    let same : object_text p.last.ended ≡ object_text last.ended = ap (λ (x : State). object_text x.ended) (last_once source macros p.last last p.has has) in
    let size : length a ≡ length (object_text last.ended) = ap length (p.text ∙ same) in
    omega (arith, size, p.fits, long)

reported_expansion : MacroFault → AsmFault
reported_expansion found = record { cause = cause_of found.cause; file = found.file; line = found.line }

reported_wrong : Wrong → AsmFault
reported_wrong w = record { cause = w.cause; file = w.line.file; line = w.line.number }

reported_open : StartedSegment → AsmFault
reported_open s = record { cause = Unclosed; file = s.start_line.file; line = s.start_line.number }

same_segment : (a b : StartedSegment) (o : Option StartedSegment) → o ≡ Some a → o ≡ Some b → a ≡ b
same_segment a b o p q = let both : Some a ≡ Some b = sym p ∙ q in cc

-- lines that have all no fault, and an expansion with a fault
no_expansion : (source : List ℕ) (macros : List (List ℕ)) (lines : List Line) (found : MacroFault) → IsExpanded source macros lines → expansion.IsFirstFault source macros found → ⊥
no_expansion source macros lines found p q = no_fault_beside source macros lines found p q

pub one_first_fault' : OneFirstFault
unfolding reported_expansion wrong reported_wrong reported_open
one_first_fault' source macros a b (InExpansion x is reported) (InExpansion y is' reported') = reported ∙ ap reported_expansion (one_first_fault source macros x y is is') ∙ sym reported'
one_first_fault' source macros a b (InExpansion x is reported) (InLine line cause bad reported') = absurd (no_expansion source macros (bad.before ++ line ∷ bad.following) x bad.expanded is)
one_first_fault' source macros a b (InExpansion x is reported) (InSegment last s has open' reported') = absurd (no_expansion source macros has.lines x has.expanded is)
one_first_fault' source macros a b (InExpansion x is reported) (InLength last has closed long reported') = absurd (no_expansion source macros has.lines x has.expanded is)
one_first_fault' source macros a b (InLine line cause bad reported) (InExpansion y is' reported') = absurd (no_expansion source macros (bad.before ++ line ∷ bad.following) y bad.expanded is')
one_first_fault' source macros a b (InLine line cause bad reported) (InLine line' cause' bad' reported') =
    let lines = one_expansion source macros (bad.before ++ line ∷ bad.following) (bad'.before ++ line' ∷ bad'.following) bad.expanded bad'.expanded in
    reported ∙ ap reported_wrong (wrong_once start (bad'.before ++ line' ∷ bad'.following) bad.before bad'.before bad.following bad'.following line line' bad.last bad'.last cause cause' lines refl
    bad.steps bad.wrong bad'.steps bad'.wrong) ∙ sym reported'
one_first_fault' source macros a b (InLine line cause bad reported) (InSegment last s has open' reported') = absurd (no_bad_line source macros last line cause has bad)
one_first_fault' source macros a b (InLine line cause bad reported) (InLength last has closed long reported') = absurd (no_bad_line source macros last line cause has bad)
one_first_fault' source macros a b (InSegment last s has open' reported) (InExpansion y is' reported') = absurd (no_expansion source macros has.lines y has.expanded is')
one_first_fault' source macros a b (InSegment last s has open' reported) (InLine line cause bad reported') = absurd (no_bad_line source macros last line cause has bad)
one_first_fault' source macros a b (InSegment last s has open' reported) (InSegment last' s' has' open'' reported') =
    let lasts = last_once source macros last last' has has' in
    reported ∙ ap reported_open (same_segment s s' last'.segment (ap (λ (x : State). x.segment) (sym lasts) ∙ open') open'') ∙ sym reported'
one_first_fault' source macros a b (InSegment last s has open' reported) (InLength last' has' closed long reported') =
    absurd (open_and_closed s last'.segment closed (ap (λ (x : State). x.segment) (sym (last_once source macros last last' has has')) ∙ open'))
one_first_fault' source macros a b (InLength last has closed long reported) (InExpansion y is' reported') = absurd (no_expansion source macros has.lines y has.expanded is')
one_first_fault' source macros a b (InLength last has closed long reported) (InLine line cause bad reported') = absurd (no_bad_line source macros last line cause has bad)
one_first_fault' source macros a b (InLength last has closed long reported) (InSegment last' s has' open' reported') =
    absurd (open_and_closed s last.segment closed (ap (λ (x : State). x.segment) (last_once source macros last last' has has') ∙ open'))
one_first_fault' source macros a b (InLength last has closed long reported) (InLength last' has' closed' long' reported') = reported ∙ sym reported'
