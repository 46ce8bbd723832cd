-- Lines one after another.
use Rattle.std.proofs.Common.{◌≡◌, ℕ, zero, suc, ◌+◌, List, [], ◌∷◌, ◌++◌, take, drop, Some, Ok, Err, refl, sym, ap, subst, ◌∙◌, arith}
use Rattle.std.specs.Prelude.{slice_get}
use Rattle.orca_meaning.specs.Line.{Line}
use Rattle.asm_meaning.specs.declared.faults.AsmCause.{AsmCause}
use Rattle.asm_meaning.specs.declared.faults.AsmFault.{AsmFault}
use Rattle.asm_meaning.specs.Object.{AreSteps}
use Rattle.asm_meaning.specs.State.{State, start}
use Rattle.asm_meaning.specs.Statement.{IsStep}
use Rattle.orca_object.specs.declared.assembly.Assembly.{Assembly}
use Rattle.orca_object.specs.AssembleView.{Stops}
use Rattle.orca_object.specs.AssemblyView.{Leaves}

-- ---- lines

take_more : {A : Type 0} → (xs : List A) (k : ℕ) (x : A) → slice_get xs k ≡ Some x → take (k + 1) xs ≡ take k xs ++ x ∷ []
take_more [] k x e = absurd cc
take_more {A} (y ∷ xs) zero x e = let same : y ≡ x = cc in ap (λ (z : A). z ∷ []) same
take_more {A} (y ∷ xs) (suc k) x e =
    let next : suc k + 1 ≡ suc (k + 1) = omega arith in
    ap (λ (n : ℕ). take n (y ∷ xs)) next ∙ ap (λ (l : List A). y ∷ l) (take_more xs k x e)

split_at : {A : Type 0} → (xs : List A) (k : ℕ) (x : A) → slice_get xs k ≡ Some x → xs ≡ take k xs ++ x ∷ drop (k + 1) xs
split_at [] k x e = absurd cc
split_at {A} (y ∷ xs) zero x e = let same : y ≡ x = cc in ap (λ (z : A). z ∷ xs) same
split_at {A} (y ∷ xs) (suc k) x e =
    let next : suc k + 1 ≡ suc (k + 1) = omega arith in
    ap (λ (l : List A). y ∷ l) (split_at xs k x e) ∙ ap (λ (n : ℕ). y ∷ (take k xs ++ x ∷ drop n (y ∷ xs))) (sym next)

steps_more : (state middle last : State) (lines : List Line) (line : Line) → AreSteps state lines middle → IsStep middle line (Ok last) → AreSteps state (lines ++ line ∷ []) last
steps_more state middle last [] line steps step = (last, subst (λ (s : State). IsStep s line (Ok last)) (sym steps) step, refl)
steps_more state middle last (first ∷ lines) line steps step = (steps.0, steps.1, steps_more steps.0 middle last lines line steps.2 step)

-- what the first lines have left
pub record UnderWay (lines : List Line) (place : ℕ) (a : Assembly) : Type 0 where
  pub state : State
  pub steps : AreSteps start (take place lines) state
  pub shows : Leaves state a

pub goes_on : (lines : List Line) (place : ℕ) (old a : Assembly) (line : Line) (u : UnderWay lines place old) → slice_get lines place ≡ Some line → (next : State) × IsStep u.state line (Ok next) × Leaves next a → UnderWay lines (place + 1) a
goes_on lines place old a line u here step = record {
  state = step.0;
  steps = subst (λ (l : List Line). AreSteps start l step.0) (sym (take_more lines place line here)) (steps_more start u.state step.0 (take place lines) line u.steps step.1);
  shows = step.2;
}

pub stops : (lines : List Line) (place : ℕ) (a : Assembly) (line : Line) (cause : AsmCause) (fault : AsmFault) (u : UnderWay lines place a) → slice_get lines place ≡ Some line → IsStep u.state line (Err cause)
    → fault ≡ record { cause = cause; file = line.file; line = line.number } → Stops lines fault
stops lines place a line cause fault u here wrong is = record {
  before = take place lines;
  line = line;
  following = drop (place + 1) lines;
  cause = cause;
  last = u.state;
  lines_are = split_at lines place line here;
  steps = u.steps;
  wrong = wrong;
  fault_is = is;
}
