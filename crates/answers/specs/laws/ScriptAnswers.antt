-- A text is a script, or has a first bad line.
use Rattle.std.proofs.Common.{◌≡◌, ◌≢◌, ◌⊎◌, inl, inr, ℕ, ◌+◌, ◌<◌, Bool, true, false, ltb, ltb-true, ltb-false, List, [], ◌∷◌, ◌++◌, length, Result, Ok, Err, refl, sym, subst, ◌∙◌, append_assoc, arith}
use Rattle.std.proofs.lemmas.List.{append-nil}
use Rattle.omf_format.specs.Lines.{lines_of}
use Rattle.loader_machine.specs.declared.script.ScriptCause.{ScriptCause}
use Rattle.loader_machine.specs.declared.script.ScriptCause.TheVariants.{TooManyLines, Memory}
use Rattle.loader_machine.specs.declared.script.ScriptFault.{ScriptFault}
use Rattle.loader_machine.specs.Commands.{Command}
use Rattle.loader_machine.specs.Script.{most_lines, is_skipped, line_command, AreGood, IsScript, IsBad, OneTooMany, NoCommand, is_start, HasScriptFault}
use Rattle.loader_machine.specs.laws.ScriptLaws.{AreGood-push, AreGood-push_skipped}
use Rattle.answers.specs.Inputs.{ScriptsAreAnswered}
use Rattle.answers.specs.laws.ScriptCauses.{script_cause}

abbrev ScriptAnswer : List ℕ → Type 0
ScriptAnswer text = ((commands : List Command) × IsScript text commands) ⊎ ((fault : ScriptFault) × HasScriptFault text fault × (fault.cause ≢ Memory))

answer_from : (text : List ℕ) (before rest : List (List ℕ)) (commands : List Command) → lines_of text ≡ before ++ rest → AreGood before commands → ScriptAnswer text
answer_from text before [] commands lines good = inl (commands, subst (λ (l : List (List ℕ)). AreGood l commands) (sym (lines ∙ append-nil before)) good)
answer_from text before (line ∷ rest) commands lines good =
    by_count (λ (more : List Command). answer_from text (before ++ line ∷ []) rest more (lines ∙ sym (append_assoc before (line ∷ []) rest))) (ltb (length before) most_lines) refl
  where
    at_fault : (cause : ScriptCause) → IsBad (length before) (is_start commands) line cause → ScriptAnswer text
    at_fault cause bad =
        let fault : ScriptFault = record { line = length before + 1; cause = cause } in
        let has : HasScriptFault text fault =
        record { before = before; line = line; following = rest; lines = lines; number_is = refl; commands = commands; good = good; bad = bad } in
        inr (fault, has, script_cause text fault has)

    by_command : ((more : List Command) → AreGood (before ++ line ∷ []) more → ScriptAnswer text) → length before < most_lines → is_skipped line ≡ false
        → (found : Result Command ScriptCause) → line_command (is_start commands) line ≡ found → ScriptAnswer text
    by_command later few stands (Ok command) is = later (commands ++ command ∷ []) (AreGood-push before commands line command good few stands is)
    by_command later few stands (Err cause) is = at_fault cause (NoCommand few stands is)

    by_skip : ((more : List Command) → AreGood (before ++ line ∷ []) more → ScriptAnswer text) → length before < most_lines → (b : Bool) → is_skipped line ≡ b → ScriptAnswer text
    by_skip later few true is = later commands (AreGood-push_skipped before commands line good few is)
    by_skip later few false is = by_command later few is (line_command (is_start commands) line) refl

    by_count : ((more : List Command) → AreGood (before ++ line ∷ []) more → ScriptAnswer text) → (b : Bool) → ltb (length before) most_lines ≡ b → ScriptAnswer text
    by_count later true is = by_skip later (ltb-true (length before) most_lines is) (is_skipped line) refl
    by_count later false is =
        let past = ltb-false (length before) most_lines is in
        at_fault TooManyLines (OneTooMany (omega (arith, past, good.few)) refl)

pub scripts_are_answered : ScriptsAreAnswered
scripts_are_answered text = answer_from text [] (lines_of text) [] refl (record { few = omega arith; give = tt })
