-- How far a script has been read.
use Rattle.std.proofs.Common.{◌≡◌, ℕ, ◌+◌, List, [], ◌∷◌, ◌++◌, length, append_assoc, sym, ap, subst, ◌∙◌, arith}
use Rattle.std.proofs.lemmas.List.{length-append, append-nil}
use Rattle.loader_machine.specs.Commands.{Command}
use Rattle.omf_format.specs.Lines.{lines_of}
use Rattle.loader_machine.specs.Script.{AreGood, IsScript}
use Rattle.omf_format.specs.laws.LinesLaws.{lines_of-nil}
use Rattle.loader_machine.specs.laws.ScriptLaws.{AreGood-push, AreGood-push_skipped}
use Rattle.script_text.specs.Lines.{HasTaken, Skipped, Gave}

-- `before` lines were read, none is bad, they gave these commands, and this text is left
pub record HasCome (text rest : List ℕ) (before : ℕ) (commands : List Command) : Type 0 where
  pub done : List (List ℕ)
  pub lines : lines_of text ≡ done ++ lines_of rest
  pub count : before ≡ length done
  pub good : AreGood done commands

lines_on : (text rest line following : List ℕ) (done : List (List ℕ)) → lines_of text ≡ done ++ lines_of rest
    → lines_of rest ≡ line ∷ lines_of following → lines_of text ≡ (done ++ line ∷ []) ++ lines_of following
lines_on text rest line following done is more = rw append_assoc (is ∙ ap (λ (l : List (List ℕ)). done ++ l) more)

-- one more line was taken
pub come_on : (text rest line following : List ℕ) (before : ℕ) (old new : List Command) → HasCome text rest before old
    → lines_of rest ≡ line ∷ lines_of following → HasTaken before line old new → HasCome text following (before + 1) new
come_on text rest line following before old new come more (Skipped less is same) = record {
  done = come.done ++ line ∷ [];
  lines = lines_on text rest line following come.done come.lines more;
  count = omega (arith, come.count, length-append come.done (line ∷ []));
  good = subst (λ (commands : List Command). AreGood (come.done ++ line ∷ []) commands) (sym same)
      (AreGood-push_skipped come.done old line come.good (omega (arith, come.count)) is);
}
come_on text rest line following before old new come more (Gave less is command gives same) = record {
  done = come.done ++ line ∷ [];
  lines = lines_on text rest line following come.done come.lines more;
  count = omega (arith, come.count, length-append come.done (line ∷ []));
  good = subst (λ (commands : List Command). AreGood (come.done ++ line ∷ []) commands) (sym same)
      (AreGood-push come.done old line command come.good (omega (arith, come.count)) is gives);
}

-- nothing is left
pub come_through : (text rest : List ℕ) (before : ℕ) (commands : List Command) → HasCome text rest before commands → length rest ≡ 0
    → IsScript text commands
come_through text [] before commands come none =
    let all : come.done ≡ lines_of text = sym (come.lines ∙ ap (λ (l : List (List ℕ)). come.done ++ l) lines_of-nil ∙ append-nil come.done) in
    subst (λ (lines : List (List ℕ)). AreGood lines commands) all come.good
come_through text (byte ∷ rest) before commands come none = absurd (omega arith)
