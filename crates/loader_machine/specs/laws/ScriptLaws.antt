-- Laws of scripts: a text is one script, or has one first bad line, and not both.
use Rattle.std.proofs.Common.{◌≡◌, ℕ, suc, ◌<◌, ◌≤◌, Bool, true, false, ◌⊎◌, inl, inr, List, [], ◌∷◌, ◌++◌, length, Result, Ok, Err, refl, sym, ap, subst, ◌∙◌, arith}
use Rattle.std.specs.Prelude.{not}
use Rattle.std.proofs.lemmas.List.{length-append, append-nil}
use Rattle.std.proofs.lemmas.List.Elements.{filter-append}
use Rattle.std.proofs.lemmas.List.Sums.{length-filter, count_by-le-length}
use Rattle.loader_machine.specs.declared.script.ScriptCause.{ScriptCause}
use Rattle.loader_machine.specs.Commands.{Command}
use Rattle.omf_format.specs.Lines.{lines_of}
use Rattle.loader_machine.specs.Script.{is_skipped, line_command, Give, AreGood, most_lines, IsBad, OneTooMany, NoCommand, IsFirstBadLine, IsScript, is_start}
use Rattle.loader_machine.specs.laws.Words.{written}

give_later : (lines : List (List ℕ)) (commands : List Command) (line : List ℕ) (command : Command) → Give false lines commands
    → line_command false line ≡ Ok command → Give false (lines ++ line ∷ []) (commands ++ command ∷ [])
give_later [] [] line command give is = (is, tt)
give_later [] (c ∷ commands) line command give is = absurd give
give_later (l ∷ lines) [] line command give is = absurd give
give_later (l ∷ lines) (c ∷ commands) line command give is = (give.0, give_later lines commands line command give.1 is)

-- one more line gives one more command
Give-push : (lines : List (List ℕ)) (commands : List Command) (line : List ℕ) (command : Command) → Give true lines commands
    → line_command (is_start commands) line ≡ Ok command → Give true (lines ++ line ∷ []) (commands ++ command ∷ [])
Give-push [] [] line command give is = (is, tt)
Give-push [] (c ∷ commands) line command give is = absurd give
Give-push (l ∷ lines) [] line command give is = absurd give
Give-push (l ∷ lines) (c ∷ commands) line command give is = (give.0, give_later lines commands line command give.1 is)

written-push_skipped : (lines : List (List ℕ)) (line : List ℕ) → is_skipped line ≡ true → written (lines ++ line ∷ []) ≡ written lines
written-push_skipped lines line skipped =
    let none : written (line ∷ []) ≡ [] = rw skipped refl in
    filter-append (λ l. not (is_skipped l)) lines (line ∷ []) ∙ ap (λ (more : List (List ℕ)). written lines ++ more) none ∙ append-nil (written lines)

written-append : (lines following : List (List ℕ)) (line : List ℕ) → is_skipped line ≡ false
    → written (lines ++ line ∷ following) ≡ written lines ++ line ∷ written following
written-append lines following line is =
    let one : written (line ∷ following) ≡ line ∷ written following = rw is refl in
    filter-append (λ l. not (is_skipped l)) lines (line ∷ following) ∙ ap (λ (more : List (List ℕ)). written lines ++ more) one

-- good lines and a skipped one are good
pub AreGood-push_skipped : (lines : List (List ℕ)) (commands : List Command) (line : List ℕ) → AreGood lines commands
    → length lines < most_lines → is_skipped line ≡ true → AreGood (lines ++ line ∷ []) commands
AreGood-push_skipped lines commands line good more skipped = record {
  few = omega (arith, length-append lines (line ∷ []));
  give = rw (written-push_skipped lines line skipped) good.give;
}

-- good lines and one that gives a command are good
pub AreGood-push : (lines : List (List ℕ)) (commands : List Command) (line : List ℕ) (command : Command) → AreGood lines commands
    → length lines < most_lines → is_skipped line ≡ false → line_command (is_start commands) line ≡ Ok command
    → AreGood (lines ++ line ∷ []) (commands ++ command ∷ [])
AreGood-push lines commands line command good more is gives = record {
  few = omega (arith, length-append lines (line ∷ []));
  give = rw (written-append lines [] line is) (Give-push (written lines) commands line command good.give gives);
}

-- each written line gives a command
length-Give : (is_first : Bool) (lines : List (List ℕ)) (commands : List Command) → Give is_first lines commands → length commands ≡ length lines
length-Give is_first [] [] give = refl
length-Give is_first [] (c ∷ commands) give = absurd give
length-Give is_first (line ∷ lines) [] give = absurd give
length-Give is_first (line ∷ lines) (c ∷ commands) give = ap suc (length-Give false lines commands give.1)

-- there are at most as many commands as lines
pub AreGood-few : (lines : List (List ℕ)) (commands : List Command) → AreGood lines commands → length commands ≤ most_lines
AreGood-few lines commands good =
    let same = length-Give true (written lines) commands good.give in
    omega (arith, good.few, same, length-filter (λ l. not (is_skipped l)) lines, count_by-le-length (λ l. not (is_skipped l)) lines)

-- ---- one answer

same_ok : (r : Result Command ScriptCause) (a b : Command) → r ≡ Ok a → r ≡ Ok b → a ≡ b
same_ok r a b p q = cc

Give-same : (is_first : Bool) (lines : List (List ℕ)) (a b : List Command) → Give is_first lines a → Give is_first lines b → a ≡ b
Give-same is_first [] [] [] p q = refl
Give-same is_first [] [] (y ∷ b) p q = absurd q
Give-same is_first [] (x ∷ a) b p q = absurd p
Give-same is_first (line ∷ lines) [] b p q = absurd p
Give-same is_first (line ∷ lines) (x ∷ a) [] p q = absurd q
Give-same is_first (line ∷ lines) (x ∷ a) (y ∷ b) p q =
    let head = same_ok (line_command is_first line) x y p.0 q.0 in
    let tail = Give-same false lines a b p.1 q.1 in
    ap (λ (c : Command). c ∷ a) head ∙ ap (λ (cs : List Command). y ∷ cs) tail

-- a text is a script of one list of commands
pub IsScript-same : (text : List ℕ) (a b : List Command) → IsScript text a → IsScript text b → a ≡ b
IsScript-same text a b p q = Give-same true (written (lines_of text)) a b p.give q.give

-- the command of a line among good ones
give_inside : (lines following : List (List ℕ)) (line : List ℕ) (a b : List Command) → Give false lines a
    → Give false (lines ++ line ∷ following) b → (command : Command) × (line_command false line ≡ Ok command)
give_inside [] following line [] [] p q = absurd q
give_inside [] following line [] (y ∷ b) p q = (y, q.0)
give_inside [] following line (x ∷ a) b p q = absurd p
give_inside (l ∷ lines) following line [] b p q = absurd p
give_inside (l ∷ lines) following line (x ∷ a) [] p q = absurd q
give_inside (l ∷ lines) following line (x ∷ a) (y ∷ b) p q = give_inside lines following line a b p.1 q.1

Give-inside : (lines following : List (List ℕ)) (line : List ℕ) (a b : List Command) → Give true lines a
    → Give true (lines ++ line ∷ following) b → (command : Command) × (line_command (is_start a) line ≡ Ok command)
Give-inside [] following line [] [] p q = absurd q
Give-inside [] following line [] (y ∷ b) p q = (y, q.0)
Give-inside [] following line (x ∷ a) b p q = absurd p
Give-inside (l ∷ lines) following line [] b p q = absurd p
Give-inside (l ∷ lines) following line (x ∷ a) [] p q = absurd q
Give-inside (l ∷ lines) following line (x ∷ a) (y ∷ b) p q = give_inside lines following line a b p.1 q.1

abbrev failed : ScriptCause → Result Command ScriptCause
failed cause = Err cause

no_command : (r : Result Command ScriptCause) (cause : ScriptCause) (command : Command) → r ≡ Err cause → r ≡ Ok command → ⊥
no_command r cause command p q = let clash : failed cause ≡ Ok command = sym p ∙ q in cc

-- no bad line is among good ones
not_good : (before following : List (List ℕ)) (line : List ℕ) (cause : ScriptCause) (a b : List Command) → AreGood before a
    → IsBad (length before) (is_start a) line cause → AreGood (before ++ line ∷ following) b → ⊥
not_good before following line cause a b good (OneTooMany all is) whole =
    omega (arith, length-append before (line ∷ following), whole.few)
not_good before following line cause a b good (NoCommand more is none) whole =
    let gives = Give-inside (written before) (written following) line a b good.give (rw (written-append before following line is) at whole.give) in
    no_command (line_command (is_start a) line) cause gives.0 none gives.1

-- no text is a script and has a bad line
pub no_script : (text : List ℕ) (commands : List Command) (number : ℕ) (cause : ScriptCause) → IsScript text commands
    → IsFirstBadLine text number cause → ⊥
no_script text commands number cause script first =
    not_good first.before first.following first.line cause first.commands commands first.good first.bad
    (subst (λ (lines : List (List ℕ)). AreGood lines commands) first.lines script)

-- two lists that are equal, each split at an element
sides : (a b xs ys : List (List ℕ)) (x y : List ℕ) → a ++ x ∷ xs ≡ b ++ y ∷ ys
    → ((a ≡ b) × (x ≡ y)) ⊎ (((r : List (List ℕ)) × (b ≡ a ++ x ∷ r)) ⊎ ((r : List (List ℕ)) × (a ≡ b ++ y ∷ r)))
sides [] [] xs ys x y e = inl (refl, cc)
sides [] (z ∷ b) xs ys x y e = let first : z ≡ x = cc in inr (inl (b, ap (λ (l : List ℕ). l ∷ b) first))
sides (z ∷ a) [] xs ys x y e = let first : z ≡ y = cc in inr (inr (a, ap (λ (l : List ℕ). l ∷ a) first))
sides (z ∷ a) (w ∷ b) xs ys x y e =
    let first : z ≡ w = cc in
    let rest : a ++ x ∷ xs ≡ b ++ y ∷ ys = cc in
    elim (sides a b xs ys x y rest) [
      | inl same ↦ inl (ap (λ (l : List ℕ). l ∷ a) first ∙ ap (λ (ls : List (List ℕ)). w ∷ ls) same.0, same.1)
      | inr (inl longer) ↦ inr (inl (longer.0, ap (λ (l : List ℕ). l ∷ b) (sym first) ∙ ap (λ (ls : List (List ℕ)). z ∷ ls) longer.1))
      | inr (inr shorter) ↦ inr (inr (shorter.0, ap (λ (l : List ℕ). l ∷ a) first ∙ ap (λ (ls : List (List ℕ)). w ∷ ls) shorter.1))
    ]

same_err : (r : Result Command ScriptCause) (a b : ScriptCause) → r ≡ Err a → r ≡ Err b → a ≡ b
same_err r a b p q = cc

-- a line is bad for one cause
bad_same : (before : ℕ) (is_first : Bool) (line : List ℕ) (a b : ScriptCause) → IsBad before is_first line a → IsBad before is_first line b → a ≡ b
bad_same before is_first line a b (OneTooMany all x) (OneTooMany same y) = x ∙ sym y
bad_same before is_first line a b (OneTooMany all x) (NoCommand less is none) = absurd (omega arith)
bad_same before is_first line a b (NoCommand less is none) (OneTooMany all x) = absurd (omega arith)
bad_same before is_first line a b (NoCommand less is none) (NoCommand more this gone) = same_err (line_command is_first line) a b none gone

-- a text has one first bad line, with one cause
pub IsFirstBadLine-same : (text : List ℕ) (m n : ℕ) (a b : ScriptCause) → IsFirstBadLine text m a → IsFirstBadLine text n b → (m ≡ n) × (a ≡ b)
IsFirstBadLine-same text m n a b p q =
    elim (sides p.before q.before p.following q.following p.line q.line (sym p.lines ∙ q.lines)) [
      | inl same ↦ at_one same.0 same.1
      | inr (inl longer) ↦ absurd (not_good p.before longer.0 p.line a p.commands q.commands p.good p.bad
          (subst (λ (lines : List (List ℕ)). AreGood lines q.commands) longer.1 q.good))
      | inr (inr shorter) ↦ absurd (not_good q.before shorter.0 q.line b q.commands p.commands q.good q.bad
          (subst (λ (lines : List (List ℕ)). AreGood lines p.commands) shorter.1 p.good))
    ]
  where
    at_one : p.before ≡ q.before → p.line ≡ q.line → (m ≡ n) × (a ≡ b)
    at_one before line =
        let moved : AreGood p.before q.commands = subst (λ (lines : List (List ℕ)). AreGood lines q.commands) (sym before) q.good in
        let commands : q.commands ≡ p.commands = Give-same true (written p.before) q.commands p.commands moved.give p.good.give in
        let bad : IsBad (length p.before) (is_start p.commands) p.line b =
        subst (λ (l : List ℕ). IsBad (length p.before) (is_start p.commands) l b) (sym line)
        (subst (λ (cs : List Command). IsBad (length p.before) (is_start cs) q.line b) commands
        (subst (λ (lines : List (List ℕ)). IsBad (length lines) (is_start q.commands) q.line b) (sym before) q.bad)) in
        let count : length p.before ≡ length q.before = ap (λ (lines : List (List ℕ)). length lines) before in
        (omega (arith, p.number_is, q.number_is), bad_same (length p.before) (is_start p.commands) p.line a b p.bad bad)
