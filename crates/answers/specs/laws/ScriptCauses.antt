-- No first fault of a script is Memory.
use Rattle.std.proofs.Common.{◌≢◌, ℕ, Bool, cond, List, [], ◌∷◌, Option, Some, None, Result, Ok, Err, sym, ap, subst}
use Rattle.std.specs.Prelude.{not}
use Rattle.loader_machine.specs.declared.script.CommandName.{CommandName}
use Rattle.loader_machine.specs.declared.script.CommandName.TheVariants as name
use Rattle.loader_machine.specs.declared.script.ScriptCause.{ScriptCause}
use Rattle.loader_machine.specs.declared.script.ScriptCause.TheVariants.{BadWord, UnknownCommand, BanksFirst, WrongCount, BadNumber, BankTwice, Memory}
use Rattle.loader_machine.specs.declared.script.ScriptFault.{ScriptFault}
use Rattle.loader_machine.specs.Commands.{Command}
use Rattle.loader_machine.specs.Script.{words_of, command_named, one_number, two_numbers, is_banks, given_by, words_command, line_command, IsBad, OneTooMany, NoCommand, HasScriptFault}
use Rattle.answers.specs.laws.Options.{failed, OnlyFaults, no_fault, one_fault, same_fault, fault_of_either}

abbrev IsOther : ScriptCause → Type 0
IsOther cause = cause ≢ Memory

wrong_count : {A : Type 0} → OnlyFaults {A = A} IsOther (Err WrongCount)
wrong_count {A} = one_fault {A = A} IsOther WrongCount (λ e. cc)

-- numbers, or a bad one
good_or_bad : {A : Type 0} (b : Bool) (x : A) → OnlyFaults IsOther (cond b (Ok x) (Err BadNumber))
good_or_bad b x = fault_of_either IsOther b _ _ (no_fault IsOther x) (one_fault IsOther BadNumber (λ e. cc))

one_cause : (most : ℕ) (words : List (List ℕ)) → OnlyFaults IsOther (one_number most words)
unfolding one_number
one_cause most (word ∷ []) = good_or_bad _ _
one_cause most _ = wrong_count

two_cause : (most other : ℕ) (words : List (List ℕ)) → OnlyFaults IsOther (two_numbers most other words)
unfolding two_numbers
two_cause most other (word ∷ second ∷ []) = good_or_bad _ _
two_cause most other _ = wrong_count

given_cause : {A : Type 0} (command : A → Command) (numbers : Result A ScriptCause) → OnlyFaults IsOther numbers → OnlyFaults IsOther (given_by command numbers)
given_cause command (Ok x) only = no_fault IsOther (command x)
given_cause {A = A} command (Err cause) only = λ fault e. only fault (ap (λ (c : ScriptCause). failed {A = A} c) (same_fault {A = Command} cause fault e))

words_cause : (named : CommandName) (words : List (List ℕ)) → OnlyFaults IsOther (words_command named words)
unfolding words_command
words_cause name.Banks words =
    fault_of_either IsOther _ (Err WrongCount) _ wrong_count
    (fault_of_either IsOther _ (Err BadNumber) _ (one_fault IsOther BadNumber (λ e. cc))
    (fault_of_either IsOther _ (Err BankTwice) _ (one_fault IsOther BankTwice (λ e. cc)) (no_fault IsOther _)))
words_cause name.Load (path ∷ []) = no_fault IsOther _
words_cause name.LoadSegment words = given_cause _ _ (two_cause _ _ words)
words_cause name.UnloadSegment words = given_cause _ _ (two_cause _ _ words)
words_cause name.Jsl (user ∷ segment ∷ at ∷ []) = good_or_bad _ _
words_cause name.ShutDown (user ∷ manner ∷ []) = good_or_bad _ _
words_cause name.Restart words = given_cause _ _ (one_cause _ words)
words_cause name.Purge words = given_cause _ _ (one_cause _ words)
words_cause name.Poke (user ∷ segment ∷ at ∷ byte ∷ []) = good_or_bad _ _
words_cause name.Bytes (user ∷ segment ∷ at ∷ size ∷ []) = good_or_bad _ _
words_cause name.Where words = given_cause _ _ (one_cause _ words)
words_cause name.Info words = given_cause _ _ (two_cause _ _ words)
words_cause name.Alloc (size ∷ attributes ∷ address ∷ []) = good_or_bad _ _
words_cause name.Free words = given_cause _ _ (one_cause _ words)
words_cause name.Lock words = given_cause _ _ (one_cause _ words)
words_cause name.Unlock words = given_cause _ _ (one_cause _ words)
words_cause name.Level words = given_cause _ _ (two_cause _ _ words)
words_cause name.Handle words = given_cause _ _ (one_cause _ words)
words_cause name.Room [] = no_fault IsOther _
words_cause name.Compact [] = no_fault IsOther _
words_cause _ _ = wrong_count

line_cause : (is_first : Bool) (line : List ℕ) → OnlyFaults IsOther (line_command is_first line)
unfolding line_command
line_cause is_first line = fault_of_either IsOther _ _ (Err BadWord) (by_words (words_of line)) (one_fault IsOther BadWord (λ e. cc))
  where
    by_name : (named : Option CommandName) (words : List (List ℕ)) → OnlyFaults IsOther (elim named as (λ n. Result Command ScriptCause) [
      | None ↦ Err UnknownCommand
      | Some name ↦ cond (cond (is_banks name) is_first (not is_first)) (words_command name words) (Err BanksFirst)
    ])
    by_name None words = one_fault IsOther UnknownCommand (λ e. cc)
    by_name (Some name) words = fault_of_either IsOther _ _ (Err BanksFirst) (words_cause name words) (one_fault IsOther BanksFirst (λ e. cc))

    by_words : (words : List (List ℕ)) → OnlyFaults IsOther (elim words as (λ w. Result Command ScriptCause) [
      | [] ↦ Err UnknownCommand
      | word ∷ words ↦ elim (command_named word) as (λ n. Result Command ScriptCause) [
        | None ↦ Err UnknownCommand
        | Some name ↦ cond (cond (is_banks name) is_first (not is_first)) (words_command name words) (Err BanksFirst)
      ]
    ])
    by_words [] = one_fault IsOther UnknownCommand (λ e. cc)
    by_words (word ∷ words) = by_name (command_named word) words

bad_cause : (before : ℕ) (is_first : Bool) (line : List ℕ) (cause : ScriptCause) → IsBad before is_first line cause → IsOther cause
bad_cause before is_first line cause (OneTooMany most e) = subst IsOther (sym e) (λ e. cc)
bad_cause before is_first line cause (NoCommand few stands e) = line_cause is_first line cause e

pub script_cause : (text : List ℕ) (fault : ScriptFault) → HasScriptFault text fault → fault.cause ≢ Memory
script_cause text fault is = bad_cause _ _ is.line fault.cause is.bad
