-- What the commands of a script keep: the bounds of their values, and that `banks` is the first one and no later one.
use Rattle.std.proofs.Common.{◌≡◌, ℕ, zero, suc, map, ◌<◌, ◌≤◌, Bool, true, false, cond, List, [], ◌∷◌, length, Option, Some, None, Result, Ok, Err, refl, sym, ap, subst, arith}
use Rattle.std.specs.Prelude.{◌≢◌, ◌==◌, ◌&&◌, not, bytes_eq, codes, slice_index}
use Rattle.std.specs.List.{AllByRecursion, list_all, list_any}
use Rattle.std.proofs.lemmas.Bool.{and_parts, or_parts, leb-true, eqb-false}
use Rattle.std.proofs.lemmas.List.{length-map}
use Rattle.loader_machine.specs.declared.script.ScriptCause.{ScriptCause}
use Rattle.loader_machine.specs.declared.script.ScriptCause.TheVariants.{BadWord, UnknownCommand, BanksFirst, WrongCount, BadNumber}
use Rattle.loader_machine.specs.declared.script.CommandName.{CommandName}
use Rattle.loader_machine.specs.declared.script.CommandName.TheVariants as names
use Rattle.loader_machine.specs.Commands.{Command, Banks, Load, LoadSegment, UnloadSegment, Jsl, ShutDown, Restart, Purge, Poke, Bytes, Where, Info, Alloc, Free, Lock, Unlock, Level, StateOf, Room, Compact}
use Rattle.iigs_meaning.specs.Banks.{AreDistinctTo}
use Rattle.omf_format.specs.Lines.{lines_of}
use Rattle.loader_machine.specs.Script.{line_command, Give, IsScript, IsHandle, IsCommand, AreCommands, is_number, number_of, is_word, stands_twice, one_number, two_numbers, given_by, handle_of, words_command, is_banks, command_named, words_of}
use Rattle.loader_machine.specs.laws.Words.{command_of, written, banks_of, load_of, are_jsl_numbers, jsl_of, is_manner, shut_down_of, are_poke_numbers, poke_of, bytes_of, are_bytes_numbers, are_alloc_numbers, alloc_of, room_of, compact_of, is_in_turn, named_command, is_well_formed}

abbrev failed : ScriptCause → Result Command ScriptCause
failed cause = Err cause

same_ok : (r : Result Command ScriptCause) (a b : Command) → r ≡ Ok a → r ≡ Ok b → a ≡ b
same_ok r a b p q = cc

-- a test that was passed or wasn't
err_or : (b : Bool) (cause : ScriptCause) (read : Result Command ScriptCause) (command : Command) → cond b (Err cause) read ≡ Ok command
    → (b ≡ false) × (read ≡ Ok command)
err_or true cause read command e = let clash : failed cause ≡ Ok command = e in absurd cc
err_or false cause read command e = (refl, e)

or_err : (b : Bool) (cause : ScriptCause) (read : Result Command ScriptCause) (command : Command) → cond b read (Err cause) ≡ Ok command
    → (b ≡ true) × (read ≡ Ok command)
or_err true cause read command e = (refl, e)
or_err false cause read command e = let clash : failed cause ≡ Ok command = e in absurd cc

not_false : (b : Bool) → not b ≡ false → b ≡ true
not_false true e = refl
not_false false e = absurd cc

number_within : (least most : ℕ) (word : List ℕ) → is_number least most word ≡ true → (least ≤ number_of word) × (number_of word ≤ most)
unfolding is_number
number_within least most word is =
    let a = and_parts _ _ is in
    let b = and_parts _ _ a.0 in
    (leb-true _ _ b.1, leb-true _ _ a.1)

numbers_within : (words : List (List ℕ)) → list_all (is_number 0 0xFF) words ≡ true → AllByRecursion (λ bank. bank ≤ 0xFF) (map number_of words)
numbers_within [] h = tt
numbers_within (word ∷ words) h =
    let parts = and_parts (is_number 0 0xFF word) (list_all (is_number 0 0xFF) words) h in
    ((number_within 0 0xFF word parts.0).1, numbers_within words parts.1)

banks_keep : (words : List (List ℕ)) (command : Command) → banks_of words ≡ Ok command → IsCommand true command
banks_keep words command e =
    let count = err_or _ _ _ command e in
    let numbers = err_or _ _ _ command count.1 in
    let twice = err_or _ _ _ command numbers.1 in
    let bounds = and_parts _ _ (not_false _ count.0) in
    let some : 1 ≤ length words = leb-true _ _ bounds.0 in
    let few : length words ≤ 256 = leb-true _ _ bounds.1 in
    let same : length (map number_of words) ≡ length words = length-map words number_of in
    let keep : IsCommand true (Banks (map number_of words)) =
    (refl, omega arith, omega arith, numbers_within words (not_false _ numbers.0), twice.0) in
    subst (IsCommand true) (same_ok (Ok (Banks (map number_of words))) (Banks (map number_of words)) command refl twice.1) keep

load_keep : (words : List (List ℕ)) (command : Command) → list_all is_word words ≡ true → load_of words ≡ Ok command → IsCommand false command
unfolding is_word
load_keep [] command are e = let clash : failed WrongCount ≡ Ok command = e in absurd cc
load_keep (path ∷ []) command are e =
    let word = (and_parts _ _ are).0 in
    let sizes = and_parts _ _ (and_parts _ _ word).0 in
    let keep : IsCommand false (Load path) = (refl, leb-true _ _ sizes.0, leb-true _ _ sizes.1, word) in
    subst (IsCommand false) (same_ok (Ok (Load path)) (Load path) command refl e) keep
load_keep (path ∷ more ∷ words) command are e = let clash : failed WrongCount ≡ Ok command = e in absurd cc

bytes_keep : (words : List (List ℕ)) (command : Command) → bytes_of words ≡ Ok command → IsCommand false command
bytes_keep [] command e = let clash : failed WrongCount ≡ Ok command = e in absurd cc
bytes_keep (user ∷ []) command e = let clash : failed WrongCount ≡ Ok command = e in absurd cc
bytes_keep (user ∷ segment ∷ []) command e = let clash : failed WrongCount ≡ Ok command = e in absurd cc
bytes_keep (user ∷ segment ∷ at ∷ []) command e = let clash : failed WrongCount ≡ Ok command = e in absurd cc
bytes_keep (user ∷ segment ∷ at ∷ size ∷ []) command e =
    let found : Command = Bytes (number_of user) (number_of segment) (number_of at) (number_of size) in
    let tests = or_err (are_bytes_numbers user segment at size) _ _ command e in
    let a = and_parts _ _ tests.0 in
    let b = and_parts _ _ a.0 in
    let c = and_parts _ _ b.0 in
    let sized = number_within 1 0x100 size a.1 in
    let keep : IsCommand false found =
    (refl, (number_within 0 0xFFFF user c.0).1, (number_within 0 0xFFFF segment c.1).1, (number_within 0 0xFFFFFFFF at b.1).1, sized.0, sized.1) in
    subst (IsCommand false) (same_ok (Ok found) found command refl tests.1) keep
bytes_keep (user ∷ segment ∷ at ∷ size ∷ more ∷ words) command e = let clash : failed WrongCount ≡ Ok command = e in absurd cc

jsl_keep : (words : List (List ℕ)) (command : Command) → jsl_of words ≡ Ok command → IsCommand false command
jsl_keep [] command e = let clash : failed WrongCount ≡ Ok command = e in absurd cc
jsl_keep (user ∷ []) command e = let clash : failed WrongCount ≡ Ok command = e in absurd cc
jsl_keep (user ∷ segment ∷ []) command e = let clash : failed WrongCount ≡ Ok command = e in absurd cc
jsl_keep (user ∷ segment ∷ at ∷ []) command e =
    let found : Command = Jsl (number_of user) (number_of segment) (number_of at) in
    let tests = or_err (are_jsl_numbers user segment at) _ _ command e in
    let a = and_parts _ _ tests.0 in
    let b = and_parts _ _ a.0 in
    let keep : IsCommand false found = (refl, (number_within 0 0xFFFF user b.0).1, (number_within 0 0xFFFF segment b.1).1, (number_within 0 0xFFFFFFFF at a.1).1) in
    subst (IsCommand false) (same_ok (Ok found) found command refl tests.1) keep
jsl_keep (user ∷ segment ∷ at ∷ more ∷ words) command e = let clash : failed WrongCount ≡ Ok command = e in absurd cc

poke_keep : (words : List (List ℕ)) (command : Command) → poke_of words ≡ Ok command → IsCommand false command
poke_keep [] command e = let clash : failed WrongCount ≡ Ok command = e in absurd cc
poke_keep (user ∷ []) command e = let clash : failed WrongCount ≡ Ok command = e in absurd cc
poke_keep (user ∷ segment ∷ []) command e = let clash : failed WrongCount ≡ Ok command = e in absurd cc
poke_keep (user ∷ segment ∷ at ∷ []) command e = let clash : failed WrongCount ≡ Ok command = e in absurd cc
poke_keep (user ∷ segment ∷ at ∷ byte ∷ []) command e =
    let found : Command = Poke (number_of user) (number_of segment) (number_of at) (number_of byte) in
    let tests = or_err (are_poke_numbers user segment at byte) _ _ command e in
    let a = and_parts _ _ tests.0 in
    let b = and_parts _ _ a.0 in
    let c = and_parts _ _ b.0 in
    let keep : IsCommand false found =
    (refl, (number_within 0 0xFFFF user c.0).1, (number_within 0 0xFFFF segment c.1).1, (number_within 0 0xFFFFFFFF at b.1).1, (number_within 0 0xFF byte a.1).1) in
    subst (IsCommand false) (same_ok (Ok found) found command refl tests.1) keep
poke_keep (user ∷ segment ∷ at ∷ byte ∷ more ∷ words) command e = let clash : failed WrongCount ≡ Ok command = e in absurd cc

shut_down_keep : (words : List (List ℕ)) (command : Command) → shut_down_of words ≡ Ok command → IsCommand false command
shut_down_keep [] command e = let clash : failed WrongCount ≡ Ok command = e in absurd cc
shut_down_keep (user ∷ []) command e = let clash : failed WrongCount ≡ Ok command = e in absurd cc
shut_down_keep (user ∷ manner ∷ []) command e =
    let found : Command = ShutDown (number_of user) (bytes_eq manner (codes "keep")) in
    let tests = or_err (is_number 0 0xFFFF user && is_manner manner) _ _ command e in
    let keep : IsCommand false found = (refl, (number_within 0 0xFFFF user (and_parts _ _ tests.0).0).1) in
    subst (IsCommand false) (same_ok (Ok found) found command refl tests.1) keep
shut_down_keep (user ∷ manner ∷ more ∷ words) command e = let clash : failed WrongCount ≡ Ok command = e in absurd cc

-- ---- the other commands

given : {A : Type 0} (of : A → Command) (read : Result A ScriptCause) (command : Command) → given_by of read ≡ Ok command → (x : A) × (read ≡ Ok x) × (command ≡ of x)
given of (Ok x) command e = (x, refl, sym (same_ok (Ok (of x)) (of x) command refl e))
given of (Err cause) command e = let clash : failed cause ≡ Ok command = e in absurd cc

abbrev good : {A : Type 0} → A → Result A ScriptCause
good x = Ok x

abbrev bad : {A : Type 0} → Result A ScriptCause
bad = Err BadNumber

ok_or : {A : Type 0} (b : Bool) (x y : A) → cond b (good x) bad ≡ good y → (b ≡ true) × (x ≡ y)
ok_or true x y e = (refl, cc)
ok_or false x y e = absurd cc

one_within : (most : ℕ) (words : List (List ℕ)) (n : ℕ) → one_number most words ≡ Ok n → n ≤ most
unfolding one_number
one_within most [] n e = absurd cc
one_within most (word ∷ []) n e =
    let is = ok_or (is_number 0 most word) (number_of word) n e in
    omega (arith, (number_within 0 most word is.0).1, is.1)
one_within most (word ∷ more ∷ words) n e = absurd cc

two_within : (most other : ℕ) (words : List (List ℕ)) (n : ℕ × ℕ) → two_numbers most other words ≡ Ok n → (n.0 ≤ most) × (n.1 ≤ other)
unfolding two_numbers
two_within most other [] n e = absurd cc
two_within most other (word ∷ []) n e = absurd cc
two_within most other (word ∷ second ∷ []) n e =
    let is = ok_or (is_number 0 most word && is_number 0 other second) (number_of word, number_of second) n e in
    let both = and_parts _ _ is.0 in
    let one : number_of word ≡ n.0 = ap (λ (m : ℕ × ℕ). m.0) is.1 in
    let two : number_of second ≡ n.1 = ap (λ (m : ℕ × ℕ). m.1) is.1 in
    (omega (arith, (number_within 0 most word both.0).1, one), omega (arith, (number_within 0 other second both.1).1, two))
two_within most other (word ∷ second ∷ more ∷ words) n e = absurd cc

handle_within : (n : ℕ) → n ≤ 0xFFFFFF → IsHandle (handle_of n)
handle_within n le = (omega (arith, le), omega arith)

alloc_keep : (words : List (List ℕ)) (command : Command) → alloc_of words ≡ Ok command → IsCommand false command
alloc_keep [] command e = let clash : failed WrongCount ≡ Ok command = e in absurd cc
alloc_keep (size ∷ []) command e = let clash : failed WrongCount ≡ Ok command = e in absurd cc
alloc_keep (size ∷ attributes ∷ []) command e = let clash : failed WrongCount ≡ Ok command = e in absurd cc
alloc_keep (size ∷ attributes ∷ address ∷ []) command e =
    let found : Command = Alloc (number_of size) (number_of attributes) (number_of address) in
    let tests = or_err (are_alloc_numbers size attributes address) _ _ command e in
    let a = and_parts _ _ tests.0 in
    let b = and_parts _ _ a.0 in
    let bits = and_parts _ _ b.1 in
    let sized = number_within 1 0x1000000 size b.0 in
    let keep : IsCommand false found = (refl, sized.0, sized.1, (number_within 0 0xFFFF attributes bits.0).1, bits.1, (number_within 0 0xFFFFFF address a.1).1) in
    subst (IsCommand false) (same_ok (Ok found) found command refl tests.1) keep
alloc_keep (size ∷ attributes ∷ address ∷ more ∷ words) command e = let clash : failed WrongCount ≡ Ok command = e in absurd cc

room_keep : (words : List (List ℕ)) (command : Command) → room_of words ≡ Ok command → IsCommand false command
room_keep [] command e = subst (IsCommand false) (same_ok (Ok Room) Room command refl e) refl
room_keep (word ∷ words) command e = let clash : failed WrongCount ≡ Ok command = e in absurd cc

compact_keep : (words : List (List ℕ)) (command : Command) → compact_of words ≡ Ok command → IsCommand false command
compact_keep [] command e = subst (IsCommand false) (same_ok (Ok Compact) Compact command refl e) refl
compact_keep (word ∷ words) command e = let clash : failed WrongCount ≡ Ok command = e in absurd cc

words_keep : (name : CommandName) (words : List (List ℕ)) (command : Command) → list_all is_word words ≡ true → words_command name words ≡ Ok command → IsCommand (is_banks name) command
unfolding words_command
words_keep names.Banks words command are e = banks_keep words command e
words_keep names.Load words command are e = load_keep words command are e
words_keep names.LoadSegment words command are e =
    let is = given (λ n. LoadSegment n.0 n.1) (two_numbers 0xFFFF 0xFFFF words) command e in
    let within = two_within 0xFFFF 0xFFFF words is.0 is.1 in
    subst (IsCommand false) (sym is.2) (refl, within.0, within.1)
words_keep names.UnloadSegment words command are e =
    let is = given (λ n. UnloadSegment n.0 n.1) (two_numbers 0xFFFF 0xFFFF words) command e in
    let within = two_within 0xFFFF 0xFFFF words is.0 is.1 in
    subst (IsCommand false) (sym is.2) (refl, within.0, within.1)
words_keep names.Jsl words command are e = jsl_keep words command e
words_keep names.ShutDown words command are e = shut_down_keep words command e
words_keep names.Restart words command are e =
    let is = given Restart (one_number 0xFFFF words) command e in
    subst (IsCommand false) (sym is.2) (refl, one_within 0xFFFF words is.0 is.1)
words_keep names.Purge words command are e =
    let is = given Purge (one_number 0xFFFF words) command e in
    subst (IsCommand false) (sym is.2) (refl, one_within 0xFFFF words is.0 is.1)
words_keep names.Poke words command are e = poke_keep words command e
words_keep names.Bytes words command are e = bytes_keep words command e
words_keep names.Where words command are e =
    let is = given Where (one_number 0xFFFFFF words) command e in
    subst (IsCommand false) (sym is.2) (refl, one_within 0xFFFFFF words is.0 is.1)
words_keep names.Info words command are e =
    let is = given (λ n. Info n.0 n.1) (two_numbers 0xFFFF 0xFFFF words) command e in
    let within = two_within 0xFFFF 0xFFFF words is.0 is.1 in
    subst (IsCommand false) (sym is.2) (refl, within.0, within.1)
words_keep names.Alloc words command are e = alloc_keep words command e
words_keep names.Free words command are e =
    let is = given (λ n. Free (handle_of n)) (one_number 0xFFFFFF words) command e in
    subst (IsCommand false) (sym is.2) (refl, handle_within is.0 (one_within 0xFFFFFF words is.0 is.1))
words_keep names.Lock words command are e =
    let is = given (λ n. Lock (handle_of n)) (one_number 0xFFFFFF words) command e in
    subst (IsCommand false) (sym is.2) (refl, handle_within is.0 (one_within 0xFFFFFF words is.0 is.1))
words_keep names.Unlock words command are e =
    let is = given (λ n. Unlock (handle_of n)) (one_number 0xFFFFFF words) command e in
    subst (IsCommand false) (sym is.2) (refl, handle_within is.0 (one_within 0xFFFFFF words is.0 is.1))
words_keep names.Level words command are e =
    let is = given (λ n. Level (handle_of n.0) n.1) (two_numbers 0xFFFFFF 3 words) command e in
    let within = two_within 0xFFFFFF 3 words is.0 is.1 in
    subst (IsCommand false) (sym is.2) (refl, handle_within is.0.0 within.0, within.1)
words_keep names.Handle words command are e =
    let is = given (λ n. StateOf (handle_of n)) (one_number 0xFFFFFF words) command e in
    subst (IsCommand false) (sym is.2) (refl, handle_within is.0 (one_within 0xFFFFFF words is.0 is.1))
words_keep names.Room words command are e = room_keep words command e
words_keep names.Compact words command are e = compact_keep words command e

in_turn : (banks is_first : Bool) → cond banks is_first (not is_first) ≡ true → is_first ≡ banks
in_turn true true e = refl
in_turn true false e = absurd cc
in_turn false true e = absurd cc
in_turn false false e = refl

named_keeps : (is_first : Bool) (name : Option CommandName) (words : List (List ℕ)) (command : Command) → list_all is_word words ≡ true
    → named_command is_first name words ≡ Ok command → IsCommand is_first command
named_keeps is_first None words command are e = let clash : failed UnknownCommand ≡ Ok command = e in absurd cc
named_keeps is_first (Some name) words command are e =
    let turn = or_err (is_in_turn name is_first) BanksFirst (words_command name words) command e in
    subst (λ (first : Bool). IsCommand first command) (sym (in_turn (is_banks name) is_first turn.0)) (words_keep name words command are turn.1)

command_keeps : (is_first : Bool) (words : List (List ℕ)) (command : Command) → list_all is_word words ≡ true
    → command_of is_first words ≡ Ok command → IsCommand is_first command
command_keeps is_first [] command are e = let clash : failed UnknownCommand ≡ Ok command = e in absurd cc
command_keeps is_first (name ∷ words) command are e =
    named_keeps is_first (command_named name) words command (and_parts (is_word name) (list_all is_word words) are).1 e

line_keeps : (is_first : Bool) (line : List ℕ) (command : Command) → line_command is_first line ≡ Ok command → IsCommand is_first command
unfolding line_command
line_keeps is_first line command e =
    let formed = or_err (is_well_formed line) BadWord (command_of is_first (words_of line)) command e in
    command_keeps is_first (words_of line) command (and_parts _ _ formed.0).1 formed.1

Give-keep : (is_first : Bool) (lines : List (List ℕ)) (commands : List Command) → Give is_first lines commands → AreCommands is_first commands
Give-keep is_first [] [] give = tt
Give-keep is_first [] (c ∷ commands) give = absurd give
Give-keep is_first (line ∷ lines) [] give = absurd give
Give-keep is_first (line ∷ lines) (c ∷ commands) give = (line_keeps is_first line c give.0, Give-keep false lines commands give.1)

-- the values of a script's commands lie in their bounds, and `banks` is its first command and no later one
pub IsScript-keeps : (text : List ℕ) (commands : List Command) → IsScript text commands → AreCommands true commands
IsScript-keeps text commands script = Give-keep true (written (lines_of text)) commands script.give

none_other : (n : ℕ) (numbers : List ℕ) (k : ℕ) → list_any (λ other. n == other) numbers ≡ false → k < length numbers → n ≢ slice_index numbers k
none_other n [] k none less same = omega arith
none_other n (m ∷ numbers) zero none less same =
    let not_first = (or_parts (n == m) (list_any (λ other. n == other) numbers) none).0 in
    eqb-false n m not_first same
none_other n (m ∷ numbers) (suc k) none less same =
    none_other n numbers k (or_parts (n == m) (list_any (λ other. n == other) numbers) none).1 (omega arith) same

-- numbers of which none occurs twice are distinct
pub stands_twice-distinct : (numbers : List ℕ) → stands_twice numbers ≡ false → AreDistinctTo (length numbers) numbers
unfolding stands_twice
stands_twice-distinct [] none i j less inside same = omega arith
stands_twice-distinct (n ∷ numbers) none zero zero less inside same = omega arith
stands_twice-distinct (n ∷ numbers) none zero (suc j) less inside same =
    none_other n numbers j (or_parts (list_any (λ other. n == other) numbers) (stands_twice numbers) none).0 (omega arith) same
stands_twice-distinct (n ∷ numbers) none (suc i) zero less inside same = omega arith
stands_twice-distinct (n ∷ numbers) none (suc i) (suc j) less inside same =
    stands_twice-distinct numbers (or_parts (list_any (λ other. n == other) numbers) (stands_twice numbers) none).1 i j (omega arith) (omega arith) same
