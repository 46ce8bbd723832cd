-- Reads one after the other.
use Rattle.std.proofs.Common.{◌≡◌, ℕ, ◌≤◌, List, ◌++◌, length, take, Option, None, Some, Result, Ok, Err, true, false, MatchResult, IfOk, IfSome, sym, ap, ◌∙◌, subst, arith}
use Rattle.std.specs.Result.{is_ok}
use Rattle.std.proofs.Math.Seq.{take-append-le}
use Rattle.std.proofs.lemmas.List.{take-take}
use Rattle.std.specs.Io.KnownBytes.{Consumes}

-- what was read first, and then all that was left, is all
pub Consumes-rest : (a b : Option (List ℕ)) (first all : List ℕ) → Consumes a b first → IfSome b (λ rest. all ≡ first ++ rest) → IfSome a (λ left. all ≡ left)
Consumes-rest None b first all before read = tt
Consumes-rest (Some x) None first all before read = absurd before
Consumes-rest (Some x) (Some y) first all before read = read ∙ sym before

-- a prefix of a buffer that is as long as the list whose place it took
pub take-front : (n size : ℕ) (buffer rest : List ℕ) → n ≤ length buffer → length buffer ≤ size → take n (take size (buffer ++ rest)) ≡ take n buffer
take-front n size buffer rest few fits = let within : n ≤ size = omega arith in take-take n size (buffer ++ rest) within ∙ take-append-le n buffer rest few

-- a value whose errors were mapped is the call's
pub MatchResult-kept : {T E D : Type 0} (r : Result T E) (mapped : Result T D) (value : T) (Q : E → Type 0) (P : T → Type 0)
    → mapped ≡ Ok value → is_ok mapped ≡ is_ok r → MatchResult r (λ x. mapped ≡ Ok x) Q → IfOk r P → P value
MatchResult-kept (Ok x) mapped value Q P came alike same holds = let e : x ≡ value = cc in subst P e holds
MatchResult-kept (Err e) mapped value Q P came alike same holds = let wrong : true ≡ false = sym (ap is_ok came) ∙ alike in cc
