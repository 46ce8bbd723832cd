-- Success.
use Rattle.std.specs.Prelude.{Result, Ok, Err, OnOk, IfOk}

-- what holds after success, where another thing does
pub then_ok : {A E P Q : Type 0} (r : Result A E) → (P → Q) → OnOk r P → OnOk r Q
then_ok (Ok a) f p = f p
then_ok (Err e) f p = p

pub then_if : {A E : Type 0} {P Q : A → Type 0} (r : Result A E) → ((a : A) → P a → Q a) → IfOk r P → IfOk r Q
then_if (Ok a) f p = f a p
then_if (Err e) f p = p
