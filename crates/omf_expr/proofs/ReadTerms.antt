-- Reading terms up to the end of an expression: what is left goes on as the whole does.
use Rattle.std.proofs.Common.{◌≡◌, ℕ, zero, suc, ◌+◌, ◌-◌, ◌<◌, ◌≤◌, List, length, Some, None, Ok, Err, refl, sym, ◌∙◌, arith}
use Rattle.omf_format.specs.declared.expression.ExprFault.{ExprFault}
use Rattle.omf_format.specs.Expression.{term_step, read_from}
use Rattle.omf_format.specs.laws.TermSteps.{read_all}
use Rattle.omf_format.specs.laws.ExpressionLaws.{read-term, read-end, read-wrong}

-- the bytes left, where this many values are pending, are read as the whole is
pub record Reads (lab_len : ℕ) (bytes left : List ℕ) (pending : ℕ) : Type 0 where
  pub fuel : ℕ
  pub enough : length left ≤ fuel
  pub within : length left ≤ length bytes
  pub room : pending ≤ 64
  pub same : read_from (suc fuel) lab_len (length bytes - length left) pending left ≡ read_all lab_len bytes

pub reads_begin : (l : ℕ) (bytes : List ℕ) → Reads l bytes bytes 0
reads_begin l bytes =
    let place : length bytes - length bytes ≡ 0 = omega arith in
    let fuel : suc (length bytes) ≡ length bytes + 1 = omega arith in
    record { fuel = length bytes; enough = omega arith; within = omega arith; room = omega arith; same = rw (place, fuel) refl }

pub reads_more : (l : ℕ) (bytes left : List ℕ) (pending following : ℕ) (more : List ℕ) → Reads l bytes left pending → term_step l (length bytes - length left) pending left ≡ Ok (Some following, more)
    → length more < length left → following ≤ 64 → Reads l bytes more following
reads_more l bytes left pending following more reads step shorter room = by_fuel reads.fuel reads.enough reads.within reads.same
  where
    by_fuel : (fuel : ℕ) → length left ≤ fuel → length left ≤ length bytes → read_from (suc fuel) l (length bytes - length left) pending left ≡ read_all l bytes → Reads l bytes more following
    by_fuel zero enough within same = absurd (omega arith)
    by_fuel (suc n) enough within same =
        let place : length bytes - length left + (length left - length more) ≡ length bytes - length more = omega arith in
        record { fuel = n; enough = omega arith; within = omega arith; room = room; same = rw (← place) (sym (read-term l (suc n) (length bytes - length left) pending following left more step) ∙ same) }

pub reads_end : (l : ℕ) (bytes left : List ℕ) (pending : ℕ) (rest : List ℕ) → Reads l bytes left pending → term_step l (length bytes - length left) pending left ≡ Ok (None, rest) → read_all l bytes ≡ Ok rest
reads_end l bytes left pending rest reads step = sym reads.same ∙ read-end l reads.fuel (length bytes - length left) pending left rest step

pub reads_wrong : (l : ℕ) (bytes left : List ℕ) (pending : ℕ) (fault : ExprFault) → Reads l bytes left pending → term_step l (length bytes - length left) pending left ≡ Err fault → read_all l bytes ≡ Err fault
reads_wrong l bytes left pending fault reads step = sym reads.same ∙ read-wrong l reads.fuel (length bytes - length left) pending left fault step
