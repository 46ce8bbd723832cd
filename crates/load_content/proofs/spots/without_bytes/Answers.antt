use Rattle.std.proofs.Common.{◌≡◌, ℕ, ◌/◌, ◌^◌, ◌<◌, ◌≤◌, sym, arith}
use Rattle.std.proofs.Math.Nat.{pow-le-pow_right, div-eq_of_lt}
use Rattle.load_content.proofs.spots.without_bytes.Goals as goal

none_left : (n : ℕ) → n ≡ n / 256 ^ 0
none_left n = omega arith

-- after the fourth byte there is none
past : (n i : ℕ) → n < 2 ^ 32 → 4 ≤ i → 0 ≡ n / 256 ^ i
past n i lt le =
    let most : 256 ^ 4 ≤ 256 ^ i = pow-le-pow_right {n = 256} (omega arith) le in
    sym (div-eq_of_lt (omega (arith, lt, most)))

pub returns-in_default : goal.returns-in_default
returns-in_default c = past c.args.number c.args.count c.ranges.number.fits (omega (arith, c.in_default))
