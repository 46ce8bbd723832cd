-- The sum of the contents of active segments.
use Rattle.std.proofs.Common.{◌≡◌, ℕ, zero, suc, ◌+◌, ◌%◌, ◌^◌, ◌<◌, ◌≤◌, List, [], length, take, refl, ap, subst, ◌∙◌, arith, get_or}
use Rattle.std.specs.Prelude.{sum}
use Rattle.std.proofs.lemmas.List.Sums.{sum_by_more}
use Rattle.omf_io.specs.Files.{FileMap}
use Rattle.loader_machine.specs.Rule.{RoomRule}
use Rattle.loader_machine.specs.declared.faults.LoaderFault.{LoaderFault}
use Rattle.loader_machine.specs.declared.seen.Presence.{Presence}
use Rattle.loader_machine.specs.State.{Machine, first_id}
use Rattle.loader_machine.specs.Commands.{Info, Bytes, SegmentIs, Shown, Refused}
use Rattle.loader_agrees.specs.Agrees.{Loaded, Met}
use Rattle.workload.specs.Work.{IsShown, Whole, IsHidden, IsNone, AddUp, IsSum}

-- ---- bytes

-- one byte more
pub sum_more : (so_far s i : ℕ) (bytes : List ℕ) → i < length bytes → s ≡ (so_far + sum (take i bytes)) % 2 ^ 32
    → (s + get_or bytes i 0) % 2 ^ 32 ≡ (so_far + sum (take (i + 1) bytes)) % 2 ^ 32
sum_more so_far s i bytes within is =
    ap (λ (k : ℕ). (k + get_or bytes i 0) % 2 ^ 32) is
    ∙ (let all : sum (take (i + 1) bytes) ≡ sum (take i bytes) + get_or bytes i 0 = sum_by_more (λ (x : ℕ). x) bytes i 0 within in omega (arith, all))

-- ---- one segment

pub is_whole : (held : FileMap) (state : Machine) (number size kind : ℕ) (presence : Presence) (bytes : List ℕ) (loader : Loaded)
    → Met RoomRule held state (Info first_id number) (SegmentIs presence size kind) loader → Met RoomRule held state (Bytes first_id number 0 size) (Shown bytes) loader → IsShown held state number bytes
is_whole held state number size kind presence bytes loader info shown = Whole presence size kind (info.0, info.1) (shown.0, shown.1)

pub is_hidden : (held : FileMap) (state : Machine) (number size kind : ℕ) (presence : Presence) (fault : LoaderFault) (bytes : List ℕ) (loader : Loaded)
    → Met RoomRule held state (Info first_id number) (SegmentIs presence size kind) loader → Met RoomRule held state (Bytes first_id number 0 size) (Refused fault) loader → bytes ≡ [] → IsShown held state number bytes
is_hidden held state number size kind presence fault bytes loader info hidden none = IsHidden presence size kind fault (info.0, info.1) (hidden.0, hidden.1) none

pub is_none : (held : FileMap) (state : Machine) (number : ℕ) (fault : LoaderFault) (bytes : List ℕ) (loader : Loaded)
    → Met RoomRule held state (Info first_id number) (Refused fault) loader → bytes ≡ [] → IsShown held state number bytes
is_none held state number fault bytes loader info none = IsNone fault (info.0, info.1) none

-- ---- all of them

-- the segments from 1 to before a number were added up
pub record SumLeft (held : FileMap) (state : Machine) (count number n : ℕ) : Type 0 where
  pub more : ℕ
  pub left : number + more ≡ count + 1
  pub total : ℕ
  pub here : n ≡ total % 2 ^ 32
  pub whole : (rest : ℕ) → AddUp held state number more rest → AddUp held state 1 count (total + rest)

pub sum_start : (held : FileMap) (state : Machine) (count : ℕ) → SumLeft held state count 1 0
sum_start held state count = record { more = count; left = omega arith; total = 0; here = refl; whole = λ rest all. let same : rest ≡ 0 + rest = omega arith in subst (λ (k : ℕ). AddUp held state 1 count k) same all }

pub sum_step : (held : FileMap) (state : Machine) (count number n new : ℕ) (bytes : List ℕ) → SumLeft held state count number n → number < count + 1
    → IsShown held state number bytes → new ≡ (n + sum bytes) % 2 ^ 32 → SumLeft held state count (number + 1) new
sum_step held state count number n new bytes so_far within shown is = go so_far.more so_far.left so_far.whole
  where
    go : (more : ℕ) → number + more ≡ count + 1 → ((rest : ℕ) → AddUp held state number more rest → AddUp held state 1 count (so_far.total + rest)) → SumLeft held state count (number + 1) new
    go zero left whole = absurd (omega (arith, left, within))
    go (suc more) left whole = record {
      more = more;
      left = omega (arith, left);
      total = so_far.total + sum bytes;
      here = is ∙ ap (λ (k : ℕ). (k + sum bytes) % 2 ^ 32) so_far.here ∙ omega arith;
      whole = λ rest all. let same : so_far.total + (sum bytes + rest) ≡ so_far.total + sum bytes + rest = omega arith in
          subst (λ (k : ℕ). AddUp held state 1 count k) same (whole (sum bytes + rest) (bytes, rest, shown, all, refl));
    }

pub sum_end : (held : FileMap) (state : Machine) (count number n : ℕ) → SumLeft held state count number n → count + 1 ≤ number → IsSum held state count n
sum_end held state count number n so_far done = go so_far.more so_far.left so_far.whole
  where
    go : (more : ℕ) → number + more ≡ count + 1 → ((rest : ℕ) → AddUp held state number more rest → AddUp held state 1 count (so_far.total + rest)) → IsSum held state count n
    go zero left whole =
        let same : so_far.total + 0 ≡ so_far.total = omega arith in
        (so_far.total, subst (λ (k : ℕ). AddUp held state 1 count k) same (whole 0 refl), so_far.here)
    go (suc more) left whole = absurd (omega (arith, left, done))
