-- What becomes of a place that isn't far.
use Rattle.std.proofs.Common.{◌≡◌, ℕ, ℤ, ◌+◌, ◌-◌, ◌/◌, ◌%◌, ◌^◌, Bool, true, false, cond, not, nat_le, List, Option, Some, None, Result, Ok, Err}
use Rattle.std.specs.Prelude.{◌&&◌, ◌||◌, ◌==◌, nat_lt}
use Rattle.omf_format.specs.Value.{is_unshifted}
use Rattle.load_meaning.specs.declared.table.Target.{Target}
use Rattle.link_meaning.specs.declared.fault.LinkCause.{LinkCause}
use Rattle.link_meaning.specs.Fitting as meaning
use Rattle.link_meaning.specs.Fitting.{place_fit}
use Rattle.link_meaning.specs.laws.Steps.{or_does_not_fit}
use Rattle.link_content.specs.declared.fit.FitOutcome.{FitOutcome}
use Rattle.link_content.specs.declared.fit.FitOutcome.TheVariants.{Number, Place, Entry}
use Rattle.link_content.specs.Fits.{to_fit, fit_with_room}

-- what needs no entry needs no room
pub reported_answer : (targets : List Target) (r : Result FitOutcome LinkCause) (o : Option meaning.Fit) → to_fit r ≡ or_does_not_fit o → ((t : Target) → o ≡ Some (meaning.Entry t) → ⊥) → fit_with_room targets r ≡ or_does_not_fit o
reported_answer targets (Ok (Number n)) o e plain = e
reported_answer targets (Ok (Place segment offset shift)) o e plain = e
reported_answer targets (Ok (Entry t)) o e plain = by_fit o e plain
  where
    by_fit : (x : Option meaning.Fit) → to_fit (Ok (Entry t)) ≡ or_does_not_fit x → ((u : Target) → x ≡ Some (meaning.Entry u) → ⊥) → fit_with_room targets (Ok (Entry t)) ≡ or_does_not_fit x
    by_fit None e plain = absurd cc
    by_fit (Some f) e plain = absurd (plain t cc)
reported_answer targets (Err cause) o e plain = e

-- a place that isn't far needs none
pub place_plain : (f : meaning.PatchPlace) (code count n segment offset : ℕ) (shift : ℤ) (t : Target) → place_fit f code count n segment offset shift ≡ Some (meaning.Entry t) → ⊥
place_plain f code count n segment offset shift t e =
    let near = segment == f.own && is_unshifted shift in
    let from = f.place + n in
    go (code == 0xEB || code == 0xF3) (code == 0xED) (code == 0xEE) (near && not (f.bank_size == 0)) near (nat_le from (offset + 256 ^ count / 2) && nat_lt offset (from + 256 ^ count / 2))
    ((offset + 256 ^ count - from) % 256 ^ count) e
  where
    go : (a b c d g h : Bool) (m : ℕ) → cond a (Some (meaning.Place segment offset shift)) (cond b (cond d (Some (meaning.Place segment offset shift)) None) (cond c (cond g (cond h (Some (meaning.Number m)) None) None) None)) ≡ Some (meaning.Entry t) → ⊥
    go true b c d g h m e = cc
    go false true c true g h m e = cc
    go false true c false g h m e = cc
    go false false true d true true m e = cc
    go false false true d true false m e = cc
    go false false true d false h m e = cc
    go false false false d g h m e = cc
