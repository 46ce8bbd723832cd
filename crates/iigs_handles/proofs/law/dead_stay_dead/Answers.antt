use Rattle.iigs_handles.proofs.Dead.{live-iff, dead_is_stale, dead-all, dead_released}
use Rattle.iigs_meaning.specs.Slots.{after_release}
use Rattle.iigs_meaning.specs.Runs.{after_all}
use Rattle.iigs_handles.proofs.law.dead_stay_dead.Goals as goal

pub returns-clause-law : goal.returns-clause-law
returns-clause-law g c = record {
  live = live-iff;
  stale = dead_is_stale;
  kept = dead-all;
  released = dead_released;
}

pub returns-clause-released : goal.returns-clause-released
returns-clause-released g c slots h calls live =
    dead_is_stale (after_all (after_release slots h) calls) h (dead-all (after_release slots h) h calls (dead_released slots h live))
