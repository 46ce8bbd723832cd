-- What a program needs beside its blocks.
use Rattle.std.specs.Prelude.{◌≡◌, All, List, length, map, Option}
use Rattle.omf_format.specs.File.{Segment}
use Rattle.iigs_meaning.specs.declared.handles.Handle.{Handle}
use Rattle.iigs_meaning.specs.Fits.{IsWant}
use Rattle.loader_machine.specs.Heads.{head_of, wants_of}
use Rattle.loader_machine.specs.Steps.{held_of_heads}
use Rattle.loader_users.specs.declared.plan.LoadPlan.{LoadPlan}

-- what a program needs beside its blocks
pub record IsPlan (segments : List Segment) (plan : LoadPlan) : Type 0 where
  pub heads : map (λ s. s.head) plan.segments.items ≡ map head_of segments
  pub wants' : plan.wants.items ≡ wants_of (map head_of segments)
  pub are : All IsWant plan.wants.items
  pub handles' : length plan.handles.items ≡ length plan.wants.items
  pub places' : length plan.places ≡ length segments

-- the handles of segments whose static ones have these, in order
abbrev pub spread_handles : List Segment → List Handle → List (Option Handle)
spread_handles segments hs = map (λ held. held.handle) (held_of_heads (map head_of segments) hs)
