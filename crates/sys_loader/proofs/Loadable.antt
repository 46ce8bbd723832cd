-- Why a dynamic segment can't be made active, check by check.
use Rattle.std.proofs.Common.{◌≡◌, ℕ, true, false, Option, Some, None, refl, ◌∙◌}
use Rattle.omf_format.specs.Header.{is_dynamic}
use Rattle.loader_machine.specs.declared.faults.LoaderFault.{LoaderFault}
use Rattle.loader_machine.specs.declared.faults.LoaderFault.TheVariants.{Static}
use Rattle.loader_machine.specs.declared.seen.SegmentHead.{SegmentHead}
use Rattle.loader_machine.specs.State.{UserSeen}
use Rattle.loader_machine.specs.Refusals.{Refuse, of_user, of_running, of_segment, of_dynamic, load_segment_refusal}
use Rattle.loader_agrees.specs.Checks.{PassesRunning, StopsRunning, PassesSegment, StopsSegment}
use Rattle.sys_loader.proofs.Unloading.{dynamic_none, dynamic_passes}

module _ (number : ℕ) where
  abbrev pub after_segment : SegmentHead → Refuse
  after_segment head = of_dynamic head None

  abbrev pub after_running : UserSeen → Refuse
  after_running seen = of_segment seen number after_segment

  load_is : (user : Option UserSeen) → load_segment_refusal user number ≡ of_user user (λ seen. of_running seen (after_running seen))
  unfolding load_segment_refusal
  load_is user = refl

  pub stops_running : (user : Option UserSeen) (fault : LoaderFault) → StopsRunning user fault → load_segment_refusal user number ≡ Some fault
  stops_running user fault stops = load_is user ∙ stops after_running

  module _ (user : Option UserSeen) (seen : UserSeen) (runs : PassesRunning user seen) where
    pub stops_segment : (fault : LoaderFault) → StopsSegment seen number fault → load_segment_refusal user number ≡ Some fault
    stops_segment fault stops = load_is user ∙ runs after_running ∙ stops after_segment

    module _ (head : SegmentHead) (has : PassesSegment seen number head) where
      to_segment : load_segment_refusal user number ≡ of_dynamic head None
      to_segment = load_is user ∙ runs after_running ∙ has after_segment

      pub stops_dynamic : is_dynamic head.kind ≡ false → load_segment_refusal user number ≡ Some Static
      stops_dynamic is = to_segment ∙ dynamic_none head None is

      pub passes : is_dynamic head.kind ≡ true → load_segment_refusal user number ≡ None
      passes is = to_segment ∙ dynamic_passes head None is
