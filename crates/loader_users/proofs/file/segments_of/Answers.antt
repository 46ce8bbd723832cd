use Rattle.std.proofs.Common.{◌≡◌, List, ◌++◌, [], ◌∷◌, map, None, refl, sym, ap, subst, ◌∙◌}
use Rattle.omf_header.specs.View.{fields}
use Rattle.loader_machine.specs.declared.seen.SegmentHead.{SegmentHead}
use Rattle.loader_agrees.specs.Acts.{no_handle_of}
use Rattle.loader_users.specs.declared.user.UserSegment as users
use Rattle.loader_users.proofs.Written.{heads_of, handles_of}
use Rattle.loader_users.proofs.Heading.{head_more, none_more}
use Rattle.loader_users.proofs.file.segments_of.Goals as goal

pub places-init : goal.places-init
places-init c = (
  ap heads_of c.new-segments.ensures.items,
  subst (λ (ss : List users.UserSegment). handles_of ss ≡ map no_handle_of (heads_of ss)) (sym c.new-segments.ensures.items) refl,
)

pub places-preserved : goal.places-preserved
places-preserved c = (
  ap heads_of c.in_ok-push.ensures.items
      ∙ ap (λ (g : SegmentHead). heads_of (c.places.segments.items ++ (record { handle = None; head = g }) ∷ [])) c.head_from-head.ensures
      ∙ head_more c.args.load.now c.places.segments.items c.places.place (fields c.in-Some.header.now) c.places.invariant.0 c.in-Some.ensures,
  subst (λ (ss : List users.UserSegment). handles_of ss ≡ map no_handle_of (heads_of ss)) (sym c.in_ok-push.ensures.items)
      (none_more c.places.segments.items c.head_from-head.result c.places.invariant.1),
)
