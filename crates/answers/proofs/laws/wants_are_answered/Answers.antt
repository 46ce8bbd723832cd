use Rattle.answers.proofs.Rooms.{room_or_none, slide_ends}
use Rattle.answers.proofs.laws.wants_are_answered.Goals as goal

pub returns : goal.returns
returns c = record {
  room = λ banks slots want apart settled some. room_or_none banks slots want apart settled some;
  slides = λ banks slots apart settled. slide_ends banks slots apart settled;
}
