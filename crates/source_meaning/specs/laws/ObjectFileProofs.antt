-- Why the object of a source is a file: what its lines leave is sound.
use Rattle.std.proofs.Common.{ℕ, List, [], ◌∷◌, subst}
use Rattle.orca_meaning.specs.Line.{Line}
use Rattle.asm_meaning.specs.Object.{AreSteps}
use Rattle.asm_meaning.specs.State.{State, start}
use Rattle.asm_meaning.specs.laws.ObjectFileLaws.{ended_are_file}
use Rattle.asm_meaning.specs.laws.Sound.{IsSound, IsShort, sound_start}
use Rattle.asm_meaning.specs.laws.StepSound.{step_sound}
use Rattle.source_meaning.specs.Object.{HasLines}
use Rattle.source_meaning.specs.ObjectLaws.{ObjectIsFile}
use Rattle.source_meaning.specs.laws.LinesShort.{AreShortLines, expanded_short}

steps_sound : (state last : State) (lines : List Line) → AreShortLines lines → IsSound state → IsShort state → AreSteps state lines last → IsSound last
steps_sound state last [] short sound few steps = subst IsSound steps sound
steps_sound state last (line ∷ lines) short sound few steps =
    let next = step_sound state steps.0 line short.0 sound few steps.1 in
    steps_sound steps.0 last lines short.1 next.0 next.1 steps.2

pub lines_sound : (source : List ℕ) (macros : List (List ℕ)) (last : State) → HasLines source macros last → IsSound last
lines_sound source macros last has = steps_sound start last has.lines (expanded_short source macros has.lines has.expanded) sound_start tt has.steps

pub object_is_file : ObjectIsFile
object_is_file source macros last has short = ended_are_file last.ended (lines_sound source macros last has).ended short
