use Rattle.std.proofs.Common.{[], ◌∷◌, refl, arith}
use Rattle.omf_format.specs.Super.{Passed, Located}
use Rattle.tool_tests.proofs.every_record.put_short_patches.Goals as goal

-- two pages are passed over, and the next one has two locations
pub put_record-requires-3 : goal.put_record-requires-3
put_record-requires-3 c = (refl, omega arith, record { pages = Passed 2 ∷ Located (1 ∷ 5 ∷ []) ∷ []; each = (omega arith, ((omega arith, omega arith), tt)); text = refl })
