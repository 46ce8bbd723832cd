use Rattle.sys_loader.proofs.dynamic.place_segment.Goals as goal

pub place_again-requires : goal.place_again-requires
place_again-requires c = record { empty = c.requires.empty c.in-Some.h c.in-Some.is }

pub returns-in-Some-clause-brought : goal.returns-in-Some-clause-brought
returns-in-Some-clause-brought c = rw c.in-Some.is c.place_again.ensures.brought

pub returns-in-Some-clause-refused : goal.returns-in-Some-clause-refused
returns-in-Some-clause-refused c = rw c.in-Some.is c.place_again.ensures.refused

pub returns-in-None-clause-brought : goal.returns-in-None-clause-brought
returns-in-None-clause-brought c = rw c.in-None.is c.place_first.ensures.brought

pub returns-in-None-clause-refused : goal.returns-in-None-clause-refused
returns-in-None-clause-refused c = rw c.in-None.is c.place_first.ensures.refused
