use Rattle.link_map.proofs.symbols.put_symbols.Goals as goal

pub returns : goal.returns
returns c = c.put_listed.ensures
