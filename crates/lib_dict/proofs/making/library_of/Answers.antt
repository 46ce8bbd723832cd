use Rattle.std.proofs.Common.{◌++◌, ℕ, List, map, ap, ◌∙◌}
use Rattle.std.specs.List.{flat_map}
use Rattle.lib_dict.specs.Library.{LibraryFile}
use Rattle.lib_dict.specs.Made.{library_file}
use Rattle.lib_dict.proofs.SizeLaws.{dictionary_whole}
use Rattle.lib_dict.proofs.making.library_of.Goals as goal

pub returns : goal.returns
returns c =
    c.in_ok-put_files.ensures
    ∙ ap (λ (l : List ℕ). l ++ flat_map (λ (file : LibraryFile). file.bytes) (map library_file c.args.reads.now.items))
    (dictionary_whole c.args.first.now c.args.second.now c.args.third.now c.in_ok-out.out.items c.put_long.new.out.items c.put_long-2.new.out.items c.put_long-3.new.out.items c.put_end.new.out.items
    c.in_ok-out.ensures c.in_ok-put_long.ensures c.in_ok-put_long-2.ensures c.in_ok-put_long-3.ensures c.in_ok-put_end.ensures)
