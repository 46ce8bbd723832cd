use Rattle.std.proofs.lemmas.Result.{IfOk-weaker, IfErr-weaker}
use Rattle.lib_dict.proofs.reading.read_dictionary.Goals as goal

pub dictionary_of_list-requires : goal.dictionary_of_list-requires
dictionary_of_list-requires c = (c.args.file.now, record { is_file = c.in-Ok.ensures.found; bytes = λ i. (c.type_inv.file i).fits; short = c.requires })

pub returns-clause-rows : goal.returns-clause-rows
returns-clause-rows c =
    IfOk-weaker c.dictionary_of_list.result _ _ (λ d reported. reported c.args.file.now (record { is_file = c.in-Ok.ensures.found; bytes = λ i. (c.type_inv.file i).fits; short = c.requires })) c.dictionary_of_list.ensures.rows

pub returns-clause-few : goal.returns-clause-few
returns-clause-few c =
    IfOk-weaker c.dictionary_of_list.result _ _ (λ d reported. reported c.args.file.now (record { is_file = c.in-Ok.ensures.found; bytes = λ i. (c.type_inv.file i).fits; short = c.requires })) c.dictionary_of_list.ensures.few

pub returns-clause-refused : goal.returns-clause-refused
returns-clause-refused c =
    IfErr-weaker c.dictionary_of_list.result _ _ (λ fault reported. reported c.args.file.now (record { is_file = c.in-Ok.ensures.found; bytes = λ i. (c.type_inv.file i).fits; short = c.requires })) c.dictionary_of_list.ensures.refused
