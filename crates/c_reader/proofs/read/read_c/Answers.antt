use Rattle.c_reader.proofs.Answer.{answered, no_other, well_formed}
use Rattle.c_reader.proofs.read.read_c.Goals as goal

pub returns-clause-value : goal.returns-clause-value
returns-clause-value c = answered c.args.text.now c.told.result c.text_reader_is_exact.ensures.exact c.text_reader_is_exact.ensures.refused
    c.faults_are_first.ensures.first c.told.ensures

pub returns-clause-alone : goal.returns-clause-alone
returns-clause-alone c = no_other c.args.text.now c.told.result c.text_reader_is_exact.ensures.exact c.told.ensures

pub returns-clause-formed : goal.returns-clause-formed
returns-clause-formed c = well_formed c.args.text.now c.told.result c.text_reader_is_exact.ensures.formed c.told.ensures
