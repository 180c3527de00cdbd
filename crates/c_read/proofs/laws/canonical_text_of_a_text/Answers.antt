use Rattle.c_read.proofs.laws.canonical_text_of_a_text.Goals as goal

pub canonical_text_is_of_its_program_alone-requires-clause-formed : goal.canonical_text_is_of_its_program_alone-requires-clause-formed
canonical_text_is_of_its_program_alone-requires-clause-formed c = c.text_reader_is_exact.ensures.formed c.args.prog.now c.requires.stands
