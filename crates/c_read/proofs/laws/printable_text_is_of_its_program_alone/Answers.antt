use Rattle.c_read.proofs.Alone.{alone}
use Rattle.c_read.proofs.laws.printable_text_is_of_its_program_alone.Goals as goal

pub returns : goal.returns
returns c = alone c.args.prog.now c.printable_text_is_text.ensures
