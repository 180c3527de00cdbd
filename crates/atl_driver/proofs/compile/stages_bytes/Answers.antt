use Rattle.atl_driver.proofs.compile.stages_bytes.Goals as goal

pub emit_bytes-requires-clause-source : goal.emit_bytes-requires-clause-source
emit_bytes-requires-clause-source c = c.requires.source

pub emit_bytes-requires-clause-script : goal.emit_bytes-requires-clause-script
emit_bytes-requires-clause-script c = c.requires.script

pub returns-clause-answers : goal.returns-clause-answers
returns-clause-answers c = c.emit_bytes.ensures.answers

pub returns-clause-correct : goal.returns-clause-correct
returns-clause-correct c = c.emit_bytes.ensures.correct

pub returns-clause-refused : goal.returns-clause-refused
returns-clause-refused c = c.emit_bytes.ensures.refused
