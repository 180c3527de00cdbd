-- The canonical text of a well formed program of flat bodies is a text of that program.
use Rattle.loop_lang.specs.declared.stmt.Prog.{Prog}
use Rattle.loop_lang.specs.Form.{IsWellFormed}
use Rattle.c_print.specs.Program.{canonical_text}
use Rattle.c_text.specs.Flat.{IsFlat}
use Rattle.c_text.specs.Printable.{IsPrintable}
use Rattle.c_text.specs.Statement.{CText, HasSmallNumbers}
use Rattle.c_text.proofs.FlatFits.{is-printable}
use Rattle.c_text.proofs.UnitCuts.{canonical-is-text}

pub reads_back : (p : Prog) → HasSmallNumbers p → IsWellFormed p → IsFlat p → CText (canonical_text p) p
reads_back p h w f = canonical-is-text p h (is-printable p w f)

pub printable_back : (p : Prog) → HasSmallNumbers p → IsPrintable p → CText (canonical_text p) p
printable_back p h g = canonical-is-text p h g
