-- The laws of whole texts, as they are stated.
use Rattle.std.proofs.Common.{◌≡◌, sym}
use Rattle.text_tokens.specs.Kinds.{Text}
use Rattle.loop_lang.specs.declared.stmt.Prog.{Prog}
use Rattle.c_print.specs.Program.{canonical_text}
use Rattle.c_text.specs.Statement.{CText}
use Rattle.c_read.specs.Alone.{IsExact, IsTextOfAlone}
use Rattle.c_read.specs.Refused.{AreRefused}
use Rattle.c_read.proofs.WholeText.{text_alone, text_found, text_read, text_refused}

pub alone : (p : Prog) → CText (canonical_text p) p → IsTextOfAlone (canonical_text p) p
alone p h = record { is = h; alone = λ q g. text_alone (canonical_text p) q p g h; reads = text_read (canonical_text p) p h }

pub exact : (z : Text) → IsExact z
exact z p = (text_read z p, text_found z p)

pub refusals : (z : Text) → AreRefused z
refusals z fault place h = text_refused z fault place h
