use Rattle.std.proofs.Common.{sym}
use Rattle.text_tokens.proofs.WordLaws.{ended_none, ended_some}
use Rattle.text_tokens.proofs.cursor.Tokens.is_done.Goals as goal

pub returns-in-None : goal.returns-in-None
returns-in-None c = rw (← c.self.view_is) (sym (ended_none c.self.inside.language c.self.inside.end _ c.in-None.ensures.0))

pub returns-in-Some : goal.returns-in-Some
returns-in-Some c = rw (← c.self.view_is) (sym (ended_some c.self.inside.language c.self.inside.end _ _ _ c.in-Some.ensures.0 c.self.invariant.skipped))
