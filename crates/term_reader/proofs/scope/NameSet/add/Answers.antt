use Rattle.std.proofs.Common.{◌≡◌, ℕ, List, [], ◌∷◌, ◌++◌, map, None, ap, ◌∙◌, Bor}
use Rattle.reader_laws.specs.Steps.{place_from}
use Rattle.term_reader.proofs.ScopeLaws.{names_added}
use Rattle.term_reader.proofs.scope.NameSet.add.Goals as goal

pub returns : goal.returns
returns c =
    let keys = c.self.inside.names.keys in
    let new : place_from 0 c.args.name.now (map (λ (n : Bor (List ℕ)). n.now) keys) ≡ None = ap (place_from 0 c.args.name.now) c.self.view_is ∙ c.requires in
    ap (map (λ (n : Bor (List ℕ)). n.now)) c.in-Ok.ensures.keys ∙ names_added (λ (n : Bor (List ℕ)). n.now) c.args.name keys new
    ∙ ap (λ ns. ns ++ c.args.name.now ∷ []) c.self.view_is
