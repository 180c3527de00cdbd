use Rattle.std.specs.Prelude.{pos}
use Rattle.affine_index.specs.Form.{literal_form}
use Rattle.term_tree.specs.Syntax.{gen}
use Rattle.rules_loop.proofs.tilings.tile_gens.Goals as goal

pub returns : goal.returns
returns c = λ x e f h.
    c.gen_with-2.ensures x (gen (literal_form (pos c.args.k)) e) f
    (c.in_ok-rows.ensures {u = tt} (literal_form (pos c.args.k)) e (c.in_ok-width.ensures {u = tt}) h)
