use Rattle.std.specs.Prelude.{pos}
use Rattle.affine_index.specs.Form.{literal_form}
use Rattle.term_tree.specs.Syntax.{sum}
use Rattle.rules_loop.proofs.tilings.tile_sums.Goals as goal

pub returns : goal.returns
returns c = λ x e f h.
    c.sum_with-2.ensures x (sum (literal_form (pos c.args.k)) e) f
    (c.in_ok-rows.ensures {u = tt} (literal_form (pos c.args.k)) e (c.in_ok-width.ensures {u = tt}) h)
