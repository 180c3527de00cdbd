use Rattle.path_focus.specs.Making.{tile_rest}
use Rattle.term_tree.specs.Syntax.{flatten}
use Rattle.rules_loop.proofs.tilings.cut_back.Goals as goal

pub returns : goal.returns
returns c = λ e h.
    c.trunc_with.ensures (tile_rest c.args.k c.args.n.now) (flatten e) (c.in_ok-rest.ensures {u = tt} (tile_rest c.args.k c.args.n.now) c.tile_rest.ensures)
    (c.in_ok-rows.ensures {u = tt} e h)
