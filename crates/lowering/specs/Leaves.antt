-- Leaves and full reads, stored in a target.
use Rattle.std.specs.Prelude.{Bool, false, List, [], ◌∷◌, Option, Some, None}
use Rattle.affine_index.specs.declared.form.Items.{Items}
use Rattle.fact_list.specs.Facts.{binders}
use Rattle.index_trees.specs.Tree.{index_tree}
use Rattle.loop_lang.specs.declared.stmt.Stmt.{Stmt}
use Rattle.loop_lang.specs.declared.stmt.Stmt.TheVariants.{Seq, For}
use Rattle.loop_lang.specs.declared.word.Wexp.{Wexp}
use Rattle.reindexer.specs.Indices.{indices_after}
use Rattle.term_tree.specs.Shape.{Extents}
use Rattle.term_tree.specs.declared.term.Term.{Term}
use Rattle.final_rules.specs.declared.printing.Scene.{Scene}
use Rattle.final_rules.specs.declared.read.Read.{Read}
use Rattle.final_rules.specs.declared.spot.Spot.{Spot}
use Rattle.final_rules.specs.Form.{one_deeper}
use Rattle.final_rules.specs.Places.{frames_of, one_gen, place_form}
use Rattle.lowering_laws.specs.Lowered.{stored_by}
use Rattle.lowering.specs.declared.node.Target.{Target}
use Rattle.lowering.specs.Nodes.{mode_of, site_of}
use Rattle.lowering.specs.Words.{loaded_in, word_in}

-- the place of a leaf
abbrev pub stored_form : Target → Spot → Items
stored_form tg q = place_form (site_of tg) (indices_after (frames_of q) [])

-- a word, put or added at the place of a leaf
abbrev pub stored_in : Target → Bool → Spot → Wexp → List Stmt
stored_in tg adds q w = stored_by (mode_of adds) tg.buffer (index_tree (binders q.path) (stored_form tg q)) w ∷ []

abbrev pub leaf_in : Scene → Target → Bool → Spot → Term → List Stmt
leaf_in sc tg adds q e = stored_in tg adds q (word_in sc (binders q.path) e)

-- a read of these extents: a loop for each, and a full read inside
abbrev pub full_read_in : Scene → Target → Bool → Spot → Extents → Read → List Stmt
full_read_in sc tg adds q [] d = stored_in tg adds q (loaded_in sc (binders q.path) d)
full_read_in sc tg adds q (n ∷ ns) d = For (index_tree (binders q.path) n) false (Seq (full_read_in sc tg adds (one_gen n q) ns (one_deeper d))) ∷ []

abbrev pub full_read_if_in : Scene → Target → Bool → Spot → Extents → Option Read → List Stmt
full_read_if_in sc tg adds q ns None = []
full_read_if_in sc tg adds q ns (Some d) = full_read_in sc tg adds q ns d
