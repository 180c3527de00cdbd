-- Words under so many loops.
use Rattle.std.specs.Prelude.{ℕ, [], map, get_or, Option, Some, None}
use Rattle.affine_index.specs.declared.cond.Cond.{Cond}
use Rattle.index_trees.specs.Tree.{index_tree}
use Rattle.loop_lang.specs.declared.word.Buf.TheVariants.{Output}
use Rattle.loop_lang.specs.declared.word.Wexp.{Wexp}
use Rattle.loop_lang.specs.declared.word.Wexp.TheVariants as word
use Rattle.term_tree.specs.declared.term.Term.{Term, Lit, TVar, WordOf}
use Rattle.term_tree.specs.Syntax.{index, guard, add, sub, mul}
use Rattle.final_rules.specs.declared.printing.Scene.{Scene}
use Rattle.final_rules.specs.declared.read.Read.{Read}
use Rattle.final_rules.specs.Form.{read_under}
use Rattle.final_rules.specs.Owed.{test_of}
use Rattle.final_rules.specs.Places.{nowhere, place_form}
use Rattle.final_rules.specs.Printing.{scene_sites}
use Rattle.lowering.specs.Nodes.{scene_buffers}
use Rattle.lowering.specs.declared.words.Joint.{Joint}
use Rattle.lowering.specs.declared.words.Joint.TheVariants as joint

-- a word of two words
abbrev pub joint_of : Joint → Wexp → Wexp → Wexp
joint_of joint.Add a b = word.Add a b
joint_of joint.Sub a b = word.Sub a b
joint_of joint.Mul a b = word.Mul a b

module _ (sc : Scene) (loops : ℕ) where
  -- the load of a read, at its place
  abbrev pub loaded_in : Read → Wexp
  loaded_in d = word.Load (get_or (scene_buffers sc) d.var (Output 0)) (index_tree loops (place_form (get_or (scene_sites sc) d.var nowhere) d.indices))

  abbrev pub loaded_if_in : Option Read → Wexp
  loaded_if_in None = word.Lit 0
  loaded_if_in (Some d) = loaded_in d

  -- the word of a term; what is none counts as 0
  abbrev pub word_in : Term → Wexp
  word_in (Lit w) = word.Lit w
  word_in (WordOf x) = word.OfIndex (index_tree loops x)
  word_in (TVar q) = loaded_if_in (read_under (TVar q) [])
  word_in (index e x) = loaded_if_in (read_under (index e x) [])
  word_in (guard c e) = word.Choose (map (test_of loops) c.all) (word_in e) (word.Lit 0)
  word_in (add a b) = word.Add (word_in a) (word_in b)
  word_in (sub a b) = word.Sub (word_in a) (word_in b)
  word_in (mul a b) = word.Mul (word_in a) (word_in b)
  word_in _ = word.Lit 0

  -- a choice between the word of a term and 0
  abbrev pub chosen_in : Cond → Term → Wexp
  chosen_in c e = word.Choose (map (test_of loops) c.all) (word_in e) (word.Lit 0)
