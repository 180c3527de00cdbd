-- Numbers of nodes, by which the recursive functions end.
use Rattle.std.specs.Prelude.{ℕ, ◌+◌}
use Rattle.loop_lang.specs.declared.index.Iexp.{Iexp}
use Rattle.loop_lang.specs.declared.index.Iexp.TheOpen.{Iexp-F}
use Rattle.loop_lang.specs.declared.index.Iexp.TheFolds.{fold-Iexp}
use Rattle.loop_lang.specs.declared.word.Wexp.{Wexp}
use Rattle.loop_lang.specs.declared.word.Wexp.TheOpen.{Wexp-F}
use Rattle.loop_lang.specs.declared.word.Wexp.TheFolds.{fold-Wexp}

abbrev pub index_nodes_step : Iexp-F ℕ → ℕ
index_nodes_step (Iexp-F.Lit n) = 1
index_nodes_step (Iexp-F.Size k) = 1
index_nodes_step (Iexp-F.Loop d) = 1
index_nodes_step (Iexp-F.Add a b) = a + b + 1
index_nodes_step (Iexp-F.Sub a b) = a + b + 1
index_nodes_step (Iexp-F.Mul a b) = a + b + 1
index_nodes_step (Iexp-F.Div a k) = a + 1
index_nodes_step (Iexp-F.Rem a k) = a + 1
index_nodes_step (Iexp-F.Larger a b) = a + b + 1

-- the nodes of an index
abbrev pub index_nodes : Iexp → ℕ
index_nodes = fold-Iexp ℕ index_nodes_step

abbrev pub word_nodes_step : Wexp-F ℕ → ℕ
word_nodes_step (Wexp-F.Lit w) = 1
word_nodes_step (Wexp-F.Load b i) = 1
word_nodes_step (Wexp-F.OfIndex i) = 1
word_nodes_step (Wexp-F.Add a b) = a + b + 1
word_nodes_step (Wexp-F.Sub a b) = a + b + 1
word_nodes_step (Wexp-F.Mul a b) = a + b + 1
word_nodes_step (Wexp-F.Choose cs a b) = a + b + 1

-- the nodes of a word, its indices apart
abbrev pub word_nodes : Wexp → ℕ
word_nodes = fold-Wexp ℕ word_nodes_step
