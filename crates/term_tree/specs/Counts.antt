-- The nodes and the depth of a term.
use Rattle.std.specs.Prelude.{ℕ, ◌+◌, max}
use Rattle.term_tree.specs.declared.term.Term.{Term, Lit, TVar, WordOf}
use Rattle.term_tree.specs.declared.term.Term.TheOpen.{Term-F}
use Rattle.term_tree.specs.declared.term.Term.TheFolds.{fold-Term}
use Rattle.term_tree.specs.Syntax.{index, gen, sum, guard, let_in, add, sub, mul, concat, flatten, split, transpose, trunc_l, trunc_r, pad_l, pad_r}

-- the number of nodes
abbrev pub node_count : Term → ℕ
node_count (Lit w) = 1
node_count (TVar q) = 1
node_count (WordOf x) = 1
node_count (index e x) = node_count e + 1
node_count (gen n e) = node_count e + 1
node_count (sum n e) = node_count e + 1
node_count (guard c e) = node_count e + 1
node_count (let_in a b) = node_count a + node_count b + 1
node_count (add a b) = node_count a + node_count b + 1
node_count (sub a b) = node_count a + node_count b + 1
node_count (mul a b) = node_count a + node_count b + 1
node_count (concat a b) = node_count a + node_count b + 1
node_count (flatten e) = node_count e + 1
node_count (split k e) = node_count e + 1
node_count (transpose e) = node_count e + 1
node_count (trunc_l n e) = node_count e + 1
node_count (trunc_r n e) = node_count e + 1
node_count (pad_l n e) = node_count e + 1
node_count (pad_r n e) = node_count e + 1

-- the nodes of one level, given those of its parts
abbrev pub count_step : Term-F ℕ → ℕ
count_step (Term-F.Lit w) = 1
count_step (Term-F.TVar q) = 1
count_step (Term-F.WordOf x) = 1
count_step (Term-F.Index e x) = e + 1
count_step (Term-F.Gen n e) = e + 1
count_step (Term-F.Sum n e) = e + 1
count_step (Term-F.Guard c e) = e + 1
count_step (Term-F.Let a b) = a + b + 1
count_step (Term-F.Add a b) = a + b + 1
count_step (Term-F.Sub a b) = a + b + 1
count_step (Term-F.Mul a b) = a + b + 1
count_step (Term-F.Concat a b) = a + b + 1
count_step (Term-F.Flatten e) = e + 1
count_step (Term-F.Split k e) = e + 1
count_step (Term-F.Transpose e) = e + 1
count_step (Term-F.TruncL n e) = e + 1
count_step (Term-F.TruncR n e) = e + 1
count_step (Term-F.PadL n e) = e + 1
count_step (Term-F.PadR n e) = e + 1

-- the same as a fold
abbrev pub node_fold : Term → ℕ
node_fold = fold-Term ℕ count_step

-- a leaf has 0, any other node 1 more than its deepest child
abbrev pub node_depth : Term → ℕ
node_depth (Lit w) = 0
node_depth (TVar q) = 0
node_depth (WordOf x) = 0
node_depth (index e x) = node_depth e + 1
node_depth (gen n e) = node_depth e + 1
node_depth (sum n e) = node_depth e + 1
node_depth (guard c e) = node_depth e + 1
node_depth (let_in a b) = max (node_depth a) (node_depth b) + 1
node_depth (add a b) = max (node_depth a) (node_depth b) + 1
node_depth (sub a b) = max (node_depth a) (node_depth b) + 1
node_depth (mul a b) = max (node_depth a) (node_depth b) + 1
node_depth (concat a b) = max (node_depth a) (node_depth b) + 1
node_depth (flatten e) = node_depth e + 1
node_depth (split k e) = node_depth e + 1
node_depth (transpose e) = node_depth e + 1
node_depth (trunc_l n e) = node_depth e + 1
node_depth (trunc_r n e) = node_depth e + 1
node_depth (pad_l n e) = node_depth e + 1
node_depth (pad_r n e) = node_depth e + 1

-- the depth of one level, given that of its parts
abbrev pub depth_step : Term-F ℕ → ℕ
depth_step (Term-F.Lit w) = 0
depth_step (Term-F.TVar q) = 0
depth_step (Term-F.WordOf x) = 0
depth_step (Term-F.Index e x) = e + 1
depth_step (Term-F.Gen n e) = e + 1
depth_step (Term-F.Sum n e) = e + 1
depth_step (Term-F.Guard c e) = e + 1
depth_step (Term-F.Let a b) = max a b + 1
depth_step (Term-F.Add a b) = max a b + 1
depth_step (Term-F.Sub a b) = max a b + 1
depth_step (Term-F.Mul a b) = max a b + 1
depth_step (Term-F.Concat a b) = max a b + 1
depth_step (Term-F.Flatten e) = e + 1
depth_step (Term-F.Split k e) = e + 1
depth_step (Term-F.Transpose e) = e + 1
depth_step (Term-F.TruncL n e) = e + 1
depth_step (Term-F.TruncR n e) = e + 1
depth_step (Term-F.PadL n e) = e + 1
depth_step (Term-F.PadR n e) = e + 1

-- the same as a fold
abbrev pub depth_fold : Term → ℕ
depth_fold = fold-Term ℕ depth_step
