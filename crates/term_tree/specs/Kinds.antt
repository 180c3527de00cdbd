-- Nodes by their kinds.
use Rattle.std.specs.Prelude.{Result, Ok, Err}
use Rattle.affine_index.specs.declared.aff.Aff.{Aff}
use Rattle.term_tree.specs.declared.kinds.PairKind.{PairKind}
use Rattle.term_tree.specs.declared.kinds.PairKind.TheVariants as pair
use Rattle.term_tree.specs.declared.kinds.RowKind.{RowKind}
use Rattle.term_tree.specs.declared.kinds.RowKind.TheVariants as row
use Rattle.term_tree.specs.declared.refusal.TreeRefusal.{TreeRefusal}
use Rattle.term_tree.specs.declared.term.Term.{Term}
use Rattle.term_tree.specs.declared.term.Term.TheVariants.{Index, Gen, Sum, Let, Add, Sub, Mul, Concat, TruncL, TruncR, PadL, PadR}

-- the node of this kind with this form and this part
abbrev pub row_of : RowKind → Aff → Term → Term
row_of row.Index n e = Index e n
row_of row.Gen n e = Gen n e
row_of row.Sum n e = Sum n e
row_of row.TruncL n e = TruncL n e
row_of row.TruncR n e = TruncR n e
row_of row.PadL n e = PadL n e
row_of row.PadR n e = PadR n e

-- the node of this kind with these parts
abbrev pub pair_of : PairKind → Term → Term → Term
pair_of pair.Let a b = Let a b
pair_of pair.Add a b = Add a b
pair_of pair.Sub a b = Sub a b
pair_of pair.Mul a b = Mul a b
pair_of pair.Concat a b = Concat a b

-- the node of two answers, or the first refusal
abbrev pub node_of : {A B : Type 0} → (A → B → Term) → Result A TreeRefusal → Result B TreeRefusal → Result Term TreeRefusal
node_of make (Ok a) (Ok b) = Ok (make a b)
node_of make (Ok a) (Err e) = Err e
node_of make (Err e) b = Err e
