-- Nodes of mapped parts.
use Rattle.std.specs.Prelude.{Option, Some, None, Result, Ok, Err}
use Rattle.affine_index.specs.declared.aff.Aff.{Aff}
use Rattle.term_tree.specs.declared.term.Term.{Term}
use Rattle.term_tree.specs.declared.term.Term.TheVariants.{Gen, Sum, Let, Add, Sub, Mul, Concat, Flatten, Split, Transpose, TruncL, TruncR, PadL, PadR}
use Rattle.binders.specs.declared.kinds.LoneKind.{LoneKind}
use Rattle.binders.specs.declared.kinds.LoneKind.TheVariants as lone
use Rattle.binders.specs.declared.kinds.PairKind.{PairKind}
use Rattle.binders.specs.declared.kinds.PairKind.TheVariants as pair
use Rattle.binders.specs.declared.kinds.RowKind.{RowKind}
use Rattle.binders.specs.declared.kinds.RowKind.TheVariants as row
use Rattle.binders.specs.declared.refusal.MapRefusal.{MapRefusal}

-- the node of this kind with this form and this part
abbrev pub row_of : RowKind → Aff → Term → Term
row_of row.Gen n e = Gen n e
row_of row.Sum n e = Sum n e
row_of row.TruncL n e = TruncL n e
row_of row.TruncR n e = TruncR n e
row_of row.PadL n e = PadL n e
row_of row.PadR n e = PadR n e

-- the node of this kind with these parts
abbrev pub pair_of : PairKind → Term → Term → Term
pair_of pair.Let a b = Let a b
pair_of pair.Add a b = Add a b
pair_of pair.Sub a b = Sub a b
pair_of pair.Mul a b = Mul a b
pair_of pair.Concat a b = Concat a b

-- the node of this kind with this part
abbrev pub lone_of : LoneKind → Term → Term
lone_of lone.Flatten e = Flatten e
lone_of (lone.Split k) e = Split k e
lone_of lone.Transpose e = Transpose e

-- the node of one part, where it is short
abbrev pub made_of : {A : Type 0} → (A → Term) → Result (Option A) MapRefusal → Result (Option Term) MapRefusal
made_of make (Ok (Some a)) = Ok (Some (make a))
made_of make (Ok None) = Ok None
made_of make (Err e) = Err e

-- the node of two parts, where both are short; the first refusal else
abbrev pub node_of : {A B : Type 0} → (A → B → Term) → Result (Option (A × B)) MapRefusal → Result (Option Term) MapRefusal
node_of make (Ok (Some p)) = Ok (Some (make p.0 p.1))
node_of make (Ok None) = Ok None
node_of make (Err e) = Err e
