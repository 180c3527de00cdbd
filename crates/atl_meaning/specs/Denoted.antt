-- The extents and the tensor of a term, as one fold.
use Rattle.std.specs.Prelude.{ℕ, ◌+◌, ◌-◌, ◌*◌, ◌/◌, ◌^◌, Bool, true, ◌&&◌, nat_lt, List, [], ◌∷◌, ◌++◌, map, drop, get_or, if◌then◌else◌}
use Rattle.affine_index.specs.Condition.{all_hold}
use Rattle.affine_index.specs.Value.{items_value}
use Rattle.term_tree.specs.declared.term.OutputDecl.{OutputDecl}
use Rattle.term_tree.specs.declared.term.Term.{Term}
use Rattle.term_tree.specs.declared.term.Term.TheOpen.{Term-F}
use Rattle.term_tree.specs.declared.term.Term.TheFolds.{fold-Term}
use Rattle.term_tree.specs.Tensors.{Tensor, Word, rows_of, from_rows, by_places, copies, zeros, tabulate, total, joined, drop_last}
use Rattle.term_tree.specs.Meaning.{Bound, no_bound, chunks, columns, extent, extents_of, head_of, row_at, tail_of, word_of}
use Rattle.atl_meaning.specs.Operations.{on_words}
use Rattle.atl_meaning.specs.Values.{meant}
use Rattle.atl_meaning.specs.declared.binding.Binding.{Binding}
use Rattle.atl_meaning.specs.declared.operation.Operation.TheVariants.{Plus, Minus, Times}

-- what a term has under the extents of its tensor variables, and whether each extent that is reckoned on the way is below
-- 2^64; and what it has under its variables
pub record Denoted : Type 0 where
  pub extents : List (List ℕ) → List ℕ
  pub fits : List (List ℕ) → Bool
  pub tensor : List ℕ → List Bound → Tensor

module _ (s : List ℕ) where
  -- one level of a term
  abbrev pub denoted_step : Term-F Denoted → Denoted
  denoted_step (Term-F.Lit w) = record { extents = λ ds. []; fits = λ ds. true; tensor = λ r t. Word w }
  denoted_step (Term-F.TVar q) = record { extents = λ ds. get_or ds q []; fits = λ ds. true; tensor = λ r t. (get_or t q no_bound).1 }
  denoted_step (Term-F.WordOf x) = record { extents = λ ds. []; fits = λ ds. true; tensor = λ r t. Word (word_of (items_value s r x)) }
  denoted_step (Term-F.Index e x) = record {
    extents = λ ds. tail_of (e.extents ds);
    fits = e.fits;
    tensor = λ r t. row_at (rows_of (e.tensor r t)) (items_value s r x) (zeros (tail_of (e.extents (extents_of t))));
  }
  denoted_step (Term-F.Gen n e) = record {
    extents = λ ds. extent n s ∷ e.extents ds;
    fits = e.fits;
    tensor = λ r t. from_rows (tabulate (extent n s) (λ i. e.tensor (i ∷ r) t));
  }
  denoted_step (Term-F.Sum n e) = record {
    extents = e.extents;
    fits = e.fits;
    tensor = λ r t. total (zeros (e.extents (extents_of t))) (tabulate (extent n s) (λ i. e.tensor (i ∷ r) t));
  }
  denoted_step (Term-F.Guard c e) = record {
    extents = e.extents;
    fits = e.fits;
    tensor = λ r t. if all_hold s r c.all then e.tensor r t else zeros (e.extents (extents_of t));
  }
  denoted_step (Term-F.Let a b) = record {
    extents = λ ds. b.extents (a.extents ds ∷ ds);
    fits = λ ds. a.fits ds && b.fits (a.extents ds ∷ ds);
    tensor = λ r t. b.tensor r ((a.extents (extents_of t), a.tensor r t) ∷ t);
  }
  denoted_step (Term-F.Add a b) =
      record { extents = a.extents; fits = λ ds. a.fits ds && b.fits ds; tensor = λ r t. by_places (on_words Plus) (a.tensor r t) (b.tensor r t) }
  denoted_step (Term-F.Sub a b) =
      record { extents = a.extents; fits = λ ds. a.fits ds && b.fits ds; tensor = λ r t. by_places (on_words Minus) (a.tensor r t) (b.tensor r t) }
  denoted_step (Term-F.Mul a b) =
      record { extents = λ ds. []; fits = λ ds. a.fits ds && b.fits ds; tensor = λ r t. by_places (on_words Times) (a.tensor r t) (b.tensor r t) }
  denoted_step (Term-F.Concat a b) = record {
    extents = λ ds. (head_of (a.extents ds) + head_of (b.extents ds)) ∷ tail_of (a.extents ds);
    fits = λ ds. (a.fits ds && b.fits ds) && nat_lt (head_of (a.extents ds) + head_of (b.extents ds)) (2 ^ 64);
    tensor = λ r t. from_rows (rows_of (a.tensor r t) ++ rows_of (b.tensor r t));
  }
  denoted_step (Term-F.Flatten e) = record {
    extents = λ ds. (head_of (e.extents ds) * head_of (tail_of (e.extents ds))) ∷ tail_of (tail_of (e.extents ds));
    fits = λ ds. e.fits ds && nat_lt (head_of (e.extents ds) * head_of (tail_of (e.extents ds))) (2 ^ 64);
    tensor = λ r t. from_rows (joined (rows_of (e.tensor r t)));
  }
  denoted_step (Term-F.Split k e) = record {
    extents = λ ds. ((head_of (e.extents ds) + k - 1) / k) ∷ k ∷ tail_of (e.extents ds);
    fits = e.fits;
    tensor = λ r t. from_rows (chunks ((head_of (e.extents (extents_of t)) + k - 1) / k) k (zeros (tail_of (e.extents (extents_of t))))
        (rows_of (e.tensor r t)));
  }
  denoted_step (Term-F.Transpose e) = record {
    extents = λ ds. head_of (tail_of (e.extents ds)) ∷ head_of (e.extents ds) ∷ tail_of (tail_of (e.extents ds));
    fits = e.fits;
    tensor = λ r t. from_rows (columns (head_of (tail_of (e.extents (extents_of t)))) (zeros (tail_of (tail_of (e.extents (extents_of t)))))
        (rows_of (e.tensor r t)));
  }
  denoted_step (Term-F.TruncL n e) = record {
    extents = λ ds. (head_of (e.extents ds) - extent n s) ∷ tail_of (e.extents ds);
    fits = e.fits;
    tensor = λ r t. from_rows (drop (extent n s) (rows_of (e.tensor r t)));
  }
  denoted_step (Term-F.TruncR n e) = record {
    extents = λ ds. (head_of (e.extents ds) - extent n s) ∷ tail_of (e.extents ds);
    fits = e.fits;
    tensor = λ r t. from_rows (drop_last (extent n s) (rows_of (e.tensor r t)));
  }
  denoted_step (Term-F.PadL n e) = record {
    extents = λ ds. (head_of (e.extents ds) + extent n s) ∷ tail_of (e.extents ds);
    fits = λ ds. e.fits ds && nat_lt (head_of (e.extents ds) + extent n s) (2 ^ 64);
    tensor = λ r t. from_rows (copies (extent n s) (zeros (tail_of (e.extents (extents_of t)))) ++ rows_of (e.tensor r t));
  }
  denoted_step (Term-F.PadR n e) = record {
    extents = λ ds. (head_of (e.extents ds) + extent n s) ∷ tail_of (e.extents ds);
    fits = λ ds. e.fits ds && nat_lt (head_of (e.extents ds) + extent n s) (2 ^ 64);
    tensor = λ r t. from_rows (rows_of (e.tensor r t) ++ copies (extent n s) (zeros (tail_of (e.extents (extents_of t)))));
  }

  abbrev pub denoted : Term → Denoted
  denoted = fold-Term Denoted denoted_step

-- the tensors in scope, each with its extents
abbrev pub scope : List Binding → List Bound
scope bs = map (λ b. (b.extents, meant b.value)) bs

-- the extents, and the tensor, of a term at sizes, under these variables; whether each extent on the way is below 2^64
abbrev pub extents_in : List ℕ → Term → List Binding → List ℕ
extents_in s e bs = (denoted s e).extents (extents_of (scope bs))

abbrev pub fits_in : List ℕ → Term → List Binding → Bool
fits_in s e bs = (denoted s e).fits (extents_of (scope bs))

abbrev pub tensor_in : List ℕ → Term → List ℕ → List Binding → Tensor
tensor_in s e r bs = (denoted s e).tensor r (scope bs)

-- the tensor at each value of the innermost index variable
abbrev pub body_in : List ℕ → Term → List ℕ → List Binding → ℕ → Tensor
body_in s e r bs i = tensor_in s e (i ∷ r) bs

-- the tensors of outputs under these tensors
abbrev pub outputs_tensors : List ℕ → List OutputDecl → List Bound → List Tensor
outputs_tensors s os t = map (λ o. (denoted s o.term).tensor [] t) os

-- each extent that is reckoned for the outputs is below 2^64, under the extents of the inputs
abbrev pub outputs_fit : List ℕ → List OutputDecl → List (List ℕ) → Bool
outputs_fit s [] ds = true
outputs_fit s (o ∷ os) ds = (denoted s o.term).fits ds && outputs_fit s os ds
