-- Answers that are made of another answer.
use Rattle.std.proofs.Common.{◌≡◌, List, ℕ, ap, subst, sym, ◌∙◌, Result, Ok, Err, IfOk, OnOk}
use Rattle.term_tree.specs.Tensors.{Tensor}
use Rattle.atl_meaning.specs.Made.{IsMade, IsOf}
use Rattle.atl_meaning.specs.Values.{meant}
use Rattle.atl_meaning.specs.declared.binding.Binding.{Binding}
use Rattle.atl_meaning.specs.declared.tensor.Tensor.{Tensor as Value}

module _ {A B E : Type 0} (f : A → B) where
  pub made-value : (before : Result A E) (after : Result B E) (x : A) → IsMade f before after → IfOk before (λ a. a ≡ x) → IfOk after (λ b. b ≡ f x)
  made-value before (Ok b) x m h = m.2 ∙ ap f (subst (λ (r : Result A E). IfOk r (λ a. a ≡ x)) m.1 h)
  made-value before (Err e) x m h = tt

module _ {A B E : Type 0} (P : A → B → Type 0) where
  -- what holds where there was an answer holds where there is one
  pub of-kept : (Q : Type 0) (before : Result A E) (after : Result B E) → IsOf P before after → OnOk before Q → OnOk after Q
  of-kept Q before (Ok b) m h = subst (λ (r : Result A E). OnOk r Q) m.1 h
  of-kept Q before (Err e) m h = tt

module _ {A B E : Type 0} (f : A → B) where
  pub made-kept : (Q : Type 0) (before : Result A E) (after : Result B E) → IsMade f before after → OnOk before Q → OnOk after Q
  made-kept = of-kept (λ a b. b ≡ f a)

-- one equation after another
pub both-kept : {T E X : Type 0} (r : Result T E) (a b c : X) → OnOk r (a ≡ b) → OnOk r (b ≡ c) → OnOk r (a ≡ c)
both-kept (Ok x) a b c p q = p ∙ q
both-kept (Err e) a b c p q = tt

-- a tensor that is made of another under bindings that were kept
pub of-meant : {E : Type 0} (f : List Binding → Tensor → Tensor) (more bs : List Binding) (before after : Result Value E) (x : Tensor)
    → IsOf (λ c v. meant v ≡ f more (meant c)) before after → OnOk before (more ≡ bs) → IfOk before (λ c. meant c ≡ x) → IfOk after (λ v. meant v ≡ f bs x)
of-meant {E} f more bs before (Ok v) x m k h =
    let kept : more ≡ bs = subst (λ (r : Result Value E). OnOk r (more ≡ bs)) m.1 k in
    let child : meant m.0 ≡ x = subst (λ (r : Result Value E). IfOk r (λ c. meant c ≡ x)) m.1 h in
    m.2 ∙ (λ i. f (kept i) (child i))
of-meant f more bs before (Err e) x m k h = tt

-- a fact of the one answer there can be
pub below_fits : {A E : Type 0} (P : A → Type 0) (r : Result A E) (x : A) → IfOk r (λ a. a ≡ x) → P x → IfOk r P
below_fits P (Ok a) x h p = subst P (sym h) p
below_fits P (Err e) x h p = tt

-- what is made of an answer in a state that was kept
module _ {A B E R : Type 0} (P : R → A → B → Type 0) where
  pub of-state : (more r : R) (before : Result A E) (after : Result B E) → IsOf (P more) before after → OnOk before (more ≡ r) → IsOf (P r) before after
  of-state more r before (Ok b) m k =
      let kept : more ≡ r = subst (λ (q : Result A E). OnOk q (more ≡ r)) m.1 k in
      (m.0, m.1, subst (λ (q : R). P q m.0 b) kept m.2)
  of-state more r before (Err e) m k = tt

-- a fact by two facts of the same answer
pub of-both : {A E : Type 0} (P Q R : A → Type 0) (r : Result A E) → ((a : A) → P a → Q a → R a) → IfOk r P → IfOk r Q → IfOk r R
of-both P Q R (Ok a) f p q = f a p q
of-both P Q R (Err e) f p q = tt

-- a tensor that is made of a definition
pub of-definition : {E : Type 0} (f : List ℕ → Tensor → Tensor) (before : Result Binding E) (after : Result Value E) (ds : List ℕ) (x : Tensor)
    → IsOf (λ d v. meant v ≡ f d.extents (meant d.value)) before after → IfOk before (λ d. d.extents ≡ ds) → IfOk before (λ d. meant d.value ≡ x)
    → IfOk after (λ v. meant v ≡ f ds x)
of-definition {E} f before (Ok v) ds x m k h =
    let extents : m.0.extents ≡ ds = subst (λ (r : Result Binding E). IfOk r (λ d. d.extents ≡ ds)) m.1 k in
    let value : meant m.0.value ≡ x = subst (λ (r : Result Binding E). IfOk r (λ d. meant d.value ≡ x)) m.1 h in
    m.2 ∙ (λ i. f (extents i) (value i))
of-definition f before (Err e) ds x m k h = tt
