-- Terms of one kind are equal just where their parts are, and what copies give.
use Rattle.std.proofs.Common.{◌≡◌, ℕ, Bool, false, ap, sym, subst, ◌∙◌, Result, Ok, Err, IfOk}
use Rattle.std.specs.Prelude.{◌↔◌, IsTrue}
use Rattle.affine_index.specs.declared.aff.Aff.{Aff}
use Rattle.affine_index.specs.declared.cond.Cond.{Cond}
use Rattle.term_tree.specs.Kinds.{node_of}
use Rattle.term_tree.specs.declared.refusal.TreeRefusal.{TreeRefusal}
use Rattle.term_tree.specs.declared.term.Term.{Term}
use Rattle.term_tree.specs.declared.term.Term.TheVariants.{Index, Gen, Sum, Guard, Let, Add, Sub, Mul, Concat, Flatten, Transpose, TruncL, TruncR, PadL, PadR}
use Rattle.term_tree.specs.Syntax.{index, gen, sum, guard, let_in, add, sub, mul, concat, flatten, split, transpose, trunc_l, trunc_r, pad_l, pad_r}
use Rattle.term_tree.proofs.Forms.{Index-is, Gen-is, Sum-is, Guard-is, Let-is, Add-is, Sub-is, Mul-is, Concat-is, Flatten-is, Transpose-is, TruncL-is}
use Rattle.term_tree.proofs.Forms.{TruncR-is, PadL-is, PadR-is}

-- a node of copies is a copy of the node
pub made : {A B : Type 0} (make : A → B → Term) (f : Result A TreeRefusal) (g : Result B TreeRefusal) (r : Result Term TreeRefusal) (x : A) (y : B) (t : Term)
    → r ≡ node_of make f g → IfOk f (λ a. a ≡ x) → IfOk g (λ b. b ≡ y) → t ≡ make x y → IfOk r (λ c. c ≡ t)
made make (Ok a) (Ok b) r x y t e p q s = subst (λ (w : Result Term TreeRefusal). IfOk w (λ c. c ≡ t)) (sym e) ((λ i. make (p i) (q i)) ∙ sym s)
made make (Ok a) (Err d) r x y t e p q s = subst (λ (w : Result Term TreeRefusal). IfOk w (λ c. c ≡ t)) (sym e) tt
made make (Err d) g r x y t e p q s = subst (λ (w : Result Term TreeRefusal). IfOk w (λ c. c ≡ t)) (sym e) tt

-- the first part of a node, and the last
abbrev first_part : Term → Term
first_part (index e n) = e
first_part (gen n e) = e
first_part (sum n e) = e
first_part (trunc_l n e) = e
first_part (trunc_r n e) = e
first_part (pad_l n e) = e
first_part (pad_r n e) = e
first_part (guard n e) = e
first_part (let_in a b) = a
first_part (add a b) = a
first_part (sub a b) = a
first_part (mul a b) = a
first_part (concat a b) = a
first_part (flatten e) = e
first_part (transpose e) = e
first_part t = t

abbrev last_part : Term → Term
last_part (let_in a b) = b
last_part (add a b) = b
last_part (sub a b) = b
last_part (mul a b) = b
last_part (concat a b) = b
last_part t = t

-- nodes that differ
pub differ : (a b : Term) → (a ≡ b → ⊥) → IsTrue false ↔ (a ≡ b)
differ a b h = (λ t. absurd (cc), λ s. absurd (h s))

module _ (a b : Term) (r f : Bool) where
  pub both-Index : (x y : Aff) (d e g h : Term) → g ≡ d → h ≡ e → a ≡ Index d x → b ≡ Index e y → IsTrue f ↔ (x ≡ y)
      → IsTrue r ↔ (IsTrue f × (g ≡ h)) → IsTrue r ↔ (a ≡ b)
  both-Index x y d e g h u v p q k l = (
    λ t. let s = l.0 t in let z = k.0 s.0 in let w = sym u ∙ s.1 ∙ v in p ∙ (λ i. Index (w i) (z i)) ∙ sym q,
    λ t. let s : index d x ≡ index e y = sym (Index-is d x) ∙ sym p ∙ t ∙ q ∙ Index-is e y in
        let z : x ≡ y = cc in let w : d ≡ e = ap first_part s in l.1 (k.1 z, u ∙ w ∙ sym v),
  )

  pub both-Gen : (x y : Aff) (d e g h : Term) → g ≡ d → h ≡ e → a ≡ Gen x d → b ≡ Gen y e → IsTrue f ↔ (x ≡ y)
      → IsTrue r ↔ (IsTrue f × (g ≡ h)) → IsTrue r ↔ (a ≡ b)
  both-Gen x y d e g h u v p q k l = (
    λ t. let s = l.0 t in let z = k.0 s.0 in let w = sym u ∙ s.1 ∙ v in p ∙ (λ i. Gen (z i) (w i)) ∙ sym q,
    λ t. let s : gen x d ≡ gen y e = sym (Gen-is x d) ∙ sym p ∙ t ∙ q ∙ Gen-is y e in
        let z : x ≡ y = cc in let w : d ≡ e = ap first_part s in l.1 (k.1 z, u ∙ w ∙ sym v),
  )

  pub both-Sum : (x y : Aff) (d e g h : Term) → g ≡ d → h ≡ e → a ≡ Sum x d → b ≡ Sum y e → IsTrue f ↔ (x ≡ y)
      → IsTrue r ↔ (IsTrue f × (g ≡ h)) → IsTrue r ↔ (a ≡ b)
  both-Sum x y d e g h u v p q k l = (
    λ t. let s = l.0 t in let z = k.0 s.0 in let w = sym u ∙ s.1 ∙ v in p ∙ (λ i. Sum (z i) (w i)) ∙ sym q,
    λ t. let s : sum x d ≡ sum y e = sym (Sum-is x d) ∙ sym p ∙ t ∙ q ∙ Sum-is y e in
        let z : x ≡ y = cc in let w : d ≡ e = ap first_part s in l.1 (k.1 z, u ∙ w ∙ sym v),
  )

  pub both-TruncL : (x y : Aff) (d e g h : Term) → g ≡ d → h ≡ e → a ≡ TruncL x d → b ≡ TruncL y e → IsTrue f ↔ (x ≡ y)
      → IsTrue r ↔ (IsTrue f × (g ≡ h)) → IsTrue r ↔ (a ≡ b)
  both-TruncL x y d e g h u v p q k l = (
    λ t. let s = l.0 t in let z = k.0 s.0 in let w = sym u ∙ s.1 ∙ v in p ∙ (λ i. TruncL (z i) (w i)) ∙ sym q,
    λ t. let s : trunc_l x d ≡ trunc_l y e = sym (TruncL-is x d) ∙ sym p ∙ t ∙ q ∙ TruncL-is y e in
        let z : x ≡ y = cc in let w : d ≡ e = ap first_part s in l.1 (k.1 z, u ∙ w ∙ sym v),
  )

  pub both-TruncR : (x y : Aff) (d e g h : Term) → g ≡ d → h ≡ e → a ≡ TruncR x d → b ≡ TruncR y e → IsTrue f ↔ (x ≡ y)
      → IsTrue r ↔ (IsTrue f × (g ≡ h)) → IsTrue r ↔ (a ≡ b)
  both-TruncR x y d e g h u v p q k l = (
    λ t. let s = l.0 t in let z = k.0 s.0 in let w = sym u ∙ s.1 ∙ v in p ∙ (λ i. TruncR (z i) (w i)) ∙ sym q,
    λ t. let s : trunc_r x d ≡ trunc_r y e = sym (TruncR-is x d) ∙ sym p ∙ t ∙ q ∙ TruncR-is y e in
        let z : x ≡ y = cc in let w : d ≡ e = ap first_part s in l.1 (k.1 z, u ∙ w ∙ sym v),
  )

  pub both-PadL : (x y : Aff) (d e g h : Term) → g ≡ d → h ≡ e → a ≡ PadL x d → b ≡ PadL y e → IsTrue f ↔ (x ≡ y)
      → IsTrue r ↔ (IsTrue f × (g ≡ h)) → IsTrue r ↔ (a ≡ b)
  both-PadL x y d e g h u v p q k l = (
    λ t. let s = l.0 t in let z = k.0 s.0 in let w = sym u ∙ s.1 ∙ v in p ∙ (λ i. PadL (z i) (w i)) ∙ sym q,
    λ t. let s : pad_l x d ≡ pad_l y e = sym (PadL-is x d) ∙ sym p ∙ t ∙ q ∙ PadL-is y e in
        let z : x ≡ y = cc in let w : d ≡ e = ap first_part s in l.1 (k.1 z, u ∙ w ∙ sym v),
  )

  pub both-PadR : (x y : Aff) (d e g h : Term) → g ≡ d → h ≡ e → a ≡ PadR x d → b ≡ PadR y e → IsTrue f ↔ (x ≡ y)
      → IsTrue r ↔ (IsTrue f × (g ≡ h)) → IsTrue r ↔ (a ≡ b)
  both-PadR x y d e g h u v p q k l = (
    λ t. let s = l.0 t in let z = k.0 s.0 in let w = sym u ∙ s.1 ∙ v in p ∙ (λ i. PadR (z i) (w i)) ∙ sym q,
    λ t. let s : pad_r x d ≡ pad_r y e = sym (PadR-is x d) ∙ sym p ∙ t ∙ q ∙ PadR-is y e in
        let z : x ≡ y = cc in let w : d ≡ e = ap first_part s in l.1 (k.1 z, u ∙ w ∙ sym v),
  )

  pub both-Guard : (x y : Cond) (d e g h : Term) → g ≡ d → h ≡ e → a ≡ Guard x d → b ≡ Guard y e → IsTrue f ↔ (x ≡ y)
      → IsTrue r ↔ (IsTrue f × (g ≡ h)) → IsTrue r ↔ (a ≡ b)
  both-Guard x y d e g h u v p q k l = (
    λ t. let s = l.0 t in let z = k.0 s.0 in let w = sym u ∙ s.1 ∙ v in p ∙ (λ i. Guard (z i) (w i)) ∙ sym q,
    λ t. let s : guard x d ≡ guard y e = sym (Guard-is x d) ∙ sym p ∙ t ∙ q ∙ Guard-is y e in
        let z : x ≡ y = cc in let w : d ≡ e = ap first_part s in l.1 (k.1 z, u ∙ w ∙ sym v),
  )

  pub both-Let : (x y d e x' y' g h : Term) → x' ≡ x → y' ≡ y → g ≡ d → h ≡ e → a ≡ Let x d → b ≡ Let y e → IsTrue f ↔ (x' ≡ y')
      → IsTrue r ↔ (IsTrue f × (g ≡ h)) → IsTrue r ↔ (a ≡ b)
  both-Let x y d e x' y' g h m n u v p q k l = (
    λ t. let s = l.0 t in let z = sym m ∙ k.0 s.0 ∙ n in let w = sym u ∙ s.1 ∙ v in p ∙ (λ i. Let (z i) (w i)) ∙ sym q,
    λ t. let s : let_in x d ≡ let_in y e = sym (Let-is x d) ∙ sym p ∙ t ∙ q ∙ Let-is y e in
        let z : x ≡ y = ap first_part s in let w : d ≡ e = ap last_part s in l.1 (k.1 (m ∙ z ∙ sym n), u ∙ w ∙ sym v),
  )

  pub both-Add : (x y d e x' y' g h : Term) → x' ≡ x → y' ≡ y → g ≡ d → h ≡ e → a ≡ Add x d → b ≡ Add y e → IsTrue f ↔ (x' ≡ y')
      → IsTrue r ↔ (IsTrue f × (g ≡ h)) → IsTrue r ↔ (a ≡ b)
  both-Add x y d e x' y' g h m n u v p q k l = (
    λ t. let s = l.0 t in let z = sym m ∙ k.0 s.0 ∙ n in let w = sym u ∙ s.1 ∙ v in p ∙ (λ i. Add (z i) (w i)) ∙ sym q,
    λ t. let s : add x d ≡ add y e = sym (Add-is x d) ∙ sym p ∙ t ∙ q ∙ Add-is y e in
        let z : x ≡ y = ap first_part s in let w : d ≡ e = ap last_part s in l.1 (k.1 (m ∙ z ∙ sym n), u ∙ w ∙ sym v),
  )

  pub both-Sub : (x y d e x' y' g h : Term) → x' ≡ x → y' ≡ y → g ≡ d → h ≡ e → a ≡ Sub x d → b ≡ Sub y e → IsTrue f ↔ (x' ≡ y')
      → IsTrue r ↔ (IsTrue f × (g ≡ h)) → IsTrue r ↔ (a ≡ b)
  both-Sub x y d e x' y' g h m n u v p q k l = (
    λ t. let s = l.0 t in let z = sym m ∙ k.0 s.0 ∙ n in let w = sym u ∙ s.1 ∙ v in p ∙ (λ i. Sub (z i) (w i)) ∙ sym q,
    λ t. let s : sub x d ≡ sub y e = sym (Sub-is x d) ∙ sym p ∙ t ∙ q ∙ Sub-is y e in
        let z : x ≡ y = ap first_part s in let w : d ≡ e = ap last_part s in l.1 (k.1 (m ∙ z ∙ sym n), u ∙ w ∙ sym v),
  )

  pub both-Mul : (x y d e x' y' g h : Term) → x' ≡ x → y' ≡ y → g ≡ d → h ≡ e → a ≡ Mul x d → b ≡ Mul y e → IsTrue f ↔ (x' ≡ y')
      → IsTrue r ↔ (IsTrue f × (g ≡ h)) → IsTrue r ↔ (a ≡ b)
  both-Mul x y d e x' y' g h m n u v p q k l = (
    λ t. let s = l.0 t in let z = sym m ∙ k.0 s.0 ∙ n in let w = sym u ∙ s.1 ∙ v in p ∙ (λ i. Mul (z i) (w i)) ∙ sym q,
    λ t. let s : mul x d ≡ mul y e = sym (Mul-is x d) ∙ sym p ∙ t ∙ q ∙ Mul-is y e in
        let z : x ≡ y = ap first_part s in let w : d ≡ e = ap last_part s in l.1 (k.1 (m ∙ z ∙ sym n), u ∙ w ∙ sym v),
  )

  pub both-Concat : (x y d e x' y' g h : Term) → x' ≡ x → y' ≡ y → g ≡ d → h ≡ e → a ≡ Concat x d → b ≡ Concat y e → IsTrue f ↔ (x' ≡ y')
      → IsTrue r ↔ (IsTrue f × (g ≡ h)) → IsTrue r ↔ (a ≡ b)
  both-Concat x y d e x' y' g h m n u v p q k l = (
    λ t. let s = l.0 t in let z = sym m ∙ k.0 s.0 ∙ n in let w = sym u ∙ s.1 ∙ v in p ∙ (λ i. Concat (z i) (w i)) ∙ sym q,
    λ t. let s : concat x d ≡ concat y e = sym (Concat-is x d) ∙ sym p ∙ t ∙ q ∙ Concat-is y e in
        let z : x ≡ y = ap first_part s in let w : d ≡ e = ap last_part s in l.1 (k.1 (m ∙ z ∙ sym n), u ∙ w ∙ sym v),
  )

  pub both-Flatten : (d e g h : Term) → g ≡ d → h ≡ e → a ≡ Flatten d → b ≡ Flatten e → IsTrue r ↔ (g ≡ h) → IsTrue r ↔ (a ≡ b)
  both-Flatten d e g h u v p q l = (
    λ t. p ∙ ap Flatten (sym u ∙ l.0 t ∙ v) ∙ sym q,
    λ t. let s : flatten d ≡ flatten e = sym (Flatten-is d) ∙ sym p ∙ t ∙ q ∙ Flatten-is e in l.1 (u ∙ ap first_part s ∙ sym v),
  )

  pub both-Transpose : (d e g h : Term) → g ≡ d → h ≡ e → a ≡ Transpose d → b ≡ Transpose e → IsTrue r ↔ (g ≡ h) → IsTrue r ↔ (a ≡ b)
  both-Transpose d e g h u v p q l = (
    λ t. p ∙ ap Transpose (sym u ∙ l.0 t ∙ v) ∙ sym q,
    λ t. let s : transpose d ≡ transpose e = sym (Transpose-is d) ∙ sym p ∙ t ∙ q ∙ Transpose-is e in l.1 (u ∙ ap first_part s ∙ sym v),
  )
