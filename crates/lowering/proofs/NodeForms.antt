-- Nodes as code walks them.
use Rattle.std.proofs.Common.{◌≡◌, ℕ, ◌+◌, ◌*◌, ◌<◌, ap, sym, ◌∙◌, refl, arith, Bool, true, ◌⊎◌, inl, inr}
use Rattle.affine_index.specs.declared.aff.Aff.{Aff}
use Rattle.affine_index.specs.declared.cond.Cond.{Cond}
use Rattle.term_tree.specs.Counts.{node_count}
use Rattle.term_tree.specs.declared.term.Term.{Term}
use Rattle.term_tree.specs.declared.term.Term.TheVariants.{Gen, Sum, Guard, Let, Add, Concat, Flatten, Split, Transpose, TruncL, TruncR, PadL, PadR}
use Rattle.term_tree.specs.Syntax.{gen, sum, guard, let_in, add, concat, flatten, split, transpose, trunc_l, trunc_r, pad_l, pad_r}
use Rattle.term_tree.proofs.Forms.{Gen-is, Sum-is, Guard-is, Let-is, Add-is, Concat-is, Flatten-is, Split-is, Transpose-is, TruncL-is, TruncR-is, PadL-is}
use Rattle.term_tree.proofs.Forms.{PadR-is}
use Rattle.lowering.specs.Nodes.{IsEnclosing, IsPlainPart}

abbrev pub IsRow : Term → Term → Type 0
IsRow f e = ((x : Aff) × (f ≡ Gen x e)) ⊎ ((x : Cond) × (f ≡ Guard x e))

pub row-enclosing : (f e g : Term) (adds : Bool) → g ≡ e → IsRow f e → IsEnclosing f g adds adds
row-enclosing f e g adds r (inl q) = inl (q.0, q.1 ∙ Gen-is q.0 e ∙ ap (gen q.0) (sym r), refl)
row-enclosing f e g adds r (inr q) = inr (inl (q.0, q.1 ∙ Guard-is q.0 e ∙ ap (guard q.0) (sym r), refl))

pub sum-enclosing : (f e g : Term) (x : Aff) (adds : Bool) → g ≡ e → f ≡ Sum x e → IsEnclosing f g adds true
sum-enclosing f e g x adds r q = inr (inr (x, q ∙ Sum-is x e ∙ ap (sum x) (sym r), refl))

abbrev pub IsReshaped : Term → Term → Type 0
IsReshaped f e = (f ≡ Flatten e) ⊎
    (((x : ℕ) × (f ≡ Split x e)) ⊎
    ((f ≡ Transpose e) ⊎
    (((x : Aff) × (f ≡ TruncL x e)) ⊎
    (((x : Aff) × (f ≡ TruncR x e)) ⊎
    (((x : Aff) × (f ≡ PadL x e)) ⊎
    (((x : Aff) × (f ≡ PadR x e))))))))

pub plain-of : (f e g : Term) → g ≡ e → IsReshaped f e → IsPlainPart f g
plain-of f e g r (inl q) = inl (q ∙ Flatten-is e ∙ ap flatten (sym r))
plain-of f e g r (inr (inl q)) = inr (inl (q.0, q.1 ∙ Split-is q.0 e ∙ ap (split q.0) (sym r)))
plain-of f e g r (inr (inr (inl q))) = inr (inr (inl (q ∙ Transpose-is e ∙ ap transpose (sym r))))
plain-of f e g r (inr (inr (inr (inl q)))) = inr (inr (inr (inl (q.0, q.1 ∙ TruncL-is q.0 e ∙ ap (trunc_l q.0) (sym r)))))
plain-of f e g r (inr (inr (inr (inr (inl q))))) = inr (inr (inr (inr (inl (q.0, q.1 ∙ TruncR-is q.0 e ∙ ap (trunc_r q.0) (sym r))))))
plain-of f e g r (inr (inr (inr (inr (inr (inl q)))))) = inr (inr (inr (inr (inr (inl (q.0, q.1 ∙ PadL-is q.0 e ∙ ap (pad_l q.0) (sym r)))))))
plain-of f e g r (inr (inr (inr (inr (inr (inr (q))))))) = inr (inr (inr (inr (inr (inr ((q.0, q.1 ∙ PadR-is q.0 e ∙ ap (pad_r q.0) (sym r))))))))

-- both parts are those of the node
pub let-of : (f a b c d : Term) → c ≡ a → d ≡ b → f ≡ Let a b → f ≡ let_in c d
let-of f a b c d r o e = e ∙ Let-is a b ∙ (λ i. let_in (sym r i) (sym o i))

pub add-of : (f a b c d : Term) → c ≡ a → d ≡ b → f ≡ Add a b → f ≡ add c d
add-of f a b c d r o e = e ∙ Add-is a b ∙ (λ i. add (sym r i) (sym o i))

pub concat-of : (f a b c d : Term) → c ≡ a → d ≡ b → f ≡ Concat a b → f ≡ concat c d
concat-of f a b c d r o e = e ∙ Concat-is a b ∙ (λ i. concat (sym r i) (sym o i))

-- the parts have fewer nodes
pub let-falls : (f a b : Term) → f ≡ let_in a b → 4 * (node_count a + node_count b) + 2 < 4 * node_count f
let-falls f a b e = let n : node_count f ≡ node_count a + node_count b + 1 = ap node_count e in omega (arith, n)

pub add-falls : (f a b : Term) → f ≡ add a b → 4 * (node_count a + node_count b) + 2 < 4 * node_count f
add-falls f a b e = let n : node_count f ≡ node_count a + node_count b + 1 = ap node_count e in omega (arith, n)

pub concat-falls : (f a b : Term) → f ≡ concat a b → 4 * (node_count a + node_count b) + 2 < 4 * node_count f
concat-falls f a b e = let n : node_count f ≡ node_count a + node_count b + 1 = ap node_count e in omega (arith, n)
