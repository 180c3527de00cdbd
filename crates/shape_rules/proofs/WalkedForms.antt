-- What a walk finds at each form that code matches on.
use Rattle.std.proofs.Common.{◌≡◌, ℕ, ◌⊎◌, inl, inr, List, [], ◌∷◌, ◌++◌, append_assoc, ap, subst, sym, ◌∙◌, Result, Ok, Err, OnOk, IsOk}
use Rattle.affine_index.specs.declared.aff.Aff.{Aff}
use Rattle.affine_index.specs.declared.cond.Cond.{Cond}
use Rattle.affine_index.specs.declared.form.Items.{Items}
use Rattle.term_tree.specs.declared.term.Term.{Term}
use Rattle.term_tree.specs.declared.term.Term.TheOpen.{Term-F}
use Rattle.term_tree.specs.declared.term.Term.TheFolds.{fold-roll-Term}
use Rattle.term_tree.specs.declared.term.Term.TheVariants.{Index, Gen, Sum, Guard, Let, Add, Sub, Mul, Concat, Flatten, Split, Transpose, TruncL, TruncR, PadL}
use Rattle.term_tree.specs.declared.term.Term.TheVariants.{PadR, rolls-Index, rolls-Gen, rolls-Sum, rolls-Guard, rolls-Let, rolls-Add, rolls-Sub, rolls-Mul}
use Rattle.term_tree.specs.declared.term.Term.TheVariants.{rolls-Concat, rolls-Flatten, rolls-Split, rolls-Transpose, rolls-TruncL, rolls-TruncR, rolls-PadL}
use Rattle.term_tree.specs.declared.term.Term.TheVariants.{rolls-PadR}
use Rattle.term_tree.specs.Goals.{extents_or_none}
use Rattle.term_tree.specs.Shape.{Extents, of_concat, of_equal, of_words}
use Rattle.shape_rules.specs.Faults.{IsAnswer}
use Rattle.shape_rules.specs.Rules.{columns_shape, fewer_shape, flat_shape, more_shape, row_shape, rows_shape, same_shape, tiled_shape}
use Rattle.shape_rules.specs.Walked.{Walked, Walking, cut_goals, one, two, walked, walked_step}
use Rattle.shape_rules.specs.declared.fault.Trouble.{Trouble}

pub walked-Index : (e : Term) (x : Aff) (ts : List Extents) → walked (Index e x) ts ≡ one (walked e ts) row_shape []
walked-Index e x ts = ap (λ f. f ts) (ap walked (sym (rolls-Index e x)) ∙ fold-roll-Term Walking walked_step (Term-F.Index e x))

pub walked-Gen : (n : Aff) (e : Term) (ts : List Extents) → walked (Gen n e) ts ≡ one (walked e ts) (rows_shape n) (n ∷ [])
walked-Gen n e ts = ap (λ f. f ts) (ap walked (sym (rolls-Gen n e)) ∙ fold-roll-Term Walking walked_step (Term-F.Gen n e))

pub walked-Sum : (n : Aff) (e : Term) (ts : List Extents) → walked (Sum n e) ts ≡ one (walked e ts) same_shape (n ∷ [])
walked-Sum n e ts = ap (λ f. f ts) (ap walked (sym (rolls-Sum n e)) ∙ fold-roll-Term Walking walked_step (Term-F.Sum n e))

pub walked-Guard : (c : Cond) (e : Term) (ts : List Extents) → walked (Guard c e) ts ≡ one (walked e ts) same_shape []
walked-Guard c e ts = ap (λ f. f ts) (ap walked (sym (rolls-Guard c e)) ∙ fold-roll-Term Walking walked_step (Term-F.Guard c e))

pub walked-Flatten : (e : Term) (ts : List Extents) → walked (Flatten e) ts ≡ one (walked e ts) flat_shape []
walked-Flatten e ts = ap (λ f. f ts) (ap walked (sym (rolls-Flatten e)) ∙ fold-roll-Term Walking walked_step (Term-F.Flatten e))

pub walked-Split : (k : ℕ) (e : Term) (ts : List Extents) → walked (Split k e) ts ≡ one (walked e ts) (tiled_shape k) []
walked-Split k e ts = ap (λ f. f ts) (ap walked (sym (rolls-Split k e)) ∙ fold-roll-Term Walking walked_step (Term-F.Split k e))

pub walked-Transpose : (e : Term) (ts : List Extents) → walked (Transpose e) ts ≡ one (walked e ts) columns_shape []
walked-Transpose e ts = ap (λ f. f ts) (ap walked (sym (rolls-Transpose e)) ∙ fold-roll-Term Walking walked_step (Term-F.Transpose e))

pub walked-TruncL : (n : Aff) (e : Term) (ts : List Extents) → walked (TruncL n e) ts ≡ one (walked e ts) (fewer_shape n) (cut_goals n (walked e ts).shape)
walked-TruncL n e ts = ap (λ f. f ts) (ap walked (sym (rolls-TruncL n e)) ∙ fold-roll-Term Walking walked_step (Term-F.TruncL n e))

pub walked-TruncR : (n : Aff) (e : Term) (ts : List Extents) → walked (TruncR n e) ts ≡ one (walked e ts) (fewer_shape n) (cut_goals n (walked e ts).shape)
walked-TruncR n e ts = ap (λ f. f ts) (ap walked (sym (rolls-TruncR n e)) ∙ fold-roll-Term Walking walked_step (Term-F.TruncR n e))

pub walked-PadL : (n : Aff) (e : Term) (ts : List Extents) → walked (PadL n e) ts ≡ one (walked e ts) (more_shape n) (n ∷ [])
walked-PadL n e ts = ap (λ f. f ts) (ap walked (sym (rolls-PadL n e)) ∙ fold-roll-Term Walking walked_step (Term-F.PadL n e))

pub walked-PadR : (n : Aff) (e : Term) (ts : List Extents) → walked (PadR n e) ts ≡ one (walked e ts) (more_shape n) (n ∷ [])
walked-PadR n e ts = ap (λ f. f ts) (ap walked (sym (rolls-PadR n e)) ∙ fold-roll-Term Walking walked_step (Term-F.PadR n e))

pub walked-Add : (a b : Term) (ts : List Extents) → walked (Add a b) ts ≡ two (walked a ts) (walked b ts) of_equal
walked-Add a b ts = ap (λ f. f ts) (ap walked (sym (rolls-Add a b)) ∙ fold-roll-Term Walking walked_step (Term-F.Add a b))

pub walked-Sub : (a b : Term) (ts : List Extents) → walked (Sub a b) ts ≡ two (walked a ts) (walked b ts) of_equal
walked-Sub a b ts = ap (λ f. f ts) (ap walked (sym (rolls-Sub a b)) ∙ fold-roll-Term Walking walked_step (Term-F.Sub a b))

pub walked-Mul : (a b : Term) (ts : List Extents) → walked (Mul a b) ts ≡ two (walked a ts) (walked b ts) of_words
walked-Mul a b ts = ap (λ f. f ts) (ap walked (sym (rolls-Mul a b)) ∙ fold-roll-Term Walking walked_step (Term-F.Mul a b))

pub walked-Concat : (a b : Term) (ts : List Extents) → walked (Concat a b) ts ≡ two (walked a ts) (walked b ts) of_concat
walked-Concat a b ts = ap (λ f. f ts) (ap walked (sym (rolls-Concat a b)) ∙ fold-roll-Term Walking walked_step (Term-F.Concat a b))

pub walked-Let : (a b : Term) (ts : List Extents)
    → walked (Let a b) ts ≡ two (walked a ts) (walked b (extents_or_none (walked a ts).shape ∷ ts)) (λ ns ms. Ok ms)
walked-Let a b ts = ap (λ f. f ts) (ap walked (sym (rolls-Let a b)) ∙ fold-roll-Term Walking walked_step (Term-F.Let a b))

pub told_shape : (w v : Walked) (result : Result Extents Trouble) → w ≡ v → IsAnswer v.shape result → IsAnswer w.shape result
told_shape w v result e h = subst (λ (w : Walked). IsAnswer w.shape result) (sym e) h

pub told_goals : (w v : Walked) (result : Result Extents Trouble) (g0 g1 : List Items) → w ≡ v → OnOk result (g1 ≡ g0 ++ v.goals)
    → OnOk result (g1 ≡ g0 ++ w.goals)
told_goals w v result g0 g1 e h = subst (λ (w : Walked). OnOk result (g1 ≡ g0 ++ w.goals)) (sym e) h

-- the goals of the first operand, then those of the second
pub two_goals : {T : Type 0} (result : Result Extents Trouble) (both : Result T Trouble) (child : Result Extents Trouble) (g0 g1 g2 ga gb : List Items)
    → OnOk result (IsOk both) → OnOk both (IsOk child)
    → OnOk child (g1 ≡ g0 ++ ga) → OnOk both (g2 ≡ g1 ++ gb) → OnOk result (g2 ≡ g0 ++ (ga ++ gb))
two_goals (Ok ms) (Ok o) (Ok ns) g0 g1 g2 ga gb h i j k = k ∙ ap (λ g. g ++ gb) j ∙ append_assoc g0 ga gb
two_goals {T} (Ok ms) (Ok o) (Err t) g0 g1 g2 ga gb h i j k = absurd (let q : IsOk {T = Extents} (Err t) = i in cc)
two_goals {T} (Ok ms) (Err t) child g0 g1 g2 ga gb h i j k = absurd (let q : IsOk {T = T} (Err t) = h in cc)
two_goals (Err t) both child g0 g1 g2 ga gb h i j k = tt

-- the same of a form that is one of two, with the operands as they were read
pub padded : (t : Term) (n : Aff) (e e' : Term) (ts : List Extents) → (t ≡ PadL n e) ⊎ (t ≡ PadR n e) → e' ≡ e
    → walked t ts ≡ one (walked e' ts) (more_shape n) (n ∷ [])
padded t n e e' ts (inl h) g = ap (λ t. walked t ts) h ∙ walked-PadL n e ts ∙ ap (λ e. one (walked e ts) (more_shape n) (n ∷ [])) (sym g)
padded t n e e' ts (inr h) g = ap (λ t. walked t ts) h ∙ walked-PadR n e ts ∙ ap (λ e. one (walked e ts) (more_shape n) (n ∷ [])) (sym g)

pub added : (t a b a' b' : Term) (ts : List Extents) → (t ≡ Add a b) ⊎ (t ≡ Sub a b) → a' ≡ a → b' ≡ b
    → walked t ts ≡ two (walked a' ts) (walked b' ts) of_equal
added t a b a' b' ts (inl h) f g = ap (λ t. walked t ts) h ∙ walked-Add a b ts ∙ (λ i. two (walked (sym f i) ts) (walked (sym g i) ts) of_equal)
added t a b a' b' ts (inr h) f g = ap (λ t. walked t ts) h ∙ walked-Sub a b ts ∙ (λ i. two (walked (sym f i) ts) (walked (sym g i) ts) of_equal)

pub multiplied : (t a b a' b' : Term) (ts : List Extents) → t ≡ Mul a b → a' ≡ a → b' ≡ b → walked t ts ≡ two (walked a' ts) (walked b' ts) of_words
multiplied t a b a' b' ts h f g = ap (λ t. walked t ts) h ∙ walked-Mul a b ts ∙ (λ i. two (walked (sym f i) ts) (walked (sym g i) ts) of_words)

pub joined_rows : (t a b a' b' : Term) (ts : List Extents) → t ≡ Concat a b → a' ≡ a → b' ≡ b → walked t ts ≡ two (walked a' ts) (walked b' ts) of_concat
joined_rows t a b a' b' ts h f g = ap (λ t. walked t ts) h ∙ walked-Concat a b ts ∙ (λ i. two (walked (sym f i) ts) (walked (sym g i) ts) of_concat)

pub bound_in : (t a b a' b' : Term) (ts : List Extents) → t ≡ Let a b → a' ≡ a → b' ≡ b
    → walked t ts ≡ two (walked a' ts) (walked b' (extents_or_none (walked a' ts).shape ∷ ts)) (λ ns ms. Ok ms)
bound_in t a b a' b' ts h f g =
    ap (λ t. walked t ts) h ∙ walked-Let a b ts
    ∙ (λ i. two (walked (sym f i) ts) (walked (sym g i) (extents_or_none (walked (sym f i) ts).shape ∷ ts)) (λ ns ms. Ok ms))

-- the goals of a definition, then those of the body
pub let_goals : (result child : Result Extents Trouble) (g0 g1 g2 ga gb : List Items) → OnOk result (IsOk child) → OnOk child (g1 ≡ g0 ++ ga)
    → OnOk result (g2 ≡ g1 ++ gb) → OnOk result (g2 ≡ g0 ++ (ga ++ gb))
let_goals (Ok ms) (Ok ns) g0 g1 g2 ga gb h i j = j ∙ ap (λ g. g ++ gb) i ∙ append_assoc g0 ga gb
let_goals (Ok ms) (Err t) g0 g1 g2 ga gb h i j = absurd (let q : IsOk {T = Extents} (Err t) = h in cc)
let_goals (Err t) child g0 g1 g2 ga gb h i j = tt
