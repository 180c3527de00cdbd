-- Words, at terms as code has them.
use Rattle.std.proofs.Common.{◌≡◌, ℕ, ◌+◌, ◌*◌, ◌<◌, [], ap, sym, ◌∙◌, subst, arith, ◌⊎◌, inl, inr}
use Rattle.affine_index.specs.declared.aff.Aff.{Aff}
use Rattle.affine_index.specs.declared.cond.Cond.{Cond}
use Rattle.loop_lang.specs.declared.word.Wexp.TheVariants as word
use Rattle.term_tree.specs.Counts.{node_count}
use Rattle.term_tree.specs.declared.term.Term.{Term, TVar}
use Rattle.term_tree.specs.declared.term.Term.TheVariants.{Index, Gen, Sum, Guard, Let, Add, Sub, Mul, Concat, Flatten, Split, Transpose, TruncL, TruncR, PadL}
use Rattle.term_tree.specs.declared.term.Term.TheVariants.{PadR}
use Rattle.term_tree.specs.Syntax.{index, guard, add, sub, mul}
use Rattle.term_tree.proofs.Forms.{Index-is, Gen-is, Sum-is, Guard-is, Let-is, Add-is, Sub-is, Mul-is, Concat-is, Flatten-is, Split-is, Transpose-is, TruncL-is}
use Rattle.term_tree.proofs.Forms.{TruncR-is, PadL-is, PadR-is}
use Rattle.final_rules.specs.declared.printing.Scene.{Scene}
use Rattle.final_rules.specs.Form.{read_under}
use Rattle.lowering.specs.Made.{ReadMadeIf, WordMade}
use Rattle.lowering.specs.Words.{chosen_in, loaded_if_in, word_in}

module _ (sc : Scene) (loops : ℕ) where
  pub word-Index : (e : Term) (x : Aff) → word_in sc loops (Index e x) ≡ loaded_if_in sc loops (read_under (Index e x) [])
  word-Index e x = ap (word_in sc loops) (Index-is e x) ∙ ap (λ f. loaded_if_in sc loops (read_under f [])) (sym (Index-is e x))

  pub word-Guard : (c : Cond) (e : Term) → word_in sc loops (Guard c e) ≡ chosen_in sc loops c e
  word-Guard c e = ap (word_in sc loops) (Guard-is c e)

  pub word-Let : (a b : Term) → word_in sc loops (Let a b) ≡ word.Lit 0
  word-Let a b = ap (word_in sc loops) (Let-is a b)

  pub word-Add : (a b : Term) → word_in sc loops (Add a b) ≡ word.Add (word_in sc loops a) (word_in sc loops b)
  word-Add a b = ap (word_in sc loops) (Add-is a b)

  pub word-Sub : (a b : Term) → word_in sc loops (Sub a b) ≡ word.Sub (word_in sc loops a) (word_in sc loops b)
  word-Sub a b = ap (word_in sc loops) (Sub-is a b)

  pub word-Mul : (a b : Term) → word_in sc loops (Mul a b) ≡ word.Mul (word_in sc loops a) (word_in sc loops b)
  word-Mul a b = ap (word_in sc loops) (Mul-is a b)

  pub word-Concat : (a b : Term) → word_in sc loops (Concat a b) ≡ word.Lit 0
  word-Concat a b = ap (word_in sc loops) (Concat-is a b)

  pub word-Gen : (n : Aff) (e : Term) → word_in sc loops (Gen n e) ≡ word.Lit 0
  word-Gen n e = ap (word_in sc loops) (Gen-is n e)

  pub word-Sum : (n : Aff) (e : Term) → word_in sc loops (Sum n e) ≡ word.Lit 0
  word-Sum n e = ap (word_in sc loops) (Sum-is n e)

  pub word-Flatten : (e : Term) → word_in sc loops (Flatten e) ≡ word.Lit 0
  word-Flatten e = ap (word_in sc loops) (Flatten-is e)

  pub word-Split : (k : ℕ) (e : Term) → word_in sc loops (Split k e) ≡ word.Lit 0
  word-Split k e = ap (word_in sc loops) (Split-is k e)

  pub word-Transpose : (e : Term) → word_in sc loops (Transpose e) ≡ word.Lit 0
  word-Transpose e = ap (word_in sc loops) (Transpose-is e)

  pub word-TruncL : (n : Aff) (e : Term) → word_in sc loops (TruncL n e) ≡ word.Lit 0
  word-TruncL n e = ap (word_in sc loops) (TruncL-is n e)

  pub word-TruncR : (n : Aff) (e : Term) → word_in sc loops (TruncR n e) ≡ word.Lit 0
  word-TruncR n e = ap (word_in sc loops) (TruncR-is n e)

  pub word-PadL : (n : Aff) (e : Term) → word_in sc loops (PadL n e) ≡ word.Lit 0
  word-PadL n e = ap (word_in sc loops) (PadL-is n e)

  pub word-PadR : (n : Aff) (e : Term) → word_in sc loops (PadR n e) ≡ word.Lit 0
  word-PadR n e = ap (word_in sc loops) (PadR-is n e)

-- a sum, a difference or a product of two words
abbrev pub IsTwo : Term → Term → Term → Type 0
IsTwo f a b = (f ≡ Add a b) ⊎ ((f ≡ Sub a b) ⊎ (f ≡ Mul a b))

-- a read, by its outermost node
abbrev pub IsRead : Term → Type 0
IsRead f = ((q : ℕ) × (f ≡ TVar q)) ⊎ ((e : Term) × (x : Aff) × (f ≡ Index e x))

module _ (sc : Scene) (loops : ℕ) where
  pub guard-word : (f : Term) (c : Cond) (e g : Term) → g ≡ e → f ≡ Guard c e → chosen_in sc loops c g ≡ word_in sc loops f
  guard-word f c e g r q = ap (chosen_in sc loops c) r ∙ ap (word_in sc loops) (sym (q ∙ Guard-is c e))

  pub add-word : (f a b c d : Term) → c ≡ a → d ≡ b → f ≡ Add a b → word.Add (word_in sc loops c) (word_in sc loops d) ≡ word_in sc loops f
  add-word f a b c d r o q = (λ i. word.Add (word_in sc loops (r i)) (word_in sc loops (o i))) ∙ ap (word_in sc loops) (sym (q ∙ Add-is a b))

  pub sub-word : (f a b c d : Term) → c ≡ a → d ≡ b → f ≡ Sub a b → word.Sub (word_in sc loops c) (word_in sc loops d) ≡ word_in sc loops f
  sub-word f a b c d r o q = (λ i. word.Sub (word_in sc loops (r i)) (word_in sc loops (o i))) ∙ ap (word_in sc loops) (sym (q ∙ Sub-is a b))

  pub mul-word : (f a b c d : Term) → c ≡ a → d ≡ b → f ≡ Mul a b → word.Mul (word_in sc loops c) (word_in sc loops d) ≡ word_in sc loops f
  mul-word f a b c d r o q = (λ i. word.Mul (word_in sc loops (r i)) (word_in sc loops (o i))) ∙ ap (word_in sc loops) (sym (q ∙ Mul-is a b))

module _ (sc : Scene) where
  pub guard-made : (f : Term) (c : Cond) (e g : Term) → g ≡ e → f ≡ Guard c e → WordMade sc f → WordMade sc g
  guard-made f c e g k q h = let p : WordMade sc (guard c e) = subst (WordMade sc) (q ∙ Guard-is c e) h in subst (WordMade sc) (sym k) p

  pub read-made : (f : Term) → IsRead f → WordMade sc f → ReadMadeIf sc (read_under f [])
  read-made f (inl q) h = let p : WordMade sc (TVar q.0) = subst (WordMade sc) q.1 h in subst (λ g. ReadMadeIf sc (read_under g [])) (sym q.1) p
  read-made f (inr q) h =
      let e = q.2 ∙ Index-is q.0 q.1 in
      let p : WordMade sc (index q.0 q.1) = subst (WordMade sc) e h in subst (λ g. ReadMadeIf sc (read_under g [])) (sym e) p

  pub two-made : (f a b c d : Term) → c ≡ a → d ≡ b → IsTwo f a b → WordMade sc f → WordMade sc c × WordMade sc d
  two-made f a b c d k l (inl q) h =
      let p : WordMade sc (add a b) = subst (WordMade sc) (q ∙ Add-is a b) h in (subst (WordMade sc) (sym k) p.0, subst (WordMade sc) (sym l) p.1)
  two-made f a b c d k l (inr (inl q)) h =
      let p : WordMade sc (sub a b) = subst (WordMade sc) (q ∙ Sub-is a b) h in (subst (WordMade sc) (sym k) p.0, subst (WordMade sc) (sym l) p.1)
  two-made f a b c d k l (inr (inr q)) h =
      let p : WordMade sc (mul a b) = subst (WordMade sc) (q ∙ Mul-is a b) h in (subst (WordMade sc) (sym k) p.0, subst (WordMade sc) (sym l) p.1)

pub guard-less : (f : Term) (c : Cond) (e g : Term) → g ≡ e → f ≡ Guard c e → 2 * node_count g + 1 < 2 * node_count f
guard-less f c e g r q = let n : node_count f ≡ node_count e + 1 = ap node_count (q ∙ Guard-is c e) in omega (arith, n, ap node_count r)

pub two-less : (f a b c d : Term) → c ≡ a → d ≡ b → IsTwo f a b → 2 * (node_count c + node_count d) + 1 < 2 * node_count f
two-less f a b c d r o (inl q) = let n : node_count f ≡ node_count a + node_count b + 1 = ap node_count (q ∙ Add-is a b) in omega
    (arith, n, ap node_count r, ap node_count o)
two-less f a b c d r o (inr (inl q)) = let n : node_count f ≡ node_count a + node_count b + 1 = ap node_count (q ∙ Sub-is a b) in omega
    (arith, n, ap node_count r, ap node_count o)
two-less f a b c d r o (inr (inr q)) = let n : node_count f ≡ node_count a + node_count b + 1 = ap node_count (q ∙ Mul-is a b) in omega
    (arith, n, ap node_count r, ap node_count o)

pub falls : {m n t : ℕ} → n ≡ t → m < n → m < t
falls {m} e l = subst (λ k. m < k) e l

pub ruleset word_forms = (
  word-Index,
  word-Guard,
  word-Let,
  word-Add,
  word-Sub,
  word-Mul,
  word-Concat,
  word-Gen,
  word-Sum,
  word-Flatten,
  word-Split,
  word-Transpose,
  word-TruncL,
  word-TruncR,
  word-PadL,
  word-PadR,
)
