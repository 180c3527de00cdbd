-- What is made of forms that may be missing.
use Rattle.std.proofs.Common.{◌≡◌, ◌⊎◌, inl, inr, List, [], ◌∷◌, ◌++◌, append_assoc, refl, ap, sym, ◌∙◌, Option, Some, None}
use Rattle.std.proofs.lemmas.List.{append-nil}
use Rattle.affine_index.specs.declared.cond.Cmp.{Cmp}
use Rattle.fact_list.proofs.CodeLaws.{kept-ok, kept-large, kept-long, product-apart, product-both}
use Rattle.script_arguments.specs.Forms.{in_front, of_two}

pub ruleset limit_laws = (kept-ok, kept-large, kept-long, product-apart, product-both)

module _ {A B : Type 0} (f : A → A → Option B) where
  pub two-none : (a b : Option A) → (a ≡ None) ⊎ (b ≡ None) → None ≡ of_two f a b
  two-none None b h = refl
  two-none (Some x) None h = refl
  two-none (Some x) (Some y) h = elim h [ inl e ↦ absurd (cc) | inr e ↦ absurd (cc) ]

  pub two-some : (a b : Option A) (x y : A) → a ≡ Some x → b ≡ Some y → of_two f a b ≡ f x y
  two-some a b x y e g = λ i. of_two f (e i) (g i)

pub ruleset pair_laws = (two-none, two-some)

-- comparisons behind others, where they are there
abbrev pub behind : List Cmp → Option (List Cmp) → Option (List Cmp)
behind found (Some cs) = Some (found ++ cs)
behind found None = None

pub behind-nothing : (o : Option (List Cmp)) → behind [] o ≡ o
behind-nothing (Some cs) = refl
behind-nothing None = refl

pub behind-more : (found all : List Cmp) (c : Cmp) (o : Option Cmp) (cs : Option (List Cmp)) → all ≡ found ++ c ∷ [] → o ≡ Some c
    → behind all cs ≡ behind found (in_front o cs)
behind-more found all c o (Some cs) e g = (λ i. Some (e i ++ cs)) ∙ ap Some (append_assoc found (c ∷ []) cs)
    ∙ (λ i. behind found (in_front (sym g i) (Some cs)))
behind-more found all c o None e g = λ i. behind found (in_front (sym g i) None)

pub behind-missing : (found : List Cmp) (o : Option Cmp) (cs : Option (List Cmp)) → o ≡ None → None ≡ behind found (in_front o cs)
behind-missing found o cs e = λ i. behind found (in_front (sym e i) cs)

pub behind-done : (found cs : List Cmp) → cs ≡ [] → Some found ≡ behind found (Some cs)
behind-done found cs e = ap Some (sym (append-nil found)) ∙ (λ i. Some (found ++ sym e i))

pub ruleset list_laws = (behind-nothing, behind-more, behind-missing, behind-done)
