-- A length as the code makes it is the form that specs/ matches on.
use Rattle.std.proofs.Common.{◌≡◌, refl, sym, ap, ◌∙◌, false, ◌&&◌, subst, Result, Ok, IfOk, Some}
use denote.Hole.Carrier.{hidden}
use Rattle.affine_index.specs.declared.aff.Aff.{Aff}
use Rattle.region_plan.specs.declared.length.Length.{Length, Plain}
use Rattle.region_plan.specs.declared.length.Length.TheVariants.{Topped}
use Rattle.region_plan.specs.declared.length.Length.TheBlock.{shape-the_row-Length-0, hidden-the_row-Length-0}
use Rattle.affine_index.specs.Sum.{sum_of}
use Rattle.index_trees.specs.Tree.{tree_after}
use Rattle.loop_lang.specs.declared.index.Iexp.{Iexp}
use Rattle.loop_lang.specs.declared.index.Iexp.TheVariants as index
use Rattle.reindexer.specs.Limited.{and_then, limited}
use Rattle.term_tree.specs.Shape.{same_form}
use Rattle.region_plan.specs.Length.{is_nothing, length_tree, longer, same_length, zero_form}
use Rattle.region_plan.specs.Syntax.{topped}

pub Topped-is : (x : Aff) (a b : Length) → Topped x a b ≡ topped x a b
unfolding shape-the_row-Length-0 hidden-the_row-Length-0 hidden
Topped-is x a b = refl

module _ (x : Aff) (a b : Length) where
  pub same-Topped : (y : Aff) (c d : Length) → same_length (Topped x a b) (Topped y c d) ≡ (same_form x y && (same_length a c && same_length b d))
  same-Topped y c d i = same_length (Topped-is x a b i) (Topped-is y c d i)

  pub same-Plain-Topped : (y : Aff) → same_length (Plain y) (Topped x a b) ≡ false
  same-Plain-Topped y i = same_length (Plain y) (Topped-is x a b i)

  pub same-Topped-Plain : (y : Aff) → same_length (Topped x a b) (Plain y) ≡ false
  same-Topped-Plain y i = same_length (Topped-is x a b i) (Plain y)

  pub nothing-Topped : is_nothing (Topped x a b) ≡ false
  nothing-Topped i = is_nothing (Topped-is x a b i)

  pub longer-Topped : (n : Aff) → longer n (Topped x a b) ≡ and_then (limited (sum_of n x)) (λ y. Ok (Topped y a b))
  longer-Topped n = (λ i. longer n (Topped-is x a b i)) ∙ (λ i. and_then (limited (sum_of n x)) (λ y. Ok (sym (Topped-is y a b) i)))

  pub tree-Topped : length_tree (Topped x a b) ≡ tree_after 0 (Some (index.Larger (length_tree a) (length_tree b))) x
  tree-Topped i = length_tree (Topped-is x a b i)

-- the larger of two lengths as the code makes it
pub made : (x : Aff) (a b c d : Length) → x ≡ zero_form → c ≡ a → d ≡ b → Topped x c d ≡ topped zero_form a b
made x a b c d e f g = Topped-is x c d ∙ (λ i. topped (e i) (f i) (g i))

pub nothing_of : (l : Length) (x : Aff) (a b : Length) → l ≡ Topped x a b → false ≡ is_nothing l
nothing_of l x a b e = sym (ap is_nothing e ∙ nothing-Topped x a b)

pub plain_topped : (l m : Length) (y x : Aff) (a b : Length) → l ≡ Plain y → m ≡ Topped x a b → false ≡ same_length l m
plain_topped l m y x a b e f = sym ((λ i. same_length (e i) (f i)) ∙ same-Plain-Topped x a b y)

pub tree_of : (l : Length) (x : Aff) (a b : Length) (p q : Iexp) {E : Type 0} (r : Result Iexp E) → l ≡ Topped x a b → p ≡ length_tree a → q ≡ length_tree b
    → IfOk r (λ t. t ≡ tree_after 0 (Some (index.Larger p q)) x) → IfOk r (λ t. t ≡ length_tree l)
tree_of l x a b p q r e f g h =
    subst (λ (u : Iexp). IfOk r (λ t. t ≡ u)) ((λ i. tree_after 0 (Some (index.Larger (f i) (g i))) x) ∙ sym (tree-Topped x a b) ∙ sym (ap length_tree e)) h

pub ruleset length_forms = (same-Topped, same-Plain-Topped, same-Topped-Plain, nothing-Topped, longer-Topped, tree-Topped)
