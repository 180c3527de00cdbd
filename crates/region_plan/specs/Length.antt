-- The form of a length: one normal form, and at most one larger of two lengths.
use Rattle.std.specs.Prelude.{ℕ, List, [], Bool, false, ◌&&◌, if◌then◌else◌, ℤ, pos, ◌+ℤ◌, Ok, Some, None}
use Rattle.affine_index.specs.Form.{literal_form}
use Rattle.affine_index.specs.Sum.{sum_of}
use Rattle.affine_index.specs.Value.{items_value}
use Rattle.affine_index.specs.declared.form.Items.{Items}
use Rattle.index_trees.specs.Tree.{tree_after}
use Rattle.loop_lang.specs.declared.index.Iexp.{Iexp}
use Rattle.loop_lang.specs.declared.index.Iexp.TheVariants as index
use Rattle.loop_lang.specs.Reckoning.{larger}
use Rattle.reindexer.specs.Limited.{Limited, and_then, limited}
use Rattle.term_tree.specs.Shape.{same_form}
use Rattle.region_plan.specs.declared.length.Length.{Length, Plain}
use Rattle.region_plan.specs.Syntax.{topped}

abbrev pub zero_form : Items
zero_form = literal_form (pos 0)

-- whether two lengths are one form
abbrev pub same_length : Length → Length → Bool
same_length (Plain x) (Plain y) = same_form x y
same_length (Plain x) (topped y c d) = false
same_length (topped x a b) (Plain y) = false
same_length (topped x a b) (topped y c d) = same_form x y && (same_length a c && same_length b d)

-- whether it is the form 0
abbrev pub is_nothing : Length → Bool
is_nothing (Plain x) = same_form x zero_form
is_nothing (topped x a b) = false

-- the larger of two lengths: either, where they are equal; the other, where one is 0; else the larger of both in this order
abbrev pub larger_of : Length → Length → Length
larger_of a b =
    if same_length a b then a
    else (if is_nothing a then b
    else (if is_nothing b then a else topped zero_form a b))

-- a length with so many words more, which are added to its normal form
abbrev pub longer : Items → Length → Limited Length
longer n (Plain x) = and_then (limited (sum_of n x)) (λ y. Ok (Plain y))
longer n (topped x a b) = and_then (limited (sum_of n x)) (λ y. Ok (topped y a b))

-- its value at sizes s
abbrev pub length_value : List ℕ → Length → ℤ
length_value s (Plain x) = items_value s [] x
length_value s (topped x a b) = larger (length_value s a) (length_value s b) +ℤ items_value s [] x

-- the tree that a length prints as: the larger first, then the items of the normal form
abbrev pub length_tree : Length → Iexp
length_tree (Plain x) = tree_after 0 None x
length_tree (topped x a b) = tree_after 0 (Some (index.Larger (length_tree a) (length_tree b))) x
