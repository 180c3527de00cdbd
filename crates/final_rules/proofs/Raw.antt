-- Forms that are taken one by one are the forms without limits.
use Rattle.std.proofs.Common.{◌≡◌, List, [], ◌∷◌, refl, ap, ◌∙◌, Ok}
use Rattle.std.specs.Prelude.{pos}
use Rattle.affine_index.specs.Form.{literal_form}
use Rattle.affine_index.specs.Product.{product_of}
use Rattle.affine_index.specs.Sum.{sum_of}
use Rattle.affine_index.specs.declared.form.Items.{Items}
use Rattle.reindexer.specs.Indices.{indices_after}
use Rattle.reindexer.specs.Limited.{Limited, and_then, limited}
use Rattle.reindexer.specs.Places.{limited_indices, one_of_two, row_place, row_place_from}
use Rattle.reindexer.proofs.IndexLaws.{first_ok, indices_are, limited_is}
use Rattle.region_plan.specs.Needed.{words_form, words_from}
use Rattle.term_tree.specs.Shape.{Extents}
use Rattle.final_rules.specs.declared.read.Read.{Read}
use Rattle.final_rules.specs.Places.{Place, site_at, frames_at, length_form, length_from, row_form, row_from, read_form, store_form}
use Rattle.final_rules.specs.Printed.{behind, read_place, store_place}

same_answer : {A : Type 0} (x y : A) (r : Limited A) → r ≡ Ok x → r ≡ Ok y → x ≡ y
same_answer x y r h k = cc

pub plain-raw : (x z : Items) → limited x ≡ Ok z → x ≡ z
plain-raw x z e = limited_is x z e

one-raw : (x m y z : Items) → one_of_two x m y ≡ Ok z → sum_of (product_of x m) y ≡ z
one-raw x m y z h =
    let q = first_ok (limited (product_of x m)) (λ p. limited (sum_of p y)) z h in ap (λ p. sum_of p y) (limited_is (product_of x m) q.0 q.1)
    ∙ limited_is (sum_of q.0 y) z q.2

from-raw : (x : Items) (ds ys : List Items) (z : Items) → row_place_from x ds ys ≡ Ok z → row_from x ds ys ≡ z
from-raw x [] ys z h = same_answer x z (Ok x) refl h
from-raw x (d ∷ ds) [] z h = same_answer x z (Ok x) refl h
from-raw x (d ∷ ds) (y ∷ ys) z h =
    let q = first_ok (one_of_two x d y) (λ p. row_place_from p ds ys) z h in ap (λ p. row_from p ds ys) (one-raw x d y q.0 q.1) ∙ from-raw q.0 ds ys z q.2

row-raw : (ds xs : List Items) (z : Items) → row_place ds xs ≡ Ok z → row_form ds xs ≡ z
row-raw [] xs z h = same_answer (literal_form (pos 0)) z (Ok (literal_form (pos 0))) refl h
row-raw (d ∷ ds) [] z h = same_answer (literal_form (pos 0)) z (Ok (literal_form (pos 0))) refl h
row-raw (d ∷ ds) (x ∷ xs) z h = from-raw x ds xs z h

behind-raw : (offset : Items) (l : Limited Items) (x z : Items) → ((y : Items) → l ≡ Ok y → x ≡ y) → behind offset l ≡ Ok z → sum_of x offset ≡ z
behind-raw offset l x z t h =
    let q = first_ok l (λ y. limited (sum_of y offset)) z h in ap (λ y. sum_of y offset) (t q.0 q.1) ∙ limited_is (sum_of q.0 offset) z q.2

pub read-raw : (d : Read) (p : Place) (z : Items) → (read_place d p).form ≡ Ok z → read_form d p ≡ z
read-raw d p z h = let b = site_at p d.var in behind-raw b.offset (row_place b.extents d.indices) (row_form b.extents d.indices) z
    (row-raw b.extents d.indices) h

pub store-raw : (p : Place) (z : Items) → (store_place p).form ≡ Ok z → store_form p ≡ z
store-raw p z h =
    let fs = frames_at p in
    let ds = p.target.extents in
    behind-raw p.target.offset (and_then (limited_indices fs []) (row_place ds)) (row_form ds (indices_after fs [])) z
    (λ y e. let q = first_ok (limited_indices fs []) (row_place ds) y e in ap (row_form ds) (indices_are fs [] q.0 q.1) ∙ row-raw ds q.0 y q.2) h

from-words : (x : Items) (ns : Extents) (z : Items) → words_from x ns ≡ Ok z → length_from x ns ≡ z
from-words x [] z h = same_answer x z (Ok x) refl h
from-words x (n ∷ ns) z h =
    let q = first_ok (limited (product_of x n)) (λ y. words_from y ns) z h in ap (λ y. length_from y ns) (limited_is (product_of x n) q.0 q.1)
    ∙ from-words q.0 ns z q.2

pub words-raw : (ns : Extents) (z : Items) → words_form ns ≡ Ok z → length_form ns ≡ z
words-raw [] z h = same_answer (literal_form (pos 1)) z (Ok (literal_form (pos 1))) refl h
words-raw (n ∷ ns) z h = from-words n ns z h
