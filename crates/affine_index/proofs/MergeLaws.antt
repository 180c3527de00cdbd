-- One step of a sum of two lists of items.
use Rattle.std.proofs.Common.{◌≡◌, List, [], ◌∷◌, ◌++◌, append-nil, refl, ap, sym, ◌∙◌, Bool, true, false, Some, None}
use Rattle.std.specs.declared.cmp.Ordering.TheVariants.{Less, Equal, Greater}
use Rattle.affine_index.specs.Order.{atom_order}
use Rattle.affine_index.specs.Sum.{combined, item_if, merged, onto, onto_by}
use Rattle.affine_index.specs.Wide.{first_order}
use Rattle.affine_index.specs.declared.form.Atom.{Atom}
use Rattle.affine_index.specs.declared.form.Item.{Item}

item_if-append : (z : Bool) (t : Item Atom) (rest : List (Item Atom)) → item_if z t rest ≡ item_if z t [] ++ rest
item_if-append true t rest = refl
item_if-append false t rest = refl

combined-append : (a b : Item Atom) (rest : List (Item Atom)) → combined a b rest ≡ combined a b [] ++ rest
combined-append a b rest = item_if-append _ _ rest

pub take-Less : (a : Item Atom) (as' bs : List (Item Atom)) → first_order (a ∷ as') bs ≡ Some Less → merged (a ∷ as') bs ≡ a ∷ merged as' bs
take-Less a as' [] e = absurd (cc)
take-Less a as' (b ∷ bs) e = let f : atom_order a.atom b.atom ≡ Less = cc in ap (λ o. onto_by o a (merged as') b bs (onto a (merged as') bs)) f

pub take-Greater : (as' : List (Item Atom)) (b : Item Atom) (bs : List (Item Atom)) → first_order as' (b ∷ bs) ≡ Some Greater
    → merged as' (b ∷ bs) ≡ b ∷ merged as' bs
take-Greater [] b bs e = absurd (cc)
take-Greater (a ∷ as') b bs e = let f : atom_order a.atom b.atom ≡ Greater = cc in ap (λ o. onto_by o a (merged as') b bs (onto a (merged as') bs)) f

pub take-Equal : (a b : Item Atom) (as' bs : List (Item Atom)) → first_order (a ∷ as') (b ∷ bs) ≡ Some Equal
    → merged (a ∷ as') (b ∷ bs) ≡ combined a b [] ++ merged as' bs
take-Equal a b as' bs e = let f : atom_order a.atom b.atom ≡ Equal = cc in ap (λ o. onto_by o a (merged as') b bs (onto a (merged as') bs)) f
    ∙ combined-append a b (merged as' bs)

merged-nil : (as' : List (Item Atom)) → merged as' [] ≡ as'
merged-nil [] = refl
merged-nil (a ∷ as') = ap (λ t. a ∷ t) (merged-nil as')

pub merged-end : (as' bs : List (Item Atom)) → first_order as' bs ≡ None → merged as' bs ≡ as' ++ bs
merged-end [] bs e = refl
merged-end (a ∷ as') [] e = merged-nil (a ∷ as') ∙ sym (append-nil (a ∷ as'))
merged-end (a ∷ as') (b ∷ bs) e = absurd (cc)

pub ruleset merge_laws = (take-Less, take-Greater, take-Equal, merged-end)
