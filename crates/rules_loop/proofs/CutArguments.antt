-- The argument of a cut.
use Rattle.std.proofs.Common.{◌≡◌, List, [], ◌∷◌, length, get_or, refl, ap, ◌∙◌, arith, Bool, true, false, ◌&&◌, if◌then◌else◌, Some, None}
use Rattle.std.proofs.lemmas.Bool.{and_from}
use Rattle.affine_index.specs.Limited.{items_scoped}
use Rattle.affine_index.specs.Normal.{is_normal}
use Rattle.affine_index.specs.declared.form.Items.{Items}
use Rattle.fact_list.specs.Facts.{where_normal}
use Rattle.path_focus.specs.Outcome.{Meant, Unfit}
use Rattle.path_focus.specs.declared.place.Focus.{Focus}
use Rattle.path_focus.specs.declared.rule.Arg.{Arg}
use Rattle.path_focus.specs.declared.rule.Arg.TheVariants.{Ix, Cond, Law, TensorVar, Bad}
use Rattle.rules_loop.specs.Cuts.{further, with_cut}

-- a form that is within the limits, or not
where_some : (x i : Items) → Some i ≡ where_normal x → (i ≡ x) × (is_normal x ≡ true)
where_some x i h = by (is_normal x) refl h
  where
    by : (b : Bool) → is_normal x ≡ b → Some i ≡ (if b then Some x else None) → (i ≡ x) × (is_normal x ≡ true)
    by true e k = (cc, e)
    by false e k = absurd (cc)

where_none : (x : Items) → None ≡ where_normal x → is_normal x ≡ false
where_none x h = by (is_normal x) refl h
  where
    by : (b : Bool) → is_normal x ≡ b → None ≡ (if b then Some x else None) → is_normal x ≡ false
    by true e k = absurd (cc)
    by false e k = e

-- what an argument gives
choose : (m : Meant) (b : Bool) → b ≡ true → (if b then m else Unfit) ≡ m
choose m true h = refl
choose m false h = absurd (cc)

refuse : (m : Meant) (b : Bool) → b ≡ false → (if b then m else Unfit) ≡ Unfit
refuse m true h = absurd (cc)
refuse m false h = refl

last_false : (a b c : Bool) → c ≡ false → (a && (b && c)) ≡ false
last_false true true c h = h
last_false true false c h = refl
last_false false b c h = refl

first_false : (a b : Bool) → a ≡ false → (a && b) ≡ false
first_false true b h = absurd (cc)
first_false false b h = refl

pub the_index : (f : Focus) (as' : List Arg) (x i : Items) (g : Items → Meant) → as' ≡ Ix x ∷ [] → items_scoped (length f.facts.sizes) 0 x ≡ true
    → is_normal x ≡ true → Some i ≡ where_normal (further x) → (i ≡ further x) × (with_cut f as' g ≡ g x)
the_index f as' x i g e s n h =
    let k = where_some (further x) i h in (
      k.0,
      ap (λ as'. with_cut f as' g) e
          ∙ choose (g x) (items_scoped (length f.facts.sizes) 0 x && (is_normal x && is_normal (further x)))
          (and_from (items_scoped (length f.facts.sizes) 0 x) (is_normal x && is_normal (further x)) s (and_from (is_normal x) (is_normal (further x)) n k.1)),
    )

pub too_far : (f : Focus) (as' : List Arg) (x : Items) (g : Items → Meant) → as' ≡ Ix x ∷ [] → None ≡ where_normal (further x) → with_cut f as' g ≡ Unfit
too_far f as' x g e h =
    ap (λ as'. with_cut f as' g) e
    ∙ refuse (g x) (items_scoped (length f.facts.sizes) 0 x && (is_normal x && is_normal (further x)))
    (last_false (items_scoped (length f.facts.sizes) 0 x) (is_normal x) (is_normal (further x)) (where_none (further x) h))

-- an index that is not over sizes alone
pub over_variables : (f : Focus) (x : Items) (g : Items → Meant) → items_scoped (length f.facts.sizes) 0 x ≡ false → with_cut f (Ix x ∷ []) g ≡ Unfit
over_variables f x g h =
    refuse (g x) (items_scoped (length f.facts.sizes) 0 x && (is_normal x && is_normal (further x)))
    (first_false (items_scoped (length f.facts.sizes) 0 x) (is_normal x && is_normal (further x)) h)

-- arguments that are not one index
pub no_index : (f : Focus) (as' : List Arg) (g : Items → Meant) → ((x : Items) → as' ≡ Ix x ∷ [] → ⊥) → with_cut f as' g ≡ Unfit
no_index f [] g h = refl
no_index f (Ix x ∷ []) g h = absurd (h x refl)
no_index f (Ix x ∷ (y ∷ ys)) g h = refl
no_index f (Cond x ∷ ys) g h = refl
no_index f (Law x ∷ ys) g h = refl
no_index f (TensorVar x ∷ ys) g h = refl
no_index f (Bad ∷ ys) g h = refl

-- the only item of a list
pub one_item : (as' : List Arg) (a d : Arg) → length as' ≡ 1 → get_or as' 0 d ≡ a → as' ≡ a ∷ []
one_item [] a d h e = absurd (omega (arith, h))
one_item (x ∷ []) a d h e = λ i. e i ∷ []
one_item (x ∷ (y ∷ ys)) a d h e = absurd (omega (arith, h))
