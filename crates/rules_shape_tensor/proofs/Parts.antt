-- A term of one form, or of another.
use Rattle.std.proofs.Common.{◌≡◌, ℕ, refl, sym, ◌∙◌}
use Rattle.affine_index.specs.declared.form.Items.{Items}
use Rattle.path_focus.specs.Outcome.{Meant, Unlike}
use Rattle.rules_shape_tensor.specs.Patterns.{on_concat, on_flatten, on_pad_l, on_pad_r, on_split, on_transpose, on_trunc_l, on_trunc_r}
use Rattle.term_tree.specs.Syntax.{concat, flatten, pad_l, pad_r, split, transpose, trunc_l, trunc_r}
use Rattle.term_tree.specs.declared.term.Term.{Term}
use Rattle.term_tree.specs.declared.term.Term.TheVariants.{Concat, Flatten, PadL, PadR, Split, Transpose, TruncL, TruncR}
use Rattle.term_tree.proofs.Forms.{Concat-is, Flatten-is, PadL-is, PadR-is, Split-is, Transpose-is, TruncL-is, TruncR-is}

pub not_concat : (t : Term) → ((a b : Term) → t ≡ Concat a b → ⊥) → (f : Term → Term → Meant) → on_concat t f ≡ Unlike
not_concat (concat a b) h f = absurd (h a b (sym (Concat-is a b)))
not_concat _ h f = refl

pub is_concat : (t : Term) (a b : Term) → t ≡ Concat a b → t ≡ concat a b
is_concat t a b h = h ∙ Concat-is a b

pub ruleset concat_parts = (not_concat, is_concat)

pub not_trunc_l : (t : Term) → ((a : Items) (e : Term) → t ≡ TruncL a e → ⊥) → (f : Items → Term → Meant) → on_trunc_l t f ≡ Unlike
not_trunc_l (trunc_l a e) h f = absurd (h a e (sym (TruncL-is a e)))
not_trunc_l _ h f = refl

pub is_trunc_l : (t : Term) (a : Items) (e : Term) → t ≡ TruncL a e → t ≡ trunc_l a e
is_trunc_l t a e h = h ∙ TruncL-is a e

pub ruleset trunc_l_parts = (not_trunc_l, is_trunc_l)

pub not_trunc_r : (t : Term) → ((a : Items) (e : Term) → t ≡ TruncR a e → ⊥) → (f : Items → Term → Meant) → on_trunc_r t f ≡ Unlike
not_trunc_r (trunc_r a e) h f = absurd (h a e (sym (TruncR-is a e)))
not_trunc_r _ h f = refl

pub is_trunc_r : (t : Term) (a : Items) (e : Term) → t ≡ TruncR a e → t ≡ trunc_r a e
is_trunc_r t a e h = h ∙ TruncR-is a e

pub ruleset trunc_r_parts = (not_trunc_r, is_trunc_r)

pub not_pad_l : (t : Term) → ((a : Items) (e : Term) → t ≡ PadL a e → ⊥) → (f : Items → Term → Meant) → on_pad_l t f ≡ Unlike
not_pad_l (pad_l a e) h f = absurd (h a e (sym (PadL-is a e)))
not_pad_l _ h f = refl

pub is_pad_l : (t : Term) (a : Items) (e : Term) → t ≡ PadL a e → t ≡ pad_l a e
is_pad_l t a e h = h ∙ PadL-is a e

pub ruleset pad_l_parts = (not_pad_l, is_pad_l)

pub not_pad_r : (t : Term) → ((a : Items) (e : Term) → t ≡ PadR a e → ⊥) → (f : Items → Term → Meant) → on_pad_r t f ≡ Unlike
not_pad_r (pad_r a e) h f = absurd (h a e (sym (PadR-is a e)))
not_pad_r _ h f = refl

pub is_pad_r : (t : Term) (a : Items) (e : Term) → t ≡ PadR a e → t ≡ pad_r a e
is_pad_r t a e h = h ∙ PadR-is a e

pub ruleset pad_r_parts = (not_pad_r, is_pad_r)

pub not_flatten : (t : Term) → ((e : Term) → t ≡ Flatten e → ⊥) → (f : Term → Meant) → on_flatten t f ≡ Unlike
not_flatten (flatten e) h f = absurd (h e (sym (Flatten-is e)))
not_flatten _ h f = refl

pub is_flatten : (t e : Term) → t ≡ Flatten e → t ≡ flatten e
is_flatten t e h = h ∙ Flatten-is e

pub ruleset flatten_parts = (not_flatten, is_flatten)

pub not_transpose : (t : Term) → ((e : Term) → t ≡ Transpose e → ⊥) → (f : Term → Meant) → on_transpose t f ≡ Unlike
not_transpose (transpose e) h f = absurd (h e (sym (Transpose-is e)))
not_transpose _ h f = refl

pub is_transpose : (t e : Term) → t ≡ Transpose e → t ≡ transpose e
is_transpose t e h = h ∙ Transpose-is e

pub ruleset transpose_parts = (not_transpose, is_transpose)

pub not_split : (t : Term) → ((k : ℕ) (e : Term) → t ≡ Split k e → ⊥) → (f : ℕ → Term → Meant) → on_split t f ≡ Unlike
not_split (split k e) h f = absurd (h k e (sym (Split-is k e)))
not_split _ h f = refl

pub is_split : (t : Term) (k : ℕ) (e : Term) → t ≡ Split k e → t ≡ split k e
is_split t k e h = h ∙ Split-is k e

pub ruleset split_parts = (not_split, is_split)
