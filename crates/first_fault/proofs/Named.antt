-- The forms of names are normal.
use Rattle.std.proofs.Common.{◌≡◌, ◌&&◌, ◌+◌, ℕ, nat_le, true, Option, Some, None, Result, Ok, refl}
use Rattle.std.proofs.Common.{ap, subst, ◌∙◌}
use Rattle.std.proofs.lemmas.Bool.{and_from}
use Rattle.text_tokens.specs.Kinds.{Text}
use Rattle.affine_index.specs.Count.{items_count, atom_count}
use Rattle.affine_index.specs.Form.{size_form, var_form, of_atom}
use Rattle.affine_index.specs.Normal.{atom_good, atom_is_ordered, items_good, layer_good, is_ordered, coefficients_fit, is_short}
use Rattle.affine_index.specs.declared.form.Atom.{Atom}
use Rattle.affine_index.specs.declared.form.Atom.TheVariants.{Size, Var}
use Rattle.affine_index.specs.declared.form.Items.{Items}
use Rattle.affine_index.proofs.CountLaws.{count-items, count-Size, count-Var}
use Rattle.affine_index.proofs.EveryLaws.{every-Size, every-Var}
use Rattle.affine_index.proofs.OrderedLaws.{atom-ordered}
use Rattle.affine_index.proofs.ReadyLaws.{out-Size, out-Var}
use Rattle.reader_laws.specs.declared.fault.Fault.{Fault}
use Rattle.source_grammar.specs.declared.sort.Sort.{Sort}
use Rattle.source_grammar.specs.declared.sort.Sort.TheVariants.{OfSize, OfIndex, OfTensor}
use Rattle.source_grammar.specs.declared.sort.Meaning.{Meaning}
use Rattle.source_grammar.specs.Scope.{Scope, meaning, if_known, index_form, size_form_of, index_name, extent_name}
use Rattle.source_grammar.proofs.NormalForms.{Normal}

atom_normal : (a : Atom) → atom_is_ordered a ≡ true → atom_count a ≡ 1 → Normal (of_atom a)
atom_normal a good one =
    let count : items_count (of_atom a) ≡ 1 = count-items (of_atom a) ∙ ap (λ n. n + 0) one in
    and_from (is_ordered (of_atom a)) (coefficients_fit (of_atom a) && is_short (of_atom a)) (atom-ordered a good)
    (and_from (coefficients_fit (of_atom a)) (is_short (of_atom a)) refl (ap (λ n. nat_le n 128) count))

size_normal : (n : ℕ) → Normal (size_form n)
size_normal n = atom_normal (Size n) (every-Size atom_good items_good n ∙ ap layer_good (out-Size n)) (count-Size n)

var_normal : (n : ℕ) → Normal (var_form n)
var_normal n = atom_normal (Var n) (every-Var atom_good items_good n ∙ ap layer_good (out-Var n)) (count-Var n)

abbrev ok : Items → Result Items Fault
ok i = Ok i

same_form : (a b : Items) → ok a ≡ ok b → a ≡ b
same_form a b h = cc

form_normal : (s : Sort) (n : ℕ) (x : Items) → index_form s n ≡ Ok x → Normal x
form_normal OfSize n x h = subst Normal (same_form (size_form n) x h) (size_normal n)
form_normal OfIndex n x h = subst Normal (same_form (var_form n) x h) (var_normal n)
form_normal OfTensor n x h = absurd cc

extent_normal : (s : Sort) (n : ℕ) (x : Items) → size_form_of s n ≡ Ok x → Normal x
extent_normal OfSize n x h = subst Normal (same_form (size_form n) x h) (size_normal n)
extent_normal OfIndex n x h = absurd cc
extent_normal OfTensor n x h = absurd cc

pub index_named : (scope : Scope) (t : Text) (x : Items) → index_name scope t ≡ Ok x → Normal x
index_named scope t x h = go (meaning scope t) h
  where
    go : (m : Option Meaning) → if_known index_form m ≡ Ok x → Normal x
    go None h = absurd cc
    go (Some m) h = form_normal m.sort m.number x h

pub extent_named : (scope : Scope) (t : Text) (x : Items) → extent_name scope t ≡ Ok x → Normal x
extent_named scope t x h = go (meaning scope t) h
  where
    go : (m : Option Meaning) → if_known size_form_of m ≡ Ok x → Normal x
    go None h = absurd cc
    go (Some m) h = extent_normal m.sort m.number x h
