-- The worked modules are printable.
use Rattle.std.proofs.Common.{◌≡◌, inl, inr, ℕ, ◌+◌, ◌<◌, ◌≤◌, [], ◌∷◌, true, ◌||◌, ◌&&◌, ◌==◌, refl, ap, sym, ◌∙◌, subst, arith, lit<, lit≤}
use Rattle.std.specs.Prelude.{pos}
use Rattle.std.specs.Char.{is_ascii_alphabetic}
use Rattle.std.proofs.lemmas.Bool.{and_from}
use Rattle.std.proofs.lemmas.Str.{chars-IsAscii, IsUtf8-from_ascii}
use Rattle.unicode_ident.proofs.IdentLemmas.{is_xid_start-ascii}
use Rattle.affine_index.specs.Form.{literal_form, size_form, var_form}
use Rattle.affine_index.specs.Normal.{atom_good, coefficients_fit, is_normal, is_ordered, is_short, items_good, layer_good}
use Rattle.affine_index.specs.declared.form.Atom.TheVariants.{Size}
use Rattle.affine_index.proofs.CountLaws.{count-Size, count-items}
use Rattle.affine_index.proofs.EveryLaws.{every-Size}
use Rattle.affine_index.proofs.GivenLaws.{var-normal}
use Rattle.affine_index.proofs.OrderedLaws.{atom-ordered, literal-ordered}
use Rattle.affine_index.proofs.ReadyLaws.{out-Size, scoped-Size, scoped-Var, scoped-items}
use Rattle.text_tokens.specs.declared.kind.Kind.TheVariants as k
use Rattle.text_tokens.specs.declared.kind.Language.{Language}
use Rattle.text_tokens.specs.declared.kind.Language.TheVariants.{SourceOne, SourceTwo}
use Rattle.text_tokens.specs.Kinds.{keyword, kind_in}
use Rattle.text_tokens.specs.Lex.{begins_name}
use Rattle.text_tokens.specs.Names.{AreOfName, IsName}
use Rattle.text_tokens.proofs.Lexed.{all_small, ascii}
use Rattle.term_tree.specs.Counts.{node_count, node_depth}
use Rattle.term_tree.specs.Syntax.{add, gen, index, mul}
use Rattle.term_tree.specs.declared.term.Term.{Term, Lit, TVar}
use Rattle.term_tree.specs.declared.term.Term.TheVariants.{Gen, Mul}
use Rattle.term_tree.proofs.Forms.{Add-is, Gen-is, Index-is, Mul-is}
use Rattle.atl_printer.specs.Printable.{HasNoWordOf, IsGoodForm, IsPrintable}
use Rattle.atl_printer.specs.PrintableModule.{IsPrintableModule}
use Rattle.printer_rows.specs.Modules.{doubled, doubled_term, paired, product_term}

begins : (c : ℕ) → c < 128 → is_ascii_alphabetic c ≡ true → begins_name c ≡ true
unfolding begins_name
begins c below h = (λ j. is_xid_start-ascii c below j || (c == 95)) ∙ (λ j. h j || (c == 95))

letter_name : (language : Language) (c : ℕ) → c < 128 → is_ascii_alphabetic c ≡ true → all_small (c ∷ []) ≡ true → keyword language (c ∷ []) ≡ k.Name
    → IsName language (c ∷ [])
letter_name language c below letter small plain =
    let is = ascii (c ∷ []) small in
    record {
      utf8 = IsUtf8-from_ascii (c ∷ []) is;
      characters = subst AreOfName (sym (chars-IsAscii (c ∷ []) is)) (begins c below letter, tt);
      no_keyword = plain;
    }

size_name : IsName SourceOne (78 ∷ [])
unfolding keyword kind_in
size_name = letter_name SourceOne 78 (lit< tt) refl refl refl

input_name : IsName SourceOne (65 ∷ [])
unfolding keyword kind_in
input_name = letter_name SourceOne 65 (lit< tt) refl refl refl

output_name : IsName SourceOne (66 ∷ [])
unfolding keyword kind_in
output_name = letter_name SourceOne 66 (lit< tt) refl refl refl

first_name : IsName SourceTwo (66 ∷ [])
unfolding keyword kind_in
first_name = letter_name SourceTwo 66 (lit< tt) refl refl refl

second_name : IsName SourceTwo (67 ∷ [])
unfolding keyword kind_in
second_name = letter_name SourceTwo 67 (lit< tt) refl refl refl

size-normal : is_normal (size_form 0) ≡ true
size-normal =
    and_from (is_ordered (size_form 0)) _ (atom-ordered (Size 0) (every-Size atom_good items_good 0 ∙ ap layer_good (out-Size 0)))
    (and_from (coefficients_fit (size_form 0)) (is_short (size_form 0)) refl (simp (count-items, count-Size)))

extent : IsGoodForm 1 0 (size_form 0)
extent = (size-normal, scoped-items 1 0 (size_form 0) ∙ (λ j. scoped-Size 1 0 0 j && true))

place : IsGoodForm 1 1 (var_form 0)
place = (var-normal 0, scoped-items 1 1 (var_form 0) ∙ (λ j. scoped-Var 1 1 0 j && true))

-- the term by the names that definitions match on
abbrev term : Term
term = gen (size_form 0) (mul (index (TVar 0) (var_form 0)) (Lit 2))

term-is : term ≡ doubled_term
term-is =
    sym (Gen-is (size_form 0) (mul (index (TVar 0) (var_form 0)) (Lit 2)))
    ∙ (λ j. Gen (size_form 0) ((sym (Mul-is (index (TVar 0) (var_form 0)) (Lit 2)) ∙ (λ i. Mul (sym (Index-is (TVar 0) (var_form 0)) i) (Lit 2))) j))

pub printable : IsPrintableModule doubled
printable = record {
  version = inl refl;
  names = (refl, (refl, (refl, tt)));
  are_names = (size_name, (input_name, (output_name, tt)));
  bounds = ((lit≤ tt, lit≤ tt), tt);
  assumes = tt;
  example = (lit≤ tt, tt);
  inputs = ((lit≤ tt, (extent, tt)), tt);
  outputs = (subst (λ t. IsPrintable 1 t 0 1) term-is (extent, ((lit< tt, place), lit< tt)), tt);
  words = λ e. (subst HasNoWordOf term-is (tt, tt), tt);
  has_outputs = tt;
  shallow = (subst (λ t. node_depth t ≤ 200) term-is (lit≤ tt), tt);
  few = subst (λ t. node_count t + 0 ≤ 20000) term-is (lit≤ tt);
  few_sizes = lit≤ tt;
  few_assumes = lit≤ tt;
  few_inputs = lit≤ tt;
  few_outputs = lit≤ tt;
}

two_one : (n : ℕ) → n ≡ 2 → n ≡ 1 → ⊥
two_one n e f = omega (arith, e, f)

literal-normal : is_normal (literal_form (pos 5)) ≡ true
literal-normal =
    and_from (is_ordered (literal_form (pos 5))) _ (literal-ordered (pos 5))
    (and_from (coefficients_fit (literal_form (pos 5))) (is_short (literal_form (pos 5))) refl (simp (count-items)))

five : IsGoodForm 0 0 (literal_form (pos 5))
five = (literal-normal, scoped-items 0 0 (literal_form (pos 5)))

product-is : mul (add (Lit 1) (Lit 2)) (Lit 3) ≡ product_term
product-is = sym (Mul-is (add (Lit 1) (Lit 2)) (Lit 3)) ∙ (λ j. Mul (sym (Add-is (Lit 1) (Lit 2)) j) (Lit 3))

pub paired-printable : IsPrintableModule paired
paired-printable = record {
  version = inr refl;
  names = (refl, (refl, tt));
  are_names = (first_name, (second_name, tt));
  bounds = tt;
  assumes = tt;
  example = tt;
  inputs = tt;
  outputs = (subst (λ t. IsPrintable 0 t 0 0) product-is ((lit< tt, lit< tt), lit< tt), (five, tt));
  words = λ e. absurd (two_one 2 refl e);
  has_outputs = refl;
  shallow = (subst (λ t. node_depth t ≤ 200) product-is (lit≤ tt), (lit≤ tt, tt));
  few = subst (λ t. node_count t + (1 + 0) ≤ 20000) product-is (lit≤ tt);
  few_sizes = lit≤ tt;
  few_assumes = lit≤ tt;
  few_inputs = lit≤ tt;
  few_outputs = lit≤ tt;
}
