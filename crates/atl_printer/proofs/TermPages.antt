-- A term that is written is its tokens, where the numbers of variables and lets fit.
use Rattle.std.proofs.Common.{◌≡◌, ℕ, ◌+◌, ◌≤◌, List, [], ◌∷◌, ◌++◌, Bool, true, refl, ap, sym, ◌∙◌, arith}
use Rattle.std.specs.Prelude.{codes}
use Rattle.text_tokens.specs.declared.kind.Kind.TheVariants as k
use Rattle.text_tokens.specs.Kinds.{Text}
use Rattle.affine_index.specs.declared.aff.Aff.{Aff}
use Rattle.affine_index.specs.declared.cond.Cmp.{Cmp}
use Rattle.term_tree.specs.Counts.{node_depth}
use Rattle.term_tree.specs.declared.term.SizeDecl.{SizeDecl}
use Rattle.term_tree.specs.declared.term.InputDecl.{InputDecl}
use Rattle.term_tree.specs.declared.term.Term.{Term, Lit, TVar, WordOf}
use Rattle.term_tree.specs.declared.term.Term.TheOpen.{Term-F}
use Rattle.term_tree.specs.Syntax.{index, gen, sum, guard, let_in, add, sub, mul, concat, flatten, split, transpose, trunc_l, trunc_r, pad_l, pad_r}
use Rattle.term_tree.proofs.Folds.{fold-lit, fold-t_var, fold-word_of, fold-index, fold-gen, fold-sum, fold-guard, fold-let_in, fold-add, fold-sub}
use Rattle.term_tree.proofs.Folds.{fold-mul, fold-concat, fold-flatten, fold-split, fold-transpose, fold-trunc_l, fold-trunc_r, fold-pad_l, fold-pad_r}
use Rattle.text_tokens.specs.Spelled.{Token, name_token, number_token, sign, keyword}
use Rattle.atl_printer.specs.Canonical.{name_of}
use Rattle.source_grammar.specs.Source.{input_names}
use Rattle.atl_printer.specs.IndexTokens.{enclosed}
use Rattle.source_grammar.specs.Terms.{Place, Whole, Sum, Product, Factor}
use Rattle.atl_printer.specs.TermTokens.{all_tokens, cmp_tokens, form_tokens, is_looser, let_text, more_tokens, term_tokens, var_text}
use Rattle.atl_printer.specs.declared.term.TermPlace.{TermPlace}
use Rattle.atl_printer.specs.declared.term.TermPlace.TheVariants as at
use Rattle.atl_printer.specs.FormPages.{all_pages, cmp_pages, form_pages, more_pages}
use Rattle.atl_printer.specs.IndexPages.{closed, opened, size_text}
use Rattle.atl_printer.specs.Page.{Page, written, written_all}
use Rattle.atl_printer.specs.TermPages.{Writes, binder_open, call_head, let_head, next, product_open, sum_open, term_pages, term_step}
use Rattle.atl_printer.proofs.FormPages.{cmp-pages, form-pages}
use Rattle.atl_printer.proofs.IndexPages.{both, enclosed-written}
use Rattle.atl_printer.proofs.Pages.{written-append}

abbrev pub place_of : TermPlace → Place
place_of at.Whole = Whole
place_of at.Sum = Sum
place_of at.Product = Product
place_of at.Factor = Factor

binder-is : (place : TermPlace) → binder_open place ≡ is_looser Whole (place_of place)
binder-is at.Whole = refl
binder-is at.Sum = refl
binder-is at.Product = refl
binder-is at.Factor = refl

sum-is : (place : TermPlace) → sum_open place ≡ is_looser Sum (place_of place)
sum-is at.Whole = refl
sum-is at.Sum = refl
sum-is at.Product = refl
sum-is at.Factor = refl

product-is : (place : TermPlace) → product_open place ≡ is_looser Product (place_of place)
product-is at.Whole = refl
product-is at.Sum = refl
product-is at.Product = refl
product-is at.Factor = refl

-- what closes behind tokens
call : (ts : List Token) (q : Page) → closed true (written_all ts q) ≡ written_all (ts ++ sign k.RParen ∷ []) q
call ts q = sym (written-append ts (sign k.RParen ∷ []) q)

pair : (ta : List Token) (t : Token) (te : List Token) (q : Page)
    → closed true (written_all te (written t (written_all ta q))) ≡ written_all ((ta ++ t ∷ te) ++ sign k.RParen ∷ []) q
pair ta t te q = ap (closed true) (sym (written-append ta (t ∷ te) q)) ∙ call (ta ++ t ∷ te) q

module _ (sizes : List SizeDecl) (inputs : List InputDecl) where
  abbrev input_text : ℕ → Text
  input_text = name_of (input_names inputs)

  abbrev tokens : Term → Place → ℕ → ℕ → List Token
  tokens = term_tokens (size_text sizes) input_text

  abbrev forms : ℕ → Aff → List Token
  forms = form_tokens (size_text sizes) input_text

  abbrev step : Term-F Writes → Writes
  step = term_step sizes inputs

  more-are : (vars : ℕ) (cs : List Cmp) (p : Page) → more_pages sizes vars cs p ≡ written_all (more_tokens (size_text sizes) input_text vars cs) p
  more-are vars [] p = refl
  more-are vars (c ∷ cs) p =
      more-are vars cs (cmp_pages sizes vars c (written (keyword k.And) p))
      ∙ ap (written_all (more_tokens (size_text sizes) input_text vars cs)) (cmp-pages sizes input_text vars c (written (keyword k.And) p))
      ∙ sym (written-append (cmp_tokens (size_text sizes) input_text vars c) (more_tokens (size_text sizes) input_text vars cs) (written (keyword k.And) p))

  all-are : (vars : ℕ) (cs : List Cmp) (p : Page) → all_pages sizes vars cs p ≡ written_all (all_tokens (size_text sizes) input_text vars cs) p
  all-are vars [] p = refl
  all-are vars (c ∷ cs) p =
      more-are vars cs (cmp_pages sizes vars c p)
      ∙ ap (written_all (more_tokens (size_text sizes) input_text vars cs)) (cmp-pages sizes input_text vars c p)
      ∙ sym (written-append (cmp_tokens (size_text sizes) input_text vars c) (more_tokens (size_text sizes) input_text vars cs) p)

  one_more : (n : ℕ) → n + 1 ≤ 4294967295 → next n ≡ n + 1
  one_more n h = omega (arith, h)

  -- tokens in parentheses or not
  in_parens : (o u : Bool) (ts : List Token) (p : Page) → o ≡ u → closed o (written_all ts (opened o p)) ≡ written_all (enclosed u ts) p
  in_parens o u ts p e = sym (enclosed-written o ts p) ∙ ap (λ b. written_all (enclosed b ts) p) e

  between : (o u : Bool) (ta : List Token) (t : Token) (te : List Token) (p : Page) → o ≡ u
      → closed o (written_all te (written t (written_all ta (opened o p)))) ≡ written_all (enclosed u (ta ++ t ∷ te)) p
  between o u ta t te p e = both sizes o ta t te p ∙ ap (λ b. written_all (enclosed b (ta ++ t ∷ te)) p) e

  pub terms-are : (t : Term) (place : TermPlace) (vars lets : ℕ) (p : Page) → vars + lets + node_depth t ≤ 4294967295
      → term_pages sizes inputs t place vars lets p ≡ written_all (tokens t (place_of place) vars lets) p
  terms-are (Lit w) place vars lets p r = λ j. fold-lit Writes step w j place vars lets p
  terms-are (TVar q) place vars lets p r = λ j. fold-t_var Writes step q j place vars lets p
  terms-are (WordOf x) place vars lets p r =
      (λ j. fold-word_of Writes step x j place vars lets p) ∙ ap (written (sign k.RParen))
      (form-pages sizes input_text vars x (call_head k.Word (codes "word") p)) ∙ call (forms vars x) (call_head k.Word (codes "word") p)
  terms-are (index e x) place vars lets p r =
      let te = tokens e Factor vars lets in
      (λ j. fold-index Writes step e x j place vars lets p)
      ∙ (λ j. written (sign k.RBracket) (form_pages sizes vars x (written (sign k.LBracket) (terms-are e at.Factor vars lets p (omega (arith, r)) j))))
      ∙ ap (written (sign k.RBracket)) (form-pages sizes input_text vars x (written (sign k.LBracket) (written_all te p)))
      ∙ sym (written-append (forms vars x) (sign k.RBracket ∷ []) (written (sign k.LBracket) (written_all te p)))
      ∙ sym (written-append te (sign k.LBracket ∷ (forms vars x ++ (sign k.RBracket ∷ []))) p)
  terms-are (gen n e) place vars lets p r =
      let o = binder_open place in
      let te = tokens e Whole (vars + 1) lets in
      let head : Page = written (sign k.Less) (written (name_token (var_text vars)) (written (keyword k.Gen) (opened o p))) in
      (λ j. fold-gen Writes step n e j place vars lets p)
      ∙ (λ j. closed o (term_pages sizes inputs e at.Whole (one_more vars (omega (arith, r)) j) lets
      (written (sign k.Dot) (form-pages sizes input_text 0 n head j))))
      ∙ ap (closed o) (terms-are e at.Whole (vars + 1) lets (written (sign k.Dot) (written_all (forms 0 n) head)) (omega (arith, r)))
      ∙ ap (closed o) (sym (written-append (forms 0 n) (sign k.Dot ∷ te) head))
      ∙ in_parens o (is_looser Whole (place_of place)) (keyword k.Gen ∷ name_token (var_text vars) ∷ sign k.Less ∷ (forms 0 n ++ sign k.Dot ∷ te)) p
      (binder-is place)
  terms-are (sum n e) place vars lets p r =
      let o = binder_open place in
      let te = tokens e Whole (vars + 1) lets in
      let head : Page = written (sign k.Less) (written (name_token (var_text vars)) (written (keyword k.Sum) (opened o p))) in
      (λ j. fold-sum Writes step n e j place vars lets p)
      ∙ (λ j. closed o (term_pages sizes inputs e at.Whole (one_more vars (omega (arith, r)) j) lets
      (written (sign k.Dot) (form-pages sizes input_text 0 n head j))))
      ∙ ap (closed o) (terms-are e at.Whole (vars + 1) lets (written (sign k.Dot) (written_all (forms 0 n) head)) (omega (arith, r)))
      ∙ ap (closed o) (sym (written-append (forms 0 n) (sign k.Dot ∷ te) head))
      ∙ in_parens o (is_looser Whole (place_of place)) (keyword k.Sum ∷ name_token (var_text vars) ∷ sign k.Less ∷ (forms 0 n ++ sign k.Dot ∷ te)) p
      (binder-is place)
  terms-are (guard c e) place vars lets p r =
      let o = binder_open place in
      let te = tokens e Whole vars lets in
      let tc = all_tokens (size_text sizes) input_text vars c.all in
      let head : Page = written (keyword k.Guard) (opened o p) in
      (λ j. fold-guard Writes step c e j place vars lets p)
      ∙ (λ j. closed o (term_pages sizes inputs e at.Whole vars lets (written (sign k.Dot) (all-are vars c.all head j))))
      ∙ ap (closed o) (terms-are e at.Whole vars lets (written (sign k.Dot) (written_all tc head)) (omega (arith, r)))
      ∙ ap (closed o) (sym (written-append tc (sign k.Dot ∷ te) head))
      ∙ in_parens o (is_looser Whole (place_of place)) (keyword k.Guard ∷ (tc ++ sign k.Dot ∷ te)) p (binder-is place)
  terms-are (let_in a e) place vars lets p r =
      let o = binder_open place in
      let ta = tokens a Whole vars lets in
      let te = tokens e Whole vars (lets + 1) in
      let head : Page = let_head lets (opened o p) in
      (λ j. fold-let_in Writes step a e j place vars lets p)
      ∙ (λ j. closed o (term_pages sizes inputs e at.Whole vars (one_more lets (omega (arith, r)) j)
      (written (keyword k.In) (terms-are a at.Whole vars lets head (omega (arith, r)) j))))
      ∙ ap (closed o) (terms-are e at.Whole vars (lets + 1) (written (keyword k.In) (written_all ta head)) (omega (arith, r)))
      ∙ ap (closed o) (sym (written-append ta (keyword k.In ∷ te) head))
      ∙ in_parens o (is_looser Whole (place_of place)) (keyword k.Let ∷ name_token (let_text lets) ∷ sign k.Assign ∷ (ta ++ keyword k.In ∷ te)) p
      (binder-is place)
  terms-are (add a e) place vars lets p r =
      let o = sum_open place in
      (λ j. fold-add Writes step a e j place vars lets p)
      ∙ (λ j. closed o (terms-are e at.Product vars lets (written (sign k.Plus) (terms-are a at.Sum vars lets (opened o p) (omega (arith, r)) j))
      (omega (arith, r)) j))
      ∙ between o (is_looser Sum (place_of place)) (tokens a Sum vars lets) (sign k.Plus) (tokens e Product vars lets) p (sum-is place)
  terms-are (sub a e) place vars lets p r =
      let o = sum_open place in
      (λ j. fold-sub Writes step a e j place vars lets p)
      ∙ (λ j. closed o (terms-are e at.Product vars lets (written (sign k.Minus) (terms-are a at.Sum vars lets (opened o p) (omega (arith, r)) j))
      (omega (arith, r)) j))
      ∙ between o (is_looser Sum (place_of place)) (tokens a Sum vars lets) (sign k.Minus) (tokens e Product vars lets) p (sum-is place)
  terms-are (mul a e) place vars lets p r =
      let o = product_open place in
      (λ j. fold-mul Writes step a e j place vars lets p)
      ∙ (λ j. closed o (terms-are e at.Factor vars lets (written (sign k.Star) (terms-are a at.Product vars lets (opened o p) (omega (arith, r)) j))
      (omega (arith, r)) j))
      ∙ between o (is_looser Product (place_of place)) (tokens a Product vars lets) (sign k.Star) (tokens e Factor vars lets) p (product-is place)
  terms-are (concat a e) place vars lets p r =
      let q = call_head k.Concat (codes "concat") p in
      (λ j. fold-concat Writes step a e j place vars lets p)
      ∙ (λ j. closed true (terms-are e at.Whole vars lets (written (sign k.Comma) (terms-are a at.Whole vars lets q (omega (arith, r)) j))
      (omega (arith, r)) j))
      ∙ pair (tokens a Whole vars lets) (sign k.Comma) (tokens e Whole vars lets) q
  terms-are (flatten e) place vars lets p r =
      let q = call_head k.Flatten (codes "flatten") p in
      (λ j. fold-flatten Writes step e j place vars lets p) ∙ ap (closed true) (terms-are e at.Whole vars lets q (omega (arith, r)))
      ∙ call (tokens e Whole vars lets) q
  terms-are (transpose e) place vars lets p r =
      let q = call_head k.Transpose (codes "transpose") p in
      (λ j. fold-transpose Writes step e j place vars lets p) ∙ ap (closed true) (terms-are e at.Whole vars lets q (omega (arith, r)))
      ∙ call (tokens e Whole vars lets) q
  terms-are (split d e) place vars lets p r =
      let q = call_head k.Split (codes "split") p in
      (λ j. fold-split Writes step d e j place vars lets p)
      ∙ ap (closed true) (terms-are e at.Whole vars lets (written (sign k.Comma) (written (number_token d) q)) (omega (arith, r)))
      ∙ pair (number_token d ∷ []) (sign k.Comma) (tokens e Whole vars lets) q
  terms-are (trunc_l n e) place vars lets p r =
      let q = call_head k.TruncL (codes "truncl") p in
      (λ j. fold-trunc_l Writes step n e j place vars lets p)
      ∙ (λ j. closed true (terms-are e at.Whole vars lets (written (sign k.Comma) (form-pages sizes input_text 0 n q j)) (omega (arith, r)) j))
      ∙ pair (forms 0 n) (sign k.Comma) (tokens e Whole vars lets) q
  terms-are (trunc_r n e) place vars lets p r =
      let q = call_head k.TruncR (codes "truncr") p in
      (λ j. fold-trunc_r Writes step n e j place vars lets p)
      ∙ (λ j. closed true (terms-are e at.Whole vars lets (written (sign k.Comma) (form-pages sizes input_text 0 n q j)) (omega (arith, r)) j))
      ∙ pair (forms 0 n) (sign k.Comma) (tokens e Whole vars lets) q
  terms-are (pad_l n e) place vars lets p r =
      let q = call_head k.PadL (codes "padl") p in
      (λ j. fold-pad_l Writes step n e j place vars lets p)
      ∙ (λ j. closed true (terms-are e at.Whole vars lets (written (sign k.Comma) (form-pages sizes input_text 0 n q j)) (omega (arith, r)) j))
      ∙ pair (forms 0 n) (sign k.Comma) (tokens e Whole vars lets) q
  terms-are (pad_r n e) place vars lets p r =
      let q = call_head k.PadR (codes "padr") p in
      (λ j. fold-pad_r Writes step n e j place vars lets p)
      ∙ (λ j. closed true (terms-are e at.Whole vars lets (written (sign k.Comma) (form-pages sizes input_text 0 n q j)) (omega (arith, r)) j))
      ∙ pair (forms 0 n) (sign k.Comma) (tokens e Whole vars lets) q
