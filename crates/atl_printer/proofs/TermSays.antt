-- The tokens of a term stand for it, and open no level too many.
use Rattle.std.proofs.Common.{◌≡◌, ℕ, zero, suc, ◌+◌, ◌-◌, ◌*◌, ◌^◌, ◌<◌, ◌≤◌, inl, inr, List, [], ◌∷◌, ◌++◌, true, false, ◌==◌, nat_lt, if◌then◌else◌}
use Rattle.std.proofs.Common.{Some, Ok, Err, refl, sym, ap, ◌∙◌, subst, arith}
use Rattle.std.specs.Prelude.{decimal, max}
use Rattle.text_tokens.specs.declared.kind.Kind.{Kind}
use Rattle.text_tokens.specs.declared.kind.Kind.TheVariants as k
use Rattle.text_tokens.specs.Kinds.{Text}
use Rattle.text_tokens.specs.Words.{Word}
use Rattle.affine_index.specs.Condition.{cmp_form}
use Rattle.affine_index.specs.declared.aff.Aff.{Aff}
use Rattle.affine_index.specs.declared.cond.Cmp.{Cmp}
use Rattle.term_tree.specs.Counts.{node_depth}
use Rattle.term_tree.specs.declared.term.Term.{Term, Lit, TVar, WordOf}
use Rattle.term_tree.specs.Syntax.{index, gen, sum, guard, let_in, add, sub, mul, concat, flatten, split, transpose, trunc_l, trunc_r, pad_l, pad_r}
use Rattle.reader_laws.specs.declared.fault.Fault.TheVariants.{BadSyntax, NumberTooLarge}
use Rattle.reader_laws.specs.Grammar.{OneOf}
use Rattle.source_grammar.specs.Scope.{Scope, extent_name, index_name}
use Rattle.text_tokens.specs.Spelled.{Token, name_token, number_token, sign, keyword}
use Rattle.atl_printer.specs.IndexTokens.{enclosed}
use Rattle.source_grammar.specs.Index.{IsIndex, Sum as index_sum}
use Rattle.source_grammar.specs.Terms.{Place, Whole, Sum, Product, Factor, word_if, tile_if, tile_value, sums, products, brackets, max_chain, index_entry}
use Rattle.source_grammar.specs.Terms.{tensor_entry, IsExtent, IsBinderBy, InParens, IsPrimaryBy, IsInBrackets, IsFactor, IsProduct, IsSum, IsWhole}
use Rattle.source_grammar.specs.Terms.{IsInner, IsTerm, sum_sign}
use Rattle.atl_printer.specs.TermTokens.{cond_tokens, form_tokens, let_text, tensor_text, term_tokens, var_text}
use Rattle.atl_printer.specs.Printable.{AreGoodForms, IsGoodForm, IsPrintable}
use Rattle.atl_printer.proofs.ConditionSays.{CmpsSay, cond-says}
use Rattle.atl_printer.proofs.FormSays.{form-says}
use Rattle.atl_printer.proofs.IndexSays.{number_decimal}
use Rattle.reader_laws.proofs.Says.{Says, Begins, begins_end, begins_first, begins_link, says_both, says_end, says_nothing, says_one, says_opened}
use Rattle.reader_laws.proofs.Says.{says_then, says_word}
use Rattle.atl_printer.proofs.Scopes.{IsPlain, Named, enter_let, enter_var, extent_reads, size_reads, tensor_reads, var_reads}

-- with so many levels left, in a scope
module _ (l : ℕ) (scope : Scope) where
  abbrev ThePrimary : List Word → Term → Type 0
  ThePrimary = OneOf (IsPrimaryBy (IsInner l) l scope)

  abbrev TheBinder : List Word → Term → Type 0
  TheBinder = OneOf (IsBinderBy (IsInner l) l scope)

  abbrev TheFactor : List Word → Term → Type 0
  TheFactor = IsFactor (IsInner l) l scope

  abbrev TheProduct : List Word → Term → Type 0
  TheProduct = IsProduct (IsInner l) l scope

  abbrev TheSum : List Word → Term → Type 0
  TheSum = IsSum (IsInner l) l scope

  abbrev TheWhole : List Word → Term → Type 0
  TheWhole = IsWhole (IsInner l) l scope

  abbrev FactorBegins : List Token → Term → ℕ → Type 0
  FactorBegins = Begins brackets (λ n a o. IsInBrackets (IsInner l) l scope n) ThePrimary 513

  abbrev ProductBegins : List Token → Term → ℕ → Type 0
  ProductBegins = Begins (products l) (λ n a o. IsInner l Factor scope) TheFactor 0

  abbrev SumBegins : List Token → Term → ℕ → Type 0
  SumBegins = Begins (sums l) (λ n a o. IsInner l Product scope) TheProduct 0

  whole_factor : (ts : List Token) (t : Term) (c : ℕ) → 513 + c ≤ l → FactorBegins ts t c → Says TheFactor ts t
  whole_factor ts t c h b = begins_end brackets _ ThePrimary 513 ts t c l b h

  whole_product : (ts : List Token) (t : Term) (c : ℕ) → c ≤ 1000 → ProductBegins ts t c → Says TheProduct ts t
  unfolding max_chain
  whole_product ts t c h b = begins_end (products l) _ TheFactor 0 ts t c max_chain b (omega (arith, h))

  whole_sum : (ts : List Token) (t : Term) (c : ℕ) → c ≤ 1000 → SumBegins ts t c → Says TheSum ts t
  unfolding max_chain
  whole_sum ts t c h b = begins_end (sums l) _ TheProduct 0 ts t c max_chain b (omega (arith, h))

  factor_first : (ts : List Token) (t : Term) → Says ThePrimary ts t → FactorBegins ts t 0
  factor_first ts t p = begins_first brackets _ ThePrimary 513 ts t p

  product_first : (ts : List Token) (t : Term) → Says TheFactor ts t → ProductBegins ts t 0
  product_first ts t p = begins_first (products l) _ TheFactor 0 ts t p

  sum_first : (ts : List Token) (t : Term) → Says TheProduct ts t → SumBegins ts t 0
  sum_first ts t p = begins_first (sums l) _ TheProduct 0 ts t p

  whole_of_sum : (ts : List Token) (t : Term) → Says TheSum ts t → Says TheWhole ts t
  whole_of_sum ts t p = record { says = λ ws e. inr (p.says ws e) }

  whole_of_binder : (ts : List Token) (t : Term) → Says TheBinder ts t → Says TheWhole ts t
  whole_of_binder ts t p = record { says = λ ws e. inl (p.says ws e) }

  -- what stands in parentheses, one level further in
  paren_says : {A : Type 0} {rule : List Word → A → Type 0} (ts : List Token) (x : A) → 0 < l → Says rule ts x
      → Says (InParens (IsInner l) l scope rule) (sign k.LParen ∷ ts ++ sign k.RParen ∷ []) x
  paren_says ts x h p = says_opened h (says_then tt refl (says_both ts (sign k.RParen ∷ []) x p (says_then tt refl says_nothing)))

in_parens : (l : ℕ) (scope : Scope) (ts : List Token) (t : Term) → Says (TheWhole l scope) ts t → Says (ThePrimary (suc l) scope) (enclosed true ts) t
in_parens l scope ts t p = says_one k.LParen (paren_says (suc l) scope ts t (omega arith) p)

-- what stands a level further in
further_in : (place : Place) (scope : Scope) (ts : List Token) (t : Term) (l : ℕ) → 0 < l → ((m : ℕ) → l ≤ m + 1 → Says (IsTerm m place scope) ts t)
    → Says (IsInner l place scope) ts t
further_in place scope ts t zero h p = absurd (omega (arith, h))
further_in place scope ts t (suc m) h p = p m (omega arith)

word-says : (w : ℕ) → w < 2 ^ 64 → word_if (Rattle.text_tokens.specs.Numbers.number (decimal w)) ≡ Ok w
word-says w h = ap word_if (number_decimal w h)

tile-says : (d : ℕ) → 0 < d → d ≤ 2147483647 → tile_value (decimal d) ≡ Ok d
tile-says d some most =
    ap tile_if (number_decimal d (omega (arith, most)))
    ∙ (λ j. if zero_not d some j then Err BadSyntax else (if nat_lt 2147483647 d then Err NumberTooLarge else Ok d))
    ∙ (λ j. if above_not d most j then Err NumberTooLarge else Ok d)
  where
    zero_not : (d : ℕ) → 0 < d → (d == 0) ≡ false
    zero_not d h = grind arith

    above_not : (d : ℕ) → d ≤ 2147483647 → nat_lt 2147483647 d ≡ false
    above_not d h = grind arith

max_left : (a b n : ℕ) → max a b + 1 ≤ n → a + 1 ≤ n
max_left a b n h = omega (arith, h)

module _ (size_text input_text : ℕ → Text) (sizes inputs : ℕ) (plain_sizes : (s : ℕ) → s < sizes → IsPlain (size_text s))
    (plain_inputs : (q : ℕ) → q < inputs → IsPlain (input_text q)) where
  abbrev tokens : Term → Place → ℕ → ℕ → List Token
  tokens = term_tokens size_text input_text

  abbrev forms : ℕ → Aff → List Token
  forms = form_tokens size_text input_text

  abbrev InScope : Scope → ℕ → ℕ → Type 0
  InScope = Named size_text input_text sizes inputs plain_sizes plain_inputs

  -- ---- forms

  index-say : (scope : Scope) (vars lets : ℕ) → InScope scope vars lets → (x : Aff) (l : ℕ) → IsGoodForm sizes vars x → 513 ≤ l
      → Says (IsIndex (index_name scope) l index_sum) (forms vars x) x
  index-say scope vars lets h x l g r =
      form-says (index_name scope) size_text var_text vars sizes (λ s q. size_reads size_text input_text sizes inputs plain_sizes plain_inputs scope vars lets s
      h q)
      (λ v q. var_reads size_text input_text sizes inputs plain_sizes plain_inputs scope vars lets v h q) x l g.0 g.1 r

  none_below : (v : ℕ) → v < 0 → ⊥
  none_below v h = omega (arith, h)

  extent-say : (scope : Scope) (vars lets : ℕ) → InScope scope vars lets → (n : Aff) (l : ℕ) → IsGoodForm sizes 0 n → 514 ≤ l
      → Says (IsExtent (IsInner l) l scope) (forms 0 n) n
  extent-say scope vars lets h n l g r =
      form-says (extent_name scope) size_text var_text 0 sizes (λ s q. extent_reads size_text input_text sizes inputs plain_sizes plain_inputs scope vars lets s
      h q)
      (λ v q. absurd (none_below v q)) n (l - 1) g.0 g.1 (omega (arith, r))

  cmps-say : (scope : Scope) (vars lets : ℕ) → InScope scope vars lets → (cs : List Cmp) (l : ℕ) → AreGoodForms sizes vars cs → 513 ≤ l
      → CmpsSay size_text input_text (index_name scope) l vars cs
  cmps-say scope vars lets h [] l g r = tt
  cmps-say scope vars lets h (c ∷ cs) l g r = ((g.0.0, index-say scope vars lets h (cmp_form c) l g.0 r), cmps-say scope vars lets h cs l g.1 r)

  -- ---- terms

  record Counted (most : ℕ) (P : ℕ → Type 0) : Type 0 where
    count : ℕ
    few : count ≤ most
    begins : P count

  -- in each place the tokens stand for the term
  record Back (t : Term) (scope : Scope) (vars lets : ℕ) : Type 0 where
    in_whole : (l : ℕ) → 2 * node_depth t + 514 ≤ l → Says (TheWhole l scope) (tokens t Whole vars lets) t
    in_sum : (l : ℕ) → 2 * node_depth t + 515 ≤ l → Counted (node_depth t) (SumBegins l scope (tokens t Sum vars lets) t)
    in_product : (l : ℕ) → 2 * node_depth t + 515 ≤ l → Counted (node_depth t) (ProductBegins l scope (tokens t Product vars lets) t)
    in_factor : (l : ℕ) → 2 * node_depth t + 515 ≤ l → Counted (node_depth t) (FactorBegins l scope (tokens t Factor vars lets) t)

  module _ (t : Term) (scope : Scope) (vars lets : ℕ) (ts : List Token) (deep : node_depth t ≤ 200) where
    -- what is in parentheses
    closed : ((l : ℕ) → 2 * node_depth t + 514 ≤ l → Says (TheWhole l scope) ts t) → (l : ℕ) → 2 * node_depth t + 515 ≤ l
        → Says (ThePrimary l scope) (enclosed true ts) t
    closed p zero h = absurd (omega (arith, h))
    closed p (suc l) h = in_parens l scope ts t (p l (omega (arith, h)))

    closed_factor : ((l : ℕ) → 2 * node_depth t + 514 ≤ l → Says (TheWhole l scope) ts t) → (l : ℕ) → 2 * node_depth t + 515 ≤ l
        → FactorBegins l scope (enclosed true ts) t 0
    closed_factor p l h = factor_first l scope (enclosed true ts) t (closed p l h)

    closed_product : ((l : ℕ) → 2 * node_depth t + 514 ≤ l → Says (TheWhole l scope) ts t) → (l : ℕ) → 2 * node_depth t + 515 ≤ l
        → ProductBegins l scope (enclosed true ts) t 0
    closed_product p l h = product_first l scope (enclosed true ts) t (whole_factor l scope (enclosed true ts) t 0 (omega (arith, h)) (closed_factor p l h))

    closed_sum : ((l : ℕ) → 2 * node_depth t + 514 ≤ l → Says (TheWhole l scope) ts t) → (l : ℕ) → 2 * node_depth t + 515 ≤ l
        → SumBegins l scope (enclosed true ts) t 0
    closed_sum p l h = sum_first l scope (enclosed true ts) t (whole_product l scope (enclosed true ts) t 0 (omega arith) (closed_product p l h))

    -- a form that binds or guards
    binder : tokens t Whole vars lets ≡ ts → tokens t Sum vars lets ≡ enclosed true ts → tokens t Product vars lets ≡ enclosed true ts
        → tokens t Factor vars lets ≡ enclosed true ts
        → ((l : ℕ) → 2 * node_depth t + 514 ≤ l → Says (TheBinder l scope) ts t) → Back t scope vars lets
    binder e f g i p =
        let own : (l : ℕ) → 2 * node_depth t + 514 ≤ l → Says (TheWhole l scope) ts t = λ l h. whole_of_binder l scope ts t (p l h) in
        record {
          in_whole = λ l h. subst (λ us. Says (TheWhole l scope) us t) (sym e) (own l h);
          in_sum = λ l h. record { count = 0; few = omega arith; begins = subst (λ us. SumBegins l scope us t 0) (sym f) (closed_sum own l h) };
          in_product = λ l h. record { count = 0; few = omega arith; begins = subst (λ us. ProductBegins l scope us t 0) (sym g) (closed_product own l h) };
          in_factor = λ l h. record { count = 0; few = omega arith; begins = subst (λ us. FactorBegins l scope us t 0) (sym i) (closed_factor own l h) };
        }

    -- a sum or difference
    summed : tokens t Whole vars lets ≡ ts → tokens t Sum vars lets ≡ ts → tokens t Product vars lets ≡ enclosed true ts
        → tokens t Factor vars lets ≡ enclosed true ts
        → ((l : ℕ) → 2 * node_depth t + 514 ≤ l → Counted (node_depth t) (SumBegins l scope ts t)) → Back t scope vars lets
    summed e f g i p =
        let own : (l : ℕ) → 2 * node_depth t + 514 ≤ l → Says (TheWhole l scope) ts t =
        λ l h. let q = p l h in whole_of_sum l scope ts t (whole_sum l scope ts t q.count (omega (arith, q.few, deep)) q.begins) in
        record {
          in_whole = λ l h. subst (λ us. Says (TheWhole l scope) us t) (sym e) (own l h);
          in_sum = λ l h. let q = p l (omega (arith, h)) in record {
            count = q.count;
            few = q.few;
            begins = subst (λ us. SumBegins l scope us t q.count)
                (sym f) q.begins;
          };
          in_product = λ l h. record { count = 0; few = omega arith; begins = subst (λ us. ProductBegins l scope us t 0) (sym g) (closed_product own l h) };
          in_factor = λ l h. record { count = 0; few = omega arith; begins = subst (λ us. FactorBegins l scope us t 0) (sym i) (closed_factor own l h) };
        }

    sum_of_product : (l c : ℕ) → c ≤ node_depth t → ProductBegins l scope ts t c → SumBegins l scope ts t 0
    sum_of_product l c few b = sum_first l scope ts t (whole_product l scope ts t c (omega (arith, few, deep)) b)

    whole_of_product : (l c : ℕ) → c ≤ node_depth t → ProductBegins l scope ts t c → Says (TheWhole l scope) ts t
    whole_of_product l c few b = whole_of_sum l scope ts t (whole_sum l scope ts t 0 (omega arith) (sum_of_product l c few b))

    -- a product
    multiplied : tokens t Whole vars lets ≡ ts → tokens t Sum vars lets ≡ ts → tokens t Product vars lets ≡ ts → tokens t Factor vars lets ≡ enclosed true ts
        → ((l : ℕ) → 2 * node_depth t + 514 ≤ l → Counted (node_depth t) (ProductBegins l scope ts t)) → Back t scope vars lets
    multiplied e f g i p =
        let own : (l : ℕ) → 2 * node_depth t + 514 ≤ l → Says (TheWhole l scope) ts t = λ l h. let q = p l h in whole_of_product l q.count q.few q.begins in
        record {
          in_whole = λ l h. subst (λ us. Says (TheWhole l scope) us t) (sym e) (own l h);
          in_sum = λ l h. let q = p l (omega (arith, h)) in record {
            count = 0;
            few = omega arith;
            begins = subst (λ us. SumBegins l scope us t 0) (sym f)
                (sum_of_product l q.count q.few q.begins);
          };
          in_product = λ l h. let q = p l (omega (arith, h)) in record
              { count = q.count; few = q.few; begins = subst (λ us. ProductBegins l scope us t q.count) (sym g) q.begins };
          in_factor = λ l h. record { count = 0; few = omega arith; begins = subst (λ us. FactorBegins l scope us t 0) (sym i) (closed_factor own l h) };
        }

    product_of_factor : (l c : ℕ) → 2 * node_depth t + 514 ≤ l → c ≤ node_depth t → FactorBegins l scope ts t c → ProductBegins l scope ts t 0
    product_of_factor l c h few b = product_first l scope ts t (whole_factor l scope ts t c (omega (arith, few, h)) b)

    -- what stands alone
    factor : tokens t Whole vars lets ≡ ts → tokens t Sum vars lets ≡ ts → tokens t Product vars lets ≡ ts → tokens t Factor vars lets ≡ ts
        → ((l : ℕ) → 2 * node_depth t + 514 ≤ l → Counted (node_depth t) (FactorBegins l scope ts t)) → Back t scope vars lets
    factor e f g i p = record {
      in_whole = λ l h. let q = p l h in subst (λ us. Says (TheWhole l scope) us t) (sym e)
          (whole_of_product l 0 (omega arith) (product_of_factor l q.count h q.few q.begins));
      in_sum = λ l h. let q = p l (omega (arith, h)) in record {
        count = 0;
        few = omega arith;
        begins = subst (λ us. SumBegins l scope us t 0) (sym f)
            (sum_of_product l 0 (omega arith) (product_of_factor l q.count (omega (arith, h)) q.few q.begins));
      };
      in_product = λ l h. let q = p l (omega (arith, h)) in record {
        count = 0;
        few = omega arith;
        begins = subst (λ us. ProductBegins l scope us t 0) (sym g)
            (product_of_factor l q.count (omega (arith, h)) q.few q.begins);
      };
      in_factor = λ l h. let q = p l (omega (arith, h)) in record {
        count = q.count;
        few = q.few;
        begins = subst (λ us. FactorBegins l scope us t q.count)
            (sym i) q.begins;
      };
    }

    primary : tokens t Whole vars lets ≡ ts → tokens t Sum vars lets ≡ ts → tokens t Product vars lets ≡ ts → tokens t Factor vars lets ≡ ts
        → ((l : ℕ) → 2 * node_depth t + 514 ≤ l → Says (ThePrimary l scope) ts t) → Back t scope vars lets
    primary e f g i p = factor e f g i (λ l h. record { count = 0; few = omega arith; begins = factor_first l scope ts t (p l h) })

  -- what a level below holds
  below_whole : (e : Term) (scope : Scope) (vars lets l : ℕ) → Back e scope vars lets → 2 * node_depth e + 515 ≤ l
      → Says (IsInner l Whole scope) (tokens e Whole vars lets) e
  below_whole e scope vars lets l h n = further_in Whole scope (tokens e Whole vars lets) e l (omega (arith, n)) (λ m r. h.in_whole m (omega (arith, n, r)))

  below_product : (e : Term) (scope : Scope) (vars lets l : ℕ) → node_depth e ≤ 200 → Back e scope vars lets → 2 * node_depth e + 516 ≤ l
      → Says (IsInner l Product scope) (tokens e Product vars lets) e
  below_product e scope vars lets l deep h n =
      further_in Product scope (tokens e Product vars lets) e l (omega (arith, n))
      (λ m r. let q = h.in_product m (omega (arith, n, r)) in whole_product m scope (tokens e Product vars lets) e q.count
      (omega (arith, q.few, deep)) q.begins)

  below_factor : (e : Term) (scope : Scope) (vars lets l : ℕ) → Back e scope vars lets → 2 * node_depth e + 516 ≤ l
      → Says (IsInner l Factor scope) (tokens e Factor vars lets) e
  below_factor e scope vars lets l h n =
      further_in Factor scope (tokens e Factor vars lets) e l (omega (arith, n))
      (λ m r. let q = h.in_factor m (omega (arith, n, r)) in whole_factor m scope (tokens e Factor vars lets) e q.count (omega (arith, q.few, n, r)) q.begins)

  -- one operator more
  sum_step : (a e t : Term) (kd : Kind) (f : Term → Term → Term) (scope : Scope) (vars lets : ℕ) → sum_sign kd ≡ Some f → f a e ≡ t → Back a scope vars lets
      → Back e scope vars lets → node_depth e ≤ 200 → (l : ℕ) → 2 * (max (node_depth a) (node_depth e) + 1) + 514 ≤ l
      → Counted (max (node_depth a) (node_depth e) + 1) (SumBegins l scope (tokens a Sum vars lets ++ sign kd ∷ tokens e Product vars lets) t)
  unfolding sums
  sum_step a e t kd f scope vars lets is same ha he deep l h =
      let p = ha.in_sum l (omega (arith, h)) in
      record {
        count = p.count + 1;
        few = omega (arith, p.few);
        begins = begins_link (sums l) _ (TheProduct l scope) 0 (tokens a Sum vars lets) a p.count (sign kd) f (tokens e Product vars lets) e t p.begins is
            (λ n r. omega (arith, h)) (λ n r. below_product e scope vars lets l deep he (omega (arith, h))) (ap (λ x. Ok x) same);
      }

  product_step : (a e : Term) (scope : Scope) (vars lets : ℕ) → Back a scope vars lets → Back e scope vars lets → (l : ℕ)
      → 2 * (max (node_depth a) (node_depth e) + 1) + 514 ≤ l
      → Counted (max (node_depth a) (node_depth e) + 1) (ProductBegins l scope (tokens a Product vars lets ++ sign k.Star ∷ tokens e Factor vars lets)
      (mul a e))
  unfolding products
  product_step a e scope vars lets ha he l h =
      let p = ha.in_product l (omega (arith, h)) in
      record {
        count = p.count + 1;
        few = omega (arith, p.few);
        begins = begins_link (products l) _ (TheFactor l scope) 0 (tokens a Product vars lets) a p.count (sign k.Star) mul (tokens e Factor vars lets) e
            (mul a e) p.begins refl (λ n r. omega (arith, h)) (λ n r. below_factor e scope vars lets l he (omega (arith, h))) refl;
      }

  bracket_step : (e : Term) (x : Aff) (scope : Scope) (vars lets : ℕ) → InScope scope vars lets → IsGoodForm sizes vars x → Back e scope vars lets → (l : ℕ)
      → 2 * (node_depth e + 1) + 514 ≤ l
      → Counted (node_depth e + 1) (FactorBegins l scope (tokens e Factor vars lets ++ (sign k.LBracket ∷ (forms vars x ++ (sign k.RBracket ∷ []))))
      (index e x))
  unfolding brackets
  bracket_step e x scope vars lets known good he l h =
      let p = he.in_factor l (omega (arith, h)) in
      record {
        count = p.count + 1;
        few = omega (arith, p.few);
        begins = begins_link brackets (λ n a o. IsInBrackets (IsInner l) l scope n) (ThePrimary l scope) 513 (tokens e Factor vars lets) e p.count
            (sign k.LBracket) tt (forms vars x ++ (sign k.RBracket ∷ [])) x (index e x) p.begins refl (λ n r. omega arith)
            (λ n r. says_both (forms vars x) (sign k.RBracket ∷ []) x (index-say scope vars lets known x n good r) (says_then tt refl says_nothing)) refl;
      }

  tensors_more : (t : Term) (vars lets : ℕ) → IsPrintable sizes t vars (lets + inputs + 1) → IsPrintable sizes t vars (lets + 1 + inputs)
  tensors_more t vars lets h = subst (λ n. IsPrintable sizes t vars n) (same lets) h
    where
      same : (lets : ℕ) → lets + inputs + 1 ≡ lets + 1 + inputs
      same lets = omega arith

  positive : (n l : ℕ) → n + 514 ≤ l → 0 < l
  positive n l h = omega (arith, h)

  back : (t : Term) (scope : Scope) (vars lets : ℕ) → InScope scope vars lets → IsPrintable sizes t vars (lets + inputs) → node_depth t ≤ 200
      → vars + lets + node_depth t ≤ 1000 → Back t scope vars lets
  back (Lit w) scope vars lets known good deep room =
      primary (Lit w) scope vars lets (number_token w ∷ []) deep refl refl refl refl
      (λ l h. says_one k.Number (says_end (number_token w ∷ []) w (says_word (word-says w good)) says_nothing))
  back (TVar q) scope vars lets known good deep room =
      let name = name_token (tensor_text size_text input_text lets q) in
      primary (TVar q) scope vars lets (name ∷ []) deep refl refl refl refl
      (λ l h. says_one k.Name (says_end (name ∷ []) q (says_word (tensor_reads size_text input_text sizes inputs plain_sizes plain_inputs scope vars lets q
      known good)) says_nothing))
  back (WordOf x) scope vars lets known good deep room =
      primary (WordOf x) scope vars lets (keyword k.Word ∷ sign k.LParen ∷ forms vars x ++ sign k.RParen ∷ []) deep refl refl refl refl
      (λ l h. says_one k.Word (says_then tt refl (paren_says l scope (forms vars x) (WordOf x) (omega (arith, h))
      (says_end (forms vars x) x (index-say scope vars lets known x (l - 1) good (omega (arith, h))) says_nothing))))
  back (index e x) scope vars lets known good deep room =
      let he = back e scope vars lets known good.0 (omega (arith, deep)) (omega (arith, room)) in
      factor (index e x) scope vars lets (tokens e Factor vars lets ++ (sign k.LBracket ∷ (forms vars x ++ (sign k.RBracket ∷ [])))) deep refl refl refl refl
      (bracket_step e x scope vars lets known good.1 he)
  back (gen n e) scope vars lets known good deep room =
      let inner = index_entry (var_text vars) ∷ scope in
      let te = tokens e Whole (vars + 1) lets in
      let he = back e inner (vars + 1) lets (enter_var size_text input_text sizes inputs plain_sizes plain_inputs scope vars lets (omega (arith, room)) known)
      good.1 (omega (arith, deep)) (omega (arith, room)) in
      binder (gen n e) scope vars lets (keyword k.Gen ∷ name_token (var_text vars) ∷ sign k.Less ∷ forms 0 n ++ sign k.Dot ∷ te) deep refl refl refl refl
      (λ l h. says_one k.Gen (says_opened (omega (arith, h)) (says_then tt refl (says_then (var_text vars) refl (says_then tt refl
      (says_both (forms 0 n) (sign k.Dot ∷ te) n (extent-say scope vars lets known n l good.0 (omega (arith, h)))
      (says_then tt refl (says_end te e (below_whole e inner (vars + 1) lets l he (omega (arith, h))) says_nothing))))))))
  back (sum n e) scope vars lets known good deep room =
      let inner = index_entry (var_text vars) ∷ scope in
      let te = tokens e Whole (vars + 1) lets in
      let he = back e inner (vars + 1) lets (enter_var size_text input_text sizes inputs plain_sizes plain_inputs scope vars lets (omega (arith, room)) known)
      good.1 (omega (arith, deep)) (omega (arith, room)) in
      binder (sum n e) scope vars lets (keyword k.Sum ∷ name_token (var_text vars) ∷ sign k.Less ∷ forms 0 n ++ sign k.Dot ∷ te) deep refl refl refl refl
      (λ l h. says_one k.Sum (says_opened (omega (arith, h)) (says_then tt refl (says_then (var_text vars) refl (says_then tt refl
      (says_both (forms 0 n) (sign k.Dot ∷ te) n (extent-say scope vars lets known n l good.0 (omega (arith, h)))
      (says_then tt refl (says_end te e (below_whole e inner (vars + 1) lets l he (omega (arith, h))) says_nothing))))))))
  back (guard c e) scope vars lets known good deep room =
      let te = tokens e Whole vars lets in
      let tc = cond_tokens size_text input_text vars c in
      let he = back e scope vars lets known good.1 (omega (arith, deep)) (omega (arith, room)) in
      binder (guard c e) scope vars lets (keyword k.Guard ∷ tc ++ sign k.Dot ∷ te) deep refl refl refl refl
      (λ l h. says_one k.Guard (says_opened (omega (arith, h)) (says_then tt refl
      (says_both tc (sign k.Dot ∷ te) c (cond-says size_text input_text (index_name scope) (l - 1) vars c good.0.0 good.0.1
      (cmps-say scope vars lets known c.all (l - 1) good.0.2 (omega (arith, h))))
      (says_then tt refl (says_end te e (below_whole e scope vars lets l he (omega (arith, h))) says_nothing))))))
  back (let_in a e) scope vars lets known good deep room =
      let inner = tensor_entry (let_text lets) ∷ scope in
      let ta = tokens a Whole vars lets in
      let te = tokens e Whole vars (lets + 1) in
      let ha = back a scope vars lets known good.0 (omega (arith, deep)) (omega (arith, room)) in
      let he = back e inner vars (lets + 1) (enter_let size_text input_text sizes inputs plain_sizes plain_inputs scope vars lets (omega (arith, room)) known)
      (tensors_more e vars lets good.1) (omega (arith, deep)) (omega (arith, room)) in
      binder (let_in a e) scope vars lets (keyword k.Let ∷ name_token (let_text lets) ∷ sign k.Assign ∷ ta ++ keyword k.In ∷ te) deep refl refl refl refl
      (λ l h. says_one k.Let (says_opened (omega (arith, h)) (says_then tt refl (says_then (let_text lets) refl (says_then tt refl
      (says_both ta (keyword k.In ∷ te) a (below_whole a scope vars lets l ha (omega (arith, h)))
      (says_then tt refl (says_end te e (below_whole e inner vars (lets + 1) l he (omega (arith, h))) says_nothing))))))))
  back (add a e) scope vars lets known good deep room =
      let ha = back a scope vars lets known good.0 (omega (arith, deep)) (omega (arith, room)) in
      let he = back e scope vars lets known good.1 (omega (arith, deep)) (omega (arith, room)) in
      summed (add a e) scope vars lets (tokens a Sum vars lets ++ sign k.Plus ∷ tokens e Product vars lets) deep refl refl refl refl
      (sum_step a e (add a e) k.Plus add scope vars lets refl refl ha he (omega (arith, deep)))
  back (sub a e) scope vars lets known good deep room =
      let ha = back a scope vars lets known good.0 (omega (arith, deep)) (omega (arith, room)) in
      let he = back e scope vars lets known good.1 (omega (arith, deep)) (omega (arith, room)) in
      summed (sub a e) scope vars lets (tokens a Sum vars lets ++ sign k.Minus ∷ tokens e Product vars lets) deep refl refl refl refl
      (sum_step a e (sub a e) k.Minus sub scope vars lets refl refl ha he (omega (arith, deep)))
  back (mul a e) scope vars lets known good deep room =
      let ha = back a scope vars lets known good.0 (omega (arith, deep)) (omega (arith, room)) in
      let he = back e scope vars lets known good.1 (omega (arith, deep)) (omega (arith, room)) in
      multiplied (mul a e) scope vars lets (tokens a Product vars lets ++ sign k.Star ∷ tokens e Factor vars lets) deep refl refl refl refl
      (product_step a e scope vars lets ha he)
  back (concat a e) scope vars lets known good deep room =
      let ta = tokens a Whole vars lets in
      let te = tokens e Whole vars lets in
      let ha = back a scope vars lets known good.0 (omega (arith, deep)) (omega (arith, room)) in
      let he = back e scope vars lets known good.1 (omega (arith, deep)) (omega (arith, room)) in
      primary (concat a e) scope vars lets (keyword k.Concat ∷ sign k.LParen ∷ (ta ++ sign k.Comma ∷ te) ++ sign k.RParen ∷ []) deep refl refl refl refl
      (λ l h. says_one k.Concat (says_then tt refl (paren_says l scope (ta ++ sign k.Comma ∷ te) (concat a e) (omega (arith, h))
      (says_both ta (sign k.Comma ∷ te) a (below_whole a scope vars lets l ha (omega (arith, h)))
      (says_then tt refl (says_end te e (below_whole e scope vars lets l he (omega (arith, h))) says_nothing))))))
  back (flatten e) scope vars lets known good deep room =
      let te = tokens e Whole vars lets in
      let he = back e scope vars lets known good (omega (arith, deep)) (omega (arith, room)) in
      primary (flatten e) scope vars lets (keyword k.Flatten ∷ sign k.LParen ∷ te ++ sign k.RParen ∷ []) deep refl refl refl refl
      (λ l h. says_one k.Flatten (says_then tt refl (paren_says l scope te (flatten e) (omega (arith, h))
      (says_end te e (below_whole e scope vars lets l he (omega (arith, h))) says_nothing))))
  back (split d e) scope vars lets known good deep room =
      let te = tokens e Whole vars lets in
      let he = back e scope vars lets known good.2 (omega (arith, deep)) (omega (arith, room)) in
      primary (split d e) scope vars lets (keyword k.Split ∷ sign k.LParen ∷ (number_token d ∷ sign k.Comma ∷ te) ++ sign k.RParen ∷ []) deep refl refl refl
      refl
      (λ l h. says_one k.Split (says_then tt refl (paren_says l scope (number_token d ∷ sign k.Comma ∷ te) (split d e) (omega (arith, h))
      (says_then d (tile-says d good.0 good.1) (says_then tt refl (says_end te e (below_whole e scope vars lets l he (omega (arith, h))) says_nothing))))))
  back (transpose e) scope vars lets known good deep room =
      let te = tokens e Whole vars lets in
      let he = back e scope vars lets known good (omega (arith, deep)) (omega (arith, room)) in
      primary (transpose e) scope vars lets (keyword k.Transpose ∷ sign k.LParen ∷ te ++ sign k.RParen ∷ []) deep refl refl refl refl
      (λ l h. says_one k.Transpose (says_then tt refl (paren_says l scope te (transpose e) (omega (arith, h))
      (says_end te e (below_whole e scope vars lets l he (omega (arith, h))) says_nothing))))
  back (trunc_l n e) scope vars lets known good deep room =
      let te = tokens e Whole vars lets in
      let he = back e scope vars lets known good.1 (omega (arith, deep)) (omega (arith, room)) in
      primary (trunc_l n e) scope vars lets (keyword k.TruncL ∷ sign k.LParen ∷ (forms 0 n ++ sign k.Comma ∷ te) ++ sign k.RParen ∷ []) deep refl refl refl refl
      (λ l h. says_one k.TruncL (says_then tt refl (paren_says l scope (forms 0 n ++ sign k.Comma ∷ te) (trunc_l n e) (omega (arith, h))
      (says_both (forms 0 n) (sign k.Comma ∷ te) n (extent-say scope vars lets known n l good.0 (omega (arith, h)))
      (says_then tt refl (says_end te e (below_whole e scope vars lets l he (omega (arith, h))) says_nothing))))))
  back (trunc_r n e) scope vars lets known good deep room =
      let te = tokens e Whole vars lets in
      let he = back e scope vars lets known good.1 (omega (arith, deep)) (omega (arith, room)) in
      primary (trunc_r n e) scope vars lets (keyword k.TruncR ∷ sign k.LParen ∷ (forms 0 n ++ sign k.Comma ∷ te) ++ sign k.RParen ∷ []) deep refl refl refl refl
      (λ l h. says_one k.TruncR (says_then tt refl (paren_says l scope (forms 0 n ++ sign k.Comma ∷ te) (trunc_r n e) (omega (arith, h))
      (says_both (forms 0 n) (sign k.Comma ∷ te) n (extent-say scope vars lets known n l good.0 (omega (arith, h)))
      (says_then tt refl (says_end te e (below_whole e scope vars lets l he (omega (arith, h))) says_nothing))))))
  back (pad_l n e) scope vars lets known good deep room =
      let te = tokens e Whole vars lets in
      let he = back e scope vars lets known good.1 (omega (arith, deep)) (omega (arith, room)) in
      primary (pad_l n e) scope vars lets (keyword k.PadL ∷ sign k.LParen ∷ (forms 0 n ++ sign k.Comma ∷ te) ++ sign k.RParen ∷ []) deep refl refl refl refl
      (λ l h. says_one k.PadL (says_then tt refl (paren_says l scope (forms 0 n ++ sign k.Comma ∷ te) (pad_l n e) (omega (arith, h))
      (says_both (forms 0 n) (sign k.Comma ∷ te) n (extent-say scope vars lets known n l good.0 (omega (arith, h)))
      (says_then tt refl (says_end te e (below_whole e scope vars lets l he (omega (arith, h))) says_nothing))))))
  back (pad_r n e) scope vars lets known good deep room =
      let te = tokens e Whole vars lets in
      let he = back e scope vars lets known good.1 (omega (arith, deep)) (omega (arith, room)) in
      primary (pad_r n e) scope vars lets (keyword k.PadR ∷ sign k.LParen ∷ (forms 0 n ++ sign k.Comma ∷ te) ++ sign k.RParen ∷ []) deep refl refl refl refl
      (λ l h. says_one k.PadR (says_then tt refl (paren_says l scope (forms 0 n ++ sign k.Comma ∷ te) (pad_r n e) (omega (arith, h))
      (says_both (forms 0 n) (sign k.Comma ∷ te) n (extent-say scope vars lets known n l good.0 (omega (arith, h)))
      (says_then tt refl (says_end te e (below_whole e scope vars lets l he (omega (arith, h))) says_nothing))))))

  -- the tokens of a term of depth at most 200 stand for it, where 914 levels may be opened
  pub term-says : (t : Term) (scope : Scope) → InScope scope 0 0 → IsPrintable sizes t 0 inputs → node_depth t ≤ 200 → (l : ℕ) → 914 ≤ l
      → Says (IsTerm l Whole scope) (tokens t Whole 0 0) t
  term-says t scope known good deep l h = (back t scope 0 0 known (subst (λ n. IsPrintable sizes t 0 n) (same inputs) good) deep (omega (arith, deep))).in_whole
      l (omega (arith, deep, h))
    where
      same : (n : ℕ) → n ≡ 0 + n
      same n = omega arith
