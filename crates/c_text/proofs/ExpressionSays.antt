-- The printed words of indices, tests and words stand for them, by the grammar of C's expressions.
use Rattle.std.proofs.Common.{◌≡◌, ℕ, zero, suc, ◌+◌, ◌<◌, ◌≤◌, ◌^◌, Bool, true, false, nat_lt}
use Rattle.std.proofs.Common.{List, [], ◌∷◌, ◌++◌, length, Some, Ok, refl, sym, subst, arith, append_assoc}
use Rattle.std.specs.Prelude.{pos, negsuc, codes}
use Rattle.std.proofs.lemmas.Bool.{and_parts}
use Rattle.affine_index.specs.declared.cond.Rel.{Rel}
use Rattle.affine_index.specs.declared.cond.Rel.TheVariants.{Lt, Le, Gt, Ge, Eq}
use Rattle.text_tokens.specs.declared.kind.Kind.{Kind}
use Rattle.text_tokens.specs.declared.kind.Kind.TheVariants as k
use Rattle.text_tokens.specs.Words.{Word}
use Rattle.loop_lang.specs.declared.index.Iexp.{Iexp, Lit, Size, Loop}
use Rattle.loop_lang.specs.declared.index.Test.{Test}
use Rattle.loop_lang.specs.declared.word.Buf.{Buf}
use Rattle.loop_lang.specs.declared.word.Buf.TheVariants.{Input}
use Rattle.loop_lang.specs.declared.word.Wexp.{Wexp}
use Rattle.loop_lang.specs.declared.word.Wexp as word
use Rattle.loop_lang.specs.Form.{is_literal, is_divisor}
use Rattle.loop_lang.specs.Syntax.{index_sum, index_difference, index_product, index_quotient, index_remainder}
use Rattle.loop_lang.specs.Syntax.{index_larger, word_sum, word_difference, word_product, word_choice}
use Rattle.c_print.specs.declared.level.Level.{Level}
use Rattle.c_print.specs.declared.level.Level.TheVariants.{Choice, Sum, Product, Part}
use Rattle.c_print.specs.Level.{is_looser}
use Rattle.c_print.specs.Index.{size_name, loop_name}
use Rattle.c_print.specs.Word.{buffer_name}
use Rattle.reader_laws.specs.Grammar.{Both, IsChain}
use Rattle.text_tokens.specs.Spelled.{Token, name_token, number_token}
use Rattle.c_words.specs.Tokens.{AndAnd, Question, sign}
use Rattle.c_text.specs.Expression as grammar
use Rattle.c_text.specs.Expression.{Value, OfIndex, OfWord, OfTests, Scope, HasBuffer, Operator, Plus, Minus, Times, Over}
use Rattle.c_text.specs.Expression.{Modulo, join, sum_operator, product_operator, sums, products, relations, ands, choices, max_chain, IsInner}
use Rattle.c_text.specs.Printed.{enclosed, index_words, index_number, element_words, relation_sign, test_words, more_tests, tests_words, word_words}
use Rattle.c_text.specs.Printable.{Below, Enclosed, in_sums, in_products, index_chain, word_chain, IndexFits, TestFits, EachTestFits, TestsFit, WordFits}
use Rattle.reader_laws.proofs.Says.{Says, Begins, begins_first, begins_link, begins_end, says_both, says_end, says_opened, says_stop}
use Rattle.c_text.proofs.RulesSay.{append-nil, says_around, says_behind, says_made, says_token}

-- ---- places

below-map : (l : ℕ) (P Q : ℕ → Type 0) → ((m : ℕ) → P m → Q m) → Below l P → Below l Q
below-map zero P Q f h = h
below-map (suc l) P Q f h = f l h

-- an expression whose kind is an index, or a word
pub as_index : {rule : List Word → Value → Type 0} {ts : List Token} {i : Iexp} → Says rule ts (OfIndex i) → Says (grammar.Index rule) ts i
as_index p = record { says = λ ws e. p.says ws e }

pub as_word : {rule : List Word → Value → Type 0} {ts : List Token} {w : Wexp} → Says rule ts (OfWord w) → Says (grammar.AWord rule) ts w
as_word p = record { says = λ ws e. p.says ws e }

pub as_tests : {rule : List Word → Value → Type 0} {ts : List Token} {cs : List Test} → Says rule ts (OfTests cs) → Says (grammar.Tests rule) ts cs
as_tests p = record { says = λ ws e. p.says ws e }

module _ (scope : Scope) where
  -- with so many levels left
  module _ (l : ℕ) where
    abbrev ThePart : List Word → Value → Type 0
    ThePart = grammar.IsPart scope (IsInner scope l) l

    abbrev TheProduct : List Word → Value → Type 0
    TheProduct = grammar.IsProduct scope (IsInner scope l) l

    abbrev TheSum : List Word → Value → Type 0
    TheSum = grammar.IsSum scope (IsInner scope l) l

    abbrev TheRelation : List Word → Value → Type 0
    TheRelation = grammar.IsRelation scope (IsInner scope l) l

    abbrev TheAnd : List Word → Value → Type 0
    TheAnd = grammar.IsAnd scope (IsInner scope l) l

    abbrev TheChoice : List Word → Value → Type 0
    TheChoice = grammar.IsChoice scope (IsInner scope l) l

    abbrev ProductBegins : List Token → Value → ℕ → Type 0
    ProductBegins = Begins (products l) (λ n a o. IsInner scope l Part) ThePart 0

    abbrev SumBegins : List Token → Value → ℕ → Type 0
    SumBegins = Begins (sums l) (λ n a o. IsInner scope l Product) TheProduct 0

    whole_product : (ts : List Token) (x : Value) (c : ℕ) → ProductBegins ts x c × (c ≤ 1000) → Says TheProduct ts x
    unfolding max_chain
    whole_product ts x c h = begins_end (products l) _ ThePart 0 ts x c max_chain h.0 (omega (arith, h.1))

    whole_sum : (ts : List Token) (x : Value) (c : ℕ) → SumBegins ts x c × (c ≤ 1000) → Says TheSum ts x
    unfolding max_chain
    whole_sum ts x c h = begins_end (sums l) _ TheProduct 0 ts x c max_chain h.0 (omega (arith, h.1))

    product_first : (ts : List Token) (x : Value) → Says ThePart ts x → ProductBegins ts x 0 × (0 ≤ 1000)
    product_first ts x p = (begins_first (products l) _ ThePart 0 ts x p, omega arith)

    sum_first : (ts : List Token) (x : Value) → Says TheProduct ts x → SumBegins ts x 0 × (0 ≤ 1000)
    sum_first ts x p = (begins_first (sums l) _ TheProduct 0 ts x p, omega arith)

    one_relation : (ts : List Token) (x : Value) → Says TheSum ts x → Says TheRelation ts x
    one_relation ts x p = says_end ts x p (says_stop relations _ 1 x)

    any_number : (ts : List Token) (x : Value) (n : ℕ) → Says (Both TheRelation (λ y. IsChain ands (λ m a o. TheRelation) n y)) ts x → Says TheAnd ts x
    any_number ts x n p = record {
      says = λ ws e. let r = p.says ws e
          in record { value = r.value; front = r.front; rest = r.rest; words = r.words; is_first = r.is_first; is_then = (n, r.is_then) };
    }

    one_and : (ts : List Token) (x : Value) → Says TheRelation ts x → Says TheAnd ts x
    one_and ts x p = any_number ts x 0 (says_end ts x p (says_stop ands (λ m a o. TheRelation) 0 x))

    one_choice : (ts : List Token) (x : Value) → Says TheAnd ts x → Says TheChoice ts x
    one_choice ts x p = says_end ts x p (says_stop (choices l) _ 1 x)

    choice_of_sum : (ts : List Token) (x : Value) → Says TheSum ts x → Says TheChoice ts x
    choice_of_sum ts x p = one_choice ts x (one_and ts x (one_relation ts x p))

    -- tokens stand for a value in a place; in a chain with so many operators
    abbrev Stand : Level → List Token → Value → ℕ → Type 0
    Stand Choice ts x c = Says TheChoice ts x
    Stand Sum ts x c = SumBegins ts x c × (c ≤ 1000)
    Stand Product ts x c = ProductBegins ts x c × (c ≤ 1000)
    Stand Part ts x c = Says ThePart ts x

    -- what stands alone
    part_stands : (place : Level) (ts : List Token) (x : Value) → Says ThePart ts x → Stand place ts x 0
    part_stands Choice ts x p = choice_of_sum ts x (whole_sum ts x 0 (sum_first ts x (whole_product ts x 0 (product_first ts x p))))
    part_stands Sum ts x p = sum_first ts x (whole_product ts x 0 (product_first ts x p))
    part_stands Product ts x p = product_first ts x p
    part_stands Part ts x p = p

  in_parens : (l : ℕ) (ts : List Token) (x : Value) → Says (TheChoice l) ts x → Says (ThePart (suc l)) (enclosed true ts) x
  in_parens l ts x p =
      record { says = λ ws e. (grammar.Parenthesized, (says_opened (omega arith) (says_around (sign k.LParen ∷ []) ts (sign k.RParen ∷ []) p)).says ws e) }

  enclosed_stands : (place : Level) (l : ℕ) (ts : List Token) (x : Value) → Below l (λ m. Says (TheChoice m) ts x) → Stand l place (enclosed true ts) x 0
  enclosed_stands place zero ts x h = absurd h
  enclosed_stands place (suc l) ts x h = part_stands (suc l) place (enclosed true ts) x (in_parens l ts x h)

  -- a chain of products, which stands in parentheses as a part alone
  product_stands : (place : Level) (l : ℕ) (ts : List Token) (x : Value) (c : ℕ) → Enclosed (is_looser Product place)
      (λ m. ProductBegins m ts x c × (c ≤ 1000)) l → Stand l place (enclosed (is_looser Product place) ts) x (in_products place c)
  product_stands Choice l ts x c h = choice_of_sum l ts x (whole_sum l ts x 0 (sum_first l ts x (whole_product l ts x c h)))
  product_stands Sum l ts x c h = sum_first l ts x (whole_product l ts x c h)
  product_stands Product l ts x c h = h
  product_stands Part l ts x c h =
      enclosed_stands Part l ts x (below-map l _ _ (λ m g. choice_of_sum m ts x (whole_sum m ts x 0 (sum_first m ts x (whole_product m ts x c g)))) h)

  -- a chain of sums, which stands in parentheses in a product
  sum_stands : (place : Level) (l : ℕ) (ts : List Token) (x : Value) (c : ℕ) → Enclosed (is_looser Sum place) (λ m. SumBegins m ts x c × (c ≤ 1000)) l
      → Stand l place (enclosed (is_looser Sum place) ts) x (in_sums place c)
  sum_stands Choice l ts x c h = choice_of_sum l ts x (whole_sum l ts x c h)
  sum_stands Sum l ts x c h = h
  sum_stands Product l ts x c h = enclosed_stands Product l ts x (below-map l _ _ (λ m g. choice_of_sum m ts x (whole_sum m ts x c g)) h)
  sum_stands Part l ts x c h = enclosed_stands Part l ts x (below-map l _ _ (λ m g. choice_of_sum m ts x (whole_sum m ts x c g)) h)

  -- a choice, which stands in parentheses as the operand of an operator
  choice_stands : (place : Level) (l : ℕ) (ts : List Token) (x : Value) → Enclosed (is_looser Choice place) (λ m. Says (TheChoice m) ts x) l
      → Stand l place (enclosed (is_looser Choice place) ts) x 0
  choice_stands Choice l ts x h = h
  choice_stands Sum l ts x h = enclosed_stands Sum l ts x h
  choice_stands Product l ts x h = enclosed_stands Product l ts x h
  choice_stands Part l ts x h = enclosed_stands Part l ts x h

  enclosed-map : (b : Bool) (P Q : ℕ → Type 0) → ((m : ℕ) → P m → Q m) → (l : ℕ) → Enclosed b P l → Enclosed b Q l
  enclosed-map true P Q f l h = below-map l P Q f h
  enclosed-map false P Q f l h = f l h

  -- ---- one operator more

  sum_step : (l : ℕ) (ts us : List Token) (a b x : Value) (c d : ℕ) (kd : Kind) (o : Operator) → sum_operator kd ≡ Some o → SumBegins l ts a c × (c ≤ 1000)
      → Below l (λ m. ProductBegins m us b d × (d ≤ 1000)) → join o a b ≡ Ok x → c < 1000
      → SumBegins l (ts ++ sign kd ∷ us) x (c + 1) × (c + 1 ≤ 1000)
  unfolding sums
  sum_step zero ts us a b x c d kd o is p q j h = absurd q
  sum_step (suc l) ts us a b x c d kd o is p q j h = (
    begins_link (sums (suc l)) _ (TheProduct (suc l)) 0 ts a c (sign kd) o us b x p.0 is (λ n r. omega arith) (λ n r. whole_product l us b d q) j,
    omega
        (arith, h),
  )

  product_step : (l : ℕ) (ts us : List Token) (a b x : Value) (c : ℕ) (kd : Kind) (o : Operator) → product_operator kd ≡ Some o
      → ProductBegins l ts a c × (c ≤ 1000) → Below l (λ m. Says (ThePart m) us b) → join o a b ≡ Ok x → c < 1000
      → ProductBegins l (ts ++ sign kd ∷ us) x (c + 1) × (c + 1 ≤ 1000)
  unfolding products
  product_step zero ts us a b x c kd o is p q j h = absurd q
  product_step (suc l) ts us a b x c kd o is p q j h =
      (begins_link (products (suc l)) _ (ThePart (suc l)) 0 ts a c (sign kd) o us b x p.0 is (λ n r. omega arith) (λ n r. q) j, omega (arith, h))

  -- ---- parts

  says_form : (l : ℕ) (form : grammar.PartForm) (ts : List Token) (x : Value) → Says (grammar.IsPartBy scope (IsInner scope l) l form) ts x
      → Says (ThePart l) ts x
  says_form l form ts x p = record { says = λ ws e. (form, p.says ws e) }

  number-says : (l n : ℕ) → n < 2 ^ 63 → 0 < l → Says (ThePart l) (index_number n) (OfIndex (Lit (pos n)))
  number-says l n h g =
      says_form l grammar.IndexLiteral (index_number n) _
      (says_made grammar.index_literal n
      (says_opened g (says_around (name_token (codes "INT64_C") ∷ sign k.LParen ∷ []) (number_token n ∷ []) (sign k.RParen ∷ []) (says_token n h))))

  word-says : (l n : ℕ) → n < 2 ^ 64 → 0 < l → Says (ThePart l) (word_words (word.Lit n) Part) (OfWord (word.Lit n))
  word-says l n h g =
      says_form l grammar.WordLiteral (word_words (word.Lit n) Part) _
      (says_made grammar.word_literal n
      (says_opened g (says_around (name_token (codes "UINT64_C") ∷ sign k.LParen ∷ []) (number_token n ∷ []) (sign k.RParen ∷ []) (says_token n h))))

  size-says : (l n : ℕ) → n < scope.sizes → Says (ThePart l) (name_token (size_name n) ∷ []) (OfIndex (Size n))
  size-says l n h = says_form l grammar.SizeName _ _ (says_made grammar.size_value n (says_token n h))

  loop-says : (l n : ℕ) → n < scope.loops → Says (ThePart l) (name_token (loop_name n) ∷ []) (OfIndex (Loop n))
  loop-says l n h = says_form l grammar.LoopName _ _ (says_made grammar.loop_value n (says_token n h))

  small : (n : ℕ) → is_literal (pos n) ≡ true → n < 2 ^ 63
  small n h = below n h
    where
      below : (n : ℕ) → nat_lt n (2 ^ 63) ≡ true → n < 2 ^ 63
      below n h = grind arith

  divisor_small : (n : ℕ) → is_divisor n ≡ true → n < 2 ^ 63
  divisor_small n h = small n (and_parts (nat_lt 0 n) (nat_lt n (2 ^ 63)) h).1

  over : (a : Iexp) (n : ℕ) → is_divisor n ≡ true → join Over (OfIndex a) (OfIndex (Lit (pos n))) ≡ Ok (OfIndex (index_quotient a n))
  over a zero h = absurd (cc)
  over a (suc n) h = refl

  modulo : (a : Iexp) (n : ℕ) → is_divisor n ≡ true → join Modulo (OfIndex a) (OfIndex (Lit (pos n))) ≡ Ok (OfIndex (index_remainder a n))
  modulo a zero h = absurd (cc)
  modulo a (suc n) h = refl

  -- a literal below, as the right operand of a quotient or remainder
  divisor-says : (l n : ℕ) → is_divisor n ≡ true → Below l (λ r. 0 < r) → Below l (λ m. Says (ThePart m) (index_number n) (OfIndex (Lit (pos n))))
  divisor-says l n h g = below-map l _ _ (λ m r. number-says m n (divisor_small n h) r) g

  -- ---- indices

  abbrev Stands : Iexp → Level → ℕ → Type 0
  Stands t place l = Stand l place (index_words t place) (OfIndex t) (index_chain place t)

  larger-says : (l : ℕ) (a b : Iexp) → scope.in_length ≡ true → Below l (λ m. Stands a Choice m × Stands b Choice m)
      → Says (ThePart l) (index_words (index_larger a b) Part) (OfIndex (index_larger a b))
  larger-says zero a b e h = absurd h
  larger-says (suc l) a b e h =
      let two : Says (grammar.IsTwo scope (IsInner scope (suc l)) (suc l)) (index_words a Choice ++ sign k.Comma ∷ index_words b Choice) (a, b) = says_both
      (index_words a Choice) (sign k.Comma ∷ index_words b Choice) a (as_index h.0)
      (says_made (λ b. (a, b)) b (says_behind (sign k.Comma ∷ []) (index_words b Choice) (as_index h.1))) in
      says_form (suc l) grammar.Larger _ _
      (says_made grammar.larger_value (a, b)
      (record {
        says = λ ws g. (
          e,
          (says_opened (omega arith)
              (says_around (name_token (codes "top") ∷ sign k.LParen ∷ []) (index_words a Choice ++ sign k.Comma ∷ index_words b Choice)
              (sign k.RParen ∷ []) two)).says ws g,
        );
      }))

  index-stands : (t : Iexp) (place : Level) (l : ℕ) → IndexFits scope t place l → Stands t place l
  index-stands (Lit (pos n)) place l h = part_stands l place (index_number n) (OfIndex (Lit (pos n))) (number-says l n (small n h.0) h.1)
  index-stands (Lit (negsuc n)) place l h = absurd (let e = h.0 in cc)
  index-stands (Size n) place l h = part_stands l place (name_token (size_name n) ∷ []) (OfIndex (Size n)) (size-says l n h)
  index-stands (Loop n) place l h = part_stands l place (name_token (loop_name n) ∷ []) (OfIndex (Loop n)) (loop-says l n h)
  index-stands (index_sum a b) place l h =
      sum_stands place l (index_words a Sum ++ sign k.Plus ∷ index_words b Product) (OfIndex (index_sum a b)) (index_chain Sum a + 1)
      (enclosed-map (is_looser Sum place) _ _
      (λ m g. sum_step m (index_words a Sum) (index_words b Product) (OfIndex a) (OfIndex b) (OfIndex (index_sum a b)) (index_chain Sum a)
      (index_chain Product b) k.Plus Plus refl
      (index-stands a Sum m g.0) (below-map m _ _ (λ r f. index-stands b Product r f) g.1) refl g.2) l h)
  index-stands (index_difference a b) place l h =
      sum_stands place l (index_words a Sum ++ sign k.Minus ∷ index_words b Product) (OfIndex (index_difference a b)) (index_chain Sum a + 1)
      (enclosed-map (is_looser Sum place) _ _
      (λ m g. sum_step m (index_words a Sum) (index_words b Product) (OfIndex a) (OfIndex b) (OfIndex (index_difference a b)) (index_chain Sum a)
      (index_chain Product b) k.Minus Minus refl
      (index-stands a Sum m g.0) (below-map m _ _ (λ r f. index-stands b Product r f) g.1) refl g.2) l h)
  index-stands (index_product a b) place l h =
      product_stands place l (index_words a Product ++ sign k.Star ∷ index_words b Part) (OfIndex (index_product a b)) (index_chain Product a + 1)
      (enclosed-map (is_looser Product place) _ _
      (λ m g. product_step m (index_words a Product) (index_words b Part) (OfIndex a) (OfIndex b) (OfIndex (index_product a b))
      (index_chain Product a) k.Star Times refl
      (index-stands a Product m g.0) (below-map m _ _ (λ r f. index-stands b Part r f) g.1) refl g.2) l h)
  index-stands (index_quotient a n) place l h =
      product_stands place l (index_words a Product ++ sign k.Slash ∷ index_number n) (OfIndex (index_quotient a n)) (index_chain Product a + 1)
      (enclosed-map (is_looser Product place) _ _
      (λ m g. product_step m (index_words a Product) (index_number n) (OfIndex a) (OfIndex (Lit (pos n))) (OfIndex (index_quotient a n))
      (index_chain Product a) k.Slash Over refl
      (index-stands a Product m g.0) (divisor-says m n g.2 g.1) (over a n g.2) g.3) l h)
  index-stands (index_remainder a n) place l h =
      product_stands place l (index_words a Product ++ sign k.Percent ∷ index_number n) (OfIndex (index_remainder a n)) (index_chain Product a + 1)
      (enclosed-map (is_looser Product place) _ _
      (λ m g. product_step m (index_words a Product) (index_number n) (OfIndex a) (OfIndex (Lit (pos n))) (OfIndex (index_remainder a n))
      (index_chain Product a) k.Percent Modulo refl
      (index-stands a Product m g.0) (divisor-says m n g.2 g.1) (modulo a n g.2) g.3) l h)
  index-stands (index_larger a b) place l h =
      part_stands l place (index_words (index_larger a b) Part) (OfIndex (index_larger a b))
      (larger-says l a b h.0 (below-map l _ _ (λ m g. (index-stands a Choice m g.0, index-stands b Choice m g.1)) h.1))

  pub index-says : (t : Iexp) (l : ℕ) → IndexFits scope t Choice l → Says (TheChoice l) (index_words t Choice) (OfIndex t)
  index-says t l h = index-stands t Choice l h

  -- ---- tests

  relation-of : (r : Rel) → grammar.relation (relation_sign r) ≡ Some r
  relation-of Lt = refl
  relation-of Le = refl
  relation-of Gt = refl
  relation-of Ge = refl
  relation-of Eq = refl

  test-says : (c : Test) (l : ℕ) → TestFits scope c l → Says (TheRelation l) (test_words c) (OfTests (c ∷ []))
  unfolding relations
  test-says c l h =
      begins_end relations _ (TheSum l) 0 (test_words c) (OfTests (c ∷ [])) 1 1
      (begins_link relations _ (TheSum l) 0 (index_words c.left Sum) (OfIndex c.left) 0 (sign (relation_sign c.rel)) c.rel (index_words c.right Sum)
      (OfIndex c.right) (OfTests (c ∷ []))
      (begins_first relations _ (TheSum l) 0 (index_words c.left Sum) (OfIndex c.left)
      (whole_sum l (index_words c.left Sum) (OfIndex c.left) (index_chain Sum c.left) (index-stands c.left Sum l h.0)))
      (relation-of c.rel) (λ n r. omega arith)
      (λ n r. whole_sum l (index_words c.right Sum) (OfIndex c.right) (index_chain Sum c.right) (index-stands c.right Sum l h.1)) refl)
      (omega arith)

  abbrev TestsBegin : ℕ → List Token → List Test → ℕ → Type 0
  TestsBegin l ts cs c = Begins ands (λ n a o. TheRelation l) (TheRelation l) 0 ts (OfTests cs) c

  more-say : (l : ℕ) (ds : List Test) (ts : List Token) (cs : List Test) (c : ℕ) → EachTestFits scope ds l → TestsBegin l ts cs c
      → TestsBegin l (ts ++ more_tests ds) (cs ++ ds) (c + length ds)
  unfolding ands
  more-say l [] ts cs c h b =
      let same : c ≡ c + 0 = omega arith in
      subst (λ us. TestsBegin l us (cs ++ []) (c + 0)) (sym (append-nil ts))
      (subst (λ es. TestsBegin l ts es (c + 0)) (sym (append-nil cs)) (subst (TestsBegin l ts cs) same b))
  more-say l (d ∷ ds) ts cs c h b =
      let one : TestsBegin l (ts ++ sign AndAnd ∷ test_words d) (cs ++ d ∷ []) (c + 1) =
      begins_link ands _ (TheRelation l) 0 ts (OfTests cs) c (sign AndAnd) tt (test_words d) (OfTests (d ∷ [])) (OfTests (cs ++ d ∷ [])) b refl
      (λ n r. omega arith) (λ n r. test-says d l h.0) refl in
      let same : c + 1 + length ds ≡ c + suc (length ds) = omega arith in
      subst (TestsBegin l (ts ++ more_tests (d ∷ ds)) (cs ++ d ∷ ds)) same
      (subst (λ us. TestsBegin l us (cs ++ d ∷ ds) (c + 1 + length ds)) (append_assoc ts (sign AndAnd ∷ test_words d) (more_tests ds))
      (subst (λ es. TestsBegin l ((ts ++ sign AndAnd ∷ test_words d) ++ more_tests ds) es (c + 1 + length ds)) (append_assoc cs (d ∷ []) ds)
      (more-say l ds (ts ++ sign AndAnd ∷ test_words d) (cs ++ d ∷ []) (c + 1) h.1 one)))

  tests-say : (cs : List Test) (l : ℕ) → TestsFit scope cs l → Says (TheAnd l) (tests_words cs) (OfTests cs)
  tests-say [] l h = absurd (omega (arith, h.0))
  tests-say (c ∷ cs) l h =
      any_number l (tests_words (c ∷ cs)) (OfTests (c ∷ cs)) (0 + length cs)
      (begins_end ands _ (TheRelation l) 0 (tests_words (c ∷ cs)) (OfTests (c ∷ cs)) (0 + length cs) (0 + length cs)
      (more-say l cs (test_words c) (c ∷ []) 0 h.1.1 (begins_first ands _ (TheRelation l) 0 (test_words c) (OfTests (c ∷ [])) (test-says c l h.1.0)))
      (omega arith))

  -- ---- words

  abbrev WordStands : Wexp → Level → ℕ → Type 0
  WordStands w place l = Stand l place (word_words w place) (OfWord w) (word_chain place w)

  pub element-says : (l : ℕ) (b : Buf) (i : Iexp) → HasBuffer scope b → Below l (IndexFits scope i Choice)
      → Says (grammar.IsElement scope (IsInner scope l) l) (element_words b i) (b, i)
  element-says zero b i g h = absurd h
  element-says (suc l) b i g h =
      says_both (name_token (buffer_name b) ∷ []) (sign k.LBracket ∷ index_words i Choice ++ sign k.RBracket ∷ []) b (says_token b g)
      (says_made (λ i. (b, i)) i (says_opened (omega arith)
      (says_around (sign k.LBracket ∷ []) (index_words i Choice) (sign k.RBracket ∷ []) (as_index (index-says i l h)))))

  converted-says : (l : ℕ) (i : Iexp) → Below l (IndexFits scope i Choice) → Says (ThePart l) (word_words (word.OfIndex i) Part) (OfWord (word.OfIndex i))
  converted-says zero i h = absurd h
  converted-says (suc l) i h =
      says_form (suc l) grammar.Converted _ _
      (says_made grammar.converted_value i
      (says_opened (omega arith) (says_around (sign k.LParen ∷ name_token (codes "uint64_t") ∷ sign k.RParen ∷ sign k.LParen ∷ []) (index_words i Choice)
      (sign k.RParen ∷ []) (as_index (index-says i l h)))))

  sides-say : (l : ℕ) (a b : Wexp) → WordStands a Choice l → WordStands b Choice l
      → Says (grammar.IsSides scope (IsInner scope (suc l)) (suc l)) (word_words a Choice ++ sign k.Colon ∷ word_words b Choice) (OfWord a, OfWord b)
  sides-say l a b p q = says_both (word_words a Choice) (sign k.Colon ∷ word_words b Choice) (OfWord a) p
      (says_made (λ x. (OfWord a, x)) (OfWord b) (says_behind (sign k.Colon ∷ []) (word_words b Choice) q))

  choice-says : (l : ℕ) (cs : List Test) (a b : Wexp) → TestsFit scope cs l → Below l (λ m. WordStands a Choice m × WordStands b Choice m)
      → Says (TheChoice l) (tests_words cs ++ sign Question ∷ (word_words a Choice ++ sign k.Colon ∷ word_words b Choice)) (OfWord (word_choice cs a b))
  unfolding choices
  choice-says zero cs a b h g = absurd g
  choice-says (suc l) cs a b h g =
      let sides = word_words a Choice ++ sign k.Colon ∷ word_words b Choice in
      begins_end (choices (suc l)) _ (TheAnd (suc l)) 0 (tests_words cs ++ sign Question ∷ sides) (OfWord (word_choice cs a b)) 1 1
      (begins_link (choices (suc l)) _ (TheAnd (suc l)) 0 (tests_words cs) (OfTests cs) 0 (sign Question) tt sides (OfWord a, OfWord b)
      (OfWord (word_choice cs a b))
      (begins_first (choices (suc l)) _ (TheAnd (suc l)) 0 (tests_words cs) (OfTests cs) (tests-say cs (suc l) h))
      refl (λ n r. omega arith) (λ n r. sides-say l a b g.0 g.1) refl)
      (omega arith)

  word-stands : (w : Wexp) (place : Level) (l : ℕ) → WordFits scope w place l → WordStands w place l
  word-stands (word.Lit n) place l h = part_stands l place (word_words (word.Lit n) Part) (OfWord (word.Lit n)) (word-says l n h.0 h.1)
  word-stands (word.Load b i) place l h = part_stands l place (element_words b i) (OfWord (word.Load b i))
      (says_form l grammar.Element _ _ (says_made grammar.load_value (b, i) (element-says l b i h.0 h.1)))
  word-stands (word.OfIndex i) place l h = part_stands l place (word_words (word.OfIndex i) Part) (OfWord (word.OfIndex i)) (converted-says l i h)
  word-stands (word_sum a b) place l h =
      sum_stands place l (word_words a Sum ++ sign k.Plus ∷ word_words b Product) (OfWord (word_sum a b)) (word_chain Sum a + 1)
      (enclosed-map (is_looser Sum place) _ _
      (λ m g. sum_step m (word_words a Sum) (word_words b Product) (OfWord a) (OfWord b) (OfWord (word_sum a b)) (word_chain Sum a)
      (word_chain Product b) k.Plus Plus refl
      (word-stands a Sum m g.0) (below-map m _ _ (λ r f. word-stands b Product r f) g.1) refl g.2) l h)
  word-stands (word_difference a b) place l h =
      sum_stands place l (word_words a Sum ++ sign k.Minus ∷ word_words b Product) (OfWord (word_difference a b)) (word_chain Sum a + 1)
      (enclosed-map (is_looser Sum place) _ _
      (λ m g. sum_step m (word_words a Sum) (word_words b Product) (OfWord a) (OfWord b) (OfWord (word_difference a b)) (word_chain Sum a)
      (word_chain Product b) k.Minus Minus refl
      (word-stands a Sum m g.0) (below-map m _ _ (λ r f. word-stands b Product r f) g.1) refl g.2) l h)
  word-stands (word_product a b) place l h =
      product_stands place l (word_words a Product ++ sign k.Star ∷ word_words b Part) (OfWord (word_product a b)) (word_chain Product a + 1)
      (enclosed-map (is_looser Product place) _ _
      (λ m g. product_step m (word_words a Product) (word_words b Part) (OfWord a) (OfWord b) (OfWord (word_product a b))
      (word_chain Product a) k.Star Times refl
      (word-stands a Product m g.0) (below-map m _ _ (λ r f. word-stands b Part r f) g.1) refl g.2) l h)
  word-stands (word_choice cs a b) place l h =
      choice_stands place l (tests_words cs ++ sign Question ∷ (word_words a Choice ++ sign k.Colon ∷ word_words b Choice)) (OfWord (word_choice cs a b))
      (enclosed-map (is_looser Choice place) _ _
      (λ m g. choice-says m cs a b g.0 (below-map m _ _ (λ r f. (word-stands a Choice r f.0, word-stands b Choice r f.1)) g.1)) l h)

  pub tests-choice : (cs : List Test) (l : ℕ) → TestsFit scope cs l → Says (TheChoice l) (tests_words cs) (OfTests cs)
  tests-choice cs l h = one_choice l (tests_words cs) (OfTests cs) (tests-say cs l h)

  pub word-choice : (w : Wexp) (l : ℕ) → WordFits scope w Choice l → Says (TheChoice l) (word_words w Choice) (OfWord w)
  word-choice w l h = word-stands w Choice l h

  -- `(a0[(i0)]) * UINT64_C(2)` reads as it does without its parentheses
  parentheses-are-free : (l : ℕ) → 0 < scope.inputs → 0 < scope.loops
      → Says (TheChoice (suc (suc (suc l))))
      (enclosed true (name_token (buffer_name (Input 0)) ∷ sign k.LBracket ∷ (enclosed true (name_token (loop_name 0) ∷ []) ++ sign k.RBracket ∷ []))
      ++ sign k.Star ∷ word_words (word.Lit 2) Part)
      (OfWord (word_product (word.Load (Input 0) (Loop 0)) (word.Lit 2)))
  parentheses-are-free l h g =
      let index = enclosed true (name_token (loop_name 0) ∷ []) in
      let element = name_token (buffer_name (Input 0)) ∷ sign k.LBracket ∷ (index ++ sign k.RBracket ∷ []) in
      let load = OfWord (word.Load (Input 0) (Loop 0)) in
      let inside = part_stands (suc l) Choice index (OfIndex (Loop 0))
      (in_parens l (name_token (loop_name 0) ∷ []) (OfIndex (Loop 0))
      (part_stands l Choice (name_token (loop_name 0) ∷ []) (OfIndex (Loop 0)) (loop-says l 0 g))) in
      let place : Says (grammar.IsElement scope (IsInner scope (suc (suc l))) (suc (suc l))) element (Input 0, Loop 0) =
      says_both (name_token (buffer_name (Input 0)) ∷ []) (sign k.LBracket ∷ (index ++ sign k.RBracket ∷ [])) (Input 0) (says_token (Input 0) h)
      (says_made (λ i. (Input 0, i)) (Loop 0)
      (says_opened (omega arith) (says_around (sign k.LBracket ∷ []) index (sign k.RBracket ∷ []) (as_index inside)))) in
      let part = in_parens (suc (suc l)) element load
      (part_stands (suc (suc l)) Choice element load
      (says_form (suc (suc l)) grammar.Element element load (says_made grammar.load_value (Input 0, Loop 0) place))) in
      let product = product_step (suc (suc (suc l))) (enclosed true element) (word_words (word.Lit 2) Part) load (OfWord (word.Lit 2))
      (OfWord (word_product (word.Load (Input 0) (Loop 0)) (word.Lit 2))) 0 k.Star Times refl
      (product_first (suc (suc (suc l))) (enclosed true element) load part) (word-says (suc (suc l)) 2 (omega arith) (omega arith)) refl (omega arith) in
      product_stands Choice (suc (suc (suc l))) (enclosed true element ++ sign k.Star ∷ word_words (word.Lit 2) Part)
      (OfWord (word_product (word.Load (Input 0) (Loop 0)) (word.Lit 2))) 1 product
