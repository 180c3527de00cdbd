-- The tokens of the tree of an index stand for the form that the tree reads as.
use Rattle.std.proofs.Common.{◌≡◌, ℕ, zero, suc, ◌+◌, ◌^◌, ◌<◌, ◌≤◌, List, [], ◌∷◌, ◌++◌, Bool, true, false, ◌&&◌, ◌==◌, nat_le, nat_lt, if◌then◌else◌}
use Rattle.std.proofs.Common.{cond, Some, None, Result, Ok, Err, refl, sym, ap, ◌∙◌, subst, arith, rules}
use Rattle.std.specs.Prelude.{pos, negsuc, decimal}
use Rattle.std.proofs.lemmas.Bool.{and_parts, lt-ltb}
use Rattle.std.proofs.lemmas.Str.Parse.{IsNumeralModel, numerals_by_fold}
use Rattle.std.proofs.lemmas.Fmt.{digits_decimal, digits_value-decimal}
use Rattle.text_tokens.specs.declared.kind.Kind.{Kind}
use Rattle.text_tokens.specs.declared.kind.Kind.TheVariants as k
use Rattle.text_tokens.specs.Kinds.{Text}
use Rattle.text_tokens.specs.Numbers.{number, value_from}
use Rattle.text_tokens.specs.Words.{Word}
use Rattle.affine_index.specs.Form.{literal_form}
use Rattle.affine_index.specs.Quotient.{quotient_of, remainder_of}
use Rattle.affine_index.specs.Sum.{difference_of, sum_of}
use Rattle.affine_index.specs.declared.form.Items.{Items}
use Rattle.loop_lang.specs.declared.index.Iexp.{Iexp, Lit, Size, Loop}
use Rattle.loop_lang.specs.Syntax.{index_sum, index_difference, index_product, index_quotient, index_remainder, index_larger}
use Rattle.reader_laws.specs.declared.fault.Fault.{Fault}
use Rattle.reader_laws.specs.declared.fault.Fault.TheVariants.{BadSyntax, NumberTooLarge}
use Rattle.atl_printer.specs.ReadTree.{if_divisor, on_both, on_one, read_tree}
use Rattle.source_grammar.specs.Limits.{literal_of, multiplied, tested}
use Rattle.text_tokens.specs.Spelled.{Token, sign, number_token, name_token}
use Rattle.source_grammar.specs.Index.{Level, Sum, Product, Part, join, literal_if, literal_value, divisor_if, divisor_value, sum_operator, sums, products}
use Rattle.source_grammar.specs.Index.{max_text, IsPart, IsProduct, IsSum, IsRight, IsInner, IsIndex}
use Rattle.source_grammar.specs.declared.operator.Operator.{Operator}
use Rattle.source_grammar.specs.declared.operator.Operator.TheVariants.{Plus, Minus, Times, Over, Modulo}
use Rattle.atl_printer.specs.IndexTokens.{enclosed, index_tokens, operators}
use Rattle.text_tokens.proofs.Lexed.{AreDigits}
use Rattle.reader_laws.proofs.Says.{Says, says_both, says_word, says_then, says_nothing, says_opened, says_one, Begins, begins_first, begins_link, begins_end}

-- ---- numbers

pub own : IsNumeralModel AreDigits (value_from 0)
unfolding value_from
own = numerals_by_fold _ (search rules) value_from (search rules)

pub number_decimal : (n : ℕ) → n < 2 ^ 64 → number (decimal n) ≡ Some n
unfolding number
number_decimal n small =
    let v = digits_value-decimal own n small in
    rw v (ap (λ t. cond t (Some n) None) (lt-ltb n (2 ^ 64) small))

pub decimal_digits : (n : ℕ) → n < 2 ^ 64 → AreDigits (decimal n)
decimal_digits n small = digits_decimal own n small

pub literal-small : (n : ℕ) (x : Items) → literal_of n ≡ Ok x → n < 2 ^ 64
literal-small n x h = by (nat_le n (2 ^ 40)) refl h
  where
    by : (b : Bool) → nat_le n (2 ^ 40) ≡ b → (if b then Ok (literal_form (pos n)) else Err NumberTooLarge) ≡ Ok x → n < 2 ^ 64
    by true e h = grind arith
    by false e h = absurd (cc)

literal-says : (n : ℕ) (x : Items) → literal_of n ≡ Ok x → literal_value (decimal n) ≡ Ok x
literal-says n x h = ap literal_if (number_decimal n (literal-small n x h)) ∙ h

-- ---- what was joined

pub record Joined (f : Items → Items → Result Items Fault) (a b : Result Items Fault) (x : Items) : Type 0 where
  pub left : Items
  pub right : Items
  pub is_left : a ≡ Ok left
  pub is_right : b ≡ Ok right
  pub joins : f left right ≡ Ok x

pub joined_of : (f : Items → Items → Result Items Fault) (a b : Result Items Fault) (x : Items) → on_both f a b ≡ Ok x → Joined f a b x
joined_of f (Ok u) (Ok v) x h = record { left = u; right = v; is_left = refl; is_right = refl; joins = h }
joined_of f (Ok u) (Err e) x h = absurd (cc)
joined_of f (Err e) b x h = absurd (cc)

pub record Divided (f : Items → Result Items Fault) (a : Result Items Fault) (d : ℕ) (x : Items) : Type 0 where
  pub left : Items
  pub is_left : a ≡ Ok left
  pub some : 0 < d
  pub most : d ≤ 2147483647
  pub gives : f left ≡ Ok x

pub divided_of : (f : Items → Result Items Fault) (a : Result Items Fault) (d : ℕ) (x : Items) → on_one (λ y. if_divisor d (f y)) a ≡ Ok x → Divided f a d x
divided_of f (Err e) d x h = absurd (cc)
divided_of f (Ok u) d x h = by (nat_le 1 d && nat_le d 2147483647) refl h
  where
    low : (d : ℕ) → nat_le 1 d ≡ true → 0 < d
    low d e = grind arith

    high : (d : ℕ) → nat_le d 2147483647 ≡ true → d ≤ 2147483647
    high d e = grind arith

    by : (b : Bool) → (nat_le 1 d && nat_le d 2147483647) ≡ b → (if b then f u else Err BadSyntax) ≡ Ok x → Divided f (Ok u) d x
    by true e h = let p = and_parts (nat_le 1 d) (nat_le d 2147483647) e in record { left = u; is_left = refl; some = low d p.0; most = high d p.1; gives = h }
    by false e h = absurd (cc)

divisor-says : (d : ℕ) → 0 < d → d ≤ 2147483647 → divisor_value (decimal d) ≡ Ok (literal_form (pos d))
divisor-says d some most =
    ap divisor_if (number_decimal d (omega (arith, most)))
    ∙ (λ j. if zero_not d some j then Err BadSyntax else (if nat_lt 2147483647 d then Err NumberTooLarge else Ok (literal_form (pos d))))
    ∙ (λ j. if above_not d most j then Err NumberTooLarge else Ok (literal_form (pos d)))
  where
    zero_not : (d : ℕ) → 0 < d → (d == 0) ≡ false
    zero_not d h = grind arith

    above_not : (d : ℕ) → d ≤ 2147483647 → nat_lt 2147483647 d ≡ false
    above_not d h = grind arith

-- ---- the tokens of a tree

module _ (names : Text → Result Items Fault) (size_text loop_text : ℕ → Text) where
  abbrev reads : Iexp → Result Items Fault
  reads = read_tree (λ s. names (size_text s)) (λ d. names (loop_text d))

  abbrev tokens : Iexp → Level → List Token
  tokens = index_tokens size_text loop_text

  -- with so many levels left
  module _ (l : ℕ) where
    abbrev ThePart : List Word → Items → Type 0
    ThePart = IsPart names (IsInner names l) l

    abbrev TheProduct : List Word → Items → Type 0
    TheProduct = IsProduct names (IsInner names l) l

    abbrev TheSum : List Word → Items → Type 0
    TheSum = IsSum names (IsInner names l) l

    abbrev ProductBegins : List Token → Items → ℕ → Type 0
    ProductBegins = Begins products (λ n a o. IsRight names (IsInner names l) l o) ThePart 0

    abbrev SumBegins : List Token → Items → ℕ → Type 0
    SumBegins = Begins sums (λ n a o. TheProduct) TheProduct 0

    whole_product : (ts : List Token) (x : Items) (c : ℕ) → c ≤ 1000 → ProductBegins ts x c → Says TheProduct ts x
    unfolding max_text
    whole_product ts x c h b = begins_end products _ ThePart 0 ts x c max_text b (omega (arith, h))

    whole_sum : (ts : List Token) (x : Items) (c : ℕ) → c ≤ 1000 → SumBegins ts x c → Says TheSum ts x
    unfolding max_text
    whole_sum ts x c h b = begins_end sums _ TheProduct 0 ts x c max_text b (omega (arith, h))

    product_first : (ts : List Token) (x : Items) → Says ThePart ts x → ProductBegins ts x 0
    product_first ts x p = begins_first products _ ThePart 0 ts x p

    sum_first : (ts : List Token) (x : Items) → Says TheProduct ts x → SumBegins ts x 0
    sum_first ts x p = begins_first sums _ TheProduct 0 ts x p

  in_parens : (l : ℕ) (ts : List Token) (x : Items) → Says (TheSum l) ts x → Says (ThePart (suc l)) (enclosed true ts) x
  in_parens l ts x p =
      says_one k.LParen (says_opened (omega arith) (says_then tt refl (says_both ts (sign k.RParen ∷ []) x p (says_then tt refl says_nothing))))

  -- so many operators at most, and a beginning with as many
  record Counted (most : ℕ) (P : ℕ → Type 0) : Type 0 where
    count : ℕ
    few : count ≤ most
    begins : P count

  -- in each place the tokens stand for the form
  record Back (t : Iexp) (x : Items) : Type 0 where
    in_sum : (l : ℕ) → operators t ≤ l + 1 → Counted (operators t) (SumBegins l (tokens t Sum) x)
    in_product : (l : ℕ) → operators t ≤ l → Counted (operators t) (ProductBegins l (tokens t Product) x)
    in_part : (l : ℕ) → operators t ≤ l → Says (ThePart l) (tokens t Part) x

  -- what stands alone
  leaf : (t : Iexp) (ts : List Token) (x : Items) → tokens t Sum ≡ ts → tokens t Product ≡ ts → tokens t Part ≡ ts → ((l : ℕ) → Says (ThePart l) ts x)
      → Back t x
  leaf t ts x e f g p = record {
    in_sum = λ l h. record {
      count = 0;
      few = omega arith;
      begins = subst (λ us. SumBegins l us x 0) (sym e)
          (sum_first l ts x (whole_product l ts x 0 (omega arith) (product_first l ts x (p l))));
    };
    in_product = λ l h. record { count = 0; few = omega arith; begins = subst (λ us. ProductBegins l us x 0) (sym f) (product_first l ts x (p l)) };
    in_part = λ l h. subst (λ us. Says (ThePart l) us x) (sym g) (p l);
  }

  -- a sum, which stands in parentheses in any place but its own
  summed : (t : Iexp) (ts : List Token) (x : Items) → tokens t Sum ≡ ts → tokens t Product ≡ enclosed true ts → tokens t Part ≡ enclosed true ts
      → 0 < operators t → operators t ≤ 1000
      → ((l : ℕ) → operators t ≤ l + 1 → Counted (operators t) (SumBegins l ts x)) → Back t x
  summed t ts x e f g some most p = record {
    in_sum = λ l h. let q = p l h in record { count = q.count; few = q.few; begins = subst (λ us. SumBegins l us x q.count) (sym e) q.begins };
    in_product = λ l h. record {
      count = 0;
      few = omega arith;
      begins = subst (λ us. ProductBegins l us x 0) (sym f)
          (product_first l (enclosed true ts) x (alone l h));
    };
    in_part = λ l h. subst (λ us. Says (ThePart l) us x) (sym g) (alone l h);
  }
    where
      alone : (l : ℕ) → operators t ≤ l → Says (ThePart l) (enclosed true ts) x
      alone zero h = absurd (omega (arith, some, h))
      alone (suc l) h = let q = p l (omega (arith, h)) in in_parens l ts x (whole_sum l ts x q.count (omega (arith, q.few, most)) q.begins)

  -- a product, which stands in parentheses as a part alone
  multiplied_out : (t : Iexp) (ts : List Token) (x : Items) → tokens t Sum ≡ ts → tokens t Product ≡ ts → tokens t Part ≡ enclosed true ts → 0 < operators t
      → operators t ≤ 1000
      → ((l : ℕ) → operators t ≤ l + 1 → Counted (operators t) (ProductBegins l ts x)) → Back t x
  multiplied_out t ts x e f g some most p = record {
    in_sum = λ l h. record { count = 0; few = omega arith; begins = subst (λ us. SumBegins l us x 0) (sym e) (first l h) };
    in_product = λ l h. let q = p l (omega (arith, h)) in record
        { count = q.count; few = q.few; begins = subst (λ us. ProductBegins l us x q.count) (sym f) q.begins };
    in_part = λ l h. subst (λ us. Says (ThePart l) us x) (sym g) (alone l h);
  }
    where
      first : (l : ℕ) → operators t ≤ l + 1 → SumBegins l ts x 0
      first l h = let q = p l h in sum_first l ts x (whole_product l ts x q.count (omega (arith, q.few, most)) q.begins)

      alone : (l : ℕ) → operators t ≤ l → Says (ThePart l) (enclosed true ts) x
      alone zero h = absurd (omega (arith, some, h))
      alone (suc l) h = in_parens l ts x (whole_sum l ts x 0 (omega arith) (first l (omega (arith, h))))

  -- one operator more
  sum_step : (a b : Iexp) (sa sb x : Items) (kd : Kind) (o : Operator) → sum_operator kd ≡ Some o → Back a sa → Back b sb → operators b ≤ 1000
      → join o sa sb ≡ Ok x → (l : ℕ) → operators a + operators b + 1 ≤ l + 1
      → Counted (operators a + operators b + 1) (SumBegins l (tokens a Sum ++ sign kd ∷ tokens b Product) x)
  unfolding sums
  sum_step a b sa sb x kd o is ha hb most j l h =
      let p = ha.in_sum l (omega (arith, h)) in
      let q = hb.in_product l (omega (arith, h)) in
      record {
        count = p.count + 1;
        few = omega (arith, p.few);
        begins = begins_link sums _ (TheProduct l) 0 (tokens a Sum) sa p.count (sign kd) o (tokens b Product) sb x p.begins is (λ n r. omega arith)
            (λ n r. whole_product l (tokens b Product) sb q.count (omega (arith, q.few, most)) q.begins) j;
      }

  product_step : (a b : Iexp) (sa sb x : Items) → Back a sa → Back b sb → multiplied sa sb ≡ Ok x → (l : ℕ) → operators a + operators b + 1 ≤ l + 1
      → Counted (operators a + operators b + 1) (ProductBegins l (tokens a Product ++ sign k.Star ∷ tokens b Part) x)
  unfolding products
  product_step a b sa sb x ha hb j l h =
      let p = ha.in_product l (omega (arith, h)) in
      record {
        count = p.count + 1;
        few = omega (arith, p.few);
        begins = begins_link products _ (ThePart l) 0 (tokens a Product) sa p.count (sign k.Star) Times (tokens b Part) sb x p.begins refl (λ n r. omega arith)
            (λ n r. hb.in_part l (omega (arith, h))) j;
      }

  quotient_step : (a : Iexp) (d : ℕ) (sa x : Items) → 0 < d → d ≤ 2147483647 → Back a sa → tested (quotient_of sa d) ≡ Ok x → (l : ℕ) → operators a + 1 ≤ l + 1
      → Counted (operators a + 1) (ProductBegins l (tokens a Product ++ sign k.Slash ∷ number_token d ∷ []) x)
  unfolding products
  quotient_step a d sa x some most ha j l h =
      let p = ha.in_product l (omega (arith, h)) in
      record {
        count = p.count + 1;
        few = omega (arith, p.few);
        begins = begins_link products _ (ThePart l) 0 (tokens a Product) sa p.count (sign k.Slash) Over (number_token d ∷ [])
            (literal_form (pos d)) x p.begins refl (λ n r. omega arith) (λ n r. says_word (divisor-says d some most)) j;
      }

  remainder_step : (a : Iexp) (d : ℕ) (sa x : Items) → 0 < d → d ≤ 2147483647 → Back a sa → tested (remainder_of sa d) ≡ Ok x → (l : ℕ)
      → operators a + 1 ≤ l + 1
      → Counted (operators a + 1) (ProductBegins l (tokens a Product ++ sign k.Percent ∷ number_token d ∷ []) x)
  unfolding products
  remainder_step a d sa x some most ha j l h =
      let p = ha.in_product l (omega (arith, h)) in
      record {
        count = p.count + 1;
        few = omega (arith, p.few);
        begins = begins_link products _ (ThePart l) 0 (tokens a Product) sa p.count (sign k.Percent) Modulo (number_token d ∷ [])
            (literal_form (pos d)) x p.begins refl (λ n r. omega arith) (λ n r. says_word (divisor-says d some most)) j;
      }

  back : (t : Iexp) (x : Items) → reads t ≡ Ok x → operators t ≤ 1000 → Back t x
  back (Lit (pos n)) x e h = leaf (Lit (pos n)) (number_token n ∷ []) x refl refl refl (λ l. says_one k.Number (says_word (literal-says n x e)))
  back (Lit (negsuc n)) x e h = absurd (cc)
  back (Size s) x e h = leaf (Size s) (name_token (size_text s) ∷ []) x refl refl refl (λ l. says_one k.Name (says_word e))
  back (Loop d) x e h = leaf (Loop d) (name_token (loop_text d) ∷ []) x refl refl refl (λ l. says_one k.Name (says_word e))
  back (index_sum a b) x e h =
      let j = joined_of (λ x y. tested (sum_of x y)) (reads a) (reads b) x e in
      let ha = back a j.left j.is_left (omega (arith, h)) in
      let hb = back b j.right j.is_right (omega (arith, h)) in
      summed (index_sum a b) (tokens a Sum ++ sign k.Plus ∷ tokens b Product) x refl refl refl (omega arith) h
      (sum_step a b j.left j.right x k.Plus Plus refl ha hb (omega (arith, h)) j.joins)
  back (index_difference a b) x e h =
      let j = joined_of (λ x y. tested (difference_of x y)) (reads a) (reads b) x e in
      let ha = back a j.left j.is_left (omega (arith, h)) in
      let hb = back b j.right j.is_right (omega (arith, h)) in
      summed (index_difference a b) (tokens a Sum ++ sign k.Minus ∷ tokens b Product) x refl refl refl (omega arith) h
      (sum_step a b j.left j.right x k.Minus Minus refl ha hb (omega (arith, h)) j.joins)
  back (index_product a b) x e h =
      let j = joined_of multiplied (reads a) (reads b) x e in
      let ha = back a j.left j.is_left (omega (arith, h)) in
      let hb = back b j.right j.is_right (omega (arith, h)) in
      multiplied_out (index_product a b) (tokens a Product ++ sign k.Star ∷ tokens b Part) x refl refl refl (omega arith) h
      (product_step a b j.left j.right x ha hb j.joins)
  back (index_quotient a d) x e h =
      let j = divided_of (λ x. tested (quotient_of x d)) (reads a) d x e in
      let ha = back a j.left j.is_left (omega (arith, h)) in
      multiplied_out (index_quotient a d) (tokens a Product ++ sign k.Slash ∷ number_token d ∷ []) x refl refl refl (omega arith) h
      (quotient_step a d j.left x j.some j.most ha j.gives)
  back (index_remainder a d) x e h =
      let j = divided_of (λ x. tested (remainder_of x d)) (reads a) d x e in
      let ha = back a j.left j.is_left (omega (arith, h)) in
      multiplied_out (index_remainder a d) (tokens a Product ++ sign k.Percent ∷ number_token d ∷ []) x refl refl refl (omega arith) h
      (remainder_step a d j.left x j.some j.most ha j.gives)
  back (index_larger a b) x e h = absurd (cc)

  -- the tokens of a tree stand for the form that the tree reads as
  pub tree-says : (t : Iexp) (x : Items) (levels : ℕ) → reads t ≡ Ok x → operators t ≤ levels → operators t ≤ 1000
      → Says (IsIndex names levels Sum) (tokens t Sum) x
  tree-says t x levels e h g = let p = (back t x e g).in_sum levels (omega (arith, h)) in whole_sum levels (tokens t Sum) x p.count
      (omega (arith, p.few, g)) p.begins
