-- The tokens of an index, and that they stand for it.
use Rattle.std.proofs.Common.{◌≡◌, ℕ, zero, suc, ◌+◌, ◌^◌, ◌<◌, ◌≤◌, List, [], ◌∷◌, ◌++◌, Bool, true, false, ◌||◌, nat_lt, if◌then◌else◌}
use Rattle.std.proofs.Common.{Some, Ok, Err, refl, sym, ap, ◌∙◌, subst, arith}
use Rattle.std.specs.Prelude.{decimal, max}
use Rattle.text_tokens.specs.declared.kind.Kind.{Kind}
use Rattle.text_tokens.specs.declared.kind.Kind.TheVariants as k
use Rattle.text_tokens.specs.Words.{Word}
use Rattle.text_tokens.specs.Spelled.{Token, name_token, number_token, sign}
use Rattle.text_tokens.proofs.Decimals.{number_decimal}
use Rattle.reader_laws.specs.declared.fault.Fault.TheVariants.{IndexTooLong, NumberTooLarge}
use Rattle.reader_laws.proofs.Says.{Says, Begins, begins_end, begins_first, begins_link, says_both, says_end, says_nothing, says_one, says_opened}
use Rattle.reader_laws.proofs.Says.{says_then}
use Rattle.schedule_script.specs.declared.tree.IxTree.{IxTree, Num, Name}
use Rattle.schedule_script.specs.Syntax.{negation, sum, difference, product, quotient, remainder}
use Rattle.schedule_script.specs.Depth.{tree_depth, limited}
use Rattle.schedule_script.specs.Index.{sums, products, IsPart, IsProduct, IsSum, IsInner, IsIndex, IsFactorAfter, IsSummandAfter, sum_sign, product_sign}
use Rattle.schedule_script.specs.Words.{number_in, within, most_items}
use Rattle.script_printer.specs.declared.level.Level.{Level}
use Rattle.script_printer.specs.declared.level.Level.TheVariants.{Sum, Product, Part}
use Rattle.script_printer.specs.Index.{is_looser}
use Rattle.script_printer.specs.Printable.{levels, IsGoodTree}

-- ---- tokens

-- in parentheses where a test says so
abbrev pub enclosed : Bool → List Token → List Token
enclosed true ts = sign k.LParen ∷ ts ++ sign k.RParen ∷ []
enclosed false ts = ts

-- the tokens of an index, where the level is the loosest that may stand
abbrev pub index_tokens : IxTree → Level → List Token
index_tokens (Num n) place = number_token n ∷ []
index_tokens (Name t) place = name_token t ∷ []
index_tokens (negation a) place = sign k.Minus ∷ index_tokens a Part
index_tokens (sum a b) place = enclosed (is_looser Sum place) (index_tokens a Sum ++ sign k.Plus ∷ index_tokens b Product)
index_tokens (difference a b) place = enclosed (is_looser Sum place) (index_tokens a Sum ++ sign k.Minus ∷ index_tokens b Product)
index_tokens (product a b) place = enclosed (is_looser Product place) (index_tokens a Product ++ sign k.Star ∷ index_tokens b Part)
index_tokens (quotient a n) place = enclosed (is_looser Product place) (index_tokens a Product ++ sign k.Slash ∷ number_token n ∷ [])
index_tokens (remainder a n) place = enclosed (is_looser Product place) (index_tokens a Product ++ sign k.Percent ∷ number_token n ∷ [])

-- ---- numbers

pub number-says : (low high n : ℕ) → low ≤ n → n ≤ high → n < 2 ^ 64 → number_in low high (decimal n) ≡ Ok n
number-says low high n l h small =
    ap (within low high) (number_decimal n small) ∙ (λ j. if not_below low n l j || not_below n high h j then Err NumberTooLarge else Ok n)
  where
    not_below : (a b : ℕ) → a ≤ b → nat_lt b a ≡ false
    not_below a b h = grind arith

limited-says : (x : IxTree) → tree_depth x ≤ 1000 → limited x ≡ Ok x
limited-says x h = λ j. if not_above (tree_depth x) h j then Err IndexTooLong else Ok x
  where
    not_above : (a : ℕ) → a ≤ 1000 → nat_lt 1000 a ≡ false
    not_above a h = grind arith

-- ---- what the tokens stand for; so many levels are left

module _ (l : ℕ) where
  abbrev ThePart : List Word → IxTree → Type 0
  ThePart = IsPart (IsInner l) l

  abbrev TheProduct : List Word → IxTree → Type 0
  TheProduct = IsProduct (IsInner l) l

  abbrev TheSum : List Word → IxTree → Type 0
  TheSum = IsSum (IsInner l) l

  abbrev ProductBegins : List Token → IxTree → ℕ → Type 0
  ProductBegins = Begins products (λ n a o. IsFactorAfter (IsInner l) l o a) ThePart 0

  abbrev SumBegins : List Token → IxTree → ℕ → Type 0
  SumBegins = Begins sums (λ n a o. IsSummandAfter (IsInner l) l o a) TheProduct 0

  whole_product : (ts : List Token) (x : IxTree) (c : ℕ) → c ≤ 1000 → ProductBegins ts x c → Says TheProduct ts x
  unfolding most_items
  whole_product ts x c h b = begins_end products _ ThePart 0 ts x c most_items b (omega (arith, h))

  whole_sum : (ts : List Token) (x : IxTree) (c : ℕ) → c ≤ 1000 → SumBegins ts x c → Says TheSum ts x
  unfolding most_items
  whole_sum ts x c h b = begins_end sums _ TheProduct 0 ts x c most_items b (omega (arith, h))

  product_first : (ts : List Token) (x : IxTree) → Says ThePart ts x → ProductBegins ts x 0
  product_first ts x p = begins_first products _ ThePart 0 ts x p

  sum_first : (ts : List Token) (x : IxTree) → Says TheProduct ts x → SumBegins ts x 0
  sum_first ts x p = begins_first sums _ TheProduct 0 ts x p

in_parens : (l : ℕ) (ts : List Token) (x : IxTree) → Says (TheSum l) ts x → Says (ThePart (suc l)) (enclosed true ts) x
in_parens l ts x p = says_one k.LParen (says_opened (omega arith) (says_then tt refl (says_both ts (sign k.RParen ∷ []) x p (says_then tt refl says_nothing))))

-- operators at most as many as the tree is deep, and a beginning with as many
record Counted (t : IxTree) (P : ℕ → Type 0) : Type 0 where
  count : ℕ
  few : count ≤ tree_depth t
  small : count ≤ 1000
  begins : P count

-- in each place the tokens stand for the index
record Back (t : IxTree) : Type 0 where
  in_sum : (l : ℕ) → levels t Sum ≤ l → Counted t (SumBegins l (index_tokens t Sum) t)
  in_product : (l : ℕ) → levels t Product ≤ l → Counted t (ProductBegins l (index_tokens t Product) t)
  in_part : (l : ℕ) → levels t Part ≤ l → Says (ThePart l) (index_tokens t Part) t

-- what stands in no parentheses anywhere
alone : (t : IxTree) (ts : List Token) (n : ℕ) → index_tokens t Sum ≡ ts → index_tokens t Product ≡ ts → index_tokens t Part ≡ ts → levels t Sum ≡ n
    → levels t Product ≡ n → levels t Part ≡ n → ((l : ℕ) → n ≤ l → Says (ThePart l) ts t) → Back t
alone t ts n e f g i j m p = record {
  in_sum = λ l h. record {
    count = 0;
    few = omega arith;
    small = omega arith;
    begins = subst (λ us. SumBegins l us t 0) (sym e)
        (sum_first l ts t (whole_product l ts t 0 (omega arith) (product_first l ts t (p l (omega (arith, h, i))))));
  };
  in_product = λ l h. record {
    count = 0;
    few = omega arith;
    small = omega arith;
    begins = subst (λ us. ProductBegins l us t 0) (sym f) (product_first l ts t (p l (omega (arith, h, j))));
  };
  in_part = λ l h. subst (λ us. Says (ThePart l) us t) (sym g) (p l (omega (arith, h, m)));
}

-- a sum, which stands in parentheses in any place but its own
summed : (t : IxTree) (ts : List Token) (n : ℕ) → index_tokens t Sum ≡ ts → index_tokens t Product ≡ enclosed true ts → index_tokens t Part ≡ enclosed true ts
    → levels t Sum ≡ n → levels t Product ≡ n + 1 → levels t Part ≡ n + 1 → ((l : ℕ) → n ≤ l → Counted t (SumBegins l ts t)) → Back t
summed t ts n e f g i j m p = record {
  in_sum = λ l h. let q = p l (omega (arith, h, i)) in record
      { count = q.count; few = q.few; small = q.small; begins = subst (λ us. SumBegins l us t q.count) (sym e) q.begins };
  in_product = λ l h. record {
    count = 0;
    few = omega arith;
    small = omega arith;
    begins = subst (λ us. ProductBegins l us t 0) (sym f) (product_first l (enclosed true ts) t (closed l (omega (arith, h, j))));
  };
  in_part = λ l h. subst (λ us. Says (ThePart l) us t) (sym g) (closed l (omega (arith, h, m)));
}
  where
    closed : (l : ℕ) → n + 1 ≤ l → Says (ThePart l) (enclosed true ts) t
    closed zero h = absurd (omega (arith, h))
    closed (suc l) h = let q = p l (omega (arith, h)) in in_parens l ts t (whole_sum l ts t q.count q.small q.begins)

-- a product, which stands in parentheses as a part alone
multiplied : (t : IxTree) (ts : List Token) (n : ℕ) → index_tokens t Sum ≡ ts → index_tokens t Product ≡ ts → index_tokens t Part ≡ enclosed true ts
    → levels t Sum ≡ n → levels t Product ≡ n → levels t Part ≡ n + 1 → ((l : ℕ) → n ≤ l → Counted t (ProductBegins l ts t)) → Back t
multiplied t ts n e f g i j m p = record {
  in_sum = λ l h. record {
    count = 0;
    few = omega arith;
    small = omega arith;
    begins = subst (λ us. SumBegins l us t 0) (sym e) (first l (omega (arith, h, i)));
  };
  in_product = λ l h. let q = p l (omega (arith, h, j)) in record
      { count = q.count; few = q.few; small = q.small; begins = subst (λ us. ProductBegins l us t q.count) (sym f) q.begins };
  in_part = λ l h. subst (λ us. Says (ThePart l) us t) (sym g) (closed l (omega (arith, h, m)));
}
  where
    first : (l : ℕ) → n ≤ l → SumBegins l ts t 0
    first l h = let q = p l h in sum_first l ts t (whole_product l ts t q.count q.small q.begins)

    closed : (l : ℕ) → n + 1 ≤ l → Says (ThePart l) (enclosed true ts) t
    closed zero h = absurd (omega (arith, h))
    closed (suc l) h = in_parens l ts t (whole_sum l ts t 0 (omega arith) (first l (omega (arith, h))))

-- ---- one operator more

sum_step : (a b t : IxTree) (kd : Kind) → sum_sign kd ≡ Some kd → Back a → Back b → tree_depth a + 1 ≤ tree_depth t → tree_depth t ≤ 1000
    → ((l : ℕ) → Says (TheProduct l) (index_tokens b Product) b → Says (IsSummandAfter (IsInner l) l kd a) (index_tokens b Product) t)
    → (l : ℕ) → max (levels a Sum) (levels b Product) ≤ l → Counted t (SumBegins l (index_tokens a Sum ++ sign kd ∷ index_tokens b Product) t)
unfolding sums
sum_step a b t kd is ha hb deep most right l h =
    let p = ha.in_sum l (omega (arith, h)) in
    let q = hb.in_product l (omega (arith, h)) in
    record {
      count = p.count + 1;
      few = omega (arith, p.few, deep);
      small = omega (arith, p.few, deep, most);
      begins = begins_link sums _ (TheProduct l) 0 (index_tokens a Sum) a p.count (sign kd) kd (index_tokens b Product) t t p.begins is (λ n r. omega arith)
          (λ n r. right l (whole_product l (index_tokens b Product) b q.count q.small q.begins)) (limited-says t most);
    }

product_step : (a t : IxTree) (kd : Kind) (us : List Token) (n : ℕ) → product_sign kd ≡ Some kd → Back a → tree_depth a + 1 ≤ tree_depth t
    → tree_depth t ≤ 1000 → levels a Product ≤ n → ((l : ℕ) → n ≤ l → Says (IsFactorAfter (IsInner l) l kd a) us t) → (l : ℕ) → n ≤ l
    → Counted t (ProductBegins l (index_tokens a Product ++ sign kd ∷ us) t)
unfolding products
product_step a t kd us n is ha deep most low right l h =
    let p = ha.in_product l (omega (arith, h, low)) in
    record {
      count = p.count + 1;
      few = omega (arith, p.few, deep);
      small = omega (arith, p.few, deep, most);
      begins = begins_link products _ (ThePart l) 0 (index_tokens a Product) a p.count (sign kd) kd us t t p.begins is (λ n r. omega arith)
          (λ n r. right l h) (limited-says t most);
    }

divisor-says : (n : ℕ) → 0 < n → n ≤ 2147483647 → number_in 1 2147483647 (decimal n) ≡ Ok n
divisor-says n l h = number-says 1 2147483647 n (omega (arith, l)) h (omega (arith, h))

back : (t : IxTree) → IsGoodTree t → Back t
back (Num n) g = alone (Num n) (number_token n ∷ []) 0 refl refl refl refl refl refl
    (λ l h. says_one k.Number (says_then n (number-says 0 18446744073709551615 n (omega arith) (omega (arith, g)) g) says_nothing))
back (Name t) g = alone (Name t) (name_token t ∷ []) 0 refl refl refl refl refl refl (λ l h. says_one k.Name (says_then t refl says_nothing))
back (negation a) g =
    let ha = back a g in
    alone (negation a) (sign k.Minus ∷ index_tokens a Part) (levels a Part + 1) refl refl refl refl refl refl (behind ha)
  where
    behind : Back a → (l : ℕ) → levels a Part + 1 ≤ l → Says (ThePart l) (sign k.Minus ∷ index_tokens a Part) (negation a)
    behind ha zero h = absurd (omega (arith, h))
    behind ha (suc l) h = says_one k.Minus
        (says_opened (omega arith) (says_then tt refl (says_end (index_tokens a Part) a (ha.in_part l (omega (arith, h))) says_nothing)))
back (sum a b) g =
    summed (sum a b) (index_tokens a Sum ++ sign k.Plus ∷ index_tokens b Product) (max (levels a Sum) (levels b Product)) refl refl refl (omega arith) refl refl
    (sum_step a b (sum a b) k.Plus refl (back a g.1) (back b g.2) (omega arith) g.0 (λ l p. says_end (index_tokens b Product) b p says_nothing))
back (difference a b) g =
    summed (difference a b) (index_tokens a Sum ++ sign k.Minus ∷ index_tokens b Product) (max (levels a Sum) (levels b Product)) refl refl refl (omega arith)
    refl refl
    (sum_step a b (difference a b) k.Minus refl (back a g.1) (back b g.2) (omega arith) g.0 (λ l p. says_end (index_tokens b Product) b p says_nothing))
back (product a b) g =
    let hb = back b g.2 in
    multiplied (product a b) (index_tokens a Product ++ sign k.Star ∷ index_tokens b Part) (max (levels a Product) (levels b Part)) refl refl refl (omega arith)
    (omega arith) refl
    (product_step a (product a b) k.Star (index_tokens b Part) (max (levels a Product) (levels b Part)) refl (back a g.1) (omega arith) g.0 (omega arith)
    (λ l h. says_end (index_tokens b Part) b (hb.in_part l (omega (arith, h))) says_nothing))
back (quotient a n) g =
    multiplied (quotient a n) (index_tokens a Product ++ sign k.Slash ∷ number_token n ∷ []) (levels a Product) refl refl refl (omega arith) (omega arith) refl
    (product_step a (quotient a n) k.Slash (number_token n ∷ []) (levels a Product) refl (back a g.1) (omega arith) g.0 (omega arith)
    (λ l h. says_then n (divisor-says n g.2 g.3) says_nothing))
back (remainder a n) g =
    multiplied (remainder a n) (index_tokens a Product ++ sign k.Percent ∷ number_token n ∷ []) (levels a Product) refl refl refl (omega arith) (omega arith)
    refl
    (product_step a (remainder a n) k.Percent (number_token n ∷ []) (levels a Product) refl (back a g.1) (omega arith) g.0 (omega arith)
    (λ l h. says_then n (divisor-says n g.2 g.3) says_nothing))

-- the tokens of an index stand for it
pub index-says : (t : IxTree) (l : ℕ) → IsGoodTree t → levels t Sum ≤ l → Says (IsIndex l) (index_tokens t Sum) t
index-says t l g h = let p = (back t g).in_sum l h in whole_sum l (index_tokens t Sum) t p.count p.small p.begins
