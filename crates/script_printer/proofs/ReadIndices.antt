-- What is read as an index is a good one: its own text opens no more levels than were left.
use Rattle.std.proofs.Common.{◌≡◌, inl, inr, ℕ, zero, suc, ◌+◌, ◌≤◌, List, [], ◌∷◌, ◌++◌, Bool, true, false, ◌||◌, nat_lt, if◌then◌else◌}
use Rattle.std.proofs.Common.{Option, Some, None, Result, Ok, Err, refl, sym, ◌∙◌, subst, arith}
use Rattle.text_tokens.specs.declared.kind.Kind.{Kind}
use Rattle.text_tokens.specs.declared.kind.Kind.TheVariants as k
use Rattle.text_tokens.specs.declared.kind.Language.TheVariants as language
use Rattle.text_tokens.specs.Kinds.{Text}
use Rattle.text_tokens.specs.Names.{IsName}
use Rattle.text_tokens.specs.Numbers.{number}
use Rattle.text_tokens.specs.Words.{Word}
use Rattle.reader_laws.specs.declared.fault.Fault.{Fault}
use Rattle.reader_laws.specs.declared.fault.Fault.TheVariants.{IndexTooLong, NumberTooLarge}
use Rattle.reader_laws.specs.Grammar.{IsWordOf}
use Rattle.schedule_script.specs.declared.tree.IxTree.{IxTree, Num, Name}
use Rattle.schedule_script.specs.Syntax.{negation, sum, difference, product, quotient, remainder}
use Rattle.schedule_script.specs.Depth.{tree_depth, limited}
use Rattle.schedule_script.specs.Index.{sums, products, IsPart, IsProduct, IsSum, IsInner, IsIndex, IsFactorAfter, IsSummandAfter, AreFactors, AreSummands}
use Rattle.schedule_script.specs.Words.{number_in, within, most_items}
use Rattle.script_printer.specs.declared.level.Level.{Level}
use Rattle.script_printer.specs.declared.level.Level.TheVariants.{Sum, Product, Part}
use Rattle.script_printer.specs.Printable.{levels, IsGoodTree}

-- ---- words

-- words that are names have the spelling of names
abbrev pub AreNamed : List Word → Type 0
AreNamed [] = Unit {0}
AreNamed (w ∷ ws) = (w.kind ≡ k.Name → IsName language.Script w.text) × AreNamed ws

pub named_parts : (us vs : List Word) → AreNamed (us ++ vs) → AreNamed us × AreNamed vs
named_parts [] vs h = (tt, h)
named_parts (w ∷ us) vs h = let r = named_parts us vs h.1 in ((h.0, r.0), r.1)

pub named_cut : (ws us vs : List Word) → ws ≡ us ++ vs → AreNamed ws → AreNamed us × AreNamed vs
named_cut ws us vs e h = named_parts us vs (subst AreNamed e h)

pub name_of : (ws : List Word) (reads : Text → Result Text Fault) (t : Text) → (p : IsWordOf k.Name reads ws t) → p.word.text ≡ t → AreNamed ws
    → IsName language.Script t
name_of ws reads t p e h = subst (IsName language.Script) e ((subst AreNamed p.words h).0 p.is)

-- ---- numbers

in_limits : (low high : ℕ) (o : Option ℕ) (n : ℕ) → within low high o ≡ Ok n → (low ≤ n) × (n ≤ high)
in_limits low high None n h = absurd (cc)
in_limits low high (Some m) n h = by (nat_lt m low) (nat_lt high m) refl refl h
  where
    at_least : (a b : ℕ) → nat_lt a b ≡ false → b ≤ a
    at_least a b e = grind arith

    same : (x : Result ℕ Fault) → x ≡ Ok m → x ≡ Ok n → m ≡ n
    same x e f = cc

    by : (a b : Bool) → nat_lt m low ≡ a → nat_lt high m ≡ b → (if a || b then Err NumberTooLarge else Ok m) ≡ Ok n → (low ≤ n) × (n ≤ high)
    by true b e f g = absurd (cc)
    by false true e f g = absurd (cc)
    by false false e f g = subst (λ (v : ℕ). (low ≤ v) × (v ≤ high)) (same (Ok m) refl g) (at_least m low e, at_least high m f)

pub number-within : (low high : ℕ) (t : Text) (n : ℕ) → number_in low high t ≡ Ok n → (low ≤ n) × (n ≤ high)
number-within low high t n h = in_limits low high (number t) n h

-- ---- what an operator makes

pub record Kept (x y : IxTree) : Type 0 where
  pub same : x ≡ y
  pub most : tree_depth x ≤ 1000

kept : (x y : IxTree) → limited x ≡ Ok y → Kept x y
kept x y h = by (nat_lt 1000 (tree_depth x)) refl h
  where
    at_most : (a : ℕ) → nat_lt 1000 a ≡ false → a ≤ 1000
    at_most a e = grind arith

    the_same : (r : Result IxTree Fault) → r ≡ Ok x → r ≡ Ok y → x ≡ y
    the_same r e f = cc

    by : (b : Bool) → nat_lt 1000 (tree_depth x) ≡ b → (if b then Err IndexTooLong else Ok x) ≡ Ok y → Kept x y
    by true e g = absurd (cc)
    by false e g = record { same = the_same (Ok x) refl g; most = at_most (tree_depth x) e }

-- ---- levels

part_of_sum : (x : IxTree) → levels x Part ≤ levels x Sum + 1
part_of_sum (Num n) = omega arith
part_of_sum (Name t) = omega arith
part_of_sum (negation a) = omega arith
part_of_sum (sum a b) = omega arith
part_of_sum (difference a b) = omega arith
part_of_sum (product a b) = omega arith
part_of_sum (quotient a n) = omega arith
part_of_sum (remainder a n) = omega arith

product_of_part : (x : IxTree) → levels x Product ≤ levels x Part
product_of_part (Num n) = omega arith
product_of_part (Name t) = omega arith
product_of_part (negation a) = omega arith
product_of_part (sum a b) = omega arith
product_of_part (difference a b) = omega arith
product_of_part (product a b) = omega arith
product_of_part (quotient a n) = omega arith
product_of_part (remainder a n) = omega arith

sum_of_product : (x : IxTree) → levels x Sum ≤ levels x Product
sum_of_product (Num n) = omega arith
sum_of_product (Name t) = omega arith
sum_of_product (negation a) = omega arith
sum_of_product (sum a b) = omega arith
sum_of_product (difference a b) = omega arith
sum_of_product (product a b) = omega arith
sum_of_product (quotient a n) = omega arith
sum_of_product (remainder a n) = omega arith

-- a good tree that opens at most so many levels in a place
abbrev pub Good : Level → ℕ → IxTree → Type 0
Good place l x = IsGoodTree x × (levels x place ≤ l)

-- what a rule of the grammar reads is good
abbrev Reads : Level → ℕ → (List Word → IxTree → Type 0) → Type 0
Reads place l rule = (ws : List Word) (x : IxTree) → AreNamed ws → rule ws x → Good place l x

module _ (l : ℕ) (parts : Reads Part l (IsPart (IsInner l) l)) where
  factor : (kd : Kind) (a x y : IxTree) (ws : List Word) → AreNamed ws → Good Product l a → IsFactorAfter (IsInner l) l kd a ws x → Kept x y → Good Product l y
  factor k.Star a x y ws h g p e =
      let w = named_cut ws p.front p.rest p.words h in
      let b = parts p.front p.value w.0 p.is_first in
      let same : product a p.value ≡ x = sym p.is_then.1 in
      let deep : tree_depth (product a p.value) ≤ 1000 = subst (λ (z : IxTree). tree_depth z ≤ 1000) (sym same) e.most in
      subst (Good Product l) (same ∙ e.same) ((deep, g.0, b.0), omega (arith, g.1, b.1))
  factor k.Slash a x y ws h g p e =
      let n = number-within 1 2147483647 p.is_first.word.text p.value p.is_first.reads_as in
      let same : quotient a p.value ≡ x = sym p.is_then.1 in
      let deep : tree_depth (quotient a p.value) ≤ 1000 = subst (λ (z : IxTree). tree_depth z ≤ 1000) (sym same) e.most in
      subst (Good Product l) (same ∙ e.same) ((deep, g.0, omega (arith, n.0), n.1), omega (arith, g.1))
  factor k.Percent a x y ws h g p e =
      let n = number-within 1 2147483647 p.is_first.word.text p.value p.is_first.reads_as in
      let same : remainder a p.value ≡ x = sym p.is_then.1 in
      let deep : tree_depth (remainder a p.value) ≤ 1000 = subst (λ (z : IxTree). tree_depth z ≤ 1000) (sym same) e.most in
      subst (Good Product l) (same ∙ e.same) ((deep, g.0, omega (arith, n.0), n.1), omega (arith, g.1))
  factor kd a x y ws h g p e = absurd (p)

  factors : (n : ℕ) (a x : IxTree) (ws : List Word) → AreNamed ws → Good Product l a → AreFactors (IsInner l) l n a ws x → Good Product l x
  unfolding products
  factors zero a x ws h g p = subst (Good Product l) (sym p.1) g
  factors (suc n) a x ws h g (inl p) = subst (Good Product l) (sym p.1) g
  factors (suc n) a x ws h g (inr p) =
      let w = named_cut ws (p.word ∷ p.front) p.rest p.words h in
      factors n p.value x p.rest w.1 (factor p.sign a p.right p.value p.front w.0.1 g p.is_operand (kept p.right p.value p.joins)) p.is_rest

  products_good : Reads Product l (IsProduct (IsInner l) l)
  products_good ws x h p =
      let w = named_cut ws p.front p.rest p.words h in
      let a = parts p.front p.value w.0 p.is_first in
      let low = product_of_part p.value in
      factors most_items p.value x p.rest w.1 (a.0, omega (arith, low, a.1)) p.is_then

  summand : (kd : Kind) (a x y : IxTree) (ws : List Word) → AreNamed ws → Good Sum l a → IsSummandAfter (IsInner l) l kd a ws x → Kept x y → Good Sum l y
  summand k.Plus a x y ws h g p e =
      let w = named_cut ws p.front p.rest p.words h in
      let b = products_good p.front p.value w.0 p.is_first in
      let same : sum a p.value ≡ x = sym p.is_then.1 in
      let deep : tree_depth (sum a p.value) ≤ 1000 = subst (λ (z : IxTree). tree_depth z ≤ 1000) (sym same) e.most in
      subst (Good Sum l) (same ∙ e.same) ((deep, g.0, b.0), omega (arith, g.1, b.1))
  summand k.Minus a x y ws h g p e =
      let w = named_cut ws p.front p.rest p.words h in
      let b = products_good p.front p.value w.0 p.is_first in
      let same : difference a p.value ≡ x = sym p.is_then.1 in
      let deep : tree_depth (difference a p.value) ≤ 1000 = subst (λ (z : IxTree). tree_depth z ≤ 1000) (sym same) e.most in
      subst (Good Sum l) (same ∙ e.same) ((deep, g.0, b.0), omega (arith, g.1, b.1))
  summand kd a x y ws h g p e = absurd (p)

  summands : (n : ℕ) (a x : IxTree) (ws : List Word) → AreNamed ws → Good Sum l a → AreSummands (IsInner l) l n a ws x → Good Sum l x
  unfolding sums
  summands zero a x ws h g p = subst (Good Sum l) (sym p.1) g
  summands (suc n) a x ws h g (inl p) = subst (Good Sum l) (sym p.1) g
  summands (suc n) a x ws h g (inr p) =
      let w = named_cut ws (p.word ∷ p.front) p.rest p.words h in
      summands n p.value x p.rest w.1 (summand p.sign a p.right p.value p.front w.0.1 g p.is_operand (kept p.right p.value p.joins)) p.is_rest

  sums_good : Reads Sum l (IsSum (IsInner l) l)
  sums_good ws x h p =
      let w = named_cut ws p.front p.rest p.words h in
      let a = products_good p.front p.value w.0 p.is_first in
      let low = sum_of_product p.value in
      summands most_items p.value x p.rest w.1 (a.0, omega (arith, low, a.1)) p.is_then

own_text : (s t : Text) (x : Result Text Fault) → x ≡ Ok s → x ≡ Ok t → s ≡ t
own_text s t x e f = cc

parts_good : (l : ℕ) → Reads Part l (IsPart (IsInner l) l)
parts_good l ws x h (k.Number, p) =
    let n = number-within 0 18446744073709551615 p.is_first.word.text p.value p.is_first.reads_as in
    subst (Good Part l) (sym p.is_then.1) (omega (arith, n.1), omega arith)
parts_good l ws x h (k.Name, p) =
    let w = named_cut ws p.front p.rest p.words h in
    subst (Good Part l) (sym p.is_then.1)
    (name_of p.front (λ t. Ok t) p.value p.is_first (own_text p.is_first.word.text p.value (Ok p.is_first.word.text) refl p.is_first.reads_as) w.0, omega arith)
parts_good zero ws x h (k.LParen, p) = absurd (omega (arith, p.0))
parts_good (suc l) ws x h (k.LParen, p) =
    let w = named_cut ws p.1.front p.1.rest p.1.words h in
    let v = named_cut p.1.rest p.1.is_then.front p.1.is_then.rest p.1.is_then.words w.1 in
    let a = sums_good l (parts_good l) p.1.is_then.front p.1.is_then.value v.0 p.1.is_then.is_first in
    let low = part_of_sum p.1.is_then.value in
    subst (Good Part (suc l)) (sym p.1.is_then.is_then.is_then.1) (a.0, omega (arith, low, a.1))
parts_good zero ws x h (k.Minus, p) = absurd (omega (arith, p.0))
parts_good (suc l) ws x h (k.Minus, p) =
    let w = named_cut ws p.1.front p.1.rest p.1.words h in
    let v = named_cut p.1.rest p.1.is_then.front p.1.is_then.rest p.1.is_then.words w.1 in
    let a = parts_good l p.1.is_then.front p.1.is_then.value v.0 p.1.is_then.is_first in
    subst (Good Part (suc l)) (sym p.1.is_then.is_then.1) (a.0, omega (arith, a.1))
parts_good l ws x h (kd, p) = absurd (p)

-- what is read as an index is good
pub index-good : (l : ℕ) → Reads Sum l (IsIndex l)
index-good l = sums_good l (parts_good l)
