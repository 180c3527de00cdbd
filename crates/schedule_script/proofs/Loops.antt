-- Chains of an index, beside the loops that read them.
use Rattle.std.proofs.Common.{◌≡◌, ℕ, zero, suc, ◌+◌, ◌-◌, ◌<◌, ◌≤◌, Bool, true, false, cond, Option, Some, None, Ok, Err, refl, ap, ◌∙◌, arith}
use Rattle.text_tokens.specs.declared.kind.Kind.{Kind}
use Rattle.text_tokens.specs.Words.{Input, peek, next}
use Rattle.reader_laws.specs.declared.fault.Fault.TheVariants.{TooDeep}
use Rattle.reader_laws.specs.declared.fault.Fault.{Fault}
use Rattle.reader_laws.specs.declared.fault.ReadError.{ReadError}
use Rattle.reader_laws.specs.declared.fault.ReadError.TheVariants.{Refused}
use Rattle.reader_laws.specs.Steps.{Parser, refusal, kind}
use Rattle.reader_laws.proofs.Loops.{chain_stop, chain_went, chain_fell, chain_clashed, chain_full}
use Rattle.schedule_script.specs.declared.tree.IxTree.{IxTree}
use Rattle.schedule_script.specs.Depth.{limited}
use Rattle.schedule_script.specs.Words.{most_items, most_steps}
use Rattle.schedule_script.specs.Index.{Level, Sum, Part, sum_sign, product_sign, sums, products, part, factor_after, more_factors, summand_after}
use Rattle.schedule_script.specs.Index.{more_summands, sum, inner}

pub items : most_items ≡ 9223372036854775808
unfolding most_items
items = refl

pub few_steps : most_steps ≡ 1000
unfolding most_steps
few_steps = refl

-- a kind that is a sign, as a test of it tells
abbrev signs : Kind → Bool → Option Kind
signs kd b = cond b (Some kd) None

told : (kd : Kind) (found : Option Kind) (b : Bool) → found ≡ signs kd b → b ≡ true → found ≡ Some kd
told kd found b h e = h ∙ ap (signs kd) e

untold : (kd : Kind) (found : Option Kind) (b : Bool) → found ≡ signs kd b → b ≡ false → found ≡ None
untold kd found b h e = h ∙ ap (signs kd) e

module _ (inside : Level → Parser IxTree) (levels : ℕ) where
  pub products_stop : (n : ℕ) (left : IxTree) (i : Input) (b : Bool) → product_sign (kind i) ≡ signs (kind i) b → b ≡ false
      → more_factors inside levels n left i ≡ Ok (left, i)
  unfolding products
  products_stop n left i b h e = chain_stop products (λ m a o. factor_after inside levels o a) n left i (untold (kind i) (product_sign (kind i)) b h e)

  pub products_went : (n at : ℕ) (left value : IxTree) (i j : Input) (b : Bool) → at < n → product_sign (kind i) ≡ signs (kind i) b → b ≡ true
      → factor_after inside levels (kind i) left (next i) ≡ Ok (value, j) → limited value ≡ Ok value
      → more_factors inside levels (n - at) left i ≡ more_factors inside levels (n - (at + 1)) value j
  unfolding products
  products_went n at left value i j b below h e reads joins =
      chain_went products (λ m a o. factor_after inside levels o a) n at left value value (kind i) i j below (omega arith)
      (told (kind i) (product_sign (kind i)) b h e) reads joins

  pub products_clashed : (n at : ℕ) (left value : IxTree) (i j : Input) (fault : Fault) (b : Bool) → at < n → product_sign (kind i) ≡ signs (kind i) b
      → b ≡ true → factor_after inside levels (kind i) left (next i) ≡ Ok (value, j) → limited value ≡ Err fault
      → more_factors inside levels (n - at) left i ≡ Err (Refused fault (peek i).place)
  unfolding products
  products_clashed n at left value i j fault b below h e reads joins =
      chain_clashed products (λ m a o. factor_after inside levels o a) n at left value (kind i) i j fault below (omega arith)
      (told (kind i) (product_sign (kind i)) b h e) reads joins

  pub products_fell : (n at : ℕ) (left : IxTree) (i : Input) (x : ReadError) (b : Bool) → at < n → product_sign (kind i) ≡ signs (kind i) b → b ≡ true
      → factor_after inside levels (kind i) left (next i) ≡ Err x
      → more_factors inside levels (n - at) left i ≡ Err x
  unfolding products
  products_fell n at left i x b below h e reads =
      chain_fell products (λ m a o. factor_after inside levels o a) n at left (kind i) i x below (omega arith)
      (told (kind i) (product_sign (kind i)) b h e) reads

  pub products_full : (n at : ℕ) (left : IxTree) (i : Input) (b : Bool) → n ≤ at → product_sign (kind i) ≡ signs (kind i) b → b ≡ true
      → more_factors inside levels (n - at) left i ≡ Err (refusal TooDeep i)
  unfolding products
  products_full n at left i b done h e =
      chain_full products (λ m a o. factor_after inside levels o a) n at left (kind i) i done (told (kind i) (product_sign (kind i)) b h e)

  pub sums_stop : (n : ℕ) (left : IxTree) (i : Input) (b : Bool) → sum_sign (kind i) ≡ signs (kind i) b → b ≡ false
      → more_summands inside levels n left i ≡ Ok (left, i)
  unfolding sums
  sums_stop n left i b h e = chain_stop sums (λ m a o. summand_after inside levels o a) n left i (untold (kind i) (sum_sign (kind i)) b h e)

  pub sums_went : (n at : ℕ) (left value : IxTree) (i j : Input) (b : Bool) → at < n → sum_sign (kind i) ≡ signs (kind i) b → b ≡ true
      → summand_after inside levels (kind i) left (next i) ≡ Ok (value, j) → limited value ≡ Ok value
      → more_summands inside levels (n - at) left i ≡ more_summands inside levels (n - (at + 1)) value j
  unfolding sums
  sums_went n at left value i j b below h e reads joins =
      chain_went sums (λ m a o. summand_after inside levels o a) n at left value value (kind i) i j below (omega arith)
      (told (kind i) (sum_sign (kind i)) b h e) reads joins

  pub sums_clashed : (n at : ℕ) (left value : IxTree) (i j : Input) (fault : Fault) (b : Bool) → at < n → sum_sign (kind i) ≡ signs (kind i) b
      → b ≡ true → summand_after inside levels (kind i) left (next i) ≡ Ok (value, j) → limited value ≡ Err fault
      → more_summands inside levels (n - at) left i ≡ Err (Refused fault (peek i).place)
  unfolding sums
  sums_clashed n at left value i j fault b below h e reads joins =
      chain_clashed sums (λ m a o. summand_after inside levels o a) n at left value (kind i) i j fault below (omega arith)
      (told (kind i) (sum_sign (kind i)) b h e) reads joins

  pub sums_fell : (n at : ℕ) (left : IxTree) (i : Input) (x : ReadError) (b : Bool) → at < n → sum_sign (kind i) ≡ signs (kind i) b → b ≡ true
      → summand_after inside levels (kind i) left (next i) ≡ Err x
      → more_summands inside levels (n - at) left i ≡ Err x
  unfolding sums
  sums_fell n at left i x b below h e reads =
      chain_fell sums (λ m a o. summand_after inside levels o a) n at left (kind i) i x below (omega arith) (told (kind i) (sum_sign (kind i)) b h e) reads

  pub sums_full : (n at : ℕ) (left : IxTree) (i : Input) (b : Bool) → n ≤ at → sum_sign (kind i) ≡ signs (kind i) b → b ≡ true
      → more_summands inside levels (n - at) left i ≡ Err (refusal TooDeep i)
  unfolding sums
  sums_full n at left i b done h e =
      chain_full sums (λ m a o. summand_after inside levels o a) n at left (kind i) i done (told (kind i) (sum_sign (kind i)) b h e)

pub inner_sum : (levels : ℕ) (i : Input) → 0 < levels → inner levels Sum i ≡ sum (inner (levels - 1)) (levels - 1) i
unfolding inner
inner_sum zero i some = absurd (omega arith)
inner_sum (suc levels) i some = let e : suc levels - 1 ≡ levels = omega arith in rw e refl

pub inner_part : (levels : ℕ) (i : Input) → 0 < levels → inner levels Part i ≡ part (inner (levels - 1)) (levels - 1) i
unfolding inner
inner_part zero i some = absurd (omega arith)
inner_part (suc levels) i some = let e : suc levels - 1 ≡ levels = omega arith in rw e refl
