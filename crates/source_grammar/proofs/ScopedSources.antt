-- Terms and modules that are read name only what is there.
use Rattle.std.proofs.Common.{◌≡◌, inl, inr, ℕ, zero, suc, ◌+◌, ◌-◌, ◌<◌, ◌≤◌, ◌==◌, ◌&&◌, nat_le, nat_lt, Bool, true, false, cond, List, [], ◌∷◌}
use Rattle.std.proofs.Common.{Option, Some, None, Result, Ok, Err, refl, sym, ap, subst, ◌∙◌, arith}
use Rattle.std.specs.Str.{bytes_eq}
use Rattle.std.proofs.lemmas.Bool.{and_from}
use Rattle.text_tokens.specs.declared.kind.Kind.{Kind}
use Rattle.text_tokens.specs.declared.kind.Kind.TheVariants as k
use Rattle.text_tokens.specs.Kinds.{Text}
use Rattle.text_tokens.specs.Numbers.{number}
use Rattle.text_tokens.specs.Words.{Word}
use Rattle.affine_index.specs.Form.{size_form, var_form}
use Rattle.affine_index.specs.Limited.{items_scoped}
use Rattle.affine_index.specs.declared.aff.Aff.{Aff}
use Rattle.affine_index.specs.declared.form.Items.{Items}
use Rattle.affine_index.proofs.FormScopes.{Form, of-form}
use Rattle.affine_index.proofs.ReadyLaws.{scoped-Size, scoped-Var}
use Rattle.term_tree.specs.Scope.{cond_scoped, term_scoped}
use Rattle.term_tree.specs.Syntax as term
use Rattle.term_tree.specs.declared.term.Term.{Term}
use Rattle.reader_laws.specs.declared.fault.Fault.{Fault}
use Rattle.reader_laws.specs.declared.fault.Fault.TheVariants.{BadSyntax, NumberTooLarge}
use Rattle.reader_laws.specs.Chain.{Links}
use Rattle.reader_laws.specs.Grammar.{IsChain}
use Rattle.reader_laws.proofs.Chains.{chain_keeps}
use Rattle.source_grammar.specs.declared.sort.Meaning.{Meaning}
use Rattle.source_grammar.specs.declared.sort.Sort.{Sort}
use Rattle.source_grammar.specs.declared.sort.Sort.TheVariants.{OfSize, OfIndex, OfTensor}
use Rattle.source_grammar.specs.Index.{IsIndex}
use Rattle.source_grammar.specs.Index.{Sum as index_sum}
use Rattle.source_grammar.specs.Scope.{Entry, Scope, extent_name, if_known, index_form, index_name, meaning, past, same_sort, size_form_of, tensor_name}
use Rattle.source_grammar.specs.Scope.{tensor_number}
use Rattle.source_grammar.specs.Terms.{Factor, IsBinderBy, IsByPlace, IsFactor, IsGuard, IsInBrackets, IsInner, IsJoin, IsLet, IsLoop, IsOf, IsPrimaryBy}
use Rattle.source_grammar.specs.Terms.{IsProduct, IsSplit, IsSum, IsTerm, IsTrim, Place, Product, Sum, Whole, brackets, index_entry, product_sign}
use Rattle.source_grammar.specs.Terms.{products, sum_sign, sums, tensor_entry, tile_if}
use Rattle.source_grammar.proofs.ScopedLaws.{condition_scoped, index_scoped}

-- ---- names

-- how many names of a sort there are
abbrev pub count : Sort → Scope → ℕ
count s [] = 0
count s (e ∷ es) = cond (same_sort e.sort s) (count s es + 1) (count s es)

abbrev Below : Scope → Meaning → Type 0
Below scope m = m.number < count m.sort scope

abbrev given : Meaning → Option Meaning
given m = Some m

same_meaning : (a b : Meaning) → given a ≡ given b → a ≡ b
same_meaning a b h = cc

own : (s : Sort) → same_sort s s ≡ true
own OfSize = refl
own OfIndex = refl
own OfTensor = refl

turned : (a b : Sort) → same_sort a b ≡ same_sort b a
turned OfSize OfSize = refl
turned OfSize OfIndex = refl
turned OfSize OfTensor = refl
turned OfIndex OfSize = refl
turned OfIndex OfIndex = refl
turned OfIndex OfTensor = refl
turned OfTensor OfSize = refl
turned OfTensor OfIndex = refl
turned OfTensor OfTensor = refl

first_below : (e : Entry) (es : Scope) → 0 < count e.sort (e ∷ es)
first_below e es = subst (λ b. 0 < cond b (count e.sort es + 1) (count e.sort es)) (sym (own e.sort)) (omega arith)

next_below : (b : Bool) (n many : ℕ) → n < many → cond b (n + 1) n < cond b (many + 1) many
next_below true n many h = omega (arith, h)
next_below false n many h = h

past_below : (e : Entry) (es : Scope) (o : Option Meaning) (m : Meaning) → ((x : Meaning) → o ≡ Some x → Below es x) → past e.sort o ≡ Some m → Below (e ∷ es) m
past_below e es None m below h = absurd cc
past_below e es (Some x) m below h =
    let n = next_below (same_sort e.sort x.sort) x.number (count x.sort es) (below x refl) in
    subst (Below (e ∷ es)) (same_meaning (record { sort = x.sort; number = cond (same_sort e.sort x.sort) (x.number + 1) x.number }) m h) n

by_first : (e : Entry) (es : Scope) (b : Bool) (o : Option Meaning) (m : Meaning) → ((x : Meaning) → o ≡ Some x → Below es x)
    → cond b (given (record { sort = e.sort; number = 0 })) (past e.sort o) ≡ Some m → Below (e ∷ es) m
by_first e es true o m below h = subst (Below (e ∷ es)) (same_meaning (record { sort = e.sort; number = 0 }) m h) (first_below e es)
by_first e es false o m below h = past_below e es o m below h

meaning_below : (scope : Scope) (t : Text) (m : Meaning) → meaning scope t ≡ Some m → Below scope m
meaning_below [] t m h = absurd cc
meaning_below (e ∷ es) t m h = by_first e es (bytes_eq t e.name) (meaning es t) m (λ x g. meaning_below es t x g) h

abbrev form : Items → Result Items Fault
form x = Ok x

same_items : (a b : Items) → form a ≡ form b → a ≡ b
same_items a b h = cc

lt_true : (n m : ℕ) → n < m → nat_lt n m ≡ true
lt_true n m h = grind arith

size_scoped : (s v n : ℕ) (x : Items) → n < s → form (size_form n) ≡ Ok x → Form s v x
size_scoped s v n x h e = subst (Form s v) (same_items (size_form n) x e) (scoped-Size s v n ∙ lt_true n s h, tt)

var_scoped : (s v n : ℕ) (x : Items) → n < v → form (var_form n) ≡ Ok x → Form s v x
var_scoped s v n x h e = subst (Form s v) (same_items (var_form n) x e) (scoped-Var s v n ∙ lt_true n v h, tt)

extent_by : (scope : Scope) (s : Sort) (n : ℕ) (x : Items) → n < count s scope → size_form_of s n ≡ Ok x → Form (count OfSize scope) 0 x
extent_by scope OfSize n x h e = size_scoped (count OfSize scope) 0 n x h e
extent_by scope OfIndex n x h e = absurd cc
extent_by scope OfTensor n x h e = absurd cc

index_by : (scope : Scope) (s : Sort) (n : ℕ) (x : Items) → n < count s scope → index_form s n ≡ Ok x → Form (count OfSize scope) (count OfIndex scope) x
index_by scope OfSize n x h e = size_scoped (count OfSize scope) (count OfIndex scope) n x h e
index_by scope OfIndex n x h e = var_scoped (count OfSize scope) (count OfIndex scope) n x h e
index_by scope OfTensor n x h e = absurd cc

abbrev number_ok : ℕ → Result ℕ Fault
number_ok n = Ok n

same_number : (a b : ℕ) → number_ok a ≡ number_ok b → a ≡ b
same_number a b h = cc

tensor_by : (scope : Scope) (s : Sort) (n q : ℕ) → n < count s scope → tensor_number s n ≡ Ok q → q < count OfTensor scope
tensor_by scope OfTensor n q h e = subst (λ m. m < count OfTensor scope) (same_number n q e) h
tensor_by scope OfSize n q h e = absurd cc
tensor_by scope OfIndex n q h e = absurd cc

known : {A : Type 0} (f : Sort → ℕ → Result A Fault) (P : A → Type 0) (scope : Scope) (t : Text) (x : A)
    → ((s : Sort) (n : ℕ) (y : A) → n < count s scope → f s n ≡ Ok y → P y)
    → (o : Option Meaning) → meaning scope t ≡ o → if_known f o ≡ Ok x → P x
known f P scope t x each None e h = absurd cc
known f P scope t x each (Some m) e h = each m.sort m.number x (meaning_below scope t m e) h

pub extent_good : (scope : Scope) (t : Text) (x : Items) → extent_name scope t ≡ Ok x → Form (count OfSize scope) 0 x
extent_good scope t x h = known size_form_of (Form (count OfSize scope) 0) scope t x (λ s n y l e. extent_by scope s n y l e) (meaning scope t) refl h

pub index_good : (scope : Scope) (t : Text) (x : Items) → index_name scope t ≡ Ok x → Form (count OfSize scope) (count OfIndex scope) x
index_good scope t x h = known index_form (Form (count OfSize scope) (count OfIndex scope)) scope t x (λ s n y l e. index_by scope s n y l e) (meaning scope t)
    refl h

tensor_good : (scope : Scope) (t : Text) (q : ℕ) → tensor_name scope t ≡ Ok q → q < count OfTensor scope
tensor_good scope t q h = known tensor_number (λ n. n < count OfTensor scope) scope t q (λ s n y l e. tensor_by scope s n y l e) (meaning scope t) refl h

-- ---- terms

-- a term that may stand where these names may be used
abbrev pub Fits : Scope → Term → Type 0
Fits scope e = term_scoped (count OfSize scope) e (count OfIndex scope) (count OfTensor scope) ≡ true

tile_by : (n : ℕ) (a b : Bool) (d : ℕ) → (n == 0) ≡ a → nat_lt 2147483647 n ≡ b
    → cond a (let r : Result ℕ Fault = Err BadSyntax in r) (cond b (Err NumberTooLarge) (Ok n)) ≡ Ok d
    → (nat_lt 0 d && nat_le d 2147483647) ≡ true
tile_by n true b d p q h = absurd cc
tile_by n false true d p q h = absurd cc
tile_by n false false d p q h =
    let some : 0 < n = grind (arith, p) in
    let most : n ≤ 2147483647 = grind (arith, q) in
    subst (λ m. (nat_lt 0 m && nat_le m 2147483647) ≡ true) (same_number n d h) (and_from (nat_lt 0 n) (nat_le n 2147483647) (grind arith) (grind arith))

tile_good : (o : Option ℕ) (d : ℕ) → tile_if o ≡ Ok d → (nat_lt 0 d && nat_le d 2147483647) ≡ true
tile_good None d h = absurd cc
tile_good (Some n) d h = tile_by n (n == 0) (nat_lt 2147483647 n) d refl refl h

module _ (below : Place → Scope → List Word → Term → Type 0) (levels : ℕ) (scope : Scope) (h : (place : Place) (s : Scope) (ws : List Word) (x : Term)
    → below place s ws x → Fits s x) where
  abbrev sizes : ℕ
  sizes = count OfSize scope

  abbrev vars : ℕ
  vars = count OfIndex scope

  abbrev tensors : ℕ
  tensors = count OfTensor scope

  extent_scoped : (n : ℕ) (ws : List Word) (x : Items) → IsIndex (extent_name scope) n index_sum ws x → items_scoped sizes 0 x ≡ true
  extent_scoped n ws x is = of-form sizes 0 x (index_scoped sizes 0 (extent_name scope) (extent_good scope) n index_sum ws x is)

  place_scoped : (n : ℕ) (ws : List Word) (x : Items) → IsIndex (index_name scope) n index_sum ws x → items_scoped sizes vars x ≡ true
  place_scoped n ws x is = of-form sizes vars x (index_scoped sizes vars (index_name scope) (index_good scope) n index_sum ws x is)

  loop_fits : (kd : Kind) (make : Aff → Term → Term)
      → ((n : Aff) (e : Term) → items_scoped sizes 0 n ≡ true → term_scoped sizes e (vars + 1) tensors ≡ true → Fits scope (make n e))
      → (ws : List Word) (x : Term) → IsLoop below levels scope kd make ws x → Fits scope x
  loop_fits kd make fits ws x is =
      let name = is.1.is_then in
      let n = name.is_then.is_then in
      let b = n.is_then.is_then in
      subst (Fits scope) (sym b.is_then.1)
      (fits n.value b.value (extent_scoped (levels - 1) n.front n.value n.is_first) (h Whole (index_entry name.value ∷ scope) b.front b.value b.is_first))

  guard_fits : (ws : List Word) (x : Term) → IsGuard below levels scope ws x → Fits scope x
  guard_fits ws x is =
      let c = is.1.is_then in
      let b = c.is_then.is_then in
      subst (Fits scope) (sym b.is_then.1)
      (and_from (cond_scoped sizes vars c.value) (term_scoped sizes b.value vars tensors)
      (condition_scoped sizes vars (index_name scope) (index_good scope) (levels - 1) c.front c.value c.is_first) (h Whole scope b.front b.value b.is_first))

  let_fits : (ws : List Word) (x : Term) → IsLet below levels scope ws x → Fits scope x
  let_fits ws x is =
      let name = is.1.is_then in
      let a = name.is_then.is_then in
      let b = a.is_then.is_then in
      subst (Fits scope) (sym b.is_then.1)
      (and_from (term_scoped sizes a.value vars tensors) (term_scoped sizes b.value vars (tensors + 1))
      (h Whole scope a.front a.value a.is_first) (h Whole (tensor_entry name.value ∷ scope) b.front b.value b.is_first))

  binder_fits : (kd : Kind) (ws : List Word) (x : Term) → IsBinderBy below levels scope kd ws x → Fits scope x
  binder_fits k.Gen ws x is = loop_fits k.Gen term.gen (λ n e p q. and_from (items_scoped sizes 0 n) (term_scoped sizes e (vars + 1) tensors) p q) ws x is
  binder_fits k.Sum ws x is = loop_fits k.Sum term.sum (λ n e p q. and_from (items_scoped sizes 0 n) (term_scoped sizes e (vars + 1) tensors) p q) ws x is
  binder_fits k.Guard ws x is = guard_fits ws x is
  binder_fits k.Let ws x is = let_fits ws x is
  binder_fits _ ws x is = absurd is

  one_fits : (kd : Kind) (make : Term → Term) → ((e : Term) → Fits scope e → Fits scope (make e)) → (ws : List Word) (x : Term)
      → IsOf below levels scope kd make ws x → Fits scope x
  one_fits kd make fits ws x is =
      let p = is.is_then.1.is_then in
      let b = p.is_first in
      subst (Fits scope) (sym (p.is_then.is_then.1 ∙ b.is_then.1)) (fits b.value (h Whole scope b.front b.value b.is_first))

  joint_fits : (ws : List Word) (x : Term) → IsJoin below levels scope ws x → Fits scope x
  joint_fits ws x is =
      let p = is.is_then.1.is_then in
      let a = p.is_first in
      let b = a.is_then.is_then in
      subst (Fits scope) (sym (p.is_then.is_then.1 ∙ b.is_then.1))
      (and_from (term_scoped sizes a.value vars tensors) (term_scoped sizes b.value vars tensors) (h Whole scope a.front a.value a.is_first)
      (h Whole scope b.front b.value b.is_first))

  split_fits : (ws : List Word) (x : Term) → IsSplit below levels scope ws x → Fits scope x
  split_fits ws x is =
      let p = is.is_then.1.is_then in
      let d = p.is_first in
      let b = d.is_then.is_then in
      subst (Fits scope) (sym (p.is_then.is_then.1 ∙ b.is_then.1))
      (and_from (nat_lt 0 d.value && nat_le d.value 2147483647) (term_scoped sizes b.value vars tensors)
      (tile_good (number d.is_first.word.text) d.value d.is_first.reads_as) (h Whole scope b.front b.value b.is_first))

  trim_fits : (kd : Kind) (make : Aff → Term → Term) → ((n : Aff) (e : Term) → items_scoped sizes 0 n ≡ true → Fits scope e → Fits scope (make n e))
      → (ws : List Word) (x : Term) → IsTrim below levels scope kd make ws x → Fits scope x
  trim_fits kd make fits ws x is =
      let p = is.is_then.1.is_then in
      let n = p.is_first in
      let b = n.is_then.is_then in
      subst (Fits scope) (sym (p.is_then.is_then.1 ∙ b.is_then.1))
      (fits n.value b.value (extent_scoped (levels - 1) n.front n.value n.is_first) (h Whole scope b.front b.value b.is_first))

  both_fit : (n : Aff) (e : Term) → items_scoped sizes 0 n ≡ true → Fits scope e → (items_scoped sizes 0 n && term_scoped sizes e vars tensors) ≡ true
  both_fit n e p q = and_from (items_scoped sizes 0 n) (term_scoped sizes e vars tensors) p q

  primary_fits : (kd : Kind) (ws : List Word) (x : Term) → IsPrimaryBy below levels scope kd ws x → Fits scope x
  primary_fits k.Number ws x is = subst (Fits scope) (sym is.is_then.1) refl
  primary_fits k.Name ws x is = subst (Fits scope) (sym is.is_then.1)
      (lt_true is.value tensors (tensor_good scope is.is_first.word.text is.value is.is_first.reads_as))
  primary_fits k.LParen ws x is = let p = is.1.is_then in subst (Fits scope) (sym p.is_then.is_then.1) (h Whole scope p.front p.value p.is_first)
  primary_fits k.Flatten ws x is = one_fits k.Flatten term.flatten (λ e q. q) ws x is
  primary_fits k.Transpose ws x is = one_fits k.Transpose term.transpose (λ e q. q) ws x is
  primary_fits k.Concat ws x is = joint_fits ws x is
  primary_fits k.Split ws x is = split_fits ws x is
  primary_fits k.TruncL ws x is = trim_fits k.TruncL term.trunc_l both_fit ws x is
  primary_fits k.TruncR ws x is = trim_fits k.TruncR term.trunc_r both_fit ws x is
  primary_fits k.PadL ws x is = trim_fits k.PadL term.pad_l both_fit ws x is
  primary_fits k.PadR ws x is = trim_fits k.PadR term.pad_r both_fit ws x is
  primary_fits k.Word ws x is =
      let p = is.is_then.1.is_then in
      let b = p.is_first in
      subst (Fits scope) (sym (p.is_then.is_then.1 ∙ b.is_then.1)) (place_scoped (levels - 1) b.front b.value b.is_first)
  primary_fits _ ws x is = absurd is

  abbrev term_ok : Term → Result Term Fault
  term_ok e = Ok e

  same_term : (a b : Term) → term_ok a ≡ term_ok b → a ≡ b
  same_term a b e = cc

  factor_fits : (ws : List Word) (x : Term) → IsFactor below levels scope ws x → Fits scope x
  unfolding brackets
  factor_fits ws x is =
      chain_keeps brackets (λ n a o. IsInBrackets below levels scope n) (Fits scope) (λ x. items_scoped sizes vars x ≡ true)
      (λ n a o us b r. subst (λ y. items_scoped sizes vars y ≡ true) (sym r.is_then.is_then.1) (place_scoped n r.front r.value r.is_first))
      (λ o a b c p q e. subst (Fits scope) (same_term (term.index a b) c e) (and_from (term_scoped sizes a vars tensors) (items_scoped sizes vars b) p q))
      levels is.value is.rest x (primary_fits is.is_first.0 is.front is.value is.is_first.1) is.is_then

  abbrev Sign : Type 0
  Sign = Term → Term → Term

  -- a sign keeps what fits
  abbrev Keeps : Sign → Type 0
  Keeps f = (a b : Term) → Fits scope a → Fits scope b → Fits scope (f a b)

  abbrev sign_ok : Sign → Option Sign
  sign_ok f = Some f

  abbrev or_else : Option Sign → Sign → Sign
  or_else (Some f) g = f
  or_else None g = g

  same_sign : (f g : Sign) → sign_ok f ≡ sign_ok g → f ≡ g
  same_sign f g e = ap (λ (o : Option Sign). or_else o f) e

  both_parts : Keeps term.add
  both_parts a b p q = and_from (term_scoped sizes a vars tensors) (term_scoped sizes b vars tensors) p q

  star_keeps : (kd : Kind) (o : Sign) → product_sign kd ≡ Some o → Keeps o
  star_keeps k.Star o e = subst Keeps (same_sign term.mul o e) (λ a b p q. and_from (term_scoped sizes a vars tensors) (term_scoped sizes b vars tensors) p q)
  star_keeps _ o e = absurd cc

  sign_keeps : (kd : Kind) (o : Sign) → sum_sign kd ≡ Some o → Keeps o
  sign_keeps k.Plus o e = subst Keeps (same_sign term.add o e) both_parts
  sign_keeps k.Minus o e = subst Keeps (same_sign term.sub o e) (λ a b p q. and_from (term_scoped sizes a vars tensors) (term_scoped sizes b vars tensors) p q)
  sign_keeps _ o e = absurd cc

  -- a chain of signs, each of which keeps what fits
  signs_fit : (links : Links Term Term Sign) (operands : ℕ → Term → Sign → List Word → Term → Type 0)
      → ((n : ℕ) (a : Term) (o : Sign) (us : List Word) (b : Term) → operands n a o us b → Fits scope b)
      → ((kd : Kind) (o : Sign) → links.operator kd ≡ Some o → Keeps o) → ((o : Sign) (a b : Term) → links.join o a b ≡ Ok (o a b))
      → (n : ℕ) (left : Term) (ws : List Word) (x : Term) → Fits scope left → IsChain links operands n left ws x → Fits scope x
  signs_fit links operands each keeps joins zero left ws x p is = subst (Fits scope) (sym is.1) p
  signs_fit links operands each keeps joins (suc n) left ws x p (inl is) = subst (Fits scope) (sym is.1) p
  signs_fit links operands each keeps joins (suc n) left ws x p (inr is) =
      let made : is.sign left is.right ≡ is.value = same_term (is.sign left is.right) is.value (sym (joins is.sign left is.right) ∙ is.joins) in
      let next = keeps is.word.kind is.sign is.is left is.right p (each n left is.sign is.front is.right is.is_operand) in
      signs_fit links operands each keeps joins n is.value is.rest x (subst (Fits scope) made next) is.is_rest

  product_fits : (ws : List Word) (x : Term) → IsProduct below levels scope ws x → Fits scope x
  unfolding products
  product_fits ws x is = signs_fit (products levels) (λ n a o. below Factor scope) (λ n a o us b r. h Factor scope us b r) star_keeps (λ o a b. refl) _ is.value
      is.rest x (factor_fits is.front is.value is.is_first) is.is_then

  sum_fits : (ws : List Word) (x : Term) → IsSum below levels scope ws x → Fits scope x
  unfolding sums
  sum_fits ws x is = signs_fit (sums levels) (λ n a o. below Product scope) (λ n a o us b r. h Product scope us b r) sign_keeps (λ o a b. refl) _ is.value
      is.rest x (product_fits is.front is.value is.is_first) is.is_then

  by_place_fits : (place : Place) (ws : List Word) (x : Term) → IsByPlace below levels scope place ws x → Fits scope x
  by_place_fits Whole ws x (inl is) = binder_fits is.0 ws x is.1
  by_place_fits Whole ws x (inr is) = sum_fits ws x is
  by_place_fits Sum ws x is = sum_fits ws x is
  by_place_fits Product ws x is = product_fits ws x is
  by_place_fits Factor ws x is = factor_fits ws x is

inner_fits : (levels : ℕ) (place : Place) (scope : Scope) (ws : List Word) (x : Term) → IsInner levels place scope ws x → Fits scope x
inner_fits zero place scope ws x is = absurd is
inner_fits (suc levels) place scope ws x is = by_place_fits (IsInner levels) levels scope (inner_fits levels) place ws x is

pub term_fits : (levels : ℕ) (place : Place) (scope : Scope) (ws : List Word) (x : Term) → IsTerm levels place scope ws x → Fits scope x
term_fits levels place scope ws x is = by_place_fits (IsInner levels) levels scope (inner_fits levels) place ws x is
