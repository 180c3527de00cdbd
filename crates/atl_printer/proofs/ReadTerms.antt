-- Terms that are read: their forms are normal, their numbers are words, and version 1 has no index as a word.
use Rattle.std.proofs.Common.{◌≡◌, inl, inr, ℕ, zero, suc, ◌-◌, ◌<◌, ◌≤◌, ◌^◌, nat_lt, Bool, true, false, cond, List, [], ◌∷◌, ◌++◌, length}
use Rattle.std.proofs.Common.{Option, Some, None, Result, Ok, refl, sym, ap, subst, ◌∙◌, arith}
use Rattle.std.proofs.lemmas.Bool.{and_from}
use Rattle.text_tokens.specs.declared.kind.Kind.{Kind}
use Rattle.text_tokens.specs.declared.kind.Kind.TheVariants as k
use Rattle.text_tokens.specs.declared.kind.Language.{Language}
use Rattle.text_tokens.specs.declared.kind.Language.TheVariants.{SourceOne}
use Rattle.text_tokens.specs.Kinds.{Text}
use Rattle.text_tokens.specs.Numbers.{number, value_from}
use Rattle.text_tokens.specs.Words.{Word}
use Rattle.affine_index.specs.Normal.{is_normal}
use Rattle.affine_index.specs.declared.aff.Aff.{Aff}
use Rattle.affine_index.specs.declared.cond.Cond.{Cond}
use Rattle.term_tree.specs.Limits.{each_cmp, every_form, form_step}
use Rattle.term_tree.specs.Syntax as term
use Rattle.term_tree.specs.declared.term.Term.{Term, Lit, TVar, WordOf}
use Rattle.term_tree.proofs.Folds.{fold-lit, fold-t_var, fold-word_of, fold-index, fold-gen, fold-sum, fold-guard, fold-let_in, fold-add, fold-sub, fold-mul}
use Rattle.term_tree.proofs.Folds.{fold-concat, fold-flatten, fold-split, fold-transpose, fold-trunc_l, fold-trunc_r, fold-pad_l, fold-pad_r}
use Rattle.reader_laws.specs.declared.fault.Fault.{Fault}
use Rattle.reader_laws.specs.Chain.{Links}
use Rattle.reader_laws.specs.Grammar.{IsChain}
use Rattle.source_grammar.specs.Index.{Sum as index_sum}
use Rattle.source_grammar.specs.Scope.{Scope, extent_name, index_name}
use Rattle.source_grammar.specs.Terms.{Factor, IsBinderBy, IsByPlace, IsFactor, IsGuard, IsInBrackets, IsInner, IsJoin, IsLet, IsLoop, IsOf, IsPrimaryBy}
use Rattle.source_grammar.specs.Terms.{IsProduct, IsSplit, IsSum, IsTerm, IsTrim, IsWordForm, Place, Product, Sum, Whole, brackets, index_entry, product_sign}
use Rattle.source_grammar.specs.Terms.{products, sum_sign, sums, tensor_entry, word_if, word_value}
use Rattle.source_grammar.proofs.NormalForms.{Normal}
use Rattle.atl_printer.specs.Held.{IsHeld}
use Rattle.atl_printer.specs.Printable.{HasNoWordOf}
use Rattle.atl_printer.proofs.ReadForms.{condition_few, condition_normal, extent_named, index_named, index_normal}
use Rattle.atl_printer.proofs.ReadWords.{Cut, before, after, front, only_word, rest}

-- ---- numbers

abbrev number_ok : ℕ → Result ℕ Fault
number_ok n = Ok n

same_number : (a b : ℕ) → number_ok a ≡ number_ok b → a ≡ b
same_number a b h = cc

number_below : (t : Text) (w : ℕ) → word_value t ≡ Ok w → w < 2 ^ 64
unfolding number
number_below t w h = by (value_from 0 t) (nat_lt (value_from 0 t) (2 ^ 64)) refl h
  where
    by : (n : ℕ) (b : Bool) → nat_lt n (2 ^ 64) ≡ b → word_if (cond b (Some n) None) ≡ Ok w → w < 2 ^ 64
    by n true e h = let l : n < 2 ^ 64 = grind (arith, e) in subst (λ m. m < 2 ^ 64) (same_number n w h) l
    by n false e h = absurd cc

-- ---- the constructors

module _ (language : Language) where
  -- what is asked of a term that is read, besides its scope
  pub record IsRead (e : Term) : Type 0 where
    pub normal : every_form is_normal e ≡ true
    pub held : IsHeld e
    pub plain : language ≡ SourceOne → HasNoWordOf e

  lit_read : (w : ℕ) → w < 2 ^ 64 → IsRead (Lit w)
  lit_read w h = record { normal = fold-lit Bool (form_step is_normal) w; held = h; plain = λ o. tt }

  name_read : (q : ℕ) → IsRead (TVar q)
  name_read q = record { normal = fold-t_var Bool (form_step is_normal) q; held = tt; plain = λ o. tt }

  word_read : (x : Aff) → Normal x → (language ≡ SourceOne → ⊥) → IsRead (WordOf x)
  word_read x n h = record { normal = fold-word_of Bool (form_step is_normal) x ∙ n; held = tt; plain = h }

  index_read : (e : Term) (x : Aff) → IsRead e → Normal x → IsRead (term.index e x)
  index_read e x p n = record {
    normal = fold-index Bool (form_step is_normal) e x ∙ and_from (every_form is_normal e) (is_normal x) p.normal n;
    held = p.held;
    plain = p.plain;
  }

  guard_read : (c : Cond) (e : Term) → each_cmp is_normal c.all ≡ true → length c.all ≤ 2 ^ 63 → IsRead e → IsRead (term.guard c e)
  guard_read c e n few p = record {
    normal = fold-guard Bool (form_step is_normal) c e ∙ and_from (each_cmp is_normal c.all) (every_form is_normal e) n p.normal;
    held = (few, p.held);
    plain = p.plain;
  }

  split_read : (d : ℕ) (e : Term) → IsRead e → IsRead (term.split d e)
  split_read d e p = record { normal = fold-split Bool (form_step is_normal) d e ∙ p.normal; held = p.held; plain = p.plain }

  gen_read : (n : Aff) (e : Term) → Normal n → IsRead e → IsRead (term.gen n e)
  gen_read n e q p = record {
    normal = fold-gen Bool (form_step is_normal) n e ∙ and_from (is_normal n) (every_form is_normal e) q p.normal;
    held = p.held;
    plain = p.plain;
  }

  sum_read : (n : Aff) (e : Term) → Normal n → IsRead e → IsRead (term.sum n e)
  sum_read n e q p = record {
    normal = fold-sum Bool (form_step is_normal) n e ∙ and_from (is_normal n) (every_form is_normal e) q p.normal;
    held = p.held;
    plain = p.plain;
  }

  trunc_l_read : (n : Aff) (e : Term) → Normal n → IsRead e → IsRead (term.trunc_l n e)
  trunc_l_read n e q p = record {
    normal = fold-trunc_l Bool (form_step is_normal) n e ∙ and_from (is_normal n) (every_form is_normal e) q p.normal;
    held = p.held;
    plain = p.plain;
  }

  trunc_r_read : (n : Aff) (e : Term) → Normal n → IsRead e → IsRead (term.trunc_r n e)
  trunc_r_read n e q p = record {
    normal = fold-trunc_r Bool (form_step is_normal) n e ∙ and_from (is_normal n) (every_form is_normal e) q p.normal;
    held = p.held;
    plain = p.plain;
  }

  pad_l_read : (n : Aff) (e : Term) → Normal n → IsRead e → IsRead (term.pad_l n e)
  pad_l_read n e q p = record {
    normal = fold-pad_l Bool (form_step is_normal) n e ∙ and_from (is_normal n) (every_form is_normal e) q p.normal;
    held = p.held;
    plain = p.plain;
  }

  pad_r_read : (n : Aff) (e : Term) → Normal n → IsRead e → IsRead (term.pad_r n e)
  pad_r_read n e q p = record {
    normal = fold-pad_r Bool (form_step is_normal) n e ∙ and_from (is_normal n) (every_form is_normal e) q p.normal;
    held = p.held;
    plain = p.plain;
  }

  let_in_read : (a e : Term) → IsRead a → IsRead e → IsRead (term.let_in a e)
  let_in_read a e p q = record {
    normal = fold-let_in Bool (form_step is_normal) a e ∙ and_from (every_form is_normal a) (every_form is_normal e) p.normal q.normal;
    held = (p.held, q.held);
    plain = λ o. (p.plain o, q.plain o);
  }

  add_read : (a e : Term) → IsRead a → IsRead e → IsRead (term.add a e)
  add_read a e p q = record {
    normal = fold-add Bool (form_step is_normal) a e ∙ and_from (every_form is_normal a) (every_form is_normal e) p.normal q.normal;
    held = (p.held, q.held);
    plain = λ o. (p.plain o, q.plain o);
  }

  sub_read : (a e : Term) → IsRead a → IsRead e → IsRead (term.sub a e)
  sub_read a e p q = record {
    normal = fold-sub Bool (form_step is_normal) a e ∙ and_from (every_form is_normal a) (every_form is_normal e) p.normal q.normal;
    held = (p.held, q.held);
    plain = λ o. (p.plain o, q.plain o);
  }

  mul_read : (a e : Term) → IsRead a → IsRead e → IsRead (term.mul a e)
  mul_read a e p q = record {
    normal = fold-mul Bool (form_step is_normal) a e ∙ and_from (every_form is_normal a) (every_form is_normal e) p.normal q.normal;
    held = (p.held, q.held);
    plain = λ o. (p.plain o, q.plain o);
  }

  concat_read : (a e : Term) → IsRead a → IsRead e → IsRead (term.concat a e)
  concat_read a e p q = record {
    normal = fold-concat Bool (form_step is_normal) a e ∙ and_from (every_form is_normal a) (every_form is_normal e) p.normal q.normal;
    held = (p.held, q.held);
    plain = λ o. (p.plain o, q.plain o);
  }

  flatten_read : (e : Term) → IsRead e → IsRead (term.flatten e)
  flatten_read e p = record { normal = fold-flatten Bool (form_step is_normal) e ∙ p.normal; held = p.held; plain = p.plain }

  transpose_read : (e : Term) → IsRead e → IsRead (term.transpose e)
  transpose_read e p = record { normal = fold-transpose Bool (form_step is_normal) e ∙ p.normal; held = p.held; plain = p.plain }

  -- ---- the grammar

  module _ (below : Place → Scope → List Word → Term → Type 0) (levels : ℕ) (scope : Scope) (h : (place : Place) (s : Scope) (ws : List Word) (x : Term)
      → below place s ws x → Cut language ws → IsRead x) where
    loop_is : (kd : Kind) (make : Aff → Term → Term) → ((n : Aff) (e : Term) → Normal n → IsRead e → IsRead (make n e))
        → (ws : List Word) (x : Term) → IsLoop below levels scope kd make ws x → Cut language ws → IsRead x
    loop_is kd make makes ws x is c =
        let name = is.1.is_then in
        let less = name.is_then in
        let n = less.is_then in
        let b = n.is_then.is_then in
        let cn = rest language less (rest language name (rest language is.1 c)) in
        let cb = rest language n.is_then (rest language n cn) in
        subst IsRead (sym b.is_then.1)
        (makes n.value b.value (index_normal (extent_name scope) (extent_named scope) (levels - 1) index_sum n.front n.value n.is_first)
        (h Whole (index_entry name.value ∷ scope) b.front b.value b.is_first (front language b cb)))

    guard_is : (ws : List Word) (x : Term) → IsGuard below levels scope ws x → Cut language ws → IsRead x
    guard_is ws x is cut =
        let c = is.1.is_then in
        let b = c.is_then.is_then in
        let cc = rest language is.1 cut in
        let few = condition_few (index_name scope) (index_named scope) (levels - 1) c.front c.value c.is_first in
        let short : length c.value.all ≤ 2 ^ 63 = omega (arith, few, (front language c cc).few) in
        subst IsRead (sym b.is_then.1)
        (guard_read c.value b.value (condition_normal (index_name scope) (index_named scope) (levels - 1) c.front c.value c.is_first) short
        (h Whole scope b.front b.value b.is_first (front language b (rest language c.is_then (rest language c cc)))))

    let_is : (ws : List Word) (x : Term) → IsLet below levels scope ws x → Cut language ws → IsRead x
    let_is ws x is c =
        let name = is.1.is_then in
        let assign = name.is_then in
        let a = assign.is_then in
        let b = a.is_then.is_then in
        let ca = rest language assign (rest language name (rest language is.1 c)) in
        subst IsRead (sym b.is_then.1)
        (let_in_read a.value b.value (h Whole scope a.front a.value a.is_first (front language a ca))
        (h Whole (tensor_entry name.value ∷ scope) b.front b.value b.is_first (front language b (rest language a.is_then (rest language a ca)))))

    binder_is : (kd : Kind) (ws : List Word) (x : Term) → IsBinderBy below levels scope kd ws x → Cut language ws → IsRead x
    binder_is k.Gen ws x is c = loop_is k.Gen term.gen gen_read ws x is c
    binder_is k.Sum ws x is c = loop_is k.Sum term.sum sum_read ws x is c
    binder_is k.Guard ws x is c = guard_is ws x is c
    binder_is k.Let ws x is c = let_is ws x is c
    binder_is _ ws x is c = absurd is

    one_is : (kd : Kind) (make : Term → Term) → ((e : Term) → IsRead e → IsRead (make e)) → (ws : List Word) (x : Term)
        → IsOf below levels scope kd make ws x → Cut language ws → IsRead x
    one_is kd make makes ws x is c =
        let p = is.is_then.1.is_then in
        let b = p.is_first in
        let cp = front language p (rest language is.is_then.1 (rest language is c)) in
        subst IsRead (sym (p.is_then.is_then.1 ∙ b.is_then.1)) (makes b.value (h Whole scope b.front b.value b.is_first (front language b cp)))

    join_is : (ws : List Word) (x : Term) → IsJoin below levels scope ws x → Cut language ws → IsRead x
    join_is ws x is c =
        let p = is.is_then.1.is_then in
        let a = p.is_first in
        let b = a.is_then.is_then in
        let ca = front language p (rest language is.is_then.1 (rest language is c)) in
        subst IsRead (sym (p.is_then.is_then.1 ∙ b.is_then.1))
        (concat_read a.value b.value (h Whole scope a.front a.value a.is_first (front language a ca))
        (h Whole scope b.front b.value b.is_first (front language b (rest language a.is_then (rest language a ca)))))

    split_is : (ws : List Word) (x : Term) → IsSplit below levels scope ws x → Cut language ws → IsRead x
    split_is ws x is c =
        let p = is.is_then.1.is_then in
        let d = p.is_first in
        let b = d.is_then.is_then in
        let cd = front language p (rest language is.is_then.1 (rest language is c)) in
        subst IsRead (sym (p.is_then.is_then.1 ∙ b.is_then.1))
        (split_read d.value b.value (h Whole scope b.front b.value b.is_first (front language b (rest language d.is_then (rest language d cd)))))

    trim_is : (kd : Kind) (make : Aff → Term → Term) → ((n : Aff) (e : Term) → Normal n → IsRead e → IsRead (make n e))
        → (ws : List Word) (x : Term) → IsTrim below levels scope kd make ws x → Cut language ws → IsRead x
    trim_is kd make makes ws x is c =
        let p = is.is_then.1.is_then in
        let n = p.is_first in
        let b = n.is_then.is_then in
        let cn = front language p (rest language is.is_then.1 (rest language is c)) in
        subst IsRead (sym (p.is_then.is_then.1 ∙ b.is_then.1))
        (makes n.value b.value (index_normal (extent_name scope) (extent_named scope) (levels - 1) index_sum n.front n.value n.is_first)
        (h Whole scope b.front b.value b.is_first (front language b (rest language n.is_then (rest language n cn)))))

    word_is : (ws : List Word) (x : Term) → IsWordForm below levels scope ws x → Cut language ws → IsRead x
    word_is ws x is c =
        let p = is.is_then.1.is_then in
        let b = p.is_first in
        let w = only_word language is.is_first (front language is c) in
        subst IsRead (sym (p.is_then.is_then.1 ∙ b.is_then.1))
        (word_read b.value (index_normal (index_name scope) (index_named scope) (levels - 1) index_sum b.front b.value b.is_first)
        (λ one. w.no_word one is.is_first.is))

    primary_is : (kd : Kind) (ws : List Word) (x : Term) → IsPrimaryBy below levels scope kd ws x → Cut language ws → IsRead x
    primary_is k.Number ws x is c = subst IsRead (sym is.is_then.1) (lit_read is.value (number_below is.is_first.word.text is.value is.is_first.reads_as))
    primary_is k.Name ws x is c = subst IsRead (sym is.is_then.1) (name_read is.value)
    primary_is k.LParen ws x is c =
        let p = is.1.is_then in
        subst IsRead (sym p.is_then.is_then.1) (h Whole scope p.front p.value p.is_first (front language p (rest language is.1 c)))
    primary_is k.Flatten ws x is c = one_is k.Flatten term.flatten flatten_read ws x is c
    primary_is k.Transpose ws x is c = one_is k.Transpose term.transpose transpose_read ws x is c
    primary_is k.Concat ws x is c = join_is ws x is c
    primary_is k.Split ws x is c = split_is ws x is c
    primary_is k.TruncL ws x is c = trim_is k.TruncL term.trunc_l trunc_l_read ws x is c
    primary_is k.TruncR ws x is c = trim_is k.TruncR term.trunc_r trunc_r_read ws x is c
    primary_is k.PadL ws x is c = trim_is k.PadL term.pad_l pad_l_read ws x is c
    primary_is k.PadR ws x is c = trim_is k.PadR term.pad_r pad_r_read ws x is c
    primary_is k.Word ws x is c = word_is ws x is c
    primary_is _ ws x is c = absurd is

    -- a chain, each join of which keeps what was read
    chain_is : {B O : Type 0} (links : Links Term B O) (operands : ℕ → Term → O → List Word → B → Type 0)
        → ((kd : Kind) (n : ℕ) (a : Term) (o : O) (us : List Word) (b : B) (x : Term) → links.operator kd ≡ Some o → IsRead a → operands n a o us b
        → Cut language us → links.join o a b ≡ Ok x → IsRead x)
        → (n : ℕ) (left : Term) (ws : List Word) (x : Term) → IsRead left → IsChain links operands n left ws x → Cut language ws → IsRead x
    chain_is links operands joins zero left ws x p is c = subst IsRead (sym is.1) p
    chain_is links operands joins (suc n) left ws x p (inl is) c = subst IsRead (sym is.1) p
    chain_is links operands joins (suc n) left ws x p (inr is) c =
        let more = after language ws (is.word ∷ []) (is.front ++ is.rest) is.words c in
        let next = joins is.word.kind n left is.sign is.front is.right is.value is.is p is.is_operand
        (before language (is.front ++ is.rest) is.front is.rest refl more) is.joins in
        chain_is links operands joins n is.value is.rest x next is.is_rest (after language (is.front ++ is.rest) is.front is.rest refl more)

    abbrev term_ok : Term → Result Term Fault
    term_ok e = Ok e

    same_term : (a b : Term) → term_ok a ≡ term_ok b → a ≡ b
    same_term a b e = cc

    factor_is : (ws : List Word) (x : Term) → IsFactor below levels scope ws x → Cut language ws → IsRead x
    unfolding brackets
    factor_is ws x is c =
        chain_is brackets (λ n a o. IsInBrackets below levels scope n)
        (λ kd n a o us b y at p r d e. subst IsRead (same_term (term.index a b) y e) (index_read a b p (subst Normal (sym r.is_then.is_then.1)
        (index_normal (index_name scope) (index_named scope) n index_sum r.front r.value r.is_first))))
        levels is.value is.rest x (primary_is is.is_first.0 is.front is.value is.is_first.1 (front language is c)) is.is_then (rest language is c)

    abbrev Sign : Type 0
    Sign = Term → Term → Term

    abbrev Keeps : Sign → Type 0
    Keeps f = (a b : Term) → IsRead a → IsRead b → IsRead (f a b)

    abbrev sign_ok : Sign → Option Sign
    sign_ok f = Some f

    abbrev or_else : Option Sign → Sign → Sign
    or_else (Some f) g = f
    or_else None g = g

    same_sign : (f g : Sign) → sign_ok f ≡ sign_ok g → f ≡ g
    same_sign f g e = ap (λ (o : Option Sign). or_else o f) e

    star_keeps : (kd : Kind) (o : Sign) → product_sign kd ≡ Some o → Keeps o
    star_keeps k.Star o e = subst Keeps (same_sign term.mul o e) mul_read
    star_keeps _ o e = absurd cc

    sign_keeps : (kd : Kind) (o : Sign) → sum_sign kd ≡ Some o → Keeps o
    sign_keeps k.Plus o e = subst Keeps (same_sign term.add o e) add_read
    sign_keeps k.Minus o e = subst Keeps (same_sign term.sub o e) sub_read
    sign_keeps _ o e = absurd cc

    product_is : (ws : List Word) (x : Term) → IsProduct below levels scope ws x → Cut language ws → IsRead x
    unfolding products
    product_is ws x is c =
        chain_is (products levels) (λ n a o. below Factor scope)
        (λ kd n a o us b y at p r d e. subst IsRead (same_term (o a b) y e) (star_keeps kd o at a b p (h Factor scope us b r d)))
        _ is.value is.rest x (factor_is is.front is.value is.is_first (front language is c)) is.is_then (rest language is c)

    sum_is : (ws : List Word) (x : Term) → IsSum below levels scope ws x → Cut language ws → IsRead x
    unfolding sums
    sum_is ws x is c =
        chain_is (sums levels) (λ n a o. below Product scope)
        (λ kd n a o us b y at p r d e. subst IsRead (same_term (o a b) y e) (sign_keeps kd o at a b p (h Product scope us b r d)))
        _ is.value is.rest x (product_is is.front is.value is.is_first (front language is c)) is.is_then (rest language is c)

    place_is : (place : Place) (ws : List Word) (x : Term) → IsByPlace below levels scope place ws x → Cut language ws → IsRead x
    place_is Whole ws x (inl is) c = binder_is is.0 ws x is.1 c
    place_is Whole ws x (inr is) c = sum_is ws x is c
    place_is Sum ws x is c = sum_is ws x is c
    place_is Product ws x is c = product_is ws x is c
    place_is Factor ws x is c = factor_is ws x is c

  inner_is : (levels : ℕ) (place : Place) (scope : Scope) (ws : List Word) (x : Term) → IsInner levels place scope ws x → Cut language ws → IsRead x
  inner_is zero place scope ws x is c = absurd is
  inner_is (suc levels) place scope ws x is c = place_is (IsInner levels) levels scope (inner_is levels) place ws x is c

  pub term_is : (levels : ℕ) (place : Place) (scope : Scope) (ws : List Word) (x : Term) → IsTerm levels place scope ws x → Cut language ws → IsRead x
  term_is levels place scope ws x is c = place_is (IsInner levels) levels scope (inner_is levels) place ws x is c
