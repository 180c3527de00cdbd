-- The three plain replacements send values.
use Rattle.std.proofs.Common.{◌≡◌, ℕ, suc, ◌+◌, ◌-◌, ◌<◌, ◌≤◌, List, [], ◌∷◌, ◌++◌, length, get_or, refl, ap, sym, ◌∙◌, subst, arith, Bool, true, false, cond}
use Rattle.std.proofs.Common.{nat_lt, if◌then◌else◌}
use Rattle.std.specs.Prelude.{slice_index, pos}
use Rattle.std.proofs.lemmas.Bool.{ltb-true, ltb-false}
use Rattle.std.proofs.lemmas.List.{get_or-append-add, get_or_append_left}
use Rattle.affine_index.specs.Form.{var_form}
use Rattle.affine_index.specs.Normal.{is_ordered}
use Rattle.affine_index.specs.Put.{given, moved, shifted}
use Rattle.affine_index.specs.Value.{items_value}
use Rattle.affine_index.proofs.PutValue.{value-put_all}
use Rattle.affine_index.proofs.Values.{value-of_atom, value-Var}
use Rattle.affine_index.specs.declared.form.Atom.TheVariants.{Var}
use Rattle.affine_index.specs.declared.form.Items.{Items}
use Rattle.term_tree.specs.declared.term.Term.{Term, TVar}
use Rattle.term_tree.specs.Meaning.{dims, den, Bound, no_bound, extents_of}
use Rattle.binders.specs.Maps.{Sends, mapped}
use Rattle.binders.specs.PlainMaps.{HaveValues, SendsPutIndex, SendsPutTensor, SendsShift, put_index_map, put_tensor_map, shift_map}
use Rattle.binders.proofs.Substitution.{AllOrdered, mapped_keeps}
use Rattle.binders.proofs.UsesLaws.{get_or-extents_of}

module _ {A : Type 0} (d : A) where
  -- past the first list
  pub get_or_skip : (xs ys : List A) (i n : ℕ) → i ≡ length xs + n → get_or (xs ++ ys) i d ≡ get_or ys n d
  get_or_skip xs ys i n e = ap (λ (k : ℕ). get_or (xs ++ ys) k d) e ∙ get_or-append-add xs ys n d

  -- within the first list
  pub get_or_front : (xs ys zs : List A) (i : ℕ) → i < length xs → get_or (xs ++ ys) i d ≡ get_or (xs ++ zs) i d
  get_or_front xs ys zs i h = get_or_append_left xs ys d i h ∙ sym (get_or_append_left xs zs d i h)

  -- a list put in behind the first one
  pub get_or_moved : (is new r : List A) (v : ℕ) (b : Bool) → nat_lt v (length is) ≡ b
      → get_or (is ++ (new ++ r)) (cond b v (v + length new)) d ≡ get_or (is ++ r) v d
  get_or_moved is new r v true e = get_or_front is (new ++ r) r v (ltb-true _ _ e)
  get_or_moved is new r v false e =
      let h = ltb-false _ _ e in
      get_or_skip is (new ++ r) (v + length new) (length new + (v - length is)) (omega arith)
      ∙ get_or_skip new r (length new + (v - length is)) (v - length is) refl
      ∙ sym (get_or_skip is r v (v - length is) (omega arith))

pub value-var_form : (s r : List ℕ) (v : ℕ) → items_value s r (var_form v) ≡ pos (slice_index r v)
value-var_form s r v = value-of_atom s r (Var v) ∙ value-Var s r v

value-moved : (s is new r : List ℕ) (v : ℕ) → items_value s (is ++ (new ++ r)) (moved (length is) (length new) v) ≡ pos (slice_index (is ++ r) v)
value-moved s is new r v =
    value-var_form s (is ++ (new ++ r)) (cond (nat_lt v (length is)) v (v + length new)) ∙ ap pos (get_or_moved 0 is new r v (nat_lt v (length is)) refl)

-- a form under more binders
pub value-lifted : (s is r : List ℕ) (x : Items) → is_ordered x ≡ true → items_value s (is ++ r) (shifted 0 (length is) x) ≡ items_value s r x
value-lifted s is r x ok = value-put_all s r (is ++ r) (moved 0 (length is)) (λ k. value-moved s [] is r k) x ok

pub shift_sends : (s new r : List ℕ) (lets t : List Bound) → Sends (shift_map (length new) (length lets)) s r t (new ++ r) (lets ++ t)
shift_sends s new r lets t = record {
  index_value = λ is ts v. value-moved s is new r v;
  tensor_value = λ is ts q. ap (λ (b : Bound). b.1) (get_or_moved no_bound ts lets t q (nat_lt q (length ts)) refl);
  tensor_extents = λ is ts q.
      get_or-extents_of (ts ++ (lets ++ t)) (cond (nat_lt q (length ts)) q (q + length lets))
      ∙ ap (λ (b : Bound). b.0) (get_or_moved no_bound ts lets t q (nat_lt q (length ts)) refl);
}

pub sends_shift : (a b : ℕ) → SendsShift a b
sends_shift a b s new r lets t e f =
    subst (λ (k : ℕ). Sends (shift_map a k) s r t (new ++ r) (lets ++ t)) f
    (subst (λ (k : ℕ). Sends (shift_map k (length lets)) s r t (new ++ r) (lets ++ t)) e (shift_sends s new r lets t))

module _ (by : List Items) (ok : (k : ℕ) → k < length by → is_ordered (given by k) ≡ true)
    (s new r values : List ℕ) (many : length values ≡ length by) (have : HaveValues s (new ++ r) by values) (is : List ℕ) (v : ℕ) where
  abbrev Given : Items → Type 0
  Given x = items_value s (is ++ (new ++ r)) x ≡ pos (slice_index (is ++ (values ++ r)) v)

  past : length is ≤ v → (b : Bool) → nat_lt (v - length is) (length by) ≡ b →
      Given (if b then shifted 0 (length is) (given by (v - length is)) else var_form (v - length by + length new))
  past l true e =
      let h : v - length is < length by = ltb-true _ _ e in
      value-lifted s is (new ++ r) (given by (v - length is)) (ok (v - length is) h)
      ∙ have (v - length is) h
      ∙ ap pos (sym (get_or_skip 0 is (values ++ r) v (v - length is) (omega (arith, l))
      ∙ get_or_append_left values r 0 (v - length is) (omega (arith, h, many))))
  past l false e =
      let h : length by ≤ v - length is = ltb-false _ _ e in
      let n : ℕ = v - length is - length by in
      value-var_form s (is ++ (new ++ r)) (v - length by + length new)
      ∙ ap pos (get_or_skip 0 is (new ++ r) (v - length by + length new) (length new + n) (omega (arith, l, h))
      ∙ get_or_skip 0 new r (length new + n) n refl
      ∙ sym (get_or_skip 0 is (values ++ r) v (v - length is) (omega (arith, l)) ∙ get_or_skip 0 values r (v - length is) n (omega (arith, l, h, many))))

  put_value : (b : Bool) → nat_lt v (length is) ≡ b →
      Given (if b then var_form v else
      (if nat_lt (v - length is) (length by) then shifted 0 (length is) (given by (v - length is)) else var_form (v - length by + length new)))
  put_value true e = value-var_form s (is ++ (new ++ r)) v ∙ ap pos (get_or_front 0 is (new ++ r) (values ++ r) v (ltb-true _ _ e))
  put_value false e = past (ltb-false _ _ e) (nat_lt (v - length is) (length by)) refl

pub sends_put_index : (by : List Items) (under : ℕ) → ((k : ℕ) → k < length by → is_ordered (given by k) ≡ true) → SendsPutIndex by under
sends_put_index by under ok s new r values t e many have =
    subst (λ (k : ℕ). Sends (put_index_map by k) s (values ++ r) t (new ++ r) t) e (record {
      index_value = λ is ts v. put_value by ok s new r values many have is v (nat_lt v (length is)) refl;
      tensor_value = λ is ts q. refl;
      tensor_extents = λ is ts q. get_or-extents_of (ts ++ t) q;
    })

module _ (by : Term) (ok : AllOrdered by) (s r : List ℕ) (lets t : List Bound) (is : List ℕ) (ts : List Bound) (q : ℕ) where
  abbrev new : Bound
  new = (dims by s (extents_of (lets ++ t)), den by s r (lets ++ t))

  -- the extents and the value that stand for the variable
  pub record Stands (e : Term) : Type 0 where
    pub extents : dims e s (extents_of (ts ++ (lets ++ t))) ≡ (get_or (ts ++ (new ∷ t)) q no_bound).0
    pub value : den e s (is ++ r) (ts ++ (lets ++ t)) ≡ (get_or (ts ++ (new ∷ t)) q no_bound).1

  as_var : (p : ℕ) → get_or (ts ++ (lets ++ t)) p no_bound ≡ get_or (ts ++ (new ∷ t)) q no_bound → Stands (TVar p)
  as_var p e = record {
    extents = get_or-extents_of (ts ++ (lets ++ t)) p ∙ ap (λ (b : Bound). b.0) e;
    value = ap (λ (b : Bound). b.1) e;
  }

  at_or_above : length ts ≤ q → (b : Bool) → nat_lt (length ts) q ≡ b →
      Stands (if b then TVar (q - 1 + length lets) else mapped (shift_map (length is) (length ts)) 0 0 by)
  at_or_above l true e =
      let h : length ts < q = ltb-true _ _ e in
      let n : ℕ = q - 1 - length ts in
      as_var (q - 1 + length lets)
      (get_or_skip no_bound ts (lets ++ t) (q - 1 + length lets) (length lets + n) (omega (arith, h))
      ∙ get_or_skip no_bound lets t (length lets + n) n refl
      ∙ sym (get_or_skip no_bound ts (new ∷ t) q (suc n) (omega (arith, h))))
  at_or_above l false e =
      let h : q ≤ length ts = ltb-false _ _ e in
      let at : get_or (ts ++ (new ∷ t)) q no_bound ≡ new = get_or_skip no_bound ts (new ∷ t) q 0 (omega (arith, h, l)) in
      let keeps = mapped_keeps (shift_map (length is) (length ts)) by ok s r (lets ++ t) (is ++ r) (ts ++ (lets ++ t)) (shift_sends s is r ts (lets ++ t)) in
      record {
        extents = keeps.0 ∙ sym (ap (λ (b : Bound). b.0) at);
        value = keeps.1 ∙ sym (ap (λ (b : Bound). b.1) at);
      }

  stands : (b : Bool) → nat_lt q (length ts) ≡ b →
      Stands (if b then TVar q else (if nat_lt (length ts) q then TVar (q - 1 + length lets) else mapped (shift_map (length is) (length ts)) 0 0 by))
  stands true e = as_var q (get_or_front no_bound ts (lets ++ t) (new ∷ t) q (ltb-true _ _ e))
  stands false e = at_or_above (ltb-false _ _ e) (nat_lt (length ts) q) refl

pub sends_put_tensor : (by : Term) (under : ℕ) → AllOrdered by → SendsPutTensor by under
sends_put_tensor by under ok s r lets t e =
    subst (λ (k : ℕ). Sends (put_tensor_map by k) s r ((dims by s (extents_of (lets ++ t)), den by s r (lets ++ t)) ∷ t) r (lets ++ t)) e (record {
      index_value = λ is ts v. value-var_form s (is ++ r) v;
      tensor_value = λ is ts q. (stands by ok s r lets t is ts q (nat_lt q (length ts)) refl).value;
      tensor_extents = λ is ts q. (stands by ok s r lets t is ts q (nat_lt q (length ts)) refl).extents;
    })
