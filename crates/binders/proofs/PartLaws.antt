-- What a node of two parts is, and its refusals, from those of the parts.
use Rattle.std.proofs.Common.{◌≡◌, ◌⊎◌, inl, inr, refl, ℕ, ◌+◌, Bool, true, false, ◌||◌, ◌&&◌, ap, sym, ◌∙◌, subst, Option, Some, None, Result, Ok, Err}
use Rattle.affine_index.specs.Normal.{is_short}
use Rattle.affine_index.specs.Normal.{coefficients_fit as form_fits}
use Rattle.affine_index.specs.declared.aff.Aff.{Aff}
use Rattle.affine_index.specs.declared.cond.Cond.{Cond}
use Rattle.term_tree.specs.declared.term.Term.{Term}
use Rattle.term_tree.specs.declared.term.Term.TheOpen.{Term-F}
use Rattle.term_tree.specs.declared.term.Term.TheFolds.{fold-Term, fold-roll-Term}
use Rattle.term_tree.specs.declared.term.Term.TheVariants.{WordOf, Index, Gen, Sum, Guard, Let, Add, Sub, Mul, Concat, Flatten, Split, Transpose, TruncL}
use Rattle.term_tree.specs.declared.term.Term.TheVariants.{TruncR, PadL, PadR}
use Rattle.term_tree.specs.declared.term.Term.TheVariants.{rolls-Index, rolls-Gen, rolls-Sum, rolls-Guard, rolls-Let, rolls-Add, rolls-Sub}
use Rattle.term_tree.specs.declared.term.Term.TheVariants.{rolls-Mul, rolls-Concat, rolls-Flatten, rolls-Split, rolls-Transpose, rolls-WordOf, rolls-TruncL}
use Rattle.term_tree.specs.declared.term.Term.TheVariants.{rolls-TruncR, rolls-PadL, rolls-PadR}
use Rattle.term_tree.specs.Limits.{coefficients_fit, each_cmp, form_step, forms_short}
use Rattle.binders.specs.Answers.{IsCond, IsForm, IsPart, IsPartOf, Refusals, form_causes, is_memory, part_causes, parts_of, place_step, tensor_refused}
use Rattle.binders.specs.Kinds.{made_of, node_of}
use Rattle.binders.specs.Maps.{Replacement, map_fold, map_step, put_at, put_cond_at}
use Rattle.binders.specs.Uses.{any_cmp}
use Rattle.binders.specs.declared.refusal.MapRefusal.{MapRefusal}
use Rattle.binders.specs.declared.refusal.MapRefusal.TheVariants.{Memory}
use Rattle.binders.proofs.CauseLaws.{first, second}

-- a fold at each node of two parts
module _ (A : Type 0) (step : Term-F A → A) where
  abbrev fold : Term → A
  fold = fold-Term A step

  at-Index : (e : Term) (x : Aff) → fold (Index e x) ≡ step (Term-F.Index (fold e) x)
  at-Index e x = ap fold (sym (rolls-Index e x)) ∙ fold-roll-Term A step (Term-F.Index e x)

  at-Gen : (n : Aff) (e : Term) → fold (Gen n e) ≡ step (Term-F.Gen n (fold e))
  at-Gen n e = ap fold (sym (rolls-Gen n e)) ∙ fold-roll-Term A step (Term-F.Gen n e)

  at-Sum : (n : Aff) (e : Term) → fold (Sum n e) ≡ step (Term-F.Sum n (fold e))
  at-Sum n e = ap fold (sym (rolls-Sum n e)) ∙ fold-roll-Term A step (Term-F.Sum n e)

  at-Guard : (c : Cond) (e : Term) → fold (Guard c e) ≡ step (Term-F.Guard c (fold e))
  at-Guard c e = ap fold (sym (rolls-Guard c e)) ∙ fold-roll-Term A step (Term-F.Guard c e)

  at-Flatten : (e : Term) → fold (Flatten e) ≡ step (Term-F.Flatten (fold e))
  at-Flatten e = ap fold (sym (rolls-Flatten e)) ∙ fold-roll-Term A step (Term-F.Flatten e)

  at-Split : (k : ℕ) (e : Term) → fold (Split k e) ≡ step (Term-F.Split k (fold e))
  at-Split k e = ap fold (sym (rolls-Split k e)) ∙ fold-roll-Term A step (Term-F.Split k e)

  at-Transpose : (e : Term) → fold (Transpose e) ≡ step (Term-F.Transpose (fold e))
  at-Transpose e = ap fold (sym (rolls-Transpose e)) ∙ fold-roll-Term A step (Term-F.Transpose e)

  at-WordOf : (x : Aff) → fold (WordOf x) ≡ step (Term-F.WordOf x)
  at-WordOf x = ap fold (sym (rolls-WordOf x)) ∙ fold-roll-Term A step (Term-F.WordOf x)

  at-Let : (a : Term) (b : Term) → fold (Let a b) ≡ step (Term-F.Let (fold a) (fold b))
  at-Let a b = ap fold (sym (rolls-Let a b)) ∙ fold-roll-Term A step (Term-F.Let a b)

  at-Add : (a : Term) (b : Term) → fold (Add a b) ≡ step (Term-F.Add (fold a) (fold b))
  at-Add a b = ap fold (sym (rolls-Add a b)) ∙ fold-roll-Term A step (Term-F.Add a b)

  at-Sub : (a : Term) (b : Term) → fold (Sub a b) ≡ step (Term-F.Sub (fold a) (fold b))
  at-Sub a b = ap fold (sym (rolls-Sub a b)) ∙ fold-roll-Term A step (Term-F.Sub a b)

  at-Mul : (a : Term) (b : Term) → fold (Mul a b) ≡ step (Term-F.Mul (fold a) (fold b))
  at-Mul a b = ap fold (sym (rolls-Mul a b)) ∙ fold-roll-Term A step (Term-F.Mul a b)

  at-Concat : (a : Term) (b : Term) → fold (Concat a b) ≡ step (Term-F.Concat (fold a) (fold b))
  at-Concat a b = ap fold (sym (rolls-Concat a b)) ∙ fold-roll-Term A step (Term-F.Concat a b)

  at-TruncL : (n : Aff) (e : Term) → fold (TruncL n e) ≡ step (Term-F.TruncL n (fold e))
  at-TruncL n e = ap fold (sym (rolls-TruncL n e)) ∙ fold-roll-Term A step (Term-F.TruncL n e)

  at-TruncR : (n : Aff) (e : Term) → fold (TruncR n e) ≡ step (Term-F.TruncR n (fold e))
  at-TruncR n e = ap fold (sym (rolls-TruncR n e)) ∙ fold-roll-Term A step (Term-F.TruncR n e)

  at-PadL : (n : Aff) (e : Term) → fold (PadL n e) ≡ step (Term-F.PadL n (fold e))
  at-PadL n e = ap fold (sym (rolls-PadL n e)) ∙ fold-roll-Term A step (Term-F.PadL n e)

  at-PadR : (n : Aff) (e : Term) → fold (PadR n e) ≡ step (Term-F.PadR n (fold e))
  at-PadR n e = ap fold (sym (rolls-PadR n e)) ∙ fold-roll-Term A step (Term-F.PadR n e)

module _ (m : Replacement) (r : Refusals) where
  -- a step of the map, and of the search for a cause
  abbrev maps : Term-F (ℕ → ℕ → Term) → ℕ → ℕ → Term
  maps = map_step m

  abbrev finds : MapRefusal → Term-F (ℕ → ℕ → Bool) → ℕ → ℕ → Bool
  finds d = place_step (form_causes m r d) (tensor_refused r d)

  abbrev raw : Term → ℕ → ℕ → Term
  raw = map_fold m

  abbrev causes : Term → ℕ → ℕ → MapRefusal → Bool
  causes = part_causes m r

  abbrev Part : Term → ℕ → ℕ → Result (Option Term) MapRefusal → Type 0
  Part e i j = IsPartOf (raw e i j) (causes e i j)

  abbrev Form : Aff → ℕ → ℕ → Result (Option Aff) MapRefusal → Type 0
  Form x i j = IsForm (put_at m i j x) (λ d. form_causes m r d i j x)

  abbrev Condition : Cond → ℕ → ℕ → Result (Option Cond) MapRefusal → Type 0
  Condition c i j = IsCond (put_cond_at m i j c) (λ d. any_cmp (form_causes m r d i j) c.all)

  abbrev Copy : Aff → Result (Option Aff) MapRefusal → Type 0
  Copy n = IsForm n (λ d. false)

  module _ (z : Term) (i j : ℕ) where
    -- a node is what its parts give
    pub made : {A B : Type 0} (make : A → B → Term) (k : Result (Option A) MapRefusal) (l : Result (Option B) MapRefusal)
        (a : Result (Option (A × B)) MapRefusal) (b : Result (Option Term) MapRefusal)
        → a ≡ parts_of k l → b ≡ node_of make a → Part z i j (node_of make (parts_of k l)) → Part z i j b
    made make k l a b is s h = subst (Part z i j) (sym (s ∙ ap (node_of make) is)) h

    module _ {A B : Type 0} (make : A → B → Term) (x : A) (y : B) (f f' s s' : Bool) (k k' : MapRefusal → Bool) (is : raw z i j ≡ make x y)
        (fits : coefficients_fit (make x y) ≡ (f && f')) (short : forms_short (make x y) ≡ (s && s'))
        (found : (d : MapRefusal) → causes z i j d ≡ (k d || k' d)) where
      fits_are : f ≡ true → f' ≡ true → coefficients_fit (raw z i j) ≡ true
      fits_are g h = ap coefficients_fit is ∙ fits ∙ (λ t. g t && h t)

      short_are : (b b' : Bool) → s ≡ b → s' ≡ b' → forms_short (raw z i j) ≡ (b && b')
      short_are b b' g h = ap forms_short is ∙ short ∙ (λ t. g t && h t)

      paired : (a : Result (Option A) MapRefusal) (b : Result (Option B) MapRefusal) → IsPart x f s k a → IsPart y f' s' k' b
          → Part z i j (node_of make (parts_of a b))
      paired (Ok (Some u)) (Ok (Some v)) g h = ((λ t. make (g.0 t) (h.0 t)) ∙ sym is, fits_are g.1 h.1, short_are true true g.2 h.2)
      paired (Ok (Some u)) (Ok None) g h = (fits_are g.1 h.0, short_are true false g.2 h.1)
      paired (Ok None) (Ok (Some v)) g h = (fits_are g.0 h.1, short_are false true g.1 h.2)
      paired (Ok None) (Ok None) g h = (fits_are g.0 h.0, short_are false false g.1 h.1)
      paired (Ok (Some u)) (Err e) g h = ap (λ b. is_memory e || b) (found e) ∙ second (is_memory e) (k e) (k' e) h
      paired (Ok None) (Err e) g h = ap (λ b. is_memory e || b) (found e) ∙ second (is_memory e) (k e) (k' e) h
      paired (Err e) b g h = ap (λ b. is_memory e || b) (found e) ∙ first (is_memory e) (k e) (k' e) g

    -- a node is what its one part gives
    pub made_lone : {A : Type 0} (make : A → Term) (k : Result (Option A) MapRefusal) (b : Result (Option Term) MapRefusal)
        → b ≡ made_of make k → Part z i j (made_of make k) → Part z i j b
    made_lone make k b s h = subst (Part z i j) (sym s) h

    module _ {A : Type 0} (make : A → Term) (x : A) (f s : Bool) (k : MapRefusal → Bool) (is : raw z i j ≡ make x)
        (fits : coefficients_fit (make x) ≡ f) (short : forms_short (make x) ≡ s) (found : (d : MapRefusal) → causes z i j d ≡ k d) where
      lone : (a : Result (Option A) MapRefusal) → IsPart x f s k a → Part z i j (made_of make a)
      lone (Ok (Some u)) g = (ap make g.0 ∙ sym is, ap coefficients_fit is ∙ fits ∙ g.1, ap forms_short is ∙ short ∙ g.2)
      lone (Ok None) g = (ap coefficients_fit is ∙ fits ∙ g.0, ap forms_short is ∙ short ∙ g.1)
      lone (Err e) g = ap (λ b. is_memory e || b) (found e) ∙ g

    pub of-Flatten : (e : Term) (k : Result (Option Term) MapRefusal) → z ≡ Flatten e → Part e i j k → Part z i j (made_of Flatten k)
    of-Flatten e k s g = lone Flatten (raw e i j) (coefficients_fit (raw e i j)) (forms_short (raw e i j)) (causes e i j)
        (ap (λ x. raw x i j) s ∙ ap (λ f. f i j) (at-Flatten (ℕ → ℕ → Term) maps e))
        (at-Flatten Bool (form_step form_fits) (raw e i j)) (at-Flatten Bool (form_step is_short) (raw e i j))
        (λ d. ap (λ x. causes x i j d) s ∙ ap (λ f. f i j) (at-Flatten (ℕ → ℕ → Bool) (finds d) e))
        k g

    pub of-Split : (c : ℕ) (e : Term) (k : Result (Option Term) MapRefusal) → z ≡ Split c e → Part e i j k → Part z i j (made_of (Split c) k)
    of-Split c e k s g = lone (Split c) (raw e i j) (coefficients_fit (raw e i j)) (forms_short (raw e i j)) (causes e i j)
        (ap (λ x. raw x i j) s ∙ ap (λ f. f i j) (at-Split (ℕ → ℕ → Term) maps c e))
        (at-Split Bool (form_step form_fits) c (raw e i j)) (at-Split Bool (form_step is_short) c (raw e i j))
        (λ d. ap (λ x. causes x i j d) s ∙ ap (λ f. f i j) (at-Split (ℕ → ℕ → Bool) (finds d) c e))
        k g

    pub of-Transpose : (e : Term) (k : Result (Option Term) MapRefusal) → z ≡ Transpose e → Part e i j k → Part z i j (made_of Transpose k)
    of-Transpose e k s g = lone Transpose (raw e i j) (coefficients_fit (raw e i j)) (forms_short (raw e i j)) (causes e i j)
        (ap (λ x. raw x i j) s ∙ ap (λ f. f i j) (at-Transpose (ℕ → ℕ → Term) maps e))
        (at-Transpose Bool (form_step form_fits) (raw e i j)) (at-Transpose Bool (form_step is_short) (raw e i j))
        (λ d. ap (λ x. causes x i j d) s ∙ ap (λ f. f i j) (at-Transpose (ℕ → ℕ → Bool) (finds d) e))
        k g

    pub of-WordOf : (x : Aff) (k : Result (Option Aff) MapRefusal) → z ≡ WordOf x → Form x i j k → Part z i j (made_of WordOf k)
    of-WordOf x k s g = lone WordOf (put_at m i j x) (form_fits (put_at m i j x)) (is_short (put_at m i j x)) (λ d. form_causes m r d i j x)
        (ap (λ x. raw x i j) s ∙ ap (λ f. f i j) (at-WordOf (ℕ → ℕ → Term) maps x))
        (at-WordOf Bool (form_step form_fits) (put_at m i j x)) (at-WordOf Bool (form_step is_short) (put_at m i j x))
        (λ d. ap (λ x. causes x i j d) s ∙ ap (λ f. f i j) (at-WordOf (ℕ → ℕ → Bool) (finds d) x))
        k g

    -- a part in a box, unless there is no memory for one
    pub in_box : (y : Term) (a b : Result (Option Term) MapRefusal) → z ≡ y → Part y i j a → (b ≡ a) ⊎ (b ≡ Err Memory) → Part z i j b
    in_box y a b s h (inl e) = subst (λ x. Part x i j b) (sym s) (subst (Part y i j) (sym e) h)
    in_box y a b s h (inr e) = subst (Part z i j) (sym e) refl

    pub of-Index : (e : Term) (x : Aff) (k : Result (Option Term) MapRefusal) (l : Result (Option Aff) MapRefusal) → z ≡ Index e x
        → Part e i j k → Form x i j l → Part z i j (node_of Index (parts_of k l))
    of-Index e x k l s g h = paired Index (raw e i j) (put_at m i j x)
        (coefficients_fit (raw e i j)) (form_fits (put_at m i j x)) (forms_short (raw e i j)) (is_short (put_at m i j x))
        (causes e i j) (λ d. form_causes m r d i j x)
        (ap (λ x. raw x i j) s ∙ ap (λ f. f i j) (at-Index (ℕ → ℕ → Term) maps e x))
        (at-Index Bool (form_step form_fits) (raw e i j) (put_at m i j x)) (at-Index Bool (form_step is_short) (raw e i j) (put_at m i j x))
        (λ d. ap (λ x. causes x i j d) s ∙ ap (λ f. f i j) (at-Index (ℕ → ℕ → Bool) (finds d) e x))
        k l g h

    pub of-Gen : (n : Aff) (e : Term) (i' j' : ℕ) (k : Result (Option Aff) MapRefusal) (l : Result (Option Term) MapRefusal) → z ≡ Gen n e → i' ≡ i + 1 → j' ≡ j
        → Copy n k → Part e i' j' l → Part z i j (node_of Gen (parts_of k l))
    of-Gen n e i' j' k l s p q g h = paired Gen n (raw e i' j')
        (form_fits n) (coefficients_fit (raw e i' j')) (is_short n) (forms_short (raw e i' j'))
        (λ d. false) (causes e i' j')
        (ap (λ x. raw x i j) s ∙ ap (λ f. f i j) (at-Gen (ℕ → ℕ → Term) maps n e) ∙ (λ t. Gen n (raw e (sym p t) (sym q t))))
        (at-Gen Bool (form_step form_fits) n (raw e i' j')) (at-Gen Bool (form_step is_short) n (raw e i' j'))
        (λ d. ap (λ x. causes x i j d) s ∙ ap (λ f. f i j) (at-Gen (ℕ → ℕ → Bool) (finds d) n e) ∙ (λ t. causes e (sym p t) (sym q t) d))
        k l g h

    pub of-Sum : (n : Aff) (e : Term) (i' j' : ℕ) (k : Result (Option Aff) MapRefusal) (l : Result (Option Term) MapRefusal) → z ≡ Sum n e → i' ≡ i + 1 → j' ≡ j
        → Copy n k → Part e i' j' l → Part z i j (node_of Sum (parts_of k l))
    of-Sum n e i' j' k l s p q g h = paired Sum n (raw e i' j')
        (form_fits n) (coefficients_fit (raw e i' j')) (is_short n) (forms_short (raw e i' j'))
        (λ d. false) (causes e i' j')
        (ap (λ x. raw x i j) s ∙ ap (λ f. f i j) (at-Sum (ℕ → ℕ → Term) maps n e) ∙ (λ t. Sum n (raw e (sym p t) (sym q t))))
        (at-Sum Bool (form_step form_fits) n (raw e i' j')) (at-Sum Bool (form_step is_short) n (raw e i' j'))
        (λ d. ap (λ x. causes x i j d) s ∙ ap (λ f. f i j) (at-Sum (ℕ → ℕ → Bool) (finds d) n e) ∙ (λ t. causes e (sym p t) (sym q t) d))
        k l g h

    pub of-Guard : (c : Cond) (e : Term) (k : Result (Option Cond) MapRefusal) (l : Result (Option Term) MapRefusal) → z ≡ Guard c e
        → Condition c i j k → Part e i j l → Part z i j (node_of Guard (parts_of k l))
    of-Guard c e k l s g h = paired Guard (put_cond_at m i j c) (raw e i j)
        (each_cmp form_fits (put_cond_at m i j c).all) (coefficients_fit (raw e i j)) (each_cmp is_short (put_cond_at m i j c).all) (forms_short (raw e i j))
        (λ d. any_cmp (form_causes m r d i j) c.all) (causes e i j)
        (ap (λ x. raw x i j) s ∙ ap (λ f. f i j) (at-Guard (ℕ → ℕ → Term) maps c e))
        (at-Guard Bool (form_step form_fits) (put_cond_at m i j c) (raw e i j)) (at-Guard Bool (form_step is_short) (put_cond_at m i j c) (raw e i j))
        (λ d. ap (λ x. causes x i j d) s ∙ ap (λ f. f i j) (at-Guard (ℕ → ℕ → Bool) (finds d) c e))
        k l g h

    pub of-Let : (a : Term) (b : Term) (i' j' : ℕ) (k : Result (Option Term) MapRefusal) (l : Result (Option Term) MapRefusal) → z ≡ Let a b
        → i' ≡ i → j' ≡ j + 1
        → Part a i j k → Part b i' j' l → Part z i j (node_of Let (parts_of k l))
    of-Let a b i' j' k l s p q g h = paired Let (raw a i j) (raw b i' j')
        (coefficients_fit (raw a i j)) (coefficients_fit (raw b i' j')) (forms_short (raw a i j)) (forms_short (raw b i' j'))
        (causes a i j) (causes b i' j')
        (ap (λ x. raw x i j) s ∙ ap (λ f. f i j) (at-Let (ℕ → ℕ → Term) maps a b) ∙ (λ t. Let (raw a i j) (raw b (sym p t) (sym q t))))
        (at-Let Bool (form_step form_fits) (raw a i j) (raw b i' j')) (at-Let Bool (form_step is_short) (raw a i j) (raw b i' j'))
        (λ d. ap (λ x. causes x i j d) s ∙ ap (λ f. f i j) (at-Let (ℕ → ℕ → Bool) (finds d) a b) ∙ (λ t. causes a i j d || causes b (sym p t) (sym q t) d))
        k l g h

    pub of-Add : (a : Term) (b : Term) (k : Result (Option Term) MapRefusal) (l : Result (Option Term) MapRefusal) → z ≡ Add a b
        → Part a i j k → Part b i j l → Part z i j (node_of Add (parts_of k l))
    of-Add a b k l s g h = paired Add (raw a i j) (raw b i j)
        (coefficients_fit (raw a i j)) (coefficients_fit (raw b i j)) (forms_short (raw a i j)) (forms_short (raw b i j))
        (causes a i j) (causes b i j)
        (ap (λ x. raw x i j) s ∙ ap (λ f. f i j) (at-Add (ℕ → ℕ → Term) maps a b))
        (at-Add Bool (form_step form_fits) (raw a i j) (raw b i j)) (at-Add Bool (form_step is_short) (raw a i j) (raw b i j))
        (λ d. ap (λ x. causes x i j d) s ∙ ap (λ f. f i j) (at-Add (ℕ → ℕ → Bool) (finds d) a b))
        k l g h

    pub of-Sub : (a : Term) (b : Term) (k : Result (Option Term) MapRefusal) (l : Result (Option Term) MapRefusal) → z ≡ Sub a b
        → Part a i j k → Part b i j l → Part z i j (node_of Sub (parts_of k l))
    of-Sub a b k l s g h = paired Sub (raw a i j) (raw b i j)
        (coefficients_fit (raw a i j)) (coefficients_fit (raw b i j)) (forms_short (raw a i j)) (forms_short (raw b i j))
        (causes a i j) (causes b i j)
        (ap (λ x. raw x i j) s ∙ ap (λ f. f i j) (at-Sub (ℕ → ℕ → Term) maps a b))
        (at-Sub Bool (form_step form_fits) (raw a i j) (raw b i j)) (at-Sub Bool (form_step is_short) (raw a i j) (raw b i j))
        (λ d. ap (λ x. causes x i j d) s ∙ ap (λ f. f i j) (at-Sub (ℕ → ℕ → Bool) (finds d) a b))
        k l g h

    pub of-Mul : (a : Term) (b : Term) (k : Result (Option Term) MapRefusal) (l : Result (Option Term) MapRefusal) → z ≡ Mul a b
        → Part a i j k → Part b i j l → Part z i j (node_of Mul (parts_of k l))
    of-Mul a b k l s g h = paired Mul (raw a i j) (raw b i j)
        (coefficients_fit (raw a i j)) (coefficients_fit (raw b i j)) (forms_short (raw a i j)) (forms_short (raw b i j))
        (causes a i j) (causes b i j)
        (ap (λ x. raw x i j) s ∙ ap (λ f. f i j) (at-Mul (ℕ → ℕ → Term) maps a b))
        (at-Mul Bool (form_step form_fits) (raw a i j) (raw b i j)) (at-Mul Bool (form_step is_short) (raw a i j) (raw b i j))
        (λ d. ap (λ x. causes x i j d) s ∙ ap (λ f. f i j) (at-Mul (ℕ → ℕ → Bool) (finds d) a b))
        k l g h

    pub of-Concat : (a : Term) (b : Term) (k : Result (Option Term) MapRefusal) (l : Result (Option Term) MapRefusal) → z ≡ Concat a b
        → Part a i j k → Part b i j l → Part z i j (node_of Concat (parts_of k l))
    of-Concat a b k l s g h = paired Concat (raw a i j) (raw b i j)
        (coefficients_fit (raw a i j)) (coefficients_fit (raw b i j)) (forms_short (raw a i j)) (forms_short (raw b i j))
        (causes a i j) (causes b i j)
        (ap (λ x. raw x i j) s ∙ ap (λ f. f i j) (at-Concat (ℕ → ℕ → Term) maps a b))
        (at-Concat Bool (form_step form_fits) (raw a i j) (raw b i j)) (at-Concat Bool (form_step is_short) (raw a i j) (raw b i j))
        (λ d. ap (λ x. causes x i j d) s ∙ ap (λ f. f i j) (at-Concat (ℕ → ℕ → Bool) (finds d) a b))
        k l g h

    pub of-TruncL : (n : Aff) (e : Term) (k : Result (Option Aff) MapRefusal) (l : Result (Option Term) MapRefusal) → z ≡ TruncL n e
        → Copy n k → Part e i j l → Part z i j (node_of TruncL (parts_of k l))
    of-TruncL n e k l s g h = paired TruncL n (raw e i j)
        (form_fits n) (coefficients_fit (raw e i j)) (is_short n) (forms_short (raw e i j))
        (λ d. false) (causes e i j)
        (ap (λ x. raw x i j) s ∙ ap (λ f. f i j) (at-TruncL (ℕ → ℕ → Term) maps n e))
        (at-TruncL Bool (form_step form_fits) n (raw e i j)) (at-TruncL Bool (form_step is_short) n (raw e i j))
        (λ d. ap (λ x. causes x i j d) s ∙ ap (λ f. f i j) (at-TruncL (ℕ → ℕ → Bool) (finds d) n e))
        k l g h

    pub of-TruncR : (n : Aff) (e : Term) (k : Result (Option Aff) MapRefusal) (l : Result (Option Term) MapRefusal) → z ≡ TruncR n e
        → Copy n k → Part e i j l → Part z i j (node_of TruncR (parts_of k l))
    of-TruncR n e k l s g h = paired TruncR n (raw e i j)
        (form_fits n) (coefficients_fit (raw e i j)) (is_short n) (forms_short (raw e i j))
        (λ d. false) (causes e i j)
        (ap (λ x. raw x i j) s ∙ ap (λ f. f i j) (at-TruncR (ℕ → ℕ → Term) maps n e))
        (at-TruncR Bool (form_step form_fits) n (raw e i j)) (at-TruncR Bool (form_step is_short) n (raw e i j))
        (λ d. ap (λ x. causes x i j d) s ∙ ap (λ f. f i j) (at-TruncR (ℕ → ℕ → Bool) (finds d) n e))
        k l g h

    pub of-PadL : (n : Aff) (e : Term) (k : Result (Option Aff) MapRefusal) (l : Result (Option Term) MapRefusal) → z ≡ PadL n e
        → Copy n k → Part e i j l → Part z i j (node_of PadL (parts_of k l))
    of-PadL n e k l s g h = paired PadL n (raw e i j)
        (form_fits n) (coefficients_fit (raw e i j)) (is_short n) (forms_short (raw e i j))
        (λ d. false) (causes e i j)
        (ap (λ x. raw x i j) s ∙ ap (λ f. f i j) (at-PadL (ℕ → ℕ → Term) maps n e))
        (at-PadL Bool (form_step form_fits) n (raw e i j)) (at-PadL Bool (form_step is_short) n (raw e i j))
        (λ d. ap (λ x. causes x i j d) s ∙ ap (λ f. f i j) (at-PadL (ℕ → ℕ → Bool) (finds d) n e))
        k l g h

    pub of-PadR : (n : Aff) (e : Term) (k : Result (Option Aff) MapRefusal) (l : Result (Option Term) MapRefusal) → z ≡ PadR n e
        → Copy n k → Part e i j l → Part z i j (node_of PadR (parts_of k l))
    of-PadR n e k l s g h = paired PadR n (raw e i j)
        (form_fits n) (coefficients_fit (raw e i j)) (is_short n) (forms_short (raw e i j))
        (λ d. false) (causes e i j)
        (ap (λ x. raw x i j) s ∙ ap (λ f. f i j) (at-PadR (ℕ → ℕ → Term) maps n e))
        (at-PadR Bool (form_step form_fits) n (raw e i j)) (at-PadR Bool (form_step is_short) n (raw e i j))
        (λ d. ap (λ x. causes x i j d) s ∙ ap (λ f. f i j) (at-PadR (ℕ → ℕ → Bool) (finds d) n e))
        k l g h
