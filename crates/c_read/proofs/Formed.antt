-- What a text stands for is a well formed program.
use Rattle.std.proofs.Common.{◌≡◌, inl, inr, ℕ, zero, suc, ◌+◌, ◌<◌, ◌^◌, ◌&&◌, not, Bool, true, false, nat_lt}
use Rattle.std.proofs.Common.{List, [], ◌∷◌, ◌++◌, length, map, Result, Ok, Err, refl, sym, ap, subst, ◌∙◌, arith, length-append}
use Rattle.std.specs.Prelude.{pos, negsuc}
use Rattle.std.specs.List.{range_with_len}
use Rattle.std.proofs.lemmas.Bool.{and_from, and_parts}
use Rattle.std.proofs.lemmas.List.FromFn.{length-map-range_with_len}
use Rattle.affine_index.specs.declared.cond.Rel.{Rel}
use Rattle.text_tokens.specs.Kinds.{Text}
use Rattle.text_tokens.specs.Words.{Word}
use Rattle.loop_lang.specs.declared.index.Iexp.{Iexp, Lit, Size, Loop}
use Rattle.loop_lang.specs.declared.index.Test.{Test}
use Rattle.loop_lang.specs.declared.word.Buf.{Buf}
use Rattle.loop_lang.specs.declared.word.Buf.TheVariants as buf
use Rattle.loop_lang.specs.declared.word.Wexp.{Wexp}
use Rattle.loop_lang.specs.declared.word.Wexp as word
use Rattle.loop_lang.specs.declared.stmt.Stmt.{Stmt}
use Rattle.loop_lang.specs.declared.stmt.Stmt.TheVariants as stmt
use Rattle.loop_lang.specs.declared.stmt.Prog.{Prog}
use Rattle.loop_lang.specs.Form as form
use Rattle.loop_lang.specs.Form.{Formed, IsWellFormed, buffer_there, each_test_formed, formed_step, index_formed, is_divisor}
use Rattle.loop_lang.specs.Form.{is_literal, lengths_formed, mark_formed, stmt_formed, store_formed, target_there, tests_formed, word_formed}
use Rattle.loop_lang.proofs.StatementForms.{fold-if}
use Rattle.loop_lang.proofs.Statements.{all_formed, formed-add_to, formed-for, formed-put, formed-seq, formed-zero}
use Rattle.c_print.specs.declared.level.Level.{Level}
use Rattle.c_print.specs.declared.level.Level.TheVariants.{Choice, Sum, Product, Part}
use Rattle.c_print.specs.Program.{buffers}
use Rattle.reader_laws.specs.declared.fault.Fault.{Fault}
use Rattle.reader_laws.proofs.Chains.{chain_keeps}
use Rattle.loop_lang.specs.Syntax.{index_quotient, index_remainder}
use Rattle.c_words.specs.Words.{c_words}
use Rattle.c_text.specs.Rules.{IsEach}
use Rattle.c_text.specs.Expression as grammar
use Rattle.c_text.specs.Expression.{HasBuffer, IsInner, Operator, Plus, Minus, Times, Over, Modulo, Scope, Value, OfIndex}
use Rattle.c_text.specs.Expression.{OfWord, OfTests, ands, choices, chosen, compared, join, joined, max_chain, products, relations, sums}
use Rattle.c_text.specs.Statement.{AddTo, AreLengths, CText, Fill, Guarded, HasTarget, IsBlock, IsInnerStatement, IsStatementBy, IsStore}
use Rattle.c_text.specs.Statement.{IsTarget, IsUnit, Loop as ALoop, MayMark, Put, StatementForm, body_scope, either, inside_loop, length_scope, max_levels}

lit_below : (n m : ℕ) → n < m → nat_lt n m ≡ true
lit_below n m h = grind arith

abbrev as_ok : Value → Result Value Fault
as_ok v = Ok v

same_value : (v w : Value) → as_ok v ≡ as_ok w → v ≡ w
same_value v w h = cc

module _ (p : Prog) where
  -- the scope names what the program has
  record Suits (scope : Scope) : Type 0 where
    sizes : scope.sizes ≡ p.sizes
    has : scope.in_length ≡ false → (b : Buf) → HasBuffer scope b → buffer_there p b ≡ true

  module _ (scope : Scope) (fits : Suits scope) where
    -- an index is well formed; a word and tests are, where they may stand
    abbrev Sound : Value → Type 0
    Sound (OfIndex i) = index_formed p.sizes scope.in_length i scope.loops ≡ true
    Sound (OfWord w) = scope.in_length ≡ false → word_formed p w scope.loops ≡ true
    Sound (OfTests cs) = scope.in_length ≡ false → tests_formed p.sizes cs scope.loops ≡ true

    outside : (i : Iexp) → scope.in_length ≡ false → index_formed p.sizes scope.in_length i scope.loops ≡ true → index_formed p.sizes false i scope.loops ≡ true
    outside i e h = subst (λ b. index_formed p.sizes b i scope.loops ≡ true) e h

    divides : (make : ℕ → Iexp) (a : Iexp) (n : ℕ)
        → ((m : ℕ) → index_formed p.sizes scope.in_length (make m) scope.loops ≡ (index_formed p.sizes scope.in_length a scope.loops && is_divisor m))
        → Sound (OfIndex a) → is_literal (pos (suc n)) ≡ true → Sound (OfIndex (make (suc n)))
    divides make a n is h g =
        is (suc n) ∙ and_from (index_formed p.sizes scope.in_length a scope.loops) (is_divisor (suc n)) h
        (and_from (nat_lt 0 (suc n)) (nat_lt (suc n) (2 ^ 63)) (lit_below 0 (suc n) (omega arith)) g)

    join_sound : (o : Operator) (a b c : Value) → Sound a → Sound b → join o a b ≡ Ok c → Sound c
    join_sound Plus (OfIndex a) (OfIndex b) c h g e = subst Sound (same_value _ c e)
        (and_from (index_formed p.sizes scope.in_length a scope.loops) (index_formed p.sizes scope.in_length b scope.loops) h g)
    join_sound Minus (OfIndex a) (OfIndex b) c h g e = subst Sound (same_value _ c e)
        (and_from (index_formed p.sizes scope.in_length a scope.loops) (index_formed p.sizes scope.in_length b scope.loops) h g)
    join_sound Times (OfIndex a) (OfIndex b) c h g e = subst Sound (same_value _ c e)
        (and_from (index_formed p.sizes scope.in_length a scope.loops) (index_formed p.sizes scope.in_length b scope.loops) h g)
    join_sound Plus (OfWord a) (OfWord b) c h g e = subst Sound (same_value _ c e)
        (λ l. and_from (word_formed p a scope.loops) (word_formed p b scope.loops) (h l) (g l))
    join_sound Minus (OfWord a) (OfWord b) c h g e = subst Sound (same_value _ c e)
        (λ l. and_from (word_formed p a scope.loops) (word_formed p b scope.loops) (h l) (g l))
    join_sound Times (OfWord a) (OfWord b) c h g e = subst Sound (same_value _ c e)
        (λ l. and_from (word_formed p a scope.loops) (word_formed p b scope.loops) (h l) (g l))
    join_sound Over (OfIndex a) (OfIndex (Lit (pos (suc n)))) c h g e = subst Sound (same_value _ c e) (divides (index_quotient a) a n (λ m. refl) h g)
    join_sound Modulo (OfIndex a) (OfIndex (Lit (pos (suc n)))) c h g e = subst Sound (same_value _ c e) (divides (index_remainder a) a n (λ m. refl) h g)
    join_sound o a b c h g e = absurd cc

    compared_sound : (r : Rel) (a b c : Value) → Sound a → Sound b → compared r a b ≡ Ok c → Sound c
    compared_sound r (OfIndex a) (OfIndex b) c h g e = subst Sound (same_value _ c e)
        (λ l. and_from (index_formed p.sizes false a scope.loops) (index_formed p.sizes false b scope.loops && true) (outside a l h)
        (and_from (index_formed p.sizes false b scope.loops) true (outside b l g) refl))
    compared_sound r a b c h g e = absurd cc

    each_append : (a b : List Test) → each_test_formed p.sizes a scope.loops ≡ true → each_test_formed p.sizes b scope.loops ≡ true
        → each_test_formed p.sizes (a ++ b) scope.loops ≡ true
    each_append [] b h g = g
    each_append (c ∷ cs) b h g =
        let x = and_parts (index_formed p.sizes false c.left scope.loops)
        (index_formed p.sizes false c.right scope.loops && each_test_formed p.sizes cs scope.loops) h in
        let y = and_parts (index_formed p.sizes false c.right scope.loops) (each_test_formed p.sizes cs scope.loops) x.1 in
        and_from (index_formed p.sizes false c.left scope.loops)
        (index_formed p.sizes false c.right scope.loops && each_test_formed p.sizes (cs ++ b) scope.loops) x.0
        (and_from (index_formed p.sizes false c.right scope.loops) (each_test_formed p.sizes (cs ++ b) scope.loops) y.0 (each_append cs b y.1 g))

    tests_append : (a b : List Test) → tests_formed p.sizes a scope.loops ≡ true → tests_formed p.sizes b scope.loops ≡ true
        → tests_formed p.sizes (a ++ b) scope.loops ≡ true
    tests_append [] b h g = g
    tests_append (c ∷ cs) b h g = each_append (c ∷ cs) b h (and_parts (not (form.is_empty b)) (each_test_formed p.sizes b scope.loops) g).1

    joined_sound : (a b c : Value) → Sound a → Sound b → joined a b ≡ Ok c → Sound c
    joined_sound (OfTests a) (OfTests b) c h g e = subst Sound (same_value _ c e) (λ l. tests_append a b (h l) (g l))
    joined_sound a b c h g e = absurd cc

    chosen_sound : (a : Value) (q : Value × Value) (c : Value) → Sound a → Sound q.0 × Sound q.1 → chosen a q ≡ Ok c → Sound c
    chosen_sound (OfTests cs) (OfWord a, OfWord b) c h g e = subst Sound (same_value _ c e)
        (λ l. and_from (tests_formed p.sizes cs scope.loops) (word_formed p a scope.loops && word_formed p b scope.loops) (h l)
        (and_from (word_formed p a scope.loops) (word_formed p b scope.loops) (g.0 l) (g.1 l)))
    chosen_sound a q c h g e = absurd cc

    -- ---- expressions

    module _ (rule : Level → List Word → Value → Type 0) (levels : ℕ) (below : (place : Level) (ws : List Word) (x : Value) → rule place ws x → Sound x) where
      load_sound : (b : Buf) (i : Iexp) → HasBuffer scope b → Sound (OfIndex i) → Sound (OfWord (word.Load b i))
      load_sound b i h g = λ l. and_from (buffer_there p b) (index_formed p.sizes false i scope.loops) (fits.has l b h) (outside i l g)

      part_sound : (f : grammar.PartForm) (ws : List Word) (x : Value) → grammar.IsPartBy scope rule levels f ws x → Sound x
      part_sound grammar.IndexLiteral ws x q = subst Sound (sym q.makes) (lit_below q.of (2 ^ 63) q.is.1.is_inside.is_allowed)
      part_sound grammar.WordLiteral ws x q = subst Sound (sym q.makes) (λ l. refl)
      part_sound grammar.SizeName ws x q = subst Sound (sym q.makes) (lit_below q.of p.sizes (subst (λ m. q.of < m) fits.sizes q.is.is_allowed))
      part_sound grammar.LoopName ws x q = subst Sound (sym q.makes) (lit_below q.of scope.loops q.is.is_allowed)
      part_sound grammar.Element ws x q =
          let e = q.is in
          let m = e.is_then in
          let b : e.value ≡ q.of.0 = sym (ap (λ (y : Buf × Iexp). y.0) m.makes) in
          let i : m.of ≡ q.of.1 = sym (ap (λ (y : Buf × Iexp). y.1) m.makes) in
          subst Sound (sym q.makes)
          (load_sound q.of.0 q.of.1 (subst (HasBuffer scope) b e.is_first.is_allowed)
          (subst (λ j. Sound (OfIndex j)) i (below Choice m.is.1.inside (OfIndex m.of) m.is.1.is_inside)))
      part_sound grammar.Larger ws x q =
          let e = q.is.1.1.is_inside in
          let r = e.is_then in
          let a : e.value ≡ q.of.0 = sym (ap (λ (y : Iexp × Iexp). y.0) r.makes) in
          let b : r.of ≡ q.of.1 = sym (ap (λ (y : Iexp × Iexp). y.1) r.makes) in
          subst Sound (sym q.makes)
          (and_from scope.in_length (index_formed p.sizes scope.in_length q.of.0 scope.loops && index_formed p.sizes scope.in_length q.of.1 scope.loops) q.is.0
          (and_from (index_formed p.sizes scope.in_length q.of.0 scope.loops) (index_formed p.sizes scope.in_length q.of.1 scope.loops)
          (subst (λ j. Sound (OfIndex j)) a (below Choice e.front (OfIndex e.value) e.is_first))
          (subst (λ j. Sound (OfIndex j)) b (below Choice r.is.inside (OfIndex r.of) r.is.is_inside))))
      part_sound grammar.Parenthesized ws x q = below Choice q.1.inside x q.1.is_inside
      part_sound grammar.Converted ws x q = subst Sound (sym q.makes) (λ l. outside q.of l (below Choice q.is.1.inside (OfIndex q.of) q.is.1.is_inside))

      product_sound : (ws : List Word) (x : Value) → grammar.IsProduct scope rule levels ws x → Sound x
      unfolding products
      product_sound ws x q = chain_keeps (products levels) (λ n a o. rule Part) Sound Sound (λ n a o us b h. below Part us b h)
          (λ o a b c h g e. join_sound o a b c h g e) max_chain q.value q.rest x
          (part_sound q.is_first.0 q.front q.value q.is_first.1) q.is_then

      sum_sound : (ws : List Word) (x : Value) → grammar.IsSum scope rule levels ws x → Sound x
      unfolding sums
      sum_sound ws x q = chain_keeps (sums levels) (λ n a o. rule Product) Sound Sound (λ n a o us b h. below Product us b h)
          (λ o a b c h g e. join_sound o a b c h g e) max_chain q.value q.rest x (product_sound q.front q.value q.is_first) q.is_then

      relation_sound : (ws : List Word) (x : Value) → grammar.IsRelation scope rule levels ws x → Sound x
      unfolding relations
      relation_sound ws x q = chain_keeps relations (λ n a o. grammar.IsSum scope rule levels) Sound Sound (λ n a o us b h. sum_sound us b h)
          (λ o a b c h g e. compared_sound o a b c h g e) 1 q.value q.rest x (sum_sound q.front q.value q.is_first) q.is_then

      and_sound : (ws : List Word) (x : Value) → grammar.IsAnd scope rule levels ws x → Sound x
      unfolding ands
      and_sound ws x q = chain_keeps ands (λ n a o. grammar.IsRelation scope rule levels) Sound Sound (λ n a o us b h. relation_sound us b h)
          (λ o a b c h g e. joined_sound a b c h g e) q.is_then.0 q.value q.rest x (relation_sound q.front q.value q.is_first) q.is_then.1

      sides_sound : (ws : List Word) (y : Value × Value) → grammar.IsSides scope rule levels ws y → Sound y.0 × Sound y.1
      sides_sound ws y q =
          let m = q.is_then in
          let a : q.value ≡ y.0 = sym (ap (λ (z : Value × Value). z.0) m.makes) in
          let b : m.of ≡ y.1 = sym (ap (λ (z : Value × Value). z.1) m.makes) in
          (subst Sound a (below Choice q.front q.value q.is_first), subst Sound b (below Choice m.is.inside m.of m.is.is_inside))

      choice_sound : (ws : List Word) (x : Value) → grammar.IsChoice scope rule levels ws x → Sound x
      unfolding choices
      choice_sound ws x q = chain_keeps (choices levels) (λ n a o. grammar.IsSides scope rule levels) Sound (λ y. Sound y.0 × Sound y.1)
          (λ n a o us b h. sides_sound us b h) (λ o a b c h g e. chosen_sound a b c h g e) 1 q.value q.rest x (and_sound q.front q.value q.is_first) q.is_then

      level_sound : (place : Level) (ws : List Word) (x : Value) → grammar.IsByLevel scope rule levels place ws x → Sound x
      level_sound Choice ws x q = choice_sound ws x q
      level_sound Sum ws x q = sum_sound ws x q
      level_sound Product ws x q = product_sound ws x q
      level_sound Part ws x q = part_sound q.0 ws x q.1

    inner_sound : (levels : ℕ) (place : Level) (ws : List Word) (x : Value) → IsInner scope levels place ws x → Sound x
    inner_sound zero place ws x q = absurd q
    inner_sound (suc levels) place ws x q = level_sound (IsInner scope levels) levels (inner_sound levels) place ws x q

    expression_sound : (levels : ℕ) (place : Level) (ws : List Word) (x : Value) → grammar.IsExpression scope levels place ws x → Sound x
    expression_sound levels place ws x q = level_sound (IsInner scope levels) levels (inner_sound levels) place ws x q

  -- ---- statements

  seq_formed : (ss : List Stmt) (d : ℕ) (inside : Bool) → stmt_formed p (stmt.Seq ss) d inside ≡ all_formed p ss d inside
  seq_formed ss d inside = λ j. formed-seq p ss j d inside

  if_formed : (cs : List Test) (e : Stmt) (d : ℕ) (inside : Bool)
      → stmt_formed p (stmt.If cs e) d inside ≡ (tests_formed p.sizes cs d && stmt_formed p e d inside)
  if_formed cs e d inside = λ j. fold-if (Formed p) (formed_step p) cs e j d inside

  may_formed : (m inside : Bool) → MayMark m inside → mark_formed p m inside ≡ true
  may_formed true true h = absurd h
  may_formed true false h = refl
  may_formed false inside h = refl

  either_is : (m inside : Bool) → either m inside ≡ form.either p m inside
  either_is true inside = refl
  either_is false inside = refl

  targets : (b : Buf) → buffer_there p b ≡ true → IsTarget b → target_there p b ≡ true
  targets (buf.Input n) h t = absurd t
  targets (buf.Output n) h t = h
  targets (buf.Scratch n) h t = h

  module _ (rule : Scope → Bool → List Word → Stmt → Type 0) (levels : ℕ)
      (below : (scope : Scope) (marked : Bool) → Suits scope → scope.in_length ≡ false → (ws : List Word) (s : Stmt) → rule scope marked ws s
      → stmt_formed p s scope.loops marked ≡ true) where
    each_formed' : (scope : Scope) (marked : Bool) → Suits scope → scope.in_length ≡ false → (ws : List Word) (ss : List Stmt)
        → IsEach (rule scope marked) ws ss → all_formed p ss scope.loops marked ≡ true
    each_formed' scope marked fits l ws [] q = refl
    each_formed' scope marked fits l ws (s ∷ ss) q = and_from (stmt_formed p s scope.loops marked) (all_formed p ss scope.loops marked)
        (below scope marked fits l q.front s q.is_first) (each_formed' scope marked fits l q.rest ss q.is_then)

    block_formed : (scope around : Scope) (m marked : Bool) → Suits scope → scope.in_length ≡ false → (ws : List Word) (s : Stmt)
        → IsBlock rule levels around m scope marked ws s → stmt_formed p s scope.loops marked ≡ true
    block_formed scope around m marked fits l ws s q =
        let b = q.1.is_inside in
        subst (λ t. stmt_formed p t scope.loops marked ≡ true) (sym b.makes) (seq_formed b.of scope.loops marked
        ∙ each_formed' scope marked fits l q.1.inside b.of b.is)

    store_is : (scope : Scope) (marked : Bool) (fits : Suits scope) (l : scope.in_length ≡ false) (us : List Word) (e : Buf × Iexp)
        → IsStore rule levels scope marked us e → (w : Wexp) (vs : List Word)
        → grammar.IsExpression scope levels Choice vs (OfWord w) → store_formed p e.0 e.1 w scope.loops ≡ true
    store_is scope marked fits l us e h w vs g =
        let q = h.1 in
        let m = q.is_then in
        let b : q.value ≡ e.0 = sym (ap (λ (y : Buf × Iexp). y.0) m.makes) in
        let i : m.of ≡ e.1 = sym (ap (λ (y : Buf × Iexp). y.1) m.makes) in
        let i_formed = outside scope fits e.1 l
        (subst (λ j. Sound scope fits (OfIndex j)) i (inner_sound scope fits levels Choice m.is.1.inside (OfIndex m.of) m.is.1.is_inside)) in
        let w_formed = expression_sound scope fits levels Choice vs (OfWord w) g l in
        and_from (target_there p e.0) (index_formed p.sizes false e.1 scope.loops && word_formed p w scope.loops)
        (targets e.0 (fits.has l e.0 (subst (HasBuffer scope) b q.is_first.is_allowed)) h.0)
        (and_from (index_formed p.sizes false e.1 scope.loops) (word_formed p w scope.loops) i_formed w_formed)

    form_formed : (scope : Scope) (marked : Bool) → Suits scope → scope.in_length ≡ false → (f : StatementForm) (ws : List Word) (s : Stmt)
        → IsStatementBy rule levels scope marked f ws s → stmt_formed p s scope.loops marked ≡ true
    form_formed scope marked fits l Fill ws s q =
        let e = q.is.1.is_inside in
        let a = e.is_then in
        let n = a.is_then in
        let t = e.is_first.is_allowed in
        let x = n.makes in
        let at_formed = outside scope fits a.value l (inner_sound scope fits levels Choice a.is_first.inside (OfIndex a.value) a.is_first.is_inside) in
        let n_formed = outside scope fits n.of l (inner_sound scope fits levels Choice a.rest (OfIndex n.of) n.is) in
        let whole : stmt_formed p (stmt.Zero e.value a.value n.of) scope.loops marked ≡ true = formed-zero p e.value a.value n.of scope.loops marked
        ∙ and_from (target_there p e.value) (index_formed p.sizes false a.value scope.loops && index_formed p.sizes false n.of scope.loops)
        (targets e.value (fits.has l e.value t.0) t.1)
        (and_from (index_formed p.sizes false a.value scope.loops) (index_formed p.sizes false n.of scope.loops) at_formed n_formed) in
        subst (λ t. stmt_formed p t scope.loops marked ≡ true) (sym (q.makes ∙ ap (λ (y : Buf × (Iexp × Iexp)). stmt.Zero y.0 y.1.0 y.1.1) x)) whole
    form_formed scope marked fits l ALoop ws s q =
        let m = q.value in
        let hd = q.is_then in
        let b = hd.is_then in
        let inner : Suits (inside_loop scope) = record { sizes = fits.sizes; has = fits.has } in
        let n_formed = outside scope fits hd.value l (inner_sound scope fits levels Choice hd.is_first.1.inside (OfIndex hd.value) hd.is_first.1.is_inside) in
        let body = block_formed (inside_loop scope) scope marked (either m marked) inner l hd.rest b.of b.is in
        let whole : stmt_formed p (stmt.For hd.value m b.of) scope.loops marked ≡ true = formed-for p hd.value m b.of scope.loops marked
        ∙ and_from (index_formed p.sizes false hd.value scope.loops) (mark_formed p m marked && stmt_formed p b.of (scope.loops + 1) (form.either p m marked))
        n_formed
        (and_from (mark_formed p m marked) (stmt_formed p b.of (scope.loops + 1) (form.either p m marked)) (may_formed m marked q.is_first.0)
        (subst (λ x. stmt_formed p b.of (scope.loops + 1) x ≡ true) (either_is m marked) body)) in
        subst (λ t. stmt_formed p t scope.loops marked ≡ true) (sym b.makes) whole
    form_formed scope marked fits l Guarded ws s q =
        let b = q.is_then in
        let cs_formed = inner_sound scope fits levels Choice q.is_first.1.inside (OfTests q.value) q.is_first.1.is_inside l in
        let body = block_formed scope scope marked marked fits l q.rest b.of b.is in
        let whole : stmt_formed p (stmt.If q.value b.of) scope.loops marked ≡ true = if_formed q.value b.of scope.loops marked
        ∙ and_from (tests_formed p.sizes q.value scope.loops) (stmt_formed p b.of scope.loops marked) cs_formed body in
        subst (λ t. stmt_formed p t scope.loops marked ≡ true) (sym b.makes) whole
    form_formed scope marked fits l Put ws s q =
        let m = q.is_then in
        let whole : stmt_formed p (stmt.Put q.value.0 q.value.1 m.of) scope.loops marked ≡ true = formed-put p q.value.0 q.value.1 m.of scope.loops marked
        ∙ store_is scope marked fits l q.front q.value q.is_first m.of m.is.inside m.is.is_inside in
        subst (λ t. stmt_formed p t scope.loops marked ≡ true) (sym m.makes) whole
    form_formed scope marked fits l AddTo ws s q =
        let m = q.is_then in
        let whole : stmt_formed p (stmt.AddTo q.value.0 q.value.1 m.of) scope.loops marked ≡ true = formed-add_to p q.value.0 q.value.1 m.of scope.loops
        marked ∙ store_is scope marked fits l q.front q.value q.is_first m.of m.is.inside m.is.is_inside in
        subst (λ t. stmt_formed p t scope.loops marked ≡ true) (sym m.makes) whole

  inner_formed : (levels : ℕ) (scope : Scope) (marked : Bool) → Suits scope → scope.in_length ≡ false → (ws : List Word) (s : Stmt)
      → IsInnerStatement levels scope marked ws s → stmt_formed p s scope.loops marked ≡ true
  inner_formed zero scope marked fits l ws s q = absurd q
  inner_formed (suc levels) scope marked fits l ws s q = form_formed (IsInnerStatement levels) levels (inner_formed levels) scope marked fits l q.0 ws s q.1

  -- ---- whole programs

  body_suits : Suits (body_scope p)
  body_suits = record { sizes = refl; has = λ l b h. there b h }
    where
      there : (b : Buf) → HasBuffer (body_scope p) b → buffer_there p b ≡ true
      there (buf.Input n) h = lit_below n p.inputs h
      there (buf.Output n) h = lit_below n p.outputs h
      there (buf.Scratch n) h = lit_below n p.scratch h

  length_suits : Suits (length_scope p.sizes)
  length_suits = record { sizes = refl; has = λ l b h. absurd cc }

  lengths_are : (bs : List Buf) (us : List Word) (ns : List Iexp) → AreLengths p.sizes bs us ns → lengths_formed p.sizes ns ≡ true
  lengths_are [] us [] h = refl
  lengths_are [] us (n ∷ ns) h = absurd h
  lengths_are (b ∷ bs) us [] h = absurd h
  lengths_are (b ∷ bs) us (n ∷ ns) h = and_from (index_formed p.sizes true n 0) (lengths_formed p.sizes ns)
      (inner_sound (length_scope p.sizes) length_suits max_levels Choice h.is_first.inside (OfIndex n) h.is_first.is_inside)
      (lengths_are bs h.rest ns h.is_then)

  as_many : (bs : List Buf) (us : List Word) (ns : List Iexp) → AreLengths p.sizes bs us ns → length ns ≡ length bs
  as_many [] us [] h = refl
  as_many [] us (n ∷ ns) h = absurd h
  as_many (b ∷ bs) us [] h = absurd h
  as_many (b ∷ bs) us (n ∷ ns) h = let e = as_many bs h.rest ns h.is_then in omega arith

  all_buffers : length (buffers p) ≡ p.inputs + p.outputs + p.scratch
  all_buffers =
      let ins = map buf.Input (range_with_len 0 p.inputs) in
      let outs = map buf.Output (range_with_len 0 p.outputs) in
      let a = length-append (ins ++ outs) (map buf.Scratch (range_with_len 0 p.scratch)) in
      let b = length-append ins outs in
      omega (
        arith,
        a,
        b,
        length-map-range_with_len buf.Input 0 p.inputs,
        length-map-range_with_len buf.Output 0 p.outputs,
        length-map-range_with_len
            buf.Scratch 0 p.scratch,
      )

  unit_formed : (ws : List Word) → IsUnit ws p → IsWellFormed p
  unit_formed ws u = record {
    many = as_many (buffers p) u.lengths p.lengths u.are_lengths ∙ all_buffers;
    lengths = lengths_are (buffers p) u.lengths p.lengths u.are_lengths;
    body = block_formed (IsInnerStatement max_levels) max_levels (inner_formed max_levels) (body_scope p)
        (body_scope p) false false body_suits refl u.body p.body u.is_body;
  }

pub text_formed : (z : Text) (p : Prog) → CText z p → IsWellFormed p
text_formed z p h = unit_formed p (c_words z) h
