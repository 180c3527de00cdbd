-- What a statement does within a limit is the limited run of its actions.
use Rattle.std.proofs.Common.{◌≡◌, ◌<◌, ◌≤◌, ℕ, zero, suc, ◌+◌, ◌^◌, Bool, true, false, ◌&&◌, List, [], ◌∷◌, ◌++◌, map, append-nil, refl, ap, arith, sym, ◌∙◌}
use Rattle.std.specs.Prelude.{ℤ, pos, negsuc, ◌+ℤ◌}
use Rattle.std.proofs.lemmas.Bool.{and_parts, ltb-true}
use Rattle.loop_lang.specs.declared.index.Iexp.{Iexp}
use Rattle.loop_lang.specs.declared.index.Test.{Test}
use Rattle.loop_lang.specs.declared.word.Buf.{Buf}
use Rattle.loop_lang.specs.declared.word.Wexp.{Wexp}
use Rattle.loop_lang.specs.declared.stmt.Prog.{Prog}
use Rattle.loop_lang.specs.declared.stmt.Stmt.{Stmt}
use Rattle.loop_lang.specs.declared.stmt.Stmt.TheVariants.{Seq, For, If, Zero}
use Rattle.loop_lang.specs.Reckoning.{Trouble, Reckoned, Value, Fails, checked, reckon, Verdict, Holds, IsFalse, Breaks, tested}
use Rattle.loop_lang.specs.Actions.{Tree, Word, loads, Grown, Whole, Broken, grow, Mode, Puts, Adds, Action, Store, turns_below, if_holds, store_at, store}
use Rattle.loop_lang.specs.Actions.{zeroed, fill, acts, acts_all, program_acts}
use Rattle.loop_lang.specs.Memory.{Memory, Met, Loaded, Found, Lost, word_of, lost_or, write, tripped}
use Rattle.loop_lang.proofs.StatementForms.{fold-seq, fold-for, fold-if, fold-put, fold-add_to, fold-zero}
use Rattle.loop_lang.proofs.Statements.{acts-seq, acts-for, acts-if, acts-put, acts-add_to, acts-zero, all_formed, formed-seq, formed-for}
use Rattle.loop_lang.specs.Form.{index_formed, tests_formed, Formed, mark_formed, either, formed_step, stmt_formed, IsWellFormed}
use Rattle.loop_run.specs.declared.counted.Counted.{Counted}
use Rattle.loop_run.specs.Fits.{all_fit}
use Rattle.loop_run.specs.Limited.{State, Progress, Goes, Halts, Blocked, next, begun, tallied, left_by, acted, followed}
use Rattle.loop_run.specs.Statements.{Doing, stored_at, got_stored, done_if, in_order, turned, turned_below, zeros_put, filled, store_done, statement_step}
use Rattle.loop_run.specs.Statements.{statement_fold}
use Rattle.loop_run.proofs.FollowLaws.{followed-then_follow, followed-turns}
use Rattle.loop_run.proofs.Bounds.{is_bound, bound-is, fits-one_more}
use Rattle.loop_run.proofs.IndexJoin.{index-is, tests-is}
use Rattle.loop_run.proofs.WordJoin.{got_grown, got_tree, tripped-loads, word-is}
use Rattle.loop_run.proofs.Induction.{Each, for_statements}

next-goes : (p : Progress) → next p Goes ≡ p
next-goes (Goes t) = refl
next-goes (Halts h m) = refl

next-same : (p : Progress) (f g : State → Progress) → ((t : State) → f t ≡ g t) → next p f ≡ next p g
next-same p f g e = ap (next p) (λ i t. e t i)

followed-one : (limit : ℕ) (x : Action) (t : State) → followed limit (x ∷ []) t ≡ acted limit x t
followed-one limit x t = next-goes (acted limit x t)

-- a store of a tree, whose place is computed
stored-tree : (mode : Mode) (b : Buf) (w : Tree) (z : ℤ) (l : Loaded) (c : Counted) (m : Memory)
    → left_by (write mode b z l m) (tallied w c) m ≡ got_stored mode b (got_tree l w c) (Value z) m
stored-tree mode b w (pos i) (Found v) c m = refl
stored-tree mode b w (negsuc i) (Found v) c m = refl
stored-tree mode b w (pos i) (Lost k) c m = refl
stored-tree mode b w (negsuc i) (Lost k) c m = refl

-- a trouble in the place of a store
tripped-tree : (mode : Mode) (b : Buf) (w : Tree) (k : Trouble) (l : Loaded) (c : Counted) (m : Memory) → word_of w m ≡ l
    → Halts (Blocked (tripped k (loads w) m)) m ≡ got_stored mode b (got_tree l w c) (Fails k) m
tripped-tree mode b w k (Found v) c m e =
    ap (λ j. Halts (Blocked j) m) (ap (λ ls. tripped k ls m) (sym (append-nil (loads w))) ∙ tripped-loads w k m [] ∙ (λ i. lost_or (e i) (Met k)))
tripped-tree mode b w k (Lost j) c m e =
    ap (λ j. Halts (Blocked j) m) (ap (λ ls. tripped k ls m) (sym (append-nil (loads w))) ∙ tripped-loads w k m [] ∙ (λ i. lost_or (e i) (Met k)))

module _ (limit : ℕ) where
  store-is : (mode : Mode) (b : Buf) (g : Grown) (x : Reckoned) (t : State)
      → followed limit (store mode b g x) t ≡ next (begun limit t) (λ u. got_stored mode b (got_grown g u.memory u.counts) x u.memory)
  store-is mode b (Whole w) (Value z) t = followed-one limit (Store mode b w z) t
      ∙ next-same (begun limit t) _ _ (λ u. stored-tree mode b w z (word_of w u.memory) u.counts u.memory)
  store-is mode b (Whole w) (Fails k) t = next-same (begun limit t) _ _ (λ u. tripped-tree mode b w k (word_of w u.memory) u.counts u.memory refl)
  store-is mode b (Broken k ls) x t = refl

  zero-is : (b : Buf) (x : Reckoned) (t : State)
      → followed limit (store_at Puts b (Word 0) x) t ≡ next (begun limit t) (λ u. stored_at Puts b 0 u.counts x u.memory)
  zero-is b (Value z) t = followed-one limit (Store Puts b (Word 0) z) t
  zero-is b (Fails k) t = refl

  zeros-are : (b : Buf) (at : ℤ) (k n : ℕ) (t : State) → followed limit (zeroed b at k n) t ≡ zeros_put limit b at k n t
  zeros-are b at k zero t = refl
  zeros-are b at k (suc n) t = followed-then_follow limit (store_at Puts b (Word 0) (checked (at +ℤ pos k))) (zeroed b at (k + 1) n) t
      ∙ (λ i. next (zero-is b (checked (at +ℤ pos k)) t i) (λ u. zeros-are b at (k + 1) n u i))

  fill-is : (b : Buf) (x y : Reckoned) (t : State) → followed limit (fill b x y) t ≡ filled limit b x y t
  fill-is b (Fails k) y t = refl
  fill-is b (Value at) (Fails k) t = refl
  fill-is b (Value at) (Value (negsuc n)) t = refl
  fill-is b (Value at) (Value (pos n)) t = zeros-are b at 0 n t

  if-is : (v : Verdict) (xs : List Action) (t : State) → followed limit (if_holds v xs) t ≡ next (begun limit t) (done_if v (followed limit xs))
  if-is Holds xs t = refl
  if-is IsFalse xs t = refl
  if-is (Breaks k) xs t = refl

  turns-are : (x : Reckoned) (f : ℕ → List Action) (t : State) → followed limit (turns_below x f) t ≡ turned_below limit x (λ i. followed limit (f i)) t
  turns-are (Value (pos n)) f t = followed-turns limit 0 n f t
  turns-are (Value (negsuc n)) f t = refl
  turns-are (Fails k) f t = refl

  -- turns that do the same below a bound
  turned-same : (m : ℕ) (f g : ℕ → Doing) → ((j : ℕ) → j < m → (t : State) → f j t ≡ g j t) → (i n : ℕ) → i + n ≤ m → (t : State)
      → turned limit i n f t ≡ turned limit i n g t
  turned-same m f g e i zero h t = refl
  turned-same m f g e i (suc n) h t =
      let l : i < m = omega arith in
      let k : i + 1 + n ≤ m = omega arith in
      λ x. next (next (begun limit t) (λ u. e i l u x)) (λ u. turned-same m f g e (i + 1) n k u x)

  below-same : (x : Reckoned) (f g : ℕ → Doing) → is_bound x ≡ true → ((j : ℕ) → j < 2 ^ 63 → (t : State) → f j t ≡ g j t) → (t : State)
      → turned_below limit x f t ≡ turned_below limit x g t
  below-same (Value (pos n)) f g b e t =
      let l = ltb-true n (2 ^ 63) b in
      let k : 0 + n ≤ 2 ^ 63 = omega (arith, l) in
      turned-same (2 ^ 63) f g e 0 n k t
  below-same (Value (negsuc n)) f g b e t = refl
  below-same (Fails k) f g b e t = refl

  module _ (p : Prog) (s : List ℕ) (fs : all_fit s ≡ true) where
    -- a statement does within the limit what its actions do
    abbrev pub Joined : Stmt → Type 0
    Joined e = (d : ℕ) (inside : Bool) → stmt_formed p e d inside ≡ true → (r : List ℕ) → all_fit r ≡ true → (t : State)
        → followed limit (acts e s r) t ≡ statement_fold limit s e r t

    at-fold : (f g : List ℕ → Doing) (r : List ℕ) (t : State) → f ≡ g → f r t ≡ g r t
    at-fold f g r t e = λ i. e i r t

    store-joined : (mode : Mode) (b : Buf) (i : Iexp) (w : Wexp) (r : List ℕ) → all_fit r ≡ true → (t : State)
        → followed limit (store mode b (grow w s r) (reckon i s r)) t ≡ store_done limit s mode b i w r t
    store-joined mode b i w r fr t = store-is mode b (grow w s r) (reckon i s r) t
        ∙ sym (λ j. next (begun limit t) (λ u. got_stored mode b (word-is s r fs fr u.memory w u.counts j) (index-is s r fs fr i j) u.memory))

    all-joined : (xs : List Stmt) → Each Joined xs → (d : ℕ) (inside : Bool) → all_formed p xs d inside ≡ true → (r : List ℕ) → all_fit r ≡ true → (t : State)
        → followed limit (acts_all xs s r) t ≡ in_order (map (statement_fold limit s) xs) r t
    all-joined [] each d inside h r fr t = refl
    all-joined (x ∷ xs) each d inside h r fr t =
        let parts = and_parts (stmt_formed p x d inside) (all_formed p xs d inside) h in
        followed-then_follow limit (acts x s r) (acts_all xs s r) t
        ∙ (λ j. next (each.0 d inside parts.0 r fr t j) (λ u. all-joined xs each.1 d inside parts.1 r fr u j))

    seq-joined : (xs : List Stmt) → Each Joined xs → Joined (Seq xs)
    seq-joined xs each d inside h r fr t = ap (λ l. followed limit l t) (acts-seq xs s r)
        ∙ all-joined xs each d inside (sym (λ j. formed-seq p xs j d inside) ∙ h) r fr t
        ∙ sym (at-fold _ _ r t (fold-seq (List ℕ → Doing) (statement_step limit s) xs))

    for-joined : (n : Iexp) (marked : Bool) (e : Stmt) → Joined e → Joined (For n marked e)
    for-joined n marked e of_body d inside h r fr t =
        let formed = sym (formed-for p n marked e d inside) ∙ h in
        let parts = and_parts (index_formed p.sizes false n d) (mark_formed p marked inside && stmt_formed p e (d + 1) (either p marked inside)) formed in
        let body = (and_parts (mark_formed p marked inside) (stmt_formed p e (d + 1) (either p marked inside)) parts.1).1 in
        ap (λ l. followed limit l t) (acts-for n marked e s r)
        ∙ turns-are (reckon n s r) (λ i. acts e s (r ++ i ∷ [])) t
        ∙ below-same (reckon n s r) _ _ (bound-is p.sizes false s r fs fr n d parts.0)
        (λ j l u. of_body (d + 1) (either p marked inside) body (r ++ j ∷ []) (fits-one_more r j fr l) u) t
        ∙ sym (ap (λ x. turned_below limit x (λ i. statement_fold limit s e (r ++ i ∷ [])) t) (index-is s r fs fr n))
        ∙ sym (at-fold _ _ r t (fold-for (List ℕ → Doing) (statement_step limit s) n marked e))

    formed-if : (cs : List Test) (e : Stmt) (d : ℕ) (inside : Bool) → stmt_formed p (If cs e) d inside ≡ (tests_formed p.sizes cs d && stmt_formed p e d inside)
    formed-if cs e d inside = λ i. fold-if (Formed p) (formed_step p) cs e i d inside

    if-joined : (cs : List Test) (e : Stmt) → Joined e → Joined (If cs e)
    if-joined cs e of_body d inside h r fr t =
        let parts = and_parts (tests_formed p.sizes cs d) (stmt_formed p e d inside) (sym (formed-if cs e d inside) ∙ h) in
        let back = sym (tests-is s r fs fr cs) in
        ap (λ l. followed limit l t) (acts-if cs e s r)
        ∙ if-is (tested cs s r) (acts e s r) t
        ∙ (λ j. next (begun limit t) (done_if (back j) (λ u. of_body d inside parts.1 r fr u j)))
        ∙ sym (at-fold _ _ r t (fold-if (List ℕ → Doing) (statement_step limit s) cs e))

    zero-joined : (b : Buf) (i n : Iexp) → Joined (Zero b i n)
    zero-joined b i n d inside h r fr t = ap (λ l. followed limit l t) (acts-zero b i n s r)
        ∙ fill-is b (reckon i s r) (reckon n s r) t
        ∙ sym (λ j. filled limit b (index-is s r fs fr i j) (index-is s r fs fr n j) t)
        ∙ sym (at-fold _ _ r t (fold-zero (List ℕ → Doing) (statement_step limit s) b i n))

    pub joined : (e : Stmt) → Joined e
    joined = for_statements Joined seq-joined for-joined if-joined
        (λ b i w d inside h r fr t. ap (λ l. followed limit l t) (acts-put b i w s r) ∙ store-joined Puts b i w r fr t
        ∙ sym (at-fold _ _ r t (fold-put (List ℕ → Doing) (statement_step limit s) b i w)))
        (λ b i w d inside h r fr t. ap (λ l. followed limit l t) (acts-add_to b i w s r) ∙ store-joined Adds b i w r fr t
        ∙ sym (at-fold _ _ r t (fold-add_to (List ℕ → Doing) (statement_step limit s) b i w)))
        zero-joined

    -- the whole program, with no loop variable
    pub program-joined : IsWellFormed p → (t : State) → statement_fold limit s p.body [] t ≡ followed limit (program_acts p s) t
    program-joined formed t = sym (joined p.body 0 false formed.body [] refl t)
