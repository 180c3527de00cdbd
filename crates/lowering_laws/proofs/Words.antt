-- A word expression computes what its term denotes.
use Rattle.std.proofs.Common.{◌≡◌, ℕ, zero, suc, ◌+◌, ◌-◌, ◌*◌, ◌%◌, ◌^◌, ◌<◌, ◌≤◌, Bool, true, false, if◌then◌else◌, List, [], ◌∷◌, ◌++◌, length, get_or}
use Rattle.std.proofs.Common.{Option, Some, None, pos, refl, sym, ap, ◌∙◌, subst, arith}
use Rattle.std.proofs.lemmas.List.{append-nil}
use Rattle.affine_index.specs.Condition.{all_hold}
use Rattle.affine_index.specs.declared.form.Items.{Items}
use Rattle.affine_index.specs.Value.{items_value}
use Rattle.term_tree.specs.declared.term.Term.{Term, Lit, TVar, WordOf}
use Rattle.term_tree.specs.Syntax.{index, gen, sum, guard, let_in, add, sub, mul, concat, flatten, split, transpose, trunc_l, trunc_r, pad_l, pad_r}
use Rattle.term_tree.specs.Tensors.{Tensor, Word, End, rows_of, by_places, zeros}
use Rattle.term_tree.specs.Shaped.{HasShape, HasWords, flat, word_count}
use Rattle.term_tree.specs.Meaning.{Bound, no_bound, extent, extents_of, tail_of, dims, row_at, den}
use Rattle.term_tree.specs.Modules.{extents_at}
use Rattle.shape_rules.specs.Fits.{AllShaped, AllWords, ShapesFit}
use Rattle.loop_lang.specs.declared.word.Buf.{Buf}
use Rattle.loop_lang.specs.declared.word.Buf.TheVariants.{Output}
use Rattle.loop_lang.specs.declared.word.Wexp.{Wexp}
use Rattle.loop_lang.specs.declared.word.Wexp.TheVariants as word
use Rattle.loop_lang.specs.Reckoning.{Value, reckon, tested}
use Rattle.loop_lang.specs.Actions.{Tree, Sum, Difference, Product, Whole, grow, grown_from, grown_of_two, chosen, word_of_index}
use Rattle.loop_lang.specs.Actions.{Word as TreeWord, At as TreeAt}
use Rattle.loop_lang.specs.Memory.{Memory, Found, word_of, word_of_two}
use Rattle.loop_lang.proofs.WordForms.{word_sum-is, word_difference-is, word_product-is, word_choice-is}
use Rattle.index_trees.specs.Tree.{index_tree}
use Rattle.final_rules.specs.declared.read.Read.{Read}
use Rattle.final_rules.specs.Form.{read_under}
use Rattle.final_rules.specs.Owed.{Values, ReadFits, ReadFitsIf, WordFits, tests_of}
use Rattle.reindexer.specs.Sending.{row_order}
use Rattle.reindexer.specs.Sending.{Within as WithinSite}
use Rattle.final_rules.specs.Places.{Site, nowhere, read_form}
use Rattle.final_rules.proofs.PlaceValues.{verdict, tests-hold}
use Rattle.final_rules.proofs.Walk.{binders-holds}
use Rattle.lowering_laws.proofs.Algebra.{Within}
use Rattle.lowering_laws.proofs.RowOrder.{place, place_lt, length-flat, At, word_at as word_at_tuple}
use Rattle.lowering_laws.proofs.Does.{Area, region, part, buffer_of, base}
use Rattle.lowering_laws.proofs.Calm.{Calm, area_read}
use Rattle.lowering_laws.specs.Contexts.{Context, depth, into_guard}
use Rattle.lowering_laws.specs.Lowered.{loaded, loaded_if, word_at}
use Rattle.lowering_laws.specs.Owes.{VarsThere}

get_or_any : {A : Type 0} (us : List A) (i : ℕ) (d e : A) → i < length us → get_or us i d ≡ get_or us i e
get_or_any [] i d e h = absurd (omega arith)
get_or_any (u ∷ us) zero d e h = refl
get_or_any (u ∷ us) (suc i) d e h = get_or_any us i d e (omega arith)

within_same : (ds ix : List ℕ) → WithinSite ds ix → Within ds ix
within_same [] [] h = tt
within_same [] (i ∷ ix) h = absurd h
within_same (d ∷ ds) [] h = absurd h
within_same (d ∷ ds) (i ∷ ix) h = (h.0, within_same ds ix h.1)

order_is : (ds ix : List ℕ) → row_order ds ix ≡ place ds ix
order_is [] ix = refl
order_is (d ∷ ds) [] = refl
order_is (d ∷ ds) (i ∷ ix) = ap (λ n. i * word_count ds + n) (order_is ds ix)

module _ (s : List ℕ) where
  -- where a tensor variable lies, and that it stays as it is
  pub record OneHeld (x : Site) (b : Buf) (a : Area) (u : Bound) (T : Area) (k : ℕ) (m : Memory) : Type 0 where
    pub extents : extents_at x.extents s ≡ u.0
    pub offset : extent x.offset s ≡ base a
    pub buffer : b ≡ buffer_of a
    pub calm : Calm a T k
    pub words_are : part m a ≡ flat u.1

  -- so for all of them, from the innermost
  abbrev pub AllHeld : List Site → List Buf → List Area → List Bound → Area → ℕ → Memory → Type 0
  AllHeld [] [] [] [] T k m = Unit {0}
  AllHeld (x ∷ xs) (b ∷ bs) (a ∷ ar) (u ∷ t) T k m = OneHeld x b a u T k m × AllHeld xs bs ar t T k m
  AllHeld _ _ _ _ T k m = ⊥

  record Found_at (xs : List Site) (bs : List Buf) (t : List Bound) (q : ℕ) (T : Area) (k : ℕ) (m : Memory) : Type 0 where
    area : Area
    one : OneHeld (get_or xs q nowhere) (get_or bs q (Output 0)) area (get_or t q no_bound) T k m
    shaped : HasShape (get_or t q no_bound).0 (get_or t q no_bound).1
    words : HasWords (get_or t q no_bound).1

  find : (xs : List Site) (bs : List Buf) (ar : List Area) (t : List Bound) (q : ℕ) (T : Area) (k : ℕ) (m : Memory) → q < length (extents_of t)
      → AllHeld xs bs ar t T k m → AllShaped t → AllWords t → Found_at xs bs t q T k m
  find [] [] [] [] q T k m l h g w = absurd (omega arith)
  find (x ∷ xs) (b ∷ bs) (a ∷ ar) (u ∷ t) zero T k m l h g w = record { area = a; one = h.0; shaped = g.0; words = w.0 }
  find (x ∷ xs) (b ∷ bs) (a ∷ ar) (u ∷ t) (suc q) T k m l h g w =
      let f = find xs bs ar t q T k m (omega arith) h.1 g.1 w.1 in
      record { area = f.area; one = f.one; shaped = f.shaped; words = f.words }
  find [] [] [] (u ∷ t) q T k m l h g w = absurd h
  find [] [] (a ∷ ar) t q T k m l h g w = absurd h
  find [] (b ∷ bs) ar t q T k m l h g w = absurd h
  find (x ∷ xs) [] ar t q T k m l h g w = absurd h
  find (x ∷ xs) (b ∷ bs) [] t q T k m l h g w = absurd h
  find (x ∷ xs) (b ∷ bs) (a ∷ ar) [] q T k m l h g w = absurd h

  -- a read denotes the part of its tensor at the values of its indices
  pub part_at : (e : Term) (xs : List Items) (d : Read) (y : List ℕ) (t : List Bound) (w : ℕ) (ix js : List ℕ) → read_under e xs ≡ Some d
      → Values s d.indices y ix
      → At (get_or t d.var no_bound).1 (ix ++ js) w → (jx : List ℕ) × Values s xs y jx × At (den e s y t) (jx ++ js) w
  part_at (TVar q) xs d y t w ix js e v a =
      let same : record { var = q; indices = xs } ≡ d = cc in
      (ix, subst (λ r. Values s r.indices y ix) (sym same) v, subst (λ r. At (get_or t r.var no_bound).1 (ix ++ js) w) (sym same) a)
  part_at (index e x) xs d y t w ix js h v a = go (part_at e (x ∷ xs) d y t w ix js h v a)
    where
      go : (jx : List ℕ) × Values s (x ∷ xs) y jx × At (den e s y t) (jx ++ js) w → (jx : List ℕ) × Values s xs y jx × At (den (index e x) s y t) (jx ++ js) w
      go ([], v, a) = absurd v
      go (i ∷ jx, v, a) =
          let z = zeros (tail_of (dims e s (extents_of t))) in (
            jx,
            v.1,
            subst (λ u. At u (jx ++ js) w) (get_or_any (rows_of (den e s y t)) i End z a.0
                ∙ ap (λ j. row_at (rows_of (den e s y t)) j z) (sym v.0)) a.1,
          )
  part_at (Lit c) xs d y t w ix js h v a = absurd (cc)
  part_at (WordOf x) xs d y t w ix js h v a = absurd (cc)
  part_at (gen n e) xs d y t w ix js h v a = absurd (cc)
  part_at (sum n e) xs d y t w ix js h v a = absurd (cc)
  part_at (guard c e) xs d y t w ix js h v a = absurd (cc)
  part_at (let_in e f) xs d y t w ix js h v a = absurd (cc)
  part_at (add e f) xs d y t w ix js h v a = absurd (cc)
  part_at (sub e f) xs d y t w ix js h v a = absurd (cc)
  part_at (mul e f) xs d y t w ix js h v a = absurd (cc)
  part_at (concat e f) xs d y t w ix js h v a = absurd (cc)
  part_at (flatten e) xs d y t w ix js h v a = absurd (cc)
  part_at (split n e) xs d y t w ix js h v a = absurd (cc)
  part_at (transpose e) xs d y t w ix js h v a = absurd (cc)
  part_at (trunc_l n e) xs d y t w ix js h v a = absurd (cc)
  part_at (trunc_r n e) xs d y t w ix js h v a = absurd (cc)
  part_at (pad_l n e) xs d y t w ix js h v a = absurd (cc)
  part_at (pad_r n e) xs d y t w ix js h v a = absurd (cc)

  -- the variable of a read is there
  pub var_there : (e : Term) (xs : List Items) (d : Read) (n : ℕ) → read_under e xs ≡ Some d → VarsThere e n → d.var < n
  var_there (TVar q) xs d n e h = let same : record { var = q; indices = xs } ≡ d = cc in subst (λ r. r.var < n) same h
  var_there (index e x) xs d n h v = var_there e (x ∷ xs) d n h v
  var_there (Lit c) xs d n e h = absurd (cc)
  var_there (WordOf x) xs d n e h = absurd (cc)
  var_there (gen m e) xs d n h v = absurd (cc)
  var_there (sum m e) xs d n h v = absurd (cc)
  var_there (guard c e) xs d n h v = absurd (cc)
  var_there (let_in e f) xs d n h v = absurd (cc)
  var_there (add e f) xs d n h v = absurd (cc)
  var_there (sub e f) xs d n h v = absurd (cc)
  var_there (mul e f) xs d n h v = absurd (cc)
  var_there (concat e f) xs d n h v = absurd (cc)
  var_there (flatten e) xs d n h v = absurd (cc)
  var_there (split m e) xs d n h v = absurd (cc)
  var_there (transpose e) xs d n h v = absurd (cc)
  var_there (trunc_l m e) xs d n h v = absurd (cc)
  var_there (trunc_r m e) xs d n h v = absurd (cc)
  var_there (pad_l m e) xs d n h v = absurd (cc)
  var_there (pad_r m e) xs d n h v = absurd (cc)

  -- a word expression computes a word, which its term denotes
  pub record Cell (w : Wexp) (u : Tensor) (r : List ℕ) (m : Memory) : Type 0 where
    pub word : ℕ
    pub means : u ≡ Word word
    pub tree : Tree
    pub grows : grow w s r ≡ Whole tree
    pub gives : word_of tree m ≡ Found word

  -- the load of a full read, of a tensor that has the word of the read
  pub load_cell : (d : Read) (p : Context) (ar : List Area) (r y : List ℕ) (t : List Bound) (T : Area) (k : ℕ) (m : Memory) (u : Tensor) → length r ≡ depth p
      → ReadFits s d p.place r y → d.var < length (extents_of t)
      → AllHeld p.place.sites p.buffers ar t T k m → AllShaped t → AllWords t → k ≤ length (region m)
      → ((ix : List ℕ) (w : ℕ) → Values s d.indices y ix → At (get_or t d.var no_bound).1 ix w → u ≡ Word w) → Cell (loaded d p) u r m
  load_cell d p ar r y t T k m u dep h v g sh ws free means =
      let q = d.var in
      let f = find p.place.sites p.buffers ar t q T k m v g sh ws in
      let x = (get_or t q no_bound).1 in
      let ds = (get_or t q no_bound).0 in
      let A = f.area in
      let ix : List ℕ = h.0 in
      let inside : Within ds ix = subst (λ l. Within l ix) f.one.extents (within_same _ ix h.2) in
      let one = word_at_tuple ds ix x f.shaped f.words inside in
      let l : place ds ix < length (part m A) = omega (arith, place_lt ds ix inside, length-flat x ds f.shaped, ap length f.one.words_are) in
      let at : reckon (index_tree (depth p) (read_form d p.place)) s r ≡ Value (pos (base A + place ds ix)) =
      ap (λ n. reckon (index_tree n (read_form d p.place)) s r) (sym dep) ∙ h.3.0 ∙ (λ i. Value (pos (f.one.offset i + row_order (f.one.extents i) ix)))
      ∙ ap (λ n. Value (pos (base A + n))) (order_is ds ix) in
      record {
        word = get_or (flat x) (place ds ix) 0;
        means = means ix (get_or (flat x) (place ds ix) 0) h.1 one.0;
        tree = TreeAt (get_or p.buffers q (Output 0)) (pos (base A + place ds ix));
        grows = ap (λ v. grown_from v (TreeAt (get_or p.buffers q (Output 0)))) at;
        gives =
            ap (λ b. word_of (TreeAt b (pos (base A + place ds ix))) m) f.one.buffer
            ∙ area_read A T k (place ds ix) m f.one.calm free l
            ∙ ap (λ v. Found (get_or v (place ds ix) 0)) f.one.words_are;
      }

  no_indices : (y jx : List ℕ) (u : Tensor) (w : ℕ) → Values s [] y jx → At u (jx ++ []) w → u ≡ Word w
  no_indices y [] u w v a = a
  no_indices y (j ∷ jx) u w v a = absurd v

  read_cell : (e : Term) (o : Option Read) (p : Context) (ar : List Area) (r y : List ℕ) (t : List Bound) (T : Area) (k : ℕ) (m : Memory) → read_under e [] ≡ o
      → length r ≡ depth p → ReadFitsIf s o p.place r y → VarsThere e (length (extents_of t))
      → AllHeld p.place.sites p.buffers ar t T k m → AllShaped t → AllWords t → k ≤ length (region m) → Cell (loaded_if o p) (den e s y t) r m
  read_cell e None p ar r y t T k m o dep h v g sh ws free = absurd h
  read_cell e (Some d) p ar r y t T k m o dep h v g sh ws free =
      load_cell d p ar r y t T k m (den e s y t) dep h (var_there e [] d (length (extents_of t)) o v) g sh ws free
      (λ ix w vs a. let read = part_at e [] d y t w ix [] o vs (subst (λ jx. At (get_or t d.var no_bound).1 jx w) (sym (append-nil ix)) a) in
      no_indices y read.0 (den e s y t) w read.1 read.2)

  both : (f : Tree → Tree → Tree) (g : ℕ → ℕ → ℕ) (u v w : Wexp) (x y : Tensor) (r : List ℕ) (m : Memory)
      → ((a b : Tree) → word_of (f a b) m ≡ word_of_two g (word_of a m) (word_of b m)) → grow w s r ≡ grown_of_two f (grow u s r) (grow v s r) → Cell u x r m
      → Cell v y r m → Cell w (by_places g x y) r m
  both f g u v w x y r m op grown a b = record {
    word = g a.word b.word;
    means = λ i. by_places g (a.means i) (b.means i);
    tree = f a.tree b.tree;
    grows = grown ∙ (λ i. grown_of_two f (a.grows i) (b.grows i));
    gives = op a.tree b.tree ∙ (λ i. word_of_two g (a.gives i) (b.gives i));
  }

  choose : (c : Bool) (w a : Wexp) (u : Tensor) (ds : List ℕ) (r : List ℕ) (m : Memory) → ds ≡ []
      → grow w s r ≡ chosen (verdict c) (grow a s r) (Whole (TreeWord 0)) → (c ≡ true → Cell a u r m) → Cell w (if c then u else zeros ds) r m
  choose true w a u ds r m z g f = let x = f refl in record { word = x.word; means = x.means; tree = x.tree; grows = g ∙ x.grows; gives = x.gives }
  choose false w a u ds r m z g f = record { word = 0; means = ap zeros z; tree = TreeWord 0; grows = g; gives = refl }

  pub cell : (e : Term) (p : Context) (ar : List Area) (r y : List ℕ) (t : List Bound) (T : Area) (k : ℕ) (m : Memory) → length r ≡ depth p
      → WordFits s e p.place r y → ShapesFit e s (extents_of t) → dims e s (extents_of t) ≡ [] → VarsThere e (length (extents_of t))
      → AllHeld p.place.sites p.buffers ar t T k m → AllShaped t → AllWords t → k ≤ length (region m) → Cell (word_at e p) (den e s y t) r m
  cell (Lit w) p ar r y t T k m dep h sf z v g sh ws free = record { word = w; means = refl; tree = TreeWord w; grows = refl; gives = refl }
  cell (WordOf x) p ar r y t T k m dep h sf z v g sh ws free = record {
    word = word_of_index (items_value s y x);
    means = refl;
    tree = TreeWord (word_of_index (items_value s y x));
    grows = ap (λ n. grown_from (reckon (index_tree n x) s r) (λ z. TreeWord (word_of_index z))) (sym dep)
        ∙ ap (λ v. grown_from v (λ z. TreeWord (word_of_index z))) h.0;
    gives = refl;
  }
  cell (TVar q) p ar r y t T k m dep h sf z v g sh ws free = read_cell (TVar q) (read_under (TVar q) []) p ar r y t T k m refl dep h v g sh ws free
  cell (index e x) p ar r y t T k m dep h sf z v g sh ws free = read_cell (index e x) (read_under (index e x) []) p ar r y t T k m refl dep h v g sh ws free
  cell (guard c e) p ar r y t T k m dep h sf z v g sh ws free =
      let tests : tested (tests_of (depth p) c.all) s r ≡ verdict (all_hold s y c.all) = ap (λ n. tested (tests_of n c.all) s r) (sym dep)
      ∙ tests-hold s r y c.all h.0 in
      choose (all_hold s y c.all) (word_at (guard c e) p) (word_at e (into_guard c p)) (den e s y t) (dims e s (extents_of t)) r m z
      (ap (λ w. grow w s r) (word_choice-is (tests_of (depth p) c.all) (word_at e (into_guard c p)) (word.Lit 0))
      ∙ ap (λ v. chosen v (grow (word_at e (into_guard c p)) s r) (Whole (TreeWord 0))) tests)
      (λ holds. cell e (into_guard c p) ar r y t T k m (dep ∙ sym (binders-holds p.place.spot.path c)) (h.1 holds) sf z v g sh ws free)
  cell (add a b) p ar r y t T k m dep h sf z v g sh ws free =
      both Sum (λ a b. (a + b) % 2 ^ 64) (word_at a p) (word_at b p) (word_at (add a b) p) _ _ r m (λ a b. refl)
      (ap (λ w. grow w s r) (word_sum-is (word_at a p) (word_at b p)))
      (cell a p ar r y t T k m dep h.0 sf.1 z v.0 g sh ws free) (cell b p ar r y t T k m dep h.1 sf.2 (sf.0 ∙ z) v.1 g sh ws free)
  cell (sub a b) p ar r y t T k m dep h sf z v g sh ws free =
      both Difference (λ a b. (a + (2 ^ 64 - b)) % 2 ^ 64) (word_at a p) (word_at b p) (word_at (sub a b) p) _ _ r m (λ a b. refl)
      (ap (λ w. grow w s r) (word_difference-is (word_at a p) (word_at b p)))
      (cell a p ar r y t T k m dep h.0 sf.1 z v.0 g sh ws free) (cell b p ar r y t T k m dep h.1 sf.2 (sf.0 ∙ z) v.1 g sh ws free)
  cell (mul a b) p ar r y t T k m dep h sf z v g sh ws free =
      both Product (λ a b. (a * b) % 2 ^ 64) (word_at a p) (word_at b p) (word_at (mul a b) p) _ _ r m (λ a b. refl)
      (ap (λ w. grow w s r) (word_product-is (word_at a p) (word_at b p)))
      (cell a p ar r y t T k m dep h.0 sf.1 sf.0.0 v.0 g sh ws free) (cell b p ar r y t T k m dep h.1 sf.2 sf.0.1 v.1 g sh ws free)
  cell (gen n e) p ar r y t T k m dep h sf z v g sh ws free = absurd h
  cell (sum n e) p ar r y t T k m dep h sf z v g sh ws free = absurd h
  cell (let_in a b) p ar r y t T k m dep h sf z v g sh ws free = absurd h
  cell (concat a b) p ar r y t T k m dep h sf z v g sh ws free = absurd h
  cell (flatten e) p ar r y t T k m dep h sf z v g sh ws free = absurd h
  cell (split n e) p ar r y t T k m dep h sf z v g sh ws free = absurd h
  cell (transpose e) p ar r y t T k m dep h sf z v g sh ws free = absurd h
  cell (trunc_l n e) p ar r y t T k m dep h sf z v g sh ws free = absurd h
  cell (trunc_r n e) p ar r y t T k m dep h sf z v g sh ws free = absurd h
  cell (pad_l n e) p ar r y t T k m dep h sf z v g sh ws free = absurd h
  cell (pad_r n e) p ar r y t T k m dep h sf z v g sh ws free = absurd h
