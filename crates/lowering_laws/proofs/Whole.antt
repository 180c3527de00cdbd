-- The loops of every term are right, and the loops of an output.
use Rattle.std.proofs.Common.{◌≡◌, ℕ, ◌+◌, ◌^◌, ◌<◌, List, [], length, get_or, replicate, Some, pos, refl, sym, ap, ◌∙◌, subst, arith}
use Rattle.std.proofs.lemmas.List.{length-replicate}
use Rattle.term_tree.specs.declared.term.Term.{Term, Lit, TVar, WordOf}
use Rattle.term_tree.specs.Syntax.{index, gen, sum, guard, let_in, add, sub, mul, concat, flatten, split, transpose, trunc_l, trunc_r, pad_l, pad_r}
use Rattle.term_tree.specs.declared.term.OutputDecl.{OutputDecl}
use Rattle.term_tree.specs.declared.term.Module.{Module}
use Rattle.term_tree.specs.Shaped.{flat, word_count}
use Rattle.term_tree.specs.Meaning.{Bound, extent, extents_of, dims, den}
use Rattle.term_tree.specs.Modules.{extents_at}
use Rattle.affine_index.specs.Form.{literal_form}
use Rattle.shape_rules.specs.Fits.{AllShaped, AllWords}
use Rattle.shape_rules.proofs.DenShape.{den_shape}
use Rattle.shape_rules.proofs.DenWords.{den_words}
use Rattle.loop_lang.specs.declared.word.Buf.TheVariants.{Output}
use Rattle.loop_lang.specs.Actions.{Action, then_follow, zeroed, acts_all}
use Rattle.loop_lang.specs.Memory.{Memory}
use Rattle.final_rules.specs.Rules.{output_extents}
use Rattle.lowering_laws.specs.Scatter.{placed, scatter}
use Rattle.lowering_laws.proofs.Algebra.{Words}
use Rattle.lowering_laws.proofs.RowOrder.{placed-is, place, place_lt, place_inj, flat_from_zeros}
use Rattle.lowering_laws.proofs.Does.{Area, Out, region, target_after, Does, does_then, does_zero}
use Rattle.lowering_laws.proofs.Calm.{calm_after}
use Rattle.lowering_laws.proofs.Clear.{zero_at}
use Rattle.lowering_laws.specs.Marks.{Marks}
use Rattle.lowering_laws.specs.Lowered.{loops_at, output_spot}
use Rattle.lowering_laws.proofs.Words.{AllHeld}
use Rattle.lowering_laws.proofs.Right.{State, Owed, Right, held_by, lit_right, word_of_right, sub_right, mul_right, sum_right, gen_right, guard_right}
use Rattle.lowering_laws.proofs.Right.{add_right, let_right}
use Rattle.lowering_laws.proofs.StoredReads.{t_var_right, index_right}
use Rattle.lowering_laws.proofs.Reshaped.{concat_right, flatten_right, split_right, transpose_right, trunc_l_right, trunc_r_right, pad_l_right, pad_r_right}

module _ (s : List ℕ) (many len : ℕ) where
  pub right : (e : Term) → Right s many len e
  right (Lit w) = lit_right s many len w
  right (TVar q) = t_var_right s many len q
  right (WordOf x) = word_of_right s many len x
  right (index e x) = index_right s many len e x
  right (gen n e) = gen_right s many len n e (right e)
  right (sum n e) = sum_right s many len n e (right e)
  right (guard c e) = guard_right s many len c e (right e)
  right (let_in a b) = let_right s many len a b (right a) (right b)
  right (add a b) = add_right s many len a b (right a) (right b)
  right (sub a b) = sub_right s many len a b
  right (mul a b) = mul_right s many len a b
  right (concat a b) = concat_right s many len a b (right a) (right b)
  right (flatten e) = flatten_right s many len e (right e)
  right (split k e) = split_right s many len k e (right e)
  right (transpose e) = transpose_right s many len e (right e)
  right (trunc_l a e) = trunc_l_right s many len a e (right e)
  right (trunc_r a e) = trunc_r_right s many len a e (right e)
  right (pad_l a e) = pad_l_right s many len a e (right e)
  right (pad_r a e) = pad_r_right s many len a e (right e)

  -- an output that is zeroed and then written holds the words of what its term denotes
  pub output_right : (md : Module) (o : OutputDecl) (j : ℕ) (ms : Marks) (ar : List Area) (t : List Bound) (m : Memory)
      → j < length m.outputs → length (get_or m.outputs j []) ≡ word_count (dims o.term s (extents_of t)) → word_count (dims o.term s (extents_of t)) < 2 ^ 63
      → extents_at (output_extents md o) s ≡ dims o.term s (extents_of t) → extent (literal_form (pos 0)) s ≡ 0
      → Owed s many len o.term (output_spot md o j) t [] [] 0
      → AllHeld s (output_spot md o j).place.sites (output_spot md o j).buffers ar t (Out j) 0 m → AllShaped t → AllWords t → length m.scratch ≡ many
      → length (region m) ≡ len
      → Does (then_follow (zeroed (Output j) (pos 0) 0 (word_count (dims o.term s (extents_of t)))) (acts_all (loops_at o.term (output_spot md o j) ms) s []))
      (Out j) 0 m (flat (den o.term s [] t))
  output_right md o j ms ar t m there long small ext zero_is ow held shaped words sm sl =
      does_then (zeroed (Output j) (pos 0) 0 n) body (Out j) 0 m zs (flat (den o.term s [] t))
      (does_zero n 0 (Out j) 0 m there (omega (arith, long)) (omega (arith, long, small)))
      (λ a p.
      let st : State s many len (output_spot md o j) ar t (Out j) ds 0 a = record {
        target = target_after (Out j) 0 m a zs there p;
        long = ap length p.there ∙ length-replicate {A = ℕ} n 0;
        word = subst Words (sym p.there) (λ q. subst (λ v. v < 2 ^ 64) (sym (zero_at n q)) (omega arith));
        held = held_by s many len (Out j) (Out j) 0 0 m a (λ x h. (h, calm_after x (Out j) 0 m a zs h p)) (output_spot md o j).place.sites
            (output_spot md o j).buffers ar t held;
        shaped = shaped;
        words = words;
        scratch_many = p.many ∙ sm;
        scratch_long = p.long ∙ sl;
        free = omega arith;
      } in
      subst (Does body (Out j) 0 a) (ap (scatter (den o.term s [] t) (placed 0 ds)) p.there
      ∙ flat_from_zeros (den o.term s [] t) ds (den_shape o.term s [] t ow.shapes shaped) (den_words o.term s [] t ow.literals words))
      (right o.term (output_spot md o j) ms ar t (Out j) ds [] [] (placed 0 ds) 0 a
      (record { depth_is = refl; sends_is = refl; below = tt; buffer = refl; offset = zero_is; extents = ext; free = zero_is }) ow
      (λ ix jx q v w g h. let e : Some (0 + place ds ix) ≡ Some (0 + place ds jx) = sym (placed-is 0 ds ix v) ∙ g ∙ sym h ∙ placed-is 0 ds jx w in
      let e' : 0 + place ds ix ≡ 0 + place ds jx = cc in place_inj ds ix jx v w (omega arith))
      (λ ix q v g. let e : Some (0 + place ds ix) ≡ Some q = sym (placed-is 0 ds ix v) ∙ g in
      let e' : 0 + place ds ix ≡ q = cc in omega (arith, place_lt ds ix v)) st (λ ix q v g. ap (λ ws. get_or ws q 0) p.there ∙ zero_at n q)))
    where
      ds : List ℕ
      ds = dims o.term s (extents_of t)

      n : ℕ
      n = word_count ds

      zs : List ℕ
      zs = replicate n 0

      body : List Action
      body = acts_all (loops_at o.term (output_spot md o j) ms) s []
