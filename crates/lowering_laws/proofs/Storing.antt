-- A leaf is stored where the nodes around it send it.
use Rattle.std.proofs.Common.{◌≡◌, ℕ, ◌+◌, ◌*◌, List, [], ◌∷◌, Some, sym, ap, ◌∙◌, subst, arith, true}
use Rattle.std.specs.Prelude.{pos, ◌+ℤ◌}
use Rattle.std.specs.Option.{option_and_then}
use Rattle.affine_index.specs.Value.{items_value}
use Rattle.affine_index.specs.declared.form.Items.{Items}
use Rattle.affine_index.proofs.SumValue.{sum_of-value}
use Rattle.fact_list.specs.Facts.{binders}
use Rattle.loop_lang.specs.Reckoning.{Value}
use Rattle.reindexer.specs.Indices.{indices_after}
use Rattle.reindexer.specs.Ready.{AmountsHold, frames_ready}
use Rattle.reindexer.specs.Sending.{Within, row_order}
use Rattle.reindexer.proofs.Composed.{sent-is}
use Rattle.reindexer.proofs.SendLaws.{frames_go, not_dropped}
use Rattle.reindexer.proofs.SendLaws.{Values as Numbers}
use Rattle.term_tree.specs.Meaning.{extent}
use Rattle.term_tree.specs.Modules.{extents_at}
use Rattle.term_tree.specs.Shaped.{word_count}
use Rattle.final_rules.specs.Owed.{StoreFits, Values}
use Rattle.final_rules.specs.Places.{Place, frames_at, row_form, store_form}
use Rattle.final_rules.proofs.PlaceValues.{row-value}
use Rattle.lowering_laws.specs.Scatter.{placed}
use Rattle.lowering_laws.specs.Owes.{StorePlaced}
use Rattle.lowering_laws.specs.Sending.{goes, sends}
use Rattle.lowering_laws.proofs.Going.{amounts-hold, amounts-ready}
use Rattle.lowering_laws.proofs.Lying.{Target, all-count, extents-are, free-value}
use Rattle.lowering_laws.proofs.Turning.{Lands, Turning, frames-go}

-- the place of a tuple within extents
row-placed : (at : ℕ) (ds ix : List ℕ) → Within ds ix → placed at ds ix ≡ Some (at + row_order ds ix)
row-placed at [] [] h = let e : at ≡ at + 0 = omega arith in ap Some e
row-placed at [] (i ∷ ix) h = absurd h
row-placed at (d ∷ ds) [] h = absurd h
row-placed at (d ∷ ds) (i ∷ ix) h =
    let e : at + i * word_count ds + row_order ds ix ≡ at + (i * word_count ds + row_order ds ix) = omega arith in
    row-placed (at + i * word_count ds) ds ix h.1 ∙ ap Some e

same_some : (xs ys : List ℕ) → Some xs ≡ Some ys → xs ≡ ys
same_some xs ys h = cc

values-are : (s y : List ℕ) (xs : List Items) (ix : List ℕ) → Numbers s y xs ix → Values s xs y ix
values-are s y [] [] h = tt
values-are s y [] (i ∷ ix) h = absurd h
values-are s y (x ∷ xs) [] h = absurd h
values-are s y (x ∷ xs) (i ∷ ix) h = (h.0, values-are s y xs ix h.1)

module _ (s : List ℕ) where
  -- the tuple that frames send a leaf to, whose numbers are the indices'
  pub record Sent (p : Place) (r y es : List ℕ) : Type 0 where
    pub tuple : List ℕ
    pub within : Within es tuple
    pub numbers : Values s (indices_after (frames_at p) []) y tuple
    pub goes_there : goes s r p.spot.around Some [] ≡ Some tuple

  sent-there : (p : Place) (r y es : List ℕ) → Turning s p.spot r y → Lands s es [] (goes s r p.spot.around Some) → StoreFits s p r y → Sent p r y es
  sent-there p r y es t g f =
      let fs = frames_at p in
      let ready : frames_ready fs ≡ true = amounts-ready s (binders p.spot.path) p.spot.around t.amounts in
      let hold : AmountsHold s fs = amounts-hold s (binders p.spot.path) p.spot.around t.amounts in
      let d = not_dropped s y fs [] [] ready hold tt f.0 in
      let there : goes s r p.spot.around Some [] ≡ Some d.0 = ap (λ h. h []) (sym (frames-go s p.spot r y Some t)) ∙ d.1 in
      let go = frames_go s y fs Some [] [] d.0 ready hold tt d.1 in
      let numbers : Values s (indices_after fs []) y go.0 = values-are s y (indices_after fs []) go.0 go.1 in
      record {
        tuple = d.0;
        within = g [] d.0 tt there;
        numbers = subst (Values s (indices_after fs []) y) (same_some go.0 d.0 go.2) numbers;
        goes_there = there;
      }

  pub store-placed : (p : Place) (r y es : List ℕ) → Turning s p.spot r y → Target s p.target es → Lands s es [] (goes s r p.spot.around Some)
      → StoreFits s p r y → StorePlaced s p r
  store-placed p r y es t b g f =
      let u = sent-there p r y es t g f in
      let ns = p.target.extents in
      let same : es ≡ extents_at ns s = sym (extents-are s ns es b.values) in
      let within : Within (extents_at ns s) u.tuple = subst (λ d. Within d u.tuple) same u.within in
      let q = row_order (extents_at ns s) u.tuple in
      let zero : 0 + q ≡ q = omega arith in
      let xs = indices_after (frames_at p) [] in
      let row : items_value s y (row_form ns xs) ≡ pos q = row-value s y ns xs u.tuple (all-count s y ns es b.free b.values) u.numbers within in
      let offset : items_value s y p.target.offset ≡ pos (extent p.target.offset s) =
      free-value s p.target.offset (extent p.target.offset s) y b.offset.0 b.offset.1 in
      let turned : q + extent p.target.offset s ≡ extent p.target.offset s + q = omega arith in
      let value : items_value s y (store_form p) ≡ pos (extent p.target.offset s + q) =
      sum_of-value s y (row_form ns xs) p.target.offset ∙ (λ i. row i +ℤ offset i) ∙ ap pos turned in
      let last : sends (extents_at ns s) s r p.spot.around [] ≡ Some q =
      ap (λ h. h []) (sym (frames-go s p.spot r y (placed 0 (extents_at ns s)) t))
      ∙ sent-is s y (frames_at p) (placed 0 (extents_at ns s)) []
      ∙ ap (λ h. option_and_then (placed 0 (extents_at ns s)) (h [])) (frames-go s p.spot r y Some t)
      ∙ ap (option_and_then (placed 0 (extents_at ns s))) u.goes_there
      ∙ row-placed 0 (extents_at ns s) u.tuple within ∙ ap Some zero in
      (q, last, f.1.0 ∙ ap Value value)
