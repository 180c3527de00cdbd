-- Comparisons and conditions are read as their grammar says.
use Rattle.std.proofs.Common.{◌≡◌, ◌∷◌, ◌++◌, ℕ, Bool, true, false, List, [], Option, Some, None, Result, Ok, Err, pos, refl, sym, ap, ◌∙◌, append-nil}
use Rattle.text_tokens.specs.declared.kind.Kind.{Kind}
use Rattle.text_tokens.specs.declared.kind.Kind.TheVariants as k
use Rattle.text_tokens.specs.Kinds.{Text, same_kind}
use Rattle.text_tokens.specs.Words.{Word, Input, peek, next}
use Rattle.affine_index.specs.Form.{literal_form}
use Rattle.affine_index.specs.Sum.{difference_of}
use Rattle.affine_index.specs.declared.cond.Cmp.{Cmp}
use Rattle.affine_index.specs.declared.cond.Cmp.TheVariants.{Ge, Eq}
use Rattle.affine_index.specs.declared.cond.Cond.{Cond}
use Rattle.affine_index.specs.declared.cond.Rel.{Rel}
use Rattle.affine_index.specs.declared.cond.Rel.TheVariants as rel
use Rattle.affine_index.specs.declared.form.Items.{Items}
use Rattle.reader_laws.specs.declared.fault.Fault.{Fault}
use Rattle.reader_laws.specs.Steps.{Parser, ◌>>=◌, ◌>>◌, pure, take_word, kind, no_value}
use Rattle.reader_laws.specs.Chain.{joined, repeated}
use Rattle.reader_laws.specs.Grammar.{IsOfJoining, IsWordOf, IsNothing, OneOf, Both, IsRepeated}
use Rattle.reader_laws.proofs.Outcomes.{ahead, ahead_append, then_ok, ok_value, ok_input, taken}
use Rattle.reader_laws.proofs.Local.{Local, LocalBut, LocalOn, Nowhere, AtWord, weaker, stronger, local_pure, local_back, local_peek, local_bind, on_bind}
use Rattle.reader_laws.proofs.Local.{on_take, on_local}
use Rattle.reader_laws.proofs.Lawful.{Lawful, Found, lawful_both, lawful_pure}
use Rattle.reader_laws.proofs.Repeated.{lawful_repeated, repeated_first}
use Rattle.reader_laws.proofs.Starts.{nothing_frees}
use Rattle.source_grammar.specs.Limits.{tested}
use Rattle.reader_laws.specs.Levels.{unexpected_in}
use Rattle.source_grammar.specs.Index.{Sum, IsIndex}
use Rattle.source_grammar.specs.ReadIndex.{index}
use Rattle.source_grammar.specs.Conditions.{if_tested, compared, IsMade, IsRelationBy, most_comparisons, with_last, IsComparison, IsCondition}
use Rattle.source_grammar.specs.ReadConditions.{relation, needed, against, comparison, condition}
use Rattle.reader_laws.proofs.LevelLaws.{local_unexpected_in}
use Rattle.source_grammar.proofs.IndexLaws.{sum_goes_on, lawful_index, tested_faults}

-- ---- faults

if_tested_faults : (f : Items → Cmp) (i : Items) (fault : Fault) → if_tested f (tested i) ≡ Err fault → IsOfJoining fault
if_tested_faults f i fault h = go (tested i) refl h
  where
    go : (r : Result Items Fault) → tested i ≡ r → if_tested f r ≡ Err fault → IsOfJoining fault
    go (Ok x) e h = absurd cc
    go (Err g) e h = tested_faults i fault (e ∙ same g h)
      where
        same : (g : Fault) → if_tested f (Err g) ≡ Err fault → (let r : Result Items Fault = Err g in r) ≡ Err fault
        same g h = cc

pub compared_faults : (r : Rel) (a b : Items) (fault : Fault) → compared r a b ≡ Err fault → IsOfJoining fault
compared_faults rel.Lt a b fault h = if_tested_faults Ge (difference_of (difference_of b a) (literal_form (pos 1))) fault h
compared_faults rel.Le a b fault h = if_tested_faults Ge (difference_of b a) fault h
compared_faults rel.Gt a b fault h = if_tested_faults Ge (difference_of (difference_of a b) (literal_form (pos 1))) fault h
compared_faults rel.Ge a b fault h = if_tested_faults Ge (difference_of a b) fault h
compared_faults rel.Eq a b fault h = if_tested_faults Eq (difference_of a b) fault h

-- ---- the word of a relation

no_end : (kd : Kind) (r : Rel) → relation kd ≡ Some r → kd ≡ k.End → ⊥
no_end k.End r h is = cc
no_end _ r h is = cc

abbrev some_rel : Rel → Option Rel
some_rel r = Some r

same_rel : (r s : Rel) → some_rel r ≡ some_rel s → r ≡ s
same_rel r s h = cc

one_word : (a : Kind) (r s : Rel) (w : Word) → w.kind ≡ a → some_rel r ≡ some_rel s → Both (IsWordOf a no_value) (λ _. IsNothing r) (w ∷ []) s
one_word a r s w is e = record {
  value = tt;
  front = w ∷ [];
  rest = [];
  words = refl;
  is_first = record { word = w; is = is; reads_as = refl; words = refl };
  is_then = (refl, sym (same_rel r s e));
}

related_by : (kd : Kind) (w : Word) (s : Rel) → w.kind ≡ kd → relation kd ≡ Some s → IsRelationBy kd (w ∷ []) s
related_by k.Less w s is e = one_word k.Less rel.Lt s w is e
related_by k.LessEqual w s is e = one_word k.LessEqual rel.Le s w is e
related_by k.Greater w s is e = one_word k.Greater rel.Gt s w is e
related_by k.GreaterEqual w s is e = one_word k.GreaterEqual rel.Ge s w is e
related_by k.Equal w s is e = one_word k.Equal rel.Eq s w is e
related_by _ w s is e = absurd cc

record Related (ws : List Word) (r : Rel) : Type 0 where
  word : Word
  words : ws ≡ word ∷ []
  is : relation word.kind ≡ Some r

word_of : (a : Kind) (r s : Rel) (ws : List Word) → relation a ≡ Some r → Both (IsWordOf a no_value) (λ _. IsNothing r) ws s → Related ws s
word_of a r s ws e b = record {
  word = b.is_first.word;
  words = b.words ∙ ap (λ (vs : List Word). vs ++ b.rest) b.is_first.words ∙ ap (λ (vs : List Word). b.is_first.word ∷ vs) b.is_then.0;
  is = ap relation b.is_first.is ∙ e ∙ ap some_rel (sym b.is_then.1);
}

related : (kd : Kind) (ws : List Word) (s : Rel) → IsRelationBy kd ws s → Related ws s
related k.Less ws s b = word_of k.Less rel.Lt s ws refl b
related k.LessEqual ws s b = word_of k.LessEqual rel.Le s ws refl b
related k.Greater ws s b = word_of k.Greater rel.Gt s ws refl b
related k.GreaterEqual ws s b = word_of k.GreaterEqual rel.Ge s ws refl b
related k.Equal ws s b = word_of k.Equal rel.Eq s ws refl b
related _ ws s b = absurd b

-- ---- what is joined once

joined_ok : {A : Type 0} (w : Word) (r : Result A Fault) (i j : Input) (x : A) → joined w r pure i ≡ Ok (x, j) → (r ≡ Ok x) × (i ≡ j)
joined_ok w (Ok v) i j x h = (ap (λ (y : _). Ok y) (ok_value v x i j h), ok_input v x i j h)
joined_ok w (Err fault) i j x h = absurd cc

local_joined : {A : Type 0} (w : Word) (r : Result A Fault) → ((fault : Fault) → r ≡ Err fault → IsOfJoining fault)
    → LocalBut (AtWord w) (joined {A = A} w r pure)
local_joined w (Ok x) joint = weaker (AtWord w) (pure x) (local_pure Nowhere x)
local_joined w (Err fault) joint = local_back (AtWord w) fault w.place (joint fault refl, refl)

module _ (names : Text → Result Items Fault) (levels : ℕ) where
  abbrev Against : Items → List Word → Cmp → Type 0
  Against a = Both (OneOf IsRelationBy) (λ r. Both (IsIndex names levels Sum) (λ b. IsMade (compared r a b)))

  abbrev right : Parser Items
  right = index names levels Sum

  abbrev turn : Items → Word → Rel → Parser Cmp
  turn a w r = take_word >> (right >>= λ b. joined w (compared r a b) pure)

  against_sound : (a : Items) (i j : Input) (x : Cmp) → against names levels a i ≡ Ok (x, j) → Found (Against a) i x j
  unfolding against
  against_sound a i j x e = go (relation (peek i).kind) refl e
    where
      go : (v : Option Rel) → relation (peek i).kind ≡ v → needed levels v (turn a (peek i)) i ≡ Ok (x, j) → Found (Against a) i x j
      go None is e = absurd cc
      go (Some r) is e =
          let more : Items → Parser Cmp = λ b. joined (peek i) (compared r a b) pure in
          let b = then_ok (right (next i)) more x j e in
          let f = (lawful_index names levels Sum).sound (next i) b.at b.value b.first in
          let c = joined_ok (peek i) (compared r a b.value) b.at j x b.rest in
          record {
            front = peek i ∷ f.front;
            words = taken i (no_end (kind i) r is) ∙ ap (ahead (peek i ∷ [])) (f.words ∙ ap (ahead f.front) c.1);
            is = record {
              value = r;
              front = peek i ∷ [];
              rest = f.front;
              words = refl;
              is_first = (kind i, related_by (kind i) (peek i) r refl is);
              is_then = record { value = b.value; front = f.front; rest = []; words = sym (append-nil f.front); is_first = f.is; is_then = (refl, c.0) };
            };
          }

  against_one : (a : Items) (w : Word) (l m : Input) (r : Rel) (b : Items) (x : Cmp) → relation w.kind ≡ Some r → right l ≡ Ok (b, m) → compared r a b ≡ Ok x
      → against names levels a (ahead (w ∷ []) l) ≡ Ok (x, m)
  unfolding against peek next
  against_one a w l m r b x is reads made = rw (is, reads, made) refl

  against_complete : (a : Items) (front : List Word) (x : Cmp) (j : Input) → Against a front x → sum_goes_on (kind j) ≡ false
      → against names levels a (ahead front j) ≡ Ok (x, j)
  against_complete a front x j b stops =
      let w = related b.is_first.0 b.front b.value b.is_first.1 in
      let c = b.is_then in
      let whole : front ≡ w.word ∷ c.front = b.words ∙ ap (λ (vs : List Word). vs ++ b.rest) w.words
      ∙ ap (λ (vs : List Word). w.word ∷ vs) (c.words ∙ ap (λ (vs : List Word). c.front ++ vs) c.is_then.0 ∙ append-nil c.front) in
      let reads = (lawful_index names levels Sum).complete c.front c.value j c.is_first stops in
      ap (λ (vs : List Word). against names levels a (ahead vs j)) whole ∙ against_one a w.word (ahead c.front j) j b.value c.value x w.is reads c.is_then.1

  against_local : (a : Items) → Local (against names levels a)
  unfolding against
  against_local a = local_peek Nowhere (λ w. needed levels (relation w.kind) (turn a w)) (λ w. go w (relation w.kind) refl)
    where
      go : (w : Word) (v : Option Rel) → relation w.kind ≡ v → LocalOn Nowhere w (needed levels v (turn a w))
      go w None is = on_local Nowhere w (unexpected_in levels) (local_unexpected_in levels)
      go w (Some r) is =
          let M = AtWord w in
          let more : Items → Parser Cmp = λ b. joined w (compared r a b) pure in
          stronger w (take_word >> (right >>= more)) (on_bind M w take_word (λ _. right >>= more) (on_take M w (no_end w.kind r is)) (λ _.
          local_bind M right more (weaker M right (lawful_index names levels Sum).depends) (λ b. local_joined w (compared r a b) (compared_faults r a b))))

  lawful_against : (a : Items) → Lawful (against names levels a) (Against a) sum_goes_on
  lawful_against a = record { sound = against_sound a; complete = against_complete a; depends = against_local a }

  related_ends : (kd : Kind) (r : Rel) → relation kd ≡ Some r → sum_goes_on kd ≡ false
  related_ends k.Less r e = refl
  related_ends k.LessEqual r e = refl
  related_ends k.Greater r e = refl
  related_ends k.GreaterEqual r e = refl
  related_ends k.Equal r e = refl
  related_ends _ r e = absurd cc

  first_ends : (a : Items) (ws : List Word) (x : Cmp) (j : Input) → Against a ws x → sum_goes_on (kind j) ≡ false → sum_goes_on (kind (ahead ws j)) ≡ false
  unfolding peek
  first_ends a ws x j b e =
      let w = related b.is_first.0 b.front b.value b.is_first.1 in
      ap (λ (vs : List Word). sum_goes_on (kind (ahead vs j))) (b.words ∙ ap (λ (vs : List Word). vs ++ b.rest) w.words) ∙ related_ends w.word.kind b.value w.is

  pub lawful_comparison : Lawful (comparison names levels) (IsComparison names levels) sum_goes_on
  unfolding comparison
  lawful_comparison = lawful_both right (against names levels) (IsIndex names levels Sum) Against sum_goes_on sum_goes_on (lawful_index names levels Sum)
      lawful_against first_ends

abbrev pub condition_goes_on : Kind → Bool
condition_goes_on k.And = true
condition_goes_on kd = sum_goes_on kd

and_stops : (kd : Kind) → condition_goes_on kd ≡ false → (same_kind kd k.And ≡ false) × (sum_goes_on kd ≡ false)
unfolding same_kind
and_stops k.And h = absurd cc
and_stops k.Plus h = absurd cc
and_stops k.Minus h = absurd cc
and_stops k.Star h = absurd cc
and_stops k.Slash h = absurd cc
and_stops k.Percent h = absurd cc
and_stops _ h = (refl, refl)

less_goes_on : (kd : Kind) → condition_goes_on kd ≡ false → sum_goes_on kd ≡ false
less_goes_on kd h = (and_stops kd h).1

module _ (names : Text → Result Items Fault) (levels : ℕ) where
  more_comparisons : (c : Cmp)
      → Lawful (repeated k.And with_last (λ _. comparison names levels) most_comparisons (c ∷ []))
      (IsRepeated k.And with_last (λ _. IsComparison names levels) most_comparisons (c ∷ [])) condition_goes_on
  more_comparisons c = lawful_repeated k.And with_last (λ _. comparison names levels) (λ _. IsComparison names levels) sum_goes_on condition_goes_on
      (λ (z : k.And ≡ k.End). cc) refl and_stops (λ _. lawful_comparison names levels) most_comparisons (c ∷ [])

  pub lawful_condition : Lawful (condition names levels) (IsCondition names levels) condition_goes_on
  unfolding condition
  lawful_condition =
      let made : List Cmp → Cond = λ cs. record { all = cs } in
      let more : Cmp → Parser (List Cmp) = λ c. repeated k.And with_last (λ _. comparison names levels) most_comparisons (c ∷ []) in
      lawful_both (comparison names levels) (λ c. more c >>= λ cs. pure (made cs)) (IsComparison names levels) _ sum_goes_on condition_goes_on
      (lawful_comparison names levels)
      (λ c. lawful_both (more c) (λ cs. pure (made cs)) _ (λ cs. IsNothing (made cs)) condition_goes_on condition_goes_on (more_comparisons c)
      (λ cs. lawful_pure (made cs) condition_goes_on) (λ cs ws y j is e. nothing_frees (made cs) condition_goes_on ws y j is e))
      (λ c ws y j is e. frees c ws y j is e)
    where
      frees : (c : Cmp) (ws : List Word) (y : Cond) (j : Input)
          → Both (IsRepeated k.And with_last (λ _. IsComparison names levels) most_comparisons (c ∷ [])) (λ cs. IsNothing (record { all = cs })) ws y
          → condition_goes_on (kind j) ≡ false → sum_goes_on (kind (ahead ws j)) ≡ false
      frees c ws y j is e =
          let at : ahead ws j ≡ ahead is.front (ahead is.rest j) = ap (λ (vs : List Word). ahead vs j) is.words ∙ sym (ahead_append is.front is.rest j) in
          let last : sum_goes_on (kind (ahead is.rest j)) ≡ false = ap (λ (vs : List Word). sum_goes_on (kind (ahead vs j))) is.is_then.0
          ∙ less_goes_on (kind j) e in
          ap (λ (l : Input). sum_goes_on (kind l)) at ∙ repeated_first k.And with_last (λ _. IsComparison names levels) sum_goes_on refl most_comparisons
          (c ∷ []) is.front is.value (ahead is.rest j) is.is_first last
