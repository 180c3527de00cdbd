-- Reads of several names, one after another.
use Rattle.std.proofs.Common.{◌≡◌, ℕ, ◌+◌, ◌<◌, ◌≤◌, List, [], ◌∷◌, ◌++◌, length, Some, zero, suc, refl, sym, ◌∙◌, ap, subst, inl, inr, arith}
use Rattle.std.proofs.lemmas.List.{take_more, drop_more, map-append, take-append-drop}
use Rattle.std.specs.declared.string.String.{String}
use Rattle.std.specs.declared.vec.Vec.{Vec}
use Rattle.std.specs.String.{string_bytes}
use Rattle.atl_driver.specs.Form.{texts}
use Rattle.std.specs.Prelude.{map, take, drop, IfSome, Contains, slice_index_or}
use Rattle.std.specs.declared.option.Option.{Option}
use Rattle.atl_edges.specs.Causes.{Rose}
use Rattle.atl_driver.specs.Reading.{MayBe, EachMayBe, EachIs, IsReadCause, StopsFor, GoesOn}
use Rattle.atl_driver.specs.declared.refusal.Refusal.{Refusal}
use Rattle.atl_driver.specs.declared.refusal.Refusal.TheVariants.{Refused, Usage, ReadFault, TooLong, Memory}

-- one more read
pub EachMayBe-more : (told : List ℕ → Option (List ℕ)) (names contents : List (List ℕ)) (name content : List ℕ) → EachMayBe told names contents
    → MayBe (told name) content → EachMayBe told (names ++ name ∷ []) (contents ++ content ∷ [])
EachMayBe-more told [] [] name content each one = (one, tt)
EachMayBe-more told [] (c ∷ contents) name content each one = absurd each
EachMayBe-more told (n ∷ names) [] name content each one = absurd each
EachMayBe-more told (n ∷ names) (c ∷ contents) name content each one = (each.0, EachMayBe-more told names contents name content each.1 one)

module _ {A : Type 0} where
  -- the texts of words, around the word at an index
  pub texts_around : (words : List (String A)) (i : ℕ) (word : String A) → i < length words → word ≡ slice_index_or words i word
      → texts words ≡ texts (take i words) ++ string_bytes word ∷ texts (drop (i + 1) words)
  texts_around words i word lt at =
      let rest : drop i words ≡ word ∷ drop (i + 1) words = drop_more words i word lt ∙ ap (λ (w : String A). w ∷ drop (i + 1) words) (sym at) in
      ap (λ (ws : List (String A)). texts ws) (sym (take-append-drop i words) ∙ ap (λ (ws : List (String A)). take i words ++ ws) rest)
      ∙ map-append (λ (w : String A). string_bytes w) (take i words) (word ∷ drop (i + 1) words)

module _ {A B : Type 0} where
  -- one more read, by the index of the word
  pub each_more : (told : List ℕ → Option (List ℕ)) (words : List (String A)) (i : ℕ) (word : String A) (contents next : List (Vec ℕ B)) (content : Vec ℕ B)
      → i < length words → word ≡ slice_index_or words i word → next ≡ contents ++ content ∷ []
      → EachMayBe told (texts (take i words)) (map (λ (c : Vec ℕ B). c.items) contents) → MayBe (told (string_bytes word)) content.items
      → EachMayBe told (texts (take (i + 1) words)) (map (λ (c : Vec ℕ B). c.items) next)
  each_more told words i word contents next content lt at pushed each one =
      let more : take (i + 1) words ≡ take i words ++ word ∷ [] = take_more words i word lt ∙ ap (λ (w : String A). take i words ++ w ∷ []) (sym at) in
      let names_more : texts (take (i + 1) words) ≡ texts (take i words) ++ string_bytes word ∷ [] =
      ap (λ (ws : List (String A)). texts ws) more ∙ map-append (λ (w : String A). string_bytes w) (take i words) (word ∷ []) in
      let contents_more : map (λ (c : Vec ℕ B). c.items) next ≡ map (λ (c : Vec ℕ B). c.items) contents ++ content.items ∷ [] =
      ap (λ (cs : List (Vec ℕ B)). map (λ (c : Vec ℕ B). c.items) cs) pushed ∙ map-append (λ (c : Vec ℕ B). c.items) contents (content ∷ []) in
      rw (names_more, contents_more) (EachMayBe-more told _ _ _ _ each one)

-- told contents are the ones that the reads answered
pub each_is : (told : List ℕ → Option (List ℕ)) (names contents others : List (List ℕ)) → EachIs told names contents → EachMayBe told names others
    → others ≡ contents
each_is told [] [] [] is may = refl
each_is told [] [] (d ∷ others) is may = absurd may
each_is told [] (c ∷ contents) others is may = absurd is
each_is told (n ∷ names) [] others is may = absurd is
each_is told (n ∷ names) (c ∷ contents) [] is may = absurd may
each_is told (n ∷ names) (c ∷ contents) (d ∷ others) is may =
    let first : d ≡ c = subst (λ (o : Option (List ℕ)). IfSome o (λ held. d ≡ held)) is.0 may.0.same in
    let rest : others ≡ contents = each_is told names contents others is.2 may.1 in
    cc

-- a name among them is told, and within the limit
pub told_among : (told : List ℕ → Option (List ℕ)) (before after : List (List ℕ)) (name : List ℕ) (contents : List (List ℕ))
    → EachIs told (before ++ name ∷ after) contents → (content : List ℕ) × (told name ≡ Some content) × (length content ≤ 1048576)
told_among told [] after name [] is = absurd is
told_among told [] after name (c ∷ contents) is = (c, is.0, is.1)
told_among told (n ∷ before) after name [] is = absurd is
told_among told (n ∷ before) after name (c ∷ contents) is = told_among told before after name contents is.2

-- a name stands among those around it
pub Contains-between : (before after : List (List ℕ)) (name : List ℕ) → Contains (before ++ name ∷ after) name
Contains-between [] after name = (zero, omega arith, refl)
Contains-between (n ∷ before) after name =
    let rest = Contains-between before after name in
    (suc rest.0, omega (arith, rest.1), rest.2)

module _ {F : Type 0} (held : F → List ℕ → Option (List ℕ)) (faults taken : F → List ℕ → ℕ) where
  -- two calls after each other
  pub GoesOn-trans : (a b c : F) → GoesOn held faults a b → GoesOn held faults b c → GoesOn held faults a c
  GoesOn-trans a b c p q = record {
    same = λ name. q.same name ∙ p.same name;
    later = λ name. let x = p.later name in let y = q.later name in omega arith;
  }

  -- a count that rose since a later call rose since an earlier one
  pub rose_since : (a b c : ℕ) → a ≤ b → Rose b c → Rose a c
  rose_since a b c le rose = elim rose as (λ _. Rose a c) [ inl more ↦ inl (omega arith) | inr end ↦ inr end ]

  -- the reads stopped at a name, whose read failed after those before it
  pub stops_at : (old mid new : F) (names before after contents : List (List ℕ)) (name : List ℕ) (refusal : Refusal) → GoesOn held faults old mid
      → names ≡ before ++ name ∷ after → EachMayBe (held old) before contents → IsReadCause held faults taken mid new refusal name
      → StopsFor held faults taken old new refusal names
  stops_at old mid new names before after contents name (Refused fault) on order read cause = cause
  stops_at old mid new names before after contents name Usage on order read cause = cause
  stops_at old mid new names before after contents name Memory on order read cause = tt
  stops_at old mid new names before after contents name ReadFault on order read cause = record {
    name = name;
    before = before;
    after = after;
    contents = contents;
    in_order = order;
    read = read;
    why = rose_since _ _ _ (on.later name) cause;
  }
  stops_at old mid new names before after contents name TooLong on order read cause = record {
    name = name;
    before = before;
    after = after;
    contents = contents;
    in_order = order;
    read = read;
    why = record {
      took = cause.took;
      longer = subst (λ (o : Option (List ℕ)). IfSome o (λ content. 1048576 < length content)) (on.same name) cause.longer;
    };
  }
