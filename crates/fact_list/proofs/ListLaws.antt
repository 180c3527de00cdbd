-- What the list of facts rests on.
use Rattle.std.proofs.Common.{◌≡◌, ℕ, zero, suc, ◌+◌, ◌-◌, ◌<◌, ◌≤◌, ◌⊎◌, inl, inr, List, [], ◌∷◌, ◌++◌, length, drop, take, get_or, append_assoc, refl, ap}
use Rattle.std.proofs.Common.{sym, ◌∙◌, arith, length-append}
use Rattle.std.proofs.Math.Seq.{take-add}
use Rattle.std.proofs.lemmas.List.{length-drop}
use Rattle.affine_index.specs.Condition.{cmp_form}
use Rattle.affine_index.specs.declared.cond.Cmp.{Cmp}
use Rattle.affine_index.specs.declared.form.Atom.{Atom}
use Rattle.fact_list.proofs.Appending.{append-next, append-none, drop-all, drop-item, take-all, take-item}
use Rattle.affine_index.specs.declared.form.Items.{Items}
use Rattle.fact_list.specs.Facts.{comparisons, declared_facts, facts_of, followed, meet_form}
use Rattle.fact_list.specs.declared.facts.Facts.{Facts}
use Rattle.fact_list.specs.declared.role.Fact.{Fact}
use Rattle.fact_list.specs.declared.met.Met.{Met}

take_less : (n : ℕ) (xs ys : List Fact) → n ≤ length xs → take n (xs ++ ys) ≡ take n xs
take_less zero xs ys h = refl
take_less (suc n) [] ys h = absurd (omega arith)
take_less (suc n) (x ∷ xs) ys h = ap (λ zs. x ∷ zs) (take_less n xs ys (omega arith))

drop_less : (n : ℕ) (xs ys : List Fact) → n ≤ length xs → drop n (xs ++ ys) ≡ drop n xs ++ ys
drop_less zero xs ys h = refl
drop_less (suc n) [] ys h = absurd (omega arith)
drop_less (suc n) (x ∷ xs) ys h = drop_less n xs ys (omega arith)

pub take-few : (n : ℕ) (xs : List Fact) → length (take n xs) ≤ n
take-few zero xs = omega arith
take-few (suc n) [] = omega arith
take-few (suc n) (x ∷ xs) = let h = take-few n xs in omega arith

-- the facts of a long queue are its first ones
followed_long : (f : Facts) (n : ℕ) (atoms : List Atom) (queue : List Fact) → n ≤ length queue → followed n f atoms queue ≡ take n queue
followed_long f zero atoms queue h = refl
followed_long f (suc n) atoms [] h = absurd (omega arith)
followed_long f (suc n) atoms (x ∷ queue) h =
    let m = meet_form f atoms (cmp_form x.cmp) in
    ap (λ zs. x ∷ zs) (followed_long f n m.atoms (queue ++ m.facts) (omega (arith, length-append queue m.facts)) ∙ take_less n queue m.facts (omega arith))

followed_none : (f : Facts) (n : ℕ) (atoms : List Atom) → followed n f atoms [] ≡ []
followed_none f zero atoms = refl
followed_none f (suc n) atoms = refl

-- a fact of the queue, and what its atoms add
pub followed-next : (f : Facts) (list added : List Fact) (i : ℕ) (x : Fact) (atoms more : List Atom) → i < length list → i < 2000 → x ≡ get_or list i x
    → more ≡ (meet_form f atoms (cmp_form x.cmp)).atoms → added ≡ (meet_form f atoms (cmp_form x.cmp)).facts
    → take (i + 1) (list ++ added) ++ followed (2000 - (i + 1)) f more (drop (i + 1) (list ++ added)) ≡ take i list ++ followed (2000 - i) f atoms (drop i list)
followed-next f list added i x atoms more h l e ea ef =
    let m = meet_form f atoms (cmp_form x.cmp) in
    let n = 2000 - (i + 1) in
    let rest = followed n f m.atoms (drop (i + 1) list ++ m.facts) in
    (λ k. (take_less (i + 1) list added (omega arith) ∙ take-item list i x h e) k
    ++ followed n f (ea k) ((drop_less (i + 1) list added (omega arith) ∙ ap (λ zs. drop (i + 1) list ++ zs) ef) k))
    ∙ append_assoc (take i list) (x ∷ []) rest
    ∙ ap (λ zs. take i list ++ zs) (sym ((λ k. followed (left i l k) f atoms (drop-item list i x h e k))))
  where
    left : (i : ℕ) → i < 2000 → 2000 - i ≡ suc (2000 - (i + 1))
    left i l = omega arith

-- the queue is empty, or the list has as many facts as it may have
pub followed-end : (f : Facts) (list : List Fact) (i : ℕ) (atoms : List Atom) → i ≤ length list → i ≤ 2000 → (length list ≤ i) ⊎ (2000 ≤ length list)
    → take i list ++ followed (2000 - i) f atoms (drop i list) ≡ take 2000 list
followed-end f list i atoms h l (inl none) =
    (λ k. take-all i list none k ++ (ap (followed (2000 - i) f atoms) (drop-all i list none) ∙ followed_none f (2000 - i) atoms) k) ∙ append-none list
    ∙ sym (take-all 2000 list (omega arith))
followed-end f list i atoms h l (inr many) =
    ap (λ zs. take i list ++ zs) (followed_long f (2000 - i) atoms (drop i list) (omega (arith, length-drop i list))) ∙ sym (take-add i (2000 - i) list)
    ∙ ap (λ n. take n list) (whole i l)
  where
    whole : (i : ℕ) → i ≤ 2000 → i + (2000 - i) ≡ 2000
    whole i l = omega arith

-- what the queue begins with
pub followed-start : (f : Facts) (goal : Items) (m : Met) (none : List Atom) (list more : List Fact) → m ≡ meet_form f none goal → none ≡ []
    → list ≡ declared_facts f → more ≡ list ++ m.facts → followed 2000 f m.atoms more ≡ facts_of f goal
followed-start f goal m none list more e n d a =
    let met = e ∙ ap (λ as'. meet_form f as' goal) n in
    λ k. followed 2000 f (met k).atoms ((a ∙ (λ j. d j ++ (met j).facts)) k)

-- the comparison of one fact more
pub comparison-next : (facts : List Fact) (i : ℕ) (x : Fact) (l m : List Cmp) → i < length facts → x ≡ get_or facts i x → m ≡ l ++ x.cmp ∷ []
    → m ++ comparisons (drop (i + 1) facts) ≡ l ++ comparisons (drop i facts)
comparison-next = append-next comparisons (λ x. x.cmp ∷ []) (λ x xs. refl)

pub ruleset list_laws = (take-few, comparison-next)
