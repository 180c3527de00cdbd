-- What is known of a term within a guard within a sum, and the scopes and the reach of what is made of it.
use Rattle.std.proofs.Common.{◌≡◌, ℕ, zero, suc, ◌+◌, ◌<◌, ◌≤◌, List, [], ◌∷◌, ◌++◌, length, refl, ap, sym, ◌∙◌, subst, arith, true, ◌&&◌, not, nat_le}
use Rattle.std.proofs.lemmas.Bool.{and_from, and_parts}
use Rattle.std.proofs.lemmas.List.{length-append}
use Rattle.affine_index.specs.Condition.{all_hold, all_scoped}
use Rattle.affine_index.specs.Form.{var_form}
use Rattle.affine_index.specs.Limited.{items_scoped}
use Rattle.affine_index.specs.Normal.{is_normal}
use Rattle.affine_index.specs.Put.{given as given_form, numbers_fit}
use Rattle.affine_index.specs.declared.cond.Cmp.{Cmp}
use Rattle.affine_index.specs.declared.cond.Cond.{Cond}
use Rattle.affine_index.specs.declared.form.Atom.TheVariants.{Var}
use Rattle.affine_index.specs.declared.form.Items.{Items}
use Rattle.affine_index.proofs.FormScopes.{form-of, of-form, sum-form}
use Rattle.affine_index.proofs.ReadyLaws.{scoped-Var}
use Rattle.affine_index.proofs.ScopedForms.{of_atom-scoped}
use Rattle.affine_index.proofs.ScopedMoves.{form-fits}
use Rattle.binders.specs.Answers.{IsWithinReach}
use Rattle.binders.specs.PlainMaps.{put_index_map, put_index_reach}
use Rattle.binders.proofs.ReachLaws.{put_index_within}
use Rattle.binders.proofs.ScopeLaws.{mapped_scope, scopes_put_index}
use Rattle.fact_list.specs.Facts.{binders, moves_fit}
use Rattle.fact_list.specs.Scoped.{facts_scoped, has_comparison, path_scoped}
use Rattle.fact_list.specs.Truth.{FactsHold}
use Rattle.fact_list.specs.declared.facts.Facts.{Facts}
use Rattle.fact_list.specs.declared.facts.PathFact.{PathFact}
use Rattle.fact_list.specs.declared.facts.PathFact.TheVariants.{Bound as Below, Holds}
use Rattle.fact_list.proofs.ScopedLaws.{scoped-fits}
use Rattle.rules_narrow.specs.Narrow.{further, inside, is_range, moved_to, start}
use Rattle.path_focus.specs.Focus.{IsProper}
use Rattle.path_focus.specs.declared.place.Focus.{Focus}
use Rattle.path_focus.proofs.CountLaws.{depth_nodes, vars_few}
use Rattle.path_focus.proofs.KnownLaws.{PathSteady, binders-bound, path-bound, path-guard}
use Rattle.path_focus.proofs.SteadyLaws.{all_steady, steady_of}
use Rattle.rule_parts.specs.Conds.{at_least}
use Rattle.rule_parts.proofs.CondLaws.{raised_scoped}
use Rattle.shape_rules.specs.Scopes.{given}
use Rattle.term_tree.specs.Counts.{node_count, node_depth}
use Rattle.term_tree.specs.Meaning.{extent}
use Rattle.term_tree.specs.Scope.{cond_scoped, is_empty, term_scoped}
use Rattle.term_tree.specs.Syntax.{guard, sum}
use Rattle.term_tree.specs.declared.term.Term.{Term}

-- a path with one more gen or sum, or one more guard
bound_scoped : (sizes depth : ℕ) (ps : List PathFact) (n : Items) → path_scoped sizes depth ps ≡ true → items_scoped sizes 0 n ≡ true
    → path_scoped sizes depth (ps ++ Below n ∷ []) ≡ true
bound_scoped sizes depth [] n h g = and_from (items_scoped sizes 0 n) true g refl
bound_scoped sizes depth (Below m ∷ ps) n h g =
    let p = and_parts (items_scoped sizes 0 m) (path_scoped sizes (suc depth) ps) h in
    and_from (items_scoped sizes 0 m) (path_scoped sizes (suc depth) (ps ++ Below n ∷ [])) p.0 (bound_scoped sizes (suc depth) ps n p.1 g)
bound_scoped sizes depth (Holds c ∷ ps) n h g =
    let p = and_parts (has_comparison c.all) (all_scoped sizes depth c.all && path_scoped sizes depth ps) h in
    let q = and_parts (all_scoped sizes depth c.all) (path_scoped sizes depth ps) p.1 in
    and_from (has_comparison c.all) (all_scoped sizes depth c.all && path_scoped sizes depth (ps ++ Below n ∷ [])) p.0
    (and_from (all_scoped sizes depth c.all) (path_scoped sizes depth (ps ++ Below n ∷ [])) q.0 (bound_scoped sizes depth ps n q.1 g))

compared : (cs : List Cmp) → not (is_empty cs) ≡ true → has_comparison cs ≡ true
compared [] h = h
compared (c ∷ cs) h = refl

guard_scoped : (sizes depth : ℕ) (ps : List PathFact) (c : Cond) → path_scoped sizes depth ps ≡ true → cond_scoped sizes (depth + binders ps) c ≡ true
    → path_scoped sizes depth (ps ++ Holds c ∷ []) ≡ true
guard_scoped sizes depth [] c h g =
    let p = and_parts (not (is_empty c.all)) (all_scoped sizes (depth + 0) c.all) g in
    and_from (has_comparison c.all) (all_scoped sizes depth c.all && true) (compared c.all p.0)
    (and_from (all_scoped sizes depth c.all) true (ap (λ (v : ℕ). all_scoped sizes v c.all) (sym (no_more depth)) ∙ p.1) refl)
  where
    no_more : (v : ℕ) → v + 0 ≡ v
    no_more v = omega arith
guard_scoped sizes depth (Below m ∷ ps) c h g =
    let p = and_parts (items_scoped sizes 0 m) (path_scoped sizes (suc depth) ps) h in
    and_from (items_scoped sizes 0 m) (path_scoped sizes (suc depth) (ps ++ Holds c ∷ [])) p.0
    (guard_scoped sizes (suc depth) ps c p.1 (ap (λ (v : ℕ). cond_scoped sizes v c) (one_more depth (binders ps)) ∙ g))
  where
    one_more : (v w : ℕ) → suc v + w ≡ v + suc w
    one_more v w = omega arith
guard_scoped sizes depth (Holds d ∷ ps) c h g =
    let p = and_parts (has_comparison d.all) (all_scoped sizes depth d.all && path_scoped sizes depth ps) h in
    let q = and_parts (all_scoped sizes depth d.all) (path_scoped sizes depth ps) p.1 in
    and_from (has_comparison d.all) (all_scoped sizes depth d.all && path_scoped sizes depth (ps ++ Holds c ∷ [])) p.0
    (and_from (all_scoped sizes depth d.all) (path_scoped sizes depth (ps ++ Holds c ∷ [])) q.0 (guard_scoped sizes depth ps c q.1 g))

-- each extent on a scoped path is over sizes alone
path_steady : (sizes depth : ℕ) (s : List ℕ) (ps : List PathFact) → path_scoped sizes depth ps ≡ true → PathSteady s ps
path_steady sizes depth s [] h = tt
path_steady sizes depth s (Below n ∷ ps) h =
    let p = and_parts (items_scoped sizes 0 n) (path_scoped sizes (suc depth) ps) h in
    (steady_of sizes s n p.0, path_steady sizes (suc depth) s ps p.1)
path_steady sizes depth s (Holds c ∷ ps) h =
    let p = and_parts (has_comparison c.all) (all_scoped sizes depth c.all && path_scoped sizes depth ps) h in
    path_steady sizes depth s ps (and_parts (all_scoped sizes depth c.all) (path_scoped sizes depth ps) p.1).1

var-scoped : (sizes vars : ℕ) → 0 < vars → items_scoped sizes vars (var_form 0) ≡ true
var-scoped sizes vars l = of_atom-scoped sizes vars (Var 0) (scoped-Var sizes vars 0 ∙ grind (arith, l))

-- a form under one more binder, added to its variable
start_scoped : (sizes vars : ℕ) (a : Items) → items_scoped sizes vars a ≡ true → items_scoped sizes (vars + 1) (start a) ≡ true
start_scoped sizes vars a h =
    (and_parts (items_scoped sizes (vars + 1) (start a)) true (raised_scoped sizes vars (at_least a) (and_from (items_scoped sizes vars a) true h refl))).0

further_scoped : (sizes vars : ℕ) (a : Items) → items_scoped sizes vars a ≡ true → items_scoped sizes (vars + 1) (further (start a)) ≡ true
further_scoped sizes vars a h =
    of-form sizes (vars + 1) (further (start a)) (sum-form sizes (vars + 1) (var_form 0) (start a)
    (form-of sizes (vars + 1) (var_form 0) (var-scoped sizes (vars + 1) (omega arith)))
    (form-of sizes (vars + 1) (start a) (start_scoped sizes vars a h)))

turned : (v : ℕ) → 1 + v ≡ v + 1
turned v = omega arith

pub moved_scoped : (sizes vars tensors : ℕ) (a : Items) (e : Term) → items_scoped sizes vars a ≡ true → term_scoped sizes e (vars + 1) tensors ≡ true
    → term_scoped sizes (moved_to (further (start a)) e) (vars + 1) tensors ≡ true
moved_scoped sizes vars tensors a e h g =
    subst (λ (v : ℕ). term_scoped sizes (moved_to (further (start a)) e) v tensors ≡ true) (turned vars)
    (mapped_scope (put_index_map (further (start a) ∷ []) 1) e sizes (1 + vars) tensors (1 + vars) tensors
    (scopes_put_index (further (start a) ∷ []) 1 sizes vars tensors forms)
    (subst (λ (v : ℕ). term_scoped sizes e v tensors ≡ true) (sym (turned vars)) g))
  where
    forms : (k : ℕ) → k < 1 → items_scoped sizes (1 + vars) (given_form (further (start a) ∷ []) k) ≡ true
    forms zero l = subst (λ (v : ℕ). items_scoped sizes v (further (start a)) ≡ true) (sym (turned vars)) (further_scoped sizes vars a h)
    forms (suc k) l = absurd (omega (arith, l))

-- the first turn of a range names what is there
pub range_scoped : (f : Facts) (a m : Items) → is_range f a m ≡ true → items_scoped (length f.sizes) (binders f.path) a ≡ true
range_scoped f a m h =
    let scopes = items_scoped (length f.sizes) (binders f.path) a && items_scoped (length f.sizes) 0 m in
    let k = and_parts (is_normal a) (nat_le (length f.path) 2147483645 && scopes) h in
    let l = and_parts (nat_le (length f.path) 2147483645) scopes k.1 in
    (and_parts (items_scoped (length f.sizes) (binders f.path) a) (items_scoped (length f.sizes) 0 m) l.1).0

module _ (f : Focus) (p : IsProper f) (n : Items) (c : Cond) (b : Term) (q : f.term ≡ sum n (guard c b)) where
  abbrev sizes : ℕ
  sizes = length f.facts.sizes

  abbrev vars : ℕ
  vars = binders f.facts.path

  abbrev tensors : ℕ
  tensors = length (given f.shapes)

  pub sum_scoped : (items_scoped sizes 0 n ≡ true) × (term_scoped sizes (guard c b) (vars + 1) tensors ≡ true)
  sum_scoped =
      and_parts (items_scoped sizes 0 n) (term_scoped sizes (guard c b) (vars + 1) tensors)
      (subst (λ (e : Term). term_scoped sizes e vars tensors ≡ true) q p.term_scope)

  pub row_scoped : term_scoped sizes (guard c b) (vars + 1) tensors ≡ true
  row_scoped = sum_scoped.1

  facts_parts : (all_scoped sizes 0 f.facts.assumes ≡ true) × (path_scoped sizes 0 f.facts.path ≡ true)
  facts_parts = and_parts (all_scoped sizes 0 f.facts.assumes) (path_scoped sizes 0 f.facts.path) p.scoped

  -- what is known within the guard holds at each turn at which the guard does
  pub inside_holds : (s r : List ℕ) (i : ℕ) → FactsHold f.facts s r → i < extent n s → all_hold s (i ∷ r) c.all ≡ true
      → FactsHold (inside f.facts n c) s (i ∷ r)
  inside_holds s r i h l g =
      let steady = all_steady sizes s f.facts.assumes facts_parts.0 in (
        h.0,
        steady (i ∷ r) ∙ sym (steady r) ∙ h.1,
        path-guard s (f.facts.path ++ Below n ∷ []) c (i ∷ r) g
            (path-bound s f.facts.path n r i (path_steady sizes 0 s f.facts.path facts_parts.1) (steady_of sizes s n sum_scoped.0) l h.2),
      )

  inside_scoped : facts_scoped (inside f.facts n c) ≡ true
  inside_scoped =
      let cond = (and_parts (cond_scoped sizes (vars + 1) c) (term_scoped sizes b (vars + 1) tensors) sum_scoped.1).0 in
      and_from (all_scoped sizes 0 f.facts.assumes) (path_scoped sizes 0 ((f.facts.path ++ Below n ∷ []) ++ Holds c ∷ [])) facts_parts.0
      (guard_scoped sizes 0 (f.facts.path ++ Below n ∷ []) c (bound_scoped sizes 0 f.facts.path n facts_parts.1 sum_scoped.0)
      (ap (λ (v : ℕ). cond_scoped sizes v c) (deeper vars (binders (f.facts.path ++ Below n ∷ [])) (binders-bound f.facts.path n)) ∙ cond))
    where
      deeper : (v w : ℕ) → w ≡ suc v → 0 + w ≡ v + 1
      deeper v w e = omega (arith, e)

  longer : (ps : List PathFact) → length ((ps ++ Below n ∷ []) ++ Holds c ∷ []) ≡ length ps + 2
  longer ps =
      let e = length-append ps (Below n ∷ []) in
      let g = length-append (ps ++ Below n ∷ []) (Holds c ∷ []) in
      omega (arith, e, g)

  -- and may be listed
  pub inside_listed : length f.facts.path ≤ 2147483645 → (length f.facts.sizes ≤ 2147483647) × (length (inside f.facts n c).path ≤ 2147483647)
      × (moves_fit (inside f.facts n c).path ≡ true)
  inside_listed room =
      let e = longer f.facts.path in
      let few : length ((f.facts.path ++ Below n ∷ []) ++ Holds c ∷ []) ≤ 2147483647 = omega (arith, e, room) in
      (p.few.sizes, few, scoped-fits (inside f.facts n c) inside_scoped few)

  -- i + a for the variable of the sum, under another in its place
  pub turn_reach : (a : Items) → items_scoped sizes vars a ≡ true
      → (node_depth (guard c b) ≤ 2147483647) × IsWithinReach (put_index_reach (further (start a) ∷ []) 1) (guard c b)
  turn_reach a h =
      let few = vars_few f p.few in
      let d = depth_nodes (guard c b) in
      let s = subst (λ (e : Term). node_count e ≤ 20000) q p.small in (
        omega (arith, d, s),
        put_index_within (further (start a) ∷ []) 1 (vars + 1) sizes (vars + 1) tensors (guard c b) forms (omega (arith, d, s, few))
            (omega (arith, d, s, few)) sum_scoped.1,
      )
    where
      forms : (k : ℕ) → k < 1 → items_scoped sizes (vars + 1) (given_form (further (start a) ∷ []) k) ≡ true
      forms zero l = further_scoped sizes vars a h
      forms (suc k) l = absurd (omega (arith, l))

  pub start_fits : (a : Items) → items_scoped sizes vars a ≡ true → numbers_fit 0 1 a ≡ true
  start_fits a h = let few = vars_few f p.few in form-fits sizes vars 0 1 (omega (arith, few)) a h
