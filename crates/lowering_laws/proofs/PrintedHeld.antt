-- In a module that may be lowered each printed form is a normal form in scope.
use Rattle.std.proofs.Common.{◌≡◌, ℕ, ◌+◌, Bool, true, false, nat_le, if◌then◌else◌, List, [], ◌∷◌, ◌++◌, length, map, None, Ok, Err, refl, sym}
use Rattle.std.proofs.Common.{subst}
use Rattle.std.specs.Prelude.{pos}
use Rattle.std.proofs.lemmas.Bool.{and_parts}
use Rattle.std.proofs.lemmas.List.{append-nil}
use Rattle.affine_index.specs.Form.{literal_form}
use Rattle.affine_index.specs.Limited.{items_scoped}
use Rattle.affine_index.specs.Magnitude.{magnitude}
use Rattle.affine_index.specs.Normal.{is_normal}
use Rattle.affine_index.specs.declared.form.Items.{Items}
use Rattle.linear_cert.specs.declared.lines.FinalLine.{FinalLine}
use Rattle.reindexer.specs.Limited.{Limited, limited}
use Rattle.reindexer.proofs.IndexLaws.{limited_is}
use Rattle.region_plan.specs.Needed.{module_needed, words_form}
use Rattle.region_plan.specs.declared.length.Length.{Length}
use Rattle.term_tree.specs.declared.term.InputDecl.{InputDecl}
use Rattle.term_tree.specs.declared.term.OutputDecl.{OutputDecl}
use Rattle.term_tree.specs.declared.term.Module.{Module}
use Rattle.term_tree.specs.declared.term.Path.{Path}
use Rattle.term_tree.specs.Modules.{extents_scoped, input_shapes, inputs_scoped, outputs_scoped}
use Rattle.term_tree.specs.Scope.{term_scoped}
use Rattle.term_tree.specs.Shape.{Extents}
use Rattle.final_rules.specs.Accepted.{IsLowerable}
use Rattle.final_rules.specs.Lengths.{over_sizes}
use Rattle.final_rules.specs.Printed.{Printed, form_small, greatest, length_printed, is_small, largest_index, printed_of}
use Rattle.final_rules.specs.declared.fault.FinalFault.TheVariants.{IndexTooLarge}
use Rattle.final_rules.specs.Rules.{Expression, Index, body_printed, expression_small, form_fault, goal_fault, input_lengths, input_site, large_fault}
use Rattle.final_rules.specs.Rules.{line_fault, mark_fault, maxima}
use Rattle.final_rules.specs.Rules.{Scratch, any_let, length_magnitude, length_normal, length_small, module_goals, nowhere_yet, output_extents}
use Rattle.final_rules.specs.Rules.{output_lengths, output_place, printed, scratch_printed}
use Rattle.final_rules.proofs.Accepted.{if_none}
use Rattle.final_rules.proofs.Main.{or_none}
use Rattle.final_rules.proofs.PrintedScoped.{All0, InScopeOf, Scoping, SiteAt, every-append, extents-at, length-at, literal-at, printed-at, shape-eon}
use Rattle.final_rules.proofs.PrintedScoped.{shapes-at}
use Rattle.final_rules.proofs.Raw.{words-raw}
use Rattle.final_rules.proofs.Walk.{Every, every_parts}
use Rattle.final_rules.proofs.NeedScoped.{module-at}
use Rattle.shape_rules.proofs.ModuleLaws.{module_parts}

-- each is small where no expression is too large
all_small : (maxima : List ℕ) (k : ℕ) (is : List Printed) (xs : List Expression) → large_fault maxima k (map Index is ++ xs) ≡ None
    → Every (λ i. is_small maxima i ≡ true) is
all_small maxima k [] xs e = tt
all_small maxima k (i ∷ is) xs e =
    let p = if_none (is_small maxima i) (large_fault maxima (k + 1) (map Index is ++ xs)) (IndexTooLarge k) e in
    (p.0, all_small maxima (k + 1) is xs p.1)

later_small : (maxima : List ℕ) (k : ℕ) (xs ys : List Expression) → large_fault maxima k (xs ++ ys) ≡ None → (j : ℕ) × (large_fault maxima j ys ≡ None)
later_small maxima k [] ys h = (k, h)
later_small maxima k (x ∷ xs) ys h =
    later_small maxima (k + 1) xs ys (if_none (expression_small maxima x) (large_fault maxima (k + 1) (xs ++ ys)) (IndexTooLarge k) h).1

-- a normal form over so many sizes, and the variables in scope
abbrev pub Held : ℕ → Printed → Type 0
Held sizes i = (x : Items) × (i.form ≡ Ok x) × (is_normal x ≡ true) × (items_scoped sizes (length i.scope) x ≡ true)

held_form : (sizes : ℕ) (maxima vars : List ℕ) (loops : ℕ) (l : Limited Items) → form_small maxima vars l ≡ true
    → ((z : Items) → l ≡ Ok z → items_scoped sizes loops z ≡ true) → (z : Items) × (l ≡ Ok z) × (is_normal z ≡ true) × (items_scoped sizes loops z ≡ true)
held_form sizes maxima vars loops (Err e) h s = absurd (cc)
held_form sizes maxima vars loops (Ok z) h s = (z, refl, (and_parts (is_normal z) (nat_le (magnitude maxima vars z) largest_index) h).0, s z refl)

-- small forms in scope
all_held : (sizes : ℕ) (maxima : List ℕ) (is : List Printed) → Every (λ i. is_small maxima i ≡ true) is → Every (InScopeOf sizes) is → Every (Held sizes) is
all_held sizes maxima [] h s = tt
all_held sizes maxima (i ∷ is) h s =
    (held_form sizes maxima (greatest maxima i.scope) (length i.scope) i.form h.0 s.0, all_held sizes maxima is h.1 s.1)

-- what a well scoped module prints is in scope
sites_in : (sizes : ℕ) (ds : List InputDecl) → inputs_scoped sizes ds ≡ true → Every (SiteAt sizes) (map input_site ds)
sites_in sizes [] c = tt
sites_in sizes (d ∷ ds) c =
    let p = and_parts (extents_scoped sizes d.extents) (inputs_scoped sizes ds) c in
    ((extents-at sizes d.extents p.0, literal-at sizes 0 (pos 0)), sites_in sizes ds p.1)

plain_in : (sizes : ℕ) (x : Items) → items_scoped sizes 0 x ≡ true → (z : Items) → limited x ≡ Ok z → items_scoped sizes 0 z ≡ true
plain_in sizes x h z e = subst (λ y. items_scoped sizes 0 y ≡ true) (limited_is x z e) h

words_in : (sizes : ℕ) (ns : Extents) → All0 sizes ns → (z : Items) → words_form ns ≡ Ok z → items_scoped sizes 0 z ≡ true
words_in sizes ns h z e = subst (λ y. items_scoped sizes 0 y ≡ true) (words-raw ns z e) (length-at sizes ns h)

body_in : (m : Module) (os : List OutputDecl) → inputs_scoped (length m.sizes) m.inputs ≡ true → outputs_scoped (length m.sizes) (length m.inputs) os ≡ true
    → Every (InScopeOf (length m.sizes)) (body_printed m os)
body_in m [] i c = tt
body_in m (o ∷ os) i c =
    let sizes = length m.sizes in
    let p = and_parts (term_scoped sizes o.term 0 (length m.inputs)) (outputs_scoped sizes (length m.inputs) os) c in
    let own : All0 sizes (output_extents m o) = shape-eon sizes o.term 0 (length m.inputs) (input_shapes m) p.0 (shapes-at sizes m.inputs i) in
    let at : Scoping sizes (output_place m o) 0 = record {
      depth = refl;
      sites = sites_in sizes m.inputs i;
      target = (own, literal-at sizes 0 (pos 0));
      around = tt;
      free = literal-at sizes 0 (pos 0);
    } in (
      plain_in sizes (literal_form (pos 0)) (literal-at sizes 0 (pos 0)),
      (
        words_in sizes (output_extents m o) own,
        every-append sizes (InScopeOf sizes) (printed_of o.term (output_place m o)) (body_printed m os)
            (printed-at sizes o.term (output_place m o) 0 (length m.inputs) p.0 at)
            (body_in m os i p.1),
      ),
    )

inputs_in : (sizes : ℕ) (ds : List InputDecl) → inputs_scoped sizes ds ≡ true → Every (InScopeOf sizes) (map (λ d. length_printed d.extents nowhere_yet) ds)
inputs_in sizes [] c = tt
inputs_in sizes (d ∷ ds) c =
    let p = and_parts (extents_scoped sizes d.extents) (inputs_scoped sizes ds) c in
    (words_in sizes d.extents (extents-at sizes d.extents p.0), inputs_in sizes ds p.1)

outputs_in : (m : Module) (os : List OutputDecl) → inputs_scoped (length m.sizes) m.inputs ≡ true → outputs_scoped (length m.sizes) (length m.inputs) os ≡ true
    → Every (InScopeOf (length m.sizes)) (map (λ o. length_printed (output_extents m o) nowhere_yet) os)
outputs_in m [] i c = tt
outputs_in m (o ∷ os) i c =
    let sizes = length m.sizes in
    let p = and_parts (term_scoped sizes o.term 0 (length m.inputs)) (outputs_scoped sizes (length m.inputs) os) c in
    let own : All0 sizes (output_extents m o) = shape-eon sizes o.term 0 (length m.inputs) (input_shapes m) p.0 (shapes-at sizes m.inputs i) in
    (words_in sizes (output_extents m o) own, outputs_in m os i p.1)

-- the length of the region, where there is one
abbrev pub HeldLength : Module → Bool → Type 0
HeldLength m false = Unit {0}
HeldLength m true = (l : Length) × (module_needed m ≡ Ok l) × (length_normal l ≡ true) × (over_sizes (length m.sizes) l ≡ true)

held_length : (m : Module) (w : Bool) (k : ℕ) (xs : List Expression) → inputs_scoped (length m.sizes) m.inputs ≡ true
    → outputs_scoped (length m.sizes) (length m.inputs) m.outputs ≡ true
    → large_fault (maxima m) k ((if w then Scratch (module_needed m) ∷ [] else []) ++ xs) ≡ None → HeldLength m w
held_length m false k xs i c h = tt
held_length m true k xs i c h =
    by (module_needed m) refl (if_none (length_small (maxima m) (module_needed m)) (large_fault (maxima m) (k + 1) xs) (IndexTooLarge k) h).0
  where
    by : (o : Limited Length) → module_needed m ≡ o → length_small (maxima m) o ≡ true → HeldLength m true
    by (Err f) q e = absurd (cc)
    by (Ok l) q e = (
      l,
      q,
      (and_parts (length_normal l) (nat_le (length_magnitude (maxima m) l) largest_index) e).0,
      module-at (length m.sizes) m l c (shapes-at (length m.sizes) m.inputs i) q,
    )

pub record AllHeld (m : Module) : Type 0 where
  pub inputs : Every (Held (length m.sizes)) (input_lengths m)
  pub outputs : Every (Held (length m.sizes)) (output_lengths m)
  pub scratch : HeldLength m (any_let m.outputs)
  pub body : Every (Held (length m.sizes)) (body_printed m m.outputs)

pub accepted_held : (m : Module) (finals : List FinalLine) (marks : List Path) → IsLowerable m finals marks → AllHeld m
accepted_held m finals marks low =
    let sizes = length m.sizes in
    let e1 = or_none (form_fault 0 m.outputs (input_shapes m)) _ low.accepted in
    let e2 = or_none (line_fault (length (module_goals m)) 0 1 finals) _ e1.1 in
    let e3 = or_none (goal_fault finals 1 (module_goals m)) _ e2.1 in
    let e4 = or_none (large_fault (maxima m) 1 (printed m)) (mark_fault m [] marks) e3.1 in
    let body = body_printed m m.outputs in
    let lengths = input_lengths m ++ output_lengths m in
    let r1 = later_small (maxima m) 1 (map Index lengths) (scratch_printed m ++ map Index body) e4.0 in
    let r2 = later_small (maxima m) r1.0 (scratch_printed m) (map Index body) r1.1 in
    let small = all_small (maxima m) r2.0 body []
    (subst (λ (es : List Expression). large_fault (maxima m) r2.0 es ≡ None) (sym (append-nil (map Index body))) r2.1) in
    let long = every_parts (λ i. is_small (maxima m) i ≡ true) (input_lengths m) (output_lengths m)
    (all_small (maxima m) 1 lengths (scratch_printed m ++ map Index body) e4.0) in
    let d = module_parts m low.sound.scoped in
    record {
      inputs = all_held sizes (maxima m) (input_lengths m) long.0 (inputs_in sizes m.inputs d.0);
      outputs = all_held sizes (maxima m) (output_lengths m) long.1 (outputs_in m m.outputs d.0 d.1);
      scratch = held_length m (any_let m.outputs) r1.0 (map Index body) d.0 d.1 r1.1;
      body = all_held sizes (maxima m) body small (body_in m m.outputs d.0 d.1);
    }
