-- Whether the extents of a term fit, at the variants that code matches on.
use Rattle.std.proofs.Common.{◌≡◌, ℕ, ◌+◌, ◌*◌, ◌^◌, ◌<◌, ◌∷◌, List, Bool, true, ◌&&◌, nat_lt, ap, sym, ◌∙◌}
use Rattle.std.proofs.lemmas.Bool.{and_parts, ltb-true}
use Rattle.affine_index.specs.declared.aff.Aff.{Aff}
use Rattle.affine_index.specs.declared.cond.Cond.{Cond}
use Rattle.term_tree.specs.Meaning.{extent, head_of, tail_of}
use Rattle.term_tree.specs.declared.term.Term.{Term}
use Rattle.term_tree.specs.declared.term.Term.TheVariants.{Index, Gen, Sum, Guard, Let, Add, Sub, Mul, Concat, Flatten, Split, Transpose, TruncL, TruncR, PadL}
use Rattle.term_tree.specs.declared.term.Term.TheVariants.{PadR}
use Rattle.term_tree.proofs.Folds.{fold-index, fold-gen, fold-sum, fold-guard, fold-let_in, fold-add, fold-sub, fold-mul, fold-concat, fold-flatten, fold-split}
use Rattle.term_tree.proofs.Folds.{fold-transpose, fold-trunc_l, fold-trunc_r, fold-pad_l, fold-pad_r}
use Rattle.term_tree.proofs.Forms.{Index-is, Gen-is, Sum-is, Guard-is, Let-is, Add-is, Sub-is, Mul-is, Concat-is, Flatten-is, Split-is, Transpose-is, TruncL-is}
use Rattle.term_tree.proofs.Forms.{TruncR-is, PadL-is, PadR-is}
use Rattle.atl_meaning.specs.Denoted.{Denoted, denoted, denoted_step}

module _ (s : List ℕ) (ds : List (List ℕ)) where
  abbrev fits : Term → Bool
  fits e = (denoted s e).fits ds

  abbrev dims : Term → List ℕ
  dims e = (denoted s e).extents ds

  pub fits-Index : (w : Term) (e : Term) (x : Aff) → w ≡ Index e x → fits w ≡ true → fits e ≡ true
  fits-Index w e x i h = sym (ap fits (i ∙ Index-is e x) ∙ ap (λ d. d.fits ds) (fold-index Denoted (denoted_step s) e x)) ∙ h

  pub fits-Gen : (w : Term) (n : Aff) (e : Term) → w ≡ Gen n e → fits w ≡ true → fits e ≡ true
  fits-Gen w n e i h = sym (ap fits (i ∙ Gen-is n e) ∙ ap (λ d. d.fits ds) (fold-gen Denoted (denoted_step s) n e)) ∙ h

  pub fits-Sum : (w : Term) (n : Aff) (e : Term) → w ≡ Sum n e → fits w ≡ true → fits e ≡ true
  fits-Sum w n e i h = sym (ap fits (i ∙ Sum-is n e) ∙ ap (λ d. d.fits ds) (fold-sum Denoted (denoted_step s) n e)) ∙ h

  pub fits-Guard : (w : Term) (c : Cond) (e : Term) → w ≡ Guard c e → fits w ≡ true → fits e ≡ true
  fits-Guard w c e i h = sym (ap fits (i ∙ Guard-is c e) ∙ ap (λ d. d.fits ds) (fold-guard Denoted (denoted_step s) c e)) ∙ h

  pub fits-Let : (w : Term) (a b : Term) → w ≡ Let a b → fits w ≡ true → (fits a ≡ true) × ((denoted s b).fits (dims a ∷ ds) ≡ true)
  fits-Let w a b i h = and_parts (fits a) ((denoted s b).fits (dims a ∷ ds))
      (sym (ap fits (i ∙ Let-is a b) ∙ ap (λ d. d.fits ds) (fold-let_in Denoted (denoted_step s) a b)) ∙ h)

  pub fits-Add : (w : Term) (a b : Term) → w ≡ Add a b → fits w ≡ true → (fits a ≡ true) × (fits b ≡ true)
  fits-Add w a b i h = and_parts (fits a) (fits b) (sym (ap fits (i ∙ Add-is a b) ∙ ap (λ d. d.fits ds) (fold-add Denoted (denoted_step s) a b)) ∙ h)

  pub fits-Sub : (w : Term) (a b : Term) → w ≡ Sub a b → fits w ≡ true → (fits a ≡ true) × (fits b ≡ true)
  fits-Sub w a b i h = and_parts (fits a) (fits b) (sym (ap fits (i ∙ Sub-is a b) ∙ ap (λ d. d.fits ds) (fold-sub Denoted (denoted_step s) a b)) ∙ h)

  pub fits-Mul : (w : Term) (a b : Term) → w ≡ Mul a b → fits w ≡ true → (fits a ≡ true) × (fits b ≡ true)
  fits-Mul w a b i h = and_parts (fits a) (fits b) (sym (ap fits (i ∙ Mul-is a b) ∙ ap (λ d. d.fits ds) (fold-mul Denoted (denoted_step s) a b)) ∙ h)

  pub fits-Concat : (w : Term) (a b : Term) → w ≡ Concat a b → fits w ≡ true → ((fits a ≡ true) × (fits b ≡ true))
      × (head_of (dims a) + head_of (dims b) < 2 ^ 64)
  fits-Concat w a b i h =
      let p = and_parts (fits a && fits b) (nat_lt (head_of (dims a) + head_of (dims b)) (2 ^ 64))
      (sym (ap fits (i ∙ Concat-is a b) ∙ ap (λ d. d.fits ds) (fold-concat Denoted (denoted_step s) a b)) ∙ h) in
      (and_parts (fits a) (fits b) p.0, ltb-true (head_of (dims a) + head_of (dims b)) (2 ^ 64) p.1)

  pub fits-Flatten : (w : Term) (e : Term) → w ≡ Flatten e → fits w ≡ true → (fits e ≡ true) × (head_of (dims e) * head_of (tail_of (dims e)) < 2 ^ 64)
  fits-Flatten w e i h =
      let p = and_parts (fits e) (nat_lt (head_of (dims e) * head_of (tail_of (dims e))) (2 ^ 64))
      (sym (ap fits (i ∙ Flatten-is e) ∙ ap (λ d. d.fits ds) (fold-flatten Denoted (denoted_step s) e)) ∙ h) in
      (p.0, ltb-true (head_of (dims e) * head_of (tail_of (dims e))) (2 ^ 64) p.1)

  pub fits-Split : (w : Term) (k : ℕ) (e : Term) → w ≡ Split k e → fits w ≡ true → fits e ≡ true
  fits-Split w k e i h = sym (ap fits (i ∙ Split-is k e) ∙ ap (λ d. d.fits ds) (fold-split Denoted (denoted_step s) k e)) ∙ h

  pub fits-Transpose : (w : Term) (e : Term) → w ≡ Transpose e → fits w ≡ true → fits e ≡ true
  fits-Transpose w e i h = sym (ap fits (i ∙ Transpose-is e) ∙ ap (λ d. d.fits ds) (fold-transpose Denoted (denoted_step s) e)) ∙ h

  pub fits-TruncL : (w : Term) (n : Aff) (e : Term) → w ≡ TruncL n e → fits w ≡ true → fits e ≡ true
  fits-TruncL w n e i h = sym (ap fits (i ∙ TruncL-is n e) ∙ ap (λ d. d.fits ds) (fold-trunc_l Denoted (denoted_step s) n e)) ∙ h

  pub fits-TruncR : (w : Term) (n : Aff) (e : Term) → w ≡ TruncR n e → fits w ≡ true → fits e ≡ true
  fits-TruncR w n e i h = sym (ap fits (i ∙ TruncR-is n e) ∙ ap (λ d. d.fits ds) (fold-trunc_r Denoted (denoted_step s) n e)) ∙ h

  pub fits-PadL : (w : Term) (n : Aff) (e : Term) → w ≡ PadL n e → fits w ≡ true → (fits e ≡ true) × (head_of (dims e) + extent n s < 2 ^ 64)
  fits-PadL w n e i h =
      let p = and_parts (fits e) (nat_lt (head_of (dims e) + extent n s) (2 ^ 64))
      (sym (ap fits (i ∙ PadL-is n e) ∙ ap (λ d. d.fits ds) (fold-pad_l Denoted (denoted_step s) n e)) ∙ h) in
      (p.0, ltb-true (head_of (dims e) + extent n s) (2 ^ 64) p.1)

  pub fits-PadR : (w : Term) (n : Aff) (e : Term) → w ≡ PadR n e → fits w ≡ true → (fits e ≡ true) × (head_of (dims e) + extent n s < 2 ^ 64)
  fits-PadR w n e i h =
      let p = and_parts (fits e) (nat_lt (head_of (dims e) + extent n s) (2 ^ 64))
      (sym (ap fits (i ∙ PadR-is n e) ∙ ap (λ d. d.fits ds) (fold-pad_r Denoted (denoted_step s) n e)) ∙ h) in
      (p.0, ltb-true (head_of (dims e) + extent n s) (2 ^ 64) p.1)
