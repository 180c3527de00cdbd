-- What the code that adds the facts of quotients and products rests on.
use Rattle.std.proofs.Common.{◌≡◌, ℕ, zero, suc, ◌+◌, ◌<◌, List, [], ◌∷◌, ◌++◌, length, drop, get_or, refl, ap, sym, ◌∙◌, subst, Bool, true, false, Some, arith}
use Rattle.std.specs.Prelude.{pos, if◌then◌else◌}
use Rattle.affine_index.specs.Normal.{is_normal}
use Rattle.affine_index.proofs.Induction.{Each}
use Rattle.affine_index.proofs.ReadyLaws.{out-Div, out-Mul, out-Size, out-Var}
use Rattle.affine_index.specs.declared.form.Atom.{Atom}
use Rattle.affine_index.specs.declared.form.Atom.TheVariants.{Size, Var, Div, Mul}
use Rattle.affine_index.specs.declared.form.Items.{Items}
use Rattle.fact_list.proofs.CodeLaws.{factors-normal, kept-ok, limits-Div, single-normal}
use Rattle.fact_list.specs.Atoms.{different, same_atoms, stands_in, without}
use Rattle.fact_list.specs.Facts.{NormalAtom, all_factor_facts, atom_facts, fact_if, factor_facts, layer_facts, limit_facts, limits_of, meet, single}
use Rattle.fact_list.specs.declared.facts.Facts.{Facts}
use Rattle.fact_list.specs.declared.met.Met.{Met}
use Rattle.fact_list.specs.declared.role.Role.TheVariants.{ProductOf}

-- an atom of a normal form as a form
pub once-normal : (a : Atom) → NormalAtom a → is_normal (single (pos 1) a (pos 0)) ≡ true
once-normal a n = single-normal (pos 1) a (pos 0) n refl refl refl

-- what is left of some factors, where the first that equals one was met or not
abbrev pub left_over : Bool → Atom → List Atom → List Atom
left_over true a fs = fs
left_over false a fs = without a fs

-- a fact of an atom of a list
pub each-at : (P : Atom → Type 0) (fs : List Atom) (i : ℕ) (x : Atom) → i < length fs → x ≡ get_or fs i x → Each P fs → P x
each-at P [] i x h e a = absurd (omega arith)
each-at P (f ∷ fs) zero x h e a = subst P (sym e) a.0
each-at P (f ∷ fs) (suc i) x h e a = each-at P fs i x (omega arith) e a.1

pub without-each : (P : Atom → Type 0) (a : Atom) (fs : List Atom) → Each P fs → Each P (without a fs)
without-each P a [] h = tt
without-each P a (f ∷ fs) h = by (same_atoms a f) h (without-each P a fs h.1)
  where
    by : (b : Bool) → P f × Each P fs → Each P (without a fs) → Each P (if b then fs else f ∷ without a fs)
    by true h rest = h.1
    by false h rest = (h.0, rest)

-- one factor more of those that differ
different_step : (f : Facts) (gs fs : List Atom) (i : ℕ) (x : Atom) (b : Bool) → i < length fs → x ≡ get_or fs i x → stands_in x (drop (suc i) fs) ≡ b
    → all_factor_facts f gs (different (drop i fs)) ≡
    (if b then all_factor_facts f gs (different (drop (suc i) fs)) else factor_facts f gs x ++ all_factor_facts f gs (different (drop (suc i) fs)))
different_step f gs [] i x b h e s = absurd (omega arith)
different_step f gs (g ∷ fs) zero x b h e s = ap (λ a. all_factor_facts f gs (different (a ∷ fs))) (sym e) ∙ by b (stands_in x fs) s
  where
    by : (b c : Bool) → c ≡ b → all_factor_facts f gs (if c then different fs else x ∷ different fs) ≡
        (if b then all_factor_facts f gs (different fs) else factor_facts f gs x ++ all_factor_facts f gs (different fs))
    by true true e = refl
    by true false e = absurd (cc)
    by false true e = absurd (cc)
    by false false e = refl
different_step f gs (g ∷ fs) (suc i) x b h e s = different_step f gs fs i x b (omega arith) e s

pub different-skip : (f : Facts) (gs fs : List Atom) (i : ℕ) (x : Atom) → i < length fs → x ≡ get_or fs i x → stands_in x (drop (i + 1) fs) ≡ true
    → all_factor_facts f gs (different (drop (i + 1) fs)) ≡ all_factor_facts f gs (different (drop i fs))
different-skip f gs fs i x h e s =
    ap (λ n. all_factor_facts f gs (different (drop n fs))) (turn i)
    ∙ sym (different_step f gs fs i x true h e (ap (λ n. stands_in x (drop n fs)) (sym (turn i)) ∙ s))
  where
    turn : (i : ℕ) → i + 1 ≡ suc i
    turn i = omega arith

pub different-take : (f : Facts) (gs fs : List Atom) (i : ℕ) (x : Atom) → i < length fs → x ≡ get_or fs i x → stands_in x (drop (i + 1) fs) ≡ false
    → factor_facts f gs x ++ all_factor_facts f gs (different (drop (i + 1) fs)) ≡ all_factor_facts f gs (different (drop i fs))
different-take f gs fs i x h e s =
    ap (λ n. factor_facts f gs x ++ all_factor_facts f gs (different (drop n fs))) (turn i)
    ∙ sym (different_step f gs fs i x false h e (ap (λ n. stands_in x (drop n fs)) (sym (turn i)) ∙ s))
  where
    turn : (i : ℕ) → i + 1 ≡ suc i
    turn i = omega arith

-- what an atom adds, by its kind
pub facts-Size : (f : Facts) (k : ℕ) → atom_facts f (Size k) ≡ []
facts-Size f k = ap (layer_facts f) (out-Size k)

pub facts-Var : (f : Facts) (k : ℕ) → atom_facts f (Var k) ≡ []
facts-Var f k = ap (layer_facts f) (out-Var k)

pub facts-Div : (f : Facts) (i : Items) (k : ℕ) → atom_facts f (Div i k) ≡ limit_facts (Div i k) (limits_of f (Div i k))
facts-Div f i k = ap (layer_facts f) (out-Div i k) ∙ ap (limit_facts (Div i k)) (sym (limits-Div f i k))

pub facts-Mul : (f : Facts) (fs : List Atom) → NormalAtom (Mul fs)
    → atom_facts f (Mul fs) ≡ fact_if (ProductOf (Mul fs)) (Some (single (pos 1) (Mul fs) (pos 0))) ++ all_factor_facts f fs (different fs)
facts-Mul f fs n =
    ap (layer_facts f) (out-Mul fs)
    ∙ ap (λ o. fact_if (ProductOf (Mul fs)) o ++ all_factor_facts f fs (different fs))
    (sym (kept-ok (single (pos 1) (Mul fs) (pos 0)) (single (pos 1) (Mul fs) (pos 0)) refl (once-normal (Mul fs) n)))

pub meet-known : (f : Facts) (m : Met) (a : Atom) → stands_in a m.atoms ≡ true → m ≡ meet f m a
meet-known f m a e = by (stands_in a m.atoms) e
  where
    by : (b : Bool) → b ≡ true → m ≡ (if b then m else record { atoms = m.atoms ++ a ∷ []; facts = m.facts ++ atom_facts f a })
    by true e = refl
    by false e = absurd (cc)

pub meet-new : (f : Facts) (m : Met) (a : Atom) → stands_in a m.atoms ≡ false
    → meet f m a ≡ record { atoms = m.atoms ++ a ∷ []; facts = m.facts ++ atom_facts f a }
meet-new f m a e = by (stands_in a m.atoms) e
  where
    by : (b : Bool) → b ≡ false
        → (if b then m else record { atoms = m.atoms ++ a ∷ []; facts = m.facts ++ atom_facts f a }) ≡ record
        { atoms = m.atoms ++ a ∷ []; facts = m.facts ++ atom_facts f a }
    by true e = absurd (cc)
    by false e = refl

pub ruleset add_laws = (once-normal, facts-Size, facts-Var, facts-Div, facts-Mul, factors-normal, meet-known, meet-new)
