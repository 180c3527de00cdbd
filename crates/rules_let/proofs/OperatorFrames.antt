-- Operators opened at a child: the node around it, and what the code makes of it.
use Rattle.std.proofs.Common.{◌≡◌, ℕ, List, [], refl, ap, sym, ◌∙◌, subst, Some, None, Bool, true, false, ◌==◌, if◌then◌else◌}
use Rattle.std.specs.Prelude.{Option, IfSome}
use Rattle.std.specs.Option.{option_map}
use Rattle.term_tree.specs.declared.term.Term.{Term, out-Term}
use Rattle.term_tree.specs.declared.term.Term.TheOpen.{Term-F}
use Rattle.term_tree.specs.declared.term.Term.TheViews.{roll-Term, roll-out-Term}
use Rattle.term_tree.specs.declared.term.Term.TheVariants.{rolls-Add, rolls-Sub, rolls-Mul, rolls-Concat}
use Rattle.term_tree.specs.declared.term.Term.TheVariants as variant
use Rattle.term_tree.specs.Syntax.{add, concat, let_in, mul, sub}
use Rattle.term_tree.proofs.Forms.{Add-is, Sub-is, Mul-is, Concat-is, Flatten-is, Split-is, Transpose-is, TruncL-is, TruncR-is, PadL-is, PadR-is}
use Rattle.path_focus.specs.Focus.{IsProper}
use Rattle.path_focus.specs.Frames.{Frame, Opened, AddLeft, AddRight, SubLeft, SubRight, MulLeft}
use Rattle.path_focus.specs.Frames.{MulRight, ConcatLeft, ConcatRight, OfFlatten, OfSplit, OfTranspose, OfTruncL, OfTruncR, OfPadL, OfPadR}
use Rattle.path_focus.specs.Frames.{filled, opened, opened_level}
use Rattle.path_focus.specs.Making.{under_let}
use Rattle.path_focus.specs.declared.place.Focus.{Focus}
use Rattle.rules_let.proofs.ReachLaws.{both_may_move}
use Rattle.path_focus.specs.Outcome.{Makes, Meant, Unfit, Unlike}
use Rattle.path_focus.specs.declared.rule.Arg.{Arg}
use Rattle.rule_parts.specs.Patterns.{provided}
use Rattle.rules_let.specs.Arguments.{number_of, with_number}
use Rattle.rules_let.specs.Operators.{BothMayMove, is_operator, operator_around, operator_level, under_one_more, with_let, with_opened}
use Rattle.rules_let.specs.Table.{let_op}

-- the operators, each without one child
abbrev pub operates : Frame → Bool
operates (AddLeft b) = true
operates (AddRight a) = true
operates (SubLeft b) = true
operates (SubRight a) = true
operates (MulLeft b) = true
operates (MulRight a) = true
operates (ConcatLeft b) = true
operates (ConcatRight a) = true
operates OfFlatten = true
operates (OfSplit k) = true
operates OfTranspose = true
operates (OfTruncL n) = true
operates (OfTruncR n) = true
operates (OfPadL n) = true
operates (OfPadR n) = true
operates _ = false

abbrev some : Frame → Term → Option Opened
some f c = Some (record { frame = f; child = c })

-- what is known of a node opened at a child
abbrev Known : Term-F Term → ℕ → Term → Opened → Type 0
Known l k new o = (operates o.frame ≡ true) × (operator_around l k new ≡ filled (under_one_more o.frame) new)

only : (P : Opened → Type 0) (b : Bool) (f : Frame) (c : Term) → P (record { frame = f; child = c }) → IfSome (if b then some f c else None) P
only P true f c h = h
only P false f c h = tt

either : (make : Term → Term → Term) (b d : Bool) (f g : Frame) (x y x' y' new : Term) → operates f ≡ true → operates g ≡ true
    → make new y' ≡ filled (under_one_more f) new → make x' new ≡ filled (under_one_more g) new
    → IfSome (if b then some f x else (if d then some g y else None))
    (λ o. (operates o.frame ≡ true) × (make (if b then new else x') (if b then y' else new) ≡ filled (under_one_more o.frame) new))
either make true d f g x y x' y' new p q h k = (p, h)
either make false true f g x y x' y' new p q h k = (q, k)
either make false false f g x y x' y' new p q h k = tt

level_known : (l : Term-F Term) (k : ℕ) (new : Term) → operator_level l ≡ true → IfSome (opened_level l k) (Known l k new)
level_known (Term-F.Lit w) k new h = tt
level_known (Term-F.TVar q) k new h = tt
level_known (Term-F.WordOf x) k new h = tt
level_known (Term-F.Index e x) k new h = absurd (cc)
level_known (Term-F.Gen n e) k new h = absurd (cc)
level_known (Term-F.Sum n e) k new h = absurd (cc)
level_known (Term-F.Guard c e) k new h = absurd (cc)
level_known (Term-F.Let a b) k new h = absurd (cc)
level_known (Term-F.Flatten e) k new h = only (Known (Term-F.Flatten e) k new) (k == 0) OfFlatten e (refl, Flatten-is new)
level_known (Term-F.Split m e) k new h = only (Known (Term-F.Split m e) k new) (k == 0) (OfSplit m) e (refl, Split-is m new)
level_known (Term-F.Transpose e) k new h = only (Known (Term-F.Transpose e) k new) (k == 0) OfTranspose e (refl, Transpose-is new)
level_known (Term-F.TruncL n e) k new h = only (Known (Term-F.TruncL n e) k new) (k == 0) (OfTruncL n) e (refl, TruncL-is n new)
level_known (Term-F.TruncR n e) k new h = only (Known (Term-F.TruncR n e) k new) (k == 0) (OfTruncR n) e (refl, TruncR-is n new)
level_known (Term-F.PadL n e) k new h = only (Known (Term-F.PadL n e) k new) (k == 0) (OfPadL n) e (refl, PadL-is n new)
level_known (Term-F.PadR n e) k new h = only (Known (Term-F.PadR n e) k new) (k == 0) (OfPadR n) e (refl, PadR-is n new)
level_known (Term-F.Add a b) k new h =
    either variant.Add (k == 0) (k == 1) (AddLeft b) (AddRight a) a b (under_let a) (under_let b) new refl refl
    (Add-is new (under_let b)) (Add-is (under_let a) new)
level_known (Term-F.Sub a b) k new h =
    either variant.Sub (k == 0) (k == 1) (SubLeft b) (SubRight a) a b (under_let a) (under_let b) new refl refl
    (Sub-is new (under_let b)) (Sub-is (under_let a) new)
level_known (Term-F.Mul a b) k new h =
    either variant.Mul (k == 0) (k == 1) (MulLeft b) (MulRight a) a b (under_let a) (under_let b) new refl refl
    (Mul-is new (under_let b)) (Mul-is (under_let a) new)
level_known (Term-F.Concat a b) k new h =
    either variant.Concat (k == 0) (k == 1) (ConcatLeft b) (ConcatRight a) a b (under_let a) (under_let b) new refl refl
    (Concat-is new (under_let b)) (Concat-is (under_let a) new)

at_opened : (P : Opened → Type 0) (x : Option Opened) (o : Opened) → x ≡ Some o → IfSome x P → P o
at_opened P (Some p) o e h = let q : p ≡ o = cc in subst P q h
at_opened P None o e h = absurd (cc)

pub opened_known : (e : Term) (k : ℕ) (new : Term) (o : Opened) → operator_level (out-Term e) ≡ true → opened e k ≡ Some o → Known (out-Term e) k new o
opened_known e k new o h q = at_opened (Known (out-Term e) k new) (opened e k) o q (level_known (out-Term e) k new h)

-- the children of an operator of two at a proper focus may be moved
level_may_move : (f : Focus) → IsProper f → (l : Term-F Term) → f.term ≡ roll-Term l → BothMayMove l
level_may_move f p (Term-F.Add a b) q = both_may_move f p (add a b) a b (q ∙ rolls-Add a b ∙ Add-is a b) refl refl
level_may_move f p (Term-F.Sub a b) q = both_may_move f p (sub a b) a b (q ∙ rolls-Sub a b ∙ Sub-is a b) refl refl
level_may_move f p (Term-F.Mul a b) q = both_may_move f p (mul a b) a b (q ∙ rolls-Mul a b ∙ Mul-is a b) refl refl
level_may_move f p (Term-F.Concat a b) q = both_may_move f p (concat a b) a b (q ∙ rolls-Concat a b ∙ Concat-is a b) refl refl
level_may_move f p _ q = tt

pub operator_may_move : (f : Focus) → IsProper f → (e : Term) → f.term ≡ e → BothMayMove (out-Term e)
operator_may_move f p e q = level_may_move f p (out-Term e) (q ∙ sym (roll-out-Term e))

-- a child that is there
pub child_opened : (x : Option Opened) (e : Term) → Some e ≡ option_map (λ o. o.child) x → (o : Opened) × (x ≡ Some o) × (o.child ≡ e)
child_opened (Some o) e h = (o, refl, (cc))
child_opened None e h = absurd (cc)

pub no_child : (x : Option Opened) → None ≡ option_map (λ o. o.child) x → x ≡ None
no_child (Some o) h = absurd (cc)
no_child None h = refl

-- what the rule makes, test by test
module _ (f : Focus) (as' : List Arg) where
  abbrev at_let : Frame → Term → Meant
  at_let g e = with_let e (λ a b. Makes (let_in a (filled (under_one_more g) b)) [])

  abbrev at_number : ℕ → Meant
  at_number j = with_opened (opened f.term j) at_let

  pub op_unlike : is_operator f.term ≡ false → let_op f as' ≡ Unlike
  op_unlike h = ap (λ b. provided b (with_number (number_of as') at_number)) h

  module _ (operator : is_operator f.term ≡ true) where
    numbered : let_op f as' ≡ with_number (number_of as') at_number
    numbered = ap (λ b. provided b (with_number (number_of as') at_number)) operator

    pub op_no_number : number_of as' ≡ None → let_op f as' ≡ Unfit
    op_no_number h = numbered ∙ ap (λ x. with_number x at_number) h

    module _ (j : ℕ) (number : number_of as' ≡ Some j) where
      with_child : let_op f as' ≡ at_number j
      with_child = numbered ∙ ap (λ x. with_number x at_number) number

      pub op_no_child : opened f.term j ≡ None → let_op f as' ≡ Unfit
      op_no_child h = with_child ∙ ap (λ x. with_opened x at_let) h

      module _ (o : Opened) (there : opened f.term j ≡ Some o) where
        with_node : let_op f as' ≡ at_let o.frame o.child
        with_node = with_child ∙ ap (λ x. with_opened x at_let) there

        pub op_no_let : ((g : Term → Term → Meant) → with_let o.child g ≡ Unfit) → let_op f as' ≡ Unfit
        op_no_let h = with_node ∙ h (λ a b. Makes (let_in a (filled (under_one_more o.frame) b)) [])

        pub op_made : (a b : Term) → o.child ≡ let_in a b → let_op f as' ≡ Makes (let_in a (filled (under_one_more o.frame) b)) []
        op_made a b h = with_node ∙ ap (at_let o.frame) h
