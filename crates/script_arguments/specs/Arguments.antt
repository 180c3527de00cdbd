-- Arguments at a place.
use Rattle.std.specs.Prelude.{ℕ, if◌then◌else◌, List, ◌∷◌, length, map, bytes_eq, codes, Option, Some, None}
use Rattle.affine_index.specs.declared.cond.Cmp.{Cmp}
use Rattle.affine_index.specs.declared.form.Items.{Items}
use Rattle.fact_list.specs.Facts.{binders}
use Rattle.path_focus.specs.declared.place.Focus.{Focus}
use Rattle.path_focus.specs.declared.rule.Arg.{Arg}
use Rattle.path_focus.specs.declared.rule.Arg.TheVariants as arg
use Rattle.path_focus.specs.declared.rule.Law.{Law}
use Rattle.schedule_script.specs.declared.tree.ArgTree.{ArgTree}
use Rattle.schedule_script.specs.declared.tree.ArgTree.TheVariants as tree
use Rattle.schedule_script.specs.declared.tree.IxTree.{IxTree, Name}
use Rattle.script_arguments.specs.Forms.{comparisons_of, form_of}
use Rattle.script_arguments.specs.Names.{form_named, law_named, let_named}
use Rattle.text_tokens.specs.Kinds.{Text}

-- a form, or what means nothing
abbrev pub as_form : Option Items → Arg
as_form (Some x) = arg.Ix x
as_form None = arg.Bad

-- a law, or else another argument
abbrev pub as_law : Option Law → Arg → Arg
as_law (Some l) a = arg.Law l
as_law None a = a

-- the tensor variable of a let, or else another argument
abbrev pub as_let : Option ℕ → Arg → Arg
as_let (Some q) a = arg.TensorVar q
as_let None a = a

-- comparisons of which there is at least one
abbrev pub as_condition : Option (List Cmp) → Arg
as_condition (Some (c ∷ cs)) = arg.Cond (record { all = c ∷ cs })
as_condition _ = arg.Bad

module _ (sizes : List Text) (vars lets : ℕ) where
  abbrev pub plain_index : IxTree → Arg
  plain_index x = as_form (form_of (form_named sizes vars) x)

  -- a name that stands alone: of the rule `ring` a law, of `let_use` a let, where there is one of this name
  abbrev pub lone_name : Text → Text → Arg
  lone_name rule t =
      if bytes_eq rule (codes "ring") then as_law (law_named t) (as_form (form_named sizes vars t))
      else (if bytes_eq rule (codes "let_use") then as_let (let_named lets t) (as_form (form_named sizes vars t)) else as_form (form_named sizes vars t))

  -- an index expression as an argument of a rule
  abbrev pub index_argument : Text → IxTree → Arg
  index_argument rule (Name t) = lone_name rule t
  index_argument rule x = plain_index x

  abbrev pub argument : Text → ArgTree → Arg
  argument rule (tree.Ix x) = index_argument rule x
  argument rule (tree.Cond cs) = as_condition (comparisons_of (form_named sizes vars) cs)

-- an argument of a rule at a focus, over these sizes
abbrev pub argument_at : List Text → Focus → Text → ArgTree → Arg
argument_at sizes f = argument sizes (binders f.facts.path) (length f.shapes.lets)

-- arguments of a rule
abbrev pub arguments_at : List Text → Focus → Text → List ArgTree → List Arg
arguments_at sizes f rule ts = map (argument_at sizes f rule) ts
