-- The tokens of a term with the canonical names of its variables: in parentheses exactly where it would otherwise read as another tree.
use Rattle.std.specs.Prelude.{ℕ, ◌+◌, ◌-◌, Bool, true, false, if◌then◌else◌, nat_lt, List, [], ◌∷◌, ◌++◌, codes, decimal}
use Rattle.text_tokens.specs.declared.kind.Kind.TheVariants as k
use Rattle.text_tokens.specs.Kinds.{Text}
use Rattle.affine_index.specs.declared.aff.Aff.{Aff}
use Rattle.affine_index.specs.declared.cond.Cmp.{Cmp}
use Rattle.affine_index.specs.declared.cond.Cmp.TheVariants.{Ge, Eq}
use Rattle.affine_index.specs.declared.cond.Cond.{Cond}
use Rattle.term_tree.specs.declared.term.Term.{Term, Lit, TVar, WordOf}
use Rattle.term_tree.specs.Syntax.{index, gen, sum, guard, let_in, add, sub, mul, concat, flatten, split, transpose, trunc_l, trunc_r, pad_l, pad_r}
use Rattle.index_trees.specs.Tree.{index_tree}
use Rattle.text_tokens.specs.Spelled.{Token, keyword, name_token, number_token, sign}
use Rattle.atl_printer.specs.IndexTokens.{enclosed, index_tokens}
use Rattle.source_grammar.specs.Index.{Sum as index_sum}
use Rattle.source_grammar.specs.Terms.{Place, Whole, Sum, Product, Factor}

-- whether a term of the first place reads as another tree where the second is the loosest that may stand
abbrev pub is_looser : Place → Place → Bool
is_looser Whole Whole = false
is_looser Whole place = true
is_looser Sum Product = true
is_looser Sum Factor = true
is_looser Product Factor = true
is_looser own place = false

-- the variables of gens and sums, and the tensors of lets, by the number of those around them
abbrev pub var_text : ℕ → Text
var_text d = codes "i" ++ decimal d

abbrev pub let_text : ℕ → Text
let_text d = codes "t" ++ decimal d

module _ (size_text input_text : ℕ → Text) where
  -- an index under so many variables
  abbrev pub form_tokens : ℕ → Aff → List Token
  form_tokens vars x = index_tokens size_text var_text (index_tree vars x) index_sum

  abbrev pub cmp_tokens : ℕ → Cmp → List Token
  cmp_tokens vars (Ge x) = form_tokens vars x ++ sign k.GreaterEqual ∷ number_token 0 ∷ []
  cmp_tokens vars (Eq x) = form_tokens vars x ++ sign k.Equal ∷ number_token 0 ∷ []

  -- comparisons, each after `and`
  abbrev pub more_tokens : ℕ → List Cmp → List Token
  more_tokens vars [] = []
  more_tokens vars (c ∷ cs) = keyword k.And ∷ cmp_tokens vars c ++ more_tokens vars cs

  abbrev pub all_tokens : ℕ → List Cmp → List Token
  all_tokens vars [] = []
  all_tokens vars (c ∷ cs) = cmp_tokens vars c ++ more_tokens vars cs

  abbrev pub cond_tokens : ℕ → Cond → List Token
  cond_tokens vars c = all_tokens vars c.all

  -- a tensor under so many lets
  abbrev pub tensor_text : ℕ → ℕ → Text
  tensor_text lets q = if nat_lt q lets then let_text (lets - 1 - q) else input_text (q - lets)

  -- a term in a place, under so many variables and lets
  abbrev pub term_tokens : Term → Place → ℕ → ℕ → List Token
  term_tokens (Lit w) place vars lets = number_token w ∷ []
  term_tokens (TVar q) place vars lets = name_token (tensor_text lets q) ∷ []
  term_tokens (WordOf x) place vars lets = keyword k.Word ∷ sign k.LParen ∷ form_tokens vars x ++ sign k.RParen ∷ []
  term_tokens (index e x) place vars lets = term_tokens e Factor vars lets ++ (sign k.LBracket ∷ (form_tokens vars x ++ (sign k.RBracket ∷ [])))
  term_tokens (gen n e) place vars lets = enclosed (is_looser Whole place)
      (keyword k.Gen ∷ name_token (var_text vars) ∷ sign k.Less ∷ form_tokens 0 n ++ sign k.Dot ∷ term_tokens e Whole (vars + 1) lets)
  term_tokens (sum n e) place vars lets = enclosed (is_looser Whole place)
      (keyword k.Sum ∷ name_token (var_text vars) ∷ sign k.Less ∷ form_tokens 0 n ++ sign k.Dot ∷ term_tokens e Whole (vars + 1) lets)
  term_tokens (guard c e) place vars lets = enclosed (is_looser Whole place)
      (keyword k.Guard ∷ cond_tokens vars c ++ sign k.Dot ∷ term_tokens e Whole vars lets)
  term_tokens (let_in a e) place vars lets =
      enclosed (is_looser Whole place) (keyword k.Let ∷ name_token (let_text lets) ∷ sign k.Assign ∷ term_tokens a Whole vars lets ++ keyword k.In
      ∷ term_tokens e Whole vars (lets + 1))
  term_tokens (add a e) place vars lets = enclosed (is_looser Sum place) (term_tokens a Sum vars lets ++ sign k.Plus ∷ term_tokens e Product vars lets)
  term_tokens (sub a e) place vars lets = enclosed (is_looser Sum place) (term_tokens a Sum vars lets ++ sign k.Minus ∷ term_tokens e Product vars lets)
  term_tokens (mul a e) place vars lets = enclosed (is_looser Product place) (term_tokens a Product vars lets ++ sign k.Star ∷ term_tokens e Factor vars lets)
  term_tokens (concat a e) place vars lets = keyword k.Concat ∷ sign k.LParen ∷ (term_tokens a Whole vars lets ++ sign k.Comma ∷ term_tokens e Whole vars lets)
      ++ sign k.RParen ∷ []
  term_tokens (flatten e) place vars lets = keyword k.Flatten ∷ sign k.LParen ∷ term_tokens e Whole vars lets ++ sign k.RParen ∷ []
  term_tokens (split d e) place vars lets = keyword k.Split ∷ sign k.LParen ∷ (number_token d ∷ sign k.Comma ∷ term_tokens e Whole vars lets) ++ sign k.RParen
      ∷ []
  term_tokens (transpose e) place vars lets = keyword k.Transpose ∷ sign k.LParen ∷ term_tokens e Whole vars lets ++ sign k.RParen ∷ []
  term_tokens (trunc_l n e) place vars lets = keyword k.TruncL ∷ sign k.LParen ∷ (form_tokens 0 n ++ sign k.Comma ∷ term_tokens e Whole vars lets)
      ++ sign k.RParen ∷ []
  term_tokens (trunc_r n e) place vars lets = keyword k.TruncR ∷ sign k.LParen ∷ (form_tokens 0 n ++ sign k.Comma ∷ term_tokens e Whole vars lets)
      ++ sign k.RParen ∷ []
  term_tokens (pad_l n e) place vars lets = keyword k.PadL ∷ sign k.LParen ∷ (form_tokens 0 n ++ sign k.Comma ∷ term_tokens e Whole vars lets) ++ sign k.RParen
      ∷ []
  term_tokens (pad_r n e) place vars lets = keyword k.PadR ∷ sign k.LParen ∷ (form_tokens 0 n ++ sign k.Comma ∷ term_tokens e Whole vars lets) ++ sign k.RParen
      ∷ []
