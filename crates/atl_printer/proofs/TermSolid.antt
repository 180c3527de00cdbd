-- The tokens of a term are words that stand apart.
use Rattle.std.proofs.Common.{◌≡◌, ◌⊎◌, ℕ, ◌+◌, ◌-◌, ◌<◌, ◌≤◌, inl, inr, List, [], ◌∷◌, ◌++◌, length, Bool, true, false, nat_lt, if◌then◌else◌, refl, subst}
use Rattle.std.proofs.Common.{arith}
use Rattle.text_tokens.specs.declared.kind.Kind.{Kind}
use Rattle.text_tokens.specs.declared.kind.Kind.TheVariants as k
use Rattle.text_tokens.specs.declared.kind.Language.{Language}
use Rattle.text_tokens.specs.declared.kind.Language.TheVariants.{SourceOne}
use Rattle.text_tokens.specs.Kinds.{Text, has_symbol}
use Rattle.affine_index.specs.Condition.{cmp_form}
use Rattle.affine_index.specs.declared.aff.Aff.{Aff}
use Rattle.affine_index.specs.declared.cond.Cmp.{Cmp}
use Rattle.affine_index.specs.declared.cond.Cmp.TheVariants.{Ge, Eq}
use Rattle.term_tree.specs.Counts.{node_depth}
use Rattle.term_tree.specs.declared.term.Term.{Term, Lit, TVar, WordOf}
use Rattle.term_tree.specs.Syntax.{index, gen, sum, guard, let_in, add, sub, mul, concat, flatten, split, transpose, trunc_l, trunc_r, pad_l, pad_r}
use Rattle.atl_printer.specs.Printable.{HasNoWordOf, AreGoodForms, IsGoodForm, IsPrintable}
use Rattle.text_tokens.specs.Spelled.{Token, closes, name_token, number_token, sign, keyword}
use Rattle.source_grammar.specs.Terms.{Place, Whole, Sum, Product, Factor}
use Rattle.atl_printer.specs.TermTokens.{all_tokens, cmp_tokens, form_tokens, is_looser, let_text, more_tokens, tensor_text, term_tokens, var_text}
use Rattle.text_tokens.proofs.Lexed.{IsToken, is_sign}
use Rattle.text_tokens.proofs.Solid.{Follows, Solid, after_any, follows, follows_nil, onto, solid_between, solid_closed, solid_lead, solid_one}
use Rattle.text_tokens.proofs.Solid.{solid_parens, solid_then}
use Rattle.atl_printer.proofs.IndexSolid.{form_solid, solid_enclosed}
use Rattle.text_tokens.proofs.SourceWords.{IsSourceLanguage, is_keyword, keyword_token, let_token, number_is, sign_is, var_token}

module _ (language : Language) (source : IsSourceLanguage language) (size_text input_text : ℕ → Text) (sizes inputs : ℕ)
    (size_names : (s : ℕ) → s < sizes → IsToken language (name_token (size_text s)))
    (input_names : (q : ℕ) → q < inputs → IsToken language (name_token (input_text q))) where
  abbrev Fine : List Token → Type 0
  Fine = Solid language

  abbrev forms : ℕ → Aff → List Token
  forms = form_tokens size_text input_text

  abbrev tokens : Term → Place → ℕ → ℕ → List Token
  tokens = term_tokens size_text input_text

  pub form_fine : (vars : ℕ) (x : Aff) → vars ≤ 1000 → IsGoodForm sizes vars x → Fine (forms vars x)
  form_fine vars x h g = form_solid language source size_text sizes size_names vars h x g.0 g.1

  zero_token : Fine (number_token 0 ∷ [])
  zero_token = solid_one language source (number_token 0) refl refl (number_is language source 0 (omega arith))

  pub cmp_fine : (vars : ℕ) (c : Cmp) → vars ≤ 1000 → IsGoodForm sizes vars (cmp_form c) → Fine (cmp_tokens size_text input_text vars c)
  cmp_fine vars (Ge x) h g = solid_between language source (forms vars x) (sign k.GreaterEqual) (number_token 0 ∷ []) (form_fine vars x h g)
      (sign_is language source k.GreaterEqual refl refl) zero_token
  cmp_fine vars (Eq x) h g = solid_between language source (forms vars x) (sign k.Equal) (number_token 0 ∷ []) (form_fine vars x h g)
      (sign_is language source k.Equal refl refl) zero_token

  more_follow : (vars : ℕ) (cs : List Cmp) → vars ≤ 1000 → AreGoodForms sizes vars cs → Follows language (more_tokens size_text input_text vars cs)
  more_follow vars [] h g = follows_nil language
  more_follow vars (c ∷ cs) h g =
      follows language (keyword k.And) (cmp_tokens size_text input_text vars c ++ more_tokens size_text input_text vars cs)
      (keyword_token language source k.And refl)
      (onto language k.And (cmp_tokens size_text input_text vars c) (more_tokens size_text input_text vars cs)
      (after_any language k.And (cmp_tokens size_text input_text vars c) (cmp_fine vars c h g.0)) (more_follow vars cs h g.1))

  all_fine : (vars : ℕ) (cs : List Cmp) → 0 < length cs → vars ≤ 1000 → AreGoodForms sizes vars cs → Fine (all_tokens size_text input_text vars cs)
  all_fine vars [] s h g = absurd (omega (arith, s))
  all_fine vars (c ∷ cs) s h g = solid_then language (cmp_tokens size_text input_text vars c) (more_tokens size_text input_text vars cs) (cmp_fine vars c h g.0)
      (more_follow vars cs h g.1)

  sign_token : (kd : Kind) → is_sign kd ≡ true → has_symbol SourceOne kd ≡ true → IsToken language (sign kd)
  sign_token = sign_is language source

  tensor_token : (lets q : ℕ) → lets ≤ 1000 → q < lets + inputs → IsToken language (name_token (tensor_text size_text input_text lets q))
  tensor_token lets q small h = by (nat_lt q lets) refl
    where
      at : (q lets : ℕ) → nat_lt q lets ≡ false → lets ≤ q
      at q lets e = grind arith

      by : (b : Bool) → nat_lt q lets ≡ b → IsToken language (name_token (if b then let_text (lets - 1 - q) else input_text (q - lets)))
      by true e = let_token language source (lets - 1 - q) (omega (arith, small))
      by false e = input_names (q - lets) (omega (arith, h, at q lets e))

  -- `word` is a keyword, or does not occur
  abbrev Words : Term → Type 0
  Words t = IsToken language (keyword k.Word) ⊎ HasNoWordOf t

  -- the parts of a term without it
  both : (a e : Term) → (IsToken language (keyword k.Word) ⊎ (HasNoWordOf a × HasNoWordOf e)) → Words a × Words e
  both a e (inl h) = (inl h, inl h)
  both a e (inr h) = (inr h.0, inr h.1)

  lead : (kd : Kind) (ts : List Token) → closes kd ≡ false → is_keyword kd ≡ true → Fine ts → Fine (keyword kd ∷ ts)
  lead kd ts c h f = solid_lead language source (keyword kd) ts c (keyword_token language source kd h) f

  tensors_more : (t : Term) (vars lets : ℕ) → IsPrintable sizes t vars (lets + inputs + 1) → IsPrintable sizes t vars (lets + 1 + inputs)
  tensors_more t vars lets h = subst (λ n. IsPrintable sizes t vars n) (same lets) h
    where
      same : (lets : ℕ) → lets + inputs + 1 ≡ lets + 1 + inputs
      same lets = omega arith

  -- `gen` or `sum`, with the rest
  loop_fine : (kd : Kind) (vars : ℕ) (n : Aff) (ts : List Token) → closes kd ≡ false → is_keyword kd ≡ true → vars ≤ 1000 → IsGoodForm sizes 0 n → Fine ts
      → Fine (keyword kd ∷ name_token (var_text vars) ∷ sign k.Less ∷ forms 0 n ++ sign k.Dot ∷ ts)
  loop_fine kd vars n ts c h small g f =
      lead kd (name_token (var_text vars) ∷ sign k.Less ∷ forms 0 n ++ sign k.Dot ∷ ts) c h
      (solid_between language source (name_token (var_text vars) ∷ []) (sign k.Less) (forms 0 n ++ sign k.Dot ∷ ts)
      (solid_one language source (name_token (var_text vars)) refl refl (var_token language source vars (omega (arith, small))))
      (sign_token k.Less refl refl) (solid_between language source (forms 0 n) (sign k.Dot) ts (form_fine 0 n (omega arith) g) (sign_token k.Dot refl refl) f))

  word_fine : (vars : ℕ) (x : Aff) → vars ≤ 1000 → IsGoodForm sizes vars x → Words (WordOf x)
      → Fine (keyword k.Word ∷ sign k.LParen ∷ forms vars x ++ sign k.RParen ∷ [])
  word_fine vars x small g (inl h) = solid_lead language source (keyword k.Word) (sign k.LParen ∷ forms vars x ++ sign k.RParen ∷ []) refl h
      (solid_parens language source (forms vars x) (form_fine vars x small g))
  word_fine vars x small g (inr h) = absurd h

  pub term_fine : (t : Term) (place : Place) (vars lets : ℕ) → IsPrintable sizes t vars (lets + inputs) → vars + lets + node_depth t ≤ 1000 → Words t
      → Fine (tokens t place vars lets)
  term_fine (Lit w) place vars lets good room ws = solid_one language source (number_token w) refl refl (number_is language source w good)
  term_fine (TVar q) place vars lets good room ws = solid_one language source (name_token (tensor_text size_text input_text lets q)) refl refl
      (tensor_token lets q (omega (arith, room)) good)
  term_fine (WordOf x) place vars lets good room ws = word_fine vars x (omega (arith, room)) good ws
  term_fine (index e x) place vars lets good room ws =
      solid_between language source (tokens e Factor vars lets) (sign k.LBracket) (forms vars x ++ (sign k.RBracket ∷ []))
      (term_fine e Factor vars lets good.0 (omega (arith, room)) ws) (sign_token k.LBracket refl refl)
      (solid_closed language source (forms vars x) (sign k.RBracket) (form_fine vars x (omega (arith, room)) good.1) (sign_token k.RBracket refl refl) refl)
  term_fine (gen n e) place vars lets good room ws =
      solid_enclosed language source (is_looser Whole place) _ (loop_fine k.Gen vars n (tokens e Whole (vars + 1) lets) refl refl (omega (arith, room)) good.0
      (term_fine e Whole (vars + 1) lets good.1 (omega (arith, room)) ws))
  term_fine (sum n e) place vars lets good room ws =
      solid_enclosed language source (is_looser Whole place) _ (loop_fine k.Sum vars n (tokens e Whole (vars + 1) lets) refl refl (omega (arith, room)) good.0
      (term_fine e Whole (vars + 1) lets good.1 (omega (arith, room)) ws))
  term_fine (guard c e) place vars lets good room ws =
      solid_enclosed language source (is_looser Whole place) _ (lead k.Guard
      (all_tokens size_text input_text vars c.all ++ sign k.Dot ∷ tokens e Whole vars lets) refl refl
      (solid_between language source (all_tokens size_text input_text vars c.all) (sign k.Dot) (tokens e Whole vars lets)
      (all_fine vars c.all good.0.0 (omega (arith, room)) good.0.2) (sign_token k.Dot refl refl)
      (term_fine e Whole vars lets good.1 (omega (arith, room)) ws)))
  term_fine (let_in a e) place vars lets good room ws =
      let w = both a e ws in
      let fa = term_fine a Whole vars lets good.0 (omega (arith, room)) w.0 in
      let fe = term_fine e Whole vars (lets + 1) (tensors_more e vars lets good.1) (omega (arith, room)) w.1 in
      solid_enclosed language source (is_looser Whole place) _ (lead k.Let
      (name_token (let_text lets) ∷ sign k.Assign ∷ tokens a Whole vars lets ++ keyword k.In ∷ tokens e Whole vars (lets + 1)) refl refl
      (solid_between language source (name_token (let_text lets) ∷ []) (sign k.Assign)
      (tokens a Whole vars lets ++ keyword k.In ∷ tokens e Whole vars (lets + 1))
      (solid_one language source (name_token (let_text lets)) refl refl (let_token language source lets (omega (arith, room))))
      (sign_token k.Assign refl refl) (solid_between language source (tokens a Whole vars lets) (keyword k.In) (tokens e Whole vars (lets + 1)) fa
      (keyword_token language source k.In refl) fe)))
  term_fine (add a e) place vars lets good room ws =
      let w = both a e ws in
      solid_enclosed language source (is_looser Sum place) _ (solid_between language source (tokens a Sum vars lets) (sign k.Plus) (tokens e Product vars lets)
      (term_fine a Sum vars lets good.0 (omega (arith, room)) w.0) (sign_token k.Plus refl refl)
      (term_fine e Product vars lets good.1 (omega (arith, room)) w.1))
  term_fine (sub a e) place vars lets good room ws =
      let w = both a e ws in
      solid_enclosed language source (is_looser Sum place) _ (solid_between language source (tokens a Sum vars lets) (sign k.Minus) (tokens e Product vars lets)
      (term_fine a Sum vars lets good.0 (omega (arith, room)) w.0) (sign_token k.Minus refl refl)
      (term_fine e Product vars lets good.1 (omega (arith, room)) w.1))
  term_fine (mul a e) place vars lets good room ws =
      let w = both a e ws in
      solid_enclosed language source (is_looser Product place) _ (solid_between language source (tokens a Product vars lets) (sign k.Star)
      (tokens e Factor vars lets) (term_fine a Product vars lets good.0 (omega (arith, room)) w.0) (sign_token k.Star refl refl)
      (term_fine e Factor vars lets good.1 (omega (arith, room)) w.1))
  term_fine (concat a e) place vars lets good room ws =
      let w = both a e ws in
      lead k.Concat (sign k.LParen ∷ (tokens a Whole vars lets ++ sign k.Comma ∷ tokens e Whole vars lets) ++ sign k.RParen ∷ []) refl refl
      (solid_parens language source (tokens a Whole vars lets ++ sign k.Comma ∷ tokens e Whole vars lets)
      (solid_between language source (tokens a Whole vars lets) (sign k.Comma) (tokens e Whole vars lets)
      (term_fine a Whole vars lets good.0 (omega (arith, room)) w.0) (sign_token k.Comma refl refl)
      (term_fine e Whole vars lets good.1 (omega (arith, room)) w.1)))
  term_fine (flatten e) place vars lets good room ws = lead k.Flatten (sign k.LParen ∷ tokens e Whole vars lets ++ sign k.RParen ∷ []) refl refl
      (solid_parens language source (tokens e Whole vars lets) (term_fine e Whole vars lets good (omega (arith, room)) ws))
  term_fine (split d e) place vars lets good room ws =
      lead k.Split (sign k.LParen ∷ (number_token d ∷ sign k.Comma ∷ tokens e Whole vars lets) ++ sign k.RParen ∷ []) refl refl
      (solid_parens language source (number_token d ∷ sign k.Comma ∷ tokens e Whole vars lets)
      (solid_between language source (number_token d ∷ []) (sign k.Comma) (tokens e Whole vars lets)
      (solid_one language source (number_token d) refl refl (number_is language source d (omega (arith, good.1)))) (sign_token k.Comma refl refl)
      (term_fine e Whole vars lets good.2 (omega (arith, room)) ws)))
  term_fine (transpose e) place vars lets good room ws = lead k.Transpose (sign k.LParen ∷ tokens e Whole vars lets ++ sign k.RParen ∷ []) refl refl
      (solid_parens language source (tokens e Whole vars lets) (term_fine e Whole vars lets good (omega (arith, room)) ws))
  term_fine (trunc_l n e) place vars lets good room ws =
      lead k.TruncL (sign k.LParen ∷ (forms 0 n ++ sign k.Comma ∷ tokens e Whole vars lets) ++ sign k.RParen ∷ []) refl refl
      (solid_parens language source (forms 0 n ++ sign k.Comma ∷ tokens e Whole vars lets)
      (solid_between language source (forms 0 n) (sign k.Comma) (tokens e Whole vars lets) (form_fine 0 n (omega arith) good.0) (sign_token k.Comma refl refl)
      (term_fine e Whole vars lets good.1 (omega (arith, room)) ws)))
  term_fine (trunc_r n e) place vars lets good room ws =
      lead k.TruncR (sign k.LParen ∷ (forms 0 n ++ sign k.Comma ∷ tokens e Whole vars lets) ++ sign k.RParen ∷ []) refl refl
      (solid_parens language source (forms 0 n ++ sign k.Comma ∷ tokens e Whole vars lets)
      (solid_between language source (forms 0 n) (sign k.Comma) (tokens e Whole vars lets) (form_fine 0 n (omega arith) good.0) (sign_token k.Comma refl refl)
      (term_fine e Whole vars lets good.1 (omega (arith, room)) ws)))
  term_fine (pad_l n e) place vars lets good room ws =
      lead k.PadL (sign k.LParen ∷ (forms 0 n ++ sign k.Comma ∷ tokens e Whole vars lets) ++ sign k.RParen ∷ []) refl refl
      (solid_parens language source (forms 0 n ++ sign k.Comma ∷ tokens e Whole vars lets)
      (solid_between language source (forms 0 n) (sign k.Comma) (tokens e Whole vars lets) (form_fine 0 n (omega arith) good.0) (sign_token k.Comma refl refl)
      (term_fine e Whole vars lets good.1 (omega (arith, room)) ws)))
  term_fine (pad_r n e) place vars lets good room ws =
      lead k.PadR (sign k.LParen ∷ (forms 0 n ++ sign k.Comma ∷ tokens e Whole vars lets) ++ sign k.RParen ∷ []) refl refl
      (solid_parens language source (forms 0 n ++ sign k.Comma ∷ tokens e Whole vars lets)
      (solid_between language source (forms 0 n) (sign k.Comma) (tokens e Whole vars lets) (form_fine 0 n (omega arith) good.0) (sign_token k.Comma refl refl)
      (term_fine e Whole vars lets good.1 (omega (arith, room)) ws)))
