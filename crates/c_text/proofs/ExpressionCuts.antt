-- The canonical text of expressions is cut into their printed words.
use Rattle.std.proofs.Common.{◌≡◌, ℕ, zero, suc, ◌<◌, ◌≤◌, ◌^◌, Bool, true, false, nat_lt, List, [], ◌∷◌, ◌++◌, refl, sym, ap, subst, ◌∙◌, arith, append_assoc}
use Rattle.std.specs.Prelude.{codes, decimal, pos, negsuc}
use Rattle.std.specs.List.{flat_map}
use Rattle.std.proofs.lemmas.Bool.{and_parts}
use Rattle.affine_index.specs.declared.cond.Rel.{Rel}
use Rattle.affine_index.specs.declared.cond.Rel.TheVariants.{Lt, Le, Gt, Ge, Eq}
use Rattle.text_tokens.specs.declared.kind.Kind.TheVariants as k
use Rattle.text_tokens.specs.Kinds.{Text}
use Rattle.loop_lang.specs.declared.index.Iexp.{Iexp, Lit, Size, Loop}
use Rattle.loop_lang.specs.declared.index.Test.{Test}
use Rattle.loop_lang.specs.declared.word.Buf.{Buf}
use Rattle.loop_lang.specs.declared.word.Buf.TheVariants.{Input, Output, Scratch}
use Rattle.loop_lang.specs.declared.word.Wexp.{Wexp}
use Rattle.loop_lang.specs.declared.word.Wexp as word
use Rattle.loop_lang.specs.Form.{is_divisor}
use Rattle.loop_lang.specs.Syntax.{index_sum, index_difference, index_product, index_quotient, index_remainder}
use Rattle.loop_lang.specs.Syntax.{index_larger, word_sum, word_difference, word_product, word_choice}
use Rattle.c_print.specs.declared.level.Level.{Level}
use Rattle.c_print.specs.declared.level.Level.TheVariants.{Choice, Sum, Product, Part}
use Rattle.c_print.specs.Level.{is_looser}
use Rattle.c_print.specs.Level.{enclosed as enclosed_text}
use Rattle.c_print.specs.Index.{index_literal, index_text, loop_name, size_name}
use Rattle.c_print.specs.Word.{and_test, buffer_name, element_text, relation_text, test_text, tests_text, word_literal, word_text}
use Rattle.text_tokens.specs.Spelled.{Token, name_token, number_token}
use Rattle.c_words.specs.Tokens.{AndAnd, Question, sign}
use Rattle.c_words.specs.Words.{symbol, word as front_word, words_from}
use Rattle.c_text.specs.Expression.{HasBuffer, Scope}
use Rattle.c_text.specs.Printed.{element_words, enclosed, index_number, index_words, more_tests, relation_sign, test_words, tests_words, word_words}
use Rattle.c_text.specs.Printable.{Below, Enclosed, EachTestFits, IndexFits, TestFits, TestsFit, WordFits}
use Rattle.c_text.proofs.RulesSay.{append-nil}
use Rattle.c_text.proofs.Cuts.{Cuts, Passes, between, cuts_any, cuts_passes, decimal-goes, name_cuts, number_cuts, passes_cuts, starts_stop}

-- ---- fixed pieces

pub open_paren : Passes (codes "(") (sign k.LParen ∷ [])
unfolding words_from front_word symbol
open_paren = record { passes = λ end m rest. refl }

pub close_paren : Passes (codes ")") (sign k.RParen ∷ [])
unfolding words_from front_word symbol
close_paren = record { passes = λ end m rest. refl }

signed : Passes (codes "INT64_C(") (name_token (codes "INT64_C") ∷ sign k.LParen ∷ [])
unfolding words_from front_word symbol
signed = record { passes = λ end m rest. refl }

unsigned : Passes (codes "UINT64_C(") (name_token (codes "UINT64_C") ∷ sign k.LParen ∷ [])
unfolding words_from front_word symbol
unsigned = record { passes = λ end m rest. refl }

top : Passes (codes "top(") (name_token (codes "top") ∷ sign k.LParen ∷ [])
unfolding words_from front_word symbol
top = record { passes = λ end m rest. refl }

cast : Passes (codes "(uint64_t)(") (sign k.LParen ∷ name_token (codes "uint64_t") ∷ sign k.RParen ∷ sign k.LParen ∷ [])
unfolding words_from front_word symbol
cast = record { passes = λ end m rest. refl }

pub comma : Passes (codes ", ") (sign k.Comma ∷ [])
unfolding words_from front_word symbol
comma = record { passes = λ end m rest. refl }

plus : Passes (codes " + ") (sign k.Plus ∷ [])
unfolding words_from front_word symbol
plus = record { passes = λ end m rest. refl }

minus : Passes (codes " - ") (sign k.Minus ∷ [])
unfolding words_from front_word symbol
minus = record { passes = λ end m rest. refl }

times : Passes (codes " * ") (sign k.Star ∷ [])
unfolding words_from front_word symbol
times = record { passes = λ end m rest. refl }

over : Passes (codes " / ") (sign k.Slash ∷ [])
unfolding words_from front_word symbol
over = record { passes = λ end m rest. refl }

modulo : Passes (codes " % ") (sign k.Percent ∷ [])
unfolding words_from front_word symbol
modulo = record { passes = λ end m rest. refl }

open_bracket : Passes (codes "[") (sign k.LBracket ∷ [])
unfolding words_from front_word symbol
open_bracket = record { passes = λ end m rest. refl }

close_bracket : Passes (codes "]") (sign k.RBracket ∷ [])
unfolding words_from front_word symbol
close_bracket = record { passes = λ end m rest. refl }

and_sign : Passes (codes " && ") (sign AndAnd ∷ [])
unfolding words_from front_word symbol
and_sign = record { passes = λ end m rest. refl }

question : Passes (codes " ? ") (sign Question ∷ [])
unfolding words_from front_word symbol
question = record { passes = λ end m rest. refl }

colon : Passes (codes " : ") (sign k.Colon ∷ [])
unfolding words_from front_word symbol
colon = record { passes = λ end m rest. refl }

relation : (r : Rel) → Passes (relation_text r) (sign (relation_sign r) ∷ [])
unfolding words_from front_word symbol
relation Lt = record { passes = λ end m rest. refl }
relation Le = record { passes = λ end m rest. refl }
relation Gt = record { passes = λ end m rest. refl }
relation Ge = record { passes = λ end m rest. refl }
relation Eq = record { passes = λ end m rest. refl }

relation-stop : (r : Rel) → starts_stop (relation_text r) ≡ true
relation-stop Lt = refl
relation-stop Le = refl
relation-stop Gt = refl
relation-stop Ge = refl
relation-stop Eq = refl

-- ---- names

-- the numbers in names are not too large
pub record IsSmall (scope : Scope) : Type 0 where
  pub sizes : scope.sizes ≤ 2 ^ 64
  pub inputs : scope.inputs ≤ 2 ^ 64
  pub outputs : scope.outputs ≤ 2 ^ 64
  pub scratch : scope.scratch ≤ 2 ^ 64
  pub loops : scope.loops ≤ 2 ^ 64

pub size_cuts : (n : ℕ) → n < 2 ^ 64 → Cuts (size_name n) (name_token (size_name n) ∷ [])
unfolding size_name
size_cuts n h = name_cuts 110 (decimal n) refl (decimal-goes n h)

pub loop_cuts : (n : ℕ) → n < 2 ^ 64 → Cuts (loop_name n) (name_token (loop_name n) ∷ [])
unfolding loop_name
loop_cuts n h = name_cuts 105 (decimal n) refl (decimal-goes n h)

abbrev pub number_of : Buf → ℕ
number_of (Input n) = n
number_of (Output n) = n
number_of (Scratch n) = n

pub buffer_cuts : (b : Buf) → number_of b < 2 ^ 64 → Cuts (buffer_name b) (name_token (buffer_name b) ∷ [])
unfolding buffer_name
buffer_cuts (Input n) h = name_cuts 97 (decimal n) refl (decimal-goes n h)
buffer_cuts (Output n) h = name_cuts 98 (decimal n) refl (decimal-goes n h)
buffer_cuts (Scratch n) h = name_cuts 115 (decimal n) refl (decimal-goes n h)

-- ---- indices

literal_cuts : (n : ℕ) → n < 2 ^ 64 → Passes (index_literal (pos n)) (index_number n)
unfolding index_literal
literal_cuts n h = cuts_passes (codes "INT64_C(" ++ decimal n) (codes ")") (name_token (codes "INT64_C") ∷ sign k.LParen ∷ number_token n ∷ [])
    (sign k.RParen ∷ [])
    (passes_cuts (codes "INT64_C(") (decimal n) (name_token (codes "INT64_C") ∷ sign k.LParen ∷ []) (number_token n ∷ []) signed
    (number_cuts n h)) close_paren refl

in_parens : (t : Text) (ts : List Token) → Cuts t ts → Passes (enclosed_text true t) (enclosed true ts)
in_parens t ts p = cuts_passes (codes "(" ++ t) (codes ")") (sign k.LParen ∷ ts) (sign k.RParen ∷ [])
    (passes_cuts (codes "(") t (sign k.LParen ∷ []) ts open_paren p) close_paren refl

placed : (b : Bool) (t : Text) (ts : List Token) → Cuts t ts → Cuts (enclosed_text b t) (enclosed b ts)
placed true t ts p = cuts_any (in_parens t ts p)
placed false t ts p = p

-- at some level
pub below-some : (P : ℕ → Type 0) (l : ℕ) → Below l P → (m : ℕ) × P m
below-some P zero h = absurd h
below-some P (suc l) h = (l, h)

enclosed-some : (b : Bool) (P : ℕ → Type 0) (l : ℕ) → Enclosed b P l → (m : ℕ) × P m
enclosed-some true P l h = below-some P l h
enclosed-some false P l h = (l, h)

small : (n : ℕ) → nat_lt n (2 ^ 63) ≡ true → n < 2 ^ 64
small n h = let g : n < 2 ^ 63 = below n h in omega (arith, g)
  where
    below : (n : ℕ) → nat_lt n (2 ^ 63) ≡ true → n < 2 ^ 63
    below n h = grind arith

module _ (scope : Scope) (is_small : IsSmall scope) where
  pub index-cuts : (t : Iexp) (place : Level) (l : ℕ) → IndexFits scope t place l → Cuts (index_text t place) (index_words t place)
  index-cuts (Lit (pos n)) place l h = cuts_any (literal_cuts n (small n h.0))
  index-cuts (Lit (negsuc n)) place l h = absurd (let e = h.0 in cc)
  index-cuts (Size n) place l h = size_cuts n (omega (arith, h, is_small.sizes))
  index-cuts (Loop n) place l h = loop_cuts n (omega (arith, h, is_small.loops))
  index-cuts (index_sum a b) place l h =
      let g = enclosed-some (is_looser Sum place) _ l h in
      let f = below-some _ g.0 g.1.1 in
      placed (is_looser Sum place) _ _ (between (index_text a Sum) (codes " + ") (index_text b Product) (index_words a Sum) (sign k.Plus)
      (index_words b Product) (index-cuts a Sum g.0 g.1.0) plus refl (index-cuts b Product f.0 f.1))
  index-cuts (index_difference a b) place l h =
      let g = enclosed-some (is_looser Sum place) _ l h in
      let f = below-some _ g.0 g.1.1 in
      placed (is_looser Sum place) _ _ (between (index_text a Sum) (codes " - ") (index_text b Product) (index_words a Sum) (sign k.Minus)
      (index_words b Product) (index-cuts a Sum g.0 g.1.0) minus refl (index-cuts b Product f.0 f.1))
  index-cuts (index_product a b) place l h =
      let g = enclosed-some (is_looser Product place) _ l h in
      let f = below-some _ g.0 g.1.1 in
      placed (is_looser Product place) _ _ (between (index_text a Product) (codes " * ") (index_text b Part) (index_words a Product) (sign k.Star)
      (index_words b Part) (index-cuts a Product g.0 g.1.0) times refl (index-cuts b Part f.0 f.1))
  index-cuts (index_quotient a n) place l h =
      let g = enclosed-some (is_looser Product place) _ l h in
      placed (is_looser Product place) _ _ (between (index_text a Product) (codes " / ") (index_literal (pos n)) (index_words a Product) (sign k.Slash)
      (index_number n) (index-cuts a Product g.0 g.1.0) over refl (cuts_any (literal_cuts n (divisor n g.1.2))))
    where
      divisor : (n : ℕ) → is_divisor n ≡ true → n < 2 ^ 64
      divisor n h = small n (and_parts (nat_lt 0 n) (nat_lt n (2 ^ 63)) h).1
  index-cuts (index_remainder a n) place l h =
      let g = enclosed-some (is_looser Product place) _ l h in
      placed (is_looser Product place) _ _ (between (index_text a Product) (codes " % ") (index_literal (pos n)) (index_words a Product) (sign k.Percent)
      (index_number n) (index-cuts a Product g.0 g.1.0) modulo refl (cuts_any (literal_cuts n (divisor n g.1.2))))
    where
      divisor : (n : ℕ) → is_divisor n ≡ true → n < 2 ^ 64
      divisor n h = small n (and_parts (nat_lt 0 n) (nat_lt n (2 ^ 63)) h).1
  index-cuts (index_larger a b) place l h =
      let g = below-some _ l h.1 in
      two (index_text a Choice) (index_text b Choice) (index_words a Choice) (index_words b Choice) (index-cuts a Choice g.0 g.1.0)
      (index-cuts b Choice g.0 g.1.1)
    where
      two : (t u : Text) (ts us : List Token) → Cuts t ts → Cuts u us → Cuts (codes "top(" ++ t ++ codes ", " ++ u ++ codes ")")
          (name_token (codes "top") ∷ sign k.LParen ∷ (ts ++ sign k.Comma ∷ us) ++ sign k.RParen ∷ [])
      two t u ts us p q =
          cuts_any (cuts_passes _ (codes ")") _ (sign k.RParen ∷ [])
          (between (codes "top(" ++ t) (codes ", ") u (name_token (codes "top") ∷ sign k.LParen ∷ ts) (sign k.Comma) us
          (passes_cuts (codes "top(") t (name_token (codes "top") ∷ sign k.LParen ∷ []) ts top p) comma refl q) close_paren refl)

  -- ---- words

  pub element-cuts : (b : Buf) (i : Iexp) (l : ℕ) → HasBuffer scope b → Below l (IndexFits scope i Choice) → Passes (element_text b i) (element_words b i)
  element-cuts b i l h g =
      let f = below-some _ l g in
      by (index_text i Choice) (index_words i Choice) (index-cuts i Choice f.0 f.1)
    where
      few : (b : Buf) → HasBuffer scope b → number_of b < 2 ^ 64
      few (Input n) h = omega (arith, h, is_small.inputs)
      few (Output n) h = omega (arith, h, is_small.outputs)
      few (Scratch n) h = omega (arith, h, is_small.scratch)

      by : (t : Text) (ts : List Token) → Cuts t ts
          → Passes (buffer_name b ++ codes "[" ++ t ++ codes "]") (name_token (buffer_name b) ∷ sign k.LBracket ∷ ts ++ sign k.RBracket ∷ [])
      by t ts p =
          cuts_passes _ (codes "]") (name_token (buffer_name b) ∷ sign k.LBracket ∷ ts) (sign k.RBracket ∷ [])
          (between (buffer_name b) (codes "[") t (name_token (buffer_name b) ∷ []) (sign k.LBracket) ts
          (buffer_cuts b (few b h)) open_bracket refl p) close_bracket refl

  pub test-cuts : (c : Test) (l : ℕ) → TestFits scope c l → Cuts (test_text c) (test_words c)
  test-cuts c l h =
      between (index_text c.left Sum) (relation_text c.rel) (index_text c.right Sum) (index_words c.left Sum) (sign (relation_sign c.rel))
      (index_words c.right Sum)
      (index-cuts c.left Sum l h.0) (relation c.rel) (relation-stop c.rel) (index-cuts c.right Sum l h.1)

  -- what stands behind the first test, which may be nothing
  more-cut : (t : Text) (ts : List Token) (cs : List Test) (l : ℕ) → EachTestFits scope cs l → Cuts t ts
      → Cuts (t ++ flat_map and_test cs) (ts ++ more_tests cs)
  more-cut t ts [] l h p = subst (λ z. Cuts z (ts ++ [])) (sym (append-nil t)) (subst (Cuts t) (sym (append-nil ts)) p)
  more-cut t ts (c ∷ cs) l h p =
      let one : Cuts ((t ++ codes " && ") ++ test_text c) (ts ++ sign AndAnd ∷ test_words c) = between t (codes " && ") (test_text c) ts (sign AndAnd)
      (test_words c) p and_sign refl (test-cuts c l h.0) in
      subst (λ z. Cuts z (ts ++ more_tests (c ∷ cs))) (ap (λ z. z ++ flat_map and_test cs) (append_assoc t (codes " && ") (test_text c))
      ∙ append_assoc t (and_test c) (flat_map and_test cs))
      (subst (Cuts (((t ++ codes " && ") ++ test_text c) ++ flat_map and_test cs)) (append_assoc ts (sign AndAnd ∷ test_words c) (more_tests cs))
      (more-cut ((t ++ codes " && ") ++ test_text c) (ts ++ sign AndAnd ∷ test_words c) cs l h.1 one))

  pub tests-cut : (cs : List Test) (l : ℕ) → TestsFit scope cs l → Cuts (tests_text cs) (tests_words cs)
  tests-cut [] l h = absurd (omega (arith, h.0))
  tests-cut (c ∷ cs) l h = more-cut (test_text c) (test_words c) cs l h.1.1 (test-cuts c l h.1.0)

  chosen : (t u v : Text) (ts us vs : List Token) → Cuts t ts → Cuts u us → Cuts v vs
      → Cuts (t ++ codes " ? " ++ u ++ codes " : " ++ v) (ts ++ sign Question ∷ (us ++ sign k.Colon ∷ vs))
  chosen t u v ts us vs p q r =
      subst (Cuts (t ++ codes " ? " ++ u ++ codes " : " ++ v)) (append_assoc ts (sign Question ∷ us) (sign k.Colon ∷ vs))
      (between (t ++ codes " ? " ++ u) (codes " : ") v (ts ++ sign Question ∷ us) (sign k.Colon) vs
      (between t (codes " ? ") u ts (sign Question) us p question refl q) colon refl r)

  pub word-cuts : (w : Wexp) (place : Level) (l : ℕ) → WordFits scope w place l → Cuts (word_text w place) (word_words w place)
  unfolding word_literal
  word-cuts (word.Lit n) place l h =
      cuts_any (cuts_passes (codes "UINT64_C(" ++ decimal n) (codes ")") (name_token (codes "UINT64_C") ∷ sign k.LParen ∷ number_token n ∷ [])
      (sign k.RParen ∷ [])
      (passes_cuts (codes "UINT64_C(") (decimal n) (name_token (codes "UINT64_C") ∷ sign k.LParen ∷ []) (number_token n ∷ []) unsigned
      (number_cuts n h.0)) close_paren refl)
  word-cuts (word.Load b i) place l h = cuts_any (element-cuts b i l h.0 h.1)
  word-cuts (word.OfIndex i) place l h =
      let f = below-some _ l h in
      cuts_any (cuts_passes (codes "(uint64_t)(" ++ index_text i Choice) (codes ")") _ (sign k.RParen ∷ [])
      (passes_cuts (codes "(uint64_t)(") (index_text i Choice) (sign k.LParen ∷ name_token (codes "uint64_t") ∷ sign k.RParen ∷ sign k.LParen ∷ [])
      (index_words i Choice) cast (index-cuts i Choice f.0 f.1)) close_paren refl)
  word-cuts (word_sum a b) place l h =
      let g = enclosed-some (is_looser Sum place) _ l h in
      let f = below-some _ g.0 g.1.1 in
      placed (is_looser Sum place) _ _ (between (word_text a Sum) (codes " + ") (word_text b Product) (word_words a Sum) (sign k.Plus) (word_words b Product)
      (word-cuts a Sum g.0 g.1.0) plus refl (word-cuts b Product f.0 f.1))
  word-cuts (word_difference a b) place l h =
      let g = enclosed-some (is_looser Sum place) _ l h in
      let f = below-some _ g.0 g.1.1 in
      placed (is_looser Sum place) _ _ (between (word_text a Sum) (codes " - ") (word_text b Product) (word_words a Sum) (sign k.Minus) (word_words b Product)
      (word-cuts a Sum g.0 g.1.0) minus refl (word-cuts b Product f.0 f.1))
  word-cuts (word_product a b) place l h =
      let g = enclosed-some (is_looser Product place) _ l h in
      let f = below-some _ g.0 g.1.1 in
      placed (is_looser Product place) _ _ (between (word_text a Product) (codes " * ") (word_text b Part) (word_words a Product) (sign k.Star)
      (word_words b Part) (word-cuts a Product g.0 g.1.0) times refl (word-cuts b Part f.0 f.1))
  word-cuts (word_choice cs a b) place l h =
      let g = enclosed-some (is_looser Choice place) _ l h in
      let f = below-some _ g.0 g.1.1 in
      placed (is_looser Choice place) _ _ (chosen (tests_text cs) (word_text a Choice) (word_text b Choice) (tests_words cs) (word_words a Choice)
      (word_words b Choice) (tests-cut cs g.0 g.1.0) (word-cuts a Choice f.0 f.1.0) (word-cuts b Choice f.0 f.1.1))
