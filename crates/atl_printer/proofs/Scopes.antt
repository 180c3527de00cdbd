-- The canonical names mean what they stand for, under so many variables and lets.
use Rattle.std.proofs.Common.{◌≡◌, ℕ, zero, suc, ◌+◌, ◌-◌, ◌^◌, ◌<◌, ◌≤◌, [], ◌∷◌, Bool, true, false, if◌then◌else◌, nat_lt, Some, Ok, refl, ap, ◌∙◌, arith}
use Rattle.std.specs.Str.{bytes_eq}
use Rattle.std.proofs.lemmas.Slice.Eq.{bytes_eq-Decides}
use Rattle.std.proofs.lemmas.Fmt.{decimal_injective}
use Rattle.text_tokens.specs.Kinds.{Text}
use Rattle.affine_index.specs.Form.{size_form, var_form}
use Rattle.source_grammar.specs.Scope.{Entry, Scope, extent_name, if_known, index_form, index_name, meaning, past, size_form_of, tensor_name, tensor_number}
use Rattle.source_grammar.specs.declared.sort.Meaning.{Meaning}
use Rattle.source_grammar.specs.declared.sort.Sort.TheVariants.{OfSize, OfIndex, OfTensor}
use Rattle.source_grammar.specs.Terms.{index_entry, tensor_entry}
use Rattle.atl_printer.specs.TermTokens.{let_text, tensor_text, var_text}

pub bytes_same : (t : Text) → bytes_eq t t ≡ true
bytes_same t = (bytes_eq-Decides t t).1 refl

pub bytes_apart : (t u : Text) → (t ≡ u → ⊥) → bytes_eq t u ≡ false
bytes_apart t u h = by (bytes_eq t u) refl
  where
    by : (b : Bool) → bytes_eq t u ≡ b → b ≡ false
    by true e = absurd (h ((bytes_eq-Decides t u).0 e))
    by false e = refl

abbrev later : Text → Text
later [] = []
later (c ∷ cs) = cs

abbrev first_or : Text → ℕ
first_or [] = 0
first_or (c ∷ cs) = c

vars_differ : (m n : ℕ) → m < 2 ^ 64 → n < 2 ^ 64 → (m ≡ n → ⊥) → bytes_eq (var_text m) (var_text n) ≡ false
vars_differ m n p q h = bytes_apart (var_text m) (var_text n) (λ e. h (decimal_injective m n p q (ap later e)))

lets_differ : (m n : ℕ) → m < 2 ^ 64 → n < 2 ^ 64 → (m ≡ n → ⊥) → bytes_eq (let_text m) (let_text n) ≡ false
lets_differ m n p q h = bytes_apart (let_text m) (let_text n) (λ e. h (decimal_injective m n p q (ap later e)))

var_let : (m n : ℕ) → bytes_eq (var_text m) (let_text n) ≡ false
var_let m n = bytes_apart (var_text m) (let_text n) (λ e. let h : 105 ≡ 116 = ap first_or e in absurd (omega (arith, h)))

let_var : (m n : ℕ) → bytes_eq (let_text m) (var_text n) ≡ false
let_var m n = bytes_apart (let_text m) (var_text n) (λ e. let h : 116 ≡ 105 = ap first_or e in absurd (omega (arith, h)))

abbrev of_size : ℕ → Meaning
of_size n = record { sort = OfSize; number = n }

abbrev of_index : ℕ → Meaning
of_index n = record { sort = OfIndex; number = n }

abbrev of_tensor : ℕ → Meaning
of_tensor n = record { sort = OfTensor; number = n }

-- a name that is none of a canonical text's variables
pub record IsPlain (t : Text) : Type 0 where
  pub no_var : (n : ℕ) → n < 2 ^ 64 → bytes_eq t (var_text n) ≡ false
  pub no_let : (n : ℕ) → n < 2 ^ 64 → bytes_eq t (let_text n) ≡ false

module _ (size_text input_text : ℕ → Text) (sizes inputs : ℕ) (plain_sizes : (s : ℕ) → s < sizes → IsPlain (size_text s))
    (plain_inputs : (q : ℕ) → q < inputs → IsPlain (input_text q)) where
  -- each name means what it stands for
  pub record Named (scope : Scope) (vars lets : ℕ) : Type 0 where
    pub size_is : (s : ℕ) → s < sizes → meaning scope (size_text s) ≡ Some (of_size s)
    pub var_is : (v : ℕ) → v < vars → meaning scope (var_text (vars - 1 - v)) ≡ Some (of_index v)
    pub tensor_is : (q : ℕ) → q < lets + inputs → meaning scope (tensor_text size_text input_text lets q) ≡ Some (of_tensor q)

  -- a name that isn't the one of the entry
  seen_past : (e : Entry) (scope : Scope) (t : Text) (m : Meaning) → bytes_eq t e.name ≡ false → meaning scope t ≡ Some m
      → meaning (e ∷ scope) t ≡ past e.sort (Some m)
  seen_past e scope t m h g = (λ j. if h j then Some (record { sort = e.sort; number = 0 }) else past e.sort (g j))

  seen_first : (e : Entry) (scope : Scope) → meaning (e ∷ scope) e.name ≡ Some (record { sort = e.sort; number = 0 })
  seen_first e scope = (λ j. if bytes_same e.name j then Some (record { sort = e.sort; number = 0 }) else past e.sort (meaning scope e.name))

  tensor_no_var : (lets q n : ℕ) → n < 2 ^ 64 → q < lets + inputs → bytes_eq (tensor_text size_text input_text lets q) (var_text n) ≡ false
  tensor_no_var lets q n small h = by (nat_lt q lets) refl
    where
      at : (q lets : ℕ) → nat_lt q lets ≡ false → lets ≤ q
      at q lets e = grind arith

      by : (b : Bool) → nat_lt q lets ≡ b → bytes_eq (if b then let_text (lets - 1 - q) else input_text (q - lets)) (var_text n) ≡ false
      by true e = let_var (lets - 1 - q) n
      by false e = (plain_inputs (q - lets) (omega (arith, h, at q lets e))).no_var n small

  -- one index variable more
  pub enter_var : (scope : Scope) (vars lets : ℕ) → vars < 2 ^ 64 → Named scope vars lets → Named (index_entry (var_text vars) ∷ scope) (vars + 1) lets
  enter_var scope vars lets small h = record {
    size_is = λ s l. seen_past (index_entry (var_text vars)) scope (size_text s) (of_size s) ((plain_sizes s l).no_var vars small) (h.size_is s l);
    var_is = var_is;
    tensor_is = λ q l. seen_past (index_entry (var_text vars)) scope (tensor_text size_text input_text lets q) (of_tensor q) (tensor_no_var lets q vars small l)
        (h.tensor_is q l);
  }
    where
      same_depth : vars + 1 - 1 - 0 ≡ vars
      same_depth = omega arith

      other_depth : (v : ℕ) → suc v < vars + 1 → vars + 1 - 1 - suc v ≡ vars - 1 - v
      other_depth v l = omega (arith, l)

      apart : (v : ℕ) → suc v < vars + 1 → vars - 1 - v ≡ vars → ⊥
      apart v l e = omega (arith, l, e)

      one : (v : ℕ) → v + 1 ≡ suc v
      one v = omega arith

      var_is : (v : ℕ) → v < vars + 1 → meaning (index_entry (var_text vars) ∷ scope) (var_text (vars + 1 - 1 - v)) ≡ Some (of_index v)
      var_is zero l = ap (λ d. meaning (index_entry (var_text vars) ∷ scope) (var_text d)) same_depth ∙ seen_first (index_entry (var_text vars)) scope
      var_is (suc v) l =
          ap (λ d. meaning (index_entry (var_text vars) ∷ scope) (var_text d)) (other_depth v l)
          ∙ seen_past (index_entry (var_text vars)) scope (var_text (vars - 1 - v)) (of_index v)
          (vars_differ (vars - 1 - v) vars (omega (arith, small)) small (apart v l)) (h.var_is v (omega (arith, l)))
          ∙ (λ j. Some (of_index (one v j)))

  -- one let more
  pub enter_let : (scope : Scope) (vars lets : ℕ) → lets < 2 ^ 64 → Named scope vars lets → Named (tensor_entry (let_text lets) ∷ scope) vars (lets + 1)
  enter_let scope vars lets small h = record {
    size_is = λ s l. seen_past (tensor_entry (let_text lets)) scope (size_text s) (of_size s) ((plain_sizes s l).no_let lets small) (h.size_is s l);
    var_is = λ v l. seen_past (tensor_entry (let_text lets)) scope (var_text (vars - 1 - v)) (of_index v) (var_let (vars - 1 - v) lets) (h.var_is v l);
    tensor_is = tensor_is;
  }
    where
      scope' : Scope
      scope' = tensor_entry (let_text lets) ∷ scope

      first_text : tensor_text size_text input_text (lets + 1) 0 ≡ let_text lets
      first_text = (λ j. if less j then let_text (depth j) else input_text (0 - (lets + 1)))
        where
          less : nat_lt 0 (lets + 1) ≡ true
          less = at lets
            where
              at : (n : ℕ) → nat_lt 0 (n + 1) ≡ true
              at n = grind arith

          depth : lets + 1 - 1 - 0 ≡ lets
          depth = omega arith

      other_text : (q : ℕ) → tensor_text size_text input_text (lets + 1) (suc q) ≡ tensor_text size_text input_text lets q
      other_text q = (λ j. if less q lets j then let_text (depth j) else input_text (number j))
        where
          less : (q n : ℕ) → nat_lt (suc q) (n + 1) ≡ nat_lt q n
          less q n = by (nat_lt (suc q) (n + 1)) (nat_lt q n) refl refl
            where
              by : (a b : Bool) → nat_lt (suc q) (n + 1) ≡ a → nat_lt q n ≡ b → a ≡ b
              by true true e f = refl
              by true false e f = absurd (grind arith)
              by false true e f = absurd (grind arith)
              by false false e f = refl

          depth : lets + 1 - 1 - suc q ≡ lets - 1 - q
          depth = omega arith

          number : suc q - (lets + 1) ≡ q - lets
          number = omega arith

      at : (q lets : ℕ) → nat_lt q lets ≡ false → lets ≤ q
      at q lets e = grind arith

      apart : (q : ℕ) → q < lets + inputs → bytes_eq (tensor_text size_text input_text lets q) (let_text lets) ≡ false
      apart q l = by (nat_lt q lets) refl
        where
          low : (q lets : ℕ) → nat_lt q lets ≡ true → q < lets
          low q lets e = grind arith

          by : (b : Bool) → nat_lt q lets ≡ b → bytes_eq (if b then let_text (lets - 1 - q) else input_text (q - lets)) (let_text lets) ≡ false
          by true e = lets_differ (lets - 1 - q) lets (omega (arith, small)) small (λ g. omega (arith, low q lets e, g))
          by false e = (plain_inputs (q - lets) (omega (arith, l, at q lets e))).no_let lets small

      one : (v : ℕ) → v + 1 ≡ suc v
      one v = omega arith

      tensor_is : (q : ℕ) → q < lets + 1 + inputs → meaning scope' (tensor_text size_text input_text (lets + 1) q) ≡ Some (of_tensor q)
      tensor_is zero l = ap (meaning scope') first_text ∙ seen_first (tensor_entry (let_text lets)) scope
      tensor_is (suc q) l =
          ap (meaning scope') (other_text q)
          ∙ seen_past (tensor_entry (let_text lets)) scope (tensor_text size_text input_text lets q) (of_tensor q) (apart q (omega (arith, l)))
          (h.tensor_is q (omega (arith, l)))
          ∙ (λ j. Some (of_tensor (one q j)))

  -- what the names read as
  pub size_reads : (scope : Scope) (vars lets s : ℕ) → Named scope vars lets → s < sizes → index_name scope (size_text s) ≡ Ok (size_form s)
  size_reads scope vars lets s h l = ap (if_known index_form) (h.size_is s l)

  pub var_reads : (scope : Scope) (vars lets v : ℕ) → Named scope vars lets → v < vars → index_name scope (var_text (vars - 1 - v)) ≡ Ok (var_form v)
  var_reads scope vars lets v h l = ap (if_known index_form) (h.var_is v l)

  pub extent_reads : (scope : Scope) (vars lets s : ℕ) → Named scope vars lets → s < sizes → extent_name scope (size_text s) ≡ Ok (size_form s)
  extent_reads scope vars lets s h l = ap (if_known size_form_of) (h.size_is s l)

  pub tensor_reads : (scope : Scope) (vars lets q : ℕ) → Named scope vars lets → q < lets + inputs
      → tensor_name scope (tensor_text size_text input_text lets q) ≡ Ok q
  tensor_reads scope vars lets q h l = ap (if_known tensor_number) (h.tensor_is q l)
