-- The tokens of an index are words that stand apart.
use Rattle.std.proofs.Common.{◌≡◌, ℕ, ◌-◌, ◌^◌, ◌<◌, ◌≤◌, List, [], ◌∷◌, Bool, true, false, nat_lt, if◌then◌else◌, Result}
use Rattle.std.proofs.Common.{Ok, Err, refl, ◌∙◌, arith}
use Rattle.std.specs.Prelude.{pos, negsuc}
use Rattle.text_tokens.specs.declared.kind.Kind.TheVariants as k
use Rattle.text_tokens.specs.declared.kind.Language.{Language}
use Rattle.text_tokens.specs.Kinds.{Text}
use Rattle.affine_index.specs.Form.{size_form, var_form}
use Rattle.affine_index.specs.Limited.{items_scoped}
use Rattle.affine_index.specs.Normal.{is_normal}
use Rattle.affine_index.specs.Quotient.{quotient_of, remainder_of}
use Rattle.affine_index.specs.Sum.{difference_of, sum_of}
use Rattle.affine_index.specs.declared.form.Items.{Items}
use Rattle.loop_lang.specs.declared.index.Iexp.{Iexp, Lit, Size, Loop}
use Rattle.loop_lang.specs.Syntax.{index_sum, index_difference, index_product, index_quotient, index_remainder, index_larger}
use Rattle.reader_laws.specs.declared.fault.Fault.{Fault}
use Rattle.reader_laws.specs.declared.fault.Fault.TheVariants.{UnknownName}
use Rattle.index_trees.specs.Tree.{index_tree}
use Rattle.source_grammar.specs.Limits.{multiplied, tested}
use Rattle.atl_printer.specs.ReadTree.{read_tree}
use Rattle.text_tokens.specs.Spelled.{Token, name_token, number_token, sign}
use Rattle.source_grammar.specs.Index.{Level, Sum, Product, Part}
use Rattle.atl_printer.specs.IndexTokens.{enclosed, index_tokens, is_looser}
use Rattle.atl_printer.specs.TermTokens.{var_text}
use Rattle.atl_printer.proofs.IndexSays.{divided_of, joined_of, literal-small}
use Rattle.text_tokens.proofs.Lexed.{IsToken}
use Rattle.text_tokens.proofs.Solid.{Solid, solid_between, solid_one, solid_parens}
use Rattle.atl_printer.proofs.TreeReads.{tree-reads}
use Rattle.text_tokens.proofs.SourceWords.{IsSourceLanguage, number_is, sign_is, var_token}

module _ (language : Language) (source : IsSourceLanguage language) where
  abbrev Fine : List Token → Type 0
  Fine = Solid language

  pub solid_enclosed : (b : Bool) (ts : List Token) → Fine ts → Fine (enclosed b ts)
  solid_enclosed true ts h = solid_parens language source ts h
  solid_enclosed false ts h = h

  -- ---- indices

  module _ (size_text : ℕ → Text) (sizes : ℕ) (size_tokens : (s : ℕ) → s < sizes → IsToken language (name_token (size_text s))) (loops : ℕ) where
    -- the names that are there
    abbrev size_value : ℕ → Result Items Fault
    size_value s = if nat_lt s sizes then Ok (size_form s) else Err UnknownName

    abbrev loop_value : ℕ → Result Items Fault
    loop_value d = if nat_lt d 1000 then Ok (var_form (loops - 1 - d)) else Err UnknownName

    abbrev reads : Iexp → Result Items Fault
    reads = read_tree size_value loop_value

    below : (n m : ℕ) → nat_lt n m ≡ true → n < m
    below n m h = grind arith

    below_is : (n m : ℕ) → n < m → nat_lt n m ≡ true
    below_is n m h = grind arith

    if_there : (b : Bool) (x y : Items) → (if b then Ok y else Err UnknownName) ≡ Ok x → b ≡ true
    if_there true x y h = refl
    if_there false x y h = absurd (cc)

    number_solid : (n : ℕ) → n < 2 ^ 64 → Fine (number_token n ∷ [])
    number_solid n h = solid_one language source (number_token n) refl refl (number_is language source n h)

    index_solid : (t : Iexp) (x : Items) (place : Level) → reads t ≡ Ok x → Fine (index_tokens size_text var_text t place)
    index_solid (Lit (pos n)) x place h = number_solid n (literal-small n x h)
    index_solid (Lit (negsuc n)) x place h = absurd (cc)
    index_solid (Size s) x place h = solid_one language source (name_token (size_text s)) refl refl
        (size_tokens s (below s sizes (if_there (nat_lt s sizes) x (size_form s) h)))
    index_solid (Loop d) x place h = let small = below d 1000 (if_there (nat_lt d 1000) x (var_form (loops - 1 - d)) h) in solid_one language source
        (name_token (var_text d)) refl refl (var_token language source d (omega (arith, small)))
    index_solid (index_sum a b) x place h =
        let j = joined_of (λ x y. tested (sum_of x y)) (reads a) (reads b) x h in
        solid_enclosed (is_looser Sum place) _ (solid_between language source _ (sign k.Plus) _ (index_solid a j.left Sum j.is_left)
        (sign_is language source k.Plus refl refl) (index_solid b j.right Product j.is_right))
    index_solid (index_difference a b) x place h =
        let j = joined_of (λ x y. tested (difference_of x y)) (reads a) (reads b) x h in
        solid_enclosed (is_looser Sum place) _ (solid_between language source _ (sign k.Minus) _ (index_solid a j.left Sum j.is_left)
        (sign_is language source k.Minus refl refl) (index_solid b j.right Product j.is_right))
    index_solid (index_product a b) x place h =
        let j = joined_of multiplied (reads a) (reads b) x h in
        solid_enclosed (is_looser Product place) _ (solid_between language source _ (sign k.Star) _ (index_solid a j.left Product j.is_left)
        (sign_is language source k.Star refl refl) (index_solid b j.right Part j.is_right))
    index_solid (index_quotient a d) x place h =
        let j = divided_of (λ x. tested (quotient_of x d)) (reads a) d x h in
        solid_enclosed (is_looser Product place) _ (solid_between language source _ (sign k.Slash) (number_token d ∷ [])
        (index_solid a j.left Product j.is_left) (sign_is language source k.Slash refl refl) (number_solid d (omega (arith, j.most))))
    index_solid (index_remainder a d) x place h =
        let j = divided_of (λ x. tested (remainder_of x d)) (reads a) d x h in
        solid_enclosed (is_looser Product place) _ (solid_between language source _ (sign k.Percent) (number_token d ∷ [])
        (index_solid a j.left Product j.is_left) (sign_is language source k.Percent refl refl) (number_solid d (omega (arith, j.most))))
    index_solid (index_larger a b) x place h = absurd (cc)

    -- the tokens of a form are words that stand apart
    pub form_solid : loops ≤ 1000 → (x : Items) → is_normal x ≡ true → items_scoped sizes loops x ≡ true
        → Fine (index_tokens size_text var_text (index_tree loops x) Sum)
    form_solid most x n g =
        index_solid (index_tree loops x) x Sum
        (tree-reads size_value loop_value loops sizes (λ s l. λ j. if below_is s sizes l j then Ok (size_form s) else Err UnknownName)
        (λ v l. (λ j. if below_is (loops - 1 - v) 1000 (omega (arith, l, most)) j then Ok (var_form (loops - 1 - (loops - 1 - v))) else Err UnknownName)
        ∙ (λ j. Ok (var_form (back v l j)))) x n g)
      where
        back : (v : ℕ) → v < loops → loops - 1 - (loops - 1 - v) ≡ v
        back v l = omega (arith, l)
