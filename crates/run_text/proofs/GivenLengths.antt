-- A given text gives one number for each size and one list of words for each input.
use Rattle.std.proofs.Common.{◌≡◌, ◌∙◌, ℕ, suc, List, [], ◌∷◌, length, ap}
use Rattle.text_tokens.specs.Kinds.{Text}
use Rattle.text_tokens.specs.Words.{Word}
use Rattle.loop_run.specs.declared.given.Given.{Given}
use Rattle.given_text.specs.Given.{AreInputs, AreSizes, GivenText}

many-sizes : (ts : List Text) (ws : List Word) (ns : List ℕ) → AreSizes ts ws ns → length ns ≡ length ts
many-sizes [] ws ns h = ap (length {A = ℕ}) h.1
many-sizes (t ∷ ts) ws ns h =
    let rest = h.is_then in
    ap (length {A = ℕ}) rest.is_then.1 ∙ ap suc (many-sizes ts rest.front rest.value rest.is_first)

many-inputs : (ts : List Text) (ws : List Word) (ns : List (List ℕ)) → AreInputs ts ws ns → length ns ≡ length ts
many-inputs [] ws ns h = ap (length {A = List ℕ}) h.1
many-inputs (t ∷ ts) ws ns h =
    let rest = h.is_then in
    ap (length {A = List ℕ}) rest.is_then.1 ∙ ap suc (many-inputs ts rest.front rest.value rest.is_first)

pub given-sizes : (ss is : List Text) (z : Text) (g : Given) → GivenText ss is z g → length g.sizes ≡ length ss
given-sizes ss is z g h =
    let given = h.1 in
    ap (λ (x : Given). length x.sizes) given.is_then.is_then.1 ∙ many-sizes ss given.front given.value given.is_first

pub given-inputs : (ss is : List Text) (z : Text) (g : Given) → GivenText ss is z g → length g.inputs ≡ length is
given-inputs ss is z g h =
    let given = h.1 in
    let rest = given.is_then in
    ap (λ (x : Given). length x.inputs) rest.is_then.1 ∙ many-inputs is rest.front rest.value rest.is_first
