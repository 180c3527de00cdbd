-- Inputs as tensors of their declared extents.
use Rattle.std.proofs.Common.{◌≡◌, ℕ, suc, ◌+◌, Bool, true, false, nat_eq, if◌then◌else◌, List, [], ◌∷◌, length, map, Option, Some, None, refl, arith}
use Rattle.std.proofs.lemmas.Bool.{eqb-true}
use Rattle.term_tree.specs.Modules.{AreInputs, extents_at}
use Rattle.term_tree.specs.Shaped.{flat, word_count}
use Rattle.term_tree.specs.declared.term.InputDecl.{InputDecl}
use Rattle.word_tensors.proofs.TensorLaws.{has-flat, has-shape, has-words}
use Rattle.plain_run.specs.Shapes.{EachWords, tensors_of, wrong_count}
use Rattle.plain_run.specs.declared.fault.PlainFault.{PlainFault}
use Rattle.plain_run.specs.declared.fault.PlainFault.TheVariants as f

fewer_by : (a b : ℕ) → suc a ≡ suc b → a ≡ b
fewer_by a b e = omega (arith, e)

pub are-inputs : (ds : List InputDecl) (s : List ℕ) (wss : List (List ℕ)) → length wss ≡ length ds → EachWords wss
    → AreInputs ds s (tensors_of (map (λ (d : InputDecl). extents_at d.extents s) ds) wss)
are-inputs [] s [] e h = tt
are-inputs [] s (ws ∷ wss) e h = tt
are-inputs (d ∷ ds) s [] e h = absurd (omega (arith, e))
are-inputs (d ∷ ds) s (ws ∷ wss) e h =
    (has-shape (extents_at d.extents s) ws, has-words (extents_at d.extents s) ws h.0, are-inputs ds s wss (fewer_by (length wss) (length ds) e) h.1)

same_first : (a b : ℕ) (xs ys : List ℕ) → a ∷ xs ≡ b ∷ ys → a ≡ b
same_first a b xs ys e = cc

same_rest : (a b : ℕ) (xs ys : List ℕ) → a ∷ xs ≡ b ∷ ys → xs ≡ ys
same_rest a b xs ys e = cc

-- their words, where they are as many as the extents say
pub their-words : (dss wss : List (List ℕ)) → map length wss ≡ map word_count dss → map flat (tensors_of dss wss) ≡ wss
their-words [] [] e = refl
their-words [] (ws ∷ wss) e = absurd cc
their-words (ds ∷ dss) [] e = absurd cc
their-words (ds ∷ dss) (ws ∷ wss) e =
    let here = has-flat ds ws (same_first _ _ _ _ e) in
    let rest = their-words dss wss (same_rest _ _ _ _ e) in
    λ i. here i ∷ rest i

none_wrong : (b : Bool) (k : PlainFault) (o : Option PlainFault) → (if b then o else Some k) ≡ None → (b ≡ true) × (o ≡ None)
none_wrong true k o h = (refl, h)
none_wrong false k o h = absurd cc

-- where no count is wrong, each is right
pub counts-right : (k : ℕ) (ns : List ℕ) (wss : List (List ℕ)) → wrong_count k ns wss ≡ None → length wss ≡ length ns → map length wss ≡ ns
counts-right k [] [] h l = refl
counts-right k (n ∷ ns) [] h l = absurd (omega (arith, l))
counts-right k [] (ws ∷ wss) h l = absurd (omega (arith, l))
counts-right k (n ∷ ns) (ws ∷ wss) h l =
    let p = none_wrong (nat_eq (length ws) n) (f.WrongCount k n (length ws)) (wrong_count (k + 1) ns wss) h in
    let here : length ws ≡ n = eqb-true (length ws) n p.0 in
    let rest = counts-right (k + 1) ns wss p.1 (fewer_by (length wss) (length ns) l) in
    λ i. here i ∷ rest i
