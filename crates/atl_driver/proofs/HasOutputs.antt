-- What is read has an output, and terms of few nodes that are not too deep.
use Rattle.std.proofs.Common.{◌≡◌, ◌≢◌, ◌≤◌, ◌==◌, ℕ, zero, suc, inl, inr, List, [], ◌∷◌, ap, Bool, true, false, subst, sym, arith, Result}
use Rattle.std.proofs.Common.{Ok}
use Rattle.std.specs.Prelude.{All}
use Rattle.text_tokens.specs.declared.kind.Kind.TheVariants as k
use Rattle.text_tokens.specs.Words.{Word, words_of}
use Rattle.term_tree.specs.Counts.{node_count, node_depth}
use Rattle.term_tree.specs.declared.term.Module.{Module}
use Rattle.term_tree.specs.declared.term.OutputDecl.{OutputDecl}
use Rattle.term_tree.specs.declared.term.SizeDecl.{SizeDecl}
use Rattle.term_tree.specs.declared.term.InputDecl.{InputDecl}
use Rattle.reader_laws.specs.declared.fault.Fault.{Fault}
use Rattle.reader_laws.specs.Chain.{signed}
use Rattle.reader_laws.specs.Grammar.{IsRepeated}
use Rattle.source_grammar.specs.Conditions.{with_last}
use Rattle.source_grammar.specs.Source.{AreMoreOutputs, AreOutputs, AreShallow, IsOutputLine, IsSource, SourceText, language, nodes}

some-last : (ds : List OutputDecl) (d : OutputDecl) → with_last ds d ≢ []
some-last [] d h = absurd (cc)
some-last (e ∷ es) d h = absurd (cc)

abbrev joins_to : List OutputDecl → Result (List OutputDecl) Fault
joins_to v = Ok v

same-list : (v w : List OutputDecl) → joins_to v ≡ joins_to w → v ≡ w
same-list v w h = cc

module _ (ds : List SizeDecl) (is : List InputDecl) where
  repeated-some : (n : ℕ) (left : List OutputDecl) (ws : List Word) (os : List OutputDecl) → left ≢ []
      → IsRepeated k.Output with_last (IsOutputLine ds is) n left ws os → os ≢ []
  unfolding signed
  repeated-some zero left ws os p r = subst (λ (l : List OutputDecl). l ≢ []) (sym r.1) p
  repeated-some (suc n) left ws os p (inl r) = subst (λ (l : List OutputDecl). l ≢ []) (sym r.1) p
  repeated-some (suc n) left ws os p (inr r) =
      repeated-some n r.value r.rest os
      (subst (λ (l : List OutputDecl). l ≢ []) (same-list (with_last left r.right) r.value r.joins) (some-last left r.right)) r.is_rest

  more-some : (one : Bool) (left : List OutputDecl) (ws : List Word) (os : List OutputDecl) → left ≢ [] → AreMoreOutputs one ds is left ws os → os ≢ []
  more-some true left ws os p r = subst (λ (l : List OutputDecl). l ≢ []) (sym r.1) p
  more-some false left ws os p r = repeated-some _ left ws os p r

  outputs-some : (version : ℕ) (ws : List Word) (os : List OutputDecl) → AreOutputs version ds is ws os → os ≢ []
  outputs-some version ws os r =
      more-some (version == 1) (r.is_then.value ∷ []) r.is_then.rest os (λ h. absurd (cc)) r.is_then.is_then

module-some : (version : ℕ) (ws : List Word) (m : Module) → IsSource version ws m → m.outputs ≢ []
module-some version ws m r =
    let sizes = r.is_then in
    let assumes = sizes.is_then in
    let example = assumes.is_then in
    let inputs = example.is_then in
    let outputs = inputs.is_then in
    subst (λ (l : List OutputDecl). l ≢ []) (sym (ap (λ (x : Module). x.outputs) outputs.is_then.1))
    (outputs-some sizes.value inputs.value version outputs.front outputs.value outputs.is_first)

-- a text has an output
pub source-some : (z : List ℕ) (m : Module) → SourceText z m → m.outputs ≢ []
source-some z m r = module-some m.version (words_of (language m.version) z) m r.words

-- each of the terms has few nodes where all have together
pub each-few : (os : List OutputDecl) (most : ℕ) → nodes os ≤ most → All (λ (o : OutputDecl). node_count o.term ≤ most) os
each-few [] most h k d lt = absurd (omega (arith, lt))
each-few (o ∷ os) most h zero d lt = omega (arith, h)
each-few (o ∷ os) most h (suc k) d lt = each-few os most (omega (arith, h)) k d (omega (arith, lt))

-- none of the terms is too deep
pub each-shallow : (os : List OutputDecl) → AreShallow os → All (λ (o : OutputDecl). node_depth o.term ≤ 200) os
each-shallow [] h k d lt = absurd (omega (arith, lt))
each-shallow (o ∷ os) h zero d lt = h.0
each-shallow (o ∷ os) h (suc k) d lt = each-shallow os h.1 k d (omega (arith, lt))
