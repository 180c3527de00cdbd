-- Bytes: what is read is the module of the text, and the other way round.
use Rattle.std.proofs.Common.{◌≡◌, ◌⊎◌, ℕ, ◌≤◌, ◌<◌, ◌+◌, nat_lt, Bool, true, false, cond, List, [], ◌∷◌, length, Option, Some, None, Result, Ok, Err}
use Rattle.std.proofs.Common.{refl, sym, ap, subst, ◌∙◌, arith}
use Rattle.std.specs.Prelude.{IfOk, min, ◌-◌, ◌^◌}
use Rattle.std.specs.Str.{IsUtf8, is_utf8}
use Rattle.std.specs.Str.Lossy.{utf8_valid_len}
use Rattle.std.proofs.lemmas.Str.{IsUtf8-from_is_utf8, is_utf8-from_IsUtf8}
use Rattle.text_tokens.specs.Kinds.{Text}
use Rattle.text_tokens.specs.Words.{words_of}
use Rattle.term_tree.specs.Counts.{node_depth}
use Rattle.term_tree.specs.declared.term.OutputDecl.{OutputDecl}
use Rattle.term_tree.specs.declared.term.Module.{Module}
use Rattle.reader_laws.specs.declared.fault.ReadError.{ReadError}
use Rattle.reader_laws.specs.Steps.{read_whole}
use Rattle.source_grammar.specs.ReadSource.{source}
use Rattle.source_grammar.specs.Source.{AreShallow, IsSource, SourceText, language, nodes}
use Rattle.source_grammar.proofs.ModuleLaws.{source_found, source_read}
use Rattle.source_grammar.proofs.ScopedModules.{source_scoped}
use Rattle.term_tree.specs.Modules.{module_scoped}
use Rattle.atl_reader.specs.declared.fault.ReadFault.{ReadFault}
use Rattle.atl_reader.specs.declared.fault.ReadFault.TheVariants.{NotUtf8, TooManyNodes}
use Rattle.atl_reader.specs.Source.{Answers, checked, declarations, deep_from, read_source, read_text, version_of, within}
use Rattle.atl_reader.proofs.FewLaws.{declarations_few, example_whole}
use Rattle.atl_reader.proofs.Versions.{named, one_or_two, version_is}

pub by_cases : (z : Text) (b : Bool) → is_utf8 z ≡ b → read_source z ≡ cond b (read_text (version_of z) z) (Err (NotUtf8 (utf8_valid_len z)))
unfolding read_source
by_cases z b e = ap (λ (v : Bool). cond v (read_text (version_of z) z) (Err (NotUtf8 (utf8_valid_len z)))) e

pub text_answers : (z t : Text) (r : Result Module ReadFault) → (t ≡ z) × IsUtf8 z → Answers r (read_text (version_of t) t) → Answers r (read_source z)
text_answers z t r e h =
    subst (λ (o : Result Module ReadFault). Answers r o) (ap (λ (y : Text). read_text (version_of y) y) e.0 ∙ sym (by_cases z true (is_utf8-from_IsUtf8 z e.1)))
    h

no_text : (z : Text) → ¬ (IsUtf8 z) → is_utf8 z ≡ false
no_text z bad = go (is_utf8 z) refl
  where
    go : (b : Bool) → is_utf8 z ≡ b → is_utf8 z ≡ false
    go true e = absurd (bad (IsUtf8-from_is_utf8 z e))
    go false e = e

pub bytes_answer : (z : Text) (n : ℕ) → ¬ (IsUtf8 z) → n ≡ utf8_valid_len z → read_source z ≡ Err (NotUtf8 n)
bytes_answer z n bad e = by_cases z false (no_text z bad) ∙ ap (λ (m : ℕ). Err (NotUtf8 m)) (sym e)

-- ---- the limits of whole terms

shallow_by : (d : OutputDecl) (ds : List OutputDecl) (at : ℕ) (b : Bool) → nat_lt 200 (node_depth d.term) ≡ b → (deep_from (at + 1) ds ≡ None → AreShallow ds)
    → cond b (Some at) (deep_from (at + 1) ds) ≡ None → AreShallow (d ∷ ds)
shallow_by d ds at true e again h = absurd cc
shallow_by d ds at false e again h = (grind arith, again h)

pub shallow_is : (at : ℕ) (ds : List OutputDecl) → deep_from at ds ≡ None → AreShallow ds
shallow_is at [] h = tt
shallow_is at (d ∷ ds) h = shallow_by d ds at (nat_lt 200 (node_depth d.term)) refl (λ g. shallow_is (at + 1) ds g) h

not_deep : (n : ℕ) → n ≤ 200 → nat_lt 200 n ≡ false
not_deep n h = grind arith

pub none_deep : (at : ℕ) (ds : List OutputDecl) → AreShallow ds → deep_from at ds ≡ None
none_deep at [] h = refl
none_deep at (d ∷ ds) h = ap (λ b. cond b (Some at) (deep_from (at + 1) ds)) (not_deep (node_depth d.term) h.0) ∙ none_deep (at + 1) ds h.1

few_lt : (n : ℕ) → n ≤ 20000 → nat_lt 20000 n ≡ false
few_lt n h = grind arith

lt_few : (n : ℕ) → nat_lt 20000 n ≡ false → n ≤ 20000
lt_few n h = grind arith

abbrev answer : Module → Result Module ReadFault
answer m = Ok m

same_answer : (m n : Module) → answer m ≡ answer n → m ≡ n
same_answer m n h = cc

-- ---- both ways

record Kept (m : Module) (x : Module) : Type 0 where
  same : m ≡ x
  shallow : AreShallow m.outputs
  few : nodes m.outputs ≤ 20000

kept_nodes : (m x : Module) (b : Bool) (e : ReadFault) → nat_lt 20000 (nodes m.outputs) ≡ b → AreShallow m.outputs
    → cond b (let r : Result Module ReadFault = Err e in r) (Ok m) ≡ Ok x → Kept m x
kept_nodes m x true e is s h = absurd cc
kept_nodes m x false e is s h = record { same = same_answer m x h; shallow = s; few = lt_few (nodes m.outputs) is }

kept : (version : ℕ) (z : Text) (m x : Module) (o : Option ℕ) → deep_from 0 m.outputs ≡ o → within o version z m ≡ Ok x → Kept m x
kept version z m x (Some n) e h = absurd cc
kept version z m x None e h = kept_nodes m x (nat_lt 20000 (nodes m.outputs)) (TooManyNodes (min (nodes m.outputs) (2 ^ 64 - 1))) refl
    (shallow_is 0 m.outputs e) h

text_kept : (version : ℕ) (z : Text) (x : Module) (r : Result Module ReadError) → read_whole (language version) (source version) z ≡ r
    → checked version z r ≡ Ok x
    → IsSource version (words_of (language version) z) x × (AreShallow x.outputs × (nodes x.outputs ≤ 20000))
text_kept version z x (Err e) is h = absurd cc
text_kept version z x (Ok m) is h =
    let v = kept version z m x (deep_from 0 m.outputs) refl h in (
      subst (λ (n : Module). IsSource version (words_of (language version) z) n) v.same (source_found version z m is),
      (subst (λ (n : Module). AreShallow n.outputs) v.same v.shallow, subst (λ (n : Module). nodes n.outputs ≤ 20000) v.same v.few),
    )

source_of : (z : Text) (m : Module) → IsUtf8 z → read_text (version_of z) z ≡ Ok m → SourceText z m
unfolding read_text
source_of z m u h =
    let p = text_kept (version_of z) z m (read_whole (language (version_of z)) (source (version_of z)) z) refl h in
    let v = version_is (version_of z) (words_of (language (version_of z)) z) m p.0 in
    record {
      utf8 = u;
      version = subst (λ n. (n ≡ 1) ⊎ (n ≡ 2)) (sym v) (one_or_two z);
      words = subst (λ n. IsSource n (words_of (language n) z) m) (sym v) p.0;
      shallow = p.1.0;
      few = p.1.1;
    }

no_module : (e : ReadFault) (m : Module) → (let r : Result Module ReadFault = Err e in r) ≡ Ok m → ⊥
no_module e m h = cc

source_is : (z : Text) (m : Module) → read_source z ≡ Ok m → SourceText z m
source_is z m h = go (is_utf8 z) refl
  where
    go : (b : Bool) → is_utf8 z ≡ b → SourceText z m
    go true e = source_of z m (IsUtf8-from_is_utf8 z e) (sym (by_cases z true e) ∙ h)
    go false e = absurd (no_module (NotUtf8 (utf8_valid_len z)) m (sym (by_cases z false e) ∙ h))

text_read : (version : ℕ) (z : Text) (m : Module) → IsSource version (words_of (language version) z) m → AreShallow m.outputs → nodes m.outputs ≤ 20000
    → read_text version z ≡ Ok m
unfolding read_text
text_read version z m is s f =
    ap (checked version z) (source_read version z m is)
    ∙ ap (λ (o : Option ℕ). within o version z m) (none_deep 0 m.outputs s)
    ∙ ap (λ (b : Bool). cond b (let r : Result Module ReadFault = Err (TooManyNodes (min (nodes m.outputs) (2 ^ 64 - 1))) in r) (Ok m))
    (few_lt (nodes m.outputs) f)

pub source_only : (z : Text) (m : Module) → SourceText z m → read_source z ≡ Ok m
source_only z m is =
    let v = named m.version z m is.version is.words in
    by_cases z true (is_utf8-from_IsUtf8 z is.utf8) ∙ ap (λ n. read_text n z) v ∙ text_read m.version z m is.words is.shallow is.few

pub found : (z : Text) (r : Result Module ReadFault) → Answers r (read_source z) → IfOk r (λ m. SourceText z m)
found z (Ok m) h = source_is z m h
found z (Err e) h = tt

pub only : (z : Text) (r : Result Module ReadFault) (m : Module) → Answers r (read_source z) → SourceText z m → Answers r (Ok m)
only z r m h is = subst (λ (o : Result Module ReadFault). Answers r o) (source_only z m is) h

pub scoped_found : (z : Text) (r : Result Module ReadFault) → Answers r (read_source z) → IfOk r (λ m. module_scoped m ≡ true)
scoped_found z (Ok m) h = let is = source_is z m h in source_scoped m.version (words_of (language m.version) z) m is.words
scoped_found z (Err e) h = tt

pub few_found : (z : Text) (r : Result Module ReadFault) → Answers r (read_source z) → IfOk r (λ m. declarations m < length z)
few_found z (Ok m) h = declarations_few z m (source_is z m h)
few_found z (Err e) h = tt

pub example_found : (z : Text) (r : Result Module ReadFault) → Answers r (read_source z) → IfOk r (λ m. length m.example ≡ length m.sizes)
example_found z (Ok m) h = example_whole z m (source_is z m h)
example_found z (Err e) h = tt
